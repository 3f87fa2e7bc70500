-- When nothing moves any more by itself.
use Rattle.std.specs.Prelude.{ℕ, ◌&&◌, not, Bool, true, false, List, [], ◌∷◌}
use Rattle.std.specs.FinMap.{entries}
use Rattle.std.specs.List.{list_any}
use Rattle.hub_model.specs.Machine as server
use Rattle.hub_model.specs.Sound.{is_waiting}
use Rattle.hub_model.specs.State.{Connection, Machine}
use Rattle.hub_model.specs.declared.event.Event.TheVariants.{Work}
use Rattle.hub_model.specs.declared.event.Reply.{Reply}
use Rattle.hub_model.specs.declared.event.Reply.TheVariants as reply
use Rattle.client_model.specs.Run.{has_no_frame, is_still as is_client_still}
use Rattle.world_model.specs.Host.{is_ready}
use Rattle.world_model.specs.State.{Link, World}

-- no frame is under way
abbrev pub is_empty_link : Link → Bool
is_empty_link l = has_no_frame l.up && has_no_frame l.down

-- the kernel isn't ready for a call
abbrev pub is_not_ready : Reply → Bool
is_not_ready reply.NotReady = true
is_not_ready _ = false

-- the call of a number would wait, were it worked
abbrev pub would_wait : Machine → ℕ → ℕ → Bool
would_wait m c n = is_not_ready (server.played true m (Work (record { 0 = c }) (record { 0 = n }))).0

-- each call of a connection that isn't performed yet would wait
abbrev pub all_wait : Machine → ℕ → Connection → Bool
all_wait m c x = not (list_any (λ call. is_waiting call.1 && not (would_wait m c call.0)) (entries x.calls))

-- nothing of a connection goes on at the server
abbrev pub is_quiet : Machine → ℕ → Connection → Bool
is_quiet m c x = has_no_frame x.queue && all_wait m c x

-- no frame is under way or queued, no call that waits at the server could go on, no answer is to be collected, and no host call that waits
-- could go on
abbrev pub is_still : World → Bool
is_still w =
    not (list_any (λ l. not (is_empty_link l.1)) (entries w.links))
    && not (list_any (λ x. not (is_quiet w.rump x.0 x.1)) (entries w.rump.connections))
    && not (list_any (λ k. not (is_client_still k.1)) (entries w.clients))
    && not (list_any (λ call. is_ready w call) w.waiting)
