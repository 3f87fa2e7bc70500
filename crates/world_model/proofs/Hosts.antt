-- Events of no connection: a call of the host's kernel, and whether the world is still.
use Rattle.std.proofs.Common.{ℕ, Bool, true, false, List, length, Option, Some, None, refl}
use Rattle.std.specs.Prelude.{if◌then◌else◌}
use Rattle.sp_base.specs.declared.names.Caller.{Caller}
use Rattle.sp_base.specs.declared.names.ConnNo.{ConnNo}
use Rattle.sp_base.specs.declared.names.Pid.{Pid}
use Rattle.sp_copy.specs.declared.part.Part.{Part}
use Rattle.kern_model.specs.declared.journal.Entry.{Entry}
use Rattle.kern_model.specs.declared.operation.Op.{Op}
use Rattle.world_model.specs.Host.{host_by, host_entry, host_if, may_ask, read_for, seen_at}
use Rattle.world_model.specs.Machine.{played}
use Rattle.world_model.specs.Run.{History}
use Rattle.world_model.specs.Still.{is_still}
use Rattle.world_model.specs.declared.event.Event.{Event}
use Rattle.world_model.specs.declared.event.Event.TheVariants as event
use Rattle.world_model.specs.declared.event.Reply.{Reply}
use Rattle.world_model.specs.declared.event.Reply.TheVariants as reply
use Rattle.world_model.proofs.Kept.{Goes, Kept}
use Rattle.world_model.proofs.Slices.{Rests, closed_goes, host_rests, rests_goes}

module _ (h : History) (c : ConnNo) (guest : ℕ) (caller : Caller) (pid : Pid) (operation : Op) (mem : List Part) (kept : Kept h) where
  abbrev happens : Event
  happens = event.Host guest caller pid operation mem

  by_entry : (next : Option Entry) → Goes h c happens (host_by h.world guest caller pid operation mem next)
  by_entry None = host_rests h c happens (reply.HostWaits mem) _ _ _ kept
      (record { quiet = λ d. record { asks = λ n. refl; tells = λ n. refl }; fine = tt; lost = λ d e. absurd (cc) })
  by_entry (Some e) = host_rests h c happens (reply.Hosted (seen_at (length h.world.host) e mem).0 (seen_at (length h.world.host) e mem).1) _ _ _ kept
      (record { quiet = λ d. record { asks = λ n. refl; tells = λ n. refl }; fine = tt; lost = λ d e. absurd (cc) })

  by_test : (b : Bool) → Goes h c happens (host_if h.world guest caller pid operation mem b)
  by_test false = closed_goes h c happens kept
  by_test true = by_entry (host_entry h.world guest pid operation (read_for operation mem))

  -- a call of the host's kernel concerns no connection
  pub host_goes : (memory : Bool) → Goes h c happens (played memory h.world happens)
  host_goes memory = by_test (may_ask h.world pid operation)

-- nor does it to ask whether the world is still
pub give_up_goes : (memory : Bool) (h : History) (c : ConnNo) → Kept h → Goes h c event.GiveUp (played memory h.world event.GiveUp)
give_up_goes memory h c kept = by_still (is_still h.world)
  where
    rests : (answer : Reply) → Rests h event.GiveUp answer → Goes h c event.GiveUp (answer, h.world)
    rests answer r = rests_goes h c event.GiveUp answer kept r

    by_still : (b : Bool) → Goes h c event.GiveUp (if b then reply.Still else reply.NotStill, h.world)
    by_still true = rests reply.Still (record { quiet = λ d. record { asks = λ n. refl; tells = λ n. refl }; fine = tt; lost = λ d e. absurd (cc) })
    by_still false = rests reply.NotStill (record { quiet = λ d. record { asks = λ n. refl; tells = λ n. refl }; fine = tt; lost = λ d e. absurd (cc) })
