-- A connection drains, ends or opens, and the server halts.
use Rattle.std.proofs.Common.{◌≡◌, ℕ, Bool, true, false, cond, List, [], ◌∷◌, ◌++◌, Option, Some, None, refl, sym, ◌∙◌, subst, arith, append-nil, append_assoc}
use Rattle.std.specs.Ordering.{nat_cmp}
use Rattle.std.specs.FinMap.{empty, remove, get-empty}
use Rattle.std.proofs.lemmas.Bool.{ltb-true}
use Rattle.sp_base.specs.declared.names.ConnNo.{ConnNo}
use Rattle.sp_base.specs.declared.names.ReqNo.{ReqNo}
use Rattle.sp_base.specs.declared.names.SpError.TheVariants as error
use Rattle.sp_frames.specs.declared.frame.Frame.{Frame}
use Rattle.hub_model.specs.Cookies.{ledger_of}
use Rattle.hub_model.specs.Ends.{close, drain, draining, end_at, end_by, gone, left_by, lose_at}
use Rattle.hub_model.specs.Frames.{last_error}
use Rattle.hub_model.specs.Machine.{is_new}
use Rattle.hub_model.specs.Sound.{IsOpened}
use Rattle.hub_model.specs.State.{Connection, Machine, Played, fresh_connection, is_draining, process_in, with_connection}
use Rattle.hub_model.specs.declared.event.Event.{Event}
use Rattle.hub_model.specs.declared.event.Event.TheVariants as event
use Rattle.hub_model.specs.declared.event.Finish.{Finish}
use Rattle.hub_model.specs.declared.event.Finish.TheVariants as finish
use Rattle.hub_model.specs.declared.event.Reply.{Reply}
use Rattle.hub_model.specs.declared.event.Reply.TheVariants as reply
use Rattle.hub_model.specs.declared.state.Condition.{Condition}
use Rattle.hub_model.specs.declared.state.Condition.TheVariants as condition
use Rattle.tables.proofs.Maps.{get_gone, get_gone_other, get_put, get_put_other}
use Rattle.hub_law.specs.Frames.{is_last_error}
use Rattle.hub_law.proofs.Keys.{grows_same}
use Rattle.hub_law.proofs.Kept.{Frames, Happens, IsQuiet, Kept, Moves, frame_kept, put_moves, quiet_kept, unchanged}
use Rattle.hub_law.proofs.Lanes.{GrowsPast, Lane, Rests, Speaks, rests_cut, rests_last, speaks_rests}
use Rattle.hub_law.proofs.Lanes.Aside.{Same}
use Rattle.hub_law.proofs.Lanes.Lane.{Alive, Drains, Over, Unopened}
use Rattle.hub_law.proofs.Ledgers.{Lodges, forks_fewer, left_lodges}

-- ---- what goes with a connection

pub last_is_last : (r : ReqNo) (kind : Option ℕ) → is_last_error (last_error r kind).body ≡ true
last_is_last r (Some kind) = refl
last_is_last r None = refl

module _ (m : Machine) (came sent : Frames) (kept : Kept m came sent) (c : ConnNo) (x : Connection) where
  -- what the connection leaves
  leaves : Lodges (ledger_of m) (left_by (ledger_of m) c (process_in x.condition))
  leaves = left_lodges (ledger_of m) c (process_in x.condition)

  -- the journal grows by no request's entry
  past : (d : ConnNo) → GrowsPast d m.journal (gone m c x).journal
  past d r = leaves.grows d r

  drain_moves : (f : Frame) → Moves m (with_connection (gone m c x) c (draining x f)) c (Some (draining x f))
  drain_moves f = put_moves m c (draining x f) (gone m c x).journal (gone m c x).cookies (gone m c x).handovers (λ d ne r. leaves.grows d r)
      (forks_fewer m.journal (gone m c x).journal m.cookies (gone m c x).cookies (leaves.grows c (record { 0 = 0 })).stays leaves.fewer kept.forks)

  -- the connection drains: a frame may have come
  drain_lane : (more : List Frame) (f : Frame) → is_last_error f.body ≡ true → IsOpened m.opened c.0 → Speaks c x.last x.calls (came c) (sent c ++ x.queue) m.journal
      → Lane c m.opened (Some (draining x f)) (came c ++ more) (sent c) (gone m c x).journal
  drain_lane more f is o s = Drains (draining x f) refl refl (λ n. get-empty nat_cmp n) o
      (subst (λ (fs : List Frame). Rests c (came c ++ more) fs (gone m c x).journal) (append_assoc (sent c) x.queue (f ∷ []))
      (rests_last c x.last x.calls (came c) more (sent c ++ x.queue) f m.journal (gone m c x).journal (past c) is s))

  -- a frame is malformed
  pub malformed_kept : (g : Frame) (salt : ℕ) (f : Frame) → is_last_error f.body ≡ true → IsOpened m.opened c.0 → Speaks c x.last x.calls (came c) (sent c ++ x.queue) m.journal
      → Happens (event.Frame c g salt) came sent (drain (reply.Refused error.Malformed) m c x f)
  malformed_kept g salt f is o s = frame_kept m (with_connection (gone m c x) c (draining x f)) c (Some (draining x f)) came sent g salt (reply.Refused error.Malformed) kept refl
      (drain_moves f) (drain_lane (g ∷ []) f is o s)

  ended_quiet : (how : Finish) (answer : Reply) → IsQuiet (event.Ended c how) answer
  ended_quiet how answer = record { none_in = λ d. refl; none_out = λ d. refl }

  -- the input ends at bytes that are no frame
  bad_kept : (how : Finish) (f : Frame) → is_last_error f.body ≡ true → IsOpened m.opened c.0 → Speaks c x.last x.calls (came c) (sent c ++ x.queue) m.journal
      → Happens (event.Ended c how) came sent (drain reply.Nothing m c x f)
  bad_kept how f is o s = quiet_kept m (with_connection (gone m c x) c (draining x f)) c (Some (draining x f)) came sent (event.Ended c how) reply.Nothing kept (ended_quiet how reply.Nothing)
      (drain_moves f)
      (subst (λ (fs : List Frame). Lane c m.opened (Some (draining x f)) fs (sent c) (gone m c x).journal) (append-nil (came c)) (drain_lane [] f is o s))

  -- the connection is over
  close_kept : (happens : Event) → IsQuiet happens reply.Nothing → IsOpened m.opened c.0 → Rests c (came c) (sent c ++ x.queue) m.journal → Happens happens came sent (close m c x)
  close_kept happens quiet o h =
      let m' : Machine = record (gone m c x) { connections = remove m.connections c.0 } in
      quiet_kept m m' c None came sent happens reply.Nothing kept quiet
      (record {
        here = get_gone m.connections c.0;
        others = λ d ne. Same (get_gone_other m.connections c.0 d.0 ne);
        opened = λ n o. o;
        grows = λ d ne r. leaves.grows d r;
        forks = forks_fewer m.journal m'.journal m.cookies m'.cookies (leaves.grows c (record { 0 = 0 })).stays leaves.fewer kept.forks;
      })
      (Over refl o (rests_cut c (came c) (sent c) x.queue m.journal m'.journal (past c) h))

  end_kept : (s : Condition) (how : Finish) → IsOpened m.opened c.0 → Rests c (came c) (sent c ++ x.queue) m.journal
      → (is_draining s ≡ false → Speaks c x.last x.calls (came c) (sent c ++ x.queue) m.journal) → Happens (event.Ended c how) came sent (end_by m c x s how)
  end_kept (condition.Live pid) (finish.Bad fault) o h s = bad_kept (finish.Bad fault) (last_error (record { 0 = 0 }) None) refl o (s refl)
  end_kept (condition.Live pid) finish.Clean o h s = close_kept (event.Ended c finish.Clean) (ended_quiet finish.Clean reply.Nothing) o h
  end_kept (condition.Live pid) finish.Inside o h s = close_kept (event.Ended c finish.Inside) (ended_quiet finish.Inside reply.Nothing) o h
  end_kept condition.Fresh how o h s = close_kept (event.Ended c how) (ended_quiet how reply.Nothing) o h
  end_kept (condition.InExec pid) how o h s = close_kept (event.Ended c how) (ended_quiet how reply.Nothing) o h
  end_kept condition.Left how o h s = close_kept (event.Ended c how) (ended_quiet how reply.Nothing) o h
  end_kept condition.Draining how o h s = close_kept (event.Ended c how) (ended_quiet how reply.Nothing) o h

  lose_kept : IsOpened m.opened c.0 → Rests c (came c) (sent c ++ x.queue) m.journal → Happens (event.Lost c) came sent (close m c x)
  lose_kept o h = close_kept (event.Lost c) (record { none_in = λ d. refl; none_out = λ d. refl }) o h

end_none : (m : Machine) (came sent : Frames) (c : ConnNo) (how : Finish) (now : Option Connection) → now ≡ None → Kept m came sent → Happens (event.Ended c how) came sent (end_at m c how now)
end_none m came sent c how None none kept = unchanged m came sent (event.Ended c how) reply.Closed kept (record { none_in = λ d. refl; none_out = λ d. refl })
end_none m came sent c how (Some x) none kept = absurd (cc)

-- the input of a connection ends
pub ends : (m : Machine) (came sent : Frames) (c : ConnNo) (how : Finish) (now : Option Connection) → Kept m came sent → Lane c m.opened now (came c) (sent c) m.journal
    → Happens (event.Ended c how) came sent (end_at m c how now)
ends m came sent c how now kept (Unopened none s) = end_none m came sent c how now none kept
ends m came sent c how now kept (Over none o h) = end_none m came sent c how now none kept
ends m came sent c how now kept (Alive x here live o s) =
    subst (λ (now : Option Connection). Happens (event.Ended c how) came sent (end_at m c how now)) (sym here)
    (end_kept m came sent kept c x x.condition how o (speaks_rests c x.last x.calls (came c) (sent c ++ x.queue) m.journal s) (λ _. s))
ends m came sent c how now kept (Drains x here drains silent o h) =
    subst (λ (now : Option Connection). Happens (event.Ended c how) came sent (end_at m c how now)) (sym here)
    (end_kept m came sent kept c x x.condition how o h (λ live. absurd (let k : true ≡ false = sym drains ∙ live in cc)))

lose_none : (m : Machine) (came sent : Frames) (c : ConnNo) (now : Option Connection) → now ≡ None → Kept m came sent → Happens (event.Lost c) came sent (lose_at m c now)
lose_none m came sent c None none kept = unchanged m came sent (event.Lost c) reply.Closed kept (record { none_in = λ d. refl; none_out = λ d. refl })
lose_none m came sent c (Some x) none kept = absurd (cc)

-- the link of a connection is lost
pub loses : (m : Machine) (came sent : Frames) (c : ConnNo) (now : Option Connection) → Kept m came sent → Lane c m.opened now (came c) (sent c) m.journal
    → Happens (event.Lost c) came sent (lose_at m c now)
loses m came sent c now kept (Unopened none s) = lose_none m came sent c now none kept
loses m came sent c now kept (Over none o h) = lose_none m came sent c now none kept
loses m came sent c now kept (Alive x here live o s) =
    subst (λ (now : Option Connection). Happens (event.Lost c) came sent (lose_at m c now)) (sym here)
    (lose_kept m came sent kept c x o (speaks_rests c x.last x.calls (came c) (sent c ++ x.queue) m.journal s))
loses m came sent c now kept (Drains x here drains silent o h) =
    subst (λ (now : Option Connection). Happens (event.Lost c) came sent (lose_at m c now)) (sym here) (lose_kept m came sent kept c x o h)

-- ---- opening

-- a number that was opened isn't new
not_new : (opened : Option ℕ) (n : ℕ) → is_new opened n ≡ true → IsOpened opened n → ⊥
not_new None n new o = absurd o
not_new (Some highest) n new o = let lt = ltb-true highest n new in omega arith

still_opened : (opened : Option ℕ) (c n : ℕ) → is_new opened c ≡ true → IsOpened opened n → IsOpened (Some c) n
still_opened None c n new o = absurd o
still_opened (Some highest) c n new o = let lt = ltb-true highest c new in omega arith

open_lane : (m : Machine) (came sent : Frames) (c : ConnNo) (now : Option Connection) → is_new m.opened c.0 ≡ true → Lane c m.opened now (came c) (sent c) m.journal
    → Lane c (Some c.0) (Some fresh_connection) (came c) (sent c) m.journal
open_lane m came sent c now new (Unopened none s) = Alive fresh_connection refl refl (omega arith)
    (subst (λ fs. Speaks c 0 empty (came c) fs m.journal) (sym (append-nil (sent c))) s)
open_lane m came sent c now new (Over none o h) = absurd (not_new m.opened c.0 new o)
open_lane m came sent c now new (Alive x here live o s) = absurd (not_new m.opened c.0 new o)
open_lane m came sent c now new (Drains x here drains silent o h) = absurd (not_new m.opened c.0 new o)

opened_quiet : (c : ConnNo) (answer : Reply) → IsQuiet (event.Opened c) answer
opened_quiet c answer = record { none_in = λ d. refl; none_out = λ d. refl }

opens_by : (m : Machine) (came sent : Frames) (c : ConnNo) (new : Bool) → is_new m.opened c.0 ≡ new → Kept m came sent
    → Happens (event.Opened c) came sent (cond {A = Played} new (reply.Nothing, with_connection (record m { opened = Some c.0 }) c fresh_connection) (reply.Closed, m))
opens_by m came sent c false new kept = unchanged m came sent (event.Opened c) reply.Closed kept (opened_quiet c reply.Closed)
opens_by m came sent c true new kept =
    quiet_kept m (with_connection (record m { opened = Some c.0 }) c fresh_connection) c (Some fresh_connection) came sent (event.Opened c) reply.Nothing kept (opened_quiet c reply.Nothing)
    (record {
      here = get_put m.connections c.0 fresh_connection;
      others = λ d ne. Same (get_put_other m.connections c.0 fresh_connection d.0 ne);
      opened = λ n o. still_opened m.opened c.0 n new o;
      grows = λ d ne r. grows_same d r m.journal;
      forks = kept.forks;
    })
    (open_lane m came sent c _ new (kept.lanes c))

-- a connection opens
pub opens : (m : Machine) (came sent : Frames) (c : ConnNo) → Kept m came sent
    → Happens (event.Opened c) came sent (cond {A = Played} (is_new m.opened c.0) (reply.Nothing, with_connection (record m { opened = Some c.0 }) c fresh_connection) (reply.Closed, m))
opens m came sent c kept = opens_by m came sent c (is_new m.opened c.0) refl kept

-- ---- halting

halt_quiet : (answer : Reply) → IsQuiet event.Halt answer
halt_quiet answer = record { none_in = λ d. refl; none_out = λ d. refl }

halted : (m : Machine) (came sent : Frames) → Kept m came sent → Kept (record m { halted = true }) came sent
halted m came sent kept = record { lanes = kept.lanes; forks = kept.forks }

-- the server halts, or not yet
pub halts : (m : Machine) (came sent : Frames) (speaks : Bool) → Kept m came sent
    → Happens event.Halt came sent (cond {A = Played} speaks (reply.NotQuiet, m) (reply.Closed, record m { halted = true }))
halts m came sent true kept = unchanged m came sent event.Halt reply.NotQuiet kept (halt_quiet reply.NotQuiet)
halts m came sent false kept = unchanged (record m { halted = true }) came sent event.Halt reply.Closed (halted m came sent kept) (halt_quiet reply.Closed)
