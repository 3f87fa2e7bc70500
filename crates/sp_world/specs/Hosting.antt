-- What becomes of an operation that the host's kernel is asked for.
use Rattle.std.specs.Prelude.{◌≡◌, ℕ, ◌+◌, List, [], ◌∷◌, ◌++◌, length}
use Rattle.std.specs.FinMap.{get, insert}
use Rattle.sp_base.specs.declared.names.Caller.{Caller}
use Rattle.sp_copy.specs.declared.part.Part.{Part}
use Rattle.kern_model.specs.declared.journal.Entry.{Entry}
use Rattle.world_model.specs.Host.{count_in, seen_at, without_call}
use Rattle.world_model.specs.State.{Played, World}
use Rattle.world_model.specs.declared.host.HostCall.{HostCall}
use Rattle.world_model.specs.declared.event.Reply.{Reply}
use Rattle.world_model.specs.declared.event.Reply.TheVariants as reply
use Rattle.sp_world.specs.Happens.{Gives}

-- a call waits, the last of those that wait, and in the place of its like; or memory was refused
abbrev pub Waits : World → HostCall → List Part → Reply → World → Type 0
Waits old call mem answer new = Gives old (
  reply.HostWaits mem,
  record old { waiting = without_call old.waiting call.guest call.caller call.op ++ call ∷ [] },
) answer new

-- what is seen of an entry is answered to a guest's caller, which waits for it no more
abbrev pub Sees : World → ℕ → Caller → ℕ → Entry → List Part → Reply → World → Type 0
Sees old guest caller place e mem answer new = ◌≡◌ {A = Played} (answer, new) (
  reply.Hosted (seen_at place e mem).0 (seen_at place e mem).1,
  record old { waiting = without_call old.waiting guest caller e.op },
)

-- an operation was performed as the entry that stands at the end of the journal; or memory was refused
abbrev pub Performs : World → HostCall → Entry → List Part → Reply → World → Type 0
Performs old call e mem answer new = Gives old (
  reply.Hosted (seen_at (length old.host) e mem).0 (seen_at (length old.host) e mem).1,
  record old {
    host = old.host ++ e ∷ [];
    counts = insert old.counts call.guest (count_in (get old.counts call.guest) + 1);
    waiting = without_call old.waiting call.guest call.caller call.op;
  },
) answer new
