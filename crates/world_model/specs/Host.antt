-- Calls that are made of the host's kernel at once, with the caller's memory in hand.
use Rattle.std.specs.Prelude.{ℕ, ◌+◌, ◌==◌, ◌&&◌, not, Bool, true, false, List, [], ◌∷◌, ◌++◌, length, filter, Option, None, Some, is_some, if◌then◌else◌}
use Rattle.std.specs.FinMap.{get, insert}
use Rattle.std.specs.List.{list_any}
use Rattle.sp_base.specs.Call.{call_number, call_words}
use Rattle.sp_base.specs.Table.{at}
use Rattle.sp_base.specs.declared.call.Call.{Call}
use Rattle.sp_base.specs.declared.names.Answer.{Answer}
use Rattle.sp_base.specs.declared.names.Caller.{Caller}
use Rattle.sp_base.specs.declared.names.Pid.{Pid}
use Rattle.sp_copy.specs.Delivering.{deliver}
use Rattle.sp_copy.specs.declared.part.Part.{Part}
use Rattle.kern_model.specs.Journal.{next_entry, state_after}
use Rattle.kern_model.specs.declared.journal.Entry.{Entry}
use Rattle.kern_model.specs.declared.journal.Who.{Who}
use Rattle.kern_model.specs.declared.journal.Who.TheVariants.{Host}
use Rattle.kern_model.specs.declared.operation.Ins.{Ins}
use Rattle.kern_model.specs.declared.operation.Op.{Op}
use Rattle.kern_model.specs.declared.operation.Op.TheVariants.{Sys, Attach, Fork, Exec, Exit}
use Rattle.hub_model.specs.Frames.{answer_at}
use Rattle.hub_model.specs.Journal.{nothing_read}
use Rattle.hub_model.specs.Requests.{no_process}
use Rattle.link_model.specs.Direct.{pieces_of, reads}
use Rattle.world_model.specs.State.{Played, World}
use Rattle.world_model.specs.declared.event.Reply.TheVariants as reply
use Rattle.world_model.specs.declared.host.HostCall.{HostCall}

-- what an operation reads of its caller's memory: only calls read
abbrev pub read_for : Op → List Part → Ins
read_for (Sys call) mem = reads call mem
read_for _ mem = nothing_read

-- the process that performs an operation: none for an attach
abbrev pub performer : Pid → Op → Pid
performer pid Attach = no_process
performer pid _ = pid

-- a process of the host's kernel may ask for an operation: it is live, or asks for an attach
abbrev pub may_ask : World → Pid → Op → Bool
may_ask w pid Attach = true
may_ask w pid _ = is_some (at (state_after w.host).processes pid.0)

-- how many entries a guest has
abbrev pub count_in : Option ℕ → ℕ
count_in None = 0
count_in (Some count) = count

-- for whom the next entry of a guest is made
abbrev pub next_host : World → ℕ → Who
next_host w guest = Host guest (count_in (get w.counts guest) + 1)

-- the entry that an operation of a guest gets in the host's journal; none where it waits
abbrev pub host_entry : World → ℕ → Pid → Op → Ins → Option Entry
host_entry w guest pid op ins = next_entry w.host (performer pid op) (next_host w guest) op ins

-- two lists of numbers are the same
abbrev pub same_words : List ℕ → List ℕ → Bool
same_words [] [] = true
same_words (x ∷ xs) (y ∷ ys) = (x == y) && same_words xs ys
same_words _ _ = false

-- two operations are the same: calls of one number with the same words
abbrev pub same_op : Op → Op → Bool
same_op (Sys call) (Sys other) = (call_number call == call_number other) && same_words (call_words call) (call_words other)
same_op Attach Attach = true
same_op Fork Fork = true
same_op Exec Exec = true
same_op Exit Exit = true
same_op _ _ = false

-- a host call is known by its guest, its caller and its operation
abbrev pub is_call_of : ℕ → Caller → Op → HostCall → Bool
is_call_of guest caller op call = (call.guest == guest) && (call.caller.0 == caller.0) && same_op call.op op

-- the host calls that wait, without that of a guest's caller
abbrev pub without_call : List HostCall → ℕ → Caller → Op → List HostCall
without_call waiting guest caller op = filter (λ call. not (is_call_of guest caller op call)) waiting

-- what is seen of an entry of the host's journal at a place: its outcome as the answer, and the memory with what it writes
abbrev pub seen_at : ℕ → Entry → List Part → Answer × List Part
seen_at place e mem = deliver (pieces_of e.outcome.outs) (answer_at e.outcome place) mem

-- the host's kernel performs an operation, or isn't ready for it
abbrev pub host_by : World → ℕ → Caller → Pid → Op → List Part → Option Entry → Played
host_by w guest caller pid op mem None = (
  reply.HostWaits mem,
  record w {
    waiting = without_call w.waiting guest caller op
        ++ record { guest = guest; caller = caller; pid = pid; op = op; ins = read_for op mem } ∷ [];
  },
)
host_by w guest caller pid op mem (Some e) = (
  reply.Hosted (seen_at (length w.host) e mem).0 (seen_at (length w.host) e mem).1,
  record w {
    host = w.host ++ e ∷ [];
    counts = insert w.counts guest (count_in (get w.counts guest) + 1);
    waiting = without_call w.waiting guest caller op;
  },
)

-- a caller of a guest has a process of the host's kernel perform an operation
abbrev pub host_if : World → ℕ → Caller → Pid → Op → List Part → Bool → Played
host_if w guest caller pid op mem false = (reply.Closed, w)
host_if w guest caller pid op mem true = host_by w guest caller pid op mem (host_entry w guest pid op (read_for op mem))

-- a host call that waits could be performed now
abbrev pub is_ready : World → HostCall → Bool
is_ready w call = may_ask w call.pid call.op && is_some (host_entry w call.guest call.pid call.op call.ins)
