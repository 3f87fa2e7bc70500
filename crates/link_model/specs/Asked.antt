-- A call that is asked over a whole link, and what becomes of it.
use Rattle.std.specs.Prelude.{◌≡◌, ℕ, ◌+◌, ◌≤◌, Bool, true, false, IsTrue, IfSome, List, [], ◌∷◌, ◌++◌, length, Option, None, Some}
use Rattle.std.specs.FinMap.{get, empty, len}
use Rattle.sp_base.specs.Call.{call_number, IsProper}
use Rattle.sp_base.specs.declared.call.Call.{Call}
use Rattle.sp_base.specs.declared.names.Answer.{Answer}
use Rattle.sp_base.specs.declared.names.Caller.{Caller}
use Rattle.sp_base.specs.declared.names.Pid.{Pid}
use Rattle.sp_base.specs.declared.names.ReqNo.{ReqNo}
use Rattle.sp_copy.specs.declared.part.Part.{Part}
use Rattle.kern_model.specs.Journal.{state_after, next_entry}
use Rattle.kern_model.specs.declared.journal.Entry.{Entry}
use Rattle.kern_model.specs.declared.journal.Who.TheVariants.{Request}
use Rattle.kern_model.specs.declared.operation.Op.TheVariants.{Sys}
use Rattle.hub_model.specs.State.{Connection}
use Rattle.hub_model.specs.Verdict.{is_later_call}
use Rattle.hub_model.specs.declared.event.Reply.{Reply as ServerReply}
use Rattle.hub_model.specs.declared.event.Reply.TheVariants as server_reply
use Rattle.hub_model.specs.declared.state.Condition.TheVariants.{Live}
use Rattle.client_model.specs.Machine as client
use Rattle.client_model.specs.Requests.{is_busy}
use Rattle.client_model.specs.State.{Played}
use Rattle.client_model.specs.declared.event.Event.TheVariants as client_event
use Rattle.client_model.specs.declared.event.Reply.{Reply as ClientReply}
use Rattle.client_model.specs.declared.event.Reply.TheVariants as client_reply
use Rattle.link_model.specs.Direct.{reads, direct}
use Rattle.link_model.specs.Link.{Link, Made, carried}
use Rattle.link_model.specs.declared.moves.Move.{Move}

-- a connection that speaks for a process, with no open call and nothing to send
abbrev pub idle : Pid → ℕ → Connection
idle pid last = record { condition = Live pid; last = last; calls = empty; queue = [] }

-- a link is whole: the client may start a call, and has nothing to send; the server goes on, and the connection is idle, where the
-- numbers above the client's last one weren't used
pub record IsWhole (link : Link) : Type 0 where
  pub ready : link.client.ready ≡ true
  pub goes_on : link.client.ending ≡ None
  pub free : is_busy link.client ≡ false
  pub sent : link.client.queue ≡ []
  pub serves : link.server.halted ≡ false
  pub pid : Pid
  pub idle : get link.server.connections link.conn.0 ≡ Some (idle pid link.client.last)

-- a call of a caller with its memory, asked over a whole link, that the server takes by now
pub record Asked : Type 0 where
  pub link : Link
  pub whole : IsWhole link
  pub caller : Caller
  pub call : Call
  pub proper : IsProper call
  pub now : is_later_call (call_number call) ≡ false
  pub mem : List Part

-- the number of the call
abbrev pub number_of : Asked → ReqNo
number_of asked = record { 0 = asked.link.client.last + 1 }

-- what the client answers as the call starts, and the client then
abbrev pub start_of : Asked → Played
start_of asked = client.played asked.link.client (client_event.Start asked.caller asked.call asked.mem)

-- the link after the call started and then these moves were made
abbrev pub after : Asked → List Move → Link
after asked moves = carried (record asked.link { client = (start_of asked).1 }) moves

-- the journal before the call
abbrev pub journal_before : Asked → List Entry
journal_before asked = asked.link.server.journal

-- the entry that the kernel would give to the call and to what it reads of its caller's memory, at the end of the journal before it
abbrev pub entry_of : Asked → Option Entry
entry_of asked =
    next_entry (journal_before asked) asked.whole.pid (Request asked.link.conn (number_of asked)) (Sys asked.call) (reads asked.call asked.mem)

-- what its caller would see of the call, made of the kernel there with the memory in hand
abbrev pub direct_of : Asked → Option (Answer × List Part)
direct_of asked = direct (state_after (journal_before asked)) (length (journal_before asked)) asked.whole.pid.0 asked.call asked.mem

-- what the client answers to who collects the call, and the client then
abbrev pub collecting : Asked → Link → Played
collecting asked link = client.played link.client (client_event.Collect (number_of asked))

-- what the client answers to who collects the call
abbrev pub collected : Asked → Link → ClientReply
collected asked link = (collecting asked link).0

-- the link once the call was collected
abbrev pub after_collecting : Asked → Link → Link
after_collecting asked link = record link { client = (collecting asked link).1 }

-- the journal has the call's entry, and no other one, behind those before it
pub record IsPerformed (asked : Asked) (journal : List Entry) : Type 0 where
  pub entry : Entry
  pub next : entry_of asked ≡ Some entry
  pub grown : journal ≡ journal_before asked ++ entry ∷ []

-- the call is answered as it would be there at once, at the place of its entry
pub record IsAnswered (asked : Asked) (link : Link) : Type 0 where
  pub answer : Answer
  pub mem : List Part
  pub got : collected asked link ≡ client_reply.Got answer mem
  pub direct : direct_of asked ≡ Some (answer, mem)
  pub performed : IsPerformed asked link.server.journal
  pub place : answer.place.0 ≡ length (journal_before asked)

-- the connection is the same, and none was opened
pub record Stays (asked : Asked) (link : Link) : Type 0 where
  pub conn : link.conn ≡ asked.link.conn
  pub opened : link.server.opened ≡ asked.link.server.opened

-- the link is whole again, for the same process, where its client may start another call
abbrev pub IsWholeAgain : Asked → Link → Type 0
IsWholeAgain asked link = is_busy link.client ≡ false → (whole : IsWhole link) × (whole.pid ≡ asked.whole.pid)

-- the request is closed: no more requests are open than before it, and its number is the last one that was given
pub record IsClosed (asked : Asked) (link : Link) : Type 0 where
  pub requests : len link.client.requests ≤ len asked.link.client.requests
  pub last : link.client.last ≡ asked.link.client.last + 1

-- the journal has the call's entry more exactly where the server answers that it is done, and had none before; else it is the same
abbrev pub Grows : Asked → List Entry → Option ServerReply → List Entry → Type 0
Grows asked old (Some server_reply.Done) new = (old ≡ journal_before asked) × IsPerformed asked new
Grows asked old _ new = new ≡ old

-- the server takes what comes
abbrev pub is_taken : ServerReply → Bool
is_taken (server_reply.Refused why) = false
is_taken server_reply.Closed = false
is_taken server_reply.NoMemory = false
is_taken _ = true

-- the client takes what comes
abbrev pub is_fit : ClientReply → Bool
is_fit (client_reply.BadServer frame) = false
is_fit (client_reply.NoMemory mem) = false
is_fit _ = true

-- whichever side a move comes to takes it
pub record IsFine (made : Made) : Type 0 where
  pub server : IfSome made.server (λ reply. IsTrue (is_taken reply))
  pub client : IfSome made.client (λ reply. IsTrue (is_fit reply))
