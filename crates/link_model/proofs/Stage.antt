-- The stages of a call, and what the link is at each of them.
use Rattle.std.proofs.Common.{◌≡◌, ℕ, ◌+◌, ◌<◌, List, [], ◌∷◌, ◌++◌, length, drop, Option, Some, None, true, false}
use Rattle.std.specs.Prelude.{slice_get}
use Rattle.std.specs.List.{AllByRecursion}
use Rattle.std.specs.Ordering.{nat_cmp}
use Rattle.std.specs.FinMap.{FinMap, insert, empty}
use Rattle.sp_base.specs.Needs.{needs_of, outs_of}
use Rattle.sp_base.specs.declared.errno.Errno.{Errno}
use Rattle.sp_base.specs.declared.need.Need.{Need}
use Rattle.sp_copy.specs.Delivering.{put_pieces}
use Rattle.sp_copy.specs.Gathering.{gather, gathered}
use Rattle.sp_copy.specs.declared.delivery.Delivery.{Delivery}
use Rattle.sp_copy.proofs.Pieces.{after_pieces}
use Rattle.sp_frames.specs.declared.frame.Body.TheVariants as body
use Rattle.sp_frames.specs.declared.frame.Frame.{Frame}
use Rattle.kern_model.specs.declared.journal.Entry.{Entry}
use Rattle.kern_model.specs.declared.operation.Ins.TheVariants.{Fault}
use Rattle.kern_model.specs.declared.outcome.OutPiece.{OutPiece}
use Rattle.hub_model.specs.Frames.{answer_at, ask, ask_body, puts_from}
use Rattle.hub_model.specs.State.{Connection, Machine}
use Rattle.hub_model.specs.declared.state.Condition.TheVariants.{Live}
use Rattle.hub_model.specs.declared.state.OpenCall.{OpenCall}
use Rattle.hub_model.specs.declared.state.OpenCall.TheVariants.{Gathers, Fails, Answers}
use Rattle.client_model.specs.Asks.{copy_of}
use Rattle.client_model.specs.Requests.{call_body}
use Rattle.client_model.specs.State.{Open, Client, request_frame}
use Rattle.client_model.specs.declared.request.Request.TheVariants as request
use Rattle.client_model.specs.declared.request.Response.{Response}
use Rattle.client_model.specs.declared.request.Response.TheVariants as response
use Rattle.link_model.specs.Asked.{Asked, number_of, journal_before, entry_of}
use Rattle.link_model.specs.Direct.{reads, pieces_of}
use Rattle.link_model.specs.Link.{Link}
use Rattle.link_model.proofs.Ranges.{IsInside}

-- how far a call is: its frame is under way; it is gathered; an ask is under way, and then a copy; its asking has ended with an error;
-- its outcome is told; it was told
pub data Stage : Type 0 where
  Sent : Stage
  Held : (got : List (List ℕ)) → (indexes : List ℕ) → Stage
  Asking : (got : List (List ℕ)) → (indexes : List ℕ) → (need : Need) → Stage
  Copying : (got : List (List ℕ)) → (indexes : List ℕ) → (need : Need) → Stage
  Failing : (indexes : List ℕ) → (why : Errno) → Stage
  Telling : (indexes : List ℕ) → (e : Entry) → (now : Delivery) → (index : ℕ) → (todo : List OutPiece) → Stage
  Told : (indexes : List ℕ) → (e : Entry) → (now : Delivery) → Stage

-- the memory before anything is written
abbrev pub untouched : Asked → Delivery
untouched a = record { mem = a.mem; whole = true }

-- the open request, by its memory, the indexes that were asked for, and its response
abbrev pub open_of : Asked → Delivery → List ℕ → Option Response → Open
open_of a now indexes answered = record { request = request.Call a.call; delivery = now; asked = indexes; response = answered }

-- the client, by the open request and its queue
abbrev pub client_at : Asked → Open → List Frame → Client
client_at a x queue = record {
  version = a.link.client.version;
  ready = true;
  last = a.link.client.last + 1;
  requests = insert a.link.client.requests (a.link.client.last + 1) x;
  queue = queue;
  ending = None;
}

-- the open calls of the connection
abbrev pub calls_at : ℕ → Option OpenCall → FinMap nat_cmp OpenCall
calls_at n None = empty
calls_at n (Some task) = insert empty n task

-- the connection, by its last number, the open call and its queue
abbrev pub connection_at : Asked → ℕ → Option OpenCall → List Frame → Connection
connection_at a last task queue = record { condition = Live a.whole.pid; last = last; calls = calls_at (a.link.client.last + 1) task; queue = queue }

-- the server, by its journal and the connection
abbrev pub server_at : Asked → List Entry → Connection → Machine
server_at a journal x = record {
  version = a.link.server.version;
  journal = journal;
  connections = insert a.link.server.connections a.link.conn.0 x;
  cookies = a.link.server.cookies;
  handovers = a.link.server.handovers;
  opened = a.link.server.opened;
  halted = false;
}

-- what can be different of the link from stage to stage: the open request, what the client has to send, the journal, the connection's last
-- number, the open call, and what the server has to send
pub record Look : Type 0 where
  pub request : Open
  pub up : List Frame
  pub journal : List Entry
  pub last : ℕ
  pub task : Option OpenCall
  pub down : List Frame

-- while the call isn't performed, and is with the server
abbrev pub before : Asked → List ℕ → List Frame → OpenCall → List Frame → Look
before a indexes up task down = record {
  request = open_of a (untouched a) indexes None;
  up = up;
  journal = journal_before a;
  last = a.link.client.last + 1;
  task = Some task;
  down = down;
}

-- once the call is performed
abbrev pub behind : Asked → List ℕ → Entry → Delivery → Option Response → Option OpenCall → List Frame → Look
behind a indexes e now answered task down = record {
  request = open_of a now indexes answered;
  up = [];
  journal = journal_before a ++ e ∷ [];
  last = a.link.client.last + 1;
  task = task;
  down = down;
}

-- the response to the call
abbrev pub answer_frame : Asked → Entry → Frame
answer_frame a e = record { number = number_of a; body = body.Answered (answer_at e.outcome (length (journal_before a))) }

-- a copy of a need
abbrev pub copy_frame : Asked → ℕ → Need → Frame
copy_frame a index need = record { number = number_of a; body = copy_of a.mem (ask_body index need) }

-- what is different at each stage
abbrev pub look : Asked → Stage → Look
look a Sent = record {
  request = open_of a (untouched a) [] None;
  up = request_frame (a.link.client.last + 1) (call_body a.call) ∷ [];
  journal = journal_before a;
  last = a.link.client.last;
  task = None;
  down = [];
}
look a (Held got indexes) = before a indexes [] (Gathers a.call got false) []
look a (Asking got indexes need) = before a indexes [] (Gathers a.call got true) (ask (number_of a) (length got) need ∷ [])
look a (Copying got indexes need) = before a indexes (copy_frame a (length got) need ∷ []) (Gathers a.call got true) []
look a (Failing indexes why) = before a indexes [] (Fails a.call why) []
look a (Telling indexes e now index todo) = behind a indexes e now None (Some Answers) (puts_from (number_of a) index todo ++ answer_frame a e ∷ [])
look a (Told indexes e now) = behind a indexes e now (Some (response.Answered (answer_at e.outcome (length (journal_before a))))) None []

-- the link, by what is different
abbrev pub link_by : Asked → Look → Link
link_by a l = record {
  client = client_at a l.request l.up;
  server = server_at a l.journal (connection_at a l.last l.task l.down);
  conn = a.link.conn;
}

-- the link at a stage
abbrev pub shape : Asked → Stage → Link
shape a s = link_by a (look a s)

-- what was got and what is still to be gathered is all that the call reads
abbrev pub IsFront : Asked → List (List ℕ) → Type 0
IsFront a got = after_pieces got (gathered a.mem (drop (length got) (needs_of a.call))) ≡ gather a.call a.mem

-- only indexes below a number were asked for
abbrev pub AreBelow : ℕ → List ℕ → Type 0
AreBelow n indexes = AllByRecursion (λ i. i < n) indexes

-- what was gathered is a front of what the call reads, in order
pub record IsGathering (a : Asked) (got : List (List ℕ)) (indexes : List ℕ) (asked : ℕ) : Type 0 where
  pub front : IsFront a got
  pub below : AreBelow asked indexes

-- the same, where a need was asked for
pub record IsAsking (a : Asked) (got : List (List ℕ)) (indexes : List ℕ) (need : Need) (asked : ℕ) : Type 0 where
  pub gathering : IsGathering a got indexes asked
  pub next : slice_get (needs_of a.call) (length got) ≡ Some need

-- all that the call writes was written
abbrev pub delivered : Asked → Entry → Delivery
delivered a e = put_pieces (untouched a) (pieces_of e.outcome.outs)

-- what is left to write gives what the call writes, and lies inside its ranges
pub record IsTelling (a : Asked) (e : Entry) (now : Delivery) (todo : List OutPiece) : Type 0 where
  pub entry : entry_of a ≡ Some e
  pub rest : put_pieces now (pieces_of todo) ≡ delivered a e
  pub inside : AllByRecursion (IsInside (outs_of a.call)) todo

-- the call was performed, and all was written
pub record IsTold (a : Asked) (e : Entry) (now : Delivery) : Type 0 where
  pub entry : entry_of a ≡ Some e
  pub whole : now ≡ delivered a e

-- what holds at a stage
abbrev pub Fact : Asked → Stage → Type 0
Fact a Sent = Unit {0}
Fact a (Held got indexes) = IsGathering a got indexes (length got)
Fact a (Asking got indexes need) = IsAsking a got indexes need (length got)
Fact a (Copying got indexes need) = IsAsking a got indexes need (length got + 1)
Fact a (Failing indexes why) = reads a.call a.mem ≡ Fault why
Fact a (Telling indexes e now index todo) = IsTelling a e now todo
Fact a (Told indexes e now) = IsTold a e now

-- a link stands at a stage of the call
pub record Stands (a : Asked) (link : Link) : Type 0 where
  pub stage : Stage
  pub is : link ≡ shape a stage
  pub fact : Fact a stage
