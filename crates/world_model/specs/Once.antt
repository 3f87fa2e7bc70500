-- Each call that was answered stands once in its kernel's journal, and each lost one at most once.
use Rattle.std.specs.Prelude.{◌≡◌, ◌≢◌, ⊤, ℕ, ◌+◌, ◌<◌, ◌==◌, Bool, false, List, [], ◌∷◌, ◌++◌, length, filter, Option, None, Some}
use Rattle.std.specs.FinMap.{get}
use Rattle.sp_base.specs.declared.call.Call.{Call}
use Rattle.sp_base.specs.declared.names.Answer.{Answer}
use Rattle.sp_base.specs.declared.names.ConnNo.{ConnNo}
use Rattle.sp_base.specs.declared.names.Cookie.{Cookie}
use Rattle.sp_base.specs.declared.names.Pid.{Pid}
use Rattle.sp_base.specs.declared.names.Place.{Place}
use Rattle.sp_base.specs.declared.names.ReqNo.{ReqNo}
use Rattle.sp_base.specs.declared.names.SpError.{SpError}
use Rattle.sp_base.specs.declared.names.SpError.TheVariants.{Malformed}
use Rattle.sp_copy.specs.Writing.{ChangesOnly}
use Rattle.sp_copy.specs.declared.part.Part.{Part}
use Rattle.sp_frames.specs.declared.frame.Frame.{Frame}
use Rattle.kern_model.specs.Journal.{HasOwnKeys, next_entry}
use Rattle.kern_model.specs.declared.journal.Entry.{Entry}
use Rattle.kern_model.specs.declared.journal.Who.{Who}
use Rattle.kern_model.specs.declared.journal.Who.TheVariants.{Host}
use Rattle.kern_model.specs.declared.operation.Op.{Op}
use Rattle.kern_model.specs.declared.operation.Op.TheVariants as op
use Rattle.hub_model.specs.Owners.{HasOwners, IsOwners}
use Rattle.hub_model.specs.State.{Machine}
use Rattle.hub_model.specs.declared.event.Reply.TheVariants as server_reply
use Rattle.hub_law.specs.Serves.{StandsAt}
use Rattle.client_model.specs.Told.{is_allowed}
use Rattle.client_model.specs.declared.event.Reply.{Reply as ClientReply}
use Rattle.client_model.specs.declared.event.Reply.TheVariants as client_reply
use Rattle.client_model.specs.declared.request.Request.{Request}
use Rattle.client_model.specs.declared.request.Request.TheVariants as request
use Rattle.world_model.specs.Host.{count_in, performer, read_for, seen_at}
use Rattle.world_model.specs.Log.{Ask, IsIn, asked, told}
use Rattle.world_model.specs.Run.{History, Item}
use Rattle.world_model.specs.State.{Link, faults_of}
use Rattle.world_model.specs.declared.event.Event.{Event}
use Rattle.world_model.specs.declared.event.Event.TheVariants as event
use Rattle.world_model.specs.declared.event.Reply.{Reply}
use Rattle.world_model.specs.declared.event.Reply.TheVariants as reply

-- ---- entries

-- the operation that a request has performed
abbrev pub IsOpOf : Request → Op → Type 0
IsOpOf request.Attach op.Attach = ⊤
IsOpOf request.Image op.Exec = ⊤
IsOpOf request.Prefork op.Fork = ⊤
IsOpOf (request.Call call) (op.Sys done) = done ≡ call
IsOpOf _ _ = ⊥

-- an entry of a request: one event asked for its number; the entry's operation is what that event asked for, what it read is what stood in
-- the memory that was lent then, and its process is the one that the connection speaks for
pub record Performs (m : Machine) (log : List Item) (c : ConnNo) (r : ReqNo) (e : Entry) : Type 0 where
  pub ask : Ask
  pub one : asked c r.0 log ≡ ask ∷ []
  pub operation : IsOpOf ask.what e.op
  pub reads : e.ins ≡ read_for e.op ask.mem
  pub owner : IsOwners m c.0 e e.op

-- no entry of a request stands in a journal
abbrev pub HasNoEntry : List Entry → ConnNo → ReqNo → Type 0
HasNoEntry journal c r = (place : ℕ) (e : Entry) → StandsAt journal c r place e → ⊥

-- ---- replies

-- a call was answered: with the answer of its entry, which stands at the answer's place, and the memory with what that entry wrote
pub record GotOf (journal : List Entry) (log : List Item) (c : ConnNo) (r : ReqNo) (answer : Answer) (mem : List Part) : Type 0 where
  pub call : Call
  pub lent : List Part
  pub one : asked c r.0 log ≡ record { what = request.Call call; mem = lent } ∷ []
  pub entry : Entry
  pub stands : StandsAt journal c r answer.place.0 entry
  pub operation : entry.op ≡ op.Sys call
  pub sees : (answer, mem) ≡ seen_at answer.place.0 entry lent

-- a fork was answered: with the child of its entry, which stands at the place that was told
pub record ForkedOf (journal : List Entry) (c : ConnNo) (r : ReqNo) (place : Place) (pid : Pid) : Type 0 where
  pub entry : Entry
  pub stands : StandsAt journal c r place.0 entry
  pub operation : entry.op ≡ op.Fork
  pub child : pid.0 ≡ entry.outcome.ret0

-- a guest was answered: with the process of its attach
pub record AttachedOf (journal : List Entry) (c : ConnNo) (r : ReqNo) (pid : Pid) : Type 0 where
  pub entry : Entry
  pub place : ℕ
  pub stands : StandsAt journal c r place entry
  pub operation : entry.op ≡ op.Attach
  pub process : pid.0 ≡ entry.outcome.ret0

-- a next program was answered: with the process of its exec, which stands at the place that was told
pub record ImagedOf (journal : List Entry) (c : ConnNo) (r : ReqNo) (place : Place) (pid : Pid) : Type 0 where
  pub entry : Entry
  pub stands : StandsAt journal c r place.0 entry
  pub operation : entry.op ≡ op.Exec
  pub process : entry.pid ≡ pid

-- a handshake was answered without a place: it is a guest's, with its attach; or a child's, without an entry
abbrev pub JoinedBy : Request → List Entry → ConnNo → ReqNo → Pid → Type 0
JoinedBy request.Attach journal c r pid = AttachedOf journal c r pid
JoinedBy request.Join journal c r pid = HasNoEntry journal c r
JoinedBy _ journal c r pid = ⊥

-- a handshake was answered
pub record JoinedOf (journal : List Entry) (log : List Item) (c : ConnNo) (r : ReqNo) (pid : Pid) : Type 0 where
  pub ask : Ask
  pub one : asked c r.0 log ≡ ask ∷ []
  pub joined : JoinedBy ask.what journal c r pid

-- a request was refused: it has no entry, and the memory that was lent comes back as it was
pub record RefusedOf (journal : List Entry) (log : List Item) (c : ConnNo) (r : ReqNo) (mem : List Part) : Type 0 where
  pub ask : Ask
  pub one : asked c r.0 log ≡ ask ∷ []
  pub none : HasNoEntry journal c r
  pub same : mem ≡ ask.mem

-- the addresses that a request may change in the memory that was lent for it: a call's ranges
abbrev pub may_change : Request → ℕ → Bool
may_change (request.Call call) a = is_allowed call a
may_change _ a = false

-- a request was lost: the memory that comes back differs from the one that was lent only where the request may change it; its link broke
pub record LostOf (h : History) (c : ConnNo) (r : ReqNo) (mem : List Part) : Type 0 where
  pub ask : Ask
  pub one : asked c r.0 h.log ≡ ask ∷ []
  pub changes : ChangesOnly (may_change ask.what) ask.mem mem
  pub broke : 0 < faults_of (get h.world.links c.0)

-- what holds of the reply that closed a request
abbrev pub IsReplyOf : History → ConnNo → ReqNo → ClientReply → Type 0
IsReplyOf h c r (client_reply.Got answer mem) = GotOf h.world.rump.journal h.log c r answer mem
IsReplyOf h c r (client_reply.Forked cookie place pid) = ForkedOf h.world.rump.journal c r place pid
IsReplyOf h c r (client_reply.Joined pid None) = JoinedOf h.world.rump.journal h.log c r pid
IsReplyOf h c r (client_reply.Joined pid (Some place)) = ImagedOf h.world.rump.journal c r place pid
IsReplyOf h c r client_reply.Cancelled = HasNoEntry h.world.rump.journal c r
IsReplyOf h c r (client_reply.ExecReady cookie) = HasNoEntry h.world.rump.journal c r
IsReplyOf h c r (client_reply.Refused why mem) = RefusedOf h.world.rump.journal h.log c r mem
IsReplyOf h c r (client_reply.Lost mem) = LostOf h c r mem
IsReplyOf h c r _ = ⊥

-- ---- no side is out of its mind

-- a client's reply doesn't say that the server is out of its mind
abbrev pub IsSane : ClientReply → Type 0
IsSane (client_reply.BadServer f) = ⊥
IsSane (client_reply.Broken mem) = ⊥
IsSane _ = ⊤

-- neither side finds the other one out of its mind
abbrev pub IsFine : Reply → Type 0
IsFine (reply.Client answer) = IsSane answer
IsFine (reply.Server (server_reply.Refused why)) = why ≢ Malformed
IsFine _ = ⊤

-- the connection of an event whose client answers that the link is gone
abbrev pub lost_on : Event → Reply → Option ConnNo
lost_on (event.Start c caller call mem) (reply.Client (client_reply.Lost back)) = Some c
lost_on (event.Prefork c caller want) (reply.Client (client_reply.Lost back)) = Some c
lost_on (event.Preexec c caller) (reply.Client (client_reply.Lost back)) = Some c
lost_on (event.Collect c r) (reply.Client (client_reply.Lost back)) = Some c
lost_on _ _ = None

-- ---- the host's kernel

-- an entry was made for this guest
abbrev pub is_of_guest : ℕ → Who → Bool
is_of_guest guest (Host g count) = g == guest
is_of_guest guest _ = false

-- for whom the next entry of a guest is made: its entries are counted from 1
abbrev pub next_of_guest : ℕ → List Entry → Who
next_of_guest guest journal = Host guest (length (filter (λ e. is_of_guest guest e.who) journal) + 1)

-- an event was performed by the host's kernel, at the end of a journal: it has the next entry there, as its kernel performs it at once with
-- the memory that was lent, and is answered what is seen of that entry
pub record HostedOf (before : List Entry) (guest : ℕ) (pid : Pid) (operation : Op) (lent : List Part) (answer : Answer) (mem : List Part) (e : Entry) : Type 0 where
  pub next : next_entry before (performer pid operation) (next_of_guest guest before) operation (read_for operation lent) ≡ Some e
  pub sees : (answer, mem) ≡ seen_at (length before) e lent

-- the host's journal has an entry for each event that the host's kernel performed, in order, and no other
abbrev pub IsHostedIn : Event → Reply → List Entry → List Entry → Type 0
IsHostedIn (event.Host guest caller pid operation lent) (reply.Hosted answer mem) before journal =
    (e : Entry) × HostedOf before guest pid operation lent answer mem e × (journal ≡ before ++ e ∷ [])
IsHostedIn _ _ before journal = journal ≡ before

abbrev pub IsHosted : List Item → List Entry → Type 0
IsHosted [] journal = journal ≡ []
IsHosted (item ∷ log) journal = (before : List Entry) × IsHosted log before × IsHostedIn item.event item.reply before journal

-- ---- all of it

-- every item of a log is so
abbrev pub AreFine : List Item → Type 0
AreFine [] = ⊤
AreFine (item ∷ log) = IsFine item.reply × AreFine log

pub record HappensOnce (h : History) : Type 0 where
  -- no two entries of the rump kernel's journal were made for the same, and none of the host's
  pub own : HasOwnKeys h.world.rump.journal
  pub own_host : HasOwnKeys h.world.host
  -- an entry is what the one event asked for that asked for its number
  pub performs : (c : ConnNo) (r : ReqNo) (place : ℕ) (e : Entry) → StandsAt h.world.rump.journal c r place e
      → Performs h.world.rump h.log c r e
  -- what is collected is what the entry gives, and what is refused has none
  pub replies : (c : ConnNo) (r : ReqNo) (answer : ClientReply) → IsIn answer (told c r.0 h.log) → IsReplyOf h c r answer
  -- a request is answered once
  pub once : (c : ConnNo) (r : ReqNo) (first second : ClientReply) (more : List ClientReply) → told c r.0 h.log ≢ first ∷ second ∷ more
  -- no side finds the other one out of its mind
  pub fine : AreFine h.log
  -- a client says that its link is gone only where it broke
  pub lost : (item : Item) (c : ConnNo) → IsIn item h.log → lost_on item.event item.reply ≡ Some c → 0 < faults_of (get h.world.links c.0)
  -- host entries and the replies of the host's kernel are one to one, in order, and each reply is what is seen of its entry
  pub hosted : IsHosted h.log h.world.host
  -- each connection speaks for the process that it was given, and each cookie is used once at the most
  pub owners : HasOwners h.world.rump
