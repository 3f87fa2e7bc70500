-- The stages of a request over a link that isn't broken.
use Rattle.std.proofs.Common.{◌≡◌, ℕ, ◌+◌, ◌<◌, Bool, true, false, List, [], ◌∷◌, ◌++◌, length, drop, Option, Some, None}
use Rattle.std.specs.Prelude.{⊤, slice_get}
use Rattle.std.specs.List.{AllByRecursion}
use Rattle.sp_base.specs.Call.{call_number, IsProper}
use Rattle.sp_base.specs.Needs.{needs_of, outs_of}
use Rattle.sp_base.specs.declared.call.Call.{Call}
use Rattle.sp_base.specs.declared.errno.Errno.{Errno}
use Rattle.sp_base.specs.declared.names.ConnNo.{ConnNo}
use Rattle.sp_base.specs.declared.names.Pid.{Pid}
use Rattle.sp_base.specs.declared.need.Need.{Need}
use Rattle.sp_base.specs.declared.need.Range.{Range}
use Rattle.sp_copy.specs.Delivering.{put_pieces}
use Rattle.sp_copy.specs.Gathering.{gather, gathered}
use Rattle.sp_copy.specs.Writing.{ChangesOnly}
use Rattle.sp_copy.specs.declared.delivery.Delivery.{Delivery}
use Rattle.sp_copy.specs.declared.part.Part.{Part}
use Rattle.sp_copy.proofs.Pieces.{after_pieces}
use Rattle.sp_frames.specs.declared.frame.Body.{Body}
use Rattle.sp_frames.specs.declared.frame.Body.TheVariants as body
use Rattle.kern_model.specs.declared.journal.Entry.{Entry}
use Rattle.kern_model.specs.declared.operation.Ins.TheVariants.{Fault}
use Rattle.kern_model.specs.declared.operation.Op.TheVariants as op
use Rattle.kern_model.specs.declared.outcome.OutPiece.{OutPiece}
use Rattle.hub_model.specs.Frames.{answer_at, ask, ask_body, puts_from}
use Rattle.hub_model.specs.Verdict.{is_later_call}
use Rattle.hub_model.specs.declared.state.OpenCall.TheVariants.{Gathers, Fails}
use Rattle.hub_law.specs.Serves.{StandsAt}
use Rattle.hub_law.proofs.Keys.{HasNone, IsOnly}
use Rattle.client_model.specs.Asks.{copy_of}
use Rattle.client_model.specs.Fitness.{kind_of}
use Rattle.client_model.specs.Requests.{call_body, collected}
use Rattle.client_model.specs.State.{Open}
use Rattle.client_model.specs.declared.event.Reply.{Reply as ClientReply}
use Rattle.client_model.specs.declared.request.Request.{Request}
use Rattle.client_model.specs.declared.request.Request.TheVariants as request
use Rattle.client_model.specs.declared.request.Response.{Response}
use Rattle.client_model.specs.declared.request.Response.TheVariants as response
use Rattle.link_model.specs.Direct.{pieces_of, reads}
use Rattle.link_model.proofs.Ranges.{IsInside}
use Rattle.world_model.specs.Host.{read_for}
use Rattle.world_model.specs.Log.{Ask}
use Rattle.world_model.specs.Once.{AttachedOf, ForkedOf, ImagedOf, IsOpOf, may_change}
use Rattle.world_model.proofs.Slice.{Slice, frame_of, number}

-- ---- the stages

-- a call, the memory that was lent for it, and the indexes that were asked for
pub record Calling : Type 0 where
  pub call : Call
  pub mem : List Part
  pub indexes : List ℕ

-- nothing happened; its frame is under way; it is gathered at the server; an ask is under way, and then a copy; its asking has ended with an error; what
-- tells its end is under way; that has come to the client; it was collected
pub data Stage : Type 0 where
  Fresh : Stage
  Sent : (ask : Ask) → (says : Body) → Stage
  Held : (a : Calling) → (got : List (List ℕ)) → Stage
  Asking : (a : Calling) → (got : List (List ℕ)) → (need : Need) → Stage
  Copying : (a : Calling) → (got : List (List ℕ)) → (need : Need) → Stage
  Failing : (a : Calling) → (why : Errno) → Stage
  Telling : (ask : Ask) → (indexes : List ℕ) → (now : Delivery) → (index : ℕ) → (todo : List OutPiece) → (says : Body) → Stage
  Told : (ask : Ask) → (indexes : List ℕ) → (now : Delivery) → (what : Response) → Stage
  Closed : (ask : Ask) → (answer : ClientReply) → Stage

-- what a call asks
abbrev pub ask_of : Calling → Ask
ask_of a = record { what = request.Call a.call; mem = a.mem }

-- a memory before anything is written into it
abbrev pub untouched : List Part → Delivery
untouched mem = record { mem = mem; whole = true }

-- the open request at the client
abbrev pub open_of : Ask → Delivery → List ℕ → Option Response → Open
open_of ask now indexes answered = record { request = ask.what; delivery = now; asked = indexes; response = answered }

-- while a call is gathered
abbrev pub gathering : Calling → List ℕ → Slice → Slice
gathering a indexes σ = record σ { asked = ask_of a ∷ []; told = []; request = Some (open_of (ask_of a) (untouched a.mem) indexes None) }

-- nothing of a request
abbrev pub nothing : Slice
nothing = record { asked = []; told = []; request = None; up = []; task = None; down = [] }

-- what there is of a request at a stage
abbrev pub shape : ℕ → Stage → Slice
shape n Fresh = nothing
shape n (Sent ask says) = record nothing {
  asked = ask ∷ [];
  request = Some (open_of ask (untouched ask.mem) [] None);
  up = frame_of n says ∷ [];
}
shape n (Held a got) = gathering a a.indexes (record nothing { task = Some (Gathers a.call got false) })
shape n (Asking a got need) = gathering a a.indexes (record nothing { task = Some (Gathers a.call got true); down = ask (number n) (length got) need ∷ [] })
shape n (Copying a got need) =
    gathering a a.indexes (record nothing { task = Some (Gathers a.call got true); up = frame_of n (copy_of a.mem (ask_body (length got) need)) ∷ [] })
shape n (Failing a why) = gathering a a.indexes (record nothing { task = Some (Fails a.call why) })
shape n (Telling ask indexes now index todo says) = record nothing {
  asked = ask ∷ [];
  request = Some (open_of ask now indexes None);
  down = puts_from (number n) index todo ++ frame_of n says ∷ [];
}
shape n (Told ask indexes now what) = record nothing { asked = ask ∷ []; request = Some (open_of ask now indexes (Some what)) }
shape n (Closed ask answer) = record nothing { asked = ask ∷ []; told = answer ∷ [] }

-- ---- what holds at a stage

-- the frame of a request says what was asked; a call is one that the server takes by now
abbrev pub IsBodyOf : Request → Body → Type 0
IsBodyOf request.Attach (body.Guest name) = ⊤
IsBodyOf request.Join (body.Join cookie name) = ⊤
IsBodyOf request.Image (body.Image cookie name) = ⊤
IsBodyOf (request.Call call) (body.Sys num words) = (body.Sys num words ≡ call_body call) × IsProper call × (is_later_call (call_number call) ≡ false)
IsBodyOf request.Prefork body.Prefork = ⊤
IsBodyOf request.Cancel (body.Cancel cookie) = ⊤
IsBodyOf request.Preexec body.Preexec = ⊤
IsBodyOf _ _ = ⊥

-- a handshake is request 1, and no other request is
abbrev pub IsNumberOf : Request → ℕ → Type 0
IsNumberOf request.Attach n = n ≡ 1
IsNumberOf request.Join n = n ≡ 1
IsNumberOf request.Image n = n ≡ 1
IsNumberOf _ n = 1 < n

-- the response that a frame brings
abbrev pub response_in : Body → Option Response
response_in (body.Answered answer) = Some (response.Answered answer)
response_in (body.Refused kind why) = Some (response.Refused why)
response_in (body.Hello pid) = Some (response.Joined pid)
response_in (body.Joined pid) = Some (response.Joined pid)
response_in (body.Imaged pid place) = Some (response.Imaged pid place)
response_in (body.Forked cookie place pid) = Some (response.Forked cookie place pid)
response_in body.Cancelled = Some response.Cancelled
response_in (body.ExecReady cookie) = Some (response.ExecReady cookie)
response_in _ = None

-- the type of a request, as its error names it
abbrev pub type_of : Request → ℕ
type_of (request.Call call) = 1
type_of other = kind_of other

-- a frame answers a request in kind
abbrev pub IsAnswerTo : Request → Body → Type 0
IsAnswerTo request.Attach (body.Hello pid) = ⊤
IsAnswerTo request.Join (body.Joined pid) = ⊤
IsAnswerTo request.Image (body.Imaged pid place) = ⊤
IsAnswerTo (request.Call call) (body.Answered answer) = ⊤
IsAnswerTo request.Prefork (body.Forked cookie place pid) = ⊤
IsAnswerTo request.Cancel body.Cancelled = ⊤
IsAnswerTo request.Preexec (body.ExecReady cookie) = ⊤
IsAnswerTo what (body.Refused kind why) = kind ≡ type_of what
IsAnswerTo _ _ = ⊥

-- an entry is that of a request, and the only one
pub record IsEntryOf (journal : List Entry) (c : ConnNo) (n : ℕ) (ask : Ask) (place : ℕ) (e : Entry) : Type 0 where
  pub stands : StandsAt journal c (number n) place e
  pub only : IsOnly journal c (number n) place
  pub operation : IsOpOf ask.what e.op
  pub reads : e.ins ≡ read_for e.op ask.mem

-- a request has no entry, or just its own
pub data Entered (journal : List Entry) (c : ConnNo) (n : ℕ) (ask : Ask) : Type 0 where
  NotYet : HasNone journal c (number n) → Entered journal c n ask
  Once : (place : ℕ) → (e : Entry) → IsEntryOf journal c n ask place e → Entered journal c n ask

-- a call was performed: its entry stands at the answer's place, and what it writes is what is delivered
pub record IsDelivered (journal : List Entry) (c : ConnNo) (n : ℕ) (ask : Ask) (place : ℕ) (whole : Delivery) : Type 0 where
  pub call : Call
  pub calls : ask.what ≡ request.Call call
  pub entry : Entry
  pub of : IsEntryOf journal c n ask place entry
  pub delivers : whole ≡ put_pieces (untouched ask.mem) (pieces_of entry.outcome.outs)

-- nothing was performed, and the memory is as it was
pub record IsUndone (journal : List Entry) (c : ConnNo) (n : ℕ) (ask : Ask) (whole : Delivery) : Type 0 where
  pub none : HasNone journal c (number n)
  pub same : whole ≡ untouched ask.mem

-- the response of a guest's or a child's handshake
abbrev pub IsJoined : Request → List Entry → ConnNo → ℕ → Pid → Type 0
IsJoined request.Attach journal c n pid = AttachedOf journal c (number n) pid
IsJoined request.Join journal c n pid = HasNone journal c (number n)
IsJoined _ journal c n pid = ⊥

-- a response, and the delivery that comes with it, are what the request comes to
abbrev pub IsRight : List Entry → ConnNo → ℕ → Ask → Delivery → Response → Type 0
IsRight journal c n ask whole (response.Answered answer) =
    (d : IsDelivered journal c n ask answer.place.0 whole) × (answer ≡ answer_at d.entry.outcome answer.place.0)
IsRight journal c n ask whole (response.Joined pid) = IsJoined ask.what journal c n pid
IsRight journal c n ask whole (response.Imaged pid place) = ImagedOf journal c (number n) place pid
IsRight journal c n ask whole (response.Forked cookie place pid) = ForkedOf journal c (number n) place pid
IsRight journal c n ask whole response.Cancelled = HasNone journal c (number n)
IsRight journal c n ask whole (response.ExecReady cookie) = HasNone journal c (number n)
IsRight journal c n ask whole (response.Refused why) = IsUndone journal c n ask whole

-- what was got and what is still to be gathered is all that the call reads
abbrev pub IsFront : Call → List Part → List (List ℕ) → Type 0
IsFront call mem got = after_pieces got (gathered mem (drop (length got) (needs_of call))) ≡ gather call mem

-- a call is gathered: what it got is a front of what it reads, only indexes below a number were asked for, and it has no entry
pub record IsGathering (journal : List Entry) (c : ConnNo) (n : ℕ) (a : Calling) (got : List (List ℕ)) (bound : ℕ) : Type 0 where
  pub later : 1 < n
  pub front : IsFront a.call a.mem got
  pub below : AllByRecursion (λ i. i < bound) a.indexes
  pub none : HasNone journal c (number n)

-- the same, where a need was asked for
pub record IsAsking (journal : List Entry) (c : ConnNo) (n : ℕ) (a : Calling) (got : List (List ℕ)) (need : Need) (bound : ℕ) : Type 0 where
  pub gathering : IsGathering journal c n a got bound
  pub next : slice_get (needs_of a.call) (length got) ≡ Some need

-- a call's asking has ended with the error that its gathering ends with
pub record IsFailing (journal : List Entry) (c : ConnNo) (n : ℕ) (a : Calling) (why : Errno) : Type 0 where
  pub later : 1 < n
  pub fails : reads a.call a.mem ≡ Fault why
  pub none : HasNone journal c (number n)

-- a call's ranges; nothing else writes
abbrev pub ranges_of : Request → List Range
ranges_of (request.Call call) = outs_of call
ranges_of _ = []

-- what tells a request's end is under way: what is left to write gives the whole, and lies inside the call's ranges; the response is right with it
pub record IsTelling (journal : List Entry) (c : ConnNo) (n : ℕ) (ask : Ask) (now : Delivery) (todo : List OutPiece) (says : Body) : Type 0 where
  pub number : IsNumberOf ask.what n
  pub entered : Entered journal c n ask
  pub kind : IsAnswerTo ask.what says
  pub inside : AllByRecursion (IsInside (ranges_of ask.what)) todo
  pub changes : ChangesOnly (may_change ask.what) ask.mem now.mem
  pub what : Response
  pub brings : response_in says ≡ Some what
  pub right : IsRight journal c n ask (put_pieces now (pieces_of todo)) what

-- the response is there
pub record IsTold (journal : List Entry) (c : ConnNo) (n : ℕ) (ask : Ask) (now : Delivery) (what : Response) : Type 0 where
  pub entered : Entered journal c n ask
  pub right : IsRight journal c n ask now what

-- the reply that closed a request came from a response that was right
pub record IsClosed (journal : List Entry) (c : ConnNo) (n : ℕ) (ask : Ask) (answer : ClientReply) : Type 0 where
  pub whole : Delivery
  pub what : Response
  pub told : IsTold journal c n ask whole what
  pub reply : answer ≡ collected what whole

-- what holds at a stage
abbrev pub Fact : List Entry → ConnNo → ℕ → Stage → Type 0
Fact journal c n Fresh = HasNone journal c (number n)
Fact journal c n (Sent ask says) = IsBodyOf ask.what says × IsNumberOf ask.what n × HasNone journal c (number n)
Fact journal c n (Held a got) = IsGathering journal c n a got (length got)
Fact journal c n (Asking a got need) = IsAsking journal c n a got need (length got)
Fact journal c n (Copying a got need) = IsAsking journal c n a got need (length got + 1)
Fact journal c n (Failing a why) = IsFailing journal c n a why
Fact journal c n (Telling ask indexes now index todo says) = IsTelling journal c n ask now todo says
Fact journal c n (Told ask indexes now what) = IsTold journal c n ask now what
Fact journal c n (Closed ask answer) = IsClosed journal c n ask answer

-- a request is at a stage
pub record At (journal : List Entry) (c : ConnNo) (n : ℕ) (σ : Slice) (s : Stage) : Type 0 where
  pub asked : σ.asked ≡ (shape n s).asked
  pub told : σ.told ≡ (shape n s).told
  pub request : σ.request ≡ (shape n s).request
  pub up : σ.up ≡ (shape n s).up
  pub task : σ.task ≡ (shape n s).task
  pub down : σ.down ≡ (shape n s).down
  pub fact : Fact journal c n s

-- a request is at some stage
abbrev pub Stands : List Entry → ConnNo → ℕ → Slice → Type 0
Stands journal c n σ = (s : Stage) × At journal c n σ s
