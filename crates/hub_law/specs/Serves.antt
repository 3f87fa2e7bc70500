-- What a server's journal and the frames that it sends have to do with the frames that came.
use Rattle.std.specs.Prelude.{◌≡◌, ◌≢◌, ◌⊎◌, ⊤, ℕ, ◌+◌, ◌≤◌, false, List, [], ◌∷◌, ◌++◌, length, take, slice_get, Some}
use Rattle.std.specs.List.{AllByRecursion}
use Rattle.sp_base.specs.Call.{call_of}
use Rattle.sp_base.specs.Needs.{needs_of}
use Rattle.sp_base.specs.declared.call.Call.{Call}
use Rattle.sp_base.specs.declared.names.ConnNo.{ConnNo}
use Rattle.sp_base.specs.declared.names.Cookie.{Cookie}
use Rattle.sp_base.specs.declared.names.Pid.{Pid}
use Rattle.sp_base.specs.declared.names.ReqNo.{ReqNo}
use Rattle.sp_base.specs.declared.names.SpError.{SpError}
use Rattle.sp_base.specs.declared.names.SpError.TheVariants as error
use Rattle.sp_base.specs.declared.need.Need.{Need}
use Rattle.sp_frames.specs.declared.frame.Body.{Body}
use Rattle.sp_frames.specs.declared.frame.Body.TheVariants as body
use Rattle.sp_frames.specs.declared.frame.Frame.{Frame}
use Rattle.kern_model.specs.Journal.{IsLegal, HasOwnKeys}
use Rattle.kern_model.specs.declared.journal.Entry.{Entry}
use Rattle.kern_model.specs.declared.journal.Who.TheVariants.{Request}
use Rattle.kern_model.specs.declared.operation.Ins.{Ins}
use Rattle.kern_model.specs.declared.operation.Ins.TheVariants.{Given, Fault}
use Rattle.kern_model.specs.declared.operation.Op.{Op}
use Rattle.kern_model.specs.declared.operation.Op.TheVariants as op
use Rattle.hub_model.specs.Frames.{answered_kind, ask, cancelled, exec_ready, forked, hello, imaged, joined, refusal, told}
use Rattle.hub_model.specs.Requests.{bytes_in}
use Rattle.hub_model.specs.Run.{Exchange}
use Rattle.hub_model.specs.Verdict.{copy_by_error, error_in, index_in}
use Rattle.hub_model.specs.declared.verdict.Verdict.TheVariants.{CopyFault}
use Rattle.hub_law.specs.Frames.{answers_to, came, is_last_error, numbered, sent}

-- ---- what comes

-- a request asks for an operation
abbrev pub AsksFor : Body → Op → Type 0
AsksFor (body.Guest name) op.Attach = ⊤
AsksFor (body.Image cookie name) op.Exec = ⊤
AsksFor body.Prefork op.Fork = ⊤
AsksFor (body.Sys num words) (op.Sys call) = call ≡ call_of num words
AsksFor _ _ = ⊥

-- a copy of this index brings these bytes
pub record Brings (index : ℕ) (b : Body) (bytes : List ℕ) : Type 0 where
  pub of : index_in b ≡ Some index
  pub fine : error_in b ≡ 0
  pub bytes_are : bytes_in b ≡ bytes

-- copies of rising index bring these pieces, counted from an index on
abbrev pub BringAll : ℕ → List Frame → List (List ℕ) → Type 0
BringAll index [] [] = ⊤
BringAll index (f ∷ copies) (bytes ∷ got) = Brings index f.body bytes × BringAll (index + 1) copies got
BringAll index _ _ = ⊥

-- copies bring what an operation read: all of its pieces; or some of them, and then an error
abbrev pub BringIns : List Frame → Ins → Type 0
BringIns copies (Given got) = BringAll 0 copies got
BringIns copies (Fault why) = (before : List Frame) × (got : List (List ℕ)) × (last : Frame) × (copies ≡ before ++ last ∷ [])
    × BringAll 0 before got × (index_in last.body ≡ Some (length got)) × (copy_by_error (error_in last.body) ≡ CopyFault why)

-- ---- what goes out

-- an ask for each need, counted from an index on
abbrev pub asks_from : ReqNo → ℕ → List Need → List Frame
asks_from r index [] = []
asks_from r index (need ∷ needs) = ask r index need ∷ asks_from r (index + 1) needs

-- the needs of an operation: only calls read
abbrev pub needs_in : Op → List Need
needs_in (op.Sys call) = needs_of call
needs_in _ = []

-- asks for the first so many needs of an operation
abbrev pub first_asks : ReqNo → ℕ → Op → List Frame
first_asks r count operation = asks_from r 0 (take count (needs_in operation))

-- frames tell the client what its entry says
abbrev pub Tells : ReqNo → ℕ → Entry → Op → List Frame → Type 0
Tells r place e op.Attach frames = frames ≡ hello r e.outcome.ret0 ∷ []
Tells r place e op.Fork frames = (cookie : Cookie) × (frames ≡ forked r cookie place (record { 0 = e.outcome.ret0 }) ∷ [])
Tells r place e op.Exec frames = frames ≡ imaged r e.pid place ∷ []
Tells r place e (op.Sys call) frames = frames ≡ told r e.outcome place
Tells r place e op.Exit frames = ⊥

-- some fork made the process
abbrev pub IsForked : List Entry → Pid → Type 0
IsForked journal pid = (place : ℕ) × (e : Entry) × (slice_get journal place ≡ Some e) × (e.op ≡ op.Fork) × (e.outcome.ret0 ≡ pid.0)

-- a frame answers a handover that has no entry: with a forked process to speak for, with a cookie, or that one was taken back
abbrev pub AnswersHandover : List Entry → ReqNo → Body → Frame → Type 0
AnswersHandover journal r (body.Join cookie name) f = (pid : Pid) × IsForked journal pid × (f ≡ joined r pid)
AnswersHandover journal r body.Preexec f = (cookie : Cookie) × (f ≡ exec_ready r cookie)
AnswersHandover journal r (body.Cancel cookie) f = f ≡ cancelled r
AnswersHandover journal r _ f = ⊥

-- a frame refuses a request with an error, which isn't the last one of a connection
abbrev pub Refuses : ReqNo → Body → Frame → Type 0
Refuses r request f = (kind : ℕ) × (why : SpError) × (answered_kind request ≡ Some kind) × (why ≢ error.Malformed) × (f ≡ refusal r kind why)

-- a frame answers a request that has no entry: with an error, or what its handover gives
abbrev pub Answers : List Entry → ReqNo → Body → Frame → Type 0
Answers journal r request f = Refuses r request f ⊎ AnswersHandover journal r request f

-- ---- one request

-- an entry of a request: the first frame of its number asked for its operation, and the copies behind that brought what it read; what was sent
-- under the number is, perhaps cut short, an ask for each copy and then what the entry says
pub record IsServed (r : ReqNo) (place : ℕ) (e : Entry) (frames answers : List Frame) : Type 0 where
  pub request : Frame
  pub copies : List Frame
  pub later : List Frame
  pub comes : frames ≡ request ∷ (copies ++ later)
  pub asks : AsksFor request.body e.op
  pub brings : BringIns copies e.ins
  pub says : List Frame
  pub tells : Tells r place e e.op says
  pub rest : List Frame
  pub goes : answers ++ rest ≡ first_asks r (length copies) e.op ++ says

-- what is said to a request that has no entry, behind its asks: nothing yet, or an answer
abbrev pub IsSaid : List Entry → ReqNo → Body → List Frame → Type 0
IsSaid journal r request says = (says ≡ []) ⊎ ((f : Frame) × (says ≡ f ∷ []) × Answers journal r request f)

-- a call that has no entry: the copies behind its request brought some of what it reads, or then an error; its needs were asked for
-- in order, each one once, and the next one only when the copy of the one before had come
pub record IsOpen (journal : List Entry) (r : ReqNo) (frames answers : List Frame) : Type 0 where
  pub request : Frame
  pub call : Call
  pub copies : List Frame
  pub later : List Frame
  pub comes : frames ≡ request ∷ (copies ++ later)
  pub asks : AsksFor request.body (op.Sys call)
  pub ins : Ins
  pub brings : BringIns copies ins
  pub count : ℕ
  pub next : count ≤ length copies + 1
  pub says : List Frame
  pub said : IsSaid journal r request.body says
  pub rest : List Frame
  pub goes : answers ++ rest ≡ first_asks r count (op.Sys call) ++ says

-- a request other than a call that has no entry: it is answered at most once
pub record IsSettled (journal : List Entry) (r : ReqNo) (frames answers : List Frame) : Type 0 where
  pub request : Frame
  pub later : List Frame
  pub comes : frames ≡ request ∷ later
  pub says : List Frame
  pub said : IsSaid journal r request.body says
  pub rest : List Frame
  pub goes : answers ++ rest ≡ says

-- a number that has no entry: nothing is sent under it, or it is that of an open call, or of a request that is settled
abbrev pub IsUnserved : List Entry → ReqNo → List Frame → List Frame → Type 0
IsUnserved journal r frames answers = (answers ≡ []) ⊎ IsOpen journal r frames answers ⊎ IsSettled journal r frames answers

-- ---- all of them

-- the entry of a request stands at a place
abbrev pub StandsAt : List Entry → ConnNo → ReqNo → ℕ → Entry → Type 0
StandsAt journal c r place e = (slice_get journal place ≡ Some e) × (e.who ≡ Request c r)

-- the error Malformed is sent at most once, and last
abbrev pub HasOneLast : List Frame → Type 0
HasOneLast frames = (front : List Frame) × (last : List Frame) × (frames ≡ front ++ last)
    × AllByRecursion (λ f. is_last_error f.body ≡ false) front × ((last ≡ []) ⊎ ((f : Frame) × (last ≡ f ∷ [])))

-- the journal and what is sent agree with what came
pub record Agrees (exchanges : List Exchange) (journal : List Entry) : Type 0 where
  pub legal : IsLegal journal
  -- no two entries are of the same request
  pub keys : HasOwnKeys journal
  pub served : (c : ConnNo) (r : ReqNo) (place : ℕ) (e : Entry) → StandsAt journal c r place e
      → IsServed r place e (numbered r.0 (came c exchanges)) (answers_to r.0 (sent c exchanges))
  pub unserved : (c : ConnNo) (r : ReqNo) → ((place : ℕ) (e : Entry) → StandsAt journal c r place e → ⊥)
      → IsUnserved journal r (numbered r.0 (came c exchanges)) (answers_to r.0 (sent c exchanges))
  pub last : (c : ConnNo) → HasOneLast (sent c exchanges)
