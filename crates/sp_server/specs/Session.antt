-- How far a session is: an aid of the contracts behind the public one.
use Rattle.std.specs.Prelude.{◌≡◌, ◌≢◌, ◌⊎◌, ℕ, ◌≤◌, Bool, true, Option, Some, None, List, [], ◌∷◌, ◌++◌, length, take, count_by, Result, Ok, Err, IsErrOf, ⊤}
use Rattle.std.specs.List.{flat_map}
use Rattle.std.specs.Io.KnownBytes.{Appends}
use Rattle.sp_base.specs.declared.names.ConnNo.{ConnNo}
use Rattle.sp_base.specs.declared.names.ReqNo.{ReqNo}
use Rattle.sp_io.specs.Causes.{Rose}
use Rattle.sp_frames.specs.declared.fault.FrameFault.{FrameFault}
use Rattle.sp_frames.specs.declared.fault.FrameFault.TheVariants as frame_fault
use Rattle.sp_frames.specs.declared.frame.Frame.{Frame}
use Rattle.sp_frames.specs.Fields.{IsBytes}
use Rattle.sp_frames.specs.Banner.{banner}
use Rattle.sp_frames.specs.Grammar.{spelling}
use Rattle.sp_frames.specs.Framing.{Held, Follows, IsStop}
use Rattle.sp_frames.specs.Stream.{IsWhole}
use Rattle.kern_model.specs.Journal.{IsNew}
use Rattle.kern_model.specs.declared.journal.Who.TheVariants.{Request}
use Rattle.hub_model.specs.declared.event.Finish.{Finish}
use Rattle.hub_model.specs.Sound.{IsSound}
use Rattle.hub_model.specs.State.{Machine}
use Rattle.sp_server.specs.declared.session.Session.{Session}
use Rattle.sp_server.specs.declared.session.Stop.{Stop}
use Rattle.sp_server.specs.declared.session.Stop.TheVariants as stop
use Rattle.sp_server.specs.declared.stdio.StdioEnd.{StdioEnd}
use Rattle.sp_server.specs.declared.stdio.StdioEnd.TheVariants.{OutputFault, SaltFault, NoMemory}
use Rattle.sp_server.specs.Serving.{Server, server_of, worked, performs, AreOpen, AreRounds, HandsOut}
use Rattle.sp_server.specs.Stdio.{connection, at_start, most_input, takes_salt, AreSaltsOf, salt_for, AnswersFrame, Answers, IsStdioOut, IsUnsalted, Serves}

-- the count never fell, and this stop comes only where it rose
pub record HasStopCause {T : Type 0} (why : Stop) (before now : ℕ) (result : Result T Stop) : Type 0 where
  pub later : before ≤ now
  pub failed : IsErrOf result why → Rose before now

-- the end that a stop is
abbrev pub end_of : Stop → StdioEnd
end_of stop.Output = OutputFault
end_of stop.Salt = SaltFault
end_of stop.NoMemory = NoMemory

-- the end of a run that is stopped or not
abbrev pub outcome : Result StdioEnd Stop → StdioEnd
outcome (Ok end) = end
outcome (Err stop) = end_of stop

-- salts were drawn and a text was written, of which this holds
abbrev pub Moves : Option (List ℕ) → Option (List ℕ) → Option (List ℕ) → Option (List ℕ) → (List ℕ → List ℕ → Type 0) → Type 0
Moves drawn drawn' held held' holds = (salts : List ℕ) × (text : List ℕ) × Appends drawn drawn' salts × Appends held held' text × holds salts text

-- ---- want of memory

-- these calls can be refused for memory from now on: the first of them wasn't performed yet
abbrev pub MayRefuse : ConnNo → Machine → List ReqNo → Type 0
MayRefuse c m [] = ⊤
MayRefuse c m (r ∷ refused) = IsNew (Request c r) m.journal

-- a step of the server, with calls that it refuses for memory, whichever are refused later; it keeps the server sound
pub record Proceeds (c : ConnNo) (step : Server → Server → Type 0) (m m' : Machine) : Type 0 where
  pub keeps : IsSound m → IsSound m'
  pub steps : IsSound m → (later : List ReqNo) → MayRefuse c m' later
      → (refused : List ReqNo) × MayRefuse c m refused × step (server_of m refused) (server_of m' later)

-- a round of work, in which a call is performed or none is
abbrev pub IsRound : ConnNo → Bool → Server → Server → Type 0
IsRound c again s s' = (numbers : List ReqNo) × AreOpen s c (record { 0 = 0 }) numbers × (s' ≡ worked s c numbers) × (again ≡ performs s c numbers)

-- rounds of work until no call can be performed
abbrev pub AreAllRounds : ConnNo → Server → Server → Type 0
AreAllRounds c s s' = (rounds : List (List ReqNo)) × AreRounds s c true rounds s'

-- ---- how far a session is

-- this is written for frames with these salts, whichever calls are refused later
pub record AnswersSoFar (frames : List Frame) (salts text : List ℕ) (m : Machine) : Type 0 where
  pub as_many : AreSaltsOf frames salts
  pub answers : Proceeds connection (λ s s'. Answers s frames salts text s') at_start m

-- this is written for a frame with its salt, if it takes one, whichever calls are refused later
pub record AnswersOne (m : Machine) (f : Frame) (salts text : List ℕ) (m' : Machine) : Type 0 where
  pub as_many : AreSaltsOf (f ∷ []) salts
  pub answers : Proceeds connection (λ s s'. AnswersFrame s f (salt_for f salts) text s') m m'

-- some of the frames that the input gave are answered, and the others are ready
pub record IsBehind (held : Held) (m : Machine) (input salts text : List ℕ) : Type 0 where
  pub handed : List Frame
  pub body : List ℕ
  pub follows : Follows input handed held
  pub answers : AnswersSoFar handed salts body m
  pub begins : text ≡ banner ++ body

-- the whole frames of the input are answered, and bytes are left behind them
pub record IsAnsweredSoFar (input salts text rest : List ℕ) (m : Machine) : Type 0 where
  pub frames : List Frame
  pub body : List ℕ
  pub whole : IsWhole input frames rest
  pub answers : AnswersSoFar frames salts body m
  pub begins : text ≡ banner ++ body

-- the session was fed this input, has drawn these salts and has written this text: all whole frames are answered, and behind them stands
-- this fault or none
pub record IsAt (s : Session) (fault : Option FrameFault) (input salts text : List ℕ) : Type 0 where
  pub answered : IsAnsweredSoFar input salts text s.framer.rest s.hub
  pub ready : s.framer.ready ≡ []
  pub stopped : s.framer.stop ≡ fault
  pub met : IsStop fault s.framer.rest
  pub fed : s.fed ≡ length input
  pub within : length input ≤ most_input
  pub octets : IsBytes input

-- what a framer answered to bytes, by the fault that it met there; want of memory is none
abbrev pub IsMet : Result Unit FrameFault → Option FrameFault → Type 0
IsMet (Ok u) None = ⊤
IsMet (Ok u) (Some fault) = ⊥
IsMet (Err e) None = ⊥
IsMet (Err e) (Some fault) = (e ≡ fault) × (e ≢ frame_fault.NoMemory)

-- ---- where a session stops

-- nothing, or first bytes of all that is queued, is written
abbrev pub IsQueueFront : Machine → List ℕ → Type 0
IsQueueFront m text = (text ≡ []) ⊎ (frames : List Frame) × (m' : Machine) × (count : ℕ) × HandsOut m connection frames m' × (text ≡ take count (flat_map spelling frames))

-- a frame has its salt, if it takes one, and nothing, or first bytes of what is to be written for it, is written
pub record IsAnswerFront (m : Machine) (f : Frame) (salts text : List ℕ) : Type 0 where
  pub as_many : AreSaltsOf (f ∷ []) salts
  pub front : (text ≡ []) ⊎ (whole : List ℕ) × (m' : Machine) × (count : ℕ) × AnswersOne m f salts whole m' × (text ≡ take count whole)

-- a frame isn't answered: the salt that it takes isn't drawn and nothing is written, or what is written is cut off
abbrev pub StopsOne : Stop → Machine → Frame → List ℕ → List ℕ → Type 0
StopsOne stop.Salt m f salts text = (takes_salt f.body ≡ true) × (salts ≡ []) × (text ≡ [])
StopsOne _ m f salts text = IsAnswerFront m f salts text

-- what is written for first frames of a front of the input; some salts of those behind them may be drawn
pub record IsBegun (input salts text : List ℕ) : Type 0 where
  pub front : List ℕ
  pub more : List ℕ
  pub frames : List Frame
  pub later : List Frame
  pub rest : List ℕ
  pub body : List ℕ
  pub used : List ℕ
  pub unused : List ℕ
  pub refused : List ReqNo
  pub last : Machine
  pub is : input ≡ front ++ more
  pub whole : IsWhole front (frames ++ later) rest
  pub drawn : salts ≡ used ++ unused
  pub as_many : AreSaltsOf frames used
  pub few : length unused ≤ count_by (λ f. takes_salt f.body) later
  pub answers : Answers (server_of at_start refused) frames used body (server_of last [])
  pub begins : text ≡ banner ++ body

-- what is written for all of the input and its end
pub record IsAllOf (input salts text : List ℕ) : Type 0 where
  pub how : Finish
  pub offset : ℕ
  pub refused : List ReqNo
  pub out : IsStdioOut input salts refused how offset text

-- first bytes of what is written for first frames, or for all of the input and its end
pub record IsPart (input salts text : List ℕ) : Type 0 where
  pub whole : List ℕ
  pub count : ℕ
  pub written : IsBegun input salts whole ⊎ IsAllOf input salts whole
  pub cut : text ≡ take count whole

-- what is written where a session stops: all for the frames before the one whose salt failed, or a part of what is to be written
abbrev pub IsStopText : Stop → List ℕ → List ℕ → List ℕ → Type 0
IsStopText stop.Salt input salts text = (refused : List ReqNo) × IsUnsalted input salts refused text
IsStopText _ input salts text = IsPart input salts text

-- behind what was written before, first bytes of what is to be written for the input are written
abbrev pub IsPartBehind : List ℕ → List ℕ → List ℕ → Option (List ℕ) → Option (List ℕ) → Type 0
IsPartBehind input salts before held held' = (text : List ℕ) × Appends held held' text × IsPart input salts (before ++ text)

-- behind what was written before, all is written that this end of the input asks for
abbrev pub IsOutBehind : List ℕ → List ℕ → Finish → ℕ → List ℕ → Option (List ℕ) → Option (List ℕ) → Type 0
IsOutBehind input salts how offset before held held' =
    (text : List ℕ) × Appends held held' text × (refused : List ReqNo) × IsStdioOut input salts refused how offset (before ++ text)

-- this is written for the input with these salts, where it ends like this
abbrev pub IsServedBy : StdioEnd → List ℕ → List ℕ → List ℕ → Type 0
IsServedBy end input salts text = (refused : List ReqNo) × Serves end input salts refused text
