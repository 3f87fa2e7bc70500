-- What is written to standard output for what standard input gives.
use Rattle.std.specs.Prelude.{◌≡◌, ◌≢◌, ℕ, ◌+◌, ◌^◌, ◌≤◌, ◌<◌, Bool, true, false, Option, List, [], ◌∷◌, ◌++◌, length, take, count_by, if◌then◌else◌}
use Rattle.std.specs.List.{flat_map}
use Rattle.std.specs.Io.KnownBytes.{Appends, Consumes}
use Rattle.sp_io.specs.Whole.{IsAll}
use Rattle.sp_base.specs.declared.names.ConnNo.{ConnNo}
use Rattle.sp_base.specs.declared.names.ReqNo.{ReqNo}
use Rattle.sp_frames.specs.declared.fault.FrameFault.{FrameFault}
use Rattle.sp_frames.specs.declared.frame.Body.{Body}
use Rattle.sp_frames.specs.declared.frame.Body.TheVariants.{Prefork, Preexec}
use Rattle.sp_frames.specs.declared.frame.Frame.{Frame}
use Rattle.sp_frames.specs.Banner.{banner}
use Rattle.sp_frames.specs.Grammar.{spelling, Fits}
use Rattle.sp_frames.specs.Stream.{IsWhole}
use Rattle.sp_frames.specs.Faults.{HasFault, NoFault}
use Rattle.sp_frames.specs.declared.version.Version.TheVariants.{Four}
use Rattle.hub_model.specs.declared.event.Event.TheVariants as event
use Rattle.hub_model.specs.declared.event.Finish.{Finish}
use Rattle.hub_model.specs.declared.event.Finish.TheVariants as finish
use Rattle.hub_model.specs.Run.{Exchange, Runs}
use Rattle.hub_model.specs.State.{Machine, fresh_machine}
use Rattle.sp_server.specs.declared.stdio.StdioEnd.{StdioEnd}
use Rattle.sp_server.specs.declared.stdio.StdioEnd.TheVariants.{Clean, BadAt, InsideAt, TooMuch, InputFault, OutputFault, SaltFault, NoMemory}
use Rattle.sp_server.specs.Serving.{Server, server_of, after, AreRounds, HandsOut, refusals, handed_out}

-- standard input and output are the one connection of a server of their own
abbrev pub connection : ConnNo
connection = record { 0 = 0 }

-- the server when that connection is open
abbrev pub at_start : Machine
at_start = after (fresh_machine Four) (event.Opened connection)

-- at most so many bytes of input are looked at: 1 GiB
abbrev pub most_input : ℕ
most_input = 2 ^ 30

-- ---- salts

-- a frame takes a salt: it makes a cookie
abbrev pub takes_salt : Body → Bool
takes_salt Prefork = true
takes_salt Preexec = true
takes_salt _ = false

-- as many salts as frames that take one
abbrev pub AreSaltsOf : List Frame → List ℕ → Type 0
AreSaltsOf frames salts = length salts ≡ count_by (λ f. takes_salt f.body) frames

-- the salt of a frame: the next one for a frame that takes one, and 0 for any other, or where none is left
abbrev pub salt_for : Frame → List ℕ → ℕ
salt_for f [] = 0
salt_for f (salt ∷ salts) = if takes_salt f.body then salt else 0

-- the salts that are left behind a frame
abbrev pub salts_behind : Frame → List ℕ → List ℕ
salts_behind f [] = []
salts_behind f (salt ∷ salts) = if takes_salt f.body then salts else salt ∷ salts

-- ---- frames and their answers

-- what is written for a frame with its salt: it happens to the server, the open calls are worked, and all that is queued is handed out
pub record AnswersFrame (s : Server) (f : Frame) (salt : ℕ) (text : List ℕ) (s' : Server) : Type 0 where
  pub rounds : List (List ReqNo)
  pub worked : Server
  pub frames : List Frame
  pub works : AreRounds (record s { machine = after s.machine (event.Frame connection f salt) }) connection true rounds worked
  pub hands : HandsOut worked.machine connection frames s'.machine
  pub left : s'.refused ≡ worked.refused
  pub spelled : text ≡ flat_map spelling frames

-- what is written for frames, one after the other; those that take a salt get these, in order
abbrev pub Answers : Server → List Frame → List ℕ → List ℕ → Server → Type 0
Answers s [] salts text s' = (text ≡ []) × (s' ≡ s)
Answers s (f ∷ frames) salts text s' =
    (middle : Server) × (first : List ℕ) × (rest : List ℕ) × AnswersFrame s f (salt_for f salts) first middle
    × Answers middle frames (salts_behind f salts) rest s' × (text ≡ first ++ rest)

-- what is written for the whole frames of the input, behind the banner, where those that take a salt get just these, and just these calls
-- are refused for memory, each in this order; some bytes are left behind the frames
pub record IsAnswered (input salts : List ℕ) (refused : List ReqNo) (text rest : List ℕ) (m : Machine) : Type 0 where
  pub frames : List Frame
  pub body : List ℕ
  pub whole : IsWhole input frames rest
  pub as_many : AreSaltsOf frames salts
  pub answers : Answers (server_of at_start refused) frames salts body (server_of m [])
  pub begins : text ≡ banner ++ body

-- ---- the end of the input

-- how the input ends, by the bytes behind its last whole frame
abbrev pub EndsAs : Finish → List ℕ → Type 0
EndsAs finish.Clean rest = rest ≡ []
EndsAs finish.Inside rest = (rest ≢ []) × NoFault rest
EndsAs (finish.Bad fault) rest = HasFault rest fault

-- what is written for input that ends like this: its whole frames are answered, its end happens to the server, and what is queued then is
-- handed out; the whole frames have `offset` bytes
pub record IsStdioOut (input salts : List ℕ) (refused : List ReqNo) (how : Finish) (offset : ℕ) (text : List ℕ) : Type 0 where
  pub front : List ℕ
  pub rest : List ℕ
  pub before : Machine
  pub last : Machine
  pub frames : List Frame
  pub answered : IsAnswered input salts refused front rest before
  pub ends : EndsAs how rest
  pub place : offset + length rest ≡ length input
  pub hands : HandsOut (after before (event.Ended connection how)) connection frames last
  pub whole : text ≡ front ++ flat_map spelling frames

-- what is written for the whole frames of input that doesn't end there, and has no fault behind them
abbrev pub IsUnended : List ℕ → List ℕ → List ReqNo → List ℕ → Type 0
IsUnended input salts refused text = (rest : List ℕ) × (m : Machine) × IsAnswered input salts refused text rest m × NoFault rest

-- first bytes of what is written for the input, ended as it ends
pub record IsFirstOf (input salts : List ℕ) (refused : List ReqNo) (text : List ℕ) : Type 0 where
  pub how : Finish
  pub offset : ℕ
  pub whole : List ℕ
  pub count : ℕ
  pub out : IsStdioOut input salts refused how offset whole
  pub cut : text ≡ take count whole

-- first bytes of what is written for the input, whichever salts come behind these: as many as are lacking
pub record IsCutOff (input salts : List ℕ) (refused : List ReqNo) (text : List ℕ) : Type 0 where
  pub lacking : ℕ
  pub first : (later : List ℕ) → length later ≡ lacking → IsFirstOf input (salts ++ later) refused text

-- what is written for the whole frames that come before one that takes a salt
pub record IsUnsalted (input salts : List ℕ) (refused : List ReqNo) (text : List ℕ) : Type 0 where
  pub front : List ℕ
  pub next : Frame
  pub more : List ℕ
  pub m : Machine
  pub is : input ≡ front ++ (spelling next ++ more)
  pub fits : Fits next
  pub takes : takes_salt next.body ≡ true
  pub answered : IsAnswered front salts refused text [] m

-- ---- the calls that are refused

-- a text tells which calls were refused for memory: it is the banner and the frames that a run of the server's machine hands out, and just
-- these calls are refused for memory in them, in order
abbrev pub IsToldBy : List ReqNo → List ℕ → Type 0
IsToldBy refused text =
    (exchanges : List Exchange) × (last : Machine) × Runs (fresh_machine Four) exchanges last
    × (text ≡ banner ++ flat_map spelling (handed_out exchanges)) × (refusals (handed_out exchanges) ≡ refused)

-- ---- the whole run

-- the end that is answered, by the bytes that were taken, the salts that were drawn, the calls that were refused for memory, and the
-- text that was written for them
abbrev pub Serves : StdioEnd → List ℕ → List ℕ → List ReqNo → List ℕ → Type 0
Serves Clean taken salts refused text = (length taken ≤ most_input) × IsStdioOut taken salts refused finish.Clean (length taken) text
Serves (InsideAt offset) taken salts refused text = (length taken ≤ most_input) × IsStdioOut taken salts refused finish.Inside offset text
Serves (BadAt offset) taken salts refused text = (fault : FrameFault) × IsStdioOut (take most_input taken) salts refused (finish.Bad fault) offset text
Serves TooMuch taken salts refused text = (most_input < length taken) × IsUnended (take most_input taken) salts refused text
Serves InputFault taken salts refused text = (length taken ≤ most_input) × IsUnended taken salts refused text
Serves OutputFault taken salts refused text = IsCutOff (take most_input taken) salts refused text
Serves SaltFault taken salts refused text = IsUnsalted (take most_input taken) salts refused text
Serves NoMemory taken salts refused text = IsCutOff (take most_input taken) salts refused text

-- the end of the input was met
abbrev pub is_read : StdioEnd → Bool
is_read Clean = true
is_read (InsideAt offset) = true
is_read _ = false

-- what the source, the sink and the salt of a run tell
pub record Told : Type 0 where
  pub left : Option (List ℕ)
  pub passed : Option (List ℕ)
  pub held : Option (List ℕ)
  pub drawn : Option (List ℕ)

-- a run, by what is told before and after it: what was taken of the source, all of it where its end was met, what was drawn of the salt and
-- written to the sink for it, and which calls were refused for memory
pub record IsServed (old new : Told) (end : StdioEnd) : Type 0 where
  pub taken : List ℕ
  pub salts : List ℕ
  pub refused : List ReqNo
  pub text : List ℕ
  pub source : Consumes old.left new.left taken
  pub counted : Appends old.passed new.passed taken
  pub sink : Appends old.held new.held text
  pub salt : Appends old.drawn new.drawn salts
  pub serves : Serves end taken salts refused text
  pub all : is_read end ≡ true → IsAll old.left taken

-- the bytes alone decide the end: it is none for a fault of the outside or for want of memory
abbrev pub is_decided : StdioEnd → Bool
is_decided Clean = true
is_decided (BadAt offset) = true
is_decided (InsideAt offset) = true
is_decided TooMuch = true
is_decided _ = false

-- a run over this input takes as much of it as its end asks for, all where its end is met, and writes this text
pub record Ends (end : StdioEnd) (input salts : List ℕ) (refused : List ReqNo) (text : List ℕ) : Type 0 where
  pub taken : List ℕ
  pub later : List ℕ
  pub whole : input ≡ taken ++ later
  pub all : is_read end ≡ true → later ≡ []
  pub serves : Serves end taken salts refused text
