-- How the open calls of a connection are worked, and its frames handed out.
use Rattle.std.specs.Prelude.{◌≡◌, ℕ, ◌==◌, Bool, true, false, not, ◌||◌, List, [], ◌∷◌, ◌++◌, None, Some, if◌then◌else◌}
use Rattle.std.specs.List.{flat_map}
use Rattle.sp_base.specs.declared.names.ConnNo.{ConnNo}
use Rattle.sp_base.specs.declared.names.ReqNo.{ReqNo}
use Rattle.sp_base.specs.declared.names.SpError.TheVariants.{Memory}
use Rattle.sp_frames.specs.declared.frame.Body.{Body}
use Rattle.sp_frames.specs.declared.frame.Body.TheVariants as body
use Rattle.sp_frames.specs.declared.frame.Frame.{Frame}
use Rattle.sp_frames.specs.Grammar.{spelling}
use Rattle.hub_model.specs.declared.event.Event.{Event}
use Rattle.hub_model.specs.declared.event.Event.TheVariants.{Work, Take}
use Rattle.hub_model.specs.declared.event.Reply.{Reply}
use Rattle.hub_model.specs.declared.event.Reply.TheVariants.{Done, Out, Refused}
use Rattle.hub_model.specs.Machine.{played}
use Rattle.hub_model.specs.Run.{Exchange}
use Rattle.hub_model.specs.State.{Machine}
use Rattle.hub_model.specs.Task.{IsLowest, open_calls}

-- what the server answers to an event, where it gets the memory that it asks for
abbrev pub reply_to : Machine → Event → Reply
reply_to m event = (played true m event).0

-- the server after such an event
abbrev pub after : Machine → Event → Machine
after m event = (played true m event).1

-- ---- want of memory

-- the server, and the calls that are still to be refused for memory, the next one first
pub record Server : Type 0 where
  pub machine : Machine
  pub refused : List ReqNo

-- a server with calls that are still to be refused
abbrev pub server_of : Machine → List ReqNo → Server
server_of m refused = record { machine = m; refused = refused }

-- a call gets the memory that it takes: it isn't the next one to be refused
abbrev pub has_memory : List ReqNo → ReqNo → Bool
has_memory [] r = true
has_memory (next ∷ refused) r = not (next.0 == r.0)

-- a call was refused for memory
abbrev pub is_refused : Reply → Bool
is_refused (Refused Memory) = true
is_refused _ = false

-- the calls that are still to be refused behind a reply
abbrev pub refused_behind : List ReqNo → Reply → List ReqNo
refused_behind [] answer = []
refused_behind (next ∷ refused) answer = if is_refused answer then refused else next ∷ refused

-- what the server answers where a call is worked
abbrev pub work_reply : Server → ConnNo → ReqNo → Reply
work_reply s c r = (played (has_memory s.refused r) s.machine (Work c r)).0

-- the server after a call is worked
abbrev pub after_work : Server → ConnNo → ReqNo → Server
after_work s c r = server_of (played (has_memory s.refused r) s.machine (Work c r)).1 (refused_behind s.refused (work_reply s c r))

-- ---- rounds of work

-- a call was performed
abbrev pub is_done : Reply → Bool
is_done Done = true
is_done _ = false

-- the server after the calls of these numbers are worked, one after the other
abbrev pub worked : Server → ConnNo → List ReqNo → Server
worked s c [] = s
worked s c (r ∷ numbers) = worked (after_work s c r) c numbers

-- one of the calls of these numbers is performed
abbrev pub performs : Server → ConnNo → List ReqNo → Bool
performs s c [] = false
performs s c (r ∷ numbers) = is_done (work_reply s c r) || performs (after_work s c r) c numbers

-- the open calls above a number that wait, in rising number: each is the lowest one that waits when the one before it was worked
abbrev pub AreOpen : Server → ConnNo → ReqNo → List ReqNo → Type 0
AreOpen s c above [] = IsLowest (open_calls s.machine c) above None
AreOpen s c above (r ∷ numbers) = IsLowest (open_calls s.machine c) above (Some r) × AreOpen (after_work s c r) c r numbers

-- rounds of work, a first one if `again` says so: each works every call that waits once, in rising number, and another follows
-- exactly if one of them was performed
abbrev pub AreRounds : Server → ConnNo → Bool → List (List ReqNo) → Server → Type 0
AreRounds s c again [] s' = (again ≡ false) × (s' ≡ s)
AreRounds s c again (numbers ∷ rounds) s' =
    (again ≡ true) × AreOpen s c (record { 0 = 0 }) numbers × AreRounds (worked s c numbers) c (performs s c numbers) rounds s'

-- ---- handing out

-- a frame is handed out
abbrev pub is_out : Reply → Bool
is_out (Out f) = true
is_out _ = false

-- Take happens until it gives no frame: the frames that it gave, and the server after it
abbrev pub HandsOut : Machine → ConnNo → List Frame → Machine → Type 0
HandsOut m c [] m' = (is_out (reply_to m (Take c)) ≡ false) × (m' ≡ after m (Take c))
HandsOut m c (f ∷ frames) m' = (reply_to m (Take c) ≡ Out f) × HandsOut (after m (Take c)) c frames m'

-- one Take: whether it gives a frame, the server after it, and the text with the frame's spelling behind it
abbrev pub HandsOutOne : Machine → ConnNo → List ℕ → Bool → Machine → List ℕ → Type 0
HandsOutOne m c text true m' text' = (f : Frame) × (reply_to m (Take c) ≡ Out f) × (m' ≡ after m (Take c)) × (text' ≡ text ++ spelling f)
HandsOutOne m c text false m' text' = (is_out (reply_to m (Take c)) ≡ false) × (m' ≡ after m (Take c)) × (text' ≡ text)

-- ---- runs

-- the frame that Take gave, where it was a Take that gave one
abbrev pub taken_frame : Event → Reply → List Frame
taken_frame (Take c) (Out f) = f ∷ []
taken_frame _ _ = []

-- the number of the call that a frame refuses for memory, where it refuses one
abbrev pub refused_in : ReqNo → Body → List ReqNo
refused_in r (body.Refused kind Memory) = r ∷ []
refused_in r _ = []

-- the numbers of the calls that frames refuse for memory, in order
abbrev pub refusals : List Frame → List ReqNo
refusals frames = flat_map (λ f. refused_in f.number f.body) frames

-- the frames that a run hands out
abbrev pub handed_out : List Exchange → List Frame
handed_out [] = []
handed_out (exchange ∷ exchanges) = taken_frame exchange.event exchange.reply ++ handed_out exchanges
