-- What is done for a guest's call, step by step.
use Rattle.std.specs.Prelude.{Bool, ℕ, ◌+◌, ◌%◌, ◌^◌, ◌==◌, List, [], ◌∷◌, None, Option, Some, if◌then◌else◌, not}
use Rattle.sp_base.specs.Errno.{errno_number}
use Rattle.sp_base.specs.declared.call.Call.{Call}
use Rattle.sp_base.specs.declared.errno.Errno.{Errno}
use Rattle.sp_base.specs.declared.names.Answer.{Answer}
use Rattle.hijack_rules.specs.declared.names.SideName.{SideName}
use Rattle.hijack_split.specs.View.{Naming, changed}
use Rattle.hijack_split.specs.declared.change.Change.{Change}
use Rattle.hijack_split.specs.declared.change.Change.TheVariants.{Stays}
use Rattle.hijack_split.specs.declared.turn.Plan.{Plan}
use Rattle.hijack_split.specs.declared.turn.Plan.TheVariants as plan
use Rattle.hijack_split.specs.declared.turn.Stage.{Stage}
use Rattle.hijack_split.specs.declared.turn.Stage.TheVariants.{Main}
use Rattle.hijack_split.specs.declared.turn.Turn.{Turn}
use Rattle.hijack_split.specs.declared.turn.Turn.TheVariants as turn

-- what is done for a guest's call: a call on one kernel, and what follows its answer; or the reply, whose answer it is, and how the view changes; or a poll of both kernels
pub data Steps : Type 0 where
  Asks : SideName → Call → Stage → (Answer → Steps) → Steps
  Gives : Option SideName → Answer → Change → Steps
  Polls : Steps

-- what comes next, once the first steps have these answers
abbrev pub next : Steps → List Answer → Turn
next (Asks side call stage follow) [] = turn.Ask side call stage
next (Asks side call stage follow) (answer ∷ answers) = next (follow answer) answers
next (Gives by answer change) answers = turn.Reply by answer change
next Polls answers = turn.Poll

-- what the caller is told of a turn
abbrev pub plan_of : Turn → Plan
plan_of (turn.Ask side call stage) = plan.Step side call stage
plan_of (turn.Reply by answer change) = plan.Reply answer
plan_of turn.Poll = plan.Poll

-- the view after a turn: only a reply changes it
abbrev pub view_by : Naming → Turn → Naming
view_by v (turn.Ask side call stage) = v
view_by v (turn.Reply by answer change) = changed v change
view_by v turn.Poll = v

-- an answer is an error
abbrev pub is_error : Answer → Bool
is_error answer = not (answer.err == 0)

-- an error of the splitter's own
abbrev pub refuses : Errno → Steps
refuses error = Gives None (record { err = errno_number error; ret0 = 0; ret1 = 0; place = record { 0 = 0 } }) Stays

-- the guest's call on a kernel: an error is the reply, and behind a success come further steps
abbrev pub asks : SideName → Call → (Answer → Steps) → Steps
asks side call follow = Asks side call Main (λ answer. if is_error answer then Gives (Some side) answer Stays else follow answer)

-- the number at which the guest sees a rump descriptor
abbrev pub raised : Naming → ℕ → ℕ
raised v r = (r + v.offset) % 2 ^ 64
