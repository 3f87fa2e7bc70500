-- What is so of the connection of a number, if there is one.
use Rattle.std.specs.Prelude.{Option, None, Some}
use Rattle.sp_base.specs.declared.names.ConnNo.{ConnNo}
use Rattle.kern_model.specs.State.{State}
use Rattle.sp_fork.specs.Jar.{Jar}
use Rattle.sp_frames.specs.declared.frame.Frame.{Frame}
use Rattle.hub_model.specs.State.{Connection}
use Rattle.hub_model.specs.Verdict.{verdict_of}
use Rattle.hub_model.specs.declared.state.Condition.{Condition}
use Rattle.hub_model.specs.declared.verdict.Verdict.{Verdict}
use Rattle.hub_model.specs.declared.verdict.Verdict.TheVariants.{Closed}

-- how far a connection is, where there is one
abbrev pub condition_in : Option Connection → Option Condition
condition_in None = None
condition_in (Some x) = Some x.condition

-- what becomes of a frame: it is closed where there is no connection
abbrev pub verdict_at : State → Jar → ConnNo → Frame → Option Connection → Verdict
verdict_at s jar c f None = Closed
verdict_at s jar c f (Some x) = verdict_of s jar c x f
