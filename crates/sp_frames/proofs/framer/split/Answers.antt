use Rattle.std.proofs.Common.{drop}
use Rattle.sp_frames.specs.Feeding.{FrontIs}
use Rattle.sp_frames.specs.declared.reading.Step.TheVariants.{Partial}
use Rattle.sp_frames.proofs.framer.split.Goals as goal

pub returns-in-Partial-clause-joins : goal.returns-in-Partial-clause-joins
returns-in-Partial-clause-joins c =
    let is : FrontIs (drop c.loop-frame.used c.args.bytes.now) Partial = rw (c.split_at.ensures.back, c.in-Partial.is) at c.in_ok-frame.ensures in
    record { whole = c.loop-frame.invariant.whole; each = c.loop-frame.invariant.each; none = is.0; stopped = is.1 }
