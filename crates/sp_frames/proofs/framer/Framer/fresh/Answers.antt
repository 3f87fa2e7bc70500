use Rattle.sp_frames.proofs.FeedLaws.{nothing, whole}
use Rattle.sp_frames.proofs.framer.Framer.fresh.Goals as goal

pub invariant_of-result : goal.invariant_of-result
invariant_of-result c = rw (c.new.ensures.items, c.new-2.ensures.items) nothing

pub returns-clause-follows : goal.returns-clause-follows
returns-clause-follows c = rw (c.new.ensures.items, c.new-2.ensures.items) (whole _ nothing)
