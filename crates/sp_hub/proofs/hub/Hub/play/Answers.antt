use Rattle.sp_hub.proofs.Replies.{frame_out}
use Rattle.sp_hub.proofs.hub.Hub.play.Goals as goal

pub returns-in-Frame-clause-fits : goal.returns-in-Frame-clause-fits
returns-in-Frame-clause-fits c frame out = absurd (frame_out _ _ _ _ frame _ _ c.frame.ensures.plays out)

pub returns-in-Work-clause-plays : goal.returns-in-Work-clause-plays
returns-in-Work-clause-plays c = rw c.in-Work.is c.work.ensures.plays
