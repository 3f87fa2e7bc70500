use Rattle.guest_run.proofs.StepLaws.{goes_on, stays}
use Rattle.guest_run.proofs.joined.Joined.works.Goals.{in-Refused, in_default}
use Rattle.guest_run.proofs.joined.Joined.works.Goals as goal

pub returns : goal.returns
returns c = elim c.match-branch-2.branch [
  | in-Refused w ↦ rw w.result-is (stays _ _ _ _ _ c.in_ok-work.ensures w.in-Refused.is)
  | in_default w ↦ rw w.result-is (goes_on _ _ _ _ c.in_ok-work.ensures w.in_default.not-Refused)
]
