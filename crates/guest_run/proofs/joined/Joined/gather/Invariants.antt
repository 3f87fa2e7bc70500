use Rattle.guest_run.specs.Joined.{link_of}
use Rattle.guest_run.proofs.StepLaws.{IsGathering}
use Rattle.guest_run.proofs.joined.Joined.gather.Given as goal

abbrev pub invariant-loop : goal.invariant-loop
invariant-loop l = IsGathering l.number l.count l.counter (link_of l.fn.self) (link_of l.self)
