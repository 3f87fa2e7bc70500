use Rattle.sp_fork.proofs.Jars.{redeemed_is_spent, cancelled_is_spent}
use Rattle.sp_fork.proofs.laws.cookies_are_used_once.Goals as goal

pub returns-clause-redeemed : goal.returns-clause-redeemed
returns-clause-redeemed c = redeemed_is_spent

pub returns-clause-cancelled : goal.returns-clause-cancelled
returns-clause-cancelled c = cancelled_is_spent
