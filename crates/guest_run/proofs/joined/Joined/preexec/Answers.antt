use Rattle.std.proofs.Common.{refl}
use Rattle.guest_run.proofs.JoinedLaws.{client_played_by}
use Rattle.guest_run.proofs.joined.Joined.preexec.Goals as goal

pub returns-in_default : goal.returns-in_default
returns-in_default c = λ caller. record { client = client_played_by _ _ _ _ (c.preexec.ensures caller) c.in_default.not-NoMemory; server = refl; conn = refl }
