use Rattle.hijack_split.proofs.ChangeLaws.{all_lawful}
use Rattle.hijack_split.proofs.laws.own_errors_come_without_calls.Goals as goal

pub returns : goal.returns
returns c = λ rules v mem call. (all_lawful rules v mem call).own
