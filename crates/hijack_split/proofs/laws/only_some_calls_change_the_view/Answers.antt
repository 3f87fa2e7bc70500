use Rattle.hijack_split.proofs.ChangeLaws.{all_lawful}
use Rattle.hijack_split.proofs.laws.only_some_calls_change_the_view.Goals as goal

pub returns : goal.returns
returns c = λ rules v mem call. (all_lawful rules v mem call).changes
