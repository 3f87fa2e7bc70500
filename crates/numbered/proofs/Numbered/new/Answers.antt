use Rattle.std.proofs.Common.{refl}
use Rattle.numbered.specs.Items.{items_of}
use Rattle.numbered.proofs.Numbered.new.Goals as goal

pub returns : goal.returns
unfolding items_of
returns g c = rw c.new.ensures.empty refl
