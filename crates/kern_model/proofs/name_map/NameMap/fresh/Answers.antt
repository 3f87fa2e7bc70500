use Rattle.kern_model.proofs.NamesLaws.{none_stand}
use Rattle.kern_model.proofs.name_map.NameMap.fresh.Goals as goal

pub returns : goal.returns
returns c = rw c.new.ensures.items none_stand
