use Rattle.kern_model.specs.NameMap.{list_of}
use Rattle.kern_model.proofs.NamesLaws.{remove_stands}
use Rattle.kern_model.proofs.name_map.NameMap.remove.Goals as goal

pub invariant_of-self : goal.invariant_of-self
invariant_of-self c = (remove_stands (list_of c.self.inside.names.items) (list_of c.drop_name.new.names.items) c.args.path.now c.self.invariant c.drop_name.ensures).0

pub returns : goal.returns
returns c = rw (← c.self.view_is) (remove_stands (list_of c.self.inside.names.items) (list_of c.drop_name.new.names.items) c.args.path.now c.self.invariant c.drop_name.ensures).1
