use Rattle.kern_model.specs.NameMap.{list_of}
use Rattle.kern_model.proofs.NamesLaws.{insert_stands}
use Rattle.kern_model.proofs.name_map.NameMap.insert.Goals as goal

pub invariant_of-self-2 : goal.invariant_of-self-2
invariant_of-self-2 c = (insert_stands (list_of c.self.inside.names.items) (list_of c.put_name.new.names.items) c.args.path c.args.node c.self.invariant c.in_ok-put_name.ensures.ok).0

pub returns-clause-ok : goal.returns-clause-ok
returns-clause-ok c = rw (← c.self.view_is) (insert_stands (list_of c.self.inside.names.items) (list_of c.put_name.new.names.items) c.args.path c.args.node c.self.invariant c.in_ok-put_name.ensures.ok).1
