use Rattle.std.proofs.Common.{sym, ◌∙◌}
use Rattle.kern_model.specs.NameMap.{list_of}
use Rattle.kern_model.proofs.NamesLaws.{entries_are, renamed_is}
use Rattle.kern_model.proofs.name_map.NameMap.rename.Goals as goal

pub returns-clause-ok : goal.returns-clause-ok
returns-clause-ok c = c.drop.view_is ∙ rw c.deref.ensures.value at c.in_ok-renamed.ensures ∙ sym (renamed_is c.args.self.now (list_of c.self.inside.names.items) c.args.old.now c.args.new.now (entries_are (list_of c.self.inside.names.items) c.args.self.now c.self.view_is c.self.invariant))
