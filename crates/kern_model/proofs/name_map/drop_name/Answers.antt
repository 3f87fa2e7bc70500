use Rattle.std.proofs.Common.{rules, ap, ◌∙◌}
use Rattle.std.specs.Prelude.{List}
use Rattle.std.proofs.lemmas.Fn.{filter_same}
use Rattle.kern_model.specs.declared.name_map.Name.{Name}
use Rattle.kern_model.specs.NameMap.{list_of}
use Rattle.kern_model.proofs.NamesLaws.{kept_names}
use Rattle.kern_model.proofs.name_map.drop_name.Goals as goal

pub returns : goal.returns
returns c = ap (λ (l : List Name). list_of l) (filter_same _ _ _ (λ x b f' k. search rules) _ _ c.retain.ensures.filtered) ∙ kept_names c.args.path.now c.args.names.now.items
