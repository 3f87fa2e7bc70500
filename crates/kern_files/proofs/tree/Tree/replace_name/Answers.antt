use Rattle.std.proofs.Common.{◌∷◌, sym, ◌∙◌}
use Rattle.kern_files.proofs.FilesLaws.{in_tree, same_name, has_node, has_link, may_replace, replaced_by}
use Rattle.kern_files.proofs.tree.Tree.replace_name.Goals as goal

pub replace-requires-clause-within : goal.replace-requires-clause-within
replace-requires-clause-within c = in_tree c.args.from.0 (record { view = c.self.view_is; agree = c.self.invariant }) c.requires.within

pub replace-requires-clause-under : goal.replace-requires-clause-under
replace-requires-clause-under c = in_tree c.args.to.0 (record { view = c.self.view_is; agree = c.self.invariant }) c.requires.under

pub replace-requires-clause-may : goal.replace-requires-clause-may
replace-requires-clause-may c path above at into =
    may_replace (c.args.old_name.now ∷ path) (c.args.new_name.now ∷ above) c.args.replaced.0 (record { view = c.self.view_is; agree = c.self.invariant })
    (c.requires.may path above (sym (same_name path (record { view = c.self.view_is; agree = c.self.invariant })) ∙ at) (sym (same_name above (record { view = c.self.view_is; agree = c.self.invariant })) ∙ into))

pub drop_link-requires-clause-live : goal.drop_link-requires-clause-live
drop_link-requires-clause-live c =
    has_node (c.args.new_name.now ∷ c.requires.under.path) c.args.replaced.0 (record { view = c.self.view_is; agree = c.self.invariant })
    (c.requires.may c.requires.within.path c.requires.under.path c.requires.within.stands c.requires.under.stands).taken

pub drop_link-requires-clause-linked : goal.drop_link-requires-clause-linked
drop_link-requires-clause-linked c =
    has_link (c.args.new_name.now ∷ c.requires.under.path) c.args.replaced.0 (record { view = c.self.view_is; agree = c.self.invariant })
    (c.requires.may c.requires.within.path c.requires.under.path c.requires.within.stands c.requires.under.stands).taken

pub invariant_of-self : goal.invariant_of-self
invariant_of-self c =
    let path = c.requires.within.path in
    let above = c.requires.under.path in
    let at = same_name path (record { view = c.self.view_is; agree = c.self.invariant }) ∙ c.requires.within.stands in
    let into = same_name above (record { view = c.self.view_is; agree = c.self.invariant }) ∙ c.requires.under.stands in
    (replaced_by c.replace.new.self c.drop_link.new.self (c.args.old_name.now ∷ path) (c.args.new_name.now ∷ above) c.args.replaced.0 (record { view = c.self.view_is; agree = c.self.invariant })
    (c.requires.may path above c.requires.within.stands c.requires.under.stands)
    (c.replace.ensures.names path above c.args.replaced.0 at into) (λ n. c.replace.ensures.counts above n into) c.drop_link.ensures).agree

pub returns : goal.returns
returns c path above at into =
    let at_tree = same_name path (record { view = c.self.view_is; agree = c.self.invariant }) ∙ at in
    let into_tree = same_name above (record { view = c.self.view_is; agree = c.self.invariant }) ∙ into in
    (replaced_by c.replace.new.self c.drop_link.new.self (c.args.old_name.now ∷ path) (c.args.new_name.now ∷ above) c.args.replaced.0 (record { view = c.self.view_is; agree = c.self.invariant })
    (c.requires.may path above at into)
    (c.replace.ensures.names path above c.args.replaced.0 at_tree into_tree) (λ n. c.replace.ensures.counts above n into_tree) c.drop_link.ensures).view
