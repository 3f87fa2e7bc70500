use Rattle.std.proofs.Common.{sym, ◌∙◌}
use Rattle.kern_names.proofs.ShownLaws.{none_by}
use Rattle.kern_names.proofs.InsideLaws.{shown_as}
use Rattle.kern_names.proofs.InsideMoves.{moved_there, replaced_there, two_nodes, two_places, replaced_bare, replace_shown, replace_tree, replace_is, replace_counts}
use Rattle.kern_names.proofs.directories.Directories.replace.Goals as goal

pub unreachable-requires : goal.unreachable-requires
unreachable-requires c =
    moved_there c.self.inside.directories c.self.invariant c.args.self.now (shown_as c.self.inside.directories c.self.inside.shown c.args.self.now c.self.view_is)
    c.args.from.0 c.args.to.0 c.args.old_name.now c.args.new_name.now c.requires.within c.requires.under c.requires.may
    (sym c.child.ensures ∙ none_by c.child.result c.in_default.not-Some)

pub unreachable-requires-in_default-child : goal.unreachable-requires-in_default-child
unreachable-requires-in_default-child c =
    replaced_there c.self.inside.directories c.self.invariant c.args.self.now (shown_as c.self.inside.directories c.self.inside.shown c.args.self.now c.self.view_is)
    c.args.from.0 c.args.to.0 c.args.old_name.now c.args.new_name.now c.requires.within c.requires.under c.requires.may
    (sym c.child-2.ensures ∙ none_by c.child-2.result c.in_default-child.not-Some)

pub replace-requires-clause-apart : goal.replace-requires-clause-apart
replace-requires-clause-apart c =
    two_places c.self.inside.directories c.self.invariant c.args.self.now (shown_as c.self.inside.directories c.self.inside.shown c.args.self.now c.self.view_is)
    c.args.from.0 c.args.to.0 c.args.old_name.now c.args.new_name.now c.requires.within c.requires.under c.requires.may
    c.in-Some.node c.in-Some-child.replaced c.in-Some.ensures c.in-Some-child.ensures

pub replace-requires-clause-bare : goal.replace-requires-clause-bare
replace-requires-clause-bare c =
    replaced_bare c.self.inside.directories c.self.invariant c.args.self.now (shown_as c.self.inside.directories c.self.inside.shown c.args.self.now c.self.view_is)
    c.args.from.0 c.args.to.0 c.args.old_name.now c.args.new_name.now c.requires.within c.requires.under c.requires.may
    c.in-Some.node c.in-Some-child.replaced c.in-Some.ensures c.in-Some-child.ensures

pub replace-requires-clause-two : goal.replace-requires-clause-two
replace-requires-clause-two c =
    two_nodes c.self.inside.directories c.self.invariant c.args.self.now (shown_as c.self.inside.directories c.self.inside.shown c.args.self.now c.self.view_is)
    c.args.from.0 c.args.to.0 c.args.old_name.now c.args.new_name.now c.requires.within c.requires.under c.requires.may
    c.in-Some.node c.in-Some-child.replaced c.in-Some.ensures c.in-Some-child.ensures

pub invariant_of-self-inside : goal.invariant_of-self-inside
invariant_of-self-inside c = (
  replace_shown c.self.inside.directories c.self.invariant c.args.self.now (shown_as c.self.inside.directories c.self.inside.shown c.args.self.now c.self.view_is)
      c.args.from.0 c.args.to.0 c.args.old_name.now c.args.new_name.now c.requires.within c.requires.under c.requires.may
      c.in-Some.node c.in-Some-child.replaced c.in-Some.ensures c.in-Some-child.ensures c.replace.new.directories c.replace.ensures,
  tt,
)

pub invariant_of-self : goal.invariant_of-self
invariant_of-self c =
    replace_tree c.self.inside.directories c.self.invariant c.args.self.now (shown_as c.self.inside.directories c.self.inside.shown c.args.self.now c.self.view_is)
    c.args.from.0 c.args.to.0 c.args.old_name.now c.args.new_name.now c.requires.within c.requires.under c.requires.may
    c.in-Some.node c.in-Some-child.replaced c.in-Some.ensures c.in-Some-child.ensures c.replace.new.directories c.replace.ensures

pub returns-clause-names : goal.returns-clause-names
returns-clause-names c path above replaced at into taken =
    replace_is c.self.inside.directories c.self.invariant c.args.self.now (shown_as c.self.inside.directories c.self.inside.shown c.args.self.now c.self.view_is)
    c.args.from.0 c.args.to.0 c.args.old_name.now c.args.new_name.now c.requires.within c.requires.under c.requires.may
    c.in-Some.node c.in-Some-child.replaced c.in-Some.ensures c.in-Some-child.ensures c.replace.new.directories c.replace.ensures c.self-1.given.0 path above replaced at into taken

pub returns-clause-counts : goal.returns-clause-counts
returns-clause-counts c above node into =
    replace_counts c.self.inside.directories c.self.invariant c.args.self.now (shown_as c.self.inside.directories c.self.inside.shown c.args.self.now c.self.view_is)
    c.args.from.0 c.args.to.0 c.args.old_name.now c.args.new_name.now c.requires.within c.requires.under c.requires.may
    c.in-Some.node c.in-Some-child.replaced c.in-Some.ensures c.in-Some-child.ensures c.replace.new.directories c.replace.ensures c.self-1.given.0 above node into
