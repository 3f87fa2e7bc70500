use Rattle.std.proofs.Common.{None, sym, ◌∙◌}
use Rattle.kern_names.proofs.ShownLaws.{nothing}
use Rattle.kern_names.proofs.InsideLaws.{ShowsOf, shown_as, place, stands, named}
use Rattle.kern_names.proofs.InsideMoves.{child_stands, rename_shown, rename_tree, rename_ok, rename_err, rename_counts}
use Rattle.kern_names.proofs.directories.Directories.rename.Goals as goal

pub rename-requires-clause-free : goal.rename-requires-clause-free
rename-requires-clause-free c =
    let old = c.self.inside.directories in
    let now = c.args.self.now in
    let shows = shown_as old c.self.inside.shown now c.self.view_is in
    let path = (place old c.self.invariant now shows c.args.from.0 c.requires.within).path in
    let above = (place old c.self.invariant now shows c.args.to.0 c.requires.under).path in
    let at = stands old c.self.invariant now shows c.args.from.0 c.requires.within in
    let into = stands old c.self.invariant now shows c.args.to.0 c.requires.under in
    named old c.self.invariant now shows c.args.to.0 c.args.new_name.now above into ∙ (c.requires.may path above at into).free

pub invariant_of-self-inside : goal.invariant_of-self-inside
invariant_of-self-inside c = (
  rename_shown c.self.inside.directories c.self.invariant c.args.self.now (shown_as c.self.inside.directories c.self.inside.shown c.args.self.now c.self.view_is)
      c.args.from.0 c.args.to.0 c.args.old_name.now c.args.new_name.now c.requires.within c.requires.under c.requires.may
      c.in-Some.node c.in-Some.ensures c.rename.new.directories c.rename.result c.rename.ensures.ok c.rename.ensures.err,
  tt,
)

pub invariant_of-self : goal.invariant_of-self
invariant_of-self c =
    rename_tree c.self.inside.directories c.self.invariant c.args.self.now (shown_as c.self.inside.directories c.self.inside.shown c.args.self.now c.self.view_is)
    c.args.from.0 c.args.to.0 c.args.old_name.now c.args.new_name.now c.requires.within c.requires.under c.requires.may
    c.in-Some.node c.in-Some.ensures c.rename.new.directories c.rename.result c.rename.ensures.ok c.rename.ensures.err

pub unreachable-requires : goal.unreachable-requires
unreachable-requires c =
    let old = c.self.inside.directories in
    let now = c.args.self.now in
    let shows = shown_as old c.self.inside.shown now c.self.view_is in
    let path = (place old c.self.invariant now shows c.args.from.0 c.requires.within).path in
    let above = (place old c.self.invariant now shows c.args.to.0 c.requires.under).path in
    let at = stands old c.self.invariant now shows c.args.from.0 c.requires.within in
    let into = stands old c.self.invariant now shows c.args.to.0 c.requires.under in
    nothing _ (child_stands old c.self.invariant now shows c.args.from.0 c.args.to.0 c.args.old_name.now c.args.new_name.now c.requires.within c.requires.under None path at (sym c.in-None.is ∙ c.child.ensures))
    (c.requires.may path above at into).there

pub returns-clause-ok : goal.returns-clause-ok
returns-clause-ok c path above at into =
    rename_ok c.self.inside.directories c.self.invariant c.args.self.now (shown_as c.self.inside.directories c.self.inside.shown c.args.self.now c.self.view_is)
    c.args.from.0 c.args.to.0 c.args.old_name.now c.args.new_name.now c.requires.within c.requires.under c.requires.may
    c.in-Some.node c.in-Some.ensures c.rename.new.directories c.rename.result c.rename.ensures.ok c.rename.ensures.err c.self-1.given.0 path above at into

pub returns-clause-counts : goal.returns-clause-counts
returns-clause-counts c node =
    rename_counts c.self.inside.directories c.self.invariant c.args.self.now (shown_as c.self.inside.directories c.self.inside.shown c.args.self.now c.self.view_is)
    c.args.from.0 c.args.to.0 c.args.old_name.now c.args.new_name.now c.requires.within c.requires.under c.requires.may
    c.in-Some.node c.in-Some.ensures c.rename.new.directories c.rename.result c.rename.ensures.ok c.rename.ensures.err c.self-1.given.0 node

pub returns-clause-err : goal.returns-clause-err
returns-clause-err c =
    rename_err c.self.inside.directories c.self.invariant c.args.self.now (shown_as c.self.inside.directories c.self.inside.shown c.args.self.now c.self.view_is)
    c.args.from.0 c.args.to.0 c.args.old_name.now c.args.new_name.now c.requires.within c.requires.under c.requires.may
    c.in-Some.node c.in-Some.ensures c.rename.new.directories c.rename.result c.rename.ensures.ok c.rename.ensures.err c.self-1.given.0
