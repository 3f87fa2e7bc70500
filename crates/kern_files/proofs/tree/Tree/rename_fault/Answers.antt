use Rattle.std.specs.Prelude.{◌==◌, IsSome}
use Rattle.std.proofs.Common.{◌≡◌, cond, get_or, Bool, true, false, ◌∷◌, None, Some, refl, sym, subst, ◌∙◌}
use Rattle.std.specs.Bool.{then_some}
use Rattle.std.specs.FinMap.{get}
use Rattle.sp_base.specs.declared.errno.Errno.TheVariants.{Einval}
use Rattle.kern_files.proofs.AgreeLaws.{named}
use Rattle.kern_files.proofs.FilesLaws.{Shows, has_node}
use Rattle.kern_files.proofs.RenameLaws.{found, inside_by, error_free, error_taken}
use Rattle.kern_files.proofs.tree.Tree.rename_fault.Goals as goal

inside_error : (inside : Bool) → then_some inside Einval ≡ cond inside (Some Einval) None
inside_error true = refl
inside_error false = refl

pub is_inside-inside-requires-clause-live : goal.is_inside-inside-requires-clause-live
is_inside-inside-requires-clause-live c =
    let shows : Shows c.self.inside.directories c.self.inside.nodes c.args.self.now = record { view = c.self.view_is; agree = c.self.invariant } in
    let path = c.requires.within.path in
    let there : get c.args.self.now.names (c.args.old_name.now ∷ path) ≡ Some c.in-Some.node.0 = found c.args.from.0 c.args.old_name.now path c.child.result (Some c.in-Some.node) shows c.requires.within.stands c.child.ensures c.in-Some.is in
    subst (λ f. IsSome (get_or f.nodes c.in-Some.node.0 None)) c.self.view_is (has_node (c.args.old_name.now ∷ path) c.in-Some.node.0 shows there)

pub returns-in_default-child : goal.returns-in_default-child
returns-in_default-child c path above at into =
    let shows : Shows c.self.inside.directories c.self.inside.nodes c.args.self.now = record { view = c.self.view_is; agree = c.self.invariant } in
    let there : get c.args.self.now.names (c.args.old_name.now ∷ path) ≡ Some c.in-Some.node.0 = found c.args.from.0 c.args.old_name.now path c.child.result (Some c.in-Some.node) shows at c.child.ensures c.in-Some.is in
    let free : get c.args.self.now.names (c.args.new_name.now ∷ above) ≡ None = found c.args.to.0 c.args.new_name.now above c.child-2.result None shows into c.child-2.ensures c.in_default-child.is in
    c.then_some.ensures ∙ inside_error c.is_inside-inside.result ∙ sym (error_free c.args.self.now (c.args.old_name.now ∷ path) (c.args.new_name.now ∷ above) c.in-Some.node.0 c.is_inside-inside.result there free
    (inside_by c.args.self.now c.args.to.0 c.in-Some.node.0 c.args.new_name.now above (c.args.old_name.now ∷ path) c.is_inside-inside.result into there c.is_inside-inside.ensures))

pub returns-then-inside : goal.returns-then-inside
returns-then-inside c path above at into =
    let shows : Shows c.self.inside.directories c.self.inside.nodes c.args.self.now = record { view = c.self.view_is; agree = c.self.invariant } in
    let there : get c.args.self.now.names (c.args.old_name.now ∷ path) ≡ Some c.in-Some.node.0 = found c.args.from.0 c.args.old_name.now path c.child.result (Some c.in-Some.node) shows at c.child.ensures c.in-Some.is in
    let taken : get c.args.self.now.names (c.args.new_name.now ∷ above) ≡ Some c.in-Some-child.replaced.0 = found c.args.to.0 c.args.new_name.now above c.child-2.result (Some c.in-Some-child.replaced) shows into c.child-2.ensures c.in-Some-child.is in
    let equal : (c.in-Some.node.0 == c.in-Some-child.replaced.0) ≡ false = sym c.eq.ensures ∙ c.if-eq.false in
    sym (error_taken c.args.self.now (c.args.old_name.now ∷ path) (c.args.new_name.now ∷ above) c.in-Some.node.0 c.in-Some-child.replaced.0 false true there taken equal
    (inside_by c.args.self.now c.args.to.0 c.in-Some.node.0 c.args.new_name.now above (c.args.old_name.now ∷ path) c.is_inside-inside.result into there c.is_inside-inside.ensures ∙ c.if-inside.true))

pub replace_fault-requires-clause-live : goal.replace_fault-requires-clause-live
replace_fault-requires-clause-live c =
    let shows : Shows c.self.inside.directories c.self.inside.nodes c.args.self.now = record { view = c.self.view_is; agree = c.self.invariant } in
    let path = c.requires.within.path in
    let there : get c.args.self.now.names (c.args.old_name.now ∷ path) ≡ Some c.in-Some.node.0 = found c.args.from.0 c.args.old_name.now path c.child.result (Some c.in-Some.node) shows c.requires.within.stands c.child.ensures c.in-Some.is in
    subst (λ f. IsSome (get_or f.nodes c.in-Some.node.0 None)) c.self.view_is (has_node (c.args.old_name.now ∷ path) c.in-Some.node.0 shows there)

pub replace_fault-requires-clause-named : goal.replace_fault-requires-clause-named
replace_fault-requires-clause-named c =
    let shows : Shows c.self.inside.directories c.self.inside.nodes c.args.self.now = record { view = c.self.view_is; agree = c.self.invariant } in
    let above = c.requires.under.path in
    named c.args.self.now.names (c.args.new_name.now ∷ above) c.in-Some-child.replaced.0
    (found c.args.to.0 c.args.new_name.now above c.child-2.result (Some c.in-Some-child.replaced) shows c.requires.under.stands c.child-2.ensures c.in-Some-child.is)

pub returns-then-eq : goal.returns-then-eq
returns-then-eq c path above at into =
    let shows : Shows c.self.inside.directories c.self.inside.nodes c.args.self.now = record { view = c.self.view_is; agree = c.self.invariant } in
    let there : get c.args.self.now.names (c.args.old_name.now ∷ path) ≡ Some c.in-Some.node.0 = found c.args.from.0 c.args.old_name.now path c.child.result (Some c.in-Some.node) shows at c.child.ensures c.in-Some.is in
    let taken : get c.args.self.now.names (c.args.new_name.now ∷ above) ≡ Some c.in-Some-child.replaced.0 = found c.args.to.0 c.args.new_name.now above c.child-2.result (Some c.in-Some-child.replaced) shows into c.child-2.ensures c.in-Some-child.is in
    let equal : (c.in-Some.node.0 == c.in-Some-child.replaced.0) ≡ true = sym c.eq.ensures ∙ c.if-eq.true in
    sym (error_taken c.args.self.now (c.args.old_name.now ∷ path) (c.args.new_name.now ∷ above) c.in-Some.node.0 c.in-Some-child.replaced.0 true c.is_inside-inside.result there taken equal
    (inside_by c.args.self.now c.args.to.0 c.in-Some.node.0 c.args.new_name.now above (c.args.old_name.now ∷ path) c.is_inside-inside.result into there c.is_inside-inside.ensures))

pub returns : goal.returns
returns c path above at into =
    let shows : Shows c.self.inside.directories c.self.inside.nodes c.args.self.now = record { view = c.self.view_is; agree = c.self.invariant } in
    let there : get c.args.self.now.names (c.args.old_name.now ∷ path) ≡ Some c.in-Some.node.0 = found c.args.from.0 c.args.old_name.now path c.child.result (Some c.in-Some.node) shows at c.child.ensures c.in-Some.is in
    let taken : get c.args.self.now.names (c.args.new_name.now ∷ above) ≡ Some c.in-Some-child.replaced.0 = found c.args.to.0 c.args.new_name.now above c.child-2.result (Some c.in-Some-child.replaced) shows into c.child-2.ensures c.in-Some-child.is in
    let equal : (c.in-Some.node.0 == c.in-Some-child.replaced.0) ≡ false = sym c.eq.ensures ∙ c.if-eq.false in
    c.replace_fault.ensures (c.args.new_name.now ∷ above) taken
    ∙ sym (error_taken c.args.self.now (c.args.old_name.now ∷ path) (c.args.new_name.now ∷ above) c.in-Some.node.0 c.in-Some-child.replaced.0 false false there taken equal
    (inside_by c.args.self.now c.args.to.0 c.in-Some.node.0 c.args.new_name.now above (c.args.old_name.now ∷ path) c.is_inside-inside.result into there c.is_inside-inside.ensures ∙ c.if-inside.false))
