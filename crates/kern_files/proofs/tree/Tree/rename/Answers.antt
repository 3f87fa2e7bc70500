use Rattle.std.specs.Prelude.{◌==◌, is_some}
use Rattle.std.proofs.Common.{◌≡◌, ℕ, true, false, ◌∷◌, Option, None, Some, refl, sym, ap, ◌∙◌}
use Rattle.std.proofs.lemmas.Bool.{eqb-true, true≢false}
use Rattle.std.specs.FinMap.{get}
use Rattle.kern_model.specs.Name.{is_same_path}
use Rattle.kern_model.specs.State.{is_directory}
use Rattle.kern_model.proofs.BelowLaws.{same_test}
use Rattle.kern_names.specs.Tree.{Tree, moved as moved_tree}
use Rattle.kern_names.proofs.ShownLaws.{same_node}
use Rattle.kern_files.specs.Files.{state_of, without_name, moved, renamed_to}
use Rattle.kern_files.specs.Parts.{files_of}
use Rattle.kern_files.proofs.AgreeLaws.{named, agree_moved}
use Rattle.kern_files.proofs.FilesLaws.{Shows, in_tree, same_name, done}
use Rattle.kern_files.proofs.RenameLaws.{found, one_path, one_name, allowed_some, allowed_free, allowed_taken, renamed_over}
use Rattle.kern_files.proofs.tree.Tree.rename.Goals as goal

pub rename-requires-clause-within : goal.rename-requires-clause-within
rename-requires-clause-within c =
    in_tree c.args.from.0 (record { view = c.self.view_is; agree = c.self.invariant }) c.requires.within

pub rename-requires-clause-under : goal.rename-requires-clause-under
rename-requires-clause-under c =
    in_tree c.args.to.0 (record { view = c.self.view_is; agree = c.self.invariant }) c.requires.under

pub unreachable-requires : goal.unreachable-requires
unreachable-requires c =
    let shows : Shows c.self.inside.directories c.self.inside.nodes c.args.self.now = record { view = c.self.view_is; agree = c.self.invariant } in
    let path = c.requires.within.path in
    let above = c.requires.under.path in
    let at = c.requires.within.stands in
    let into = c.requires.under.stands in
    allowed_some c.args.self.now (c.args.old_name.now ∷ path) (c.args.new_name.now ∷ above) (sym (c.rename_fault.ensures path above at into) ∙ c.in_default.is) (found c.args.from.0 c.args.old_name.now path c.child.result None shows at c.child.ensures c.in_default-child.is)

pub rename-requires-clause-may : goal.rename-requires-clause-may
rename-requires-clause-may c path above at_tree into_tree =
    let shows : Shows c.self.inside.directories c.self.inside.nodes c.args.self.now = record { view = c.self.view_is; agree = c.self.invariant } in
    let at = sym (same_name path shows) ∙ at_tree in
    let into = sym (same_name above shows) ∙ into_tree in
    let there : get c.args.self.now.names (c.args.old_name.now ∷ path) ≡ Some c.in-Some-child.node.0 = found c.args.from.0 c.args.old_name.now path c.child.result (Some c.in-Some-child.node) shows at c.child.ensures c.in-Some-child.is in
    let free : get c.args.self.now.names (c.args.new_name.now ∷ above) ≡ None = found c.args.to.0 c.args.new_name.now above c.child-2.result None shows into c.child-2.ensures c.in_default-child-2.is in
    record {
      there = ap (λ (o : Option ℕ). is_some o) (same_name (c.args.old_name.now ∷ path) shows ∙ there);
      free = same_name (c.args.new_name.now ∷ above) shows ∙ free;
      outside = allowed_free c.args.self.now (c.args.old_name.now ∷ path) (c.args.new_name.now ∷ above) c.in-Some-child.node.0 (sym (c.rename_fault.ensures path above at into) ∙ c.in_default.is) there free;
    }

pub invariant_of-self-in_default-child-2 : goal.invariant_of-self-in_default-child-2
invariant_of-self-in_default-child-2 c =
    let shows : Shows c.self.inside.directories c.self.inside.nodes c.args.self.now = record { view = c.self.view_is; agree = c.self.invariant } in
    let path = c.requires.within.path in
    let above = c.requires.under.path in
    let at = c.requires.within.stands in
    let into = c.requires.under.stands in
    let names : c.rename.new.self ≡ moved_tree c.self.inside.directories (c.args.old_name.now ∷ path) (c.args.new_name.now ∷ above) = done c.rename.result (c.rename.ensures.ok path above (same_name path shows ∙ at) (same_name above shows ∙ into)) (sym c.if-is_err.ensures.value) in
    agree_moved c.self.inside.directories c.rename.new.self c.self.inside.nodes (ap (λ (t : Tree). t.directories) names) (λ n. done c.rename.result (c.rename.ensures.counts n) (sym c.if-is_err.ensures.value)) c.self.invariant

pub returns-in_default-child-2-clause-ok : goal.returns-in_default-child-2-clause-ok
returns-in_default-child-2-clause-ok c path above node at into is =
    let shows : Shows c.self.inside.directories c.self.inside.nodes c.args.self.now = record { view = c.self.view_is; agree = c.self.invariant } in
    let free : get c.args.self.now.names (c.args.new_name.now ∷ above) ≡ None = found c.args.to.0 c.args.new_name.now above c.child-2.result None shows into c.child-2.ensures c.in_default-child-2.is in
    let names : c.rename.new.self ≡ moved_tree c.self.inside.directories (c.args.old_name.now ∷ path) (c.args.new_name.now ∷ above) = done c.rename.result (c.rename.ensures.ok path above (same_name path shows ∙ at) (same_name above shows ∙ into)) (sym c.if-is_err.ensures.value) in
    ap (λ t. files_of t c.self.inside.nodes) names ∙ ap (λ f. moved f (c.args.old_name.now ∷ path) (c.args.new_name.now ∷ above)) c.self.view_is
    ∙ sym (ap (renamed_to c.args.self.now (c.args.old_name.now ∷ path) node (c.args.new_name.now ∷ above)) free)

pub replace_name-requires-clause-may : goal.replace_name-requires-clause-may
replace_name-requires-clause-may c path above at into =
    let shows : Shows c.self.inside.directories c.self.inside.nodes c.args.self.now = record { view = c.self.view_is; agree = c.self.invariant } in
    let there : get c.args.self.now.names (c.args.old_name.now ∷ path) ≡ Some c.in-Some-child.node.0 = found c.args.from.0 c.args.old_name.now path c.child.result (Some c.in-Some-child.node) shows at c.child.ensures c.in-Some-child.is in
    let taken : get c.args.self.now.names (c.args.new_name.now ∷ above) ≡ Some c.in-Some-child-2.replaced.0 = found c.args.to.0 c.args.new_name.now above c.child-2.result (Some c.in-Some-child-2.replaced) shows into c.child-2.ensures c.in-Some-child-2.is in
    let equal : (c.in-Some-child.node.0 == c.in-Some-child-2.replaced.0) ≡ false = sym c.eq.ensures ∙ c.if-eq.false in
    allowed_taken c.args.self.now (c.args.old_name.now ∷ path) (c.args.new_name.now ∷ above) c.in-Some-child.node.0 c.in-Some-child-2.replaced.0 (sym (c.rename_fault.ensures path above at into) ∙ c.in_default.is) there taken equal

pub drop_name-requires-clause-empty : goal.drop_name-requires-clause-empty
drop_name-requires-clause-empty c path at d =
    let shows : Shows c.self.inside.directories c.self.inside.nodes c.args.self.now = record { view = c.self.view_is; agree = c.self.invariant } in
    let above = c.requires.under.path in
    let into = c.requires.under.stands in
    let there : get c.args.self.now.names (c.args.old_name.now ∷ path) ≡ Some c.in-Some-child.node.0 = found c.args.from.0 c.args.old_name.now path c.child.result (Some c.in-Some-child.node) shows at c.child.ensures c.in-Some-child.is in
    let taken : get c.args.self.now.names (c.args.new_name.now ∷ above) ≡ Some c.in-Some-child-2.replaced.0 = found c.args.to.0 c.args.new_name.now above c.child-2.result (Some c.in-Some-child-2.replaced) shows into c.child-2.ensures c.in-Some-child-2.is in
    let one : is_same_path (c.args.old_name.now ∷ path) (c.args.new_name.now ∷ above) ≡ false = one_name c.args.from.0 c.args.to.0 c.args.old_name.now c.args.new_name.now path above c.is_one_name.result shows c.requires.within at into c.is_one_name.ensures ∙ c.if-is_one_name.false in
    let equal : (c.in-Some-child.node.0 == c.in-Some-child-2.replaced.0) ≡ true = sym c.eq.ensures ∙ c.if-eq.true in
    let node : c.in-Some-child.node.0 ≡ c.in-Some-child-2.replaced.0 = eqb-true c.in-Some-child.node.0 c.in-Some-child-2.replaced.0 equal in
    let first : get c.self.inside.directories.names (c.args.old_name.now ∷ path) ≡ Some c.in-Some-child.node.0 = same_name (c.args.old_name.now ∷ path) shows ∙ there in
    let second : get c.self.inside.directories.names (c.args.new_name.now ∷ above) ≡ Some c.in-Some-child.node.0 = same_name (c.args.new_name.now ∷ above) shows ∙ taken ∙ ap (λ (n : ℕ). Some n) (sym node) in
    let in_table = ap (λ f. is_directory (state_of f) c.in-Some-child.node.0) c.self.view_is ∙ d in
    let placed = c.self.invariant.placed c.in-Some-child.node.0 (named c.self.inside.directories.names (c.args.old_name.now ∷ path) c.in-Some-child.node.0 first) in_table in
    let alike = one_path c.in-Some-child.node.0 (c.args.old_name.now ∷ path) (c.args.new_name.now ∷ above) c.self.invariant placed first second in
    absurd (true≢false (sym (same_test (c.args.old_name.now ∷ path)) ∙ ap (is_same_path (c.args.old_name.now ∷ path)) alike ∙ one))

pub returns-then-is_one_name-clause-ok : goal.returns-then-is_one_name-clause-ok
returns-then-is_one_name-clause-ok c path above node at into is =
    let shows : Shows c.self.inside.directories c.self.inside.nodes c.args.self.now = record { view = c.self.view_is; agree = c.self.invariant } in
    let taken : get c.args.self.now.names (c.args.new_name.now ∷ above) ≡ Some c.in-Some-child-2.replaced.0 = found c.args.to.0 c.args.new_name.now above c.child-2.result (Some c.in-Some-child-2.replaced) shows into c.child-2.ensures c.in-Some-child-2.is in
    let one : is_same_path (c.args.old_name.now ∷ path) (c.args.new_name.now ∷ above) ≡ true = one_name c.args.from.0 c.args.to.0 c.args.old_name.now c.args.new_name.now path above c.is_one_name.result shows c.requires.within at into c.is_one_name.ensures ∙ c.if-is_one_name.true in
    sym (renamed_over c.args.self.now (c.args.old_name.now ∷ path) (c.args.new_name.now ∷ above) node c.in-Some-child-2.replaced.0 true (node == c.in-Some-child-2.replaced.0) taken one refl)

pub returns-then-eq-clause-ok : goal.returns-then-eq-clause-ok
returns-then-eq-clause-ok c path above node at into is =
    let shows : Shows c.self.inside.directories c.self.inside.nodes c.args.self.now = record { view = c.self.view_is; agree = c.self.invariant } in
    let there : get c.args.self.now.names (c.args.old_name.now ∷ path) ≡ Some c.in-Some-child.node.0 = found c.args.from.0 c.args.old_name.now path c.child.result (Some c.in-Some-child.node) shows at c.child.ensures c.in-Some-child.is in
    let taken : get c.args.self.now.names (c.args.new_name.now ∷ above) ≡ Some c.in-Some-child-2.replaced.0 = found c.args.to.0 c.args.new_name.now above c.child-2.result (Some c.in-Some-child-2.replaced) shows into c.child-2.ensures c.in-Some-child-2.is in
    let one : is_same_path (c.args.old_name.now ∷ path) (c.args.new_name.now ∷ above) ≡ false = one_name c.args.from.0 c.args.to.0 c.args.old_name.now c.args.new_name.now path above c.is_one_name.result shows c.requires.within at into c.is_one_name.ensures ∙ c.if-is_one_name.false in
    let node_is : node ≡ c.in-Some-child.node.0 = same_node (sym is ∙ there) in
    let equal : (node == c.in-Some-child-2.replaced.0) ≡ true = ap (λ m. m == c.in-Some-child-2.replaced.0) node_is ∙ sym c.eq.ensures ∙ c.if-eq.true in
    c.drop_name.ensures path at ∙ ap (without_name c.args.self.now (c.args.old_name.now ∷ path)) (sym node_is)
    ∙ sym (renamed_over c.args.self.now (c.args.old_name.now ∷ path) (c.args.new_name.now ∷ above) node c.in-Some-child-2.replaced.0 false true taken one equal)

pub returns-else-eq-clause-ok : goal.returns-else-eq-clause-ok
returns-else-eq-clause-ok c path above node at into is =
    let shows : Shows c.self.inside.directories c.self.inside.nodes c.args.self.now = record { view = c.self.view_is; agree = c.self.invariant } in
    let there : get c.args.self.now.names (c.args.old_name.now ∷ path) ≡ Some c.in-Some-child.node.0 = found c.args.from.0 c.args.old_name.now path c.child.result (Some c.in-Some-child.node) shows at c.child.ensures c.in-Some-child.is in
    let taken : get c.args.self.now.names (c.args.new_name.now ∷ above) ≡ Some c.in-Some-child-2.replaced.0 = found c.args.to.0 c.args.new_name.now above c.child-2.result (Some c.in-Some-child-2.replaced) shows into c.child-2.ensures c.in-Some-child-2.is in
    let one : is_same_path (c.args.old_name.now ∷ path) (c.args.new_name.now ∷ above) ≡ false = one_name c.args.from.0 c.args.to.0 c.args.old_name.now c.args.new_name.now path above c.is_one_name.result shows c.requires.within at into c.is_one_name.ensures ∙ c.if-is_one_name.false in
    let node_is : node ≡ c.in-Some-child.node.0 = same_node (sym is ∙ there) in
    let equal : (node == c.in-Some-child-2.replaced.0) ≡ false = ap (λ m. m == c.in-Some-child-2.replaced.0) node_is ∙ sym c.eq.ensures ∙ c.if-eq.false in
    c.replace_name.ensures path above at into ∙ sym (renamed_over c.args.self.now (c.args.old_name.now ∷ path) (c.args.new_name.now ∷ above) node c.in-Some-child-2.replaced.0 false false taken one equal)
