-- What a rename comes to, by what stands under the two paths.
use Rattle.std.specs.Prelude.{◌↔◌, ◌==◌, IsTrue, is_some}
use Rattle.std.proofs.Common.{◌≡◌, ◌≢◌, cond, ℕ, Bool, true, false, not, ◌&&◌, List, [], ◌∷◌, Option, None, Some, refl, sym, ap, subst, ◌∙◌, arith}
use Rattle.std.proofs.lemmas.Bool.{eq-eqb, true≢false}
use Rattle.std.specs.Option.{option_map}
use Rattle.std.specs.FinMap.{get, remove, get-remove}
use Rattle.sp_base.specs.declared.errno.Errno.TheVariants.{Enotdir, Eisdir, Einval, Enotempty}
use Rattle.sp_base.specs.declared.names.NodeNo.{NodeNo}
use Rattle.kern_model.specs.Name.{Path, has_entries, below, is_same_path}
use Rattle.kern_model.specs.State.{is_directory}
use Rattle.kern_model.specs.Links.{is_below}
use Rattle.kern_model.proofs.NamesLaws.{paths_total}
use Rattle.kern_model.proofs.BelowLaws.{same_test, other_test, path_from_test}
use Rattle.kern_names.specs.Tree.{IsWhole, Tree, has_directory}
use Rattle.kern_names.proofs.AboveLaws.{below_child}
use Rattle.kern_names.proofs.ShownLaws.{same_node}
use Rattle.kern_names.proofs.CountLaws.{count_remove}
use Rattle.kern_nodes.specs.NodeTable.{NodeTable}
use Rattle.kern_files.specs.Files.{Files, state_of, rename_error, rename_error_of, move_error, replace_error, renamed_to, without_name, moved}
use Rattle.kern_files.specs.Parts.{Agree}
use Rattle.kern_files.specs.Requests.{IsDirectory, MayReplace}
use Rattle.kern_files.proofs.AgreeLaws.{named, one_same}
use Rattle.kern_files.proofs.FilesLaws.{Shows, in_tree, same_name}

-- what is told of a name's node in the tree holds of the files
pub told : {tree : Tree} {table : NodeTable} {f : Files} (path : Path) (found known : Option NodeNo) → Shows tree table f → get tree.names path ≡ option_map (λ (n : NodeNo). n.0) found → found ≡ known
    → get f.names path ≡ option_map (λ (n : NodeNo). n.0) known
told path found known shows e is = sym (same_name path shows) ∙ e ∙ ap (option_map (λ (n : NodeNo). n.0)) is

-- what a directory tells of a name holds of the files
pub found : {tree : Tree} {table : NodeTable} {f : Files} (directory : ℕ) (name : List ℕ) (path : Path) (child known : Option NodeNo) → Shows tree table f → get f.names path ≡ Some directory
    → ((p : Path) → get tree.names p ≡ Some directory → get tree.names (name ∷ p) ≡ option_map (λ (n : NodeNo). n.0) child) → child ≡ known
    → get f.names (name ∷ path) ≡ option_map (λ (n : NodeNo). n.0) known
found directory name path child known shows at tells is = told (name ∷ path) child known shows (tells path (same_name path shows ∙ at)) is

-- a directory has one path
pub one_path : {tree : Tree} {table : NodeTable} (node : ℕ) (p q : Path) → Agree tree table → IsTrue (has_directory tree node) → get tree.names p ≡ Some node → get tree.names q ≡ Some node → p ≡ q
one_path {tree} {table} node p q a d e f = elim (is_same_path q p) as (λ b. is_same_path q p ≡ b → p ≡ q) [
  | true ↦ λ t. sym (path_from_test q p t)
  | false ↦ λ t.
      (let left : get (remove tree.names p) q ≡ Some node = get-remove paths_total tree.names p q ∙ ap (λ b. cond b None (get tree.names q)) t ∙ f in
      let some = named (remove tree.names p) q node left in
      let less = count_remove tree.names p node node e in
      let own = one_same node node refl in
      let one = a.once node d in
      absurd (omega (arith, some, less, own, one)))
] refl

-- two names are one exactly where their paths are
pub one_name : {tree : Tree} {table : NodeTable} {f : Files} (from to : ℕ) (old_name new_name : List ℕ) (path above : Path) (b : Bool) → Shows tree table f → IsDirectory f from
    → get f.names path ≡ Some from → get f.names above ≡ Some to → IsTrue b ↔ (from ≡ to) × (old_name ≡ new_name) → is_same_path (old_name ∷ path) (new_name ∷ above) ≡ b
one_name from to old_name new_name path above true shows directory at into iff =
    let same = iff.0 refl in
    let one : path ≡ above = one_path from path above shows.agree (in_tree from shows directory) (same_name path shows ∙ at) (same_name above shows ∙ into ∙ ap (λ (n : ℕ). Some n) (sym same.0)) in
    subst (λ (q : Path). is_same_path (old_name ∷ path) q ≡ true) (λ i. same.1 i ∷ one i) (same_test (old_name ∷ path))
one_name from to old_name new_name path above false shows directory at into iff =
    other_test (old_name ∷ path) (new_name ∷ above) (λ e.
    let first : old_name ≡ new_name = cc in
    let rest : path ≡ above = cc in
    let node : from ≡ to = same_node (sym at ∙ ap (get _) rest ∙ into) in
    true≢false (sym (iff.1 (node, first))))

-- another path than that of a node that is no directory
not_same : (t : Tree) (node n : ℕ) (old p : Path) → get t.names old ≡ Some node → has_directory t node ≡ false → get t.names p ≡ Some n → IsTrue (has_directory t n) → is_same_path p old ≡ false
not_same t node n old p there plain stands d = elim (is_same_path p old) as (λ b. is_same_path p old ≡ b → b ≡ false) [
  | true ↦ λ e. absurd (true≢false (sym d ∙ ap (has_directory t) (same_node (sym stands ∙ ap (get t.names) (path_from_test p old e) ∙ there)) ∙ plain))
  | false ↦ λ e. refl
] refl

mapped : {X Y : Type 0} (f : X → Y) (o : Option X) → is_some (option_map f o) ≡ is_some o
mapped f None = refl
mapped f (Some x) = refl

-- no directory stands at or below a node that is none
pub below_file : (t : Tree) (node n : ℕ) (old p : Path) → IsWhole t → get t.names old ≡ Some node → has_directory t node ≡ false → get t.names p ≡ Some n → IsTrue (has_directory t n) → is_some (below p old) ≡ false
below_file t node n old [] whole there plain stands d = ap (λ b. is_some (cond {A = Option Path} b (Some []) None)) (not_same t node n old [] there plain stands d)
below_file t node n old (c ∷ p) whole there plain stands d =
    let place = whole.parents c p n stands in
    ap (λ b. is_some (cond b (Some []) (option_map (λ (rest : Path). c ∷ rest) (below p old)))) (not_same t node n old (c ∷ p) there plain stands d)
    ∙ mapped (λ (rest : Path). c ∷ rest) (below p old) ∙ below_file t node place.node old p whole there plain place.stands place.directory

-- a name is inside a node exactly where its directory is
pub inside_by : (f : Files) (to node : ℕ) (name : List ℕ) (above old : Path) (inside : Bool) → get f.names above ≡ Some to → get f.names old ≡ Some node
    → ((p q : Path) → get f.names p ≡ Some to → get f.names q ≡ Some node → inside ≡ is_some (below p q)) → is_below (name ∷ above) old ≡ inside
inside_by f to node name above old inside into there tells = below_child name above old ∙ sym (tells above old into there)

-- the error where nothing is at the new path, and where something is
pub error_free : (f : Files) (old new : Path) (node : ℕ) (inside : Bool) → get f.names old ≡ Some node → get f.names new ≡ None → is_below new old ≡ inside → rename_error f old new ≡ cond inside (Some Einval) None
error_free f old new node inside there free below =
    ap (λ o. rename_error_of f old o new) there ∙ ap (move_error f old node new) free ∙ ap (λ b. cond b (Some Einval) None) below

pub error_taken : (f : Files) (old new : Path) (node replaced : ℕ) (same inside : Bool) → get f.names old ≡ Some node → get f.names new ≡ Some replaced → (node == replaced) ≡ same → is_below new old ≡ inside
    → rename_error f old new ≡ cond same None (cond inside (Some Einval) (replace_error f node new replaced))
error_taken f old new node replaced same inside there taken equal below =
    ap (λ o. rename_error_of f old o new) there ∙ ap (move_error f old node new) taken
    ∙ (λ i. cond (equal i) None (cond (below i) (Some Einval) (replace_error f node new replaced)))

-- what the files are after a rename to a path where something is
pub renamed_over : (f : Files) (old new : Path) (node replaced : ℕ) (one same : Bool) → get f.names new ≡ Some replaced → is_same_path old new ≡ one → (node == replaced) ≡ same
    → renamed_to f old node new (get f.names new) ≡ cond one f (cond same (without_name f old node) (moved (without_name f new replaced) old new))
renamed_over f old new node replaced one same taken alike equal =
    ap (renamed_to f old node new) taken ∙ (λ i. cond (alike i) f (cond (equal i) (without_name f old node) (moved (without_name f new replaced) old new)))

-- ---- where there is no error

-- something is under the old path
pub allowed_some : (f : Files) (old new : Path) → rename_error f old new ≡ None → get f.names old ≢ None
allowed_some f old new allowed none = let e = ap (λ o. rename_error_of f old o new) (sym none) ∙ allowed in absurd cc

-- a free path isn't below the old one
pub allowed_free : (f : Files) (old new : Path) (node : ℕ) → rename_error f old new ≡ None → get f.names old ≡ Some node → get f.names new ≡ None → is_below new old ≡ false
allowed_free f old new node allowed there free =
    by_test (is_below new old) (sym (error_free f old new node (is_below new old) there free refl) ∙ allowed) where
      by_test : (b : Bool) → cond b (Some Einval) None ≡ None → b ≡ false
      by_test true e = absurd cc
      by_test false e = refl

no_fault : (same inside d r e : Bool) → same ≡ false
    → cond same None (cond inside (Some Einval) (cond (not d && r) (Some Eisdir) (cond (d && not r) (Some Enotdir) (cond (r && e) (Some Enotempty) None)))) ≡ None
    → (inside ≡ false) × (IsTrue r → e ≡ false)
no_fault true inside d r e s h = absurd (true≢false s)
no_fault false true d r e s h = absurd cc
no_fault false false d false e s h = (refl, λ t. absurd (true≢false (sym t)))
no_fault false false false true e s h = absurd cc
no_fault false false true true true s h = absurd cc
no_fault false false true true false s h = (refl, λ t. refl)

-- what is under the old path may take the place of another node
pub allowed_taken : (f : Files) (old new : Path) (node replaced : ℕ) → rename_error f old new ≡ None → get f.names old ≡ Some node → get f.names new ≡ Some replaced → (node == replaced) ≡ false
    → MayReplace f old new replaced
allowed_taken f old new node replaced allowed there taken other =
    let none = sym (error_taken f old new node replaced (node == replaced) (is_below new old) there taken refl refl) ∙ allowed in
    let may = no_fault (node == replaced) (is_below new old) (is_directory (state_of f) node) (is_directory (state_of f) replaced) (has_entries f.names new) other none in
    record {
      there = ap (λ (o : Option ℕ). is_some o) there;
      taken = taken;
      empty = may.1;
      outside = may.0;
      two = λ e. true≢false (sym (eq-eqb node replaced (same_node (sym there ∙ e))) ∙ other);
    }
