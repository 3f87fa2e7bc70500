-- What it is to a kernel's state that a row goes, and with it an open file.
use Rattle.std.specs.Prelude.{slice_set, slice_index, nat_lt, IfSome, IfNone}
use Rattle.std.specs.List.{list_any}
use Rattle.std.proofs.Common.{◌≡◌, ◌≢◌, ℕ, zero, suc, ◌+◌, ◌-◌, ◌<◌, ◌≤◌, ◌==◌, ◌||◌, Bool, true, false, List, [], ◌∷◌, ◌++◌, length, Option, None, Some, cond, count_by, refl, sym, ap, subst, ◌∙◌, ◌⊎◌, inl, inr, IsSome, arith}
use Rattle.std.proofs.lemmas.Bool.{lt-ltb, cases_eq, eqb-true, eq-eqb}
use Rattle.std.proofs.lemmas.Bool.Decides.{nat_tests}
use Rattle.std.proofs.lemmas.List.Sums.{sum_by-cons}
use Rattle.sp_base.specs.Table.{at}
use Rattle.sp_base.proofs.CountLaws.{one_if, count_set, count_push, any_count}
use Rattle.sp_base.specs.declared.names.Fd.{Fd}
use Rattle.kern_model.specs.declared.node.Object.{Object}
use Rattle.kern_model.specs.declared.node.Object.TheVariants as object
use Rattle.kern_model.specs.declared.node.OpenFile.{OpenFile}
use Rattle.kern_model.specs.declared.node.Row.{Row}
use Rattle.kern_model.specs.Name.{name_count}
use Rattle.kern_model.specs.State.{State, is_of_node, stays, without_unused, let_go_object, rows_of}
use Rattle.kern_model.specs.State as state
use Rattle.kern_open.specs.OpenTables.{OpenTables, closed_file, is_held}
use Rattle.kern_open.specs.OpenTables as tables
use Rattle.kern_files.specs.Files.{Files, holders_of, is_kept, without_unkept, with_holders}
use Rattle.kern_calls.specs.Joined.{joined, AreHolders}

-- ---- holders

-- the list is as long as the index of what is above 0
within : (l : List ℕ) (n : ℕ) → 0 < slice_index l n → n < length l
within [] n h = absurd (omega (arith, h))
within (x ∷ l) zero h = omega arith
within (x ∷ l) (suc n) h = let later = within l n h in omega (arith, later)

set_same : (l : List ℕ) (n x : ℕ) → n < length l → slice_index (slice_set l n x) n ≡ x
set_same [] n x h = absurd (omega (arith, h))
set_same (y ∷ l) zero x h = refl
set_same (y ∷ l) (suc n) x h = set_same l n x (omega (arith, h))

pub set_other : (l : List ℕ) (n x q : ℕ) → q ≢ n → slice_index (slice_set l n x) q ≡ slice_index l q
set_other [] n x q h = refl
set_other (y ∷ l) zero x zero h = absurd (h refl)
set_other (y ∷ l) zero x (suc q) h = refl
set_other (y ∷ l) (suc n) x zero h = refl
set_other (y ∷ l) (suc n) x (suc q) h = set_other l n x q (λ e. h (ap suc e))

-- ---- an open file goes

-- the number of the node that an object is
abbrev pub number_in : Object → ℕ
number_in (object.Node number) = number

-- the files with a holder of a node fewer
abbrev pub with_fewer : Files → ℕ → Files
with_fewer f node = with_holders f node (holders_of f node - 1)

-- the files after an open file is gone
abbrev pub released : Files → Option OpenFile → Files
released f None = f
released f (Some file) = without_unkept (with_fewer f (number_in file.object)) (number_in file.object)

-- the tables after the open file of a number is gone
abbrev pub without_file : OpenTables → ℕ → OpenTables
without_file o number = record o { files = slice_set o.files number None }

pub of_own : (ob : Object) → state.is_node (number_in ob) ob ≡ true
of_own (object.Node number) = eq-eqb number number refl

pub of_other : (ob : Object) (node : ℕ) → node ≢ number_in ob → state.is_node node ob ≡ false
of_other (object.Node number) node h = elim (number == node) as (λ b. (number == node) ≡ b → b ≡ false) [
  | true ↦ λ t. absurd (h (sym (eqb-true number node t)))
  | false ↦ λ t. refl
] refl

-- an open file that is there is a holder of its node
pub some_holder : (o : OpenTables) (f : Files) (number : ℕ) (file : OpenFile) → AreHolders o f → at o.files number ≡ Some file → 0 < holders_of f (number_in file.object)
some_holder o f number file h e =
    let node = number_in file.object in
    let less = count_set (is_of_node node) o.files number None file e in
    let one : one_if (is_of_node node (Some file)) ≡ 1 = ap one_if (of_own file.object) in
    let held = h node in
    omega (arith, less, one, held)

-- the holders without an open file
pub fewer : (o : OpenTables) (f : Files) (number : ℕ) (file : OpenFile) → AreHolders o f → at o.files number ≡ Some file
    → AreHolders (without_file o number) (with_fewer f (number_in file.object))
fewer o f number file h e node = elim (cases_eq node (number_in file.object)) [
  | inl same ↦ subst (λ (n : ℕ). holders_of (with_fewer f own) n ≡ count_by (is_of_node n) (slice_set o.files number None)) (sym same) here
  | inr other ↦ (
      let less = count_set (is_of_node node) o.files number None file e in
      let none : one_if (is_of_node node (Some file)) ≡ 0 = ap one_if (of_other file.object node other) in
      let stays = set_other f.holders own (holders_of f own - 1) node other in
      let held = h node in
      omega (arith, less, none, stays, held))
] where
  own : ℕ
  own = number_in file.object

  here : holders_of (with_fewer f own) own ≡ count_by (is_of_node own) (slice_set o.files number None)
  here =
      let less = count_set (is_of_node own) o.files number None file e in
      let one : one_if (is_of_node own (Some file)) ≡ 1 = ap one_if (of_own file.object) in
      let held = h own in
      let some = some_holder o f number file h e in
      let is = set_same f.holders own (holders_of f own - 1) (within f.holders own some) in
      omega (arith, less, one, held, some, is)

-- the node that goes with the last one that keeps it leaves the holders
pub kept_holders : (f : Files) (node other : ℕ) → holders_of (without_unkept f node) other ≡ holders_of f other
kept_holders f node other = elim (is_kept f node) as (λ b. holders_of (cond b f (record f { nodes = slice_set f.nodes node None })) other ≡ holders_of f other) [ true ↦ refl | false ↦ refl ]

-- a node is kept by holders as it is by open files
kept_same : (o : OpenTables) (f : Files) (node : ℕ) → AreHolders o f → stays (joined o f) node ≡ is_kept f node
kept_same o f node h = ap (λ b. nat_lt 0 (name_count f.names node) || b) (any_count (is_of_node node) o.files ∙ ap (λ n. nat_lt 0 n) (sym (h node)))

pub drop_same : (o : OpenTables) (f : Files) (node : ℕ) → AreHolders o f → without_unused (joined o f) node ≡ joined o (without_unkept f node)
drop_same o f node h =
    ap (λ b. cond b (joined o f) (record (joined o f) { nodes = slice_set f.nodes node None })) (kept_same o f node h)
    ∙ (elim (is_kept f node) as (λ b. cond b (joined o f) (record (joined o f) { nodes = slice_set f.nodes node None }) ≡ joined o (cond b f (record f { nodes = slice_set f.nodes node None }))) [ true ↦ refl | false ↦ refl ])

-- an open file that goes takes its node along as in a kernel
let_go_own : (o : OpenTables) (f : Files) (ob : Object) → AreHolders o (with_fewer f (number_in ob))
    → state.let_go_of (joined o f) ob ≡ joined o (without_unkept (with_fewer f (number_in ob)) (number_in ob))
let_go_own o f (object.Node node) h = drop_same o (with_fewer f node) node h

let_go_some : (o : OpenTables) (f : Files) (number : ℕ) (file : Option OpenFile) → AreHolders o f → at o.files number ≡ file
    → let_go_object (joined (without_file o number) f) file ≡ joined (without_file o number) (released f file)
let_go_some o f number None h e = refl
let_go_some o f number (Some file) h e = let_go_own (without_file o number) f file.object (fewer o f number file h e)

let_go_same : (o : OpenTables) (f : Files) (number : ℕ) → AreHolders o f
    → state.let_go (joined o f) number ≡ joined (tables.let_go o number) (released f (tables.let_go_file o number))
let_go_same o f number h =
    elim (is_held o number) as (λ b. cond b (joined o f) (let_go_object (joined (without_file o number) f) (at o.files number))
    ≡ joined (cond b o (without_file o number)) (released f (cond b None (at o.files number)))) [
      | true ↦ refl
      | false ↦ let_go_some o f number (at o.files number) h refl
    ]

-- a state without a row is that of the tables without it, and of the tree that the open file let go of
pub close_same : (o : OpenTables) (f : Files) (pid fd : ℕ) → AreHolders o f
    → state.close_row (joined o f) pid fd ≡ joined (tables.close_row o pid fd) (released f (closed_file o pid fd))
close_same o f pid fd h = by_row (at (rows_of (joined o f) pid) fd) where
  by_row : (row : Option Row) → state.close_row_by (joined o f) pid fd row ≡ joined (tables.close_row_by o pid fd row) (released f (tables.closed_by o pid fd row))
  by_row None = refl
  by_row (Some row) = let_go_same (tables.with_row o pid fd None) f row.file h

released_some : (o : OpenTables) (f : Files) (number : ℕ) (file : Option OpenFile) → AreHolders o f → at o.files number ≡ file → AreHolders (without_file o number) (released f file)
released_some o f number None h e node =
    let same : slice_set o.files number None ≡ o.files = unchanged o.files number e in
    h node ∙ ap (count_by (is_of_node node)) (sym same) where
      unchanged : {X : Type 0} (table : List (Option X)) (n : ℕ) → at table n ≡ None → slice_set table n None ≡ table
      unchanged [] n e = refl
      unchanged (x ∷ table) zero e = ap (λ y. y ∷ table) (sym e)
      unchanged (x ∷ table) (suc n) e = ap (λ t. x ∷ t) (unchanged table n e)
released_some o f number (Some file) h e node = kept_holders (with_fewer f (number_in file.object)) (number_in file.object) node ∙ fewer o f number file h e node

-- the holders after a row went
pub close_holders : (o : OpenTables) (f : Files) (pid fd : ℕ) → AreHolders o f → AreHolders (tables.close_row o pid fd) (released f (closed_file o pid fd))
close_holders o f pid fd h = by_row (at (rows_of (joined o f) pid) fd) where
  by_held : (t : OpenTables) (number : ℕ) → AreHolders t f → AreHolders (tables.let_go t number) (released f (tables.let_go_file t number))
  by_held t number k = elim (is_held t number) as (λ b. AreHolders (cond b t (without_file t number)) (released f (cond b None (at t.files number)))) [
    | true ↦ k
    | false ↦ released_some t f number (at t.files number) k refl
  ]

  by_row : (row : Option Row) → AreHolders (tables.close_row_by o pid fd row) (released f (tables.closed_by o pid fd row))
  by_row None = h
  by_row (Some row) = by_held (tables.with_row o pid fd None) row.file h

-- the open file that goes was there
pub closed_there : (o : OpenTables) (pid fd : ℕ) (file : OpenFile) → closed_file o pid fd ≡ Some file → (number : ℕ) × (at o.files number ≡ Some file)
closed_there o pid fd file = by_row (at (tables.rows_of o pid) fd) where
  by_held : (b : Bool) (number : ℕ) → cond b None (at o.files number) ≡ Some file → (number : ℕ) × (at o.files number ≡ Some file)
  by_held true number e = absurd cc
  by_held false number e = (number, e)

  by_row : (row : Option Row) → tables.closed_by o pid fd row ≡ Some file → (number : ℕ) × (at o.files number ≡ Some file)
  by_row None e = absurd cc
  by_row (Some row) e = by_held (is_held (tables.with_row o pid fd None) row.file) row.file e

-- ---- what the parts do

-- what is there is something
pub record Has {X : Type 0} (o : Option X) : Type 0 where
  pub value : X
  pub is : o ≡ Some value

has : {X : Type 0} (o : Option X) → IsSome o → Has o
has None h = absurd cc
has (Some x) h = record { value = x; is = refl }

-- a descriptor that is open in the state has a row in the tables
pub open_row : (o : OpenTables) (f : Files) (s : State) (pid fd : ℕ) → joined o f ≡ s → IsSome (at (rows_of s pid) fd) → Has (at (tables.rows_of o pid) fd)
open_row o f s pid fd view h = has (at (tables.rows_of o pid) fd) (subst (λ (t : State). IsSome (at (rows_of t pid) fd)) (sym view) h)

-- an open file that is there in the state is there in the tables
pub file_there : (o : OpenTables) (f : Files) (s : State) (number : ℕ) → joined o f ≡ s → IsSome (at s.files number) → Has (at o.files number)
file_there o f s number view h = has (at o.files number) (subst (λ (t : State). IsSome (at t.files number)) (sym view) h)

-- the same open files have the same holders
pub keep_holders : (o t : OpenTables) (f : Files) → AreHolders o f → t.files ≡ o.files → AreHolders t f
keep_holders o t f h same node = h node ∙ ap (count_by (is_of_node node)) (sym same)

-- a node that is let go of has a holder
pub has_holder : (o : OpenTables) (f : Files) (pid fd node : ℕ) (gone : OpenFile) → AreHolders o f → Some gone ≡ closed_file o pid fd → gone.object ≡ object.Node node → 0 < holders_of f node
has_holder o f pid fd node gone h e own =
    let there = closed_there o pid fd gone (sym e) in
    subst (λ (n : ℕ). 0 < holders_of f n) (ap number_in own) (some_holder o f there.0 gone h there.1)

-- the tree let go of the node of the open file that went
pub release_is : (o : OpenTables) (f g : Files) (pid fd node : ℕ) (gone : OpenFile) → Some gone ≡ closed_file o pid fd → gone.object ≡ object.Node node
    → g ≡ without_unkept (with_holders f node (holders_of f node - 1)) node → g ≡ released f (closed_file o pid fd)
release_is o f g pid fd node gone e own is = is ∙ ap (λ n. without_unkept (with_fewer f n) n) (sym (ap number_in own)) ∙ ap (released f) e

-- the holders after a row went
pub closed_holders : (o t : OpenTables) (f g : Files) (pid fd : ℕ) → AreHolders o f → t.files ≡ (tables.close_row o pid fd).files → g ≡ released f (closed_file o pid fd) → AreHolders t g
closed_holders o t f g pid fd h t_is g_is node = ap (λ (k : Files). holders_of k node) g_is ∙ close_holders o f pid fd h node ∙ ap (count_by (is_of_node node)) (sym t_is)

-- the state after a row went
pub closed_state : (o t : OpenTables) (f g : Files) (s : State) (pid fd : ℕ) → joined o f ≡ s → AreHolders o f → t ≡ tables.close_row o pid fd → g ≡ released f (closed_file o pid fd)
    → joined t g ≡ state.close_row s pid fd
closed_state o t f g s pid fd view h t_is g_is = (λ i. joined (t_is i) (g_is i)) ∙ sym (close_same o f pid fd h) ∙ ap (λ (u : State). state.close_row u pid fd) view

-- the state after a row went, and another one came in its place
pub shared_state : (o t : OpenTables) (f g : Files) (s : State) (pid fd : ℕ) (row : Option Row) → joined o f ≡ s → AreHolders o f → t ≡ tables.with_row (tables.close_row o pid fd) pid fd row
    → g ≡ released f (closed_file o pid fd) → joined t g ≡ state.with_row (state.close_row s pid fd) pid fd row
shared_state o t f g s pid fd row view h t_is g_is =
    (λ i. joined (t_is i) (g_is i)) ∙ ap (λ (u : State). state.with_row u pid fd row) (sym (close_same o f pid fd h) ∙ ap (λ (u : State). state.close_row u pid fd) view)

-- an open file that is another one of the same object leaves the holders
pub set_holders : (o : OpenTables) (f : Files) (number : ℕ) (old file : OpenFile) → AreHolders o f → at o.files number ≡ Some old → file.object ≡ old.object → AreHolders (tables.replace_file o number file) f
set_holders o f number old file h e same node =
    let set = count_set (is_of_node node) o.files number (Some file) old e in
    let own : one_if (is_of_node node (Some file)) ≡ one_if (is_of_node node (Some old)) = ap (λ (ob : Object). one_if (state.is_node node ob)) same in
    let held = h node in
    omega (arith, set, own, held)

-- a row more leaves the open files
pub share_files : (o t : OpenTables) (pid : ℕ) (row : Option Row) (r : Option Fd) → IfSome r (λ to. t ≡ tables.with_row o pid to.0 row) → IfNone r (t ≡ o) → t.files ≡ o.files
share_files o t pid row None some none = ap (λ (u : OpenTables). u.files) none
share_files o t pid row (Some to) some none = ap (λ (u : OpenTables). u.files) some

-- a row more in the tables is one in the state
pub share_state : (o t : OpenTables) (f : Files) (s : State) (pid : ℕ) (row : Option Row) (r : Option Fd) → joined o f ≡ s → IfSome r (λ to. t ≡ tables.with_row o pid to.0 row)
    → IfSome r (λ to. joined t f ≡ state.with_row s pid to.0 row)
share_state o t f s pid row None view some = some
share_state o t f s pid row (Some to) view some = ap (λ (u : OpenTables). joined u f) some ∙ ap (λ (u : State). state.with_row u pid to.0 row) view
