-- Who holds an open file or a node, by the tests of it and as rows, names and open files.
use Rattle.std.specs.Prelude.{IsSome, is_some, nat_lt, slice_set, find as list_find, filter}
use Rattle.std.proofs.Common.{◌≡◌, ◌≢◌, ◌⊎◌, inl, inr, cond, ℕ, zero, suc, ◌<◌, true, false, ◌==◌, List, [], ◌∷◌, ◌++◌, length, Option, Some, None, refl, sym, ap, ◌∙◌, arith}
use Rattle.std.proofs.lemmas.Bool.{eqb-true, eq-eqb, or_cases, or_left, or_right, false≢true, cases_eq}
use Rattle.std.specs.List.{list_any}
use Rattle.std.specs.Option.{option_map}
use Rattle.std.specs.FinMap.{entries}
use Rattle.sp_base.specs.Table.{at}
use Rattle.sp_base.proofs.TableLaws.{at_other}
use Rattle.kern_model.specs.declared.node.Object.{Object}
use Rattle.kern_model.specs.declared.node.Object.TheVariants as object
use Rattle.kern_model.specs.declared.node.OpenFile.{OpenFile}
use Rattle.kern_model.specs.declared.node.Row.{Row}
use Rattle.kern_model.specs.Name.{Path, Names, name_count}
use Rattle.kern_model.specs.State.{State, Process, rows_in, rows_of, with_row, is_row_of, is_held, is_node, is_of_node, stays}
use Rattle.kern_model.proofs.AnyLaws.{any_from, any_to}
use Rattle.kern_model.proofs.EntryLaws.{counted, placed}
use Rattle.kern_model.proofs.NameLaws.{HasName}
use Rattle.kern_model.proofs.RowLaws.{rows_with_row}

-- ---- tables

-- a number whose row is there is within the table
pub there_below : {X : Type 0} (table : List (Option X)) (n : ℕ) → IsSome (at table n) → n < length table
there_below [] n h = absurd (false≢true h)
there_below (x ∷ table) zero h = omega arith
there_below (x ∷ table) (suc n) h = let lt = there_below table n h in omega arith

-- what is at a number once another one, or the same, is set
pub set_cases : {X : Type 0} (table : List (Option X)) (n : ℕ) (x : Option X) (q : ℕ) (y : X) → at (slice_set table n x) q ≡ Some y → (x ≡ Some y) ⊎ ((q ≢ n) × (at table q ≡ Some y))
set_cases [] n x q y h = absurd cc
set_cases (z ∷ table) zero x zero y h = inl h
set_cases (z ∷ table) zero x (suc q) y h = inr ((λ e. cc), h)
set_cases (z ∷ table) (suc n) x zero y h = inr ((λ e. cc), h)
set_cases (z ∷ table) (suc n) x (suc q) y h = later (set_cases table n x q y h) where
  later : (x ≡ Some y) ⊎ ((q ≢ n) × (at table q ≡ Some y)) → (x ≡ Some y) ⊎ ((suc q ≢ suc n) × (at table q ≡ Some y))
  later (inl e) = inl e
  later (inr k) = inr ((λ e. k.0 (omega (arith, e))), k.1)

-- what is at a number stays where something is put behind the table
pub end_stays : {X : Type 0} (table : List (Option X)) (x : Option X) (q : ℕ) (y : X) → at table q ≡ Some y → at (table ++ x ∷ []) q ≡ Some y
end_stays [] x q y h = absurd cc
end_stays (z ∷ table) x zero y h = h
end_stays (z ∷ table) x (suc q) y h = end_stays table x q y h

-- what is at a number then was there, or is the last
pub end_cases : {X : Type 0} (table : List (Option X)) (x : Option X) (q : ℕ) (y : X) → at (table ++ x ∷ []) q ≡ Some y → ((q ≡ length table) × (x ≡ Some y)) ⊎ (at table q ≡ Some y)
end_cases [] x zero y h = inl (refl, h)
end_cases [] x (suc q) y h = absurd cc
end_cases (z ∷ table) x zero y h = inr h
end_cases (z ∷ table) x (suc q) y h = later (end_cases table x q y h) where
  later : ((q ≡ length table) × (x ≡ Some y)) ⊎ (at table q ≡ Some y) → ((suc q ≡ length (z ∷ table)) × (x ≡ Some y)) ⊎ (at table q ≡ Some y)
  later (inl e) = inl ((let same = e.0 in omega arith), e.1)
  later (inr k) = inr k

-- what is there is something
pub record Has {X : Type 0} (o : Option X) : Type 0 where
  pub value : X
  pub is : o ≡ Some value

pub has_from : {X : Type 0} (o : Option X) → IsSome o → Has o
has_from None h = absurd (false≢true h)
has_from (Some x) h = record { value = x; is = refl }

pub some_there : {X : Type 0} (o : Option X) (x : X) → o ≡ Some x → IsSome o
some_there {X = X} o x e = ap (λ (p : Option X). is_some p) e

-- ---- rows

-- some row of some process is of an open file
pub record HasRow (s : State) (number : ℕ) : Type 0 where
  pub pid : ℕ
  pub fd : ℕ
  pub row : Row
  pub there : at (rows_of s pid) fd ≡ Some row
  pub of : row.file ≡ number

row_is : (number : ℕ) (o : Option Row) → is_row_of number o ≡ true → (row : Row) × (o ≡ Some row) × (row.file ≡ number)
row_is number None h = absurd (false≢true h)
row_is number (Some row) h = (row, refl, eqb-true row.file number h)

-- an open file that is held has a row
pub held_row : (s : State) (number : ℕ) → is_held s number ≡ true → HasRow s number
held_row s number h =
    let outer = any_to (λ process. list_any (is_row_of number) (rows_in process)) s.processes h in
    let inner = any_to (is_row_of number) (rows_of s outer.number) outer.passes in
    let row = row_is number (at (rows_of s outer.number) inner.number) inner.passes in
    record { pid = outer.number; fd = inner.number; row = row.0; there = row.1; of = row.2 }

-- an open file that has a row is held
pub row_held : (s : State) (number : ℕ) → HasRow s number → is_held s number ≡ true
row_held s number h =
    any_from (λ process. list_any (is_row_of number) (rows_in process)) s.processes h.pid refl
    (any_from (is_row_of number) (rows_of s h.pid) h.fd refl
    (ap (λ (o : Option Row). is_row_of number o) h.there ∙ eq-eqb h.row.file number h.of))

-- a row then is the one that was set, or stands where it stood
pub row_cases : (s : State) (pid fd : ℕ) (x : Option Row) (q k : ℕ) (row : Row) → at (rows_of (with_row s pid fd x) q) k ≡ Some row → (x ≡ Some row) ⊎ (at (rows_of s q) k ≡ Some row)
row_cases s pid fd x q k row h = by_process (cases_eq q pid) where
  by_row : (x ≡ Some row) ⊎ ((k ≢ fd) × (at (rows_of s pid) k ≡ Some row)) → q ≡ pid → (x ≡ Some row) ⊎ (at (rows_of s q) k ≡ Some row)
  by_row (inl e) same = inl e
  by_row (inr e) same = inr (ap (λ (n : ℕ). at (rows_of s n) k) same ∙ e.1)

  by_process : (q ≡ pid) ⊎ (q ≡ pid → ⊥) → (x ≡ Some row) ⊎ (at (rows_of s q) k ≡ Some row)
  by_process (inl same) = by_row (set_cases (rows_of s pid) fd x k row
      (ap (λ (l : List (Option Row)). at l k) (sym (rows_with_row s pid fd x)) ∙ ap (λ (n : ℕ). at (rows_of (with_row s pid fd x) n) k) (sym same) ∙ h)) same
  by_process (inr ne) = inr (ap (λ (p : Option Process). at (rows_in p) k) (sym (at_other s.processes pid _ q ne)) ∙ h)

-- a row of another descriptor stays
pub row_elsewhere : (s : State) (pid fd : ℕ) (x : Option Row) (q k : ℕ) (row : Row) → (q ≡ pid → k ≢ fd) → at (rows_of s q) k ≡ Some row → at (rows_of (with_row s pid fd x) q) k ≡ Some row
row_elsewhere s pid fd x q k row other h = by_process (cases_eq q pid) where
  by_process : (q ≡ pid) ⊎ (q ≡ pid → ⊥) → at (rows_of (with_row s pid fd x) q) k ≡ Some row
  by_process (inl same) =
      ap (λ (n : ℕ). at (rows_of (with_row s pid fd x) n) k) same
      ∙ ap (λ (l : List (Option Row)). at l k) (rows_with_row s pid fd x)
      ∙ at_other (rows_of s pid) fd x k (other same)
      ∙ ap (λ (n : ℕ). at (rows_of s n) k) (sym same) ∙ h
  by_process (inr ne) = ap (λ (p : Option Process). at (rows_in p) k) (at_other s.processes pid _ q ne) ∙ h

-- ---- names and open files of a node

-- some open file is of a node
pub record HasFile (files : List (Option OpenFile)) (node : ℕ) : Type 0 where
  pub number : ℕ
  pub file : OpenFile
  pub there : at files number ≡ Some file
  pub of : file.object ≡ object.Node node

found_in : (node : ℕ) (es : List (Path × ℕ)) → nat_lt 0 (length (filter (λ e. e.1 == node) es)) ≡ true → IsSome (list_find (λ e. e.1 == node) es)
found_in node [] h = h
found_in node (e ∷ es) h =
    elim (e.1 == node) as (λ b. nat_lt 0 (length (cond b (e ∷ filter (λ e. e.1 == node) es) (filter (λ e. e.1 == node) es))) ≡ true → IsSome (cond b (Some e) (list_find (λ e. e.1 == node) es))) [
      | true ↦ λ k. refl
      | false ↦ λ k. found_in node es k
    ] h

path_found : (o : Option (Path × ℕ)) → IsSome o → Has (option_map (λ e. e.0) o)
path_found None h = absurd (false≢true h)
path_found (Some e) h = record { value = e.0; is = refl }

-- a node with names has one
pub counted_name : (names : Names) (node : ℕ) → nat_lt 0 (name_count names node) ≡ true → HasName names node
counted_name names node h =
    let found = path_found (list_find (λ e. e.1 == node) (entries names)) (found_in node (entries names) h) in
    record { path = found.value; stands = placed names node found.value found.is }

node_is : (node : ℕ) (o : Object) → is_node node o ≡ true → o ≡ object.Node node
node_is node (object.Node n) h = ap (λ (m : ℕ). object.Node m) (eqb-true n node h)

file_is : (node : ℕ) (o : Option OpenFile) → is_of_node node o ≡ true → (file : OpenFile) × (o ≡ Some file) × (file.object ≡ object.Node node)
file_is node None h = absurd (false≢true h)
file_is node (Some file) h = (file, refl, node_is node file.object h)

any_file : (files : List (Option OpenFile)) (node : ℕ) → list_any (is_of_node node) files ≡ true → HasFile files node
any_file files node h =
    let some = any_to (is_of_node node) files h in
    let file = file_is node (at files some.number) some.passes in
    record { number = some.number; file = file.0; there = file.1; of = file.2 }

-- a node that stays has a name or an open file
pub stays_by : (s : State) (node : ℕ) → stays s node ≡ true → HasName s.names node ⊎ HasFile s.files node
stays_by s node h = by_test (or_cases (nat_lt 0 (name_count s.names node)) (list_any (is_of_node node) s.files) h) where
  by_test : (nat_lt 0 (name_count s.names node) ≡ true) ⊎ (list_any (is_of_node node) s.files ≡ true) → HasName s.names node ⊎ HasFile s.files node
  by_test (inl name) = inl (counted_name s.names node name)
  by_test (inr file) = inr (any_file s.files node file)

-- a node that has a name stays
pub stays_named : (s : State) (node : ℕ) → HasName s.names node → stays s node ≡ true
stays_named s node h = or_left (nat_lt 0 (name_count s.names node)) (list_any (is_of_node node) s.files) (counted s.names h.path node h.stands)

-- a node that has an open file stays
pub stays_open : (s : State) (node : ℕ) → HasFile s.files node → stays s node ≡ true
stays_open s node h = or_right (nat_lt 0 (name_count s.names node)) (list_any (is_of_node node) s.files)
    (any_from (is_of_node node) s.files h.number refl (ap (λ (o : Option OpenFile). is_of_node node o) h.there ∙ ap (λ (o : Object). is_node node o) h.of ∙ eq-eqb node node refl))

-- a node stays that had a name or an open file, where it has one still
pub stays_still : (s t : State) (node : ℕ) → (HasName s.names node → HasName t.names node ⊎ HasFile t.files node) → (HasFile s.files node → HasName t.names node ⊎ HasFile t.files node) → stays s node ≡ true → stays t node ≡ true
stays_still s t node name file h = by_holder (stays_by s node h) where
  then : HasName t.names node ⊎ HasFile t.files node → stays t node ≡ true
  then (inl n) = stays_named t node n
  then (inr f) = stays_open t node f

  by_holder : HasName s.names node ⊎ HasFile s.files node → stays t node ≡ true
  by_holder (inl n) = then (name n)
  by_holder (inr f) = then (file f)
