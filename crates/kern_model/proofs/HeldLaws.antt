-- What is held stays there, and what isn't held any more goes: by the parts of an operation.
use Rattle.std.specs.Prelude.{slice_set, IsTrue, IsSome, is_some, if◌then◌else◌}
use Rattle.std.proofs.Common.{◌≡◌, ◌≢◌, ◌⊎◌, inl, inr, ℕ, true, false, List, Option, Some, None, refl, sym, ap, subst, ◌∙◌}
use Rattle.std.proofs.lemmas.Bool.{true≢false, cases_eq}
use Rattle.std.specs.FinMap.{get}
use Rattle.sp_base.specs.Table.{at}
use Rattle.sp_base.proofs.TableLaws.{at_other, all_set}
use Rattle.kern_model.specs.declared.node.Object.{Object}
use Rattle.kern_model.specs.declared.node.Object.TheVariants as object
use Rattle.kern_model.specs.declared.node.OpenFile.{OpenFile}
use Rattle.kern_model.specs.declared.node.Row.{Row}
use Rattle.kern_model.specs.Name.{Path}
use Rattle.kern_model.specs.State.{State, Process, rows_in, rows_of, with_process, with_row, is_held, stays, without_unused, let_go_of, let_go_object, let_go, close_row_by, close_row}
use Rattle.kern_model.specs.Sound.{IsThere, IsHeld}
use Rattle.kern_model.proofs.HolderLaws.{set_cases, some_there, has_from, HasRow, held_row, row_held, row_cases, row_elsewhere, HasFile, stays_named, stays_open, stays_still}

-- what is at a number that is set to nothing was there, and isn't that number
pub left : {X : Type 0} (table : List (Option X)) (n q : ℕ) (y : X) → at (slice_set table n None) q ≡ Some y → (q ≢ n) × (at table q ≡ Some y)
left table n q y h = by_case (set_cases table n None q y h) where
  by_case : (None ≡ Some y) ⊎ ((q ≢ n) × (at table q ≡ Some y)) → (q ≢ n) × (at table q ≡ Some y)
  by_case (inl e) = absurd cc
  by_case (inr k) = k

left_there : {X : Type 0} (table : List (Option X)) (n q : ℕ) → IsSome (at (slice_set table n None) q) → (q ≢ n) × IsSome (at table q)
left_there table n q h =
    let has = has_from (at (slice_set table n None) q) h in
    let was = left table n q has.value has.is in
    (was.0, some_there (at table q) has.value was.1)

kept_there : {X : Type 0} (table : List (Option X)) (n q : ℕ) → q ≢ n → IsSome (at table q) → IsSome (at (slice_set table n None) q)
kept_there {X = X} table n q ne h = ap (λ (o : Option X). is_some o) (at_other table n None q ne) ∙ h

-- ---- a node that may be unused

-- all is held but one node, of which it isn't known
pub record IsHeldButNode (s : State) (spare : ℕ) : Type 0 where
  pub rows : (pid fd : ℕ) (row : Row) → at (rows_of s pid) fd ≡ Some row → IsSome (at s.files row.file)
  pub files : (number : ℕ) → IsSome (at s.files number) → IsTrue (is_held s number)
  pub objects : (number : ℕ) (file : OpenFile) → at s.files number ≡ Some file → IsThere s file.object
  pub names : (path : Path) (node : ℕ) → get s.names path ≡ Some node → IsSome (at s.nodes node)
  pub nodes : (node : ℕ) → node ≢ spare → IsSome (at s.nodes node) → IsTrue (stays s node)

module _ (s : State) (spare : ℕ) (h : IsHeldButNode s spare) where
  abbrev fewer : State
  fewer = record s { nodes = slice_set s.nodes spare None }

  stays_by_test : stays s spare ≡ true → IsHeld s
  stays_by_test test = record {
    rows = h.rows;
    files = h.files;
    objects = h.objects;
    names = h.names;
    nodes = λ node there. by_node node there (cases_eq node spare);
  } where
    by_node : (node : ℕ) → IsSome (at s.nodes node) → (node ≡ spare) ⊎ (node ≡ spare → ⊥) → IsTrue (stays s node)
    by_node node there (inl same) = subst (λ (n : ℕ). stays s n ≡ true) (sym same) test
    by_node node there (inr ne) = h.nodes node ne there

  object_left : stays s spare ≡ false → (number : ℕ) (file : OpenFile) → at s.files number ≡ Some file → (o : Object) → file.object ≡ o → IsThere s o → IsThere fewer o
  object_left test number file e (object.Node node) of there =
      kept_there s.nodes spare node (λ same. true≢false (sym (stays_open s spare (record { number = number; file = file; there = e; of = of ∙ ap (λ (n : ℕ). object.Node n) same })) ∙ test)) there

  gone_by_test : stays s spare ≡ false → IsHeld fewer
  gone_by_test test = record {
    rows = h.rows;
    files = h.files;
    objects = λ number file e. object_left test number file e file.object refl (h.objects number file e);
    names = λ path node e. kept_there s.nodes spare node
        (λ same. true≢false (sym (stays_named s spare (record { path = path; stands = e ∙ ap (λ (n : ℕ). Some n) same })) ∙ test)) (h.names path node e);
    nodes = λ node there. (let was = left_there s.nodes spare node there in h.nodes node was.0 was.1);
  }

  pub held_unused : IsHeld (without_unused s spare)
  held_unused = elim (stays s spare) as (λ b. stays s spare ≡ b → IsHeld (if b then s else fewer)) [ true ↦ stays_by_test | false ↦ gone_by_test ] refl

-- ---- an open file that may be unused

-- all is held but one open file, of which it isn't known
pub record IsHeldButFile (s : State) (spare : ℕ) : Type 0 where
  pub rows : (pid fd : ℕ) (row : Row) → at (rows_of s pid) fd ≡ Some row → IsSome (at s.files row.file)
  pub files : (number : ℕ) → number ≢ spare → IsSome (at s.files number) → IsTrue (is_held s number)
  pub objects : (number : ℕ) (file : OpenFile) → at s.files number ≡ Some file → IsThere s file.object
  pub names : (path : Path) (node : ℕ) → get s.names path ≡ Some node → IsSome (at s.nodes node)
  pub nodes : (node : ℕ) → IsSome (at s.nodes node) → IsTrue (stays s node)

module _ (s : State) (spare : ℕ) (h : IsHeldButFile s spare) where
  abbrev without : State
  without = record s { files = slice_set s.files spare None }

  held_by_test : is_held s spare ≡ true → IsHeld s
  held_by_test test = record {
    rows = h.rows;
    files = λ number there. by_number number there (cases_eq number spare);
    objects = h.objects;
    names = h.names;
    nodes = h.nodes;
  } where
    by_number : (number : ℕ) → IsSome (at s.files number) → (number ≡ spare) ⊎ (number ≡ spare → ⊥) → IsTrue (is_held s number)
    by_number number there (inl same) = subst (λ (n : ℕ). is_held s n ≡ true) (sym same) test
    by_number number there (inr ne) = h.files number ne there

  row_left : is_held s spare ≡ false → (pid fd : ℕ) (row : Row) → at (rows_of s pid) fd ≡ Some row → IsSome (at without.files row.file)
  row_left test pid fd row e = kept_there s.files spare row.file
      (λ same. true≢false (sym (row_held s spare (record { pid = pid; fd = fd; row = row; there = e; of = same })) ∙ test)) (h.rows pid fd row e)

  -- a node that another open file is of still has that one
  file_left : (node : ℕ) (f : HasFile s.files node) → f.number ≢ spare → HasFile without.files node
  file_left node f ne = record { number = f.number; file = f.file; there = at_other s.files spare None f.number ne ∙ f.there; of = f.of }

  nodes_left : (node : ℕ) → ((f : HasFile s.files node) → f.number ≢ spare) → IsSome (at s.nodes node) → IsTrue (stays without node)
  nodes_left node apart there = stays_still s without node (λ name. inl name) (λ f. inr (file_left node f (apart f))) (h.nodes node there)

  objects_left : (number : ℕ) (file : OpenFile) → at without.files number ≡ Some file → IsThere without file.object
  objects_left number file e = there_in file.object (h.objects number file (left s.files spare number file e).1) where
    there_in : (o : Object) → IsThere s o → IsThere without o
    there_in (object.Node node) there = there

  gone_of : is_held s spare ≡ false → (file : OpenFile) → at s.files spare ≡ Some file → (o : Object) → file.object ≡ o → IsHeld (let_go_of without o)
  gone_of test file e (object.Node node) of = held_unused without node (record {
    rows = row_left test;
    files = λ number there. (let was = left_there s.files spare number there in h.files number was.0 was.1);
    objects = objects_left;
    names = h.names;
    nodes = λ n ne there. nodes_left n (λ f same.
        let one : Some f.file ≡ Some file = sym f.there ∙ ap (λ (m : ℕ). at s.files m) same ∙ e in
        let is : f.file ≡ file = cc in
        let objects : object.Node n ≡ object.Node node = sym f.of ∙ ap (λ (g : OpenFile). g.object) is ∙ of in
        ne cc) there;
  })

  gone_by : is_held s spare ≡ false → (file : Option OpenFile) → at s.files spare ≡ file → IsHeld (let_go_object without file)
  gone_by test None e = record {
    rows = row_left test;
    files = λ number there. (let was = left_there s.files spare number there in h.files number was.0 was.1);
    objects = objects_left;
    names = h.names;
    nodes = λ n there. nodes_left n (λ f same. let none : None ≡ Some f.file = sym e ∙ ap (λ (m : ℕ). at s.files m) (sym same) ∙ f.there in cc) there;
  }
  gone_by test (Some file) e = gone_of test file e file.object refl

  pub held_let_go : IsHeld (let_go s spare)
  held_let_go = elim (is_held s spare) as (λ b. is_held s spare ≡ b → IsHeld (if b then s else let_go_object without (at s.files spare))) [
    | true ↦ held_by_test
    | false ↦ λ test. gone_by test (at s.files spare) refl
  ] refl

-- ---- a closed descriptor

held_close_by : (s : State) (pid fd : ℕ) (row : Option Row) → at (rows_of s pid) fd ≡ row → IsHeld s → IsHeld (close_row_by s pid fd row)
held_close_by s pid fd None e h = h
held_close_by s pid fd (Some row) e h = held_let_go after row.file (record {
  rows = λ q k r f. rows_after q k r (row_cases s pid fd None q k r f);
  files = λ number ne there. files_after number ne (held_row s number (h.files number there));
  objects = λ number file f. objects_after file.object (h.objects number file f);
  names = h.names;
  nodes = h.nodes;
}) where
  after : State
  after = with_row s pid fd None

  rows_after : (q k : ℕ) (r : Row) → (None ≡ Some r) ⊎ (at (rows_of s q) k ≡ Some r) → IsSome (at s.files r.file)
  rows_after q k r (inl e) = absurd cc
  rows_after q k r (inr f) = h.rows q k r f

  files_after : (number : ℕ) → number ≢ row.file → HasRow s number → IsTrue (is_held after number)
  files_after number ne has = row_held after number (record {
    pid = has.pid;
    fd = has.fd;
    row = has.row;
    there = row_elsewhere s pid fd None has.pid has.fd has.row (λ same at_fd.
        let one : Some has.row ≡ Some row = sym has.there ∙ ap (λ (q : ℕ). at (rows_of s q) has.fd) same ∙ ap (λ (k : ℕ). at (rows_of s pid) k) at_fd ∙ e in
        let is : has.row ≡ row = cc in
        ne (sym has.of ∙ ap (λ (r : Row). r.file) is)) has.there;
    of = has.of;
  })

  objects_after : (o : Object) → IsThere s o → IsThere after o
  objects_after (object.Node node) there = there

pub held_close : (s : State) (pid fd : ℕ) → IsHeld s → IsHeld (close_row s pid fd)
held_close s pid fd h = held_close_by s pid fd (at (rows_of s pid) fd) refl h

-- ---- another process, or none, at a number whose process has no rows

pub held_process : (s : State) (pid : ℕ) (process : Option Process) → ((fd : ℕ) (row : Row) → at (rows_of s pid) fd ≢ Some row)
    → ((fd : ℕ) (row : Row) → at (rows_in process) fd ≡ Some row → IsSome (at s.files row.file)) → IsHeld s → IsHeld (with_process s pid process)
held_process s pid process quiet rows h = record {
  rows = all_set (λ (p : Option Process). (fd : ℕ) (row : Row) → at (rows_in p) fd ≡ Some row → IsSome (at s.files row.file)) s.processes pid process rows h.rows;
  files = λ number there. files_after number (held_row s number (h.files number there));
  objects = λ number file f. objects_after file.object (h.objects number file f);
  names = h.names;
  nodes = h.nodes;
} where
  after : State
  after = with_process s pid process

  files_after : (number : ℕ) → HasRow s number → IsTrue (is_held after number)
  files_after number has = row_held after number (record {
    pid = has.pid;
    fd = has.fd;
    row = has.row;
    there = ap (λ (p : Option Process). at (rows_in p) has.fd)
        (at_other s.processes pid process has.pid (λ same. quiet has.fd has.row (ap (λ (q : ℕ). at (rows_of s q) has.fd) (sym same) ∙ has.there))) ∙ has.there;
    of = has.of;
  })

  objects_after : (o : Object) → IsThere s o → IsThere after o
  objects_after (object.Node node) there = there
