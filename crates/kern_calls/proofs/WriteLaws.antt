-- What a write to a node of the tree is to a kernel's state.
use Rattle.std.specs.Prelude.{nat_le, IfOk, OnOk, if◌then◌else◌}
use Rattle.std.proofs.Common.{◌≡◌, ℕ, ◌+◌, ◌<◌, ◌^◌, ◌==◌, Bool, true, false, not, List, length, Option, None, Some, Result, Ok, Err, cond, refl, sym, ap, subst, ◌∙◌}
use Rattle.std.proofs.lemmas.Bool.{false≢true}
use Rattle.sp_base.specs.declared.errno.Errno.{Errno}
use Rattle.sp_base.specs.declared.errno.Errno.TheVariants.{Ebadf, Efbig, Enospc, Einval}
use Rattle.sp_base.specs.Table.{at}
use Rattle.std.specs.Option.{option_map}
use Rattle.kern_nodes.specs.declared.fault.TreeFault.{TreeFault}
use Rattle.kern_nodes.specs.declared.fault.TreeFault.TheVariants as fault
use Rattle.kern_nodes.specs.TreeFault.{error_in}
use Rattle.kern_model.specs.declared.node.OpenFile.{OpenFile}
use Rattle.kern_model.specs.Step.{Step, failed, answered, fail_if, or_fail}
use Rattle.kern_model.specs.declared.node.Object.{Object}
use Rattle.kern_model.specs.declared.node.Object.TheVariants as object
use Rattle.kern_model.specs.declared.node.Row.{Row}
use Rattle.kern_model.specs.Descriptors.{with_open_file}
use Rattle.kern_model.specs.Plain.{file_of_row}
use Rattle.kern_model.specs.State.{State, bytes_of, rows_of, replace_file}
use Rattle.kern_model.specs.State as state
use Rattle.kern_model.specs.Files.{may_write, file_limit, fitting, put_over, is_above_total, write_node, write_start, write_file, pwrite_file, act_write, act_pwrite, is_negative}
use Rattle.kern_open.specs.OpenTables.{OpenTables}
use Rattle.kern_files.specs.Files.{Files, state_of, length_after, write_error, written, with_bytes}
use Rattle.kern_calls.specs.Joined.{joined}

-- the error of a write by its tests
abbrev error_by : Bool → Bool → Bool → Option Errno
error_by empty late full = if empty then None else if late then Some Efbig else if full then Some Enospc else None

-- a write by its tests
abbrev step_by : Bool → Bool → Bool → Bool → State → Step → Step → Step
step_by writable empty late full s nothing done = fail_if (not writable) Ebadf s (if empty then nothing else fail_if late Efbig s (fail_if full Enospc s done))

refuses : (w z a b : Bool) (s : State) (nothing done : Step) (error : Errno) → w ≡ true → z ≡ false → Some error ≡ error_by z a b → step_by w z a b s nothing done ≡ failed error s
refuses false z a b s nothing done error w z' e = absurd (false≢true w)
refuses true true a b s nothing done error w z' e = absurd (false≢true (sym z'))
refuses true false true b s nothing done error w z' e = let same : Efbig ≡ error = cc in ap (λ (x : Errno). failed x s) same
refuses true false false true s nothing done error w z' e = let same : Enospc ≡ error = cc in ap (λ (x : Errno). failed x s) same
refuses true false false false s nothing done error w z' e = absurd cc

works : (w z a b : Bool) (s : State) (nothing done : Step) → w ≡ true → z ≡ false → None ≡ error_by z a b → step_by w z a b s nothing done ≡ done
works false z a b s nothing done w z' e = absurd (false≢true w)
works true true a b s nothing done w z' e = absurd (false≢true (sym z'))
works true false true b s nothing done w z' e = absurd cc
works true false false true s nothing done w z' e = absurd cc
works true false false false s nothing done w z' e = refl

-- a write that was refused has the error that a kernel's has
pub put_refused : (o : OpenTables) (f : Files) (s : State) (node start : ℕ) (bytes : List ℕ) (r : Result ℕ TreeFault) (error : Errno) (file : OpenFile) (after : State → ℕ → State)
    → joined o f ≡ s → (length bytes == 0) ≡ false → error_in r ≡ write_error f node start bytes → r ≡ Err (fault.Errno error) → may_write file.access ≡ true
    → write_node s node file start bytes after ≡ failed error s
put_refused o f s node start bytes r error file after view some errors is writes =
    subst (λ (t : State). write_node t node file start bytes after ≡ failed error t) view
    (refuses (may_write file.access) (length bytes == 0) (nat_le file_limit start) (is_above_total (state_of f) node (length_after f node start bytes)) (joined o f) _ _ error
    writes some (sym (ap error_in is) ∙ errors))

-- the files after a write of some bytes
written_some : (f : Files) (node start : ℕ) (bytes : List ℕ) → (length bytes == 0) ≡ false → written f node start bytes ≡ with_bytes f node (put_over (bytes_of (state_of f) node) start (fitting start bytes))
written_some f node start bytes some = ap (λ b. cond b f (with_bytes f node (put_over (bytes_of (state_of f) node) start (fitting start bytes)))) some

-- a write that was done is a kernel's
pub put_done : (o : OpenTables) (f g : Files) (s : State) (node start : ℕ) (bytes : List ℕ) (r : Result ℕ TreeFault)
    → joined o f ≡ s → (length bytes == 0) ≡ false → error_in r ≡ write_error f node start bytes → IfOk r (λ count. count ≡ length (fitting start bytes)) → OnOk r (g ≡ written f node start bytes)
    → IfOk r (λ count. (file : OpenFile) (after : State → ℕ → State) → may_write file.access ≡ true → write_node s node file start bytes after ≡ answered count (after (joined o g) (start + count)))
put_done o f g s node start bytes (Err fault) view some errors count is = tt
put_done o f g s node start bytes (Ok n) view some errors count is = λ file after writes.
    let next : state.with_bytes (joined o f) node (put_over (bytes_of (state_of f) node) start (fitting start bytes)) ≡ joined o g = ap (joined o) (sym (written_some f node start bytes some) ∙ sym is) in
    let worked = works (may_write file.access) (length bytes == 0) (nat_le file_limit start) (is_above_total (state_of f) node (length_after f node start bytes)) (joined o f) _
    (answered (length (fitting start bytes)) (after (state.with_bytes (joined o f) node (put_over (bytes_of (state_of f) node) start (fitting start bytes))) (start + length (fitting start bytes))))
    writes some errors in
    ap (λ (t : State). write_node t node file start bytes after) (sym view) ∙ worked ∙ (λ i. answered (sym count i) (after (next i) (start + sym count i)))

-- ---- the open file of a descriptor

-- an open file with its number
abbrev pub numbered : ℕ → OpenFile → Option (ℕ × OpenFile)
numbered number file = Some (number, file)

abbrev first : Option (ℕ × OpenFile) → ℕ
first None = 0
first (Some pair) = pair.0

abbrev second : OpenFile → Option (ℕ × OpenFile) → OpenFile
second file None = file
second file (Some pair) = pair.1

-- an open file that was found is the one that a kernel acts with
pub opens_file : (s : State) (r : Option Row) (number : ℕ) (file : OpenFile) (act_with : ℕ → OpenFile → Step) → numbered number file ≡ file_of_row s r
    → or_fail r Ebadf s (λ row. or_fail (at s.files row.file) Ebadf s (act_with row.file)) ≡ act_with number file
opens_file s None number file act_with e = absurd cc
opens_file s (Some row) number file act_with e = by_file (at s.files row.file) e where
  by_file : (o : Option OpenFile) → numbered number file ≡ option_map (λ f. (row.file, f)) o → or_fail o Ebadf s (act_with row.file) ≡ act_with number file
  by_file None e = absurd cc
  by_file (Some f) e =
      let n : row.file ≡ number = sym (ap first e) in
      let k : f ≡ file = sym (ap (second file) e) in
      λ i. act_with (n i) (k i)

-- a write of an open file of a node
pub write_is : (s : State) (pid fd number node start : ℕ) (file : OpenFile) (bytes : List ℕ) → numbered number file ≡ file_of_row s (at (rows_of s pid) fd)
    → file.object ≡ object.Node node → start ≡ write_start s node file
    → act_write s pid fd bytes ≡ write_node s node file start bytes (λ next end. replace_file next number (record file { offset = end }))
write_is s pid fd number node start file bytes found own is =
    opens_file s (at (rows_of s pid) fd) number file (λ n f. write_file s n f f.object bytes) found
    ∙ ap (λ (ob : Object). write_file s number file ob bytes) own
    ∙ ap (λ n. write_node s node file n bytes (λ next end. replace_file next number (record file { offset = end }))) (sym is)

-- a write at an offset of an open file of a node
pub pwrite_is : (s : State) (pid fd number node offset : ℕ) (file : OpenFile) (bytes : List ℕ) → numbered number file ≡ file_of_row s (at (rows_of s pid) fd)
    → file.object ≡ object.Node node → is_negative offset ≡ false → act_pwrite s pid fd bytes offset ≡ write_node s node file offset bytes (λ next end. next)
pwrite_is s pid fd number node offset file bytes found own is =
    opens_file s (at (rows_of s pid) fd) number file (λ n f. pwrite_file s f f.object bytes offset) found
    ∙ ap (λ (ob : Object). pwrite_file s file ob bytes offset) own
    ∙ ap (λ b. fail_if b Einval s (write_node s node file offset bytes (λ next end. next))) is

-- the row of an open file that was found
pub found_row : (s : State) (r : Option Row) (number : ℕ) (file : OpenFile) → numbered number file ≡ file_of_row s r → (row : Row) × (r ≡ Some row) × (row.file ≡ number)
found_row s None number file e = absurd cc
found_row s (Some row) number file e = (row, refl, by_file (at s.files row.file) e) where
  by_file : (o : Option OpenFile) → numbered number file ≡ option_map (λ f. (row.file, f)) o → row.file ≡ number
  by_file None e = absurd cc
  by_file (Some f) e = sym (ap first e)
