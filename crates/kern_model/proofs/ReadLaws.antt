-- What a read gives of what a write wrote.
use Rattle.std.specs.Prelude.{nat_le, not, max, min, replicate, IsSome, slice_index, if◌then◌else◌}
use Rattle.std.proofs.Common.{◌≡◌, ℕ, ◌+◌, ◌-◌, ◌<◌, ◌≤◌, ◌==◌, true, false, List, [], ◌∷◌, ◌++◌, length, take, drop, get_or, Option, Some, None, refl, sym, ap, subst, ◌∙◌, arith, length-append, length-take, length-drop}
use Rattle.std.proofs.lemmas.Bool.{eqb-true}
use Rattle.std.proofs.lemmas.List.{length-replicate, get_or-take, get_or-drop, get_or_append_left, get_or-append-add}
use Rattle.sp_base.specs.Needs.{transfer_of}
use Rattle.sp_base.specs.Table.{at}
use Rattle.sp_base.specs.declared.call.Call.{Call}
use Rattle.sp_base.specs.declared.call.Call.TheVariants as call
use Rattle.sp_base.specs.declared.errno.Errno.TheVariants.{Ebadf, Einval, Eisdir, Efbig, Enospc}
use Rattle.sp_base.proofs.TableLaws.{at_within}
use Rattle.kern_model.specs.declared.node.Node.{Node}
use Rattle.kern_model.specs.declared.node.Object.{Object}
use Rattle.kern_model.specs.declared.node.Object.TheVariants as object
use Rattle.kern_model.specs.declared.node.OpenFile.{OpenFile}
use Rattle.kern_model.specs.declared.node.Row.{Row}
use Rattle.kern_model.specs.declared.operation.Ins.TheVariants.{Given}
use Rattle.kern_model.specs.declared.operation.Op.TheVariants.{Sys}
use Rattle.kern_model.specs.declared.outcome.Outcome.{Outcome}
use Rattle.kern_model.specs.State.{State, rows_of, replace_file, replace_bytes, with_bytes, bytes_in, bytes_of, is_directory}
use Rattle.kern_model.specs.Step.{Step, piece_at}
use Rattle.kern_model.specs.Descriptors.{with_open_file}
use Rattle.kern_model.specs.Files.{may_read, may_write, is_negative, bytes_from, read_node, read_file, pread_file, file_limit, put_over, is_above_total, fitting, write_node, write_start, write_file, pwrite_file}
use Rattle.kern_model.specs.Act.{act}
use Rattle.kern_model.specs.FileLaws.{IsOpen, WritesAt, ReadsAt, given_bytes, IsByte}
use Rattle.kern_model.proofs.Errors.{no_error_is_zero}
use Rattle.kern_model.proofs.HolderLaws.{there_below}
use Rattle.kern_model.proofs.Holds.{Holds, HoldsOfErrors, holds_is, holds_answered, holds_wrote, holds_if, holds_fail_if, holds_or_fail}

-- a fact of every success
abbrev OnSuccess : (Outcome → State → Type 0) → Outcome → State → Type 0
OnSuccess P outcome t = outcome.err ≡ 0 → P outcome t

none_fails : (P : Outcome → State → Type 0) (s : State) → HoldsOfErrors (OnSuccess P) s
none_fails P s error = λ zero. absurd (no_error_is_zero error zero)

-- what is done with an open descriptor is done with its open file
opened_does : (P : Outcome → State → Type 0) (s : State) (pid fd : ℕ) (file : OpenFile) (node : ℕ) (act_with : ℕ → OpenFile → Step) → IsOpen s pid fd file node
    → ((number : ℕ) → Holds Unit (OnSuccess P) (act_with number file)) → Holds Unit (OnSuccess P) (with_open_file s pid fd act_with)
opened_does P s pid fd file node act_with is_open h = holds_or_fail s (at (rows_of s pid) fd) Ebadf _ (none_fails P s) (λ row e.
    holds_or_fail s (at s.files row.file) Ebadf (act_with row.file) (none_fails P s) (λ f g.
    let rows : Some is_open.row ≡ Some row = sym is_open.has_row ∙ e in
    let row_is : is_open.row ≡ row = cc in
    let files : Some file ≡ Some f = sym is_open.has_file ∙ ap (λ (r : Row). at s.files r.file) row_is ∙ g in
    let file_is : file ≡ f = cc in
    subst (λ (f : OpenFile). Holds Unit (OnSuccess P) (act_with row.file f)) file_is (h row.file)))

-- ---- writing

-- a node has the bytes that were written, from a start on
record Wrote (node start : ℕ) (bytes : List ℕ) (outcome : Outcome) (t : State) : Type 0 where
  within : (j : ℕ) → j < outcome.ret0 → start + j < length (bytes_of t node)
  same : (j : ℕ) → j < outcome.ret0 → slice_index (bytes_of t node) (start + j) ≡ slice_index bytes j

front_length : (old : List ℕ) (start : ℕ) → length (take start (old ++ replicate {A = ℕ} (start - length old) 0)) ≡ start
front_length old start =
    let zeros = replicate {A = ℕ} (start - length old) 0 in
    let cut = length-take start (old ++ zeros) in
    let all = length-append old zeros in
    let gap : length zeros ≡ start - length old = length-replicate (start - length old) 0 in
    omega arith

put_within : (old : List ℕ) (start : ℕ) (new : List ℕ) (j : ℕ) → j < length new → start + j < length (put_over old start new)
put_within old start new j lt =
    let front = take start (old ++ replicate {A = ℕ} (start - length old) 0) in
    let all : length (put_over old start new) ≡ length (front ++ new) + length (drop (start + length new) old) = length-append (front ++ new) (drop (start + length new) old) in
    let both = length-append front new in
    let len = front_length old start in
    omega arith

put_at : (old : List ℕ) (start : ℕ) (new : List ℕ) (j : ℕ) → j < length new → slice_index (put_over old start new) (start + j) ≡ slice_index new j
put_at old start new j lt =
    let front = take start (old ++ replicate {A = ℕ} (start - length old) 0) in
    let len = front_length old start in
    let both = length-append front new in
    get_or_append_left (front ++ new) (drop (start + length new) old) 0 (start + j) (omega arith)
    ∙ ap (λ (n : ℕ). get_or (front ++ new) (n + j) 0) (sym len)
    ∙ get_or-append-add front new j 0

replaced : (o : Option Node) (bytes : List ℕ) → IsSome o → bytes_in (replace_bytes o bytes) ≡ bytes
replaced None bytes there = absurd cc
replaced (Some node) bytes there = refl

-- a node has the bytes that it is given
bytes_are : (s : State) (node : ℕ) (bytes : List ℕ) → IsSome (at s.nodes node) → bytes_of (with_bytes s node bytes) node ≡ bytes
bytes_are s node bytes there =
    ap (λ (o : Option Node). bytes_in o) (at_within s.nodes node (replace_bytes (at s.nodes node) bytes) (there_below s.nodes node there))
    ∙ replaced (at s.nodes node) bytes there

cut_below : (n len j : ℕ) → j < min n len → j < n
cut_below n len j lt = omega arith

wrote_node : (s : State) (node : ℕ) (file : OpenFile) (start : ℕ) (bytes : List ℕ) (after : State → ℕ → State) → IsSome (at s.nodes node) → ((next : State) (end : ℕ) → (after next end).nodes ≡ next.nodes)
    → Holds Unit (OnSuccess (Wrote node start bytes)) (write_node s node file start bytes after)
wrote_node s node file start bytes after there same =
    let new = fitting start bytes in
    let put = put_over (bytes_of s node) start new in
    holds_fail_if s (not (may_write file.access)) Ebadf _ (none_fails (Wrote node start bytes) s) (λ _.
    holds_if (length bytes == 0) _ _ (λ _. holds_answered 0 s (λ _. record { within = λ j lt. absurd (omega (arith, lt)); same = λ j lt. absurd (omega (arith, lt)) })) (λ _.
    holds_fail_if s (nat_le file_limit start) Efbig _ (none_fails (Wrote node start bytes) s) (λ _.
    holds_fail_if s (is_above_total s node (max (length (bytes_of s node)) (start + length new))) Enospc _ (none_fails (Wrote node start bytes) s) (λ _.
    holds_answered (length new) _ (λ _.
    let next = with_bytes s node put in
    let is : bytes_of (after next (start + length new)) node ≡ put = ap (λ (l : List (Option Node)). bytes_in (at l node)) (same next (start + length new)) ∙ bytes_are s node put there in
    record {
      within = λ j lt. subst (λ (l : List ℕ). start + j < length l) (sym is) (put_within (bytes_of s node) start new j lt);
      same = λ j lt. ap (λ (l : List ℕ). slice_index l (start + j)) is ∙ put_at (bytes_of s node) start new j lt
          ∙ get_or-take (file_limit - start) bytes j 0 (cut_below (file_limit - start) (length bytes) j (subst (λ (n : ℕ). j < n) (length-take (file_limit - start) bytes) lt));
    })))))

wrote_file : (s : State) (node number : ℕ) (file : OpenFile) (o : Object) (bytes : List ℕ) → o ≡ object.Node node → IsSome (at s.nodes node)
    → Holds Unit (OnSuccess (Wrote node (write_start s node file) bytes)) (write_file s number file o bytes)
wrote_file s node number file (object.Node n) bytes of there =
    let is : n ≡ node = cc in
    subst (λ (m : ℕ). Holds Unit (OnSuccess (Wrote node (write_start s node file) bytes)) (write_file s number file (object.Node m) bytes)) (sym is)
    (wrote_node s node file (write_start s node file) bytes (λ next end. replace_file next number (record file { offset = end })) there (λ next end. refl))

pwrote_file : (s : State) (node : ℕ) (file : OpenFile) (o : Object) (bytes : List ℕ) (offset : ℕ) → o ≡ object.Node node → IsSome (at s.nodes node)
    → Holds Unit (OnSuccess (Wrote node offset bytes)) (pwrite_file s file o bytes offset)
pwrote_file s node file (object.Node n) bytes offset of there =
    let is : n ≡ node = cc in
    subst (λ (m : ℕ). Holds Unit (OnSuccess (Wrote node offset bytes)) (pwrite_file s file (object.Node m) bytes offset)) (sym is)
    (holds_fail_if s (is_negative offset) Einval _ (none_fails (Wrote node offset bytes) s) (λ _. wrote_node s node file offset bytes (λ next end. next) there (λ next end. refl)))

writes : (s t : State) (pid : ℕ) (c : Call) (node start : ℕ) (bytes : List ℕ) (outcome : Outcome) → WritesAt s pid c node start → act s pid (Sys c) (Given (bytes ∷ [])) ≡ Some (outcome, t) → outcome.err ≡ 0 → Wrote node start bytes outcome t
writes s t pid (call.Write fd input len) node start bytes outcome at_node e success =
    subst (λ (n : ℕ). Wrote node n bytes outcome t) (sym at_node.2)
    (holds_is outcome t (opened_does (Wrote node (write_start s node at_node.0) bytes) s pid fd at_node.0 node _ at_node.1 (λ number. wrote_file s node number at_node.0 at_node.0.object bytes at_node.1.of at_node.1.has_node)) e success)
writes s t pid (call.Pwrite fd input len offset) node start bytes outcome at_node e success =
    subst (λ (n : ℕ). Wrote node n bytes outcome t) (sym at_node.2)
    (holds_is outcome t (opened_does (Wrote node offset bytes) s pid fd at_node.0 node _ at_node.1 (λ number. pwrote_file s node at_node.0 at_node.0.object bytes offset at_node.1.of at_node.1.has_node)) e success)
writes s t pid _ node start bytes outcome at_node e success = absurd at_node

-- ---- reading

-- an outcome gives these bytes
record Gave (bytes : List ℕ) (outcome : Outcome) (t : State) : Type 0 where
  count : outcome.ret0 ≡ length bytes
  given : given_bytes outcome.outs ≡ bytes

no_bytes : (bytes : List ℕ) → length bytes ≡ 0 → [] ≡ bytes
no_bytes [] e = refl
no_bytes (b ∷ bytes) e = absurd (omega (arith, e))

piece_bytes : (addr : ℕ) (bytes : List ℕ) → given_bytes (piece_at addr bytes) ≡ bytes
piece_bytes addr bytes = elim (length bytes == 0) as (λ b. (length bytes == 0) ≡ b → given_bytes (if b then [] else record { addr = addr; bytes = bytes } ∷ []) ≡ bytes) [
  | true ↦ λ t. no_bytes bytes (eqb-true (length bytes) 0 t)
  | false ↦ λ t. refl
] refl

gave_node : (s : State) (node : ℕ) (file : OpenFile) (offset addr len : ℕ) (after : ℕ → State) → Holds Unit (OnSuccess (Gave (bytes_from s node offset len))) (read_node s node file offset addr len after)
gave_node s node file offset addr len after =
    holds_fail_if s (not (may_read file.access)) Ebadf _ (none_fails (Gave (bytes_from s node offset len)) s) (λ _.
    holds_fail_if s (is_directory s node) Eisdir _ (none_fails (Gave (bytes_from s node offset len)) s) (λ _.
    holds_wrote _ addr _ _ (λ _. record { count = refl; given = piece_bytes addr (bytes_from s node offset len) })))

gave_file : (s : State) (node number : ℕ) (file : OpenFile) (o : Object) (addr len : ℕ) → o ≡ object.Node node → Holds Unit (OnSuccess (Gave (bytes_from s node file.offset len))) (read_file s number file o addr len)
gave_file s node number file (object.Node n) addr len of =
    let is : n ≡ node = cc in
    subst (λ (m : ℕ). Holds Unit (OnSuccess (Gave (bytes_from s node file.offset len))) (read_file s number file (object.Node m) addr len)) (sym is)
    (gave_node s node file file.offset addr len (λ count. replace_file s number (record file { offset = file.offset + count })))

pgave_file : (s : State) (node : ℕ) (file : OpenFile) (o : Object) (addr len offset : ℕ) → o ≡ object.Node node → Holds Unit (OnSuccess (Gave (bytes_from s node offset len))) (pread_file s file o addr len offset)
pgave_file s node file (object.Node n) addr len offset of =
    let is : n ≡ node = cc in
    subst (λ (m : ℕ). Holds Unit (OnSuccess (Gave (bytes_from s node offset len))) (pread_file s file (object.Node m) addr len offset)) (sym is)
    (holds_fail_if s (is_negative offset) Einval _ (none_fails (Gave (bytes_from s node offset len)) s) (λ _. gave_node s node file offset addr len (λ count. s)))

reads : (s t : State) (pid : ℕ) (c : Call) (node start len : ℕ) (outcome : Outcome) → ReadsAt s pid c node start len → act s pid (Sys c) (Given []) ≡ Some (outcome, t) → outcome.err ≡ 0
    → Gave (take len (drop start (bytes_of s node))) outcome t
reads s t pid (call.Read fd out asked) node start len outcome at_node e success =
    subst (λ (n : ℕ). Gave (take n (drop start (bytes_of s node))) outcome t) (sym at_node.3)
    (subst (λ (n : ℕ). Gave (take (transfer_of asked) (drop n (bytes_of s node))) outcome t) (sym at_node.2)
    (holds_is outcome t (opened_does (Gave (bytes_from s node at_node.0.offset asked)) s pid fd at_node.0 node _ at_node.1 (λ number. gave_file s node number at_node.0 at_node.0.object out asked at_node.1.of)) e success))
reads s t pid (call.Pread fd out asked offset) node start len outcome at_node e success =
    subst (λ (n : ℕ). Gave (take n (drop start (bytes_of s node))) outcome t) (sym at_node.3)
    (subst (λ (n : ℕ). Gave (take (transfer_of asked) (drop n (bytes_of s node))) outcome t) (sym at_node.2)
    (holds_is outcome t (opened_does (Gave (bytes_from s node offset asked)) s pid fd at_node.0 node _ at_node.1 (λ number. pgave_file s node at_node.0 at_node.0.object out asked offset at_node.1.of)) e success))
reads s t pid _ node start len outcome at_node e success = absurd at_node

-- ---- both

pub written_is_read : (s t u : State) (pid reader : ℕ) (write read : Call) (node start offset len : ℕ) (bytes : List ℕ) (wrote seen : Outcome)
    → WritesAt s pid write node start → act s pid (Sys write) (Given (bytes ∷ [])) ≡ Some (wrote, t) → wrote.err ≡ 0
    → ReadsAt t reader read node offset len → act t reader (Sys read) (Given []) ≡ Some (seen, u) → seen.err ≡ 0
    → (k : ℕ) → k < len → start ≤ offset + k → offset + k < start + wrote.ret0 → IsByte seen k bytes ((offset + k) - start)
written_is_read s t u pid reader write read node start offset len bytes wrote seen to e success from f none k short low high =
    let put = writes s t pid write node start bytes wrote to e success in
    let gave = reads t u reader read node offset len seen from f none in
    let j = (offset + k) - start in
    let lt : j < wrote.ret0 = omega (arith, low, high) in
    let place : start + j ≡ offset + k = omega (arith, low) in
    let within = put.within j lt in
    let cut = length-take len (drop offset (bytes_of t node)) in
    let rest = length-drop offset (bytes_of t node) in
    let count = gave.count in
    record {
      there = omega (arith, short, place, within, cut, rest, count);
      same = ap (λ (l : List ℕ). slice_index l k) gave.given
          ∙ get_or-take len (drop offset (bytes_of t node)) k 0 short
          ∙ get_or-drop offset (bytes_of t node) k 0
          ∙ ap (λ (n : ℕ). slice_index (bytes_of t node) n) (sym place)
          ∙ put.same j lt;
    }
