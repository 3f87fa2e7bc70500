-- Every operation keeps a state sound, and every journal leaves one.
use Rattle.std.specs.Prelude.{IsSome, IsTrue, is_some, if◌then◌else◌}
use Rattle.std.proofs.Common.{◌≡◌, ◌≢◌, ℕ, zero, suc, ◌+◌, ◌<◌, ◌≤◌, ◌==◌, Bool, true, false, cond, List, [], ◌∷◌, length, Option, Some, None, refl, sym, ap, subst, ◌∙◌, arith}
use Rattle.std.proofs.lemmas.Bool.{false≢true}
use Rattle.std.specs.FinMap.{get, empty, get-insert, get-empty}
use Rattle.sp_base.specs.Table.{at, lowest_unused}
use Rattle.sp_base.specs.declared.errno.Errno.TheVariants.{Eagain}
use Rattle.sp_base.proofs.TableLaws.{at_blank, lowest_unused_is}
use Rattle.kern_model.specs.declared.journal.Entry.{Entry}
use Rattle.kern_model.specs.declared.node.Row.{Row}
use Rattle.kern_model.specs.declared.operation.Op.{Op}
use Rattle.kern_model.specs.declared.operation.Op.TheVariants.{Sys, Attach, Fork, Exec, Exit}
use Rattle.kern_model.specs.declared.operation.Ins.{Ins}
use Rattle.kern_model.specs.declared.operation.Ins.TheVariants.{Given, Fault}
use Rattle.kern_model.specs.declared.outcome.Outcome.{Outcome}
use Rattle.kern_model.specs.Name.{Path, path_cmp, is_same_path, name_count}
use Rattle.kern_model.specs.Outcome.{failure}
use Rattle.kern_model.specs.State.{State, Process, root, opening, fresh_process, rows_in, rows_of, directory_in, bytes_in, stays, with_process, close_row, close_rows}
use Rattle.kern_model.specs.Step.{Step}
use Rattle.kern_model.specs.Act.{act, act_op}
use Rattle.kern_model.specs.Files.{file_limit}
use Rattle.kern_model.specs.Journal.{state_of_step, after_entry, state_from, state_after}
use Rattle.kern_model.specs.Sound.{IsNamedDirectory, HasTables, HasTree, IsHeld, HasLimits, IsSound}
use Rattle.kern_model.proofs.NamesLaws.{paths_total}
use Rattle.kern_model.proofs.BelowLaws.{same_test, path_from_test}
use Rattle.kern_model.proofs.Holds.{Holds, holds_is, holds_answered, holds_or_fail, each_is}
use Rattle.kern_model.proofs.Changes.{Changes, Stays, Then, Closes}
use Rattle.kern_model.proofs.CountLaws.{one_if, count_insert, count_empty}
use Rattle.kern_model.proofs.ExecLaws.{exit_rows}
use Rattle.kern_model.proofs.HeldChanges.{held_changed}
use Rattle.kern_model.proofs.HeldLaws.{held_process}
use Rattle.kern_model.proofs.HolderLaws.{stays_named}
use Rattle.kern_model.proofs.JournalLaws.{act_tables, opening_tables}
use Rattle.kern_model.proofs.LimitChanges.{limits_changed, limits_same}
use Rattle.kern_model.proofs.ProcessLaws.{news, call_does}
use Rattle.kern_model.proofs.TreeChanges.{tree_changed}
use Rattle.kern_model.proofs.TreeLaws.{named_root, tree_process}

-- what holds of a state beside the lengths of its tables
record IsKept (s : State) : Type 0 where
  tree : HasTree s
  held : IsHeld s
  limits : HasLimits s

kept : (s : State) → IsSound s → IsKept s
kept s h = record { tree = h.tree; held = h.held; limits = h.limits }

kept_changed : {pid : ℕ} {s t : State} → Changes pid s t → IsKept s → IsKept t
kept_changed change h = record { tree = tree_changed change h.tree; held = held_changed change h.tree h.held; limits = limits_changed change h.tree h.limits }

-- ---- processes

kept_process : (s : State) (pid : ℕ) (process : Option Process) → ((fd : ℕ) (row : Row) → at (rows_of s pid) fd ≢ Some row)
    → ((fd : ℕ) (row : Row) → at (rows_in process) fd ≡ Some row → IsSome (at s.files row.file)) → IsNamedDirectory s.names s.nodes (directory_in process) → IsKept s → IsKept (with_process s pid process)
kept_process s pid process quiet rows named h = record {
  tree = tree_process s pid process named h.tree;
  held = held_process s pid process quiet rows h.held;
  limits = limits_same s (with_process s pid process) refl refl h.limits;
}

no_rows : (p : Option Process) → p ≡ None → (fd : ℕ) (row : Row) → at (rows_in p) fd ≢ Some row
no_rows None e fd row f = cc
no_rows (Some p) e fd row f = cc

-- a new process under the lowest unused number
kept_new : (s : State) (process : Option Process) → ((fd : ℕ) (row : Row) → at (rows_in process) fd ≡ Some row → IsSome (at s.files row.file)) → IsNamedDirectory s.names s.nodes (directory_in process) → IsKept s
    → Holds Unit (λ o t. IsKept t) (news s process (lowest_unused s.processes 2))
kept_new s process rows named h = holds_or_fail s (lowest_unused s.processes 2) Eagain _ (λ error. h) (λ n low.
    holds_answered n _ (kept_process s n process (no_rows (at s.processes n) (lowest_unused_is s.processes 2 n low).1) rows named h))

closes_if : (b : Bool) (s : State) (pid fd : ℕ) → Changes pid s (if b then close_row s pid fd else s)
closes_if true s pid fd = Closes fd
closes_if false s pid fd = Stays

-- an exec and an exit close one descriptor after another
pub closes_all : (only_marked : Bool) (s : State) (pid n : ℕ) → Changes pid s (close_rows only_marked s pid n)
closes_all only_marked s pid zero = Stays
closes_all only_marked s pid (suc n) = Then (closes_all only_marked s pid n) (closes_if _ (close_rows only_marked s pid n) pid n)

rows_most : (s : State) → HasTables s → (pid : ℕ) → length (rows_of s pid) ≤ 128
rows_most s h pid = by_process (at s.processes pid) refl where
  by_process : (p : Option Process) → at s.processes pid ≡ p → length (rows_in p) ≤ 128
  by_process None e = omega arith
  by_process (Some p) e =
      let live : IsSome (at s.processes pid) = ap (λ (o : Option Process). is_some o) e in
      let same : length (rows_of s pid) ≡ length p.rows = ap (λ (o : Option Process). length (rows_in o)) e in
      let len = h.descriptors pid live in
      omega (arith, same, len)

kept_op : (s : State) (pid : ℕ) (op : Op) (pieces : List (List ℕ)) (outcome : Outcome) (t : State) → act_op s pid op pieces ≡ Some (outcome, t) → IsSound s → IsKept t
kept_op s pid (Sys c) pieces outcome t e h = kept_changed (call_does s pid c (Given pieces) outcome t e).change (kept s h)
kept_op s pid Attach pieces outcome t e h =
    holds_is outcome t (kept_new s (Some fresh_process) (λ fd row f. let none : None ≡ Some row = sym (at_blank 128 fd) ∙ f in absurd cc) (named_root s h.tree) (kept s h)) e
kept_op s pid Fork pieces outcome t e h = holds_is outcome t (kept_new s (at s.processes pid) (h.held.rows pid) (h.tree.working pid) (kept s h)) e
kept_op s pid Exec pieces outcome t e h = each_is (λ o t. IsKept t) _ outcome t (kept_changed (closes_all true s pid 128) (kept s h)) e
kept_op s pid Exit pieces outcome t e h =
    let closed = close_rows false s pid 128 in
    let k = kept_changed (closes_all false s pid 128) (kept s h) in
    each_is (λ o t. IsKept t) _ outcome t (kept_process closed pid None
    (λ fd row f. let none : None ≡ Some row = sym (exit_rows s pid fd (rows_most s h.tables pid)) ∙ f in cc)
    (λ fd row f. absurd cc) (named_root closed k.tree) k) e

kept_act : (s : State) (pid : ℕ) (op : Op) (ins : Ins) (outcome : Outcome) (t : State) → act s pid op ins ≡ Some (outcome, t) → IsSound s → IsKept t
kept_act s pid op (Given pieces) outcome t e h = kept_op s pid op pieces outcome t e h
kept_act s pid op (Fault error) outcome t e h = each_is (λ o t. IsKept t) (Some (failure error, s)) outcome t (kept s h) e

-- every operation keeps a state sound
pub act_sound : (s : State) (pid : ℕ) (op : Op) (ins : Ins) (outcome : Outcome) (t : State) → act s pid op ins ≡ Some (outcome, t) → IsSound s → IsSound t
act_sound s pid op ins outcome t e h =
    let k = kept_act s pid op ins outcome t e h in
    record { tables = act_tables s pid op ins outcome t e h.tables; tree = k.tree; held = k.held; limits = k.limits }

step_sound : (s : State) (step : Step) → ((outcome : Outcome) (t : State) → step ≡ Some (outcome, t) → IsSound t) → IsSound s → IsSound (state_of_step s step)
step_sound s None h sound = sound
step_sound s (Some step) h sound = h step.0 step.1 refl

-- entries keep a state sound
pub entries_sound : (s : State) (journal : List Entry) → IsSound s → IsSound (state_from s journal)
entries_sound s [] h = h
entries_sound s (e ∷ journal) h =
    entries_sound (after_entry s e) journal (step_sound s (act s e.pid.0 e.op e.ins) (λ outcome t acts. act_sound s e.pid.0 e.op e.ins outcome t acts h) h)

-- ---- the opening

only_root : (path : Path) (node : ℕ) → get opening.names path ≡ Some node → (path ≡ []) × (root ≡ node)
only_root path node e =
    elim (is_same_path path []) as (λ b. is_same_path path [] ≡ b → cond b (Some root) (get {R = path_cmp} empty path) ≡ Some node → (path ≡ []) × (root ≡ node)) [
      | true ↦ λ t k. (path_from_test path [] t, cc)
      | false ↦ λ t k. (let none : None ≡ Some node = sym (get-empty path_cmp path) ∙ k in absurd cc)
    ] refl (sym (get-insert paths_total empty [] root path) ∙ e)

root_stands : get opening.names [] ≡ Some root
root_stands = get-insert paths_total empty [] root [] ∙ ap (λ b. cond b (Some root) (get {R = path_cmp} empty [])) (same_test [])

opening_works : (p : Option Process) → p ≡ None → IsNamedDirectory opening.names opening.nodes (directory_in p)
opening_works None e = record { path = []; stands = root_stands; directory = refl }
opening_works (Some p) e = absurd cc

opening_tree : HasTree opening
opening_tree = record {
  tree = record {
    top = root_stands;
    root_directory = refl;
    parents = λ component path node e. (let only = (only_root (component ∷ path) node e).0 in absurd cc);
    once = λ path other node e f directory. (only_root path node e).0 ∙ sym (only_root other node f).0;
    made = λ path node e. subst (λ (n : ℕ). n < length opening.nodes) (only_root path node e).1 (omega arith);
  };
  working = λ pid. opening_works (at opening.processes pid) (at_blank 258 pid);
}

opening_node : (node : ℕ) → IsSome (at opening.nodes node) → IsTrue (stays opening node)
opening_node zero there = absurd (false≢true there)
opening_node (suc zero) there = stays_named opening root (record { path = []; stands = root_stands })
opening_node (suc (suc node)) there = absurd (false≢true there)

opening_held : IsHeld opening
opening_held = record {
  rows = λ pid fd row e. absurd (no_rows (at opening.processes pid) (at_blank 258 pid) fd row e);
  files = λ number there. absurd (false≢true there);
  objects = λ number file e. absurd cc;
  names = λ path node e. subst (λ (n : ℕ). IsSome (at opening.nodes n)) (only_root path node e).1 refl;
  nodes = opening_node;
}

opening_bytes : (node : ℕ) → length (bytes_in (at opening.nodes node)) ≤ file_limit
opening_bytes zero = omega arith
opening_bytes (suc zero) = omega arith
opening_bytes (suc (suc node)) = omega arith

opening_limits : HasLimits opening
opening_limits = record {
  nodes = omega arith;
  file = opening_bytes;
  total = omega arith;
  links = λ node. few (name_count empty node) _ (root == node) (count_insert empty [] root node) (count_empty node);
} where
  few : (was is : ℕ) (b : Bool) → is ≤ was + one_if b → was ≡ 0 → is ≤ 32767
  few was is true le e = omega arith
  few was is false le e = omega arith

opening_sound : IsSound opening
opening_sound = record { tables = opening_tables; tree = opening_tree; held = opening_held; limits = opening_limits }

-- every journal leaves a sound state
pub journal_sound : (journal : List Entry) → IsSound (state_after journal)
journal_sound journal = entries_sound opening journal opening_sound
