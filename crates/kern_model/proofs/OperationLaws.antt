-- What each operation does, whatever it was given.
use Rattle.std.proofs.Common.{◌≡◌, ◌≢◌, ℕ, length, Some, true, false, refl}
use Rattle.sp_base.specs.declared.errno.Errno.{Errno}
use Rattle.kern_model.specs.declared.operation.Op.TheVariants.{Sys, Attach, Fork, Exec, Exit}
use Rattle.kern_model.specs.declared.operation.Op.{Op}
use Rattle.kern_model.specs.declared.operation.Ins.{Ins}
use Rattle.kern_model.specs.declared.operation.Ins.TheVariants.{Given, Fault}
use Rattle.kern_model.specs.declared.outcome.Outcome.{Outcome}
use Rattle.sp_base.specs.Table.{at}
use Rattle.kern_model.specs.Outcome.{failure}
use Rattle.kern_model.specs.State.{State, fresh_process, rows_of, directory_of}
use Rattle.kern_model.specs.Step.{Step}
use Rattle.kern_model.specs.Descriptors.{act_exec, act_exit}
use Rattle.kern_model.specs.Act.{act}
use Rattle.kern_model.specs.Laws.{kept_row, changed_process, Shares}
use Rattle.kern_model.proofs.Errors.{no_error_is_zero}
use Rattle.kern_model.proofs.ExecLaws.{exec_rows}
use Rattle.kern_model.proofs.KeepLaws.{close_rows_directory}
use Rattle.kern_model.proofs.Holds.{each_is}
use Rattle.kern_model.proofs.ProcessLaws.{Makes, call_keeps, exec_keeps, attach_makes, fork_makes, exit_ends}
use Rattle.kern_model.proofs.ShareLaws.{shares_closed}

-- a fault leaves every process
fault_same : (s : State) (error : Errno) (outcome : Outcome) (t : State) (q : ℕ) → ◌≡◌ {A = Step} (Some (failure error, s)) (Some (outcome, t)) → at t.processes q ≡ at s.processes q
fault_same s error outcome t q e = each_is (λ o t. at t.processes q ≡ at s.processes q) (Some (failure error, s)) outcome t refl e

-- a fault is no success
fault_fails : {X : Type 0} (s : State) (error : Errno) (outcome : Outcome) (t : State) → ◌≡◌ {A = Step} (Some (failure error, s)) (Some (outcome, t)) → outcome.err ≡ 0 → X
fault_fails s error outcome t e zero = absurd (each_is (λ o t. o.err ≢ 0) (Some (failure error, s)) outcome t (no_error_is_zero error) e zero)

attach_others : (s : State) (pid : ℕ) (ins : Ins) (outcome : Outcome) (t : State) (q : ℕ) → act s pid Attach ins ≡ Some (outcome, t) → q ≢ outcome.ret0 → at t.processes q ≡ at s.processes q
attach_others s pid (Given pieces) outcome t q e ne = (attach_makes s outcome t e).others q ne
attach_others s pid (Fault error) outcome t q e ne = fault_same s error outcome t q e

fork_others : (s : State) (pid : ℕ) (ins : Ins) (outcome : Outcome) (t : State) (q : ℕ) → act s pid Fork ins ≡ Some (outcome, t) → q ≢ outcome.ret0 → at t.processes q ≡ at s.processes q
fork_others s pid (Given pieces) outcome t q e ne = (fork_makes s pid outcome t e).others q ne
fork_others s pid (Fault error) outcome t q e ne = fault_same s error outcome t q e

exit_others : (s : State) (pid : ℕ) (ins : Ins) (outcome : Outcome) (t : State) (q : ℕ) → act s pid Exit ins ≡ Some (outcome, t) → q ≢ pid → at t.processes q ≡ at s.processes q
exit_others s pid (Given pieces) outcome t q e ne = (exit_ends s pid outcome t e).others q ne
exit_others s pid (Fault error) outcome t q e ne = fault_same s error outcome t q e

-- an attach without an error made a process
pub attached : (s : State) (pid : ℕ) (ins : Ins) (outcome : Outcome) (t : State) → act s pid Attach ins ≡ Some (outcome, t) → outcome.err ≡ 0 → Makes s (Some fresh_process) outcome t
attached s pid (Given pieces) outcome t e zero = attach_makes s outcome t e
attached s pid (Fault error) outcome t e zero = fault_fails s error outcome t e zero

-- a fork without an error made a process
pub forked : (s : State) (pid : ℕ) (ins : Ins) (outcome : Outcome) (t : State) → act s pid Fork ins ≡ Some (outcome, t) → outcome.err ≡ 0 → Makes s (at s.processes pid) outcome t
forked s pid (Given pieces) outcome t e zero = fork_makes s pid outcome t e
forked s pid (Fault error) outcome t e zero = fault_fails s error outcome t e zero

-- an exec leaves the rows that are not marked
pub exec_leaves : (s : State) (pid : ℕ) (outcome : Outcome) (t : State) (fd : ℕ) → act_exec s pid ≡ Some (outcome, t) → length (rows_of s pid) ≡ 128 → at (rows_of t pid) fd ≡ kept_row (at (rows_of s pid) fd)
exec_leaves s pid outcome t fd e len = each_is (λ o t. at (rows_of t pid) fd ≡ kept_row (at (rows_of s pid) fd)) (act_exec s pid) outcome t (exec_rows s pid fd len) e

-- an exec leaves the working directory
pub exec_stays : (s : State) (pid : ℕ) (outcome : Outcome) (t : State) → act_exec s pid ≡ Some (outcome, t) → directory_of t pid ≡ directory_of s pid
exec_stays s pid outcome t e = each_is (λ o t. directory_of t pid ≡ directory_of s pid) (act_exec s pid) outcome t (close_rows_directory true pid s 128) e

-- an operation leaves every process but the one that it may change
pub others_stay : (s : State) (pid : ℕ) (op : Op) (ins : Ins) (outcome : Outcome) (t : State) (other : ℕ) → act s pid op ins ≡ Some (outcome, t) → other ≢ changed_process pid op outcome → at t.processes other ≡ at s.processes other
others_stay s pid (Sys c) ins outcome t q e ne = (call_keeps s pid c ins outcome t e).1.others q ne
others_stay s pid Attach ins outcome t q e ne = attach_others s pid ins outcome t q e ne
others_stay s pid Fork ins outcome t q e ne = fork_others s pid ins outcome t q e ne
others_stay s pid Exec ins outcome t q e ne = (exec_keeps s pid ins outcome t e).1.others q ne
others_stay s pid Exit ins outcome t q e ne = exit_others s pid ins outcome t q e ne

-- an exec and an exit leave the names, and no node and no open file is made or changed
pub exec_shares : (s : State) (pid : ℕ) (outcome : Outcome) (t : State) → act_exec s pid ≡ Some (outcome, t) → Shares s t
exec_shares s pid outcome t e = each_is (λ o t. Shares s t) (act_exec s pid) outcome t (shares_closed true s pid 128) e

pub exit_shares : (s : State) (pid : ℕ) (outcome : Outcome) (t : State) → act_exit s pid ≡ Some (outcome, t) → Shares s t
exit_shares s pid outcome t e =
    let shares = shares_closed false s pid 128 in
    each_is (λ o t. Shares s t) (act_exit s pid) outcome t (record { names = shares.names; nodes = shares.nodes; files = shares.files }) e
