-- Which operations wait.
use Rattle.std.specs.Prelude.{is_some}
use Rattle.std.proofs.Common.{◌≡◌, ◌≢◌, ℕ, Bool, true, false, List, Option, None, Some, refl, sym, ap}
use Rattle.sp_base.specs.declared.call.Call.{Call}
use Rattle.sp_base.specs.declared.call.Call.TheVariants as call
use Rattle.sp_base.specs.declared.errno.Errno.{Errno}
use Rattle.sp_base.specs.declared.errno.Errno.TheVariants.{Eagain}
use Rattle.sp_base.specs.declared.limits.TheConstants.{FIRST_PROCESS}
use Rattle.sp_base.specs.Table.{at, lowest_unused}
use Rattle.kern_model.specs.declared.operation.Ins.{Ins}
use Rattle.kern_model.specs.declared.operation.Ins.TheVariants.{Given, Fault}
use Rattle.kern_model.specs.declared.operation.Op.{Op}
use Rattle.kern_model.specs.declared.operation.Op.TheVariants.{Sys, Attach, Fork, Exec, Exit}
use Rattle.kern_model.specs.Act.{act, act_op, act_call, has_step}
use Rattle.kern_model.specs.State.{State, fresh_process, with_process}
use Rattle.kern_model.specs.Step.{Step, answered, or_fail}
use Rattle.kern_model.proofs.ProcessLaws.{call_acts}
use Rattle.kern_calls.specs.Kernel.{is_built}

-- a call that isn't built has no step
call_waits : (s : State) (pid : ℕ) (c : Call) (pieces : List (List ℕ)) → has_step c ≡ false → act_call s pid c pieces ≡ None
call_waits s pid call.Getpid pieces h = absurd cc
call_waits s pid (call.Open path flags) pieces h = absurd cc
call_waits s pid (call.Close fd) pieces h = absurd cc
call_waits s pid (call.Read fd out len) pieces h = absurd cc
call_waits s pid (call.Write fd input len) pieces h = absurd cc
call_waits s pid (call.Pread fd out len offset) pieces h = absurd cc
call_waits s pid (call.Pwrite fd input len offset) pieces h = absurd cc
call_waits s pid (call.Lseek fd offset whence) pieces h = absurd cc
call_waits s pid (call.Ftruncate fd len) pieces h = absurd cc
call_waits s pid (call.Fstat fd out) pieces h = absurd cc
call_waits s pid (call.Stat path out) pieces h = absurd cc
call_waits s pid (call.Link path new_path) pieces h = absurd cc
call_waits s pid (call.Unlink path) pieces h = absurd cc
call_waits s pid (call.Rename path new_path) pieces h = absurd cc
call_waits s pid (call.Mkdir path) pieces h = absurd cc
call_waits s pid (call.Rmdir path) pieces h = absurd cc
call_waits s pid (call.Chdir path) pieces h = absurd cc
call_waits s pid (call.Dup fd) pieces h = absurd cc
call_waits s pid (call.Dup2 fd new_fd) pieces h = absurd cc
call_waits s pid (call.Fcntl fd command argument) pieces h = absurd cc
call_waits s pid (call.Unknown num words) pieces h = absurd cc
call_waits s pid _ pieces h = refl

some_step : (step : Step) → step ≢ None → is_some step ≡ true
some_step None h = absurd (h refl)
some_step (Some step) h = refl

call_ready : (s : State) (pid : ℕ) (c : Call) (pieces : List (List ℕ)) → is_some (act_call s pid c pieces) ≡ has_step c
call_ready s pid c pieces = elim (has_step c) as (λ b. has_step c ≡ b → is_some (act_call s pid c pieces) ≡ b) [
  | true ↦ λ e. some_step (act_call s pid c pieces) (call_acts s pid c pieces e)
  | false ↦ λ e. ap is_some (call_waits s pid c pieces e)
] refl

or_ready : (s : State) (o : Option ℕ) (error : Errno) (act_with : ℕ → Step) → ((x : ℕ) → is_some (act_with x) ≡ true) → is_some (or_fail o error s act_with) ≡ true
or_ready s None error act_with h = refl
or_ready s (Some x) error act_with h = h x

op_ready : (s : State) (pid : ℕ) (op : Op) (pieces : List (List ℕ)) → is_some (act_op s pid op pieces) ≡ is_built op
op_ready s pid (Sys c) pieces = call_ready s pid c pieces
op_ready s pid Attach pieces = or_ready s (lowest_unused s.processes FIRST_PROCESS) Eagain (λ new. answered new (with_process s new (Some fresh_process))) (λ _. refl)
op_ready s pid Fork pieces = or_ready s (lowest_unused s.processes FIRST_PROCESS) Eagain (λ new. answered new (with_process s new (at s.processes pid))) (λ _. refl)
op_ready s pid Exec pieces = refl
op_ready s pid Exit pieces = refl

-- an operation has a step where it is built, and with ins that are a fault
pub ready : (s : State) (pid : ℕ) (op : Op) (pieces : List (List ℕ)) → is_some (act s pid op (Given pieces)) ≡ is_built op
ready s pid op pieces = op_ready s pid op pieces
