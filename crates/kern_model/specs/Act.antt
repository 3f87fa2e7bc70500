-- What each operation does.
use Rattle.std.specs.Prelude.{ℕ, nat_lt, Bool, true, false, List, [], ◌∷◌, None}
use Rattle.sp_base.specs.declared.call.Call.{Call}
use Rattle.sp_base.specs.declared.call.Call.TheVariants as call
use Rattle.sp_base.specs.declared.errno.Errno.TheVariants.{Enosys}
use Rattle.sp_base.specs.Call.{call_number}
use Rattle.kern_model.specs.declared.operation.Op.{Op}
use Rattle.kern_model.specs.declared.operation.Op.TheVariants.{Sys, Attach, Fork, Exec, Exit}
use Rattle.kern_model.specs.declared.operation.Ins.{Ins}
use Rattle.kern_model.specs.declared.operation.Ins.TheVariants.{Given, Fault}
use Rattle.kern_model.specs.State.{State}
use Rattle.kern_model.specs.Step.{Step, failed}
use Rattle.kern_model.specs.Descriptors.{act_attach, act_fork, act_exec, act_exit, act_getpid, act_close, act_dup, act_dup2, act_fcntl}
use Rattle.kern_model.specs.Files.{act_open, act_read, act_pread, act_write, act_pwrite, act_lseek, act_ftruncate, act_fstat, act_stat}
use Rattle.kern_model.specs.Links.{act_link, act_unlink, act_rename, act_mkdir, act_rmdir, act_chdir}

-- the piece at the front of what was gathered, empty where there is none
abbrev pub first : List (List ℕ) → List ℕ
first [] = []
first (piece ∷ pieces) = piece

-- the piece behind the first
abbrev pub second : List (List ℕ) → List ℕ
second [] = []
second (piece ∷ pieces) = first pieces

-- a system call, with the pieces that it read; one that isn't built yet has no step
abbrev pub act_call : State → ℕ → Call → List (List ℕ) → Step
act_call s pid call.Getpid pieces = act_getpid s pid
act_call s pid (call.Open path flags) pieces = act_open s pid (first pieces) flags
act_call s pid (call.Close fd) pieces = act_close s pid fd
act_call s pid (call.Read fd out len) pieces = act_read s pid fd out len
act_call s pid (call.Write fd input len) pieces = act_write s pid fd (first pieces)
act_call s pid (call.Pread fd out len offset) pieces = act_pread s pid fd out len offset
act_call s pid (call.Pwrite fd input len offset) pieces = act_pwrite s pid fd (first pieces) offset
act_call s pid (call.Lseek fd offset whence) pieces = act_lseek s pid fd offset whence
act_call s pid (call.Ftruncate fd len) pieces = act_ftruncate s pid fd len
act_call s pid (call.Fstat fd out) pieces = act_fstat s pid fd out
act_call s pid (call.Stat path out) pieces = act_stat s pid (first pieces) out
act_call s pid (call.Link path new_path) pieces = act_link s pid (first pieces) (second pieces)
act_call s pid (call.Unlink path) pieces = act_unlink s pid (first pieces)
act_call s pid (call.Rename path new_path) pieces = act_rename s pid (first pieces) (second pieces)
act_call s pid (call.Mkdir path) pieces = act_mkdir s pid (first pieces)
act_call s pid (call.Rmdir path) pieces = act_rmdir s pid (first pieces)
act_call s pid (call.Chdir path) pieces = act_chdir s pid (first pieces)
act_call s pid (call.Dup fd) pieces = act_dup s pid fd
act_call s pid (call.Dup2 fd new_fd) pieces = act_dup2 s pid fd new_fd
act_call s pid (call.Fcntl fd command argument) pieces = act_fcntl s pid fd command argument
act_call s pid (call.Unknown num words) pieces = failed Enosys s
act_call s pid _ pieces = None

-- an operation with all that it read
abbrev pub act_op : State → ℕ → Op → List (List ℕ) → Step
act_op s pid (Sys call) pieces = act_call s pid call pieces
act_op s pid Attach pieces = act_attach s
act_op s pid Fork pieces = act_fork s pid
act_op s pid Exec pieces = act_exec s pid
act_op s pid Exit pieces = act_exit s pid

-- an operation: ins that are a fault give that error, and the same state
abbrev pub act : State → ℕ → Op → Ins → Step
act s pid op (Fault error) = failed error s
act s pid op (Given pieces) = act_op s pid op pieces

-- a call has a step by now: one of number 1 to 20, or outside the table
abbrev pub has_step : Call → Bool
has_step (call.Unknown num words) = true
has_step call = nat_lt (call_number call) 21
