-- What every system call does.
use Rattle.std.proofs.Common.{◌≡◌, ℕ, List, false, refl}
use Rattle.sp_base.specs.declared.call.Call.{Call}
use Rattle.sp_base.specs.declared.call.Call.TheVariants as call
use Rattle.sp_base.specs.declared.errno.Errno.TheVariants.{Enosys}
use Rattle.kern_model.specs.State.{State}
use Rattle.kern_model.specs.Act.{first, second, act_call, has_step}
use Rattle.kern_model.proofs.Holds.{holds_failed}
use Rattle.kern_model.proofs.Changes.{Stays}
use Rattle.kern_model.proofs.Does.{DoesStep, fails, does_answered}
use Rattle.kern_model.proofs.DescriptorCalls.{does_close, does_dup, does_dup2, does_fcntl}
use Rattle.kern_model.proofs.FileCalls.{does_open_call, does_read, does_pread, does_write, does_pwrite, does_lseek, does_ftruncate, does_fstat, does_stat}
use Rattle.kern_model.proofs.NameCalls.{does_mkdir, does_link, does_unlink, does_rmdir, does_chdir, does_rename}

-- every call does so; where it has no step, something else is known
pub does_call : (waits : Type 0) (s : State) (pid : ℕ) (c : Call) (pieces : List (List ℕ)) → (has_step c ≡ false → waits) → DoesStep waits pid s (act_call s pid c pieces)
does_call waits s pid call.Getpid pieces w = does_answered pid s pid s Stays
does_call waits s pid (call.Open path flags) pieces w = does_open_call waits pid s (first pieces) flags
does_call waits s pid (call.Close fd) pieces w = does_close waits pid s fd
does_call waits s pid (call.Read fd out len) pieces w = does_read waits pid s fd out len
does_call waits s pid (call.Write fd input len) pieces w = does_write waits pid s fd (first pieces)
does_call waits s pid (call.Pread fd out len offset) pieces w = does_pread waits pid s fd out len offset
does_call waits s pid (call.Pwrite fd input len offset) pieces w = does_pwrite waits pid s fd (first pieces) offset
does_call waits s pid (call.Lseek fd offset whence) pieces w = does_lseek waits pid s fd offset whence
does_call waits s pid (call.Ftruncate fd len) pieces w = does_ftruncate waits pid s fd len
does_call waits s pid (call.Fstat fd out) pieces w = does_fstat waits pid s fd out
does_call waits s pid (call.Stat path out) pieces w = does_stat waits pid s (first pieces) out
does_call waits s pid (call.Link path new_path) pieces w = does_link waits pid s (first pieces) (second pieces)
does_call waits s pid (call.Unlink path) pieces w = does_unlink waits pid s (first pieces)
does_call waits s pid (call.Rename path new_path) pieces w = does_rename waits pid s (first pieces) (second pieces)
does_call waits s pid (call.Mkdir path) pieces w = does_mkdir waits pid s (first pieces)
does_call waits s pid (call.Rmdir path) pieces w = does_rmdir waits pid s (first pieces)
does_call waits s pid (call.Chdir path) pieces w = does_chdir waits pid s (first pieces)
does_call waits s pid (call.Dup fd) pieces w = does_dup waits pid s fd
does_call waits s pid (call.Dup2 fd new_fd) pieces w = does_dup2 waits pid s fd new_fd
does_call waits s pid (call.Fcntl fd command argument) pieces w = does_fcntl waits pid s fd command argument
does_call waits s pid (call.Unknown num words) pieces w = holds_failed s Enosys (fails pid s)
does_call waits s pid _ pieces w = record { is = w refl }
