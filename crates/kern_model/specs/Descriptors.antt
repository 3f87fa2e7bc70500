-- What the calls on descriptors and the operations on processes do: the first case that applies, in the order written.
use Rattle.std.specs.Prelude.{ℕ, ◌+◌, ◌*◌, ◌==◌, nat_le, Bool, true, false, not, None, Some, bit_and, if◌then◌else◌}
use Rattle.sp_base.specs.declared.limits.TheConstants.{DESCRIPTORS, FIRST_PROCESS}
use Rattle.sp_base.specs.declared.errno.Errno.TheVariants.{Ebadf, Eagain, Emfile, Einval}
use Rattle.kern_model.specs.declared.node.Access.{Access}
use Rattle.kern_model.specs.declared.node.Access.TheVariants.{Reading, Writing, Both}
use Rattle.kern_model.specs.declared.node.OpenFile.{OpenFile}
use Rattle.kern_model.specs.declared.node.Row.{Row}
use Rattle.sp_base.specs.Table.{at, lowest_unused}
use Rattle.kern_model.specs.State.{State, fresh_process, rows_of, with_process, with_row, replace_file, close_row, close_rows}
use Rattle.kern_model.specs.Step.{Step, failed, answered, or_fail, fail_if}

-- attach: EAGAIN where no number is unused; else a process with no descriptors in the root directory, under the lowest unused number
abbrev pub act_attach : State → Step
act_attach s = or_fail (lowest_unused s.processes FIRST_PROCESS) Eagain s (λ pid. answered pid (with_process s pid (Some fresh_process)))

-- fork: EAGAIN where no number is unused; else the child has the parent's rows, flags, open files and working directory
abbrev pub act_fork : State → ℕ → Step
act_fork s pid = or_fail (lowest_unused s.processes FIRST_PROCESS) Eagain s (λ child. answered child (with_process s child (at s.processes pid)))

-- exec: the rows that are marked are closed
abbrev pub act_exec : State → ℕ → Step
act_exec s pid = answered 0 (close_rows true s pid DESCRIPTORS)

-- exit: all rows are closed, and the process is gone
abbrev pub act_exit : State → ℕ → Step
act_exit s pid = answered 0 (with_process (close_rows false s pid DESCRIPTORS) pid None)

-- getpid: the process's number
abbrev pub act_getpid : State → ℕ → Step
act_getpid s pid = answered pid s

-- what is done with the row of a descriptor; EBADF where it isn't open
abbrev pub with_open : State → ℕ → ℕ → (Row → Step) → Step
with_open s pid fd act_with = or_fail (at (rows_of s pid) fd) Ebadf s act_with

-- what is done with the open file of a descriptor; EBADF where it isn't open
abbrev pub with_open_file : State → ℕ → ℕ → (ℕ → OpenFile → Step) → Step
with_open_file s pid fd act_with = with_open s pid fd (λ row. or_fail (at s.files row.file) Ebadf s (act_with row.file))

-- close: EBADF; else the row is gone
abbrev pub act_close : State → ℕ → ℕ → Step
act_close s pid fd = with_open s pid fd (λ row. answered 0 (close_row s pid fd))

-- the lowest unused descriptor from `least` on gets the same open file, with the flag clear; EMFILE where there is none
abbrev pub duplicate : State → ℕ → Row → ℕ → Step
duplicate s pid row least = or_fail (lowest_unused (rows_of s pid) least) Emfile s (λ fd.
    answered fd (with_row s pid fd (Some (record row { close_on_exec = false }))))

-- dup: EBADF; EMFILE; else the lowest unused descriptor
abbrev pub act_dup : State → ℕ → ℕ → Step
act_dup s pid fd = with_open s pid fd (λ row. duplicate s pid row 0)

-- dup2: EBADF, for a second number that no descriptor has too; equal numbers change nothing; else the second is closed and made
abbrev pub act_dup2 : State → ℕ → ℕ → ℕ → Step
act_dup2 s pid fd new_fd = with_open s pid fd (λ row.
    if nat_le DESCRIPTORS new_fd then failed Ebadf s
    else if fd == new_fd then answered new_fd s
    else answered new_fd (with_row (close_row s pid new_fd) pid new_fd (Some (record row { close_on_exec = false }))))

-- 1 for a flag that is set
abbrev pub flag_number : Bool → ℕ
flag_number false = 0
flag_number true = 1

-- the access as open's flags give it
abbrev pub access_number : Access → ℕ
access_number Reading = 0
access_number Writing = 1
access_number Both = 2

-- a bit of a word is set
abbrev pub has_bit : ℕ → ℕ → Bool
has_bit word bit = bit_and word bit == bit

-- the status of an open file: access, O_NONBLOCK 4, O_APPEND 8
abbrev pub status_number : OpenFile → ℕ
status_number file = access_number file.access + 4 * flag_number file.nonblock + 8 * flag_number file.append

-- fcntl F_DUPFD: EINVAL for an argument that no descriptor has; EMFILE; else the lowest unused descriptor from the argument on
abbrev pub act_duplicate_from : State → ℕ → Row → ℕ → Step
act_duplicate_from s pid row least = fail_if (nat_le DESCRIPTORS least) Einval s (duplicate s pid row least)

-- fcntl F_GETFD: the flag
abbrev pub act_get_flag : State → Row → Step
act_get_flag s row = answered (flag_number row.close_on_exec) s

-- fcntl F_SETFD: the flag is the argument's lowest bit
abbrev pub act_set_flag : State → ℕ → ℕ → Row → ℕ → Step
act_set_flag s pid fd row argument = answered 0 (with_row s pid fd (Some (record row { close_on_exec = has_bit argument 1 })))

-- fcntl F_GETFL: the status
abbrev pub act_get_status : State → Row → Step
act_get_status s row = or_fail (at s.files row.file) Ebadf s (λ file. answered (status_number file) s)

-- fcntl F_SETFL: O_APPEND and O_NONBLOCK are the argument's, and its other bits don't count
abbrev pub act_set_status : State → Row → ℕ → Step
act_set_status s row argument = or_fail (at s.files row.file) Ebadf s (λ file.
    answered 0 (replace_file s row.file (record file { append = has_bit argument 8; nonblock = has_bit argument 4 })))

-- fcntl: EBADF; a command outside the table is EINVAL
abbrev pub act_fcntl : State → ℕ → ℕ → ℕ → ℕ → Step
act_fcntl s pid fd command argument = with_open s pid fd (λ row.
    if command == 0 then act_duplicate_from s pid row argument
    else if command == 1 then act_get_flag s row
    else if command == 2 then act_set_flag s pid fd row argument
    else if command == 3 then act_get_status s row
    else if command == 4 then act_set_status s row argument
    else failed Einval s)
