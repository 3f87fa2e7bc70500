-- Why a call on nodes or names fails.
use Rattle.std.specs.Prelude.{Option, None, Some, Result, Ok, Err}
use Rattle.sp_base.specs.declared.errno.Errno.{Errno}
use Rattle.kern_nodes.specs.declared.fault.TreeFault.{TreeFault}
use Rattle.kern_nodes.specs.declared.fault.TreeFault.TheVariants as fault

-- the error of a fault, none for want of memory
abbrev pub errno_of : TreeFault → Option Errno
errno_of (fault.Errno error) = Some error
errno_of fault.NoMemory = None

-- the error of a result, none for a success and for want of memory
abbrev pub error_in : {T : Type 0} → Result T TreeFault → Option Errno
error_in (Ok _) = None
error_in (Err cause) = errno_of cause
