-- The calls by what decides whose they are, and what they make.
use Rattle.std.specs.Prelude.{Bool, false, ℕ, ◌-◌, ◌==◌, bit_and, if◌then◌else◌, not}
use Rattle.sp_base.specs.declared.call.Call.{Call}
use Rattle.sp_base.specs.declared.call.Call.TheVariants as call
use Rattle.hijack_rules.specs.declared.names.SideName.{SideName}
use Rattle.hijack_split.specs.declared.change.Change.{Change}
use Rattle.hijack_split.specs.declared.change.Change.TheVariants.{Drops, Marks, Sits, Stays}
use Rattle.hijack_split.specs.declared.commands.TheConstants.{FD_CLOEXEC, F_DUPFD, F_SETFD, O_CLOEXEC}
use Rattle.hijack_split.specs.declared.kind.Kind.{Kind}
use Rattle.hijack_split.specs.declared.kind.Kind.TheVariants as kind
use Rattle.hijack_split.specs.declared.turn.Made.{Made}
use Rattle.hijack_split.specs.declared.turn.Made.TheVariants as made

-- what decides whose a call is
abbrev pub kind_of : Call → Kind
kind_of (call.Open path _) = kind.Path path
kind_of (call.Close fd) = kind.Descriptor fd
kind_of (call.Read fd _ _) = kind.Descriptor fd
kind_of (call.Write fd _ _) = kind.Descriptor fd
kind_of (call.Pread fd _ _ _) = kind.Descriptor fd
kind_of (call.Pwrite fd _ _ _) = kind.Descriptor fd
kind_of (call.Lseek fd _ _) = kind.Descriptor fd
kind_of (call.Ftruncate fd _) = kind.Descriptor fd
kind_of (call.Fstat fd _) = kind.Descriptor fd
kind_of (call.Stat path _) = kind.Path path
kind_of (call.Link path new_path) = kind.Paths path new_path
kind_of (call.Unlink path) = kind.Path path
kind_of (call.Rename path new_path) = kind.Paths path new_path
kind_of (call.Mkdir path) = kind.Path path
kind_of (call.Rmdir path) = kind.Path path
kind_of (call.Chdir path) = kind.Path path
kind_of (call.Dup fd) = kind.Descriptor fd
kind_of (call.Dup2 fd new_fd) = kind.Dup2 fd new_fd
kind_of (call.Fcntl fd _ _) = kind.Descriptor fd
kind_of (call.Socket family _) = kind.Family family
kind_of (call.Socketpair family _) = kind.Family family
kind_of (call.Bind fd _ _) = kind.Descriptor fd
kind_of (call.Listen fd _) = kind.Descriptor fd
kind_of (call.Accept fd) = kind.Descriptor fd
kind_of (call.Connect fd _ _) = kind.Descriptor fd
kind_of (call.Sendto fd _ _ _ _) = kind.Descriptor fd
kind_of (call.Recvfrom fd _ _ _ _) = kind.Descriptor fd
kind_of (call.Shutdown fd _) = kind.Descriptor fd
kind_of (call.Getsockname fd _ _) = kind.Descriptor fd
kind_of (call.Getpeername fd _ _) = kind.Descriptor fd
kind_of (call.Poll entries count timeout) = kind.Poll entries count timeout
kind_of _ = kind.Host

-- the call with another descriptor, or another path, in front
abbrev pub with_first : Call → ℕ → Call
with_first (call.Open _ flags) word = call.Open word flags
with_first (call.Close _) word = call.Close word
with_first (call.Read _ out len) word = call.Read word out len
with_first (call.Write _ input len) word = call.Write word input len
with_first (call.Pread _ out len offset) word = call.Pread word out len offset
with_first (call.Pwrite _ input len offset) word = call.Pwrite word input len offset
with_first (call.Lseek _ offset whence) word = call.Lseek word offset whence
with_first (call.Ftruncate _ len) word = call.Ftruncate word len
with_first (call.Fstat _ out) word = call.Fstat word out
with_first (call.Stat _ out) word = call.Stat word out
with_first (call.Unlink _) word = call.Unlink word
with_first (call.Mkdir _) word = call.Mkdir word
with_first (call.Rmdir _) word = call.Rmdir word
with_first (call.Chdir _) word = call.Chdir word
with_first (call.Dup _) word = call.Dup word
with_first (call.Fcntl _ command argument) word = call.Fcntl word command argument
with_first (call.Bind _ address address_len) word = call.Bind word address address_len
with_first (call.Listen _ backlog) word = call.Listen word backlog
with_first (call.Accept _) word = call.Accept word
with_first (call.Connect _ address address_len) word = call.Connect word address address_len
with_first (call.Sendto _ input len address address_len) word = call.Sendto word input len address address_len
with_first (call.Recvfrom _ out len address address_max) word = call.Recvfrom word out len address address_max
with_first (call.Shutdown _ how) word = call.Shutdown word how
with_first (call.Getsockname _ out max) word = call.Getsockname word out max
with_first (call.Getpeername _ out max) word = call.Getpeername word out max
with_first call word = call

-- the call with two other paths
abbrev pub with_paths : Call → ℕ → ℕ → Call
with_paths (call.Link _ _) path new_path = call.Link path new_path
with_paths (call.Rename _ _) path new_path = call.Rename path new_path
with_paths call path new_path = call

-- the rump kernel doesn't know the offset: it is asked for a duplicate from a number that is less by it, and never below 0
abbrev pub below_offset : ℕ → Call → Call
below_offset offset (call.Fcntl fd command argument) =
    if command == F_DUPFD then call.Fcntl fd command (argument - offset)
    else call.Fcntl fd command argument
below_offset offset call = call

-- how many descriptors a call makes
abbrev pub made_by : Call → Made
made_by (call.Open path flags) = made.One
made_by (call.Dup fd) = made.One
made_by (call.Fcntl fd command argument) = if command == F_DUPFD then made.One else made.Nothing
made_by call.Pipe = made.Two
made_by (call.Socket family kind) = made.One
made_by (call.Socketpair family kind) = made.Two
made_by (call.Accept fd) = made.One
made_by _ = made.Nothing

-- an open that sets close-on-exec
abbrev pub sets_flag : Call → Bool
sets_flag (call.Open path flags) = not (bit_and flags O_CLOEXEC == 0)
sets_flag _ = false

-- how a call changes the view that succeeds on a side: chdir moves the working directory there, close takes an alias away, F_SETFD sets its flag
abbrev pub change_by : SideName → Call → Change
change_by side (call.Chdir path) = Sits side
change_by side (call.Close fd) = Drops fd
change_by side (call.Fcntl fd command argument) =
    if command == F_SETFD then Marks fd (not (bit_and argument FD_CLOEXEC == 0)) else Stays
change_by side _ = Stays
