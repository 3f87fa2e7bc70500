-- The first words of calls' lines.
use Rattle.std.specs.Prelude.{ℕ, List, None, Option, Some, codes, if◌then◌else◌}
use Rattle.std.specs.Str.{bytes_eq}
use Rattle.guest_language.specs.declared.verb.Verb.{Verb}
use Rattle.guest_language.specs.declared.verb.Verb.TheVariants.{Accept, Bind, Chdir, Close, Connect, Dup, Dup2, Fcntl, Fstat, Ftruncate, Getpeername, Getpid, Getsockname, Link, Listen, Lseek, Mkdir, Number, Open, Pipe, Poll, Pread, Pwrite, Read, Recvfrom, Rename, Rmdir, Sendto, Shutdown, Socket, Socketpair, Stat, Unlink, Write}

-- the first of two that there is
abbrev pub or_else : {X : Type 0} → Option X → Option X → Option X
or_else (Some x) other = Some x
or_else None other = other

-- the calls on open files and on processes
unfoldable pub file_verb : List ℕ → Option Verb
file_verb w =
    if bytes_eq w (codes "getpid") then Some Getpid
    else if bytes_eq w (codes "close") then Some Close
    else if bytes_eq w (codes "read") then Some Read
    else if bytes_eq w (codes "write") then Some Write
    else if bytes_eq w (codes "pread") then Some Pread
    else if bytes_eq w (codes "pwrite") then Some Pwrite
    else if bytes_eq w (codes "lseek") then Some Lseek
    else if bytes_eq w (codes "ftruncate") then Some Ftruncate
    else if bytes_eq w (codes "fstat") then Some Fstat
    else if bytes_eq w (codes "dup") then Some Dup
    else if bytes_eq w (codes "dup2") then Some Dup2
    else if bytes_eq w (codes "fcntl") then Some Fcntl
    else None

-- the calls on paths, and those on pipes and by number
unfoldable pub path_verb : List ℕ → Option Verb
path_verb w =
    if bytes_eq w (codes "open") then Some Open
    else if bytes_eq w (codes "stat") then Some Stat
    else if bytes_eq w (codes "link") then Some Link
    else if bytes_eq w (codes "unlink") then Some Unlink
    else if bytes_eq w (codes "rename") then Some Rename
    else if bytes_eq w (codes "mkdir") then Some Mkdir
    else if bytes_eq w (codes "rmdir") then Some Rmdir
    else if bytes_eq w (codes "chdir") then Some Chdir
    else if bytes_eq w (codes "pipe") then Some Pipe
    else if bytes_eq w (codes "poll") then Some Poll
    else if bytes_eq w (codes "call") then Some Number
    else None

-- the calls on sockets
unfoldable pub socket_verb : List ℕ → Option Verb
socket_verb w =
    if bytes_eq w (codes "socket") then Some Socket
    else if bytes_eq w (codes "socketpair") then Some Socketpair
    else if bytes_eq w (codes "bind") then Some Bind
    else if bytes_eq w (codes "listen") then Some Listen
    else if bytes_eq w (codes "accept") then Some Accept
    else if bytes_eq w (codes "connect") then Some Connect
    else if bytes_eq w (codes "sendto") then Some Sendto
    else if bytes_eq w (codes "recvfrom") then Some Recvfrom
    else if bytes_eq w (codes "shutdown") then Some Shutdown
    else if bytes_eq w (codes "getsockname") then Some Getsockname
    else if bytes_eq w (codes "getpeername") then Some Getpeername
    else None

-- the call that a word names
abbrev pub verb_of : List ℕ → Option Verb
verb_of w = or_else (file_verb w) (or_else (path_verb w) (socket_verb w))
