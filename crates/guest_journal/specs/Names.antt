-- The names that a script has for words.
use Rattle.std.specs.Prelude.{ℕ, ◌%◌, ◌==◌, ◌++◌, List, None, Option, Some, bit_or, codes, if◌then◌else◌}
use Rattle.guest_rows.specs.Answered.{bar}

-- from where an offset counts
unfoldable pub whence_name : ℕ → Option (List ℕ)
whence_name n =
    if n == 0 then Some (codes "set")
    else if n == 1 then Some (codes "cur")
    else if n == 2 then Some (codes "end")
    else None

-- the commands of fcntl
unfoldable pub command_name : ℕ → Option (List ℕ)
command_name n =
    if n == 0 then Some (codes "dupfd")
    else if n == 1 then Some (codes "getfd")
    else if n == 2 then Some (codes "setfd")
    else if n == 3 then Some (codes "getfl")
    else if n == 4 then Some (codes "setfl")
    else None

-- what a shutdown ends
unfoldable pub how_name : ℕ → Option (List ℕ)
how_name n =
    if n == 0 then Some (codes "read")
    else if n == 1 then Some (codes "write")
    else if n == 2 then Some (codes "both")
    else None

-- the families of sockets
unfoldable pub family_name : ℕ → Option (List ℕ)
family_name n = if n == 1 then Some (codes "local") else if n == 2 then Some (codes "inet") else None

-- the kinds of sockets
unfoldable pub kind_name : ℕ → Option (List ℕ)
kind_name n = if n == 1 then Some (codes "stream") else if n == 2 then Some (codes "dgram") else None

-- the access that the last two bits of flags ask for
unfoldable pub access_name : ℕ → List ℕ
access_name bits =
    if bits % 4 == 0 then codes "O_RDONLY"
    else if bits % 4 == 1 then codes "O_WRONLY"
    else if bits % 4 == 2 then codes "O_RDWR"
    else codes "O_WRONLY|O_RDWR"

-- the other flags that are set, each behind `|`, in the order of their bits
unfoldable pub flag_bars : ℕ → List ℕ
flag_bars bits =
    bar bits 4 (codes "O_NONBLOCK") ++ bar bits 8 (codes "O_APPEND") ++ bar bits 0x200 (codes "O_CREAT") ++ bar bits 0x400 (codes "O_TRUNC")
    ++ bar bits 0x800 (codes "O_EXCL") ++ bar bits 0x400000 (codes "O_CLOEXEC")

-- the flags of an open, where each has a name
unfoldable pub flags_text : ℕ → Option (List ℕ)
flags_text bits = if bit_or bits 0x400e0f == 0x400e0f then Some (access_name bits ++ flag_bars bits) else None
