-- The flags of an open, by their names.
use Rattle.std.specs.Prelude.{ℕ, List, None, Option, Some, [], ◌∷◌, bit_or, codes, if◌then◌else◌}
use Rattle.std.specs.Str.{bytes_eq}
use Rattle.script_words.specs.Pieces.{pieces_of}
use Rattle.script_words.specs.Steps.{◌>>=◌}

-- the bits of a name, as NetBSD numbers them
unfoldable pub flag_of : List ℕ → Option ℕ
flag_of w =
    if bytes_eq w (codes "O_RDONLY") then Some 0
    else if bytes_eq w (codes "O_WRONLY") then Some 1
    else if bytes_eq w (codes "O_RDWR") then Some 2
    else if bytes_eq w (codes "O_NONBLOCK") then Some 4
    else if bytes_eq w (codes "O_APPEND") then Some 8
    else if bytes_eq w (codes "O_CREAT") then Some 0x200
    else if bytes_eq w (codes "O_TRUNC") then Some 0x400
    else if bytes_eq w (codes "O_EXCL") then Some 0x800
    else if bytes_eq w (codes "O_CLOEXEC") then Some 0x400000
    else None

-- the bits of names, beside those so far
abbrev pub flags_in : ℕ → List (List ℕ) → Option ℕ
flags_in sofar [] = Some sofar
flags_in sofar (name ∷ names) = flag_of name >>= (λ flag. flags_in (bit_or sofar flag) names)

-- the bits of names that are joined by `|`
abbrev pub flags_of : List ℕ → Option ℕ
flags_of w = flags_in 0 (pieces_of 124 w)
