-- The addresses of sockets, as words and as bytes.
use Rattle.std.specs.Prelude.{ℕ, ◌==◌, ◌++◌, List, None, Option, Some, [], ◌∷◌, codes, if◌then◌else◌, length, nat_le, nat_lt, slice_index}
use Rattle.std.specs.Fmt.{decimal}
use Rattle.std.specs.Int.{from_le_bytes, to_le_bytes, w16}
use Rattle.std.specs.Str.{bytes_eq}
use Rattle.script_words.specs.Numbers.{number_of, numeral}
use Rattle.script_words.specs.Pieces.{pieces_of}
use Rattle.script_words.specs.Spelling.{quoted}
use Rattle.script_words.specs.Steps.{◌>>=◌}
use Rattle.script_words.specs.Texts.{text_of}

-- one of the four numbers of a host
unfoldable pub byte_of : List ℕ → Option ℕ
byte_of w = numeral 10 w >>= (λ n. if nat_lt n 256 then Some n else None)

-- the number of a port
unfoldable pub port_of : List ℕ → Option ℕ
port_of w = number_of w >>= (λ n. if nat_lt n 65536 then Some n else None)

-- the four bytes of a host's parts
abbrev pub host_parts : List (List ℕ) → Option (List ℕ)
host_parts (a ∷ b ∷ c ∷ d ∷ []) = byte_of a >>= (λ a. byte_of b >>= (λ b. byte_of c >>= (λ c. byte_of d >>= (λ d. Some (a ∷ b ∷ c ∷ d ∷ [])))))
host_parts _ = None

-- the four bytes of a host: four decimal numbers joined by dots
abbrev pub host_of : List ℕ → Option (List ℕ)
host_of w = host_parts (pieces_of 46 w)

-- the bytes of an address in the file system: the family 1, and the path
abbrev pub local_bytes : List ℕ → List ℕ
local_bytes path = 1 ∷ path

-- the bytes of an address by host and port: the family 2, four bytes, and the port with its low byte first
unfoldable pub inet_bytes : List ℕ → ℕ → List ℕ
inet_bytes host port = 2 ∷ (host ++ to_le_bytes w16 port)

-- the bytes of the address that words spell: `local TEXT` with at most 103 bytes, or `inet A.B.C.D PORT`
abbrev pub address_of : List (List ℕ) → Option (List ℕ)
address_of (kind ∷ text ∷ []) =
    if bytes_eq kind (codes "local") then (text_of text >>= (λ path. if nat_le (length path) 103 then Some (local_bytes path) else None))
    else None
address_of (kind ∷ host ∷ port ∷ []) =
    if bytes_eq kind (codes "inet") then (host_of host >>= (λ h. port_of port >>= (λ p. Some (inet_bytes h p))))
    else None
address_of _ = None

-- the text of an address in the file system
unfoldable pub local_text : List ℕ → List ℕ
local_text path = codes "local " ++ quoted path

-- the text of an address by host and port
unfoldable pub inet_text : List ℕ → List ℕ → List ℕ
inet_text host port =
    codes "inet " ++ decimal (slice_index host 0) ++ codes "." ++ decimal (slice_index host 1) ++ codes "." ++ decimal (slice_index host 2)
    ++ codes "." ++ decimal (slice_index host 3) ++ codes " " ++ decimal (from_le_bytes w16 port)

-- the text of what stands behind the family 2: four bytes and a port
abbrev pub inet_rest : List ℕ → Option (List ℕ)
inet_rest (a ∷ b ∷ c ∷ d ∷ low ∷ high ∷ []) = Some (inet_text (a ∷ b ∷ c ∷ d ∷ []) (low ∷ high ∷ []))
inet_rest _ = None

-- the text of an address's bytes, where they are one
abbrev pub address_text : List ℕ → Option (List ℕ)
address_text [] = None
address_text (family ∷ rest) =
    if family == 1 then (if nat_le (length rest) 103 then Some (local_text rest) else None)
    else if family == 2 then inet_rest rest
    else None
