-- What was gathered for a call, in the form of scripts.
use Rattle.std.specs.Prelude.{ℕ, ◌==◌, ◌&&◌, ◌++◌, Bool, List, None, Option, Some, [], ◌∷◌, codes, if◌then◌else◌, nat_le, nat_lt, slice_get}
use Rattle.std.specs.Fmt.{decimal}
use Rattle.std.specs.Option.{option_map}
use Rattle.kern_model.specs.declared.operation.Ins.{Ins}
use Rattle.kern_model.specs.declared.operation.Ins.TheVariants.{Fault, Given}
use Rattle.sp_base.specs.declared.limits.TheConstants.{ADDRESS, POLL_ENTRIES}
use Rattle.guest_rows.specs.Answered.{entries_text}
use Rattle.guest_rows.specs.declared.answered.PollPart.TheVariants.{Asked}
use Rattle.script_words.specs.Addresses.{address_text}
use Rattle.script_words.specs.Spelling.{quoted}
use Rattle.script_words.specs.Steps.{◌>>=◌}

-- a path that was gathered; `bad` where something of the call couldn't be read
abbrev pub path_word : Ins → ℕ → Option (List ℕ)
path_word (Given pieces) i = option_map quoted (slice_get pieces i)
path_word (Fault errno) i = Some (codes "bad")

-- bytes that were gathered of so many; none are gathered of none
abbrev pub bytes_word : Ins → ℕ → Option (List ℕ)
bytes_word (Given pieces) len = if len == 0 then Some (quoted []) else option_map quoted (slice_get pieces 0)
bytes_word (Fault errno) len = Some (codes "bad " ++ decimal len)

-- an address that was gathered
abbrev pub address_words : Ins → ℕ → Option (List ℕ)
address_words (Given pieces) i = slice_get pieces i >>= address_text
address_words (Fault errno) i = Some (codes "bad")

-- a length that an address has
unfoldable pub is_address_len : ℕ → Bool
is_address_len len = nat_lt 0 len && nat_le len ADDRESS

-- the address of a bind and of a connect
abbrev pub own_address : Ins → ℕ → Option (List ℕ)
own_address ins len = if is_address_len len then address_words ins 0 else None

-- the piece in which a send of so many bytes has its address: the first where it has no bytes
abbrev pub address_piece : ℕ → ℕ
address_piece count = if count == 0 then 0 else 1

-- the address of a send of so many bytes, behind a space; the length 0 names none
abbrev pub target_address : Ins → ℕ → ℕ → Option (List ℕ)
target_address ins count len =
    if len == 0 then Some []
    else if is_address_len len then option_map (λ text. 32 ∷ text) (address_words ins (address_piece count))
    else None

-- the entries of a poll of so many, each behind a space
abbrev pub asked_entries : Ins → ℕ → Option (List ℕ)
asked_entries (Given pieces) count =
    if count == 0 then Some []
    else if nat_le count POLL_ENTRIES then (slice_get pieces 0 >>= entries_text Asked count)
    else None
asked_entries (Fault errno) count = Some (codes " bad " ++ decimal count)
