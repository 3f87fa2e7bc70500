-- What each call reads of its caller's memory, and where it may write.
use Rattle.std.specs.Prelude.{◌≡◌, ℕ, ◌*◌, ◌==◌, ◌<◌, nat_le, min, List, [], ◌∷◌, ◌++◌, length, Option, Some, None, if◌then◌else◌}
use Rattle.std.specs.List.{AllByRecursion}
use Rattle.std.specs.Option.{option_map, option_to_list}
use Rattle.sp_base.specs.declared.call.Call.{Call}
use Rattle.sp_base.specs.declared.call.Call.TheVariants.{Open, Read, Write, Pread, Pwrite, Fstat, Stat, Link, Unlink, Rename, Mkdir, Rmdir, Chdir, Bind, Connect, Sendto, Recvfrom, Getsockname, Getpeername, Poll}
use Rattle.sp_base.specs.declared.limits.TheConstants.{TRANSFER, PATH_TEXT, ADDRESS, STAT, POLL_ENTRIES, POLL_ENTRY}
use Rattle.sp_base.specs.declared.need.Need.{Need}
use Rattle.sp_base.specs.declared.need.Need.TheVariants.{Bytes, Text}
use Rattle.sp_base.specs.declared.need.Range.{Range}

-- a range, where it has bytes: one of length 0 is neither read nor written
abbrev pub range_of : ℕ → ℕ → Option Range
range_of addr len = if len == 0 then None else Some (record { addr = addr; len = len })

-- how many bytes one call moves that is asked to move so many
abbrev pub transfer_of : ℕ → ℕ
transfer_of len = min len TRANSFER

-- the bytes that one call moves
abbrev pub transfer_range : ℕ → ℕ → Option Range
transfer_range addr len = range_of addr (transfer_of len)

-- an address that a call is given, where its length is one of an address
abbrev pub address_in : ℕ → ℕ → Option Range
address_in addr len = if nat_le len ADDRESS then range_of addr len else None

-- an address that a call gives
abbrev pub address_out : ℕ → ℕ → Option Range
address_out addr most = range_of addr (min most ADDRESS)

-- what fstat and stat write
abbrev pub stat_range : ℕ → Option Range
stat_range addr = range_of addr STAT

-- the entries of a poll, where there aren't too many
abbrev pub poll_range : ℕ → ℕ → Option Range
poll_range addr count = if nat_le count POLL_ENTRIES then range_of addr (POLL_ENTRY * count) else None

-- a path
abbrev pub path_need : ℕ → Option Need
path_need addr = Some (Text addr PATH_TEXT)

-- the bytes of a range
abbrev pub bytes_need : Option Range → Option Need
bytes_need range = option_map (λ r. Bytes r.addr r.len) range

-- no thing, of the two that a call may have
abbrev pub none : {X : Type 0} → Option X × Option X
none = (None, None)

-- one thing at the most
abbrev pub one : {X : Type 0} → Option X → Option X × Option X
one x = (x, None)

-- two things at the most
abbrev pub two : {X : Type 0} → Option X → Option X → Option X × Option X
two x y = (x, y)

-- the texts and the bytes that a call reads, by the table of calls
abbrev pub asks_of : Call → Option Need × Option Need
asks_of (Open path flags) = one (path_need path)
asks_of (Write fd input len) = one (bytes_need (transfer_range input len))
asks_of (Pwrite fd input len offset) = one (bytes_need (transfer_range input len))
asks_of (Stat path out) = one (path_need path)
asks_of (Link path new_path) = two (path_need path) (path_need new_path)
asks_of (Unlink path) = one (path_need path)
asks_of (Rename path new_path) = two (path_need path) (path_need new_path)
asks_of (Mkdir path) = one (path_need path)
asks_of (Rmdir path) = one (path_need path)
asks_of (Chdir path) = one (path_need path)
asks_of (Bind fd address address_len) = one (bytes_need (address_in address address_len))
asks_of (Connect fd address address_len) = one (bytes_need (address_in address address_len))
asks_of (Sendto fd input len address address_len) = two (bytes_need (transfer_range input len)) (bytes_need (address_in address address_len))
asks_of (Poll entries count timeout) = one (bytes_need (poll_range entries count))
asks_of _ = none

-- the ranges that a call may write to, by the table of calls
abbrev pub places_of : Call → Option Range × Option Range
places_of (Read fd out len) = one (transfer_range out len)
places_of (Pread fd out len offset) = one (transfer_range out len)
places_of (Fstat fd out) = one (stat_range out)
places_of (Stat path out) = one (stat_range out)
places_of (Recvfrom fd out len address address_max) = two (transfer_range out len) (address_out address address_max)
places_of (Getsockname fd out max) = one (address_out out max)
places_of (Getpeername fd out max) = one (address_out out max)
places_of (Poll entries count timeout) = one (poll_range entries count)
places_of _ = none

-- what is read at once of a need
abbrev pub pieces_of : Option Need → List Need
pieces_of need = option_to_list need

-- what a call reads, in order; a need's index is its place here
abbrev pub needs_of : Call → List Need
needs_of call = pieces_of (asks_of call).0 ++ pieces_of (asks_of call).1

-- where a call may write, in order
abbrev pub outs_of : Call → List Range
outs_of call = option_to_list (places_of call).0 ++ option_to_list (places_of call).1

-- a piece is what a need asks for: as many bytes as its range has, or a text without its zero byte, below its limit
abbrev pub IsPiece : Need → List ℕ → Type 0
IsPiece (Bytes addr len) piece = length piece ≡ len
IsPiece (Text addr limit) piece = (length piece < limit) × AllByRecursion (λ b. b ≡ 0 → ⊥) piece

-- there is one piece for each need
abbrev pub ArePieces : List Need → List (List ℕ) → Type 0
ArePieces [] [] = Unit {0}
ArePieces [] (piece ∷ pieces) = ⊥
ArePieces (need ∷ rest) [] = ⊥
ArePieces (need ∷ rest) (piece ∷ pieces) = IsPiece need piece × ArePieces rest pieces
