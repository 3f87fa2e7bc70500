-- Parts of a caller's memory, and the addresses that they have.
use Rattle.std.specs.Prelude.{ℕ, ◌+◌, ◌&&◌, Bool, List, [], ◌∷◌, false, length, nat_le, nat_lt, true}
use Rattle.sp_copy.specs.declared.part.Part.{Part}
use Rattle.sp_copy.specs.declared.part.Right.{Right}
use Rattle.sp_copy.specs.declared.part.Right.TheVariants.{Both, Readable, Writable}
use Rattle.sp_copy.specs.declared.part.TheConstants.{ROOT_BASE}

-- a call may read what has this right
abbrev pub can_read : Right → Bool
can_read Readable = true
can_read Writable = false
can_read Both = true

-- a call may write what has this right
abbrev pub can_write : Right → Bool
can_write Readable = false
can_write Writable = true
can_write Both = true

-- the address after a part's last byte
abbrev pub end_of : Part → ℕ
end_of p = p.base + length p.bytes

-- the part has this address
abbrev pub has_address : ℕ → Part → Bool
has_address addr p = nat_le p.base addr && nat_lt addr (end_of p)

-- the part has the whole range
abbrev pub has_range : ℕ → ℕ → Part → Bool
has_range addr len p = nat_le p.base addr && nat_le (addr + len) (end_of p)

-- some address is in both parts
abbrev pub share_address : Part → Part → Bool
share_address p q = nat_lt p.base (end_of q) && nat_lt q.base (end_of p) && nat_lt p.base (end_of p) && nat_lt q.base (end_of q)

-- the text `/` with its zero byte, which every memory has and no call writes
abbrev pub root_part : Part
root_part = record { base = ROOT_BASE; right = Readable; bytes = 47 ∷ 0 ∷ [] }

-- the address is one of the range's
abbrev pub in_range : ℕ → ℕ → ℕ → Bool
in_range addr len a = nat_le addr a && nat_lt a (addr + len)
