-- The faults of a list of parts, in the order in which they are looked for.
use Rattle.std.specs.Prelude.{ℕ, ◌+◌, ◌++◌, ◌≤◌, List, None, Option, Some, [], ◌∷◌, if◌then◌else◌, length, nat_lt, position}
use Rattle.std.specs.Option.{option_map}
use Rattle.sp_copy.specs.declared.fault.MemFault.{MemFault}
use Rattle.sp_copy.specs.declared.fault.MemFault.TheVariants.{Overlap, TooHigh, TooLow}
use Rattle.sp_copy.specs.declared.part.Part.{Part}
use Rattle.sp_copy.specs.declared.part.TheConstants.{HIGHEST_END, LOWEST_BASE}
use Rattle.sp_copy.specs.Parts.{end_of, share_address}

-- the first of two faults
abbrev pub or_later : {X : Type 0} → Option X → Option X → Option X
or_later (Some fault) later = Some fault
or_later None later = later

-- the fault of a part by itself: it lies too low, or else too high
abbrev pub own_fault : ℕ → Part → Option MemFault
own_fault number p =
    if nat_lt p.base LOWEST_BASE then Some (TooLow number)
    else if nat_lt HIGHEST_END (end_of p) then Some (TooHigh number)
    else None

-- the fault of the first part, of those from a number on, that has one by itself
abbrev pub bounds_fault : ℕ → List Part → Option MemFault
bounds_fault number [] = None
bounds_fault number (p ∷ ps) = or_later (own_fault number p) (bounds_fault (number + 1) ps)

-- a part that shares an address with earlier ones, with the first of these
abbrev pub overlap_of : List Part → Part → Option MemFault
overlap_of earlier p = option_map (λ i. Overlap i (length earlier)) (position (share_address p) earlier)

-- the first part, behind earlier ones, that shares an address with one before it
abbrev pub overlap_fault : List Part → List Part → Option MemFault
overlap_fault earlier [] = None
overlap_fault earlier (p ∷ ps) = or_later (overlap_of earlier p) (overlap_fault (earlier ++ p ∷ []) ps)

-- the first fault of a list of parts
abbrev pub fault_of : List Part → Option MemFault
fault_of parts = or_later (bounds_fault 0 parts) (overlap_fault [] parts)

-- each part begins at or behind the end of the one before it, and ends by the highest end
abbrev pub RisesFrom : ℕ → List Part → Type 0
RisesFrom low [] = Unit {0}
RisesFrom low (p ∷ ps) = (low ≤ p.base) × (end_of p ≤ HIGHEST_END) × RisesFrom (end_of p) ps

-- the parts lie in rising order between the lowest base and the highest end
abbrev pub Rises : List Part → Type 0
Rises parts = RisesFrom LOWEST_BASE parts
