-- Where no item stands there is no fault.
use Rattle.std.proofs.Common.{◌≡◌, ◌⊎◌, ℕ, ◌<◌, ◌≤◌, List, None, length, take, ap, inl, inr, arith}
use Rattle.std.proofs.lemmas.Bool.{cases_lt}
use Rattle.std.proofs.lemmas.Option.{slice_get_past}
use Rattle.hijack_rules.specs.Faults.{fault_at, fault_behind}

-- past the last item there is no fault
pub no_fault_past : (items : List (List ℕ)) (i : ℕ) → length items ≤ i → fault_at items i ≡ None
no_fault_past items i past = ap (fault_behind (take i items)) (slice_get_past items i past)

-- where no item has a fault there is none at any place
pub no_fault_at_all : (items : List (List ℕ)) (n : ℕ) → length items ≤ n → ((i : ℕ) → i < n → fault_at items i ≡ None) → (i : ℕ) → fault_at items i ≡ None
no_fault_at_all items n all sound i = by_place (cases_lt i (length items))
  where
    by_place : (i < length items) ⊎ (length items ≤ i) → fault_at items i ≡ None
    by_place (inl within) = sound i (omega (arith, within, all))
    by_place (inr past) = no_fault_past items i past
