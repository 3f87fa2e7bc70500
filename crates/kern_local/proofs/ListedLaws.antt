-- The list of the entries of a map, when one entry changes.
use Rattle.std.proofs.Common.{◌≡◌, ◌≢◌, ℕ, zero, suc, ◌+◌, ◌<◌, ◌≤◌, List, [], ◌∷◌, ◌++◌, refl, length, get_or, set, Option, None, Some, IsSome, nat_eq, ap, sym, ◌∙◌, arith, ⊎_elim, subst}
use Rattle.std.specs.HashMap.{UpdatesBy, IsReordered}
use Rattle.std.proofs.lemmas.List.{get_or-set_same, get_or-set_other, get_or_past, ext_get_or, length-set}
use Rattle.std.proofs.lemmas.List.FromFn.{length-map-range_with_len, get_or-map-range_with_len, map-range_with_len_more}
use Rattle.std.proofs.lemmas.Bool.{cases_eq, cases_lt}
use Rattle.std.proofs.lemmas.Bool.Decides.{nat_tests}
use Rattle.kern_local.specs.Listed.{Entries, entry, listed, IsListed}

-- the entries have another one, or none, at a number, and are else as before
pub record Changes {T : Type 0} (old new : Entries T) (number : ℕ) (value : Option T) : Type 0 where
  pub here : entry new number ≡ value
  pub others : (other : ℕ) → other ≢ number → entry new other ≡ entry old other

module _ {T : Type 0} where
  -- the list is as long as there are numbers
  pub length-listed : (entries : Entries T) (end : ℕ) → length (listed entries end) ≡ end
  unfolding listed
  length-listed entries end = length-map-range_with_len (λ number. entry entries number) 0 end

  -- what the list has at a number below its end
  pub at_listed : (entries : Entries T) (end number : ℕ) → number < end → get_or (listed entries end) number None ≡ entry entries number
  unfolding listed
  at_listed entries end number below = get_or-map-range_with_len (λ n. entry entries n) 0 end number number None below (omega arith)

  -- what the list has at any number
  pub at_any : (entries : Entries T) (end room number : ℕ) → IsListed entries end room → get_or (listed entries end) number None ≡ entry entries number
  at_any entries end room number sound =
      ⊎_elim
      (λ below. at_listed entries end number below)
      (λ behind. get_or_past (listed entries end) number None (omega (arith, length-listed entries end)) ∙ sym (sound.vacant number behind))
      (cases_lt number end)

  -- one number more
  listed_more : (entries : Entries T) (end : ℕ) → listed entries (end + 1) ≡ listed entries end ++ entry entries end ∷ []
  unfolding listed
  listed_more entries end = map-range_with_len_more (λ n. entry entries n) 0 end end (omega arith)

  -- the list is the same where each entry is
  pub listed_same : (old new : Entries T) (end : ℕ) → ((number : ℕ) → number < end → entry new number ≡ entry old number) → listed new end ≡ listed old end
  listed_same old new end same =
      ext_get_or None (listed new end) (listed old end) (length-listed new end ∙ sym (length-listed old end))
      (λ i below. let within : i < end = omega (arith, length-listed new end) in
      at_listed new end i within ∙ same i within ∙ sym (at_listed old end i within))

  -- the order of the entries isn't seen
  pub listed_reordered : (old new : Entries T) (end : ℕ) → IsReordered nat_eq old new → listed new end ≡ listed old end
  listed_reordered old new end reordered = listed_same old new end (λ number below. reordered.2 number)

  -- the list with another entry is set there
  pub listed_set : (old new : Entries T) (end number : ℕ) (value : Option T) → number < end → Changes old new number value → listed new end ≡ set (listed old end) number value
  listed_set old new end number value below changes =
      ext_get_or None (listed new end) (set (listed old end) number value)
      (length-listed new end ∙ sym (length-listed old end) ∙ sym (length-set (listed old end) number value))
      (λ i before. let within : i < end = omega (arith, length-listed new end) in
      let inside : number < length (listed old end) = omega (arith, length-listed old end) in
      at_listed new end i within ∙
      ⊎_elim
      (λ same. ap (λ n. entry new n) same ∙ changes.here
      ∙ sym (get_or-set_same (listed old end) number value None inside)
      ∙ ap (λ n. get_or (set (listed old end) number value) n None) (sym same))
      (λ apart. changes.others i apart ∙ sym (at_listed old end i within)
      ∙ sym (get_or-set_other (listed old end) number i value None apart))
      (cases_eq i number))

  -- what an insert, a removal, or a write through a lent value does to the entries
  pub changes_of : (old new : Entries T) (number : ℕ) (value : Option T) → UpdatesBy nat_eq (nat_eq number) old new value → Changes old new number value
  changes_of old new number value updates = record {
    here = updates.1;
    others = λ other apart. updates.2 other (grind (arith, nat_tests));
  }

  -- no entries are seen as no values
  pub listed_none : (entries : Entries T) → listed entries 0 ≡ []
  unfolding listed
  listed_none entries = refl

  -- a value under the next number is seen at the end
  pub listed_added : (old new : Entries T) (end : ℕ) (value : T) → Changes old new end (Some value) → listed new (end + 1) ≡ listed old end ++ Some value ∷ []
  listed_added old new end value changes =
      listed_more new end
      ∙ ap (λ o. listed new end ++ o ∷ []) changes.here
      ∙ ap (λ l. l ++ Some value ∷ []) (listed_same old new end (λ n below. changes.others n (omega arith)))

  -- a number that has a value is below the next one
  pub below_next : (entries : Entries T) (end room number : ℕ) → IsListed entries end room → IsSome (get_or (listed entries end) number None) → number < end
  below_next entries end room number sound live =
      ⊎_elim
      (λ below. below)
      (λ behind. let none : get_or (listed entries end) number None ≡ None = get_or_past (listed entries end) number None (omega (arith, length-listed entries end)) in
      absurd (let bad = subst IsSome none live in cc))
      (cases_lt number end)

  -- setting past the end changes nothing
  pub set_past : (xs : List (Option T)) (n : ℕ) (value : Option T) → length xs ≤ n → set xs n value ≡ xs
  set_past [] n value le = refl
  set_past (x ∷ xs) zero value le = absurd (omega arith)
  set_past (x ∷ xs) (suc n) value le = ap (λ l. x ∷ l) (set_past xs n value (omega arith))

  -- a removal is seen as no value at the number
  pub listed_removed : (old new : Entries T) (end room number : ℕ) → IsListed old end room → Changes old new number None → listed new end ≡ set (listed old end) number None
  listed_removed old new end room number sound changes =
      ⊎_elim
      (λ below. listed_set old new end number None below changes)
      (λ behind. listed_same old new end (λ n below. changes.others n (omega arith))
      ∙ sym (set_past (listed old end) number None (omega (arith, length-listed old end))))
      (cases_lt number end)
