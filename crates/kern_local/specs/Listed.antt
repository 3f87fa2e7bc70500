-- How the entries of a map are seen as a list by number.
use Rattle.std.specs.Prelude.{nat_eq, ◌≡◌, ℕ, ◌+◌, ◌<◌, ◌≤◌, ◌^◌, List, map, Option, None, refl}
use Rattle.std.specs.List.{range_with_len}
use Rattle.std.specs.Coded.{Coded, code_by, coded×, coded_ℕ, coded_list, coded_option}
use Rattle.std.specs.declared.hash.BuildHasherDefault.{BuildHasherDefault}
use Rattle.std.specs.declared.hash.FoldHasher.{FoldHasher}
use Rattle.std.specs.HashMap.{HashMap, get, spare}

-- the values by number, and how many more have room without more memory. A number is how many values came before,
-- so that none comes again: the next one is the length of the items
pub record Listed (T : Type 0) : Type 0 where
  pub items : List (Option T)
  pub room : ℕ

-- the code of the values by number
abbrev pub listed_code : {T : Type 0} → Coded T → Coded (Listed T)
listed_code {T} code = code_by (List (Option T) × ℕ) (coded× (coded_list (coded_option code)) coded_ℕ) (λ l. (l.items, l.room)) (λ p. record { items = p.0; room = p.1 }) (λ _. refl)

-- the entries by number
abbrev pub Entries : Type 0 → Type 0
Entries T = HashMap ℕ T (BuildHasherDefault FoldHasher)

module _ {T : Type 0} where
  -- the entry of a number
  abbrev pub entry : Entries T → ℕ → Option T
  entry entries number = get nat_eq entries number

  -- the entry of each number below an end
  unfoldable pub listed : Entries T → ℕ → List (Option T)
  listed entries end = map (λ number. entry entries number) (range_with_len 0 end)

  -- there is no entry from the next number on, and so many more values have a place and a number
  pub record IsListed (entries : Entries T) (next room : ℕ) : Type 0 where
    pub vacant : (number : ℕ) → next ≤ number → entry entries number ≡ None
    pub places : room ≤ spare entries
    pub last : next + room < 2 ^ 64
