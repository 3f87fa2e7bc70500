-- What a contract sees of a `Numbered`.
use Rattle.std.specs.Prelude.{◌≡◌, ◌≢◌, ℕ, List, [], ◌∷◌, ◌++◌, length, Option, Some, None, IsSome, slice_index_or, slice_set, refl}
use Rattle.std.specs.Coded.{Coded, code_by, coded×, coded_ℕ, coded_list, coded_option}

-- the values by number, the number of what each key holds, and how many more values have room without more memory.
-- A number is how many values came before, so that none comes again: the next one is the length of the items
pub record Book (T : Type 0) : Type 0 where
  pub items : List (Option T)
  pub numbers : List (Option ℕ)
  pub room : ℕ

-- the code of a book
abbrev pub book_code : {T : Type 0} → Coded T → Coded (Book T)
book_code {T} code =
    code_by (List (Option T) × (List (Option ℕ) × ℕ)) (coded× (coded_list (coded_option code)) (coded× (coded_list (coded_option coded_ℕ)) coded_ℕ))
    (λ b. (b.items, (b.numbers, b.room))) (λ p. record { items = p.0; numbers = p.1.0; room = p.1.1 }) (λ _. refl)

module _ {T : Type 0} where
  -- the number of what a key holds
  abbrev pub number_at : Book T → ℕ → Option ℕ
  number_at b key = slice_index_or b.numbers key None

  -- what the items have at a number, if there is one
  abbrev pub item_at : List (Option T) → Option ℕ → Option T
  item_at items None = None
  item_at items (Some n) = slice_index_or items n None

  -- each key's number has a value, and two keys have two numbers
  pub record IsBook (b : Book T) : Type 0 where
    pub held : (key n : ℕ) → number_at b key ≡ Some n → IsSome (slice_index_or b.items n None)
    pub distinct : (j k n : ℕ) → number_at b j ≡ Some n → number_at b k ≡ Some n → j ≡ k

  -- a value took the next number, under a key that held nothing
  pub record Adds (old new : Book T) (key : ℕ) (value : T) : Type 0 where
    pub items : new.items ≡ old.items ++ Some value ∷ []
    pub vacant : number_at old key ≡ None
    pub here : number_at new key ≡ Some (length old.items)
    pub others : (k : ℕ) → k ≢ key → number_at new k ≡ number_at old k

  -- the items with another value at a number, if there is one
  abbrev pub put_at : List (Option T) → Option ℕ → T → List (Option T)
  put_at items None value = items
  put_at items (Some n) value = slice_set items n (Some value)

  -- the book with another value under the number of a key
  abbrev pub with_value : Book T → ℕ → T → Book T
  with_value b key value = record b { items = put_at b.items (number_at b key) value }
