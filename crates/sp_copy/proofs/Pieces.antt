-- What is read fits the need.
use Rattle.std.proofs.Common.{◌≡◌, ℕ, zero, suc, ◌+◌, ◌-◌, ◌<◌, ◌≤◌, ◌==◌, append_assoc, Bool, List, [], ◌∷◌, ◌++◌, length, take, drop, Option, Some, None, Result, Ok, Err, refl, ap, sym, ◌∙◌, subst, arith, nat_lt, nat_le, cond, not, true, false}
use Rattle.std.proofs.lemmas.List.{drop_more, places}
use Rattle.std.specs.List.{AllByRecursion, position_or_len}
use Rattle.std.specs.Option.{option_to_list}
use Rattle.std.specs.Prelude.{position, slice_get}
use Rattle.std.proofs.lemmas.Option.{get_or_from_slice_get, slice_get_within}
use Rattle.sp_base.specs.Needs.{IsPiece, ArePieces, asks_of, needs_of}
use Rattle.sp_base.specs.declared.call.Call.{Call}
use Rattle.std.proofs.lemmas.Bool.Decides.{nat_tests}
use Rattle.std.proofs.lemmas.Grind.{common_steps}
use Rattle.sp_base.specs.declared.need.Need.{Need}
use Rattle.sp_base.specs.declared.need.Need.TheVariants.{Bytes, Text}
use Rattle.sp_copy.specs.declared.part.Part.{Part}
use Rattle.sp_copy.specs.declared.fault.CopyFault.{CopyFault}
use Rattle.sp_copy.specs.declared.fault.CopyFault.TheVariants.{Fault, NoEnd}
use Rattle.sp_copy.specs.Parts.{root_part}
use Rattle.sp_copy.specs.Reading.{gives, given, read_from, read_of, text_before, text_in}
use Rattle.sp_copy.specs.Gathering.{gathered, with_first}

abbrev NotZero : ℕ → Type 0
NotZero b = b ≡ 0 → ⊥

one_more : (n : ℕ) → 1 + n ≡ suc n
one_more n = omega arith

-- no byte before the first zero is zero
none_before : (bytes : List ℕ) → AllByRecursion NotZero (take (position_or_len (λ b. b == 0) bytes) bytes)
none_before [] = tt
none_before (x ∷ xs) =
    elim (x == 0) as (λ b. (x == 0) ≡ b → AllByRecursion NotZero (take (cond (not b) (1 + position_or_len (λ y. y == 0) xs) 0) (x ∷ xs))) [
      | true ↦ λ e. tt
      | false ↦ λ e. subst (λ (n : ℕ). AllByRecursion NotZero (take n (x ∷ xs))) (sym (one_more (position_or_len (λ y. y == 0) xs))) (here e, none_before xs)
    ] refl
  where
    here : (x == 0) ≡ false → NotZero x
    here e z = let t : (x == 0) ≡ true = ap (λ (y : ℕ). y == 0) z in absurd (cc)

take_shorter : (n m : ℕ) (xs : List ℕ) → n ≤ m → take n (take m xs) ≡ take n xs
take_shorter zero m xs l = refl
take_shorter (suc n) zero xs l = absurd (omega (arith, l))
take_shorter (suc n) (suc m) [] l = refl
take_shorter (suc n) (suc m) (x ∷ xs) l = ap (λ (ys : List ℕ). x ∷ ys) (take_shorter n m xs (omega (arith, l)))

text_fits : (bytes : List ℕ) (most : ℕ) (text : List ℕ) → text_in bytes most ≡ Ok text → (length text < most) × AllByRecursion NotZero text
text_fits bytes most text h = by_test (nat_lt first (length (take most bytes))) refl h
  where
    first : ℕ
    first = position_or_len (λ b. b == 0) (take most bytes)

    found : first < length (take most bytes) → take first bytes ≡ text → (length text < most) × AllByRecursion NotZero text
    found l e =
        let below : first < most = grind (arith, places) in
        let all = subst (AllByRecursion NotZero) (take_shorter first most bytes (omega (arith, below))) (none_before (take most bytes)) in
        subst (λ (t : List ℕ). (length t < most) × AllByRecursion NotZero t) e (grind (arith, places), all)

    no_end : (b : Bool) → cond b (Err NoEnd) (Err Fault) ≡ Ok text → (length text < most) × AllByRecursion NotZero text
    no_end true e = absurd (cc)
    no_end false e = absurd (cc)

    by_test : (b : Bool) → nat_lt first (length (take most bytes)) ≡ b → text_before bytes most (cond b (Some first) None) ≡ Ok text → (length text < most) × AllByRecursion NotZero text
    by_test true t e = found (grind (arith, nat_tests)) (cc)
    by_test false t e = no_end (nat_le most (length bytes)) e

given_fits : (need : Need) (p : Part) (piece : List ℕ) → gives need p ≡ true → given need p ≡ Ok piece → IsPiece need piece
given_fits (Bytes addr len) p piece g h =
    let is : take len (drop (addr - p.base) p.bytes) ≡ piece = cc in
    let enough : addr - p.base + len ≤ length p.bytes = grind (arith, nat_tests, common_steps) in
    sym (ap length is) ∙ grind (arith, places)
given_fits (Text addr most) p piece g h = text_fits (drop (addr - p.base) p.bytes) most piece h

-- what is read is what the need asks for
pub read_fits : (ps : List Part) (need : Need) (piece : List ℕ) → read_from ps need ≡ Ok piece → IsPiece need piece
read_fits [] need piece h = absurd (cc)
read_fits (p ∷ ps) need piece h =
    elim (gives need p) as (λ b. gives need p ≡ b → cond b (given need p) (read_from ps need) ≡ Ok piece → IsPiece need piece) [
      | true ↦ λ g e. given_fits need p piece g e
      | false ↦ λ g e. read_fits ps need piece e
    ] refl h

-- what is gathered is a piece for each need
pub gathered_fits : (parts : List Part) (needs : List Need) (pieces : List (List ℕ)) → gathered parts needs ≡ Ok pieces → ArePieces needs pieces
gathered_fits parts [] [] h = tt
gathered_fits parts [] (piece ∷ pieces) h = absurd (cc)
gathered_fits parts (need ∷ needs) pieces h = by_first (read_of parts need) refl (gathered parts needs) refl (λ rest. gathered_fits parts needs rest) h
  where
    both : (first : List ℕ) → read_of parts need ≡ Ok first → (rest : List (List ℕ)) → ArePieces needs rest → first ∷ rest ≡ pieces → ArePieces (need ∷ needs) pieces
    both first e rest are is = subst (ArePieces (need ∷ needs)) is (read_fits (root_part ∷ parts) need first e, are)

    by_first : (r : Result (List ℕ) CopyFault) → read_of parts need ≡ r → (rest : Result (List (List ℕ)) CopyFault) → gathered parts needs ≡ rest → ((ps : List (List ℕ)) → gathered parts needs ≡ Ok ps → ArePieces needs ps) → with_first r rest ≡ Ok pieces → ArePieces (need ∷ needs) pieces
    by_first (Err e1) e rest f rec h = absurd (cc)
    by_first (Ok first) e (Err e1) f rec h = absurd (cc)
    by_first (Ok first) e (Ok rest) f rec h = both first e rest (rec rest f) (cc)

-- pieces before those of a result
abbrev pub after_pieces : List (List ℕ) → Result (List (List ℕ)) CopyFault → Result (List (List ℕ)) CopyFault
after_pieces front (Err e) = Err e
after_pieces front (Ok pieces) = Ok (front ++ pieces)

at_most_two : {X : Type 0} (x y : Option X) → length (option_to_list x ++ option_to_list y) ≤ 2
at_most_two None None = omega arith
at_most_two None (Some y) = omega arith
at_most_two (Some x) None = omega arith
at_most_two (Some x) (Some y) = omega arith

-- a call has few needs
pub few_needs : (call : Call) → length (needs_of call) ≤ 2
few_needs call = at_most_two (asks_of call).0 (asks_of call).1

-- a need, and those behind it
pub need_there : (needs : List Need) (i : ℕ) (need : Need) → Some need ≡ slice_get needs i → (i < length needs) × (drop i needs ≡ need ∷ drop (i + 1) needs)
need_there needs i need h =
    let within : i < length needs = slice_get_within needs i need (sym h) in
    (within, drop_more needs i need within ∙ ap (λ (x : Need). x ∷ drop (i + 1) needs) (get_or_from_slice_get needs i need need (sym h)))

-- no need is left
pub need_gone : (needs : List Need) (i : ℕ) → None ≡ slice_get needs i → drop i needs ≡ []
need_gone [] zero h = refl
need_gone [] (suc i) h = refl
need_gone (x ∷ needs) zero h = absurd (cc)
need_gone (x ∷ needs) (suc i) h = need_gone needs i h

one_before : (front : List (List ℕ)) (piece : List ℕ) (rest : Result (List (List ℕ)) CopyFault) → after_pieces (front ++ piece ∷ []) rest ≡ after_pieces front (with_first (Ok piece) rest)
one_before front piece (Err e) = refl
one_before front piece (Ok pieces) = ap (λ (ps : List (List ℕ)). Ok ps) (append_assoc front (piece ∷ []) pieces)

-- a piece more is gathered
pub one_gathered : (parts : List Part) (front : List (List ℕ)) (need : Need) (needs : List Need) (piece : List ℕ) → read_of parts need ≡ Ok piece → after_pieces (front ++ piece ∷ []) (gathered parts needs) ≡ after_pieces front (gathered parts (need ∷ needs))
one_gathered parts front need needs piece e =
    one_before front piece (gathered parts needs)
    ∙ ap (λ (r : Result (List ℕ) CopyFault). after_pieces front (with_first r (gathered parts needs))) (sym e)
