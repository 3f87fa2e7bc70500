-- At most one part of a memory gives a need, or takes a range.
use Rattle.std.proofs.Common.{◌≡◌, ℕ, zero, suc, ◌+◌, ◌<◌, ◌≤◌, ◌==◌, ◌&&◌, List, [], ◌∷◌, ◌++◌, length, take, drop, get_or, set, Bool, true, false, not, nat_lt, nat_le, cond, Option, Some, None, Result, Ok, Err, refl, ap, sym, ◌∙◌, subst, arith, ◌^◌, ◌⊎◌, inl, inr}
use Rattle.std.specs.List.{position_or_len}
use Rattle.std.specs.Prelude.{position, slice_get}
use Rattle.std.specs.Option.{option_map}
use Rattle.std.proofs.lemmas.Bool.Decides.{nat_tests}
use Rattle.std.proofs.lemmas.Grind.{common_steps}
use Rattle.std.proofs.lemmas.Option.{get_or_from_slice_get}
use Rattle.sp_base.specs.declared.need.Need.{Need}
use Rattle.sp_base.specs.declared.need.Need.TheVariants.{Bytes, Text}
use Rattle.sp_copy.specs.declared.part.Part.{Part}
use Rattle.sp_copy.specs.declared.fault.MemFault.{MemFault}
use Rattle.sp_copy.specs.declared.fault.MemFault.TheVariants.{Overlap}
use Rattle.sp_copy.specs.Parts.{root_part, share_address}
use Rattle.sp_copy.specs.Faults.{bounds_fault, fault_of, or_later, overlap_fault, overlap_of, own_fault}
use Rattle.sp_copy.specs.Reading.{NamesBytes, gives, given, read_from, read_of}
use Rattle.sp_copy.specs.Writing.{put_in, taker, takes, written, written_at}

abbrev pub In : Part → List Part → Type 0
In p [] = ⊥
In p (q ∷ qs) = (p ≡ q) ⊎ In p qs

in_of_get : (ps : List Part) (i : ℕ) (p : Part) → slice_get ps i ≡ Some p → In p ps
in_of_get [] i p h = absurd (cc)
in_of_get (q ∷ ps) zero p h = inl (cc)
in_of_get (q ∷ ps) (suc i) p h = inr (in_of_get ps i p h)

both_none : {X : Type 0} (x y : Option X) → or_later x y ≡ None → (x ≡ None) × (y ≡ None)
both_none None y h = (refl, h)
both_none (Some x) y h = absurd (cc)

-- where no part shares, none does
tested : (x : Part) (done : List Part) → length done ≤ position_or_len (share_address x) done → (q : Part) → In q done → share_address x q ≡ false
tested x [] h q i = absurd i
tested x (d ∷ done) h q i =
    elim (share_address x d) as (λ b. share_address x d ≡ b → 1 + length done ≤ cond (not b) (1 + position_or_len (share_address x) done) 0 → share_address x q ≡ false) [
      | true ↦ λ e h. absurd (omega (arith, h))
      | false ↦ λ e h. here e (λ j. tested x done (omega (arith, h)) q j) i
    ] refl (omega (arith, h))
  where
    here : share_address x d ≡ false → (In q done → share_address x q ≡ false) → (q ≡ d) ⊎ In q done → share_address x q ≡ false
    here e rec (inl s) = ap (share_address x) s ∙ e
    here e rec (inr i) = rec i

no_share : (x : Part) (done : List Part) → overlap_of done x ≡ None → (q : Part) → In q done → share_address x q ≡ false
no_share x done h q i = tested x done (past (nat_lt (position_or_len (share_address x) done) (length done)) refl h) q i
  where
    past : (b : Bool) → nat_lt (position_or_len (share_address x) done) (length done) ≡ b → option_map (λ i. Overlap i (length done)) (cond b (Some (position_or_len (share_address x) done)) None) ≡ None → length done ≤ position_or_len (share_address x) done
    past true e h = absurd (cc)
    past false e h = grind (arith, nat_tests)

in_front : (q x : Part) (done : List Part) → In q done → In q (done ++ x ∷ [])
in_front q x [] i = absurd i
in_front q x (d ∷ done) (inl s) = inl s
in_front q x (d ∷ done) (inr i) = inr (in_front q x done i)

in_last : (x : Part) (done : List Part) → In x (done ++ x ∷ [])
in_last x [] = inl refl
in_last x (d ∷ done) = inr (in_last x done)

later_apart : (done ps : List Part) → overlap_fault done ps ≡ None → (q p : Part) → In q done → In p ps → share_address p q ≡ false
later_apart done [] h q p i j = absurd j
later_apart done (x ∷ ps) h q p i (inl s) =
    let both = both_none (overlap_of done x) (overlap_fault (done ++ x ∷ []) ps) h in
    ap (λ (y : Part). share_address y q) s ∙ no_share x done both.0 q i
later_apart done (x ∷ ps) h q p i (inr j) =
    let both = both_none (overlap_of done x) (overlap_fault (done ++ x ∷ []) ps) h in
    later_apart (done ++ x ∷ []) ps both.1 q p (in_front q x done i) j

both_give : (need : Need) (p q : Part) → NamesBytes need → gives need p ≡ true → gives need q ≡ true → share_address p q ≡ false → ⊥
both_give (Bytes addr len) p q l a b s = grind (arith, nat_tests, common_steps)
both_give (Text addr most) p q l a b s = grind (arith, nat_tests, common_steps)

both_take : (addr len : ℕ) (p q : Part) → 0 < len → takes addr len p ≡ true → takes addr len q ≡ true → share_address p q ≡ false → ⊥
both_take addr len p q l a b s = grind (arith, nat_tests, common_steps)

rest_fault : (done ps : List Part) (x : Part) → overlap_fault done (x ∷ ps) ≡ None → overlap_fault (done ++ x ∷ []) ps ≡ None
rest_fault done ps x h = (both_none (overlap_of done x) (overlap_fault (done ++ x ∷ []) ps) h).1

only_from : (done ps : List Part) → overlap_fault done ps ≡ None → (need : Need) → NamesBytes need → (p : Part) → In p ps → gives need p ≡ true → read_from ps need ≡ given need p
only_from done [] h need n p i g = absurd i
only_from done (x ∷ ps) h need n p i g =
    elim (gives need x) as (λ b. gives need x ≡ b → cond b (given need x) (read_from ps need) ≡ given need p) [
      | true ↦ λ e. this e i
      | false ↦ λ e. rest e (λ j. only_from (done ++ x ∷ []) ps (rest_fault done ps x h) need n p j g) i
    ] refl
  where
    this : gives need x ≡ true → (p ≡ x) ⊎ In p ps → given need x ≡ given need p
    this e (inl s) = ap (given need) (sym s)
    this e (inr j) = absurd (both_give need p x n g e (later_apart (done ++ x ∷ []) ps (rest_fault done ps x h) x p (in_last x done) j))

    rest : gives need x ≡ false → (In p ps → read_from ps need ≡ given need p) → (p ≡ x) ⊎ In p ps → read_from ps need ≡ given need p
    rest e rec (inl s) = let f : true ≡ false = sym g ∙ ap (gives need) s ∙ e in absurd (cc)
    rest e rec (inr j) = rec j

-- no part lies where the root's text does
not_low : (i : ℕ) (ps : List Part) → bounds_fault i ps ≡ None → (p : Part) → In p ps → 4096 ≤ p.base
not_low i [] h p j = absurd j
not_low i (x ∷ ps) h p (inl s) = subst (λ (y : Part). 4096 ≤ y.base) (sym s) (high (both_none (own_fault i x) (bounds_fault (i + 1) ps) h).0)
  where
    high : own_fault i x ≡ None → 4096 ≤ x.base
    high e = grind (arith, nat_tests, common_steps)
not_low i (x ∷ ps) h p (inr j) = not_low (i + 1) ps (both_none (own_fault i x) (bounds_fault (i + 1) ps) h).1 p j

root_alone : (need : Need) (p : Part) → 4096 ≤ p.base → NamesBytes need → gives need p ≡ true → gives need root_part ≡ false
root_alone need p l n g = by_test (gives need root_part) refl
  where
    low : (m : Need) → NamesBytes m → gives m p ≡ true → gives m root_part ≡ true → ⊥
    low (Bytes addr len) n g e = grind (arith, nat_tests, common_steps)
    low (Text addr most) n g e = grind (arith, nat_tests, common_steps)

    by_test : (b : Bool) → gives need root_part ≡ b → gives need root_part ≡ false
    by_test true e = absurd (low need n g e)
    by_test false e = e

-- a need is read in whichever part gives it
pub only_reader : (ps : List Part) (need : Need) (i : ℕ) (p : Part) → fault_of ps ≡ None → NamesBytes need → slice_get (root_part ∷ ps) i ≡ Some p → gives need p ≡ true → read_of ps need ≡ given need p
only_reader ps need zero p h n at g =
    let is : root_part ≡ p = cc in
    let yes : gives need root_part ≡ true = ap (gives need) is ∙ g in
    ap (λ (b : Bool). cond b (given need root_part) (read_from ps need)) yes ∙ ap (given need) is
only_reader ps need (suc i) p h n at g =
    let both = both_none (bounds_fault 0 ps) (overlap_fault [] ps) h in
    let there = in_of_get ps i p at in
    let no = root_alone need p (not_low 0 ps both.0 p there) n g in
    ap (λ (b : Bool). cond b (given need root_part) (read_from ps need)) no ∙ only_from [] ps both.1 need n p there g

takes_from : (done ps : List Part) → overlap_fault done ps ≡ None → (addr len : ℕ) → 0 < len → (i : ℕ) (p : Part) → slice_get ps i ≡ Some p → takes addr len p ≡ true → taker addr len ps ≡ Some i
takes_from done [] h addr len n i p at t = absurd (cc)
takes_from done (x ∷ ps) h addr len n zero p at t =
    let is : x ≡ p = cc in
    ap (λ (b : Bool). cond b (Some 0) (option_map suc (taker addr len ps))) (ap (takes addr len) is ∙ t)
takes_from done (x ∷ ps) h addr len n (suc i) p at t =
    elim (takes addr len x) as (λ b. takes addr len x ≡ b → cond b (Some 0) (option_map suc (taker addr len ps)) ≡ Some (suc i)) [
      | true ↦ λ e. absurd (both_take addr len p x n t e (later_apart (done ++ x ∷ []) ps (rest_fault done ps x h) x p (in_last x done) (in_of_get ps i p at)))
      | false ↦ λ e. ap (option_map suc) (takes_from (done ++ x ∷ []) ps (rest_fault done ps x h) addr len n i p at t)
    ] refl

-- bytes are written into whichever part takes them
pub only_taker : (ps : List Part) (addr i b : ℕ) (bytes : List ℕ) (p : Part) → fault_of ps ≡ None → slice_get ps i ≡ Some p → takes addr (length (b ∷ bytes)) p ≡ true → written ps addr (b ∷ bytes) ≡ Some (set ps i (put_in p addr (b ∷ bytes)))
only_taker ps addr i b bytes p h at t =
    let both = both_none (bounds_fault 0 ps) (overlap_fault [] ps) h in
    ap (written_at ps addr (b ∷ bytes)) (takes_from [] ps both.1 addr (length (b ∷ bytes)) (omega arith) i p at t)
    ∙ ap (λ (q : Part). Some (set ps i (put_in q addr (b ∷ bytes)))) (get_or_from_slice_get ps i p root_part at)
