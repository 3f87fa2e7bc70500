-- A line with single spaces has the same words.
use Rattle.std.proofs.Common.{◌≡◌, ◌≢◌, ℕ, zero, suc, ◌+◌, ◌-◌, ◌<◌, ◌≤◌, ◌==◌, nat_lt, Bool, true, false, cond, List, [], ◌∷◌, ◌++◌, length, take, drop, refl, sym, ap, ◌∙◌, subst, arith, length-append, length-take}
use Rattle.std.proofs.lemmas.List.{append-nil, drop_all}
use Rattle.std.proofs.lemmas.Bool.Decides.{nat_tests}
use Rattle.std.proofs.lemmas.Grind.{common_steps}
use Rattle.std.proofs.lemmas.List.{take_at, drop_at, length-take-le, append_assoc, take_all}
use Rattle.script_words.specs.Words.{plain_len, quoted_len, word_len, words_from, words_of, joined}

plain_again : (bs rest : List ℕ) → plain_len (take (plain_len bs) bs ++ 32 ∷ rest) ≡ plain_len bs
plain_again [] rest = refl
plain_again (b ∷ bs) rest =
    elim (b == 32) as (λ c. (b == 32) ≡ c → plain_len (take (cond c 0 (1 + plain_len bs)) (b ∷ bs) ++ 32 ∷ rest) ≡ cond c 0 (1 + plain_len bs)) [
      | true ↦ λ e. refl
      | false ↦ λ e. ap (λ (n : ℕ). plain_len (take n (b ∷ bs) ++ 32 ∷ rest)) (one_more (plain_len bs)) ∙ ap (λ (c : Bool). cond c 0 (1 + plain_len (take (plain_len bs) bs ++ 32 ∷ rest))) e ∙ ap (λ (n : ℕ). 1 + n) (plain_again bs rest)
    ] refl
  where
    one_more : (n : ℕ) → 1 + n ≡ suc n
    one_more n = omega arith

plain_alone : (bs : List ℕ) → plain_len (take (plain_len bs) bs) ≡ plain_len bs
plain_alone [] = refl
plain_alone (b ∷ bs) =
    elim (b == 32) as (λ c. (b == 32) ≡ c → plain_len (take (cond c 0 (1 + plain_len bs)) (b ∷ bs)) ≡ cond c 0 (1 + plain_len bs)) [
      | true ↦ λ e. refl
      | false ↦ λ e. ap (λ (n : ℕ). plain_len (take n (b ∷ bs))) (one_more (plain_len bs)) ∙ ap (λ (c : Bool). cond c 0 (1 + plain_len (take (plain_len bs) bs))) e ∙ ap (λ (n : ℕ). 1 + n) (plain_alone bs)
    ] refl
  where
    one_more : (n : ℕ) → 1 + n ≡ suc n
    one_more n = omega arith

positive : (k : ℕ) → nat_lt 0 (suc k) ≡ true
positive k = grind (arith, nat_tests)

skipped : (k : ℕ) (bs : List ℕ) → words_from k bs ≡ words_from 0 (drop k bs)
skipped zero bs = refl
skipped (suc k) [] = refl
skipped (suc k) (b ∷ bs) =
    let less : suc k - 1 ≡ k = omega arith in
    rw (positive k) (ap (λ (n : ℕ). words_from n bs) less ∙ skipped k bs)

quoted_again : (skip : ℕ) (bs rest : List ℕ) → quoted_len skip bs < length bs → quoted_len skip (take (quoted_len skip bs) bs ++ 32 ∷ rest) ≡ quoted_len skip bs
quoted_again skip [] rest h = absurd (omega arith)
quoted_again skip (b ∷ bs) rest h =
    elim (nat_lt 0 skip) as (λ c. nat_lt 0 skip ≡ c → cond c (1 + quoted_len (skip - 1) bs) (cond (b == 34) (1 + plain_len bs) (1 + quoted_len (cond (b == 92) 1 0) bs)) < suc (length bs) → quoted_len skip (take (cond c (1 + quoted_len (skip - 1) bs) (cond (b == 34) (1 + plain_len bs) (1 + quoted_len (cond (b == 92) 1 0) bs))) (b ∷ bs) ++ 32 ∷ rest) ≡ cond c (1 + quoted_len (skip - 1) bs) (cond (b == 34) (1 + plain_len bs) (1 + quoted_len (cond (b == 92) 1 0) bs))) [
      | true ↦ λ e h. ap (λ (n : ℕ). quoted_len skip (take n (b ∷ bs) ++ 32 ∷ rest)) (one_more (quoted_len (skip - 1) bs)) ∙ skip_step e (quoted_again (skip - 1) bs rest (omega (arith, h)))
      | false ↦ λ e h. elim (b == 34) as (λ d. (b == 34) ≡ d → cond d (1 + plain_len bs) (1 + quoted_len (cond (b == 92) 1 0) bs) < suc (length bs) → quoted_len skip (take (cond d (1 + plain_len bs) (1 + quoted_len (cond (b == 92) 1 0) bs)) (b ∷ bs) ++ 32 ∷ rest) ≡ cond d (1 + plain_len bs) (1 + quoted_len (cond (b == 92) 1 0) bs)) [
        | true ↦ λ d h. ap (λ (n : ℕ). quoted_len skip (take n (b ∷ bs) ++ 32 ∷ rest)) (one_more (plain_len bs)) ∙ end_step e d (plain_again bs rest)
        | false ↦ λ d h. ap (λ (n : ℕ). quoted_len skip (take n (b ∷ bs) ++ 32 ∷ rest)) (one_more (quoted_len (cond (b == 92) 1 0) bs)) ∙ more_step e d (quoted_again (cond (b == 92) 1 0) bs rest (omega (arith, h)))
      ] refl h
    ] refl h
  where
    one_more : (n : ℕ) → 1 + n ≡ suc n
    one_more n = omega arith

    skip_step : nat_lt 0 skip ≡ true → quoted_len (skip - 1) (take (quoted_len (skip - 1) bs) bs ++ 32 ∷ rest) ≡ quoted_len (skip - 1) bs → quoted_len skip (b ∷ (take (quoted_len (skip - 1) bs) bs ++ 32 ∷ rest)) ≡ 1 + quoted_len (skip - 1) bs
    skip_step e r = rw e (ap (λ (n : ℕ). 1 + n) r)

    end_step : nat_lt 0 skip ≡ false → (b == 34) ≡ true → plain_len (take (plain_len bs) bs ++ 32 ∷ rest) ≡ plain_len bs → quoted_len skip (b ∷ (take (plain_len bs) bs ++ 32 ∷ rest)) ≡ 1 + plain_len bs
    end_step e d r = rw (e, d) (ap (λ (n : ℕ). 1 + n) r)

    more_step : nat_lt 0 skip ≡ false → (b == 34) ≡ false → quoted_len (cond (b == 92) 1 0) (take (quoted_len (cond (b == 92) 1 0) bs) bs ++ 32 ∷ rest) ≡ quoted_len (cond (b == 92) 1 0) bs → quoted_len skip (b ∷ (take (quoted_len (cond (b == 92) 1 0) bs) bs ++ 32 ∷ rest)) ≡ 1 + quoted_len (cond (b == 92) 1 0) bs
    more_step e d r = rw (e, d) (ap (λ (n : ℕ). 1 + n) r)

quoted_alone : (skip : ℕ) (bs : List ℕ) → quoted_len skip (take (quoted_len skip bs) bs) ≡ quoted_len skip bs
quoted_alone skip [] = refl
quoted_alone skip (b ∷ bs) =
    elim (nat_lt 0 skip) as (λ c. nat_lt 0 skip ≡ c → quoted_len skip (take (cond c (1 + quoted_len (skip - 1) bs) (cond (b == 34) (1 + plain_len bs) (1 + quoted_len (cond (b == 92) 1 0) bs))) (b ∷ bs)) ≡ cond c (1 + quoted_len (skip - 1) bs) (cond (b == 34) (1 + plain_len bs) (1 + quoted_len (cond (b == 92) 1 0) bs))) [
      | true ↦ λ e. ap (λ (n : ℕ). quoted_len skip (take n (b ∷ bs))) (one_more (quoted_len (skip - 1) bs)) ∙ skip_step e (quoted_alone (skip - 1) bs)
      | false ↦ λ e. elim (b == 34) as (λ d. (b == 34) ≡ d → quoted_len skip (take (cond d (1 + plain_len bs) (1 + quoted_len (cond (b == 92) 1 0) bs)) (b ∷ bs)) ≡ cond d (1 + plain_len bs) (1 + quoted_len (cond (b == 92) 1 0) bs)) [
        | true ↦ λ d. ap (λ (n : ℕ). quoted_len skip (take n (b ∷ bs))) (one_more (plain_len bs)) ∙ end_step e d (plain_alone bs)
        | false ↦ λ d. ap (λ (n : ℕ). quoted_len skip (take n (b ∷ bs))) (one_more (quoted_len (cond (b == 92) 1 0) bs)) ∙ more_step e d (quoted_alone (cond (b == 92) 1 0) bs)
      ] refl
    ] refl
  where
    one_more : (n : ℕ) → 1 + n ≡ suc n
    one_more n = omega arith

    skip_step : nat_lt 0 skip ≡ true → quoted_len (skip - 1) (take (quoted_len (skip - 1) bs) bs) ≡ quoted_len (skip - 1) bs → quoted_len skip (b ∷ (take (quoted_len (skip - 1) bs) bs)) ≡ 1 + quoted_len (skip - 1) bs
    skip_step e r = rw e (ap (λ (n : ℕ). 1 + n) r)

    end_step : nat_lt 0 skip ≡ false → (b == 34) ≡ true → plain_len (take (plain_len bs) bs) ≡ plain_len bs → quoted_len skip (b ∷ (take (plain_len bs) bs)) ≡ 1 + plain_len bs
    end_step e d r = rw (e, d) (ap (λ (n : ℕ). 1 + n) r)

    more_step : nat_lt 0 skip ≡ false → (b == 34) ≡ false → quoted_len (cond (b == 92) 1 0) (take (quoted_len (cond (b == 92) 1 0) bs) bs) ≡ quoted_len (cond (b == 92) 1 0) bs → quoted_len skip (b ∷ (take (quoted_len (cond (b == 92) 1 0) bs) bs)) ≡ 1 + quoted_len (cond (b == 92) 1 0) bs
    more_step e d r = rw (e, d) (ap (λ (n : ℕ). 1 + n) r)

plain_le : (bs : List ℕ) → plain_len bs ≤ length bs
plain_le [] = omega arith
plain_le (b ∷ bs) = let r = plain_le bs in elim (b == 32) as (λ c. cond c 0 (1 + plain_len bs) ≤ suc (length bs)) [ true ↦ omega arith | false ↦ omega (arith, r) ]

quoted_le : (skip : ℕ) (bs : List ℕ) → quoted_len skip bs ≤ length bs
quoted_le skip [] = omega arith
quoted_le skip (b ∷ bs) =
    let r1 = quoted_le (skip - 1) bs in
    let r2 = plain_le bs in
    let r3 = quoted_le (cond (b == 92) 1 0) bs in
    elim (nat_lt 0 skip) as (λ c. cond c (1 + quoted_len (skip - 1) bs) (cond (b == 34) (1 + plain_len bs) (1 + quoted_len (cond (b == 92) 1 0) bs)) ≤ suc (length bs)) [
      | true ↦ omega (arith, r1)
      | false ↦ elim (b == 34) as (λ d. cond d (1 + plain_len bs) (1 + quoted_len (cond (b == 92) 1 0) bs) ≤ suc (length bs)) [ true ↦ omega (arith, r2) | false ↦ omega (arith, r3) ]
    ]

word_le : (b : ℕ) (bs : List ℕ) → word_len b bs ≤ length bs
unfolding word_len
word_le b bs = elim (b == 34) as (λ c. cond c (quoted_len 0 bs) (plain_len bs) ≤ length bs) [ true ↦ quoted_le 0 bs | false ↦ plain_le bs ]

word_alone : (b : ℕ) (bs : List ℕ) → word_len b (take (word_len b bs) bs) ≡ word_len b bs
unfolding word_len
word_alone b bs = elim (b == 34) as (λ c. cond c (quoted_len 0 (take (cond c (quoted_len 0 bs) (plain_len bs)) bs)) (plain_len (take (cond c (quoted_len 0 bs) (plain_len bs)) bs)) ≡ cond c (quoted_len 0 bs) (plain_len bs)) [ true ↦ quoted_alone 0 bs | false ↦ plain_alone bs ]

word_again : (b : ℕ) (bs rest : List ℕ) → word_len b bs < length bs → word_len b (take (word_len b bs) bs ++ 32 ∷ rest) ≡ word_len b bs
unfolding word_len
word_again b bs rest h = elim (b == 34) as (λ c. cond c (quoted_len 0 bs) (plain_len bs) < length bs → cond c (quoted_len 0 (take (cond c (quoted_len 0 bs) (plain_len bs)) bs ++ 32 ∷ rest)) (plain_len (take (cond c (quoted_len 0 bs) (plain_len bs)) bs ++ 32 ∷ rest)) ≡ cond c (quoted_len 0 bs) (plain_len bs)) [ true ↦ λ h. quoted_again 0 bs rest h | false ↦ λ h. plain_again bs rest ] h

past_end : (n : ℕ) (bs : List ℕ) → length bs ≤ n → words_from n bs ≡ []
past_end n bs h = skipped n bs ∙ ap (words_from 0) (drop_all n bs h)

-- a word, a space and more
front_word : (b : ℕ) (w rest : List ℕ) → (b == 32) ≡ false → word_len b (w ++ 32 ∷ rest) ≡ length w → words_of (b ∷ (w ++ 32 ∷ rest)) ≡ (b ∷ w) ∷ words_of rest
front_word b w rest e h =
    rw (e, h) (λ j. (b ∷ take_at w (32 ∷ rest) (length w) refl j) ∷ (skipped (length w) (w ++ 32 ∷ rest) ∙ ap (words_from 0) (drop_at w (32 ∷ rest) (length w) refl)) j)

lone_word : (b : ℕ) (w : List ℕ) → (b == 32) ≡ false → word_len b w ≡ length w → words_of (b ∷ w) ≡ (b ∷ w) ∷ []
lone_word b w e h = rw (e, h) (λ j. (b ∷ take_all (length w) w (omega arith) j) ∷ past_end (length w) w (omega arith) j)

inside : (b : ℕ) (bs : List ℕ) (ws : List (List ℕ)) → words_from (word_len b bs) bs ≡ ws → (ws ≡ [] → ⊥) → word_len b bs < length bs
inside b bs ws is full = at (nat_lt (word_len b bs) (length bs)) refl
  where
    at : (t : Bool) → nat_lt (word_len b bs) (length bs) ≡ t → word_len b bs < length bs
    at true e = grind (arith, nat_tests)
    at false e = let past : length bs ≤ word_len b bs = grind (arith, nat_tests) in absurd (full (sym is ∙ past_end (word_len b bs) bs past))

cons_nil : (v : List ℕ) (ws : List (List ℕ)) → v ∷ ws ≡ [] → ⊥
cons_nil v ws f = cc

rejoined : (skip : ℕ) (bs : List ℕ) → words_of (joined (words_from skip bs)) ≡ words_from skip bs
rejoined skip [] = refl
rejoined skip (b ∷ bs) =
    elim (nat_lt 0 skip) as (λ c. words_of (joined (cond c (words_from (skip - 1) bs) (cond (b == 32) (words_from 0 bs) ((b ∷ take (word_len b bs) bs) ∷ words_from (word_len b bs) bs)))) ≡ cond c (words_from (skip - 1) bs) (cond (b == 32) (words_from 0 bs) ((b ∷ take (word_len b bs) bs) ∷ words_from (word_len b bs) bs))) [
      | true ↦ rejoined (skip - 1) bs
      | false ↦ elim (b == 32) as (λ d. (b == 32) ≡ d → words_of (joined (cond d (words_from 0 bs) ((b ∷ take (word_len b bs) bs) ∷ words_from (word_len b bs) bs))) ≡ cond d (words_from 0 bs) ((b ∷ take (word_len b bs) bs) ∷ words_from (word_len b bs) bs)) [
        | true ↦ λ e. rejoined 0 bs
        | false ↦ λ e. with_more e (words_from (word_len b bs) bs) refl (rejoined (word_len b bs) bs)
      ] refl
    ]
  where
    n : ℕ
    n = word_len b bs

    w : List ℕ
    w = take (word_len b bs) bs

    size : length (take (word_len b bs) bs) ≡ word_len b bs
    size = length-take-le (word_len b bs) bs (word_le b bs)

    more_words : (b == 32) ≡ false → (v : List ℕ) (ws : List (List ℕ)) → words_of (joined (v ∷ ws)) ≡ v ∷ ws → word_len b bs < length bs → words_of (joined ((b ∷ take (word_len b bs) bs) ∷ v ∷ ws)) ≡ (b ∷ take (word_len b bs) bs) ∷ v ∷ ws
    more_words e v ws again l = front_word b (take (word_len b bs) bs) (joined (v ∷ ws)) e (word_again b bs (joined (v ∷ ws)) l ∙ sym size) ∙ ap (λ (x : List (List ℕ)). (b ∷ take (word_len b bs) bs) ∷ x) again

    with_more : (b == 32) ≡ false → (ws : List (List ℕ)) → words_from (word_len b bs) bs ≡ ws → words_of (joined ws) ≡ ws → words_of (joined ((b ∷ take (word_len b bs) bs) ∷ ws)) ≡ (b ∷ take (word_len b bs) bs) ∷ ws
    with_more e [] is again = ap words_of (append-nil (b ∷ take (word_len b bs) bs)) ∙ lone_word b (take (word_len b bs) bs) e (word_alone b bs ∙ sym size)
    with_more e (v ∷ ws) is again = more_words e v ws again (inside b bs (v ∷ ws) is (λ f. cons_nil v ws f))

-- a line and its words with single spaces have the same words
pub joined_again : (line : List ℕ) → words_of (joined (words_of line)) ≡ words_of line
joined_again line = rejoined 0 line
