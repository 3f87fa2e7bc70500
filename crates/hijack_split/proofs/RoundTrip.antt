-- A view's text is read as the view.
use Rattle.std.proofs.Common.{◌≡◌, ◌≢◌, ℕ, zero, suc, ◌+◌, ◌-◌, ◌%◌, ◌^◌, ◌<◌, ◌≤◌, Bool, true, false, cond, List, [], ◌∷◌, ◌++◌, length, take, drop, ◌⊎◌, Option, None, Some, refl, sym, ap, ◌∙◌, arith, append_assoc, length-append, inl, inr}
use Rattle.std.proofs.lemmas.List.{append-nil}
use Rattle.std.specs.Prelude.{◌==◌, ◌&&◌, not, slice_index, slice_set, replicate}
use Rattle.std.specs.Fmt.{decimal}
use Rattle.std.specs.List.{AllByRecursion, slice_split, onto_first}
use Rattle.std.proofs.lemmas.Bool.Decides.{nat_tests}
use Rattle.std.proofs.lemmas.Grind.{common_steps}
use Rattle.std.proofs.lemmas.Fmt.{decimal_digit, decimal_by_steps}
use Rattle.script_words.proofs.NumberLaws.{decimal_read}
use Rattle.script_words.specs.Numbers.{digit_in, number_of, numeral}
use Rattle.script_words.specs.Pieces.{pieces_of}
use Rattle.script_words.specs.Steps.{◌>>=◌}
use Rattle.hijack_rules.specs.Offsets.{as_offset}
use Rattle.hijack_rules.specs.declared.names.SideName.{SideName}
use Rattle.hijack_rules.specs.declared.names.SideName.TheVariants as side
use Rattle.hijack_rules.specs.declared.offset.TheConstants.{HIGHEST_OFFSET, LOWEST_OFFSET}
use Rattle.hijack_split.specs.Text.{AreRumps, IsSpelled, alias_of, flag_text, plain_number, plain_offset, row_by, row_of, row_set, row_text, rows_set, rows_text, side_of, side_text, view_by, view_of, view_text}
use Rattle.hijack_split.specs.View.{Naming}
use Rattle.hijack_split.specs.declared.change.Alias.{Alias}

-- digits, some, and no leading zero
record IsPlain (n : ℕ) (ds : List ℕ) : Type 0 where
  digits : AllByRecursion (λ c. (48 ≤ c) × (c ≤ 57)) ds
  some : 0 < length ds
  lead : 0 < n → slice_index ds 0 ≢ 48

digits_push : (ds : List ℕ) (c : ℕ) → AllByRecursion (λ c. (48 ≤ c) × (c ≤ 57)) ds → (48 ≤ c) × (c ≤ 57) → AllByRecursion (λ c. (48 ≤ c) × (c ≤ 57)) (ds ++ c ∷ [])
digits_push [] c d p = (p, tt)
digits_push (e ∷ es) c d p = (d.0, digits_push es c d.1 p)

lead_push : (ds : List ℕ) (c : ℕ) → 0 < length ds → slice_index (ds ++ c ∷ []) 0 ≡ slice_index ds 0
lead_push [] c h = absurd (omega (arith, h))
lead_push (e ∷ es) c h = refl

plain_digits : (n : ℕ) → n < 2 ^ 64 → IsPlain n (decimal n)
plain_digits = decimal_by_steps IsPlain
    (λ n h. record { digits = ((omega arith, omega (arith, h)), tt); some = omega arith; lead = λ p e. omega (arith, p, e) })
    (λ n ds h p. record {
      digits = digits_push ds (48 + n % 10) p.digits (omega arith, omega arith);
      some = let l = p.some in grind (arith, length-append, l);
      lead = λ q e. p.lead (omega (arith, h)) (sym (lead_push ds (48 + n % 10) p.some) ∙ e);
    })

-- digits have no `x`
no_x : (ds : List ℕ) → AllByRecursion (λ c. (48 ≤ c) × (c ≤ 57)) ds → ((slice_index ds 0 == 48) && (slice_index ds 1 == 120)) ≡ false
no_x [] d = refl
no_x (c ∷ []) d = grind (arith, common_steps)
no_x (c ∷ e ∷ cs) d = let high = d.1.0.1 in grind (arith, nat_tests, common_steps, high)

-- a printed number is read again
numeral_read : (n : ℕ) → n < 2 ^ 64 → numeral 10 (decimal n) ≡ Some n
unfolding number_of
numeral_read n h =
    sym (ap (λ b. cond b (numeral 16 (drop 2 (decimal n))) (numeral 10 (decimal n))) (no_x (decimal n) (plain_digits n h).digits))
    ∙ decimal_read n h

no_zero : (c : ℕ) (cs : List ℕ) → c ≢ 48 → ((c == 48) && not (length cs == 0)) ≡ false
no_zero c cs h = grind (arith, nat_tests, common_steps)

read_plain : (n : ℕ) (ds : List ℕ) → 0 < n → IsPlain n ds → numeral 10 ds ≡ Some n → plain_number ds ≡ Some n
unfolding plain_number
read_plain n [] q p h = let some = p.some in absurd (omega (arith, some))
read_plain n (c ∷ cs) q p h = ap (λ b. cond b None (numeral 10 (c ∷ cs))) (no_zero c cs (p.lead q)) ∙ h

zero_read : plain_number (48 ∷ []) ≡ Some 0
unfolding plain_number numeral digit_in
zero_read = refl

number_read : (n : ℕ) → n < 2 ^ 64 → plain_number (decimal n) ≡ Some n
number_read zero h = ap plain_number (decimal_digit 0 (omega arith)) ∙ zero_read
number_read (suc n) h = read_plain (suc n) (decimal (suc n)) (omega arith) (plain_digits (suc n) h) (numeral_read (suc n) h)

-- bytes without a separator
abbrev IsFree : ℕ → List ℕ → Type 0
IsFree sep bytes = AllByRecursion (λ b. b ≢ sep) bytes

digits_free : (sep : ℕ) (ds : List ℕ) → sep < 48 ⊎ (57 < sep) → AllByRecursion (λ c. (48 ≤ c) × (c ≤ 57)) ds → IsFree sep ds
digits_free sep [] h d = tt
digits_free sep (c ∷ cs) h d = ((λ e. let low = d.0.0 in let high = d.0.1 in omega (arith, h, low, high, e)), digits_free sep cs h d.1)

free_both : (sep : ℕ) (xs ys : List ℕ) → IsFree sep xs → IsFree sep ys → IsFree sep (xs ++ ys)
free_both sep [] ys f g = g
free_both sep (x ∷ xs) ys f g = (f.0, free_both sep xs ys f.1 g)

differs : (x sep : ℕ) → x ≢ sep → (x == sep) ≡ false
differs x sep h = grind (arith, nat_tests)

same : (x : ℕ) → (x == x) ≡ true
same x = grind (arith, nat_tests)

front_split : (sep : ℕ) (xs ys : List ℕ) → IsFree sep xs → slice_split (λ b. b == sep) (xs ++ sep ∷ ys) ≡ xs ∷ slice_split (λ b. b == sep) ys
front_split sep [] ys f = ap (λ b. cond b ([] ∷ slice_split (λ b. b == sep) ys) (onto_first sep (slice_split (λ b. b == sep) ys))) (same sep)
front_split sep (x ∷ xs) ys f =
    ap (λ b. cond b ([] ∷ slice_split (λ b. b == sep) (xs ++ sep ∷ ys)) (onto_first x (slice_split (λ b. b == sep) (xs ++ sep ∷ ys)))) (differs x sep f.0)
    ∙ ap (onto_first x) (front_split sep xs ys f.1)

last_split : (sep : ℕ) (xs : List ℕ) → IsFree sep xs → slice_split (λ b. b == sep) xs ≡ xs ∷ []
last_split sep [] f = refl
last_split sep (x ∷ xs) f =
    ap (λ b. cond b ([] ∷ slice_split (λ b. b == sep) xs) (onto_first x (slice_split (λ b. b == sep) xs))) (differs x sep f.0)
    ∙ ap (onto_first x) (last_split sep xs f.1)

pub pieces_front : (sep : ℕ) (xs ys : List ℕ) → IsFree sep xs → pieces_of sep (xs ++ sep ∷ ys) ≡ xs ∷ pieces_of sep ys
unfolding pieces_of
pieces_front sep xs ys f = front_split sep xs ys f

pub pieces_last : (sep : ℕ) (xs : List ℕ) → IsFree sep xs → pieces_of sep xs ≡ xs ∷ []
unfolding pieces_of
pieces_last sep xs f = last_split sep xs f

-- a row behind its comma
body : ℕ → Alias → List ℕ
body g a = decimal g ++ 61 ∷ (decimal a.rump ++ flag_text a.cloexec)

bodies : ℕ → List (Option Alias) → List (List ℕ)
bodies g [] = []
bodies g (None ∷ aliases) = bodies (g + 1) aliases
bodies g (Some a ∷ aliases) = body g a ∷ bodies (g + 1) aliases

row_is : (g : ℕ) (a : Alias) → row_text g a ≡ 44 ∷ body g a
unfolding row_text body
row_is g a = ap (λ xs. 44 ∷ xs) (append_assoc (decimal g ++ 61 ∷ []) (decimal a.rump) (flag_text a.cloexec) ∙ append_assoc (decimal g) (61 ∷ []) (decimal a.rump ++ flag_text a.cloexec))

flag_free : (sep : ℕ) (flag : Bool) → sep ≢ 43 → IsFree sep (flag_text flag)
flag_free sep true h = ((λ e. h (sym e)), tt)
flag_free sep false h = tt

number_free : (sep n : ℕ) → sep < 48 ⊎ (57 < sep) → n < 2 ^ 64 → IsFree sep (decimal n)
number_free sep n h small = digits_free sep (decimal n) h (plain_digits n small).digits

body_free : (g : ℕ) (a : Alias) → g < 2 ^ 64 → a.rump < 2 ^ 64 → IsFree 44 (body g a)
unfolding body
body_free g a p q =
    free_both 44 (decimal g) (61 ∷ (decimal a.rump ++ flag_text a.cloexec)) (number_free 44 g (inl (omega arith)) p)
    ((λ e. omega (arith, e)), free_both 44 (decimal a.rump) (flag_text a.cloexec) (number_free 44 a.rump (inl (omega arith)) q) (flag_free 44 a.cloexec (λ e. omega (arith, e))))

-- the pieces of a text with rows behind it
rows_pieces : (xs : List ℕ) (g : ℕ) (aliases : List (Option Alias)) → IsFree 44 xs → g + length aliases < 2 ^ 64 → AreRumps aliases → pieces_of 44 (xs ++ rows_text g aliases) ≡ xs ∷ bodies g aliases
unfolding bodies
rows_pieces xs g [] f few r = ap (pieces_of 44) (append-nil xs) ∙ pieces_last 44 xs f
rows_pieces xs g (None ∷ aliases) f few r = rows_pieces xs (g + 1) aliases f (omega (arith, few)) r
rows_pieces xs g (Some a ∷ aliases) f few r =
    ap (λ row. pieces_of 44 (xs ++ (row ++ rows_text (g + 1) aliases))) (row_is g a)
    ∙ pieces_front 44 xs (body g a ++ rows_text (g + 1) aliases) f
    ∙ ap (λ ps. xs ∷ ps) (rows_pieces (body g a) (g + 1) aliases (body_free g a (omega (arith, few)) r.0) (omega (arith, few)) r.1)

-- the last byte, and what stands before it
last_of : (xs : List ℕ) (y : ℕ) → slice_index (xs ++ y ∷ []) (length (xs ++ y ∷ []) - 1) ≡ y
last_of [] y = refl
last_of (x ∷ xs) y = at (xs ++ y ∷ []) (grind (arith, length-append)) ∙ last_of xs y
  where
    at : (zs : List ℕ) → 0 < length zs → slice_index (x ∷ zs) (length (x ∷ zs) - 1) ≡ slice_index zs (length zs - 1)
    at [] h = absurd (omega (arith, h))
    at (z ∷ zs) h = let e : length (x ∷ z ∷ zs) - 1 ≡ suc (length (z ∷ zs) - 1) = omega arith in ap (λ n. slice_index (x ∷ z ∷ zs) n) e

front_of : (xs : List ℕ) (y : ℕ) → take (length (xs ++ y ∷ []) - 1) (xs ++ y ∷ []) ≡ xs
front_of [] y = refl
front_of (x ∷ xs) y = at (xs ++ y ∷ []) (grind (arith, length-append)) ∙ ap (λ zs. x ∷ zs) (front_of xs y)
  where
    at : (zs : List ℕ) → 0 < length zs → take (length (x ∷ zs) - 1) (x ∷ zs) ≡ x ∷ take (length zs - 1) zs
    at [] h = absurd (omega (arith, h))
    at (z ∷ zs) h = let e : length (x ∷ z ∷ zs) - 1 ≡ suc (length (z ∷ zs) - 1) = omega arith in ap (λ n. take n (x ∷ z ∷ zs)) e

no_plus : (ds : List ℕ) (i : ℕ) → i < length ds → AllByRecursion (λ c. (48 ≤ c) × (c ≤ 57)) ds → (slice_index ds i == 43) ≡ false
no_plus [] i h d = absurd (omega (arith, h))
no_plus (c ∷ cs) zero h d = differs c 43 (λ e. let low = d.0.0 in omega (arith, low, e))
no_plus (c ∷ cs) (suc i) h d = no_plus cs i (omega (arith, h)) d.1

flagged : Bool → Option ℕ → Option Alias
flagged flag o = o >>= (λ r. Some (record { rump = r; cloexec = flag }))

marked_read : (r : ℕ) → r < 2 ^ 64 → alias_of (decimal r ++ 43 ∷ []) ≡ Some (record { rump = r; cloexec = true })
unfolding alias_of flagged
marked_read r small =
    ap (λ b. cond b (flagged true (plain_number (take (length (decimal r ++ 43 ∷ []) - 1) (decimal r ++ 43 ∷ [])))) (flagged false (plain_number (decimal r ++ 43 ∷ [])))) (ap (λ c. c == 43) (last_of (decimal r) 43))
    ∙ ap (λ w. flagged true (plain_number w)) (front_of (decimal r) 43)
    ∙ ap (flagged true) (number_read r small)

clear_read : (r : ℕ) → r < 2 ^ 64 → alias_of (decimal r ++ []) ≡ Some (record { rump = r; cloexec = false })
unfolding alias_of flagged
clear_read r small =
    let p = plain_digits r small in
    let some = p.some in
    ap alias_of (append-nil (decimal r))
    ∙ ap (λ b. cond b (flagged true (plain_number (take (length (decimal r) - 1) (decimal r)))) (flagged false (plain_number (decimal r)))) (no_plus (decimal r) (length (decimal r) - 1) (omega (arith, some)) p.digits)
    ∙ ap (flagged false) (number_read r small)

alias_read : (r : ℕ) (flag : Bool) → r < 2 ^ 64 → alias_of (decimal r ++ flag_text flag) ≡ Some (record { rump = r; cloexec = flag })
alias_read r true small = marked_read r small
alias_read r false small = clear_read r small

row_read : (g : ℕ) (a : Alias) → g < 2 ^ 64 → a.rump < 2 ^ 64 → row_of (body g a) ≡ Some (g, a)
unfolding row_of body
row_read g a p q =
    ap row_by (pieces_front 61 (decimal g) (decimal a.rump ++ flag_text a.cloexec) (number_free 61 g (inr (omega arith)) p)
    ∙ ap (λ ps. decimal g ∷ ps) (pieces_last 61 (decimal a.rump ++ flag_text a.cloexec) (free_both 61 (decimal a.rump) (flag_text a.cloexec) (number_free 61 a.rump (inr (omega arith)) q) (flag_free 61 a.cloexec (λ e. omega (arith, e))))))
    ∙ ap (λ (o : Option ℕ). o >>= (λ fd. alias_of (decimal a.rump ++ flag_text a.cloexec) >>= (λ alias. Some (fd, alias)))) (number_read g p)
    ∙ ap (λ (o : Option Alias). o >>= (λ alias. Some (g, alias))) (alias_read a.rump a.cloexec q)

-- the rows of a table, read into an empty one behind a front
none_at : (front : List (Option Alias)) (rest : List (Option Alias)) (x : Option Alias) → slice_set (front ++ None ∷ rest) (length front) x ≡ front ++ x ∷ rest
none_at [] rest x = refl
none_at (f ∷ front) rest x = ap (λ t. f ∷ t) (none_at front rest x)

in_range : (low g : ℕ) (t : List (Option Alias)) (a : Alias) → low ≤ g → g < 32 → row_set low t (Some (g, a)) ≡ Some (g + 1, slice_set t g (Some a))
in_range low g t a p q = grind (arith, nat_tests, common_steps)

rows_read : (low : ℕ) (front aliases : List (Option Alias)) → low ≤ length front → length front + length aliases ≤ 32 → AreRumps aliases
    → rows_set low (front ++ replicate (length aliases) None) (bodies (length front) aliases) ≡ Some (front ++ aliases)
unfolding bodies
rows_read low front [] p q r = refl
rows_read low front (None ∷ aliases) p q r =
    let count : length (front ++ None ∷ []) ≡ length front + 1 = grind (arith, length-append) in
    let table : front ++ None ∷ replicate (length aliases) None ≡ (front ++ None ∷ []) ++ replicate (length aliases) None = sym (append_assoc front (None ∷ []) (replicate (length aliases) None)) in
    ap (λ t. rows_set low t (bodies (length front + 1) aliases)) table
    ∙ ap (λ n. rows_set low ((front ++ None ∷ []) ++ replicate (length aliases) None) (bodies n aliases)) (sym count)
    ∙ rows_read low (front ++ None ∷ []) aliases (omega (arith, count, p)) (omega (arith, count, q)) r
    ∙ ap (λ (t : List (Option Alias)). Some t) (append_assoc front (None ∷ []) aliases)
rows_read low front (Some a ∷ aliases) p q r =
    let count : length (front ++ Some a ∷ []) ≡ length front + 1 = grind (arith, length-append) in
    let table : front ++ Some a ∷ replicate (length aliases) None ≡ (front ++ Some a ∷ []) ++ replicate (length aliases) None = sym (append_assoc front (Some a ∷ []) (replicate (length aliases) None)) in
    ap (λ row. row_set low (front ++ None ∷ replicate (length aliases) None) row >>= (λ step. rows_set step.0 step.1 (bodies (length front + 1) aliases))) (row_read (length front) a (omega (arith, q)) r.0)
    ∙ ap (λ (o : Option (ℕ × List (Option Alias))). o >>= (λ step. rows_set step.0 step.1 (bodies (length front + 1) aliases))) (in_range low (length front) (front ++ None ∷ replicate (length aliases) None) a p (omega (arith, q)))
    ∙ ap (λ t. rows_set (length front + 1) t (bodies (length front + 1) aliases)) (none_at front (replicate (length aliases) None) (Some a) ∙ table)
    ∙ ap (λ n. rows_set n ((front ++ Some a ∷ []) ++ replicate (length aliases) None) (bodies n aliases)) (sym count)
    ∙ rows_read (length (front ++ Some a ∷ [])) (front ++ Some a ∷ []) aliases (omega arith) (omega (arith, count, q)) r.1
    ∙ ap (λ (t : List (Option Alias)). Some t) (append_assoc front (Some a ∷ []) aliases)

offset_read : (n : ℕ) → LOWEST_OFFSET ≤ n → n ≤ HIGHEST_OFFSET → plain_offset (decimal n) ≡ Some n
unfolding plain_offset
offset_read n p q =
    ap (λ (o : Option ℕ). o >>= as_offset) (number_read n (omega (arith, q)))
    ∙ grind (arith, nat_tests, common_steps)

side_read : (side : SideName) → side_of (side_text side) ≡ Some side
unfolding side_of
side_read side.Rump = refl
side_read side.Host = refl

side_free : (side : SideName) → IsFree 44 (side_text side)
side_free side.Rump = ((λ e. omega (arith, e)), ((λ e. omega (arith, e)), ((λ e. omega (arith, e)), ((λ e. omega (arith, e)), tt))))
side_free side.Host = ((λ e. omega (arith, e)), ((λ e. omega (arith, e)), ((λ e. omega (arith, e)), ((λ e. omega (arith, e)), tt))))

pub text_read : (v : Naming) → IsSpelled v → view_of (view_text v) ≡ Some v
unfolding view_text
text_read v h =
    let o = h.high in
    let full = h.full in
    let rows : List ℕ = rows_text 0 v.aliases in
    ap view_by (
    ap (pieces_of 44) (append_assoc (decimal v.offset ++ 44 ∷ []) (side_text v.cwd) rows ∙ append_assoc (decimal v.offset) (44 ∷ []) (side_text v.cwd ++ rows))
    ∙ pieces_front 44 (decimal v.offset) (side_text v.cwd ++ rows) (number_free 44 v.offset (inl (omega arith)) (omega (arith, o)))
    ∙ ap (λ ps. decimal v.offset ∷ ps) (rows_pieces (side_text v.cwd) 0 v.aliases (side_free v.cwd) (omega (arith, full)) h.rumps))
    ∙ ap (λ (o : Option ℕ). o >>= (λ n. side_of (side_text v.cwd) >>= (λ side. rows_set 0 (replicate 32 None) (bodies 0 v.aliases) >>= (λ table. Some (record { offset = n; cwd = side; aliases = table }))))) (offset_read v.offset h.low h.high)
    ∙ ap (λ (o : Option SideName). o >>= (λ side. rows_set 0 (replicate 32 None) (bodies 0 v.aliases) >>= (λ table. Some (record { offset = v.offset; cwd = side; aliases = table })))) (side_read v.cwd)
    ∙ ap (λ n. rows_set 0 (replicate n None) (bodies 0 v.aliases) >>= (λ table. Some (record { offset = v.offset; cwd = v.cwd; aliases = table }))) (sym full)
    ∙ ap (λ (o : Option (List (Option Alias))). o >>= (λ table. Some (record { offset = v.offset; cwd = v.cwd; aliases = table }))) (rows_read 0 [] v.aliases (omega arith) (omega (arith, full)) h.rumps)
