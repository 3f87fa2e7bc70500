-- What is read of a path that was cut.
use Rattle.std.proofs.Common.{◌≡◌, ℕ, zero, suc, ◌+◌, ◌-◌, ◌%◌, ◌^◌, ◌<◌, ◌≤◌, ◌==◌, ◌&&◌, Bool, true, false, not, nat_lt, nat_le, cond, List, [], ◌∷◌, length, take, drop, Option, Some, None, Ok, Err, refl, ap, sym, ◌∙◌, subst, arith}
use Rattle.std.specs.List.{list_any, position_or_len, starts_with}
use Rattle.std.specs.Prelude.{nat_eq, slice_get, slice_index}
use Rattle.std.specs.Str.{bytes_eq}
use Rattle.std.proofs.lemmas.Bool.Decides.{nat_tests}
use Rattle.std.proofs.lemmas.Grind.{common_steps}
use Rattle.std.proofs.lemmas.List.{drop-drop, length-drop}
use Rattle.sp_base.specs.declared.limits.TheConstants.{PATH_TEXT}
use Rattle.sp_base.specs.declared.need.Need.{Need}
use Rattle.sp_base.specs.declared.need.Need.TheVariants.{Text}
use Rattle.sp_copy.proofs.Apart.{only_reader}
use Rattle.sp_copy.specs.Faults.{bounds_fault, fault_of, or_later, overlap_fault, own_fault}
use Rattle.sp_copy.specs.Parts.{can_read, end_of, root_part}
use Rattle.sp_copy.specs.Reading.{given, gives, read_from, read_of, text_before, text_in}
use Rattle.sp_copy.specs.declared.fault.CopyFault.TheVariants.{Fault, NoEnd}
use Rattle.sp_copy.specs.declared.fault.MemFault.{MemFault}
use Rattle.sp_copy.specs.declared.fault.MemFault.TheVariants.{TooHigh, TooLow}
use Rattle.sp_copy.specs.declared.part.Part.{Part}
use Rattle.sp_copy.specs.declared.part.TheConstants.{HIGHEST_END, LOWEST_BASE, ROOT_BASE}
use Rattle.hijack_rules.specs.Sides.{absolute_side, blanket_side, is_below, is_in, path_side, whole_to}
use Rattle.hijack_rules.specs.declared.names.Routed.TheVariants as routed
use Rattle.hijack_rules.specs.declared.names.SideName.{SideName}
use Rattle.hijack_rules.specs.declared.names.SideName.TheVariants as side
use Rattle.hijack_rules.specs.declared.rules.Rules.{Rules}
use Rattle.hijack_rules.specs.declared.rules.Rules.TheVariants as rules_are

-- ---- texts, byte by byte

abbrev zero_at : List ℕ → ℕ
zero_at bytes = position_or_len (λ b. b == 0) bytes

-- a zero byte among so many bytes is the first one among one more
same_zero : (m : ℕ) (bytes : List ℕ) → zero_at (take m bytes) < length (take m bytes)
    → (zero_at (take (suc m) bytes) ≡ zero_at (take m bytes)) × (zero_at (take (suc m) bytes) < length (take (suc m) bytes))
same_zero zero bytes h = absurd (omega (arith, h))
same_zero (suc m) [] h = absurd (omega (arith, h))
same_zero (suc m) (b ∷ bytes) h = by (b == 0) (same_zero m bytes) h
  where
    by : (z : Bool) → (zero_at (take m bytes) < length (take m bytes) → (zero_at (take (suc m) bytes) ≡ zero_at (take m bytes)) × (zero_at (take (suc m) bytes) < length (take (suc m) bytes)))
        → cond (not z) (1 + zero_at (take m bytes)) 0 < suc (length (take m bytes))
        → (cond (not z) (1 + zero_at (take (suc m) bytes)) 0 ≡ cond (not z) (1 + zero_at (take m bytes)) 0) × (cond (not z) (1 + zero_at (take (suc m) bytes)) 0 < suc (length (take (suc m) bytes)))
    by true rest h = (refl, omega arith)
    by false rest h = let r = rest (omega (arith, h)) in let within = r.1 in (ap (λ n. 1 + n) r.0, omega (arith, within))

-- where no zero byte is found there is no text
no_end : (t : Bool) (text : List ℕ) → cond t (Err NoEnd) (Err Fault) ≡ Ok text → ⊥
no_end true text h = absurd (cc)
no_end false text h = absurd (cc)

-- no text lies in no bytes
no_text : (m : ℕ) (text : List ℕ) → text_in [] m ≡ Ok text → ⊥
no_text zero text h = no_end (nat_le 0 0) text h
no_text (suc m) text h = no_end (nat_le (suc m) 0) text h

-- the text from the second byte on is the text without its first
cut_once : (m b c : ℕ) (bytes text : List ℕ) → text_in (b ∷ bytes) m ≡ Ok (c ∷ text) → text_in bytes m ≡ Ok text
cut_once zero b c bytes text h = absurd (no_end (nat_le 0 (length (b ∷ bytes))) (c ∷ text) h)
cut_once (suc m) b c bytes text h = by (b == 0) h
  where
    later : zero_at (take m bytes) < length (take m bytes) → take (1 + zero_at (take m bytes)) (b ∷ bytes) ≡ c ∷ text → text_in bytes (suc m) ≡ Ok text
    later within is =
        let r = same_zero m bytes within in
        let inside = r.1 in
        let one : 1 + zero_at (take m bytes) ≡ suc (zero_at (take m bytes)) = omega arith in
        let all : b ∷ take (zero_at (take m bytes)) bytes ≡ c ∷ text = ap (λ (n : ℕ). take n (b ∷ bytes)) (sym one) ∙ is in
        let shorter : take (zero_at (take m bytes)) bytes ≡ text = cc in
        let there : nat_lt (zero_at (take (suc m) bytes)) (length (take (suc m) bytes)) ≡ true = grind (arith, nat_tests, inside) in
        ap (λ t. text_before bytes (suc m) (cond t (Some (zero_at (take (suc m) bytes))) None)) there
        ∙ ap (λ (t : List ℕ). Ok t) (ap (λ (n : ℕ). take n bytes) r.0 ∙ shorter)

    found : (t : Bool) → nat_lt (1 + zero_at (take m bytes)) (suc (length (take m bytes))) ≡ t
        → text_before (b ∷ bytes) (suc m) (cond t (Some (1 + zero_at (take m bytes))) None) ≡ Ok (c ∷ text) → text_in bytes (suc m) ≡ Ok text
    found true e h = later (grind (arith, nat_tests, e)) (cc)
    found false e h = absurd (no_end (nat_le (suc m) (length (b ∷ bytes))) (c ∷ text) h)

    first : (t : Bool) → nat_lt 0 (suc (length (take m bytes))) ≡ t → text_before (b ∷ bytes) (suc m) (cond t (Some 0) None) ≡ Ok (c ∷ text) → text_in bytes (suc m) ≡ Ok text
    first true e h = absurd (cc)
    first false e h = absurd (no_end (nat_le (suc m) (length (b ∷ bytes))) (c ∷ text) h)

    by : (z : Bool) → text_before (b ∷ bytes) (suc m) (cond (nat_lt (cond (not z) (1 + zero_at (take m bytes)) 0) (suc (length (take m bytes)))) (Some (cond (not z) (1 + zero_at (take m bytes)) 0)) None) ≡ Ok (c ∷ text)
        → text_in bytes (suc m) ≡ Ok text
    by true h = first (nat_lt 0 (suc (length (take m bytes)))) refl h
    by false h = found (nat_lt (1 + zero_at (take m bytes)) (suc (length (take m bytes)))) refl h

-- the text from some byte on is the text without the bytes before
cut : (n m : ℕ) (bytes text : List ℕ) → text_in bytes m ≡ Ok text → n ≤ length text → text_in (drop n bytes) m ≡ Ok (drop n text)
cut zero m bytes text h few = h
cut (suc n) m bytes [] h few = absurd (omega (arith, few))
cut (suc n) m [] (c ∷ text) h few = absurd (no_text m (c ∷ text) h)
cut (suc n) m (b ∷ bytes) (c ∷ text) h few = cut n m bytes text (cut_once m b c bytes text h) (omega (arith, few))

-- ---- parts

-- the part that a need is read in
record IsReadIn (ps : List Part) (need : Need) (text : List ℕ) : Type 0 where
  place : ℕ
  part : Part
  there : slice_get ps place ≡ Some part
  gives_it : gives need part ≡ true
  reads : given need part ≡ Ok text

reader : (ps : List Part) (need : Need) (text : List ℕ) → read_from ps need ≡ Ok text → IsReadIn ps need text
reader [] need text h = absurd (cc)
reader (p ∷ ps) need text h = by (gives need p) refl (reader ps need text) h
  where
    by : (b : Bool) → gives need p ≡ b → (read_from ps need ≡ Ok text → IsReadIn ps need text) → cond b (given need p) (read_from ps need) ≡ Ok text → IsReadIn (p ∷ ps) need text
    by true e rest h = record { place = zero; part = p; there = refl; gives_it = e; reads = h }
    by false e rest h = let r = rest h in record { place = suc r.place; part = r.part; there = r.there; gives_it = r.gives_it; reads = r.reads }

low_enough : (number : ℕ) (p : Part) → own_fault number p ≡ None → end_of p ≤ HIGHEST_END
low_enough number p h = by (nat_lt p.base LOWEST_BASE) h
  where
    high : (b : Bool) → nat_lt HIGHEST_END (end_of p) ≡ b → cond b (Some (TooHigh number)) None ≡ None → end_of p ≤ HIGHEST_END
    high true e h = absurd (cc)
    high false e h = grind (arith, nat_tests, e)

    by : (b : Bool) → cond b (Some (TooLow number)) (cond (nat_lt HIGHEST_END (end_of p)) (Some (TooHigh number)) None) ≡ None → end_of p ≤ HIGHEST_END
    by true h = absurd (cc)
    by false h = high (nat_lt HIGHEST_END (end_of p)) refl h

both_none : (x y : Option MemFault) → or_later x y ≡ None → (x ≡ None) × (y ≡ None)
both_none None y h = (refl, h)
both_none (Some x) y h = absurd (cc)

in_bounds : (number : ℕ) (ps : List Part) → bounds_fault number ps ≡ None → (i : ℕ) (p : Part) → slice_get ps i ≡ Some p → end_of p ≤ HIGHEST_END
in_bounds number [] h i p there = absurd (cc)
in_bounds number (q ∷ ps) h zero p there = let same : q ≡ p = cc in subst (λ (x : Part). end_of x ≤ HIGHEST_END) same (low_enough number q (both_none (own_fault number q) (bounds_fault (number + 1) ps) h).0)
in_bounds number (q ∷ ps) h (suc i) p there = in_bounds (number + 1) ps (both_none (own_fault number q) (bounds_fault (number + 1) ps) h).1 i p there

-- each part of a memory, the one with `/` too, ends by the highest end
ends_low : (mem : List Part) → fault_of mem ≡ None → (i : ℕ) (p : Part) → slice_get (root_part ∷ mem) i ≡ Some p → end_of p ≤ HIGHEST_END
ends_low mem h zero p there = let same : root_part ≡ p = cc in subst (λ (x : Part). end_of x ≤ HIGHEST_END) same (omega arith)
ends_low mem h (suc i) p there = in_bounds 0 mem (both_none (bounds_fault 0 mem) (overlap_fault [] mem) h).0 i p there

-- ---- a path in a memory

some_bytes : (m : ℕ) (bytes text : List ℕ) → text_in bytes m ≡ Ok text → 0 < length bytes
some_bytes m [] text h = absurd (no_text m text h)
some_bytes m (b ∷ bytes) text h = omega arith

has_more : (addr n base len : ℕ) (reads : Bool) → (reads && (nat_le base addr && nat_lt addr (base + len))) ≡ true → 0 < len - (addr - base + n)
    → (reads && (nat_le base (addr + n) && nat_lt (addr + n) (base + len))) ≡ true
has_more addr n base len true h few = grind (arith, nat_tests, common_steps, h, few)
has_more addr n base len false h few = absurd (cc)

base_below : (addr base len : ℕ) (reads : Bool) → (reads && (nat_le base addr && nat_lt addr (base + len))) ≡ true → base ≤ addr
base_below addr base len true h = grind (arith, nat_tests, common_steps, h)
base_below addr base len false h = absurd (cc)

cut_in_part : (p : Part) (addr n : ℕ) (text : List ℕ) → gives (Text addr PATH_TEXT) p ≡ true → given (Text addr PATH_TEXT) p ≡ Ok text → n ≤ length text
    → given (Text (addr + n) PATH_TEXT) p ≡ Ok (drop n text)
cut_in_part p addr n text g h few =
    let low = base_below addr p.base (length p.bytes) (can_read p.right) g in
    let place : addr - p.base + n ≡ addr + n - p.base = omega (arith, low) in
    ap (λ (bytes : List ℕ). text_in bytes PATH_TEXT) (sym (drop-drop n (addr - p.base) p.bytes ∙ ap (λ (i : ℕ). drop i p.bytes) place))
    ∙ cut n PATH_TEXT (drop (addr - p.base) p.bytes) text h few

cut_read : (mem : List Part) (path n : ℕ) (text : List ℕ) → fault_of mem ≡ None → read_of mem (Text path PATH_TEXT) ≡ Ok text → n ≤ length text
    → (read_of mem (Text (path + n) PATH_TEXT) ≡ Ok (drop n text)) × (path + n < 2 ^ 64)
cut_read mem path n text sound h few =
    let r = reader (root_part ∷ mem) (Text path PATH_TEXT) text h in
    let moved = cut_in_part r.part path n text r.gives_it r.reads few in
    let some : 0 < length (drop (path + n - r.part.base) r.part.bytes) = some_bytes PATH_TEXT (drop (path + n - r.part.base) r.part.bytes) (drop n text) moved in
    let low = base_below path r.part.base (length r.part.bytes) (can_read r.part.right) r.gives_it in
    let left : 0 < length r.part.bytes - (path - r.part.base + n) = (let count = length-drop (path + n - r.part.base) r.part.bytes in omega (arith, some, low, count)) in
    let more = has_more path n r.part.base (length r.part.bytes) (can_read r.part.right) r.gives_it left in
    let high = ends_low mem sound r.place r.part r.there in
    (only_reader mem (Text (path + n) PATH_TEXT) r.place r.part sound tt r.there more ∙ moved, omega (arith, left, low, high))

-- ---- how much is cut

within : (k : ℕ) (bytes : List ℕ) → (slice_index bytes k == 47) ≡ true → k < length bytes
within k [] h = absurd (cc)
within zero (b ∷ bytes) h = omega arith
within (suc k) (b ∷ bytes) h = let rest = within k bytes h in omega (arith, rest)

below_is_longer : (text dir : List ℕ) → is_below text dir ≡ true → length dir ≤ length text
unfolding is_below
below_is_longer text dir h = by (starts_with nat_eq text dir) h
  where
    by : (b : Bool) → (b && (slice_index text (length dir) == 47)) ≡ true → length dir ≤ length text
    by true h = let longer = within (length dir) text h in omega (arith, longer)
    by false h = absurd (cc)

blanket_cuts : (b : Bool) (n : ℕ) (text : List ℕ) → cond b (routed.Rump 0) routed.Host ≡ routed.Rump n → n ≤ length text
blanket_cuts true n text h = let none : 0 ≡ n = cc in omega (arith, none)
blanket_cuts false n text h = absurd (cc)

absolute_cuts : (path : Option (List ℕ)) (blanket : List (List ℕ)) (n : ℕ) (text : List ℕ) → absolute_side path blanket text ≡ routed.Rump n → n ≤ length text
absolute_cuts None blanket n text h = blanket_cuts (list_any (is_in text) blanket) n text h
absolute_cuts (Some dir) blanket n text h = first (bytes_eq text dir) h
  where
    second : (b : Bool) → is_below text dir ≡ b → cond b (routed.Rump (length dir)) (blanket_side blanket text) ≡ routed.Rump n → n ≤ length text
    second true e h = let longer = below_is_longer text dir e in let same : length dir ≡ n = cc in omega (arith, longer, same)
    second false e h = blanket_cuts (list_any (is_in text) blanket) n text h

    first : (b : Bool) → cond b routed.RumpRoot (cond (is_below text dir) (routed.Rump (length dir)) (blanket_side blanket text)) ≡ routed.Rump n → n ≤ length text
    first true h = absurd (cc)
    first false h = second (is_below text dir) refl h

cuts_within : (rules : Rules) (cwd : SideName) (n : ℕ) (text : List ℕ) → path_side rules cwd text ≡ routed.Rump n → n ≤ length text
cuts_within rules_are.Raw cwd n text h = let none : 0 ≡ n = cc in omega (arith, none)
cuts_within (rules_are.Divided division) cwd n text h = by (slice_index text 0 == 47) cwd h
  where
    by : (b : Bool) (cwd : SideName) → cond b (absolute_side division.path division.blanket text) (whole_to cwd) ≡ routed.Rump n → n ≤ length text
    by true cwd h = absolute_cuts division.path division.blanket n text h
    by false side.Rump h = let none : 0 ≡ n = cc in omega (arith, none)
    by false side.Host h = absurd (cc)

-- a cut path reads as what stands behind the cut
pub cut_reads : (rules : Rules) (cwd : SideName) (mem : List Part) (path n : ℕ) (text : List ℕ) → fault_of mem ≡ None
    → read_of mem (Text path PATH_TEXT) ≡ Ok text → path_side rules cwd text ≡ routed.Rump n
    → read_of mem (Text ((path + n) % 2 ^ 64) PATH_TEXT) ≡ Ok (drop n text)
cut_reads rules cwd mem path n text sound h goes =
    let r = cut_read mem path n text sound h (cuts_within rules cwd n text goes) in
    let small : path + n < 2 ^ 64 = r.1 in
    let same : (path + n) % 2 ^ 64 ≡ path + n = omega (arith, small) in
    ap (λ (addr : ℕ). read_of mem (Text addr PATH_TEXT)) same ∙ r.0

-- the root's path reads as `/`
pub root_reads : (mem : List Part) → read_of mem (Text ROOT_BASE PATH_TEXT) ≡ Ok (47 ∷ [])
root_reads mem = refl
