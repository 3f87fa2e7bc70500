-- What is read from the front of bytes is spelled there, and what is spelled is read.
use Rattle.std.proofs.Common.{◌≡◌, ℕ, ◌+◌, ◌-◌, ◌^◌, ◌<◌, ◌≤◌, Bool, true, false, cond, ltb, List, ◌++◌, length, take, drop, Option, Some, None, Result, Ok, Err, refl, sym, ap, ◌∙◌, subst, arith, append_assoc, length-append}
use Rattle.std.proofs.lemmas.Bool.{ltb-false, le-ltb}
use Rattle.std.proofs.lemmas.List.{take_at, drop_at, take-append-drop, length-take, length-drop, drop-drop}
use Rattle.sp_frames.specs.declared.fault.FrameFault.{FrameFault}
use Rattle.sp_frames.specs.declared.fault.FrameFault.TheVariants.{TooShort, TooLong, Class, Kind, Word}
use Rattle.sp_frames.specs.declared.frame.Body.{Body}
use Rattle.sp_frames.specs.declared.frame.Frame.{Frame}
use Rattle.sp_frames.specs.declared.header.Header.{Header}
use Rattle.sp_frames.specs.declared.rows.Row.{Row}
use Rattle.sp_frames.specs.declared.reading.Step.{Step}
use Rattle.sp_frames.specs.declared.reading.Step.TheVariants.{Whole, Partial}
use Rattle.sp_frames.specs.Fields.{IsBytes}
use Rattle.sp_frames.specs.Grammar.{parts_of, payload_of, header_of, header_bytes, spelling, Fits}
use Rattle.sp_frames.specs.Faults.{HeaderFits}
use Rattle.sp_frames.specs.Feeding.{IsFront}
use Rattle.sp_frames.specs.Reading.{header_at, has_size, body_at, row_at, has_kind, row_or, sized, row_of, framed, step_by, step_of}
use Rattle.sp_frames.proofs.FieldLaws.{IsBytes-drop, IsBytes-take}
use Rattle.sp_frames.proofs.HeaderLaws.{header_len, header_again, header_back, header_below}
use Rattle.sp_frames.proofs.TableLaws.{row_is, class_in-most, type-most}
use Rattle.sp_frames.proofs.FoundLaws.{IsOf, body_found}
use Rattle.sp_frames.proofs.ReadLaws.{row_for, body_read}

-- the bytes behind a header
pub behind_header : (h : Header) (more : List ℕ) → drop 24 (header_bytes h ++ more) ≡ more
behind_header h more = drop_at (header_bytes h) more 24 (header_len h)

-- a header of a row, with a length that the row allows
pub row_ok : (h : Header) (r : Row) → 24 ≤ h.len → h.len ≤ 131072 → row_at h.class h.kind h.word ≡ Some r → has_size r (h.len - 24) ≡ true → row_of h ≡ Ok r
unfolding row_of
row_ok h r lo hi e size = rw (le-ltb h.len 24 lo, le-ltb 131072 h.len hi, e, size) refl

-- the header of a frame within its row
pub header_fits : (f : Frame) → Fits f → HeaderFits (header_of f)
header_fits f fits =
    let b = f.body in
    let is = body_read b fits.body in
    let row = row_is (parts_of b).class (parts_of b).kind (parts_of b).word (row_for b) is.row in
    record {
      len = omega (arith, is.few);
      number = fits.number;
      class = omega (arith, row.class, class_in-most (row_for b));
      kind = omega (arith, type-most (row_for b) (parts_of b).kind row.kind);
      word = fits.body.word;
    }

-- what is spelled is read
pub spelled : (f : Frame) (rest : List ℕ) → Fits f → step_of (spelling f ++ rest) ≡ Whole f (length (spelling f))
unfolding step_of
spelled f rest fits =
    let b = f.body in
    let p = payload_of b in
    let is = body_read b fits.body in
    let h = header_of f in
    let bytes = spelling f ++ rest in
    let regrouped : bytes ≡ header_bytes h ++ (p ++ rest) = append_assoc (header_bytes h) p rest in
    let size : length (spelling f) ≡ 24 + length p = omega (arith, length-append (header_bytes h) p, header_len h) in
    let long : length bytes ≡ 24 + length p + length rest = omega (arith, length-append (spelling f) rest, size) in
    let head : header_at bytes ≡ h = ap header_at regrouped ∙ header_again h (p ++ rest) (header_fits f fits) in
    let minus : h.len - 24 ≡ length p = omega arith in
    let row : row_of h ≡ Ok (row_for b) = row_ok h (row_for b) (omega arith) (omega (arith, is.few)) is.row (rw minus is.size) in
    let behind : drop 24 bytes ≡ p ++ rest = ap (drop 24) regrouped ∙ behind_header h (p ++ rest) in
    let enough : ltb (length bytes) 24 ≡ false = le-ltb (length bytes) 24 (omega (arith, long)) in
    let whole : ltb (length bytes) h.len ≡ false = le-ltb (length bytes) h.len (omega (arith, long)) in
    rw (enough, head, row, whole, behind, minus, take_at p rest (length p) refl, is.body, size) refl

-- ---- the other way

not_partial : (t : Bool) (s : Step) (f : Frame) (n : ℕ) → cond t Partial s ≡ Whole f n → (t ≡ false) × (s ≡ Whole f n)
not_partial true s f n e = absurd cc
not_partial false s f n e = (refl, e)

by_row : (h : Header) (q : Result Row FrameFault) (bytes : List ℕ) (f : Frame) (n : ℕ) → step_by h q bytes ≡ Whole f n → (r : Row) × (q ≡ Ok r) × (step_by h (Ok r) bytes ≡ Whole f n)
by_row h (Ok r) bytes f n e = (r, refl, e)
by_row h (Err x) bytes f n e = absurd cc

framed_is : (h : Header) (o : Option Body) (f : Frame) (n : ℕ) → framed h o ≡ Whole f n → (b : Body) × (o ≡ Some b) × (record { number = record { 0 = h.number }; body = b } ≡ f) × (h.len ≡ n)
framed_is h (Some b) f n e = (b, refl, cc, cc)
framed_is h None f n e = absurd cc

not_err : (t : Bool) (x : FrameFault) (q : Result Row FrameFault) (r : Row) → cond t (Err x) q ≡ Ok r → (t ≡ false) × (q ≡ Ok r)
not_err true x q r e = absurd cc
not_err false x q r e = (refl, e)

size_is : (t : Bool) (s r : Row) (x : FrameFault) → cond t (Ok s) (Err x) ≡ Ok r → (t ≡ true) × (s ≡ r)
size_is true s r x e = (refl, cc)
size_is false s r x e = absurd cc

sized_is : (q : Result Row FrameFault) (kind len : ℕ) (r : Row) → sized q kind len ≡ Ok r → (q ≡ Ok r) × (has_size r (len - 24) ≡ true)
sized_is (Ok s) kind len r e =
    let is = size_is (has_size s (len - 24)) s r _ e in
    (ap Ok is.1, subst (λ (s : Row). has_size s (len - 24) ≡ true) is.1 is.0)
sized_is (Err x) kind len r e = absurd cc

fault_if : (t u : Bool) (x y z : FrameFault) (r : Row) → cond t (Err x) (cond u (Err y) (Err z)) ≡ Ok r → ⊥
fault_if true u x y z r e = absurd cc
fault_if false true x y z r e = absurd cc
fault_if false false x y z r e = absurd cc

pub named_is : (o : Option Row) (c k w : ℕ) (r : Row) → row_or o c k w ≡ Ok r → o ≡ Some r
named_is (Some s) c k w r e = cc
named_is None c k w r e = absurd (fault_if (ltb 2 c) (has_kind c k) (Class c) (Word k w) (Kind k) r e)

-- a header that has a row and a length that the row allows
pub record IsChecked (h : Header) (r : Row) : Type 0 where
  pub least : 24 ≤ h.len
  pub most : h.len ≤ 131072
  pub row : row_at h.class h.kind h.word ≡ Some r
  pub size : has_size r (h.len - 24) ≡ true

pub checked : (h : Header) (r : Row) → row_of h ≡ Ok r → IsChecked h r
unfolding row_of
checked h r e =
    let short = not_err (ltb h.len 24) (TooShort h.len) _ r e in
    let long = not_err (ltb 131072 h.len) (TooLong h.len) _ r short.1 in
    let size = sized_is (row_or (row_at h.class h.kind h.word) h.class h.kind h.word) h.kind h.len r long.1 in
    record {
      least = ltb-false h.len 24 short.0;
      most = ltb-false 131072 h.len long.0;
      row = named_is (row_at h.class h.kind h.word) h.class h.kind h.word r size.0;
      size = size.1;
    }

-- the payload of a header whose frame is whole
pub payload_len : (h : Header) (bytes : List ℕ) → 24 ≤ h.len → h.len ≤ length bytes → length (take (h.len - 24) (drop 24 bytes)) ≡ h.len - 24
payload_len h bytes least most = omega (arith, length-take (h.len - 24) (drop 24 bytes), length-drop 24 bytes)

whole_front : (bytes : List ℕ) (h : Header) (b : Body) → IsOf h.class h.kind h.word (take (h.len - 24) (drop 24 bytes)) b → 24 ≤ h.len → h.len ≤ length bytes
    → bytes ≡ header_bytes h ++ drop 24 bytes → h.number < 2 ^ 64 → IsFront bytes (record { number = record { 0 = h.number }; body = b }) h.len
whole_front bytes h b is least most text below =
    let p = take (h.len - 24) (drop 24 bytes) in
    let len : 24 + length p ≡ h.len = omega (arith, payload_len h bytes least most) in
    let behind : drop (h.len - 24) (drop 24 bytes) ≡ drop h.len bytes = drop-drop (h.len - 24) 24 bytes ∙ ap (λ k. drop k bytes) (omega arith) in
    let parts : p ++ drop h.len bytes ≡ drop 24 bytes = ap (λ (x : List ℕ). p ++ x) (sym behind) ∙ take-append-drop (h.len - 24) (drop 24 bytes) in
    let text : (header_bytes h ++ p) ++ drop h.len bytes ≡ bytes = append_assoc (header_bytes h) p (drop h.len bytes) ∙ ap (λ (x : List ℕ). header_bytes h ++ x) parts ∙ sym text in
    let spelt : spelling (record { number = record { 0 = h.number }; body = b }) ++ drop h.len bytes ≡ bytes = rw (is.payload, is.class, is.kind, is.word, len) text in
    record { text = sym spelt; fits = record { number = below; body = is.fits }; least = least; most = most }

pub found : (bytes : List ℕ) (f : Frame) (n : ℕ) → IsBytes bytes → step_of bytes ≡ Whole f n → IsFront bytes f n
unfolding step_of
found bytes f n fits e =
    let h = header_at bytes in
    let enough = not_partial (ltb (length bytes) 24) _ f n e in
    let long : 24 ≤ length bytes = ltb-false (length bytes) 24 enough.0 in
    let by = by_row h (row_of h) bytes f n enough.1 in
    let r = by.0 in
    let ok = checked h r by.1 in
    let whole = not_partial (ltb (length bytes) h.len) _ f n by.2 in
    let most : h.len ≤ length bytes = ltb-false (length bytes) h.len whole.0 in
    let p = take (h.len - 24) (drop 24 bytes) in
    let b = framed_is h (body_at r h.kind h.word p) f n whole.1 in
    let len = payload_len h bytes ok.least most in
    let below = header_below bytes fits in
    let is = body_found r h.class h.kind h.word p b.0 (IsBytes-take (h.len - 24) (drop 24 bytes) (IsBytes-drop 24 bytes fits)) below.word (row_is h.class h.kind h.word r ok.row) (rw len ok.size) b.1 in
    let front = whole_front bytes h b.0 is ok.least most (header_back bytes fits long) below.number in
    subst (λ k. IsFront bytes f k) b.3 (subst (λ (g : Frame). IsFront bytes g h.len) b.2 front)
