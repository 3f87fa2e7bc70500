-- The fault that is read at the front of bytes is the one that they have.
use Rattle.std.proofs.Common.{◌≡◌, ◌⊎◌, inl, inr, ℕ, ◌+◌, ◌-◌, ◌^◌, ◌<◌, ◌≤◌, Bool, true, false, cond, ltb, List, ◌++◌, length, take, drop, Option, Some, None, Result, Ok, Err, refl, sym, ap, ◌∙◌, subst, arith, append_assoc, length-append}
use Rattle.std.proofs.lemmas.Bool.{ltb-false, ltb-true, le-ltb, lt-ltb}
use Rattle.std.proofs.lemmas.List.{length-drop, take-append-le}
use Rattle.sp_frames.specs.declared.fault.FrameFault.{FrameFault}
use Rattle.sp_frames.specs.declared.fault.FrameFault.TheVariants.{TooShort, TooLong, Class, Kind, Word, Payload, NoMemory}
use Rattle.sp_frames.specs.declared.frame.Body.{Body}
use Rattle.sp_frames.specs.declared.header.Header.{Header}
use Rattle.sp_frames.specs.declared.rows.Row.{Row}
use Rattle.sp_frames.specs.declared.reading.Step.{Step}
use Rattle.sp_frames.specs.declared.reading.Step.TheVariants.{Partial, Fault}
use Rattle.sp_frames.specs.Fields.{IsBytes}
use Rattle.sp_frames.specs.Grammar.{parts_of, header_bytes}
use Rattle.sp_frames.specs.Faults.{HeaderFits, HasKind, HasWord, HasSize, HasPayload, IsOutside, IsFaultOf, HasFault, NoFault}
use Rattle.sp_frames.specs.Reading.{header_at, has_size, body_at, row_at, has_kind, row_or, sized, row_of, framed, step_by, step_of}
use Rattle.sp_frames.proofs.FieldLaws.{IsBytes-drop, IsBytes-take}
use Rattle.sp_frames.proofs.HeaderLaws.{header_len, header_again, header_back, header_below}
use Rattle.sp_frames.proofs.TableLaws.{row_is, class_in-most, row_at-above}
use Rattle.sp_frames.proofs.ReadLaws.{row_for, body_read}
use Rattle.sp_frames.proofs.RowLaws.{IsBytes-append, payload-made, size-made, word-made, kind-made, kind-read}
use Rattle.sp_frames.proofs.StepLaws.{behind_header, row_ok, named_is, checked, payload_len}

true_or_false : (b : Bool) → (b ≡ true) ⊎ (b ≡ false)
true_or_false true = inl refl
true_or_false false = inr refl

not_true : (b : Bool) → (b ≡ true → ⊥) → b ≡ false
not_true true no_such = absurd (no_such refl)
not_true false no_such = refl

not_some : {A : Type 0} (o : Option A) → ((x : A) → o ≡ Some x → ⊥) → o ≡ None
not_some None no_such = refl
not_some (Some x) no_such = absurd (no_such x refl)

-- ---- what the table has, as the reader finds it

-- the row of a word that a type has
named : (c k w : ℕ) (has : HasWord c k w) → row_at c k w ≡ Some (row_for has.0)
named c k w has =
    let is = has.1 in
    let read = (body_read has.0 is.fits).row in
    subst (λ w. row_at c k w ≡ Some (row_for has.0)) has.2 (subst (λ k. row_at c k (parts_of has.0).word ≡ Some (row_for has.0)) is.same_kind (subst (λ c. row_at c (parts_of has.0).kind (parts_of has.0).word ≡ Some (row_for has.0)) is.same_class read))

no_row : (c k w : ℕ) → w < 2 ^ 32 → ¬ HasWord c k w → row_at c k w ≡ None
no_row c k w lt not = not_some (row_at c k w) (λ r e. not (word-made c k w r lt e))

kind_true : (c k : ℕ) → HasKind c k → has_kind c k ≡ true
kind_true c k has = subst (λ k. has_kind c k ≡ true) has.1.same_kind (subst (λ c. has_kind c (parts_of has.0).kind ≡ true) has.1.same_class (kind-read has.0 has.1.fits))

kind_false : (c k : ℕ) → ¬ HasKind c k → has_kind c k ≡ false
kind_false c k not = not_true (has_kind c k) (λ e. not (kind-made c k e))

-- a class that has a type is at most 2
class-most : (c k : ℕ) → HasKind c k → c ≤ 2
class-most c k has =
    let b = has.0 in
    let row = row_is (parts_of b).class (parts_of b).kind (parts_of b).word (row_for b) (body_read b has.1.fits).row in
    omega (arith, row.class, class_in-most (row_for b), has.1.same_class)

-- the length of a payload that a row has is allowed
size_true : (c k w n : ℕ) (r : Row) → row_at c k w ≡ Some r → HasSize c k w n → has_size r n ≡ true
size_true c k w n r e has =
    let one : Some (row_for has.0) ≡ Some r = sym (named c k w (has.0, has.1, has.2)) ∙ e in
    let same : row_for has.0 ≡ r = cc in
    subst (λ (r : Row). has_size r n ≡ true) same (subst (λ n. has_size (row_for has.0) n ≡ true) has.3 (body_read has.0 has.1.fits).size)

-- ---- a fault that bytes have is read

-- the first fault of a header is that of the bytes that it begins
step_err : (bytes : List ℕ) (h : Header) (fault : FrameFault) → header_at bytes ≡ h → 24 ≤ length bytes → row_of h ≡ Err fault → step_of bytes ≡ Fault fault
unfolding step_of
step_err bytes h fault head long e = rw (le-ltb (length bytes) 24 long, head, e) refl

-- a whole frame whose content is outside its row
step_outside : (bytes : List ℕ) (h : Header) (r : Row) → header_at bytes ≡ h → 24 ≤ length bytes → h.len ≤ length bytes → row_of h ≡ Ok r → body_at r h.kind h.word (take (h.len - 24) (drop 24 bytes)) ≡ None
    → step_of bytes ≡ Fault (Payload h.kind h.len)
unfolding step_of
step_outside bytes h r head long whole row none = rw (le-ltb (length bytes) 24 long, head, row, le-ltb (length bytes) h.len whole, none) refl

outside_size : (h : Header) (r : Row) → 24 ≤ h.len → h.len ≤ 131072 → row_at h.class h.kind h.word ≡ Some r → has_size r (h.len - 24) ≡ false → row_of h ≡ Err (Payload h.kind h.len)
unfolding row_of
outside_size h r lo hi e size = rw (le-ltb h.len 24 lo, le-ltb 131072 h.len hi, e, size) refl

short : (h : Header) → h.len < 24 → row_of h ≡ Err (TooShort h.len)
unfolding row_of
short h lt = rw (lt-ltb h.len 24 lt) refl

long : (h : Header) → 131072 < h.len → row_of h ≡ Err (TooLong h.len)
unfolding row_of
long h lt = let least : 24 ≤ h.len = omega arith in rw (le-ltb h.len 24 least, lt-ltb 131072 h.len lt) refl

no_class : (h : Header) → 24 ≤ h.len → h.len ≤ 131072 → 2 < h.class → row_of h ≡ Err (Class h.class)
unfolding row_of
no_class h lo hi lt =
    let none = row_at-above h.class h.kind h.word lt in
    rw (le-ltb h.len 24 lo, le-ltb 131072 h.len hi, none, lt-ltb 2 h.class lt) refl

no_kind : (h : Header) → 24 ≤ h.len → h.len ≤ 131072 → h.word < 2 ^ 32 → h.class ≤ 2 → ¬ HasKind h.class h.kind → row_of h ≡ Err (Kind h.kind)
unfolding row_of
no_kind h lo hi word le not =
    let none = no_row h.class h.kind h.word word (λ has. not (has.0, has.1)) in
    rw (le-ltb h.len 24 lo, le-ltb 131072 h.len hi, none, le-ltb 2 h.class le, kind_false h.class h.kind not) refl

no_word : (h : Header) → 24 ≤ h.len → h.len ≤ 131072 → h.word < 2 ^ 32 → HasKind h.class h.kind → ¬ HasWord h.class h.kind h.word → row_of h ≡ Err (Word h.kind h.word)
unfolding row_of
no_word h lo hi word has not =
    let none = no_row h.class h.kind h.word word not in
    rw (le-ltb h.len 24 lo, le-ltb 131072 h.len hi, none, le-ltb 2 h.class (class-most h.class h.kind has), kind_true h.class h.kind has) refl

-- the first fault of a header is read from the bytes that it begins
header_err : (h : Header) (more : List ℕ) (fault : FrameFault) → HeaderFits h → row_of h ≡ Err fault → step_of (header_bytes h ++ more) ≡ Fault fault
header_err h more fault fits e = step_err (header_bytes h ++ more) h fault (header_again h more fits) (omega (arith, length-append (header_bytes h) more, header_len h)) e

-- a payload outside its row, by its length or by its content
outside : (h : Header) (more : List ℕ) → HeaderFits h → IsBytes more → 24 ≤ h.len → h.len ≤ 131072 → HasWord h.class h.kind h.word → IsOutside h more
    → step_of (header_bytes h ++ more) ≡ Fault (Payload h.kind h.len)
outside h more fits rest lo hi has out =
    let bytes = header_bytes h ++ more in
    let head : header_at bytes ≡ h = header_again h more fits in
    let size : length bytes ≡ 24 + length more = length-append (header_bytes h) more ∙ ap (λ n. n + length more) (header_len h) in
    let behind : drop 24 bytes ≡ more = behind_header h more in
    let row = row_for has.0 in
    let found = named h.class h.kind h.word has in
    let by_size : has_size row (h.len - 24) ≡ false → step_of bytes ≡ Fault (Payload h.kind h.len) = λ e. step_err bytes h _ head (omega (arith, size)) (outside_size h row lo hi found e) in
    elim out [
      | inl no_size ↦ by_size (not_true (has_size row (h.len - 24)) (λ e. no_size (size-made h.class h.kind h.word (h.len - 24) row fits.word found e)))
      | inr content ↦
          elim (true_or_false (has_size row (h.len - 24))) [
            | inr e ↦ by_size e
            | inl e ↦
                let most : h.len ≤ length bytes = omega (arith, size, content.0, lo) in
                let p = take (h.len - 24) (drop 24 bytes) in
                let same : p ≡ take (h.len - 24) more = ap (take (h.len - 24)) behind in
                let len : length p ≡ h.len - 24 = payload_len h bytes lo most in
                let p_bytes : IsBytes p = subst IsBytes (sym same) (IsBytes-take (h.len - 24) more rest) in
                let none : body_at row h.kind h.word p ≡ None =
                not_some (body_at row h.kind h.word p) (λ b read. content.1 (subst (HasPayload h.class h.kind h.word) same (payload-made h.class h.kind h.word row p b p_bytes fits.word found (rw len e) read))) in
                step_outside bytes h row head (omega (arith, size)) most (row_ok h row lo hi found e) none
          ]
    ]

-- a fault that a header has is the first that is read
fault_read : (h : Header) (more : List ℕ) (fault : FrameFault) → HeaderFits h → IsBytes more → IsFaultOf h more fault → step_of (header_bytes h ++ more) ≡ Fault fault
fault_read h more (TooShort len) fits rest is = header_err h more _ fits (short h is.1) ∙ ap (λ n. Fault (TooShort n)) (sym is.0)
fault_read h more (TooLong len) fits rest is = header_err h more _ fits (long h is.1) ∙ ap (λ n. Fault (TooLong n)) (sym is.0)
fault_read h more (Class class) fits rest is = header_err h more _ fits (no_class h is.1.0 is.1.1 is.2) ∙ ap (λ n. Fault (Class n)) (sym is.0)
fault_read h more (Kind kind) fits rest is = header_err h more _ fits (no_kind h is.1.0 is.1.1 fits.word is.2 is.3) ∙ ap (λ n. Fault (Kind n)) (sym is.0)
fault_read h more (Word kind word) fits rest is =
    header_err h more _ fits (no_word h is.2.0 is.2.1 fits.word is.3 is.4) ∙ ap (λ n. Fault (Word n h.word)) (sym is.0) ∙ ap (λ n. Fault (Word kind n)) (sym is.1)
fault_read h more (Payload kind len) fits rest is =
    outside h more fits rest is.2.0 is.2.1 is.3 is.4 ∙ ap (λ n. Fault (Payload n h.len)) (sym is.0) ∙ ap (λ n. Fault (Payload kind n)) (sym is.1)
fault_read h more NoMemory fits rest is = absurd is

pub fault_step : (bytes : List ℕ) (fault : FrameFault) → HasFault bytes fault → step_of bytes ≡ Fault fault
fault_step bytes fault has = ap step_of has.2.text ∙ fault_read has.0 has.1 fault has.2.fits has.2.rest_bytes has.3

-- bytes begin with at most one fault
pub one_fault : (bytes : List ℕ) (a b : FrameFault) → HasFault bytes a → HasFault bytes b → a ≡ b
one_fault bytes a b ha hb = let e : Fault a ≡ Fault b = sym (fault_step bytes a ha) ∙ fault_step bytes b hb in cc

-- ---- a fault that is read is one that the bytes have

err_or : (t : Bool) (x e : FrameFault) (q : Result Row FrameFault) → cond t (Err x) q ≡ Err e → ((t ≡ true) × (x ≡ e)) ⊎ ((t ≡ false) × (q ≡ Err e))
err_or true x e q is = inl (refl, cc)
err_or false x e q is = inr (refl, is)

-- a row whose payload may not have the length
record Oversized (q : Result Row FrameFault) (kind len : ℕ) (fault : FrameFault) : Type 0 where
  row : Row
  found : q ≡ Ok row
  size : has_size row (len - 24) ≡ false
  is : Payload kind len ≡ fault

size_err : (t : Bool) (r : Row) (x e : FrameFault) → cond t (Ok r) (Err x) ≡ Err e → (t ≡ false) × (x ≡ e)
size_err true r x e is = absurd cc
size_err false r x e is = (refl, cc)

sized_err : (q : Result Row FrameFault) (kind len : ℕ) (e : FrameFault) → sized q kind len ≡ Err e → (q ≡ Err e) ⊎ Oversized q kind len e
sized_err (Ok r) kind len e is = let s = size_err (has_size r (len - 24)) r _ e is in inr (record { row = r; found = refl; size = s.0; is = s.1 })
sized_err (Err x) kind len e is = inl is

-- a header whose class, type and word have no row
unnamed : (h : Header) (more : List ℕ) (fault : FrameFault) → HeaderFits h → 24 ≤ h.len → h.len ≤ 131072 → (o : Option Row) → row_at h.class h.kind h.word ≡ o → row_or o h.class h.kind h.word ≡ Err fault → IsFaultOf h more fault
unnamed h more fault fits lo hi (Some r) found e = absurd cc
unnamed h more fault fits lo hi None found e =
    let no_such : ¬ HasWord h.class h.kind h.word = λ has. let both : Some (row_for has.0) ≡ None = sym (named h.class h.kind h.word has) ∙ found in absurd cc in
    elim (err_or (ltb 2 h.class) (Class h.class) fault _ e) [
      | inl class ↦ subst (IsFaultOf h more) class.1 (refl, (lo, hi), ltb-true 2 h.class class.0)
      | inr known ↦
          let le : h.class ≤ 2 = ltb-false 2 h.class known.0 in
          elim (err_or (has_kind h.class h.kind) (Word h.kind h.word) fault _ known.1) [
            | inl word ↦ subst (IsFaultOf h more) word.1 (refl, refl, (lo, hi), kind-made h.class h.kind word.0, no_such)
            | inr kind ↦
                let same : Kind h.kind ≡ fault = cc in
                subst (IsFaultOf h more) same (refl, (lo, hi), le, λ has. let both : true ≡ false = sym (kind_true h.class h.kind has) ∙ kind.0 in absurd cc)
          ]
    ]

-- the first fault of a header
row_err : (h : Header) (more : List ℕ) (fault : FrameFault) → HeaderFits h → row_of h ≡ Err fault → IsFaultOf h more fault
unfolding row_of
row_err h more fault fits e =
    elim (err_or (ltb h.len 24) (TooShort h.len) fault _ e) [
      | inl short ↦ subst (IsFaultOf h more) short.1 (refl, ltb-true h.len 24 short.0)
      | inr least ↦
          let lo : 24 ≤ h.len = ltb-false h.len 24 least.0 in
          elim (err_or (ltb 131072 h.len) (TooLong h.len) fault _ least.1) [
            | inl long ↦ subst (IsFaultOf h more) long.1 (refl, ltb-true 131072 h.len long.0)
            | inr most ↦
                let hi : h.len ≤ 131072 = ltb-false 131072 h.len most.0 in
                elim (sized_err (row_or (row_at h.class h.kind h.word) h.class h.kind h.word) h.kind h.len fault most.1) [
                  | inl none ↦ unnamed h more fault fits lo hi (row_at h.class h.kind h.word) refl none
                  | inr over ↦
                      let found = named_is (row_at h.class h.kind h.word) h.class h.kind h.word over.row over.found in
                      let not : ¬ HasSize h.class h.kind h.word (h.len - 24) =
                      λ has. let both : true ≡ false = sym (size_true h.class h.kind h.word (h.len - 24) over.row found has) ∙ over.size in absurd cc in
                      subst (IsFaultOf h more) over.is (refl, refl, (lo, hi), word-made h.class h.kind h.word over.row fits.word found, inl not)
                ]
          ]
    ]

partial_not : (t : Bool) (s : Step) (fault : FrameFault) → cond t Partial s ≡ Fault fault → (t ≡ false) × (s ≡ Fault fault)
partial_not true s fault e = absurd cc
partial_not false s fault e = (refl, e)

framed_none : (h : Header) (o : Option Body) (fault : FrameFault) → framed h o ≡ Fault fault → (o ≡ None) × (Payload h.kind h.len ≡ fault)
framed_none h (Some b) fault e = absurd cc
framed_none h None fault e = (refl, cc)

-- no body has a payload from which none is read
no_payload : (h : Header) (r : Row) (p : List ℕ) → row_at h.class h.kind h.word ≡ Some r → body_at r h.kind h.word p ≡ None → ¬ HasPayload h.class h.kind h.word p
no_payload h r p found none has =
    let read = body_read has.0 has.1.fits in
    let one : Some (row_for has.0) ≡ Some r = sym (named h.class h.kind h.word (has.0, has.1, has.2)) ∙ found in
    let same : row_for has.0 ≡ r = cc in
    let there : body_at r h.kind h.word p ≡ Some has.0 = rw (← same, ← has.1.same_kind, ← has.2, ← has.3) read.body in
    let both : Some has.0 ≡ None = sym there ∙ none in
    absurd cc

by_row : (h : Header) (bytes : List ℕ) (fault : FrameFault) → HeaderFits h → IsBytes bytes → (q : Result Row FrameFault) → row_of h ≡ q → step_by h q bytes ≡ Fault fault → IsFaultOf h (drop 24 bytes) fault
by_row h bytes fault fits all (Err x) row e = let same : x ≡ fault = cc in row_err h (drop 24 bytes) fault fits (row ∙ ap Err same)
by_row h bytes fault fits all (Ok r) row e =
    let is = checked h r row in
    let whole = partial_not (ltb (length bytes) h.len) _ fault e in
    let most : h.len ≤ length bytes = ltb-false (length bytes) h.len whole.0 in
    let out = framed_none h (body_at r h.kind h.word (take (h.len - 24) (drop 24 bytes))) fault whole.1 in
    let none = no_payload h r (take (h.len - 24) (drop 24 bytes)) is.row out.0 in
    let enough : h.len - 24 ≤ length (drop 24 bytes) = omega (arith, length-drop 24 bytes) in
    subst (IsFaultOf h (drop 24 bytes)) out.1 (refl, refl, (is.least, is.most), word-made h.class h.kind h.word r fits.word is.row, inr (enough, none))

pub step_fault : (bytes : List ℕ) (fault : FrameFault) → IsBytes bytes → step_of bytes ≡ Fault fault → HasFault bytes fault
unfolding step_of
step_fault bytes fault all e =
    let enough = partial_not (ltb (length bytes) 24) _ fault e in
    let long : 24 ≤ length bytes = ltb-false (length bytes) 24 enough.0 in
    let h = header_at bytes in
    let fits = header_below bytes all in
    (h, drop 24 bytes, record { text = header_back bytes all long; fits = fits; rest_bytes = IsBytes-drop 24 bytes all }, by_row h bytes fault fits all (row_of h) refl enough.1)

-- bytes that are less than a frame begin with no fault
pub partial_none : (bytes : List ℕ) → step_of bytes ≡ Partial → NoFault bytes
partial_none bytes e fault has = let both : Partial ≡ Fault fault = sym e ∙ fault_step bytes fault has in absurd cc

-- ---- what follows a fault changes nothing

outside_stays : (h : Header) (more behind : List ℕ) → IsOutside h more → IsOutside h (more ++ behind)
outside_stays h more behind (inl size) = inl size
outside_stays h more behind (inr content) =
    let enough : h.len - 24 ≤ length more = content.0 in
    let same : take (h.len - 24) (more ++ behind) ≡ take (h.len - 24) more = take-append-le (h.len - 24) more behind enough in
    inr (omega (arith, length-append more behind), subst (λ (p : List ℕ). ¬ HasPayload h.class h.kind h.word p) (sym same) content.1)

is_fault_stays : (h : Header) (more behind : List ℕ) (fault : FrameFault) → IsFaultOf h more fault → IsFaultOf h (more ++ behind) fault
is_fault_stays h more behind (TooShort len) is = is
is_fault_stays h more behind (TooLong len) is = is
is_fault_stays h more behind (Class class) is = is
is_fault_stays h more behind (Kind kind) is = is
is_fault_stays h more behind (Word kind word) is = is
is_fault_stays h more behind (Payload kind len) is = (is.0, is.1, is.2, is.3, outside_stays h more behind is.4)
is_fault_stays h more behind NoMemory is = is

-- bytes that begin with a fault still do whatever bytes come behind them
pub has_fault_stays : (bytes behind : List ℕ) (fault : FrameFault) → IsBytes behind → HasFault bytes fault → HasFault (bytes ++ behind) fault
has_fault_stays bytes behind fault all has =
    let h = has.0 in
    let more = has.1 in
    let begins = has.2 in (
      h,
      more ++ behind,
      record {
        text = ap (λ (x : List ℕ). x ++ behind) begins.text ∙ append_assoc (header_bytes h) more behind;
        fits = begins.fits;
        rest_bytes = IsBytes-append more behind begins.rest_bytes all;
      },
      is_fault_stays h more behind fault has.3,
    )
