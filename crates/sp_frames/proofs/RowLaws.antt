-- What rows there are, in words of the grammar: each has a body of each word and length that it allows.
use Rattle.std.proofs.Common.{◌≡◌, inl, inr, zero, suc, ℕ, ◌-◌, ◌^◌, ◌<◌, ◌≤◌, ◌==◌, Bool, true, false, List, [], ◌∷◌, ◌++◌, length, Some, option_map, refl, sym, ap, ◌∙◌, subst, arith, replicate, length-append}
use Rattle.std.specs.List.{list_any}
use Rattle.std.proofs.lemmas.List.{length-replicate}
use Rattle.sp_frames.specs.declared.frame.Body.{Body}
use Rattle.sp_frames.specs.declared.frame.Body.TheVariants as body
use Rattle.sp_frames.specs.declared.rows.Row.{Row}
use Rattle.sp_frames.specs.declared.rows.Row.TheVariants as row
use Rattle.sp_frames.specs.Fields.{of32, of64, IsBytes}
use Rattle.sp_frames.specs.Grammar.{parts_of, BodyFits}
use Rattle.sp_frames.specs.Faults.{HasKind, HasWord, HasSize, HasPayload}
use Rattle.sp_frames.specs.Reading.{front_end, rows, class_in, has_type, has_word, has_size, front_in, body_at, is_of, row_at, has_kind}
use Rattle.sp_frames.proofs.TableLaws.{same_number, within_is, either, both, row_is, error_there}
use Rattle.sp_frames.proofs.FoundLaws.{body_found}

no_zeros : (n : ℕ) → list_any (λ b. b == 0) (replicate n 1) ≡ false
no_zeros zero = refl
no_zeros (suc n) = no_zeros n

same_bytes : (n b : ℕ) → b < 2 ^ 8 → IsBytes (replicate n b)
same_bytes zero b lt i = omega arith
same_bytes (suc n) b lt zero = lt
same_bytes (suc n) b lt (suc i) = same_bytes n b lt i

pub IsBytes-append : (xs ys : List ℕ) → IsBytes xs → IsBytes ys → IsBytes (xs ++ ys)
IsBytes-append [] ys hx hy i = hy i
IsBytes-append (x ∷ xs) ys hx hy zero = hx 0
IsBytes-append (x ∷ xs) ys hx hy (suc i) = IsBytes-append xs ys (λ i. hx (suc i)) hy i

-- numbers that are 0, and bytes that are 1
abbrev sample : Row → ℕ → List ℕ
sample r n = replicate (front_end 0 (front_in r)) 0 ++ replicate (n - front_end 0 (front_in r)) 1

-- a payload has room for the row's numbers
room : (r : Row) (n : ℕ) → has_size r n ≡ true → front_end 0 (front_in r) ≤ n
room row.Guest n e = omega arith
room row.Join n e = omega (arith, (within_is 17 271 n e).0)
room row.Image n e = omega (arith, (within_is 17 271 n e).0)
room row.Sys n e = omega arith
room row.AskBytes n e = omega (arith, same_number n 16 e)
room row.AskText n e = omega (arith, same_number n 16 e)
room row.Put n e = omega (arith, (within_is 9 131048 n e).0)
room row.Prefork n e = omega arith
room row.Cancel n e = omega (arith, same_number n 16 e)
room row.Preexec n e = omega arith
room row.Hello n e = omega (arith, same_number n 4 e)
room row.Joined n e = omega (arith, same_number n 4 e)
room row.Imaged n e = omega (arith, same_number n 12 e)
room row.Answered n e = omega (arith, same_number n 24 e)
room row.GotBytes n e = omega (arith, (within_is 4 131048 n e).0)
room row.GotText n e = omega (arith, (within_is 4 1027 n e).0)
room row.Forked n e = omega (arith, same_number n 32 e)
room row.Cancelled n e = omega arith
room row.ExecReady n e = omega (arith, same_number n 16 e)
room row.Refused n e = omega arith

-- a payload that spells a body
record Spells (r : Row) (k w : ℕ) (p : List ℕ) : Type 0 where
  body : Body
  read : body_at r k w p ≡ Some body

sample-spells : (r : Row) (k w n : ℕ) → has_word r w ≡ true → Spells r k w (sample r n)
unfolding of32 of64
sample-spells row.Guest k w n has = record { body = body.Guest (replicate (n - 0) 1); read = rw (no_zeros (n - 0)) refl }
sample-spells row.Join k w n has = record { body = body.Join (record { number = 0; salt = 0 }) (replicate (n - 16) 1); read = rw (no_zeros (n - 16)) refl }
sample-spells row.Image k w n has = record { body = body.Image (record { number = 0; salt = 0 }) (replicate (n - 16) 1); read = rw (no_zeros (n - 16)) refl }
sample-spells row.Sys k w n has = record { body = _; read = refl }
sample-spells row.AskBytes k w n has = record { body = _; read = refl }
sample-spells row.AskText k w n has = record { body = _; read = refl }
sample-spells row.Put k w n has = record { body = _; read = refl }
sample-spells row.Prefork k w n has = record { body = _; read = refl }
sample-spells row.Cancel k w n has = record { body = _; read = refl }
sample-spells row.Preexec k w n has = record { body = _; read = refl }
sample-spells row.Hello k w n has = record { body = _; read = refl }
sample-spells row.Joined k w n has = record { body = _; read = refl }
sample-spells row.Imaged k w n has = record { body = _; read = refl }
sample-spells row.Answered k w n has = record { body = _; read = refl }
sample-spells row.GotBytes k w n has = record { body = _; read = refl }
sample-spells row.GotText k w n has = record { body = body.GotText w 0 (replicate (n - 4) 1); read = rw (no_zeros (n - 4)) refl }
sample-spells row.Forked k w n has = record { body = _; read = refl }
sample-spells row.Cancelled k w n has = record { body = _; read = refl }
sample-spells row.ExecReady k w n has = record { body = _; read = refl }
sample-spells row.Refused k w n has =
    let is = error_there w has in
    record { body = body.Refused k is.0; read = ap (option_map (body.Refused k)) is.1 }

-- a word that a row has
abbrev a_word : Row → ℕ
a_word row.Guest = 0
a_word row.Join = 1
a_word row.Image = 2
a_word row.Sys = 0
a_word row.AskBytes = 0
a_word row.AskText = 0
a_word row.Put = 0
a_word row.Prefork = 0
a_word row.Cancel = 1
a_word row.Preexec = 0
a_word row.Hello = 0
a_word row.Joined = 1
a_word row.Imaged = 2
a_word row.Answered = 0
a_word row.GotBytes = 0
a_word row.GotText = 0
a_word row.Forked = 0
a_word row.Cancelled = 1
a_word row.ExecReady = 0
a_word row.Refused = 1

-- a length that a row's payload may have
abbrev a_size : Row → ℕ
a_size row.Guest = 1
a_size row.Join = 17
a_size row.Image = 17
a_size row.Sys = 0
a_size row.AskBytes = 16
a_size row.AskText = 16
a_size row.Put = 9
a_size row.Prefork = 0
a_size row.Cancel = 16
a_size row.Preexec = 0
a_size row.Hello = 4
a_size row.Joined = 4
a_size row.Imaged = 12
a_size row.Answered = 24
a_size row.GotBytes = 4
a_size row.GotText = 4
a_size row.Forked = 32
a_size row.Cancelled = 0
a_size row.ExecReady = 16
a_size row.Refused = 0

a_size-fits : (r : Row) → has_size r (a_size r) ≡ true
a_size-fits row.Guest = refl
a_size-fits row.Join = refl
a_size-fits row.Image = refl
a_size-fits row.Sys = refl
a_size-fits row.AskBytes = refl
a_size-fits row.AskText = refl
a_size-fits row.Put = refl
a_size-fits row.Prefork = refl
a_size-fits row.Cancel = refl
a_size-fits row.Preexec = refl
a_size-fits row.Hello = refl
a_size-fits row.Joined = refl
a_size-fits row.Imaged = refl
a_size-fits row.Answered = refl
a_size-fits row.GotBytes = refl
a_size-fits row.GotText = refl
a_size-fits row.Forked = refl
a_size-fits row.Cancelled = refl
a_size-fits row.ExecReady = refl
a_size-fits row.Refused = refl

a_word-fits : (r : Row) → a_word r < 2 ^ 32
a_word-fits row.Guest = omega arith
a_word-fits row.Join = omega arith
a_word-fits row.Image = omega arith
a_word-fits row.Sys = omega arith
a_word-fits row.AskBytes = omega arith
a_word-fits row.AskText = omega arith
a_word-fits row.Put = omega arith
a_word-fits row.Prefork = omega arith
a_word-fits row.Cancel = omega arith
a_word-fits row.Preexec = omega arith
a_word-fits row.Hello = omega arith
a_word-fits row.Joined = omega arith
a_word-fits row.Imaged = omega arith
a_word-fits row.Answered = omega arith
a_word-fits row.GotBytes = omega arith
a_word-fits row.GotText = omega arith
a_word-fits row.Forked = omega arith
a_word-fits row.Cancelled = omega arith
a_word-fits row.ExecReady = omega arith
a_word-fits row.Refused = omega arith

-- each row stands in the table
a_row : (r : Row) (k : ℕ) → has_type r k ≡ true → row_at (class_in r) k (a_word r) ≡ Some r
unfolding row_at
a_row row.Guest k e = subst (λ k. row_at (class_in row.Guest) k (a_word row.Guest) ≡ Some row.Guest) (same_number k 0 e) refl
a_row row.Join k e = subst (λ k. row_at (class_in row.Join) k (a_word row.Join) ≡ Some row.Join) (same_number k 0 e) refl
a_row row.Image k e = subst (λ k. row_at (class_in row.Image) k (a_word row.Image) ≡ Some row.Image) (same_number k 0 e) refl
a_row row.Sys k e = subst (λ k. row_at (class_in row.Sys) k (a_word row.Sys) ≡ Some row.Sys) (same_number k 1 e) refl
a_row row.AskBytes k e = subst (λ k. row_at (class_in row.AskBytes) k (a_word row.AskBytes) ≡ Some row.AskBytes) (same_number k 2 e) refl
a_row row.AskText k e = subst (λ k. row_at (class_in row.AskText) k (a_word row.AskText) ≡ Some row.AskText) (same_number k 3 e) refl
a_row row.Put k e = subst (λ k. row_at (class_in row.Put) k (a_word row.Put) ≡ Some row.Put) (same_number k 4 e) refl
a_row row.Prefork k e = subst (λ k. row_at (class_in row.Prefork) k (a_word row.Prefork) ≡ Some row.Prefork) (same_number k 5 e) refl
a_row row.Cancel k e = subst (λ k. row_at (class_in row.Cancel) k (a_word row.Cancel) ≡ Some row.Cancel) (same_number k 5 e) refl
a_row row.Preexec k e = subst (λ k. row_at (class_in row.Preexec) k (a_word row.Preexec) ≡ Some row.Preexec) (same_number k 6 e) refl
a_row row.Hello k e = subst (λ k. row_at (class_in row.Hello) k (a_word row.Hello) ≡ Some row.Hello) (same_number k 0 e) refl
a_row row.Joined k e = subst (λ k. row_at (class_in row.Joined) k (a_word row.Joined) ≡ Some row.Joined) (same_number k 0 e) refl
a_row row.Imaged k e = subst (λ k. row_at (class_in row.Imaged) k (a_word row.Imaged) ≡ Some row.Imaged) (same_number k 0 e) refl
a_row row.Answered k e = subst (λ k. row_at (class_in row.Answered) k (a_word row.Answered) ≡ Some row.Answered) (same_number k 1 e) refl
a_row row.GotBytes k e = subst (λ k. row_at (class_in row.GotBytes) k (a_word row.GotBytes) ≡ Some row.GotBytes) (same_number k 2 e) refl
a_row row.GotText k e = subst (λ k. row_at (class_in row.GotText) k (a_word row.GotText) ≡ Some row.GotText) (same_number k 3 e) refl
a_row row.Forked k e = subst (λ k. row_at (class_in row.Forked) k (a_word row.Forked) ≡ Some row.Forked) (same_number k 5 e) refl
a_row row.Cancelled k e = subst (λ k. row_at (class_in row.Cancelled) k (a_word row.Cancelled) ≡ Some row.Cancelled) (same_number k 5 e) refl
a_row row.ExecReady k e = subst (λ k. row_at (class_in row.ExecReady) k (a_word row.ExecReady) ≡ Some row.ExecReady) (same_number k 6 e) refl
a_row row.Refused k e = rw e refl

-- a payload that is read is a row's
pub payload-made : (c k w : ℕ) (r : Row) (p : List ℕ) (b : Body) → IsBytes p → w < 2 ^ 32 → row_at c k w ≡ Some r → has_size r (length p) ≡ true → body_at r k w p ≡ Some b → HasPayload c k w p
payload-made c k w r p b bytes lt e size read =
    let is = body_found r c k w p b bytes lt (row_is c k w r e) size read in
    (b, record { fits = is.fits; same_class = is.class; same_kind = is.kind }, is.word, is.payload)

sample-size : (r : Row) (n : ℕ) → has_size r n ≡ true → length (sample r n) ≡ n
sample-size r n size =
    let front = front_end 0 (front_in r) in
    let zeros : List ℕ = replicate front 0 in
    let ones : List ℕ = replicate (n - front) 1 in
    let a : length zeros ≡ front = length-replicate front 0 in
    let b : length ones ≡ n - front = length-replicate (n - front) 1 in
    length-append zeros ones ∙ omega (arith, a, b, room r n size)

-- a length that a row allows is that of a body
pub size-made : (c k w n : ℕ) (r : Row) → w < 2 ^ 32 → row_at c k w ≡ Some r → has_size r n ≡ true → HasSize c k w n
size-made c k w n r lt e size =
    let p = sample r n in
    let front = front_end 0 (front_in r) in
    let bytes : IsBytes p = IsBytes-append (replicate front 0) (replicate (n - front) 1) (same_bytes front 0 (omega arith)) (same_bytes (n - front) 1 (omega arith)) in
    let len : length p ≡ n = sample-size r n size in
    let s = sample-spells r k w n (row_is c k w r e).word in
    let is = payload-made c k w r p s.body bytes lt e (rw len size) s.read in
    (is.0, is.1, is.2, ap length is.3 ∙ len)

-- a row that is found is a body's
pub word-made : (c k w : ℕ) (r : Row) → w < 2 ^ 32 → row_at c k w ≡ Some r → HasWord c k w
word-made c k w r lt e = let is = size-made c k w (a_size r) r lt e (a_size-fits r) in (is.0, is.1, is.2)

some_passes : {X : Type 0} (p : X → Bool) (xs : List X) → list_any p xs ≡ true → (x : X) × (p x ≡ true)
some_passes p [] e = absurd cc
some_passes p (x ∷ xs) e =
    elim (either (p x) (list_any p xs) e) [ inl here ↦ (x, here) | inr later ↦ some_passes p xs later ]

-- a type that is found is a body's
pub kind-made : (c k : ℕ) → has_kind c k ≡ true → HasKind c k
unfolding has_kind
kind-made c k e =
    let s = some_passes (is_of c k) rows e in
    let r = s.0 in
    let of = both (class_in r == c) (has_type r k) s.1 in
    let class : class_in r ≡ c = sym (same_number (class_in r) c of.0) in
    let is = word-made (class_in r) k (a_word r) r (a_word-fits r) (a_row r k of.1) in
    (is.0, record { fits = is.1.fits; same_class = is.1.same_class ∙ class; same_kind = is.1.same_kind })

-- the class and type of a body are found
pub kind-read : (b : Body) → BodyFits b → has_kind (parts_of b).class (parts_of b).kind ≡ true
unfolding has_kind
kind-read (body.Guest name) fits = refl
kind-read (body.Join cookie name) fits = refl
kind-read (body.Image cookie name) fits = refl
kind-read (body.Sys num words) fits = refl
kind-read (body.AskBytes index addr len) fits = refl
kind-read (body.AskText index addr max) fits = refl
kind-read (body.Put index addr bytes) fits = refl
kind-read body.Prefork fits = refl
kind-read (body.Cancel cookie) fits = refl
kind-read body.Preexec fits = refl
kind-read (body.Hello pid) fits = refl
kind-read (body.Joined pid) fits = refl
kind-read (body.Imaged pid place) fits = refl
kind-read (body.Answered answer) fits = refl
kind-read (body.GotBytes index err bytes) fits = refl
kind-read (body.GotText index err bytes) fits = refl
kind-read (body.Forked cookie place pid) fits = refl
kind-read body.Cancelled fits = refl
kind-read (body.ExecReady cookie) fits = refl
kind-read (body.Refused kind why) fits = rw fits.row refl
