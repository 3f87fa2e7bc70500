-- A body that is read from a payload is spelled by it.
use Rattle.std.proofs.Common.{◌≡◌, ℕ, ◌*◌, ◌/◌, ◌^◌, ◌<◌, ◌≤◌, ◌==◌, Bool, true, false, cond, ltb, List, length, drop, Option, Some, None, option_map, refl, sym, subst, arith}
use Rattle.std.specs.List.{list_any}
use Rattle.std.proofs.lemmas.Bool.{ltb-true}
use Rattle.std.proofs.lemmas.Bool.Decides.{nat_tests}
use Rattle.std.proofs.lemmas.List.{length-drop}
use Rattle.sp_base.specs.Names.{sp_error_of}
use Rattle.sp_base.specs.declared.names.SpError.{SpError}
use Rattle.sp_frames.specs.declared.frame.Body.{Body}
use Rattle.sp_frames.specs.declared.frame.Body.TheVariants as body
use Rattle.sp_frames.specs.declared.rows.Row.{Row}
use Rattle.sp_frames.specs.declared.rows.Row.TheVariants as row
use Rattle.sp_frames.specs.Fields.{IsBytes}
use Rattle.sp_frames.specs.Grammar.{is_answer, is_text_answer, parts_of, payload_of, BodyFits}
use Rattle.sp_frames.specs.Reading.{front_at, nth, has_size, front_in, words_at, cookie_from, body_if, body_at}
use Rattle.sp_frames.proofs.FieldLaws.{IsBytes-drop, front_back, front_below, front_whole, no_items}
use Rattle.sp_frames.proofs.WordLaws.{words_len, words_back, words_below, each_below}
use Rattle.sp_frames.proofs.TableLaws.{same_number, within_is, IsRow, error_number}

-- a body of these parts
pub record IsOf (c k w : ℕ) (p : List ℕ) (b : Body) : Type 0 where
  pub class : (parts_of b).class ≡ c
  pub kind : (parts_of b).kind ≡ k
  pub word : (parts_of b).word ≡ w
  pub payload : payload_of b ≡ p
  pub fits : BodyFits b

words_count : (n : ℕ) → has_size row.Sys n ≡ true → (n ≤ 64) × (n ≡ 8 * (n / 8))
words_count n e = grind (arith, nat_tests)

-- a body of a name has no zero in it
name_is : (make : List ℕ → Body) (t : Bool) (bytes : List ℕ) (b : Body) → option_map make (cond t None (Some bytes)) ≡ Some b → (t ≡ false) × (make bytes ≡ b)
name_is make true bytes b e = absurd cc
name_is make false bytes b e = (refl, cc)

-- a body under a test passed it
test_is : (t : Bool) (made b : Body) → body_if t made ≡ Some b → (t ≡ true) × (made ≡ b)
test_is true made b e = (refl, cc)
test_is false made b e = absurd cc

-- a refusal has the error that its word is
refusal_is : (k : ℕ) (o : Option SpError) (b : Body) → option_map (body.Refused k) o ≡ Some b → (why : SpError) × (o ≡ Some why) × (body.Refused k why ≡ b)
refusal_is k None b e = absurd cc
refusal_is k (Some why) b e = (why, refl, cc)

pub body_found : (r : Row) (c k w : ℕ) (p : List ℕ) (b : Body) → IsBytes p → w < 2 ^ 32 → IsRow c k w r → has_size r (length p) ≡ true → body_at r k w p ≡ Some b → IsOf c k w p b
body_found row.Guest c k w p b fits lt is size e =
    let l = within_is 1 255 (length p) size in
    let s = name_is body.Guest (list_any (λ b. b == 0) p) p b e in
    subst (IsOf c k w p) s.1 (record { class = is.class; kind = same_number k 0 is.kind; word = same_number w 0 is.word; payload = refl; fits = record { word = omega arith; front = tt; row = record { some = omega (arith, l.0); few = l.1; bytes = fits; nonzero = s.0 } } })
body_found row.Join c k w p b fits lt is size e =
    let l = within_is 17 271 (length p) size in
    let front = front_at 0 (front_in row.Join) p in
    let s = name_is (body.Join (cookie_from front)) (list_any (λ b. b == 0) (drop 16 p)) (drop 16 p) b e in
    let len = length-drop 16 p in
    subst (IsOf c k w p) s.1 (record { class = is.class; kind = same_number k 0 is.kind; word = same_number w 1 is.word; payload = front_back (front_in row.Join) 0 p fits (omega (arith, l.0)); fits = record { word = omega arith; front = front_below (front_in row.Join) 0 p fits; row = record { some = omega (arith, l.0, len); few = omega (arith, l.1, len); bytes = IsBytes-drop 16 p fits; nonzero = s.0 } } })
body_found row.Image c k w p b fits lt is size e =
    let l = within_is 17 271 (length p) size in
    let front = front_at 0 (front_in row.Image) p in
    let s = name_is (body.Image (cookie_from front)) (list_any (λ b. b == 0) (drop 16 p)) (drop 16 p) b e in
    let len = length-drop 16 p in
    subst (IsOf c k w p) s.1 (record { class = is.class; kind = same_number k 0 is.kind; word = same_number w 2 is.word; payload = front_back (front_in row.Image) 0 p fits (omega (arith, l.0)); fits = record { word = omega arith; front = front_below (front_in row.Image) 0 p fits; row = record { some = omega (arith, l.0, len); few = omega (arith, l.1, len); bytes = IsBytes-drop 16 p fits; nonzero = s.0 } } })
body_found row.Sys c k w p b fits lt is size e =
    let l = words_count (length p) size in
    let made : body.Sys w (words_at (length p / 8) p) ≡ b = cc in
    subst (IsOf c k w p) made (record { class = is.class; kind = same_number k 1 is.kind; word = refl; payload = words_back (length p / 8) p fits l.1; fits = record { word = lt; front = tt; row = record { few = omega (arith, words_len (length p / 8) p, l.0, l.1); fits = each_below (words_at (length p / 8) p) (words_below (length p / 8) p fits) } } })
body_found row.AskBytes c k w p b fits lt is size e =
    let l : length p ≡ 16 = sym (same_number (length p) 16 size) in
    let front = front_at 0 (front_in row.AskBytes) p in
    let index : w < 8 = ltb-true w 8 is.word in
    let made : body.AskBytes w (nth front 0) (nth front 1) ≡ b = cc in
    subst (IsOf c k w p) made (record { class = is.class; kind = same_number k 2 is.kind; word = refl; payload = front_whole (front_in row.AskBytes) p fits l; fits = record { word = lt; front = front_below (front_in row.AskBytes) 0 p fits; row = index } })
body_found row.AskText c k w p b fits lt is size e =
    let l : length p ≡ 16 = sym (same_number (length p) 16 size) in
    let front = front_at 0 (front_in row.AskText) p in
    let index : w < 8 = ltb-true w 8 is.word in
    let made : body.AskText w (nth front 0) (nth front 1) ≡ b = cc in
    subst (IsOf c k w p) made (record { class = is.class; kind = same_number k 3 is.kind; word = refl; payload = front_whole (front_in row.AskText) p fits l; fits = record { word = lt; front = front_below (front_in row.AskText) 0 p fits; row = index } })
body_found row.Put c k w p b fits lt is size e =
    let l = within_is 9 131048 (length p) size in
    let front = front_at 0 (front_in row.Put) p in
    let index : w < 8 = ltb-true w 8 is.word in
    let made : body.Put w (nth front 0) (drop 8 p) ≡ b = cc in
    subst (IsOf c k w p) made (record { class = is.class; kind = same_number k 4 is.kind; word = refl; payload = front_back (front_in row.Put) 0 p fits (omega (arith, l.0)); fits = record { word = lt; front = front_below (front_in row.Put) 0 p fits; row = (index, omega (arith, l.0, length-drop 8 p), (omega (arith, l.1, length-drop 8 p), IsBytes-drop 8 p fits)) } })
body_found row.Prefork c k w p b fits lt is size e =
    let l : length p ≡ 0 = sym (same_number (length p) 0 size) in
    let made : body.Prefork ≡ b = cc in
    subst (IsOf c k w p) made (record { class = is.class; kind = same_number k 5 is.kind; word = same_number w 0 is.word; payload = no_items p l; fits = record { word = omega arith; front = tt; row = tt } })
body_found row.Cancel c k w p b fits lt is size e =
    let l : length p ≡ 16 = sym (same_number (length p) 16 size) in
    let front = front_at 0 (front_in row.Cancel) p in
    let made : body.Cancel (record { number = nth front 0; salt = nth front 1 }) ≡ b = cc in
    subst (IsOf c k w p) made (record { class = is.class; kind = same_number k 5 is.kind; word = same_number w 1 is.word; payload = front_whole (front_in row.Cancel) p fits l; fits = record { word = omega arith; front = front_below (front_in row.Cancel) 0 p fits; row = tt } })
body_found row.Preexec c k w p b fits lt is size e =
    let l : length p ≡ 0 = sym (same_number (length p) 0 size) in
    let made : body.Preexec ≡ b = cc in
    subst (IsOf c k w p) made (record { class = is.class; kind = same_number k 6 is.kind; word = same_number w 0 is.word; payload = no_items p l; fits = record { word = omega arith; front = tt; row = tt } })
body_found row.Hello c k w p b fits lt is size e =
    let l : length p ≡ 4 = sym (same_number (length p) 4 size) in
    let front = front_at 0 (front_in row.Hello) p in
    let made : body.Hello (record { 0 = nth front 0 }) ≡ b = cc in
    subst (IsOf c k w p) made (record { class = is.class; kind = same_number k 0 is.kind; word = same_number w 0 is.word; payload = front_whole (front_in row.Hello) p fits l; fits = record { word = omega arith; front = front_below (front_in row.Hello) 0 p fits; row = tt } })
body_found row.Joined c k w p b fits lt is size e =
    let l : length p ≡ 4 = sym (same_number (length p) 4 size) in
    let front = front_at 0 (front_in row.Joined) p in
    let made : body.Joined (record { 0 = nth front 0 }) ≡ b = cc in
    subst (IsOf c k w p) made (record { class = is.class; kind = same_number k 0 is.kind; word = same_number w 1 is.word; payload = front_whole (front_in row.Joined) p fits l; fits = record { word = omega arith; front = front_below (front_in row.Joined) 0 p fits; row = tt } })
body_found row.Imaged c k w p b fits lt is size e =
    let l : length p ≡ 12 = sym (same_number (length p) 12 size) in
    let front = front_at 0 (front_in row.Imaged) p in
    let made : body.Imaged (record { 0 = nth front 0 }) (record { 0 = nth front 1 }) ≡ b = cc in
    subst (IsOf c k w p) made (record { class = is.class; kind = same_number k 0 is.kind; word = same_number w 2 is.word; payload = front_whole (front_in row.Imaged) p fits l; fits = record { word = omega arith; front = front_below (front_in row.Imaged) 0 p fits; row = tt } })
body_found row.Answered c k w p b fits lt is size e =
    let l : length p ≡ 24 = sym (same_number (length p) 24 size) in
    let front = front_at 0 (front_in row.Answered) p in
    let made : body.Answered (record { err = w; ret0 = nth front 0; ret1 = nth front 1; place = record { 0 = nth front 2 } }) ≡ b = cc in
    subst (IsOf c k w p) made (record { class = is.class; kind = same_number k 1 is.kind; word = refl; payload = front_whole (front_in row.Answered) p fits l; fits = record { word = lt; front = front_below (front_in row.Answered) 0 p fits; row = tt } })
body_found row.GotBytes c k w p b fits lt is size e =
    let l = within_is 4 131048 (length p) size in
    let front = front_at 0 (front_in row.GotBytes) p in
    let index : w < 8 = ltb-true w 8 is.word in
    let s = test_is (is_answer (nth front 0) (drop 4 p)) (body.GotBytes w (nth front 0) (drop 4 p)) b e in
    subst (IsOf c k w p) s.1 (record { class = is.class; kind = same_number k 2 is.kind; word = refl; payload = front_back (front_in row.GotBytes) 0 p fits (omega (arith, l.0)); fits = record { word = lt; front = front_below (front_in row.GotBytes) 0 p fits; row = (index, (omega (arith, l.1, length-drop 4 p), IsBytes-drop 4 p fits), s.0) } })
body_found row.GotText c k w p b fits lt is size e =
    let l = within_is 4 1027 (length p) size in
    let front = front_at 0 (front_in row.GotText) p in
    let index : w < 8 = ltb-true w 8 is.word in
    let s = test_is (is_text_answer (nth front 0) (drop 4 p)) (body.GotText w (nth front 0) (drop 4 p)) b e in
    subst (IsOf c k w p) s.1 (record { class = is.class; kind = same_number k 3 is.kind; word = refl; payload = front_back (front_in row.GotText) 0 p fits (omega (arith, l.0)); fits = record { word = lt; front = front_below (front_in row.GotText) 0 p fits; row = (index, (omega (arith, l.1, length-drop 4 p), IsBytes-drop 4 p fits), s.0) } })
body_found row.Forked c k w p b fits lt is size e =
    let l : length p ≡ 32 = sym (same_number (length p) 32 size) in
    let front = front_at 0 (front_in row.Forked) p in
    let s = test_is (ltb (nth front 3) 4294967296) (body.Forked (record { number = nth front 0; salt = nth front 1 }) (record { 0 = nth front 2 }) (record { 0 = nth front 3 })) b e in
    subst (IsOf c k w p) s.1 (record { class = is.class; kind = same_number k 5 is.kind; word = same_number w 0 is.word; payload = front_whole (front_in row.Forked) p fits l; fits = record { word = omega arith; front = front_below (front_in row.Forked) 0 p fits; row = ltb-true (nth front 3) 4294967296 s.0 } })
body_found row.Cancelled c k w p b fits lt is size e =
    let l : length p ≡ 0 = sym (same_number (length p) 0 size) in
    let made : body.Cancelled ≡ b = cc in
    subst (IsOf c k w p) made (record { class = is.class; kind = same_number k 5 is.kind; word = same_number w 1 is.word; payload = no_items p l; fits = record { word = omega arith; front = tt; row = tt } })
body_found row.ExecReady c k w p b fits lt is size e =
    let l : length p ≡ 16 = sym (same_number (length p) 16 size) in
    let front = front_at 0 (front_in row.ExecReady) p in
    let made : body.ExecReady (record { number = nth front 0; salt = nth front 1 }) ≡ b = cc in
    subst (IsOf c k w p) made (record { class = is.class; kind = same_number k 6 is.kind; word = same_number w 0 is.word; payload = front_whole (front_in row.ExecReady) p fits l; fits = record { word = omega arith; front = front_below (front_in row.ExecReady) 0 p fits; row = tt } })
body_found row.Refused c k w p b fits lt is size e =
    let l : length p ≡ 0 = sym (same_number (length p) 0 size) in
    let s = refusal_is k (sp_error_of w) b e in
    let number = error_number w s.0 s.1 in
    subst (IsOf c k w p) s.2 (record { class = is.class; kind = refl; word = number; payload = no_items p l; fits = record { word = rw number lt; front = tt; row = is.kind } })
