-- A body that is spelled by a payload is read from it.
use Rattle.std.proofs.Common.{◌≡◌, ℕ, ◌+◌, ◌*◌, ◌/◌, ◌≤◌, true, List, [], ◌∷◌, ◌++◌, length, drop, Some, refl, ap, ◌∙◌, arith, length-append}
use Rattle.std.specs.List.{flat_map, AllByRecursion}
use Rattle.std.proofs.lemmas.Bool.{lt-ltb}
use Rattle.std.proofs.lemmas.Bool.Decides.{nat_tests}
use Rattle.sp_base.specs.Names.{sp_error_number}
use Rattle.sp_frames.specs.declared.frame.Body.{Body}
use Rattle.sp_frames.specs.declared.frame.Body.TheVariants as body
use Rattle.sp_frames.specs.declared.rows.Row.{Row}
use Rattle.sp_frames.specs.declared.rows.Row.TheVariants as row
use Rattle.sp_frames.specs.Fields.{le64, Number, n32, n64, NumberFits, front_bytes}
use Rattle.sp_frames.specs.Grammar.{cookie_numbers, parts_of, payload_of, BodyFits}
use Rattle.sp_frames.specs.Reading.{front_at, front_end, has_size, front_in, body_from, body_at, row_at}
use Rattle.sp_frames.proofs.FieldLaws.{front_len, front_again}
use Rattle.sp_frames.proofs.WordLaws.{words_size, words_again, all_below}
use Rattle.sp_frames.proofs.TableLaws.{within_true, error_word, error_again}

-- the row that a body is written by
abbrev pub row_for : Body → Row
row_for (body.Guest name) = row.Guest
row_for (body.Join cookie name) = row.Join
row_for (body.Image cookie name) = row.Image
row_for (body.Sys num words) = row.Sys
row_for (body.AskBytes index addr len) = row.AskBytes
row_for (body.AskText index addr max) = row.AskText
row_for (body.Put index addr bytes) = row.Put
row_for body.Prefork = row.Prefork
row_for (body.Cancel cookie) = row.Cancel
row_for body.Preexec = row.Preexec
row_for (body.Hello pid) = row.Hello
row_for (body.Joined pid) = row.Joined
row_for (body.Imaged pid place) = row.Imaged
row_for (body.Answered answer) = row.Answered
row_for (body.GotBytes index err bytes) = row.GotBytes
row_for (body.GotText index err bytes) = row.GotText
row_for (body.Forked cookie place pid) = row.Forked
row_for body.Cancelled = row.Cancelled
row_for (body.ExecReady cookie) = row.ExecReady
row_for (body.Refused kind why) = row.Refused

-- what a body that fits is read from
pub record IsRead (b : Body) : Type 0 where
  pub row : row_at (parts_of b).class (parts_of b).kind (parts_of b).word ≡ Some (row_for b)
  pub size : has_size (row_for b) (length (payload_of b)) ≡ true
  pub few : length (payload_of b) ≤ 131048
  pub body : body_at (row_for b) (parts_of b).kind (parts_of b).word (payload_of b) ≡ Some b

words_fit : (n k : ℕ) → n ≡ 8 * k → k ≤ 8 → has_size row.Sys n ≡ true
words_fit n k e le = grind (arith, nat_tests)

eighth : (n k : ℕ) → n ≡ 8 * k → n / 8 ≡ k
eighth n k e = omega arith

-- numbers and what follows them have the length of their widths and its own
pub front_size : (numbers : List Number) (tail : List ℕ) → length (front_bytes numbers ++ tail) ≡ front_end 0 numbers + length tail
front_size numbers tail = omega (arith, length-append (front_bytes numbers) tail, front_len numbers 0)

-- numbers and what follows them are read by a row of the same widths
read_body : (r : Row) (k w : ℕ) (numbers : List Number) (tail : List ℕ) (b : Body) → ((p : List ℕ) → front_at 0 (front_in r) p ≡ front_at 0 numbers p) → front_end 0 (front_in r) ≡ front_end 0 numbers
    → AllByRecursion NumberFits numbers → body_from r k w numbers tail ≡ Some b → body_at r k w (front_bytes numbers ++ tail) ≡ Some b
read_body r k w numbers tail b widths ends fits e =
    let p = front_bytes numbers ++ tail in
    let again = front_again numbers 0 p tail fits refl in
    ap (λ (front : List Number). body_from r k w front (drop (front_end 0 (front_in r)) p)) (widths p ∙ again.0) ∙ ap (body_from r k w numbers) (ap (λ n. drop n p) ends ∙ again.1) ∙ e

pub body_read : (b : Body) → BodyFits b → IsRead b
unfolding row_at
body_read (body.Guest name) fits =
    let size = front_size ([]) name in
    record {
      row = refl;
      size = within_true 1 255 (length (payload_of (body.Guest name))) (omega (arith, size, fits.row.some, fits.row.few)) (omega (arith, size, fits.row.some, fits.row.few));
      few = omega (arith, size, fits.row.some, fits.row.few);
      body = read_body row.Guest 0 0 ([]) name (body.Guest name) (λ p. refl) refl fits.front (rw fits.row.nonzero refl);
    }
body_read (body.Join cookie name) fits =
    let size = front_size (cookie_numbers cookie []) name in
    record {
      row = refl;
      size = within_true 17 271 (length (payload_of (body.Join cookie name))) (omega (arith, size, fits.row.some, fits.row.few)) (omega (arith, size, fits.row.some, fits.row.few));
      few = omega (arith, size, fits.row.some, fits.row.few);
      body = read_body row.Join 0 1 (cookie_numbers cookie []) name (body.Join cookie name) (λ p. refl) refl fits.front (rw fits.row.nonzero refl);
    }
body_read (body.Image cookie name) fits =
    let size = front_size (cookie_numbers cookie []) name in
    record {
      row = refl;
      size = within_true 17 271 (length (payload_of (body.Image cookie name))) (omega (arith, size, fits.row.some, fits.row.few)) (omega (arith, size, fits.row.some, fits.row.few));
      few = omega (arith, size, fits.row.some, fits.row.few);
      body = read_body row.Image 0 2 (cookie_numbers cookie []) name (body.Image cookie name) (λ p. refl) refl fits.front (rw fits.row.nonzero refl);
    }
body_read (body.Sys num words) fits =
    let size = front_size ([]) (flat_map le64 words) in
    let count = words_size words in
    record {
      row = refl;
      size = words_fit (length (flat_map le64 words)) (length words) count fits.row.few;
      few = omega (arith, fits.row.few, count);
      body = read_body row.Sys 1 num ([]) (flat_map le64 words) (body.Sys num words) (λ p. refl) refl fits.front (rw (eighth (length (flat_map le64 words)) (length words) count, words_again words (all_below words fits.row.fits)) refl);
    }
body_read (body.AskBytes index addr len) fits =
    let size = front_size (n64 addr ∷ n64 len ∷ []) [] in
    record {
      row = rw (lt-ltb index 8 fits.row) refl;
      size = ap (has_size row.AskBytes) size;
      few = omega (arith, size);
      body = read_body row.AskBytes 2 index (n64 addr ∷ n64 len ∷ []) [] (body.AskBytes index addr len) (λ p. refl) refl fits.front (refl);
    }
body_read (body.AskText index addr max) fits =
    let size = front_size (n64 addr ∷ n64 max ∷ []) [] in
    record {
      row = rw (lt-ltb index 8 fits.row) refl;
      size = ap (has_size row.AskText) size;
      few = omega (arith, size);
      body = read_body row.AskText 3 index (n64 addr ∷ n64 max ∷ []) [] (body.AskText index addr max) (λ p. refl) refl fits.front (refl);
    }
body_read (body.Put index addr bytes) fits =
    let size = front_size (n64 addr ∷ []) bytes in
    record {
      row = rw (lt-ltb index 8 fits.row.0) refl;
      size = within_true 9 131048 (length (payload_of (body.Put index addr bytes))) (omega (arith, size, fits.row.1, fits.row.2.0)) (omega (arith, size, fits.row.1, fits.row.2.0));
      few = omega (arith, size, fits.row.1, fits.row.2.0);
      body = read_body row.Put 4 index (n64 addr ∷ []) bytes (body.Put index addr bytes) (λ p. refl) refl fits.front (refl);
    }
body_read body.Prefork fits =
    let size = front_size ([]) [] in
    record {
      row = refl;
      size = ap (has_size row.Prefork) size;
      few = omega (arith, size);
      body = read_body row.Prefork 5 0 ([]) [] body.Prefork (λ p. refl) refl fits.front (refl);
    }
body_read (body.Cancel cookie) fits =
    let size = front_size (cookie_numbers cookie []) [] in
    record {
      row = refl;
      size = ap (has_size row.Cancel) size;
      few = omega (arith, size);
      body = read_body row.Cancel 5 1 (cookie_numbers cookie []) [] (body.Cancel cookie) (λ p. refl) refl fits.front (refl);
    }
body_read body.Preexec fits =
    let size = front_size ([]) [] in
    record {
      row = refl;
      size = ap (has_size row.Preexec) size;
      few = omega (arith, size);
      body = read_body row.Preexec 6 0 ([]) [] body.Preexec (λ p. refl) refl fits.front (refl);
    }
body_read (body.Hello pid) fits =
    let size = front_size (n32 pid.0 ∷ []) [] in
    record {
      row = refl;
      size = ap (has_size row.Hello) size;
      few = omega (arith, size);
      body = read_body row.Hello 0 0 (n32 pid.0 ∷ []) [] (body.Hello pid) (λ p. refl) refl fits.front (refl);
    }
body_read (body.Joined pid) fits =
    let size = front_size (n32 pid.0 ∷ []) [] in
    record {
      row = refl;
      size = ap (has_size row.Joined) size;
      few = omega (arith, size);
      body = read_body row.Joined 0 1 (n32 pid.0 ∷ []) [] (body.Joined pid) (λ p. refl) refl fits.front (refl);
    }
body_read (body.Imaged pid place) fits =
    let size = front_size (n32 pid.0 ∷ n64 place.0 ∷ []) [] in
    record {
      row = refl;
      size = ap (has_size row.Imaged) size;
      few = omega (arith, size);
      body = read_body row.Imaged 0 2 (n32 pid.0 ∷ n64 place.0 ∷ []) [] (body.Imaged pid place) (λ p. refl) refl fits.front (refl);
    }
body_read (body.Answered answer) fits =
    let size = front_size (n64 answer.ret0 ∷ n64 answer.ret1 ∷ n64 answer.place.0 ∷ []) [] in
    record {
      row = refl;
      size = ap (has_size row.Answered) size;
      few = omega (arith, size);
      body = read_body row.Answered 1 answer.err (n64 answer.ret0 ∷ n64 answer.ret1 ∷ n64 answer.place.0 ∷ []) [] (body.Answered answer) (λ p. refl) refl fits.front (refl);
    }
body_read (body.GotBytes index err bytes) fits =
    let size = front_size (n32 err ∷ []) bytes in
    record {
      row = rw (lt-ltb index 8 fits.row.0) refl;
      size = within_true 4 131048 (length (payload_of (body.GotBytes index err bytes))) (omega (arith, size, fits.row.1.0)) (omega (arith, size, fits.row.1.0));
      few = omega (arith, size, fits.row.1.0);
      body = read_body row.GotBytes 2 index (n32 err ∷ []) bytes (body.GotBytes index err bytes) (λ p. refl) refl fits.front (rw fits.row.2 refl);
    }
body_read (body.GotText index err bytes) fits =
    let size = front_size (n32 err ∷ []) bytes in
    record {
      row = rw (lt-ltb index 8 fits.row.0) refl;
      size = within_true 4 1027 (length (payload_of (body.GotText index err bytes))) (omega (arith, size, fits.row.1.0)) (omega (arith, size, fits.row.1.0));
      few = omega (arith, size, fits.row.1.0);
      body = read_body row.GotText 3 index (n32 err ∷ []) bytes (body.GotText index err bytes) (λ p. refl) refl fits.front (rw fits.row.2 refl);
    }
body_read (body.Forked cookie place pid) fits =
    let size = front_size (cookie_numbers cookie (n64 place.0 ∷ n64 pid.0 ∷ [])) [] in
    record {
      row = refl;
      size = ap (has_size row.Forked) size;
      few = omega (arith, size);
      body = read_body row.Forked 5 0 (cookie_numbers cookie (n64 place.0 ∷ n64 pid.0 ∷ [])) [] (body.Forked cookie place pid) (λ p. refl) refl fits.front (rw (lt-ltb pid.0 4294967296 fits.row) refl);
    }
body_read body.Cancelled fits =
    let size = front_size ([]) [] in
    record {
      row = refl;
      size = ap (has_size row.Cancelled) size;
      few = omega (arith, size);
      body = read_body row.Cancelled 5 1 ([]) [] body.Cancelled (λ p. refl) refl fits.front (refl);
    }
body_read (body.ExecReady cookie) fits =
    let size = front_size (cookie_numbers cookie []) [] in
    record {
      row = refl;
      size = ap (has_size row.ExecReady) size;
      few = omega (arith, size);
      body = read_body row.ExecReady 6 0 (cookie_numbers cookie []) [] (body.ExecReady cookie) (λ p. refl) refl fits.front (refl);
    }
body_read (body.Refused kind why) fits =
    let size = front_size ([]) [] in
    record {
      row = rw (fits.row, error_word why) refl;
      size = ap (has_size row.Refused) size;
      few = omega (arith, size);
      body = read_body row.Refused kind (sp_error_number why) ([]) [] (body.Refused kind why) (λ p. refl) refl fits.front (rw (error_again why) refl);
    }
