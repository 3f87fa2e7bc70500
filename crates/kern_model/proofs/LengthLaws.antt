-- How long the bytes of a file are after a write and after a truncation, and that these are within the limits.
use Rattle.std.specs.Prelude.{nat_lt, nat_le, max, min, replicate}
use Rattle.std.proofs.Common.{◌≡◌, ℕ, ◌+◌, ◌-◌, ◌<◌, ◌≤◌, false, List, [], ◌∷◌, ◌++◌, length, take, drop, Option, refl, arith, length-append, length-take, length-drop}
use Rattle.std.proofs.lemmas.List.{length-replicate}
use Rattle.std.proofs.lemmas.Bool.{leb-false, ltb-false}
use Rattle.sp_base.specs.Table.{at}
use Rattle.kern_model.specs.State.{State, bytes_of, total_size}
use Rattle.kern_model.specs.Files.{file_limit, total_limit, put_over, is_above_total, fitting, resized}
use Rattle.kern_model.proofs.Changes.{AreFitting}

-- what is put behind a table stands at its length
pub at_end : {X : Type 0} (table : List (Option X)) (x : Option X) → at (table ++ x ∷ []) (length table) ≡ x
at_end [] x = refl
at_end (y ∷ table) x = at_end table x

-- no bytes are within the limits
pub none_fit : (s : State) (node : ℕ) → AreFitting s node []
none_fit s node = record { file = λ le. omega arith; total = λ le. omega (arith, le) }

-- as many bytes as the greater of what was there and the end of what is put
length-put_over : (old : List ℕ) (start : ℕ) (new : List ℕ) → length (put_over old start new) ≤ max (length old) (start + length new)
length-put_over old start new =
    let zeros = replicate {A = ℕ} (start - length old) 0 in
    let all : length (put_over old start new) ≡ length (take start (old ++ zeros) ++ new) + length (drop (start + length new) old) =
    length-append (take start (old ++ zeros) ++ new) (drop (start + length new) old) in
    let back = length-append (take start (old ++ zeros)) new in
    let front = length-take start (old ++ zeros) in
    let filled = length-append old zeros in
    let gap : length zeros ≡ start - length old = length-replicate (start - length old) 0 in
    let rest = length-drop (start + length new) old in
    omega arith

-- what is put from below a limit on, and cut there, stays within it
put_within : (limit old start n put : ℕ) → start < limit → n ≤ limit - start → put ≤ max old (start + n) → old ≤ limit → put ≤ limit
put_within limit old start n put lt le most was = omega arith

-- where as many bytes as `top` are within all files' limit, so are fewer
total_within : (limit total was top len : ℕ) → nat_lt limit ((total - was) + top) ≡ false → len ≤ top → (total - was) + len ≤ limit
total_within limit total was top len room le = let fits = ltb-false limit ((total - was) + top) room in omega arith

at_most : (a b n : ℕ) → n ≡ min a b → n ≤ a
at_most a b n e = omega arith

at_limit : (limit len n : ℕ) → len ≤ limit → n ≤ len → n ≤ limit
at_limit limit len n le most = omega arith

below_max : (a b n : ℕ) → n ≤ b → n ≤ max a b
below_max a b n le = omega arith

-- a truncation gives at most as many bytes as are asked for
length-resized : (old : List ℕ) (len : ℕ) → length (resized old len) ≤ len
length-resized old len =
    let cut : length (resized old len) ≡ min len _ = length-take len (old ++ replicate {A = ℕ} (len - length old) 0) in
    omega arith

pub put_fit : (s : State) (node start : ℕ) (bytes : List ℕ) → nat_le file_limit start ≡ false → is_above_total s node (max (length (bytes_of s node)) (start + length (fitting start bytes))) ≡ false
    → AreFitting s node (put_over (bytes_of s node) start (fitting start bytes))
put_fit s node start bytes low room =
    let old = bytes_of s node in
    let new = fitting start bytes in
    let most = length-put_over old start new in
    let cut = length-take (file_limit - start) bytes in
    record {
      file = put_within file_limit (length old) start (length new) (length (put_over old start new)) (leb-false file_limit start low) (at_most (file_limit - start) (length bytes) (length new) cut) most;
      total = λ le. total_within total_limit (total_size s) (length old) (max (length old) (start + length new)) (length (put_over old start new)) room most;
    }

pub resized_fit : (s : State) (node len : ℕ) → nat_lt file_limit len ≡ false → is_above_total s node (max (length (bytes_of s node)) len) ≡ false → AreFitting s node (resized (bytes_of s node) len)
resized_fit s node len low room =
    let old = bytes_of s node in
    let most = length-resized old len in
    record {
      file = λ was. at_limit file_limit len (length (resized old len)) (ltb-false file_limit len low) most;
      total = λ le. total_within total_limit (total_size s) (length old) (max (length old) len) (length (resized old len)) room (below_max (length old) len (length (resized old len)) most);
    }
