-- Parts of bytes are bytes.
use Rattle.std.proofs.Common.{ℕ, zero, suc, ◌<◌, ◌^◌, List, [], ◌∷◌, ◌++◌, take, drop, arith}
use Rattle.std.specs.Prelude.{slice_index}
use Rattle.sp_frames.specs.Fields.{IsBytes}

at_all : (x : ℕ) (bytes : List ℕ) → x < 2 ^ 8 → IsBytes bytes → (i : ℕ) → slice_index (x ∷ bytes) i < 2 ^ 8
at_all x bytes first rest zero = first
at_all x bytes first rest (suc i) = rest i

pub bytes-append : (a b : List ℕ) → IsBytes a → IsBytes b → IsBytes (a ++ b)
bytes-append [] b fa fb = fb
bytes-append (x ∷ a) b fa fb = at_all x (a ++ b) (fa 0) (bytes-append a b (λ k. fa (suc k)) fb)

pub bytes-back : (a b : List ℕ) → IsBytes (a ++ b) → IsBytes b
bytes-back [] b all = all
bytes-back (x ∷ a) b all = bytes-back a b (λ k. all (suc k))

pub bytes-take : (n : ℕ) (bytes : List ℕ) → IsBytes bytes → IsBytes (take n bytes)
bytes-take zero bytes all = λ i. omega arith
bytes-take (suc n) [] all = λ i. omega arith
bytes-take (suc n) (x ∷ bytes) all = at_all x (take n bytes) (all 0) (bytes-take n bytes (λ k. all (suc k)))

pub bytes-drop : (n : ℕ) (bytes : List ℕ) → IsBytes bytes → IsBytes (drop n bytes)
bytes-drop zero bytes all = all
bytes-drop (suc n) [] all = λ i. omega arith
bytes-drop (suc n) (x ∷ bytes) all = bytes-drop n bytes (λ k. all (suc k))
