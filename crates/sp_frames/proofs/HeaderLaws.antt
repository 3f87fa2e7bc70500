-- A header as bytes and back.
use Rattle.std.proofs.Common.{◌≡◌, ℕ, ◌≤◌, List, [], ◌∷◌, ◌++◌, length, drop, sym, ap, ◌∙◌, arith}
use Rattle.std.proofs.lemmas.List.{append-nil}
use Rattle.sp_frames.specs.declared.header.Header.{Header}
use Rattle.sp_frames.specs.Fields.{le16, le32, le64, IsBytes, Number, n16, n32, n64, front_bytes}
use Rattle.sp_frames.specs.Grammar.{header_bytes}
use Rattle.sp_frames.specs.Faults.{HeaderFits}
use Rattle.sp_frames.specs.Reading.{front_at, header_from, header_front, header_at}
use Rattle.sp_frames.proofs.FieldLaws.{front_len, front_again, front_back, front_below}

-- the five numbers of a header
abbrev numbers_of : Header → List Number
numbers_of h = n64 h.len ∷ n64 h.number ∷ n16 h.class ∷ n16 h.kind ∷ n32 h.word ∷ []

numbers_bytes : (h : Header) → front_bytes (numbers_of h) ≡ header_bytes h
numbers_bytes h = ap (λ (x : List ℕ). le64 h.len ++ (le64 h.number ++ (le16 h.class ++ (le16 h.kind ++ x)))) (append-nil (le32 h.word))

-- a header has 24 bytes
pub header_len : (h : Header) → length (header_bytes h) ≡ 24
header_len h = sym (ap length (numbers_bytes h)) ∙ omega (arith, front_len (numbers_of h) 0)

-- a header that was put is read
pub header_again : (h : Header) (rest : List ℕ) → HeaderFits h → header_at (header_bytes h ++ rest) ≡ h
unfolding header_at
header_again h rest fits =
    let bytes = header_bytes h ++ rest in
    let e : drop 0 bytes ≡ front_bytes (numbers_of h) ++ rest = ap (λ (x : List ℕ). x ++ rest) (sym (numbers_bytes h)) in
    ap header_from (front_again (numbers_of h) 0 bytes rest (fits.len, (fits.number, (fits.class, (fits.kind, (fits.word, tt))))) e).0

-- a header that was read is put again
pub header_back : (bytes : List ℕ) → IsBytes bytes → 24 ≤ length bytes → bytes ≡ header_bytes (header_at bytes) ++ drop 24 bytes
unfolding header_at
header_back bytes fits long =
    sym (ap (λ (x : List ℕ). x ++ drop 24 bytes) (sym (numbers_bytes (header_from (front_at 0 header_front bytes)))) ∙ front_back header_front 0 bytes fits long)

-- the fields of a header that was read are within their widths
pub header_below : (bytes : List ℕ) → IsBytes bytes → HeaderFits (header_at bytes)
unfolding header_at
header_below bytes fits =
    let below = front_below header_front 0 bytes fits in
    record { len = below.0; number = below.1.0; class = below.1.1.0; kind = below.1.1.1.0; word = below.1.1.1.1.0 }
