-- What a delivery changes.
use Rattle.std.proofs.Common.{◌≡◌, ℕ, ◌+◌, ◌||◌, Bool, List, [], ◌∷◌, length, Option, Some, None, refl, ap, sym, ◌∙◌, subst, true, false}
use Rattle.std.specs.List.{list_any}
use Rattle.std.specs.Prelude.{slice_get}
use Rattle.sp_base.specs.declared.names.Answer.{Answer}
use Rattle.sp_copy.specs.declared.delivery.Delivery.{Delivery}
use Rattle.sp_copy.specs.declared.part.Part.{Part}
use Rattle.sp_copy.specs.Parts.{in_range}
use Rattle.sp_copy.specs.Writing.{ChangesOnly, IsSamePart, written}
use Rattle.sp_copy.specs.Delivering.{Piece, after_write, in_pieces, put_piece, put_pieces}
use Rattle.sp_copy.proofs.Places.{all_stay}
use Rattle.sp_copy.proofs.Changes.{written_changes}

-- what changes less changes no more
pub wider : (f g : ℕ → Bool) → ((a : ℕ) → g a ≡ false → f a ≡ false) → (ps qs : List Part) → ChangesOnly f ps qs → ChangesOnly g ps qs
wider f g w [] [] c = tt
wider f g w (p ∷ ps) (q ∷ qs) c = (record { base = c.0.base; right = c.0.right; len = c.0.len; bytes = λ k h. c.0.bytes k (w (p.base + k) h) }, wider f g w ps qs c.1)
wider f g w [] (q ∷ qs) c = absurd c
wider f g w (p ∷ ps) [] c = absurd c

one_after : (f : ℕ → Bool) (p q r : Part) → IsSamePart f p q → IsSamePart f q r → IsSamePart f p r
one_after f p q r a b = record {
  base = a.base ∙ b.base;
  right = a.right ∙ b.right;
  len = a.len ∙ b.len;
  bytes = λ k h. a.bytes k h ∙ b.bytes k (subst (λ (n : ℕ). f (n + k) ≡ false) a.base h);
}

-- one change after another
pub after : (f : ℕ → Bool) (ps qs rs : List Part) → ChangesOnly f ps qs → ChangesOnly f qs rs → ChangesOnly f ps rs
after f [] [] [] c d = tt
after f (p ∷ ps) (q ∷ qs) (r ∷ rs) c d = (one_after f p q r c.0 d.0, after f ps qs rs c.1 d.1)
after f [] (q ∷ qs) rs c d = absurd c
after f (p ∷ ps) [] rs c d = absurd c
after f [] [] (r ∷ rs) c d = absurd d
after f (p ∷ ps) (q ∷ qs) [] c d = absurd d

neither : (a b : Bool) → (a || b) ≡ false → (a ≡ false) × (b ≡ false)
neither true b h = absurd (cc)
neither false b h = (refl, h)

-- a delivery changes bytes in its pieces alone
pub pieces_change : (d : Delivery) (pieces : List Piece) → ChangesOnly (in_pieces pieces) d.mem (put_pieces d pieces).mem
pieces_change d [] = all_stay (in_pieces []) d.mem
pieces_change d (piece ∷ pieces) =
    after (in_pieces (piece ∷ pieces)) d.mem (put_piece d piece).mem (put_pieces (put_piece d piece) pieces).mem
    (here (written d.mem piece.addr piece.bytes) refl)
    (wider (in_pieces pieces) (in_pieces (piece ∷ pieces)) (λ a h. (neither (in_range piece.addr (length piece.bytes) a) (in_pieces pieces a) h).1) (put_piece d piece).mem (put_pieces (put_piece d piece) pieces).mem (pieces_change (put_piece d piece) pieces))
  where
    here : (w : Option (List Part)) → written d.mem piece.addr piece.bytes ≡ w → ChangesOnly (in_pieces (piece ∷ pieces)) d.mem (after_write d w).mem
    here None e = all_stay (in_pieces (piece ∷ pieces)) d.mem
    here (Some new) e = wider (in_range piece.addr (length piece.bytes)) (in_pieces (piece ∷ pieces)) (λ a h. (neither (in_range piece.addr (length piece.bytes) a) (in_pieces pieces a) h).0) d.mem new (written_changes d.mem new piece.addr piece.bytes e)
