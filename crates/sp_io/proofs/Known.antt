-- Known bytes that move in several steps, and counts that rise in several.
use Rattle.std.proofs.Common.{◌≡◌, ℕ, ◌+◌, ◌≤◌, List, ◌++◌, length, take, Option, Some, None, sym, ap, ◌∙◌, append_assoc, length-append, arith}
use Rattle.std.specs.Io.KnownBytes.{Appends, Consumes, Keeps}
use Rattle.std.proofs.Math.Seq.{take-append_seam}
use Rattle.sp_io.specs.Causes.{Rose}
use Rattle.sp_io.specs.Whole.{TakesAtMost, AppendsFirst}

-- two writes in a row are one of both pieces
pub appends_then : (a b d : Option (List ℕ)) (x y : List ℕ) → Appends a b x → Appends b d y → Appends a d (x ++ y)
appends_then None b d x y p q = tt
appends_then (Some u) None d x y p q = absurd p
appends_then (Some u) (Some v) None x y p q = absurd q
appends_then (Some u) (Some v) (Some w) x y p q = q ∙ ap (λ (l : List ℕ). l ++ y) p ∙ append_assoc u x y

-- two reads in a row are one of both pieces
pub consumes_then : (a b d : Option (List ℕ)) (x y : List ℕ) → Consumes a b x → Consumes b d y → Consumes a d (x ++ y)
consumes_then None b d x y p q = tt
consumes_then (Some u) None d x y p q = absurd p
consumes_then (Some u) (Some v) None x y p q = absurd q
consumes_then (Some u) (Some v) (Some w) x y p q = p ∙ ap (λ (l : List ℕ). x ++ l) q ∙ sym (append_assoc x y w)

-- a text and one more piece, which are at most so many bytes, were taken
pub takes_piece : (l l' l'' p p' p'' : Option (List ℕ)) (text piece : List ℕ) (most : ℕ) → length text + length piece ≤ most → Consumes l l' text → Consumes l' l'' piece → Appends p p' text → Appends p' p'' piece → TakesAtMost l l'' p p'' most
takes_piece l l' l'' p p' p'' text piece most few left left' passed passed' =
    (text ++ piece, omega (arith, length-append text piece), consumes_then l l' l'' text piece left left', appends_then p p' p'' text piece passed passed')

-- known bytes that grew, and then stay, grew all the same
pub appends_keeps : (a b d : Option (List ℕ)) (x : List ℕ) → Appends a b x → Keeps b d → Appends a d x
appends_keeps None b d x p q = tt
appends_keeps (Some u) None d x p q = absurd p
appends_keeps (Some u) (Some v) None x p q = absurd q
appends_keeps (Some u) (Some v) (Some w) x p q = q ∙ p

-- bytes that were put before others, of which none was put, are first bytes of them all
pub appends_front : (a b d : Option (List ℕ)) (front rest bytes : List ℕ) → bytes ≡ front ++ rest → Appends a b front → Keeps b d → AppendsFirst a d bytes
appends_front a b d front rest bytes whole put kept =
    let first : take (length front) bytes ≡ front = rw whole (take-append_seam front rest) in
    (length front, rw first (appends_keeps a b d front put kept))

-- a count that rose from a later value rose from the first one too
pub rose_later : (before mid now : ℕ) → before ≤ mid → Rose mid now → Rose before now
rose_later before mid now later rose = omega arith
