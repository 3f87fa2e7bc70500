-- Bytes put over others.
use Rattle.std.proofs.Common.{◌≡◌, ℕ, ◌+◌, ◌-◌, ◌<◌, ◌≤◌, List, ◌++◌, length, take, drop, replicate, arith, ap, sym, ◌∙◌, append_assoc, length-append, length-take, length-drop, max}
use Rattle.std.proofs.lemmas.List.{length-replicate, replicate-append-replicate, take-append-le, take_all, drop_all}
use Rattle.kern_model.specs.Files.{put_over, resized}

-- a list followed by copies has the length of both
length_filled : (old : List ℕ) (count : ℕ) → length (old ++ replicate count 0) ≡ length old + count
length_filled old count = length-append old (replicate count 0) ∙ ap (λ n. length old + n) (length-replicate count 0)

-- zeros behind a length don't matter below it
take_filled : (old : List ℕ) (len count more : ℕ) → len ≤ length old + count → take len (old ++ replicate (count + more) 0) ≡ take len (old ++ replicate count 0)
take_filled old len count more within =
    let enough : len ≤ length (old ++ replicate count 0) = omega (arith, length_filled old count) in
    ap (λ zeros. take len (old ++ zeros)) (sym (replicate-append-replicate count more 0))
    ∙ ap (take len) (sym (append_assoc old (replicate count 0) (replicate more 0)))
    ∙ take-append-le len (old ++ replicate count 0) (replicate more 0) enough

-- bytes that are filled up to a length have the zeros behind them
resized_filled : (old : List ℕ) (len : ℕ) → length old ≤ len → resized old len ≡ old ++ replicate (len - length old) 0
resized_filled old len longer = take_all len (old ++ replicate (len - length old) 0) (omega (arith, length_filled old (len - length old)))

-- it is the same to put bytes over others, and over these with zeros behind them up to where the bytes end
pub put_over_resized : (old new : List ℕ) (from : ℕ) → length old < from + length new → put_over (resized old (from + length new)) from new ≡ put_over old from new
put_over_resized old new from short =
    let end : ℕ = from + length new in
    let grown : List ℕ = old ++ replicate (end - length old) 0 in
    let fits : length grown ≡ end = omega (arith, length_filled old (end - length old)) in
    let longer : from ≤ length grown = omega arith in
    let more : (from - length old) + ((end - length old) - (from - length old)) ≡ end - length old = omega arith in
    let enough : from ≤ length old + (from - length old) = omega arith in
    let front : take from (grown ++ replicate (from - length grown) 0) ≡ take from (old ++ replicate (from - length old) 0) =
    take-append-le from grown (replicate (from - length grown) 0) longer
    ∙ ap (λ n. take from (old ++ replicate n 0)) (sym more)
    ∙ take_filled old from (from - length old) ((end - length old) - (from - length old)) enough in
    let behind : drop end grown ≡ drop end old = drop_all end grown (omega arith) ∙ sym (drop_all end old (omega arith)) in
    ap (λ bytes. put_over bytes from new) (resized_filled old end (omega arith))
    ∙ ap (λ bytes. bytes ++ new ++ drop end grown) front
    ∙ ap (λ bytes. take from (old ++ replicate (from - length old) 0) ++ new ++ bytes) behind

-- how long bytes are after others were put over them
pub length-put_over : (old new : List ℕ) (from : ℕ) → length (put_over old from new) ≡ max (length old) (from + length new)
length-put_over old new from =
    let zeros : length {A = ℕ} (replicate (from - length old) 0) ≡ from - length old = length-replicate (from - length old) 0 in
    simp (length-append, length-take, length-drop) (omega (arith, zeros))

-- how long resized bytes are
pub length-resized : (old : List ℕ) (len : ℕ) → length (resized old len) ≡ len
length-resized old len =
    let zeros : length {A = ℕ} (replicate (len - length old) 0) ≡ len - length old = length-replicate (len - length old) 0 in
    simp (length-append, length-take) (omega (arith, zeros))
