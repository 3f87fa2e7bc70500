-- Some entries are one and those behind it.
use Rattle.std.proofs.Common.{◌≡◌, ℕ, zero, suc, ◌-◌, ◌<◌, List, ◌++◌, ap, arith, drop}
use Rattle.std.specs.Prelude.{codes}
use Rattle.guest_rows.specs.declared.answered.PollPart.{PollPart}
use Rattle.guest_rows.specs.Answered.{entries_from, entry_text}
use Rattle.script_words.specs.Steps.{◌>>=◌}

pub entries_more : (part : PollPart) (front : List ℕ) (n : ℕ) (bytes : List ℕ) → 0 < n → entries_from part front n bytes ≡ (entry_text part bytes >>= (λ text. entries_from part (front ++ codes " " ++ text) (n - 1) (drop 8 bytes)))
entries_more part front zero bytes h = absurd (omega (arith, h))
entries_more part front (suc n) bytes h =
    let less : n ≡ suc n - 1 = omega arith in
    ap (λ (m : ℕ). entry_text part bytes >>= (λ text. entries_from part (front ++ codes " " ++ text) m (drop 8 bytes))) less
