-- What a `Ledger` ends as, where a `&mut` to one of its values is returned.
use Rattle.std.specs.Prelude.{ℕ, Some, slice_set}
use Rattle.std.specs.Borrow.{Lends, Fml, RattleType, MutBor}
use Rattle.kern_local.specs.Listed.{Listed}
use Rattle.kern_local.specs.contracts.ledger.Ledger.{the_row}

module _ (T : RattleType) (b : MutBor (Listed T.Denot)) (number : ℕ) where
  -- once the borrow r ends, the number has the last value written through r
  abbrev pub lends_value : MutBor T.Denot → Fml
  lends_value r = Lends (the_row T) T b r (λ w. record b.now { items = slice_set b.now.items number (Some w) })
