-- One step after another, where the first gives something.
use Rattle.std.specs.Prelude.{Option, None, Some}

infixl 10 ◌>>=◌
-- what the second step gives of what the first gave, if it gave something
abbrev pub ◌>>=◌ : {A B : Type 0} → Option A → (A → Option B) → Option B
(Some x) >>= f = f x
None >>= f = None
