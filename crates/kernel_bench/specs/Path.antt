-- A path that a call may be given.
use Rattle.std.specs.Prelude.{◌≡◌, ℕ, ◌<◌, List, length}
use Rattle.std.specs.List.{AllByRecursion}
use Rattle.sp_base.specs.declared.limits.TheConstants.{PATH_TEXT}

-- bytes are what a call reads as a path: fewer than 1,024, none of them zero
abbrev pub IsPath : List ℕ → Type 0
IsPath bytes = (length bytes < PATH_TEXT) × AllByRecursion (λ b. b ≡ 0 → ⊥) bytes
