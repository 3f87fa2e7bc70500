-- The lowest number above all aliases.
use Rattle.std.proofs.Common.{◌≡◌, ℕ, zero, suc, ◌+◌, ◌≤◌, Bool, true, false, cond, nat_lt, List, [], ◌∷◌, None, Option, Some, refl, arith}
use Rattle.std.proofs.lemmas.Bool.Decides.{nat_tests}
use Rattle.sp_base.specs.Table.{at}
use Rattle.hijack_split.specs.View.{above_all}
use Rattle.hijack_split.specs.declared.change.Alias.{Alias}

-- from there on no descriptor is an alias
pub no_alias_above : (aliases : List (Option Alias)) (g : ℕ) → above_all aliases ≤ g → at aliases g ≡ None
no_alias_above [] g above = refl
no_alias_above (Some alias ∷ aliases) zero above = absurd (omega (arith, above))
no_alias_above (Some alias ∷ aliases) (suc g) above = no_alias_above aliases g (omega (arith, above))
no_alias_above (None ∷ aliases) zero above = refl
no_alias_above (None ∷ aliases) (suc g) above = no_alias_above aliases g (by (nat_lt 0 (above_all aliases)) refl above)
  where
    by : (b : Bool) → nat_lt 0 (above_all aliases) ≡ b → cond b (above_all aliases + 1) 0 ≤ suc g → above_all aliases ≤ g
    by true some h = omega (arith, h)
    by false none h = grind (arith, nat_tests)
