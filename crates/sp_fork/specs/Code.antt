-- The code of a jar.
use Rattle.std.specs.Prelude.{ℕ, refl}
use Rattle.std.specs.Coded.{Coded, code_by, coded×, coded_ℕ}
use Rattle.std.specs.Ordering.{nat_cmp}
use Rattle.std.specs.FinMap.{FinMap}
use Rattle.std.specs.FinMap as map
use Rattle.sp_fork.specs.declared.unused.Unused.{Unused}
use Rattle.sp_fork.specs.contracts.unused.Unused as unused
use Rattle.sp_fork.specs.Jar.{Jar}

-- the code of a jar
abbrev pub jar_code : Coded Jar
jar_code = code_by (FinMap nat_cmp Unused × ℕ) (coded× (map.code coded_ℕ unused.the_row.coded) coded_ℕ)
    (λ j. (j.unused, j.given)) (λ p. record { unused = p.0; given = p.1 }) (λ _. refl)
