-- The names in one directory.
use Rattle.std.specs.Prelude.{ℕ, List, map}
use Rattle.std.specs.Ordering.{nat_cmp}
use Rattle.std.specs.Cmp.Lexicographic.{slice_cmp}
use Rattle.std.specs.Coded.{Coded, coded_list, coded_ℕ}
use Rattle.std.specs.FinMap.{FinMap, code, from_entries}

-- the nodes by their names in one directory
abbrev pub Listed : Type 0
Listed = FinMap (slice_cmp nat_cmp) ℕ

-- the code of such a map
abbrev pub listed_code : Coded Listed
listed_code = code (coded_list coded_ℕ) coded_ℕ

-- entries whose keys spell names, as a map
abbrev pub listed : {K : Type 0} → (K → List ℕ) → List (K × ℕ) → Listed
listed spelling entries = from_entries (map (λ e. (spelling e.0, e.1)) entries)
