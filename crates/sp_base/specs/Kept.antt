-- A list with room for items to come.
use Rattle.std.specs.Prelude.{ℕ, List, refl}
use Rattle.std.specs.Coded.{Coded, code_by, coded×, coded_ℕ, coded_list}

-- the items, in order, and for how many more room is kept
pub record Room (T : Type 0) : Type 0 where
  pub items : List T
  pub spare : ℕ

-- the code of a list with room
abbrev pub room_code : {T : Type 0} → Coded T → Coded (Room T)
room_code {T} code = code_by (List T × ℕ) (coded× (coded_list code) coded_ℕ) (λ r. (r.items, r.spare)) (λ p. record { items = p.0; spare = p.1 }) (λ _. refl)
