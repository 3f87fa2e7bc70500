-- What clap's statements say of the program's commands.
use Rattle.std.proofs.Common.{◌≡◌, ℕ, ◌&&◌, Bool, true, false, List, Some, codes, refl, sym}
use Rattle.std.specs.Str.{bytes_eq}
use Rattle.std.proofs.lemmas.Slice.Eq.{bytes_eq-Decides}
use Rattle.clap.specs.Faults.{is_simple_and_free}
use Rattle.clap.specs.Matches.{first_value}
use Rattle.clap.specs.Walk.{first_of, rows_of}
use Rattle.clap.specs.declared.parser.matches.Found.{Found}
use Rattle.clap.proofs.WalkLemmas.{first_value-rows}
use Rattle.rump_sp.specs.Words.{app_for, is_yes}
use Rattle.rump_sp.specs.declared.words.CommandName.{CommandName}
use Rattle.rump_sp.specs.declared.words.CommandName.TheVariants.{Stdio, Bench}

pub both_first : (a b : Bool) → (a && b) ≡ true → a ≡ true
both_first true b e = refl
both_first false b e = absurd cc

-- the first value of an id among the rows is that among the entries
pub first_read : (found : Found) (id : List ℕ) → first_of id (rows_of found) ≡ first_value found id
first_read found id = sym (first_value-rows found id)

-- another value is no yes
pub not_yes : (value : List ℕ) → (value ≡ codes "true" → ⊥) → is_yes (Some value) ≡ false
not_yes value other = go (bytes_eq value (codes "true")) refl
  where
    go : (t : Bool) → bytes_eq value (codes "true") ≡ t → bytes_eq value (codes "true") ≡ false
    go true e = absurd (other ((bytes_eq-Decides value (codes "true")).0 e))
    go false e = e

-- each command is one of which clap's definitions tell the faults
pub simple_for : (name : CommandName) → is_simple_and_free (app_for name) ≡ true
simple_for Stdio = refl
simple_for Bench = refl
