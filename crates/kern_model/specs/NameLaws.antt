-- The laws of names.
use Rattle.std.specs.Prelude.{◌≡◌, ◌≢◌, ℕ, List, [], ◌∷◌, ◌++◌, None, Some, Bool, IsSome, IsTrue}
use Rattle.std.specs.FinMap.{get}
use Rattle.sp_base.specs.declared.call.Call.TheVariants as call
use Rattle.kern_model.specs.declared.operation.Ins.TheVariants.{Given}
use Rattle.kern_model.specs.declared.operation.Op.TheVariants.{Sys}
use Rattle.kern_model.specs.declared.walk.Walked.{Walked}
use Rattle.kern_model.specs.declared.walk.Walked.TheVariants.{Found, Missing, Faulty}
use Rattle.kern_model.specs.Name.{Path, Names, below}
use Rattle.kern_model.specs.Outcome.{success}
use Rattle.kern_model.specs.State.{State, bytes_of, is_directory}
use Rattle.kern_model.specs.Walk.{walk}
use Rattle.kern_model.specs.Laws.{Gives}

-- what stands in a missing directory is missing
abbrev pub HasParents : Names → Type 0
HasParents names = (component : List ℕ) (path : Path) → get names path ≡ None → get names (component ∷ path) ≡ None

-- a walk leads to a path where nothing is, or another node than this one
abbrev pub LeadsElsewhere : Path → ℕ → Walked → Type 0
LeadsElsewhere path node (Missing there slash) = there ≡ path
LeadsElsewhere path node (Found there other named) = (there ≡ path) × (node ≢ other)
LeadsElsewhere path node (Faulty error) = ⊥

-- a rename is answered 0 that takes a directory from one path to another, where nothing is or an empty directory
pub record MovesDirectory (s : State) (pid : ℕ) (old new : Path) (t : State) : Type 0 where
  pub old_addr : ℕ
  pub new_addr : ℕ
  pub old_text : List ℕ
  pub new_text : List ℕ
  pub node : ℕ
  pub named : Bool
  pub found : walk s pid old_text ≡ Found old node named
  pub directory : IsTrue (is_directory s node)
  pub goes : LeadsElsewhere new node (walk s pid new_text)
  pub acts : Gives s pid (Sys (call.Rename old_addr new_addr)) (Given (old_text ∷ new_text ∷ [])) (success 0) t

-- such a rename leaves the bytes of every node, but the one whose place is taken
abbrev pub RenamesKeepBytes : Type 0
RenamesKeepBytes = (s t : State) (pid : ℕ) (old new : Path) (node : ℕ)
    → MovesDirectory s pid old new t → get s.names new ≢ Some node → bytes_of t node ≡ bytes_of s node

-- what is below the new path stood below the old one
abbrev pub RenamesMoveBelow : Type 0
RenamesMoveBelow = (s t : State) (pid : ℕ) (old new path rest : Path)
    → MovesDirectory s pid old new t → HasParents s.names → below path new ≡ Some rest → get t.names path ≡ get s.names (rest ++ old)

-- nothing is left below the old path
abbrev pub RenamesEmptyTheOld : Type 0
RenamesEmptyTheOld = (s t : State) (pid : ℕ) (old new path : Path)
    → MovesDirectory s pid old new t → HasParents s.names → IsSome (below path old) → get t.names path ≡ None

-- every other path keeps its node
abbrev pub RenamesKeepTheRest : Type 0
RenamesKeepTheRest = (s t : State) (pid : ℕ) (old new path : Path)
    → MovesDirectory s pid old new t → HasParents s.names → below path old ≡ None → below path new ≡ None → get t.names path ≡ get s.names path
