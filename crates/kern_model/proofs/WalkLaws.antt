-- What a walk finds is there, and what it finds missing is not.
use Rattle.std.specs.Prelude.{if◌then◌else◌, length, ◌==◌}
use Rattle.std.proofs.Common.{◌≡◌, ℕ, Bool, true, false, List, [], ◌∷◌, Option, None, Some, refl, subst}
use Rattle.std.specs.FinMap.{get}
use Rattle.sp_base.specs.declared.errno.Errno.{Errno}
use Rattle.kern_model.specs.declared.walk.Walked.{Walked}
use Rattle.kern_model.specs.declared.walk.Walked.TheVariants.{Found, Missing, Faulty}
use Rattle.kern_model.specs.Name.{Path, parent, path_of, components, begins_with_slash, ends_with_slash}
use Rattle.kern_model.specs.State.{State, is_directory, directory_of}
use Rattle.kern_model.specs.Walk.{has_long_component, is_here, is_up, found_at, last_at, walk_last, through, unless_fault, walk_from, walk_parts, walk}

-- what a walk gives is so
abbrev pub Agrees : State → Walked → Type 0
Agrees s (Found path node named) = get s.names path ≡ Some node
Agrees s (Missing path slash) = get s.names path ≡ None
Agrees s (Faulty error) = Unit {0}

agrees_if : (s : State) (b : Bool) (x y : Walked) → Agrees s x → Agrees s y → Agrees s (if b then x else y)
agrees_if s true x y h k = h
agrees_if s false x y h k = k

agrees_at : (s : State) (path : Path) (node : Option ℕ) (named : Bool) → get s.names path ≡ node → Agrees s (found_at path node named)
agrees_at s path None named e = tt
agrees_at s path (Some node) named e = e

agrees_last_at : (s : State) (path : Path) (slash : Bool) (node : Option ℕ) → get s.names path ≡ node → Agrees s (last_at s path slash node)
agrees_last_at s path slash None e = e
agrees_last_at s path true (Some node) e = agrees_if s (is_directory s node) _ _ e tt
agrees_last_at s path false (Some node) e = e

agrees_last : (s : State) (path : Path) (component : List ℕ) (slash : Bool) → Agrees s (walk_last s path component slash)
agrees_last s path component slash =
    agrees_if s (is_here component) _ _ (agrees_at s path (get s.names path) false refl)
    (agrees_if s (is_up component) _ _ (agrees_at s (parent path) (get s.names (parent path)) false refl)
    (agrees_last_at s (component ∷ path) slash (get s.names (component ∷ path)) refl))

agrees_unless : (s : State) (fault : Option Errno) (next : Walked) → Agrees s next → Agrees s (unless_fault fault next)
agrees_unless s None next h = h
agrees_unless s (Some error) next h = tt

agrees_from : (s : State) (path : Path) (parts : List (List ℕ)) (slash : Bool) → Agrees s (walk_from s path parts slash)
agrees_from s path [] slash = agrees_at s path (get s.names path) false refl
agrees_from s path (component ∷ []) slash = agrees_last s path component slash
agrees_from s path (component ∷ next ∷ rest) slash =
    agrees_if s (is_here component) _ _ (agrees_from s path (next ∷ rest) slash)
    (agrees_if s (is_up component) _ _ (agrees_from s (parent path) (next ∷ rest) slash)
    (agrees_unless s (through s (get s.names (component ∷ path))) _ (agrees_from s (component ∷ path) (next ∷ rest) slash)))

agrees_parts : (s : State) (path : Option Path) (text : List ℕ) → Agrees s (walk_parts s path text)
agrees_parts s None text = tt
agrees_parts s (Some path) text = agrees_from s path (components text) (ends_with_slash text)

pub agrees : (s : State) (pid : ℕ) (text : List ℕ) → Agrees s (walk s pid text)
agrees s pid text =
    agrees_if s (length text == 0) _ _ tt
    (agrees_if s (has_long_component (components text)) _ _ tt
    (agrees_if s (begins_with_slash text) _ _ (agrees_parts s (Some []) text) (agrees_parts s (path_of s.names (directory_of s pid)) text)))

-- what a walk finds is there
pub walk_found : (s : State) (pid : ℕ) (text : List ℕ) (path : Path) (node : ℕ) (named : Bool) → walk s pid text ≡ Found path node named → get s.names path ≡ Some node
walk_found s pid text path node named e = subst (λ (w : Walked). Agrees s w) e (agrees s pid text)

-- what a walk finds missing is not there
pub walk_missing : (s : State) (pid : ℕ) (text : List ℕ) (path : Path) (slash : Bool) → walk s pid text ≡ Missing path slash → get s.names path ≡ None
walk_missing s pid text path slash e = subst (λ (w : Walked). Agrees s w) e (agrees s pid text)
