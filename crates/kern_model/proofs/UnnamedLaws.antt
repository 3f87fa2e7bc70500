-- In a tree, what a walk finds without a name of its own is a directory.
use Rattle.std.specs.Prelude.{if◌then◌else◌}
use Rattle.std.proofs.Common.{◌≡◌, ℕ, Bool, true, false, List, [], ◌∷◌, length, ◌==◌, Option, None, Some, refl, sym, ap, subst, ◌∙◌}
use Rattle.std.specs.FinMap.{get}
use Rattle.sp_base.specs.declared.errno.Errno.TheVariants.{Enotdir}
use Rattle.kern_model.specs.declared.walk.Walked.{Walked}
use Rattle.kern_model.specs.declared.walk.Walked.TheVariants.{Found, Missing, Faulty}
use Rattle.kern_model.specs.Name.{Path, parent, path_of, components, begins_with_slash, ends_with_slash}
use Rattle.kern_model.specs.State.{State, root, is_directory, directory_of}
use Rattle.kern_model.specs.Walk.{has_long_component, is_here, is_up, found_at, last_at, walk_last, through, unless_fault, walk_from, walk_parts, walk}
use Rattle.kern_model.proofs.EntryLaws.{placed}
use Rattle.kern_model.specs.Sound.{IsPlace, HasTree}

-- what has no name is a directory
abbrev pub Leads : State → Walked → Type 0
Leads s (Found path node true) = Unit {0}
Leads s (Found path node false) = is_directory s node ≡ true
Leads s (Missing path slash) = Unit {0}
Leads s (Faulty error) = Unit {0}

leads_if : (s : State) (b : Bool) (x y : Walked) → Leads s x → Leads s y → Leads s (if b then x else y)
leads_if s true x y h k = h
leads_if s false x y h k = k

or_same : {n m : ℕ} → ◌≡◌ {A = Option ℕ} (Some n) (Some m) → n ≡ m
or_same e = cc

place_parent : (s : State) (path : Path) → HasTree s → IsPlace s.names s.nodes path → IsPlace s.names s.nodes (parent path)
place_parent s [] h place = place
place_parent s (component ∷ path) h place = h.tree.parents component path place.node place.stands

leads_at : (s : State) (path : Path) (node : Option ℕ) → node ≡ get s.names path → IsPlace s.names s.nodes path → Leads s (found_at path node false)
leads_at s path None e place = tt
leads_at s path (Some node) e place =
    let same : place.node ≡ node = sym (or_same (e ∙ place.stands)) in
    subst (λ (n : ℕ). is_directory s n ≡ true) same place.directory

leads_last_at : (s : State) (component : List ℕ) (path : Path) (slash : Bool) (node : Option ℕ) → IsPlace s.names s.nodes path → Leads s (last_at s (component ∷ path) slash node)
leads_last_at s component path slash None place = tt
leads_last_at s component path true (Some node) place = leads_if s (is_directory s node) _ _ tt tt
leads_last_at s component path false (Some node) place = tt

leads_last : (s : State) (path : Path) (component : List ℕ) (slash : Bool) → HasTree s → IsPlace s.names s.nodes path → Leads s (walk_last s path component slash)
leads_last s path component slash h place =
    leads_if s (is_here component) _ _ (leads_at s path (get s.names path) refl place)
    (leads_if s (is_up component) _ _ (leads_at s (parent path) (get s.names (parent path)) refl (place_parent s path h place))
    (leads_last_at s component path slash (get s.names (component ∷ path)) place))

leads_unless : (s : State) (path : Path) (next : Walked) (node : Option ℕ) → get s.names path ≡ node → (IsPlace s.names s.nodes path → Leads s next) → Leads s (unless_fault (through s node) next)
leads_unless s path next None e h = tt
leads_unless s path next (Some node) e h =
    elim (is_directory s node) as (λ b. is_directory s node ≡ b → Leads s (unless_fault (if b then None else Some Enotdir) next)) [
      | true ↦ λ t. h (record { node = node; stands = e; directory = t })
      | false ↦ λ t. tt
    ] refl

leads_from : (s : State) (path : Path) (parts : List (List ℕ)) (slash : Bool) → HasTree s → IsPlace s.names s.nodes path → Leads s (walk_from s path parts slash)
leads_from s path [] slash h place = leads_at s path (get s.names path) refl place
leads_from s path (component ∷ []) slash h place = leads_last s path component slash h place
leads_from s path (component ∷ next ∷ rest) slash h place =
    leads_if s (is_here component) _ _ (leads_from s path (next ∷ rest) slash h place)
    (leads_if s (is_up component) _ _ (leads_from s (parent path) (next ∷ rest) slash h (place_parent s path h place))
    (leads_unless s (component ∷ path) _ (get s.names (component ∷ path)) refl (leads_from s (component ∷ path) (next ∷ rest) slash h)))

leads_parts : (s : State) (path : Option Path) (text : List ℕ) → HasTree s → ((start : Path) → path ≡ Some start → IsPlace s.names s.nodes start) → Leads s (walk_parts s path text)
leads_parts s None text h place = tt
leads_parts s (Some path) text h place = leads_from s path (components text) (ends_with_slash text) h (place path refl)

place_root : (s : State) → HasTree s → (start : Path) → ◌≡◌ {A = Option Path} (Some []) (Some start) → IsPlace s.names s.nodes start
place_root s h start e =
    let same : [] ≡ start = cc in
    subst (λ (p : Path). IsPlace s.names s.nodes p) same (record { node = root; stands = h.tree.top; directory = h.tree.root_directory })

place_working : (s : State) (pid : ℕ) → HasTree s → (start : Path) → path_of s.names (directory_of s pid) ≡ Some start → IsPlace s.names s.nodes start
place_working s pid h start e =
    let stands = placed s.names (directory_of s pid) start e in
    record { node = directory_of s pid; stands = stands; directory = (h.working pid).directory }

-- where a walk finds nothing, it was led into a directory
pub leads : (s : State) (pid : ℕ) (text : List ℕ) → HasTree s → Leads s (walk s pid text)
leads s pid text h =
    leads_if s (length text == 0) _ _ tt
    (leads_if s (has_long_component (components text)) _ _ tt
    (leads_if s (begins_with_slash text) _ _ (leads_parts s (Some []) text h (place_root s h)) (leads_parts s (path_of s.names (directory_of s pid)) text h (place_working s pid h))))
