-- What a node that is made under a name is to a kernel's state.
use Rattle.std.specs.Prelude.{slice_index, slice_range, is_some, if◌then◌else◌}
use Rattle.std.specs.FinMap.{get, insert}
use Rattle.std.proofs.Common.{◌≡◌, ℕ, zero, suc, ◌+◌, Bool, true, false, not, List, [], ◌∷◌, ◌++◌, length, Option, None, Some, cond, refl, sym, ap, subst, ◌∙◌}
use Rattle.std.proofs.lemmas.Bool.{false≢true}
use Rattle.sp_base.specs.declared.errno.Errno.{Errno}
use Rattle.sp_base.specs.declared.errno.Errno.TheVariants.{Eexist, Enospc}
use Rattle.kern_model.specs.declared.node.NodeKind.{NodeKind}
use Rattle.kern_model.specs.declared.node.NodeKind.TheVariants.{Directory}
use Rattle.kern_model.specs.declared.walk.Walked.{Walked as Way}
use Rattle.kern_model.specs.Links.{act_mkdir}
use Rattle.kern_model.specs.Name.{Path}
use Rattle.kern_model.specs.State.{State, new_directory, with_node, has_room}
use Rattle.kern_model.specs.Step.{Step, failed, answered, fail_if, with_missing}
use Rattle.kern_model.specs.Walk.{walk}
use Rattle.kern_names.specs.declared.walk.Last.{Last}
use Rattle.kern_open.specs.OpenTables.{OpenTables}
use Rattle.kern_files.specs.Files.{Files, holders_of, state_of, with_new, create_error}
use Rattle.kern_calls.specs.Joined.{joined, AreHolders}
use Rattle.kern_calls.specs.Reached.{IsMissing}

-- ---- holders

zero_behind : (l : List ℕ) (n : ℕ) → slice_index (l ++ 0 ∷ []) n ≡ slice_index l n
zero_behind [] zero = refl
zero_behind [] (suc n) = refl
zero_behind (x ∷ l) zero = refl
zero_behind (x ∷ l) (suc n) = zero_behind l n

-- a new node has no holders
pub made_holders : (o : OpenTables) (f g : Files) (path : Path) (kind : NodeKind) → AreHolders o f → g ≡ with_new f path kind → AreHolders o g
made_holders o f g path kind h is node = ap (λ (k : Files). holders_of k node) is ∙ zero_behind f.holders node ∙ h node

-- ---- the name

-- a path by the name in the directory that it stands in
pub record Spelled (f : Files) (name : List ℕ) (directory : ℕ) (path : Path) : Type 0 where
  pub above : Path
  pub is : path ≡ name ∷ above
  pub stands : get f.names above ≡ Some directory

pub spelled_by : (o : OpenTables) (f : Files) (text name : List ℕ) (way : Way) (last : Last) (m : IsMissing (joined o f) text way last) → name ≡ slice_range text last.from (last.from + last.len)
    → Spelled f name last.directory.0 m.path
spelled_by o f text name way last m is = record {
  above = m.named.above;
  is = m.named.spelled ∙ ap (λ (n : List ℕ). n ∷ m.named.above) (sym is);
  stands = m.named.stands;
}

-- ---- room

pub room_done : (there room : Bool) (s : State) (done : Step) → there ≡ false → None ≡ (if there then Some Eexist else if not room then Some Enospc else None) → fail_if (not room) Enospc s done ≡ done
room_done true room s done free e = absurd (false≢true (sym free))
room_done false true s done free e = refl
room_done false false s done free e = absurd cc

pub room_full : (there room : Bool) (s : State) (done : Step) (error : Errno) → there ≡ false → Some error ≡ (if there then Some Eexist else if not room then Some Enospc else None)
    → fail_if (not room) Enospc s done ≡ failed error s
room_full true room s done error free e = absurd (false≢true (sym free))
room_full false true s done error free e = absurd cc
room_full false false s done error free e = let same : Enospc ≡ error = cc in ap (λ (x : Errno). failed x s) same

-- ---- mkdir

-- the state with a directory more
abbrev with_directory : State → Path → State
with_directory s path = record (with_node s new_directory) { names = insert s.names path (length s.nodes) }

mkdir_missing : (s : State) (pid : ℕ) (text : List ℕ) (last : Last) (m : IsMissing s text (walk s pid text) last)
    → act_mkdir s pid text ≡ fail_if (not (has_room s)) Enospc s (answered 0 (with_directory s m.path))
mkdir_missing s pid text last m = ap (λ (w : Way). with_missing w Eexist s (λ path slash. fail_if (not (has_room s)) Enospc s (answered 0 (with_directory s path)))) m.walks

pub free_at : (f : Files) (path there : Path) → get f.names path ≡ None → path ≡ there → is_some (get f.names there) ≡ false
free_at f path there free is = ap (λ (p : Path). is_some (get f.names p)) (sym is) ∙ ap (λ (o : Option ℕ). is_some o) free

done_here : (o : OpenTables) (f g : Files) (pid : ℕ) (text name : List ℕ) (last : Last) → IsMissing (joined o f) text (walk (joined o f) pid text) last
    → name ≡ slice_range text last.from (last.from + last.len)
    → ((path : Path) → get f.names path ≡ Some last.directory.0 → None ≡ create_error f (name ∷ path))
    → ((path : Path) → get f.names path ≡ Some last.directory.0 → g ≡ with_new f (name ∷ path) Directory)
    → act_mkdir (joined o f) pid text ≡ answered 0 (joined o g)
done_here o f g pid text name last m is errors made =
    let sp = spelled_by o f text name (walk (joined o f) pid text) last m is in
    mkdir_missing (joined o f) pid text last m
    ∙ room_done (is_some (get f.names (name ∷ sp.above))) (has_room (joined o f)) (joined o f) (answered 0 (with_directory (joined o f) m.path))
    (free_at f m.path (name ∷ sp.above) m.free sp.is) (errors sp.above sp.stands)
    ∙ ap (λ (p : Path). answered 0 (joined o (with_new f p Directory))) sp.is
    ∙ ap (λ (k : Files). answered 0 (joined o k)) (sym (made sp.above sp.stands))

full_here : (o : OpenTables) (f : Files) (pid : ℕ) (text name : List ℕ) (last : Last) (error : Errno) → IsMissing (joined o f) text (walk (joined o f) pid text) last
    → name ≡ slice_range text last.from (last.from + last.len)
    → ((path : Path) → get f.names path ≡ Some last.directory.0 → Some error ≡ create_error f (name ∷ path))
    → act_mkdir (joined o f) pid text ≡ failed error (joined o f)
full_here o f pid text name last error m is errors =
    let sp = spelled_by o f text name (walk (joined o f) pid text) last m is in
    mkdir_missing (joined o f) pid text last m
    ∙ room_full (is_some (get f.names (name ∷ sp.above))) (has_room (joined o f)) (joined o f) (answered 0 (with_directory (joined o f) m.path)) error
    (free_at f m.path (name ∷ sp.above) m.free sp.is) (errors sp.above sp.stands)

-- a place that is missing in the state is missing in the tree
pub missing_in : (o : OpenTables) (f : Files) (s : State) (pid : ℕ) (text : List ℕ) (last : Last) → joined o f ≡ s → IsMissing s text (walk s pid text) last
    → IsMissing (joined o f) text (walk (joined o f) pid text) last
missing_in o f s pid text last view m = subst (λ (t : State). IsMissing t text (walk t pid text) last) (sym view) m

-- a directory that the tree made is one that a kernel makes
pub mkdir_done : (o : OpenTables) (f g : Files) (s : State) (pid : ℕ) (text name : List ℕ) (last : Last) → joined o f ≡ s → IsMissing s text (walk s pid text) last
    → name ≡ slice_range text last.from (last.from + last.len)
    → ((path : Path) → get f.names path ≡ Some last.directory.0 → None ≡ create_error f (name ∷ path))
    → ((path : Path) → get f.names path ≡ Some last.directory.0 → g ≡ with_new f (name ∷ path) Directory)
    → act_mkdir s pid text ≡ answered 0 (joined o g)
mkdir_done o f g s pid text name last view m is errors made =
    subst (λ (t : State). act_mkdir t pid text ≡ answered 0 (joined o g)) view (done_here o f g pid text name last (missing_in o f s pid text last view m) is errors made)

-- a directory that the tree could not make has the error that a kernel gives
pub mkdir_full : (o : OpenTables) (f : Files) (s : State) (pid : ℕ) (text name : List ℕ) (last : Last) (error : Errno) → joined o f ≡ s → IsMissing s text (walk s pid text) last
    → name ≡ slice_range text last.from (last.from + last.len)
    → ((path : Path) → get f.names path ≡ Some last.directory.0 → Some error ≡ create_error f (name ∷ path))
    → act_mkdir s pid text ≡ failed error s
mkdir_full o f s pid text name last error view m is errors =
    subst (λ (t : State). act_mkdir t pid text ≡ failed error t) view (full_here o f pid text name last error (missing_in o f s pid text last view m) is errors)
