-- What a walk of the tree is to a kernel's state.
use Rattle.std.proofs.Common.{◌≡◌, ℕ, Bool, List, Option, None, Some, refl, sym, ap, subst, ◌∙◌}
use Rattle.std.specs.Prelude.{IfSome, IsSome}
use Rattle.std.specs.FinMap.{get}
use Rattle.sp_base.specs.Table.{at}
use Rattle.kern_model.specs.declared.walk.Walked.{Walked as Way}
use Rattle.kern_model.specs.Name.{Path}
use Rattle.kern_model.specs.Sound.{IsSound, IsNamedDirectory}
use Rattle.kern_model.specs.State.{State, Process, directory_in, directory_of}
use Rattle.kern_names.specs.declared.walk.Last.{Last}
use Rattle.kern_names.specs.declared.walk.Walked.{Walked}
use Rattle.kern_names.specs.declared.walk.Walked.TheVariants.{Found, Missing, Fault}
use Rattle.kern_open.specs.OpenTables.{OpenTables}
use Rattle.kern_files.specs.Files.{Files}
use Rattle.kern_calls.specs.Joined.{joined}
use Rattle.kern_files.specs.Reach.{IsLast, IsNamed, Reaches}
use Rattle.kern_calls.specs.Reached.{files_of}
use Rattle.kern_files.specs.Requests.{IsDirectory}

-- ---- holders don't count

same_directory : (o : OpenTables) (f : Files) (node : ℕ) → IsDirectory f node → IsDirectory (files_of (joined o f)) node
same_directory o f node d = record { path = d.path; stands = d.stands; directory = d.directory }

same_last : (o : OpenTables) (f : Files) (text : List ℕ) (path : Path) (last : Last) → IsLast f text path last → IsLast (files_of (joined o f)) text path last
same_last o f text path last l = record {
  above = l.above;
  spelled = l.spelled;
  stands = l.stands;
  within = same_directory o f last.directory.0 l.within;
  fits = l.fits;
  slash = l.slash;
}

same_named : (o : OpenTables) (f : Files) (text : List ℕ) (path : Path) (last : Option Last) → IsNamed f text path last → IsNamed (files_of (joined o f)) text path last
same_named o f text path None n = n
same_named o f text path (Some last) n = same_last o f text path last n

same_reach : (o : OpenTables) (f : Files) (text : List ℕ) (walk : Way) (r : Walked) → Reaches f text walk r → Reaches (files_of (joined o f)) text walk r
same_reach o f text walk (Found node last) r = (r.0, r.1, r.2, same_named o f text r.0 last r.3)
same_reach o f text walk (Missing last) r = (r.0, r.1, r.2, same_last o f text r.0 last r.3)
same_reach o f text walk (Fault error) r = r

-- a walk of the tree reaches in a state what it reaches in the tree
pub reaches : (o : OpenTables) (f : Files) (s : State) (text : List ℕ) (walk : State → Way) (r : Walked) → joined o f ≡ s → Reaches f text (walk (joined o f)) r → Reaches (files_of s) text (walk s) r
reaches o f s text walk r view h = subst (λ (t : State). Reaches (files_of t) text (walk t) r) view (same_reach o f text (walk (joined o f)) r h)

-- a process works in a directory of the tree
pub works_in : (o : OpenTables) (f : Files) (s : State) (pid node : ℕ) → joined o f ≡ s → IsSound s → node ≡ directory_of s pid → IsDirectory f node
works_in o f s pid node view sound is =
    let d = subst (λ (t : State). IsNamedDirectory t.names t.nodes (directory_of t pid)) (sym view) (sound.tree.working pid) in
    let e : directory_of (joined o f) pid ≡ node = ap (λ (t : State). directory_of t pid) view ∙ sym is in
    subst (λ (n : ℕ). IsDirectory f n) e (record { path = d.path; stands = d.stands; directory = d.directory })

-- the working directory of a process that is there
directory_is : (process : Option Process) (node : ℕ) → IsSome process → IfSome process (λ p. node ≡ p.directory) → node ≡ directory_in process
directory_is None node live is = absurd cc
directory_is (Some p) node live is = is

-- the working directory in the tables is that in the state
pub works_at : (o : OpenTables) (f : Files) (s : State) (pid node : ℕ) → joined o f ≡ s → IsSome (at s.processes pid) → IfSome (at o.processes pid) (λ p. node ≡ p.directory)
    → node ≡ directory_of (joined o f) pid
works_at o f s pid node view live is = directory_is (at o.processes pid) node (subst (λ (t : State). IsSome (at t.processes pid)) (sym view) live) is
