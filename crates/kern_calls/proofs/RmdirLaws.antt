-- What an empty directory that goes from the tree is to a kernel's state.
use Rattle.std.specs.Prelude.{slice_range, is_some, if◌then◌else◌}
use Rattle.std.specs.FinMap.{get}
use Rattle.std.proofs.Common.{◌≡◌, ◌≢◌, ℕ, ◌+◌, ◌==◌, Bool, true, false, not, List, [], ◌∷◌, Option, None, Some, cond, refl, sym, ap, subst, ◌∙◌}
use Rattle.std.proofs.lemmas.Bool.{eq-eqb, eqb-true}
use Rattle.sp_base.specs.declared.errno.Errno.{Errno}
use Rattle.sp_base.specs.declared.errno.Errno.TheVariants.{Ebusy, Einval, Enotdir, Enotempty}
use Rattle.kern_model.proofs.BelowLaws.{path_from_test, other_test, same_test}
use Rattle.kern_model.specs.declared.walk.Walked.{Walked as Way}
use Rattle.kern_model.specs.Links.{act_rmdir, is_root}
use Rattle.kern_model.specs.Links as links
use Rattle.kern_model.specs.Name.{Path, has_entries, is_same_path}
use Rattle.kern_model.specs.Sound.{HasTree}
use Rattle.kern_model.specs.State.{State, root, is_directory, is_working_directory}
use Rattle.kern_model.specs.Step.{Step, failed, answered, fail_if, with_found}
use Rattle.kern_model.specs.Walk.{walk}
use Rattle.kern_names.specs.declared.walk.Last.{Last}
use Rattle.kern_open.specs.OpenTables.{OpenTables}
use Rattle.kern_files.specs.Files.{Files, without_name}
use Rattle.kern_calls.specs.Joined.{joined, AreHolders}
use Rattle.kern_calls.specs.Reached.{IsFound}
use Rattle.kern_calls.proofs.RemoveLaws.{without_same, without_holders, stands_by, found_in}

-- a path is the root's exactly where its node is
pub root_node : (s : State) (path : Path) (node : ℕ) → HasTree s → get s.names path ≡ Some node → is_root path ≡ (node == root)
root_node s path node h stands =
    elim (is_root path) as (λ b. is_root path ≡ b → b ≡ (node == root)) [
      | true ↦ λ t.
          let same : path ≡ [] = path_from_test path [] t in
          let there : ◌≡◌ {A = Option ℕ} (Some node) (Some root) = sym stands ∙ ap (get s.names) same ∙ h.tree.top in
          let is : node ≡ root = cc in
          sym (eq-eqb node root is)
      | false ↦ λ t.
          elim (node == root) as (λ b. (node == root) ≡ b → false ≡ b) [
            | true ↦ λ u.
                let is : node ≡ root = eqb-true node root u in
                let same : path ≡ [] = h.tree.once path [] root (stands ∙ ap (λ n. Some n) is) h.tree.top h.tree.root_directory in
                sym t ∙ ap is_root same ∙ same_test []
            | false ↦ λ u. refl
          ] refl
    ] refl

-- an rmdir of a directory that was found
abbrev pub rmdir_by : State → Path → ℕ → Bool → Step
rmdir_by s path node named =
    fail_if (is_root path) Ebusy s
    (fail_if (not named) Einval s
    (fail_if (has_entries s.names path) Enotempty s
    (fail_if (is_working_directory s node) Ebusy s
    (answered 0 (links.without_name s path node)))))

pub rmdir_found : (s : State) (pid node : ℕ) (text : List ℕ) (last : Option Last) (m : IsFound s text (walk s pid text) node last)
    → act_rmdir s pid text ≡ fail_if (not (is_directory s node)) Enotdir s (rmdir_by s m.path node (is_some last))
rmdir_found s pid node text last m =
    ap (λ (w : Way). with_found w s (λ path n named. fail_if (not (is_directory s n)) Enotdir s (rmdir_by s path n named))) m.walks

-- what has no name of its own is refused: the root as busy, else as `.` or `..`
pub root_error : (b : Bool) (s : State) (error : Errno) → error ≡ (if b then Ebusy else Einval) → fail_if b Ebusy s (failed Einval s) ≡ failed error s
root_error true s error is = ap (λ (e : Errno). failed e s) (sym is)
root_error false s error is = ap (λ (e : Errno). failed e s) (sym is)

-- an rmdir of what was found without a name
pub rmdir_unnamed : (s : State) (pid node : ℕ) (text : List ℕ) (last : Option Last) (error : Errno) → HasTree s → IsFound s text (walk s pid text) node last → last ≡ None
    → is_directory s node ≡ true → error ≡ (if node == root then Ebusy else Einval) → act_rmdir s pid text ≡ failed error s
rmdir_unnamed s pid node text last error h m none directory is =
    rmdir_found s pid node text last m
    ∙ ap (λ b. fail_if (not b) Enotdir s (rmdir_by s m.path node (is_some last))) directory
    ∙ ap (λ (l : Option Last). rmdir_by s m.path node (is_some l)) none
    ∙ ap (λ b. fail_if b Ebusy s (failed Einval s)) (root_node s m.path node h m.stands)
    ∙ root_error (node == root) s error is

-- an rmdir of a directory that was found under its name
pub rmdir_named : (s : State) (pid node : ℕ) (text : List ℕ) (last : Last) (m : IsFound s text (walk s pid text) node (Some last)) → is_directory s node ≡ true
    → act_rmdir s pid text ≡ fail_if (has_entries s.names m.path) Enotempty s (fail_if (is_working_directory s node) Ebusy s (answered 0 (links.without_name s m.path node)))
rmdir_named s pid node text last m directory =
    let below : is_root m.path ≡ false = ap is_root m.named.spelled ∙ other_test (slice_range text last.from (last.from + last.len) ∷ m.named.above) [] (λ e. absurd cc) in
    rmdir_found s pid node text (Some last) m
    ∙ ap (λ b. fail_if (not b) Enotdir s (rmdir_by s m.path node true)) directory
    ∙ ap (λ b. fail_if b Ebusy s (fail_if (has_entries s.names m.path) Enotempty s (fail_if (is_working_directory s node) Ebusy s (answered 0 (links.without_name s m.path node))))) below

-- an rmdir of a directory that was found under its name, by whether it has entries and whether some process works in it
pub rmdir_by_tests : (s : State) (pid node : ℕ) (text : List ℕ) (last : Last) (m : IsFound s text (walk s pid text) node (Some last)) (entries busy : Bool) → is_directory s node ≡ true
    → has_entries s.names m.path ≡ entries → is_working_directory s node ≡ busy
    → act_rmdir s pid text ≡ fail_if entries Enotempty s (fail_if busy Ebusy s (answered 0 (links.without_name s m.path node)))
rmdir_by_tests s pid node text last m entries busy directory e b =
    rmdir_named s pid node text last m directory
    ∙ ap (λ t. fail_if t Enotempty s (fail_if (is_working_directory s node) Ebusy s (answered 0 (links.without_name s m.path node)))) e
    ∙ ap (λ t. fail_if entries Enotempty s (fail_if t Ebusy s (answered 0 (links.without_name s m.path node)))) b

-- an rmdir of what the tree found empty and no process works in, at the state of the parts
rmdir_here : (o : OpenTables) (f g : Files) (pid node : ℕ) (text name : List ℕ) (last : Last) → AreHolders o f → IsFound (joined o f) text (walk (joined o f) pid text) node (Some last)
    → name ≡ slice_range text last.from (last.from + last.len) → is_directory (joined o f) node ≡ true
    → ((path : Path) → get f.names path ≡ Some node → has_entries f.names path ≡ false) → is_working_directory (joined o f) node ≡ false
    → ((path : Path) (there : ℕ) → get f.names path ≡ Some last.directory.0 → get f.names (name ∷ path) ≡ Some there → g ≡ without_name f (name ∷ path) there)
    → (act_rmdir (joined o f) pid text ≡ answered 0 (joined o g)) × AreHolders o g
rmdir_here o f g pid node text name last h m is directory empty idle gone =
    let st = stands_by o f text name (walk (joined o f) pid text) node last m is in
    let same = gone st.above node st.stands st.there in (
      rmdir_by_tests (joined o f) pid node text last m false false directory (empty m.path m.stands) idle ∙ ap (answered 0) (without_same o f m.path node h)
          ∙ ap (λ (p : Path). answered 0 (joined o (without_name f p node))) st.is ∙ ap (λ (k : Files). answered 0 (joined o k)) (sym same),
      without_holders o f g (name ∷ st.above) node h same,
    )

-- an rmdir in the tree is a kernel's
pub rmdir_done : (o : OpenTables) (f g : Files) (s : State) (pid node : ℕ) (text name : List ℕ) (last : Last) → joined o f ≡ s → AreHolders o f
    → IsFound s text (walk s pid text) node (Some last) → name ≡ slice_range text last.from (last.from + last.len) → is_directory s node ≡ true
    → ((path : Path) → get f.names path ≡ Some node → has_entries f.names path ≡ false) → is_working_directory (joined o f) node ≡ false
    → ((path : Path) (there : ℕ) → get f.names path ≡ Some last.directory.0 → get f.names (name ∷ path) ≡ Some there → g ≡ without_name f (name ∷ path) there)
    → (act_rmdir s pid text ≡ answered 0 (joined o g)) × AreHolders o g
rmdir_done o f g s pid node text name last view h m is directory empty idle gone =
    let here = rmdir_here o f g pid node text name last h (found_in o f s pid node text (Some last) view m) is (ap (λ (t : State). is_directory t node) view ∙ directory) empty idle gone in
    (subst (λ (t : State). act_rmdir t pid text ≡ answered 0 (joined o g)) view here.0, here.1)
