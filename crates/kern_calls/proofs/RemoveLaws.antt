-- What a name that goes from the tree is to a kernel's state.
use Rattle.std.specs.Prelude.{slice_range, if◌then◌else◌}
use Rattle.std.specs.FinMap.{get, remove}
use Rattle.std.proofs.Common.{◌≡◌, ℕ, ◌+◌, Bool, true, false, List, ◌∷◌, Option, Some, refl, sym, ap, subst, ◌∙◌}
use Rattle.kern_model.specs.declared.walk.Walked.{Walked as Way}
use Rattle.kern_model.specs.Links.{act_unlink}
use Rattle.kern_model.specs.Links as links
use Rattle.kern_model.specs.Name.{Path}
use Rattle.kern_model.specs.State.{State, is_directory}
use Rattle.kern_model.specs.Step.{Step, answered, fail_if, with_found}
use Rattle.kern_model.specs.Walk.{walk}
use Rattle.sp_base.specs.declared.errno.Errno.TheVariants.{Eperm}
use Rattle.kern_names.specs.declared.walk.Last.{Last}
use Rattle.kern_open.specs.OpenTables.{OpenTables}
use Rattle.kern_files.specs.Files.{Files, holders_of, without_name}
use Rattle.kern_calls.specs.Joined.{joined, AreHolders}
use Rattle.kern_calls.specs.Reached.{IsFound}
use Rattle.kern_calls.proofs.Joins.{drop_same, kept_holders}

-- the state without a name is that of the tree without it
pub without_same : (o : OpenTables) (f : Files) (path : Path) (node : ℕ) → AreHolders o f → links.without_name (joined o f) path node ≡ joined o (without_name f path node)
without_same o f path node h = drop_same o (record f { names = remove f.names path }) node h

-- the holders stay without a name
pub without_holders : (o : OpenTables) (f g : Files) (path : Path) (node : ℕ) → AreHolders o f → g ≡ without_name f path node → AreHolders o g
without_holders o f g path node h is other = ap (λ (k : Files). holders_of k other) is ∙ kept_holders (record f { names = remove f.names path }) node other ∙ h other

-- what was found in the state, as the tree has it under a name
pub record Stands (f : Files) (name : List ℕ) (directory node : ℕ) (path : Path) : Type 0 where
  pub above : Path
  pub is : path ≡ name ∷ above
  pub stands : get f.names above ≡ Some directory
  pub there : get f.names (name ∷ above) ≡ Some node

pub stands_by : (o : OpenTables) (f : Files) (text name : List ℕ) (way : Way) (node : ℕ) (last : Last) (m : IsFound (joined o f) text way node (Some last))
    → name ≡ slice_range text last.from (last.from + last.len) → Stands f name last.directory.0 node m.path
stands_by o f text name way node last m is =
    let same : m.path ≡ name ∷ m.named.above = m.named.spelled ∙ ap (λ (n : List ℕ). n ∷ m.named.above) (sym is) in
    record { above = m.named.above; is = same; stands = m.named.stands; there = ap (get f.names) (sym same) ∙ m.stands }

-- what is found in the state is found in the tree
pub found_in : (o : OpenTables) (f : Files) (s : State) (pid node : ℕ) (text : List ℕ) (last : Option Last) → joined o f ≡ s → IsFound s text (walk s pid text) node last
    → IsFound (joined o f) text (walk (joined o f) pid text) node last
found_in o f s pid node text last view m = subst (λ (t : State). IsFound t text (walk t pid text) node last) (sym view) m

-- an unlink of what was found
unlink_found : (s : State) (pid node : ℕ) (text : List ℕ) (last : Option Last) (m : IsFound s text (walk s pid text) node last) → is_directory s node ≡ false
    → act_unlink s pid text ≡ answered 0 (links.without_name s m.path node)
unlink_found s pid node text last m file =
    ap (λ (w : Way). with_found w s (λ path node named. fail_if (is_directory s node) Eperm s (answered 0 (links.without_name s path node)))) m.walks
    ∙ ap (λ b. fail_if b Eperm s (answered 0 (links.without_name s m.path node))) file

-- an unlink of what was found, at the state of the parts
unlink_here : (o : OpenTables) (f g : Files) (pid node : ℕ) (text name : List ℕ) (last : Last) → AreHolders o f → IsFound (joined o f) text (walk (joined o f) pid text) node (Some last)
    → name ≡ slice_range text last.from (last.from + last.len) → is_directory (joined o f) node ≡ false
    → ((path : Path) (there : ℕ) → get f.names path ≡ Some last.directory.0 → get f.names (name ∷ path) ≡ Some there → g ≡ without_name f (name ∷ path) there)
    → (act_unlink (joined o f) pid text ≡ answered 0 (joined o g)) × AreHolders o g
unlink_here o f g pid node text name last h m is file gone =
    let st = stands_by o f text name (walk (joined o f) pid text) node last m is in
    let same = gone st.above node st.stands st.there in (
      unlink_found (joined o f) pid node text (Some last) m file ∙ ap (answered 0) (without_same o f m.path node h)
          ∙ ap (λ (p : Path). answered 0 (joined o (without_name f p node))) st.is ∙ ap (λ (k : Files). answered 0 (joined o k)) (sym same),
      without_holders o f g (name ∷ st.above) node h same,
    )

-- an unlink in the tree is a kernel's
pub unlink_done : (o : OpenTables) (f g : Files) (s : State) (pid node : ℕ) (text name : List ℕ) (last : Last) → joined o f ≡ s → AreHolders o f
    → IsFound s text (walk s pid text) node (Some last) → name ≡ slice_range text last.from (last.from + last.len) → is_directory s node ≡ false
    → ((path : Path) (there : ℕ) → get f.names path ≡ Some last.directory.0 → get f.names (name ∷ path) ≡ Some there → g ≡ without_name f (name ∷ path) there)
    → (act_unlink s pid text ≡ answered 0 (joined o g)) × AreHolders o g
unlink_done o f g s pid node text name last view h m is file gone =
    let here = unlink_here o f g pid node text name last h (found_in o f s pid node text (Some last) view m) is (ap (λ (t : State). is_directory t node) view ∙ file) gone in
    (subst (λ (t : State). act_unlink t pid text ≡ answered 0 (joined o g)) view here.0, here.1)
