-- What a rename in the tree is to a kernel's state.
use Rattle.std.specs.Prelude.{slice_range, is_some, if◌then◌else◌}
use Rattle.std.specs.FinMap.{get}
use Rattle.std.proofs.Common.{◌≡◌, ℕ, ◌+◌, ◌==◌, Bool, true, false, not, ◌&&◌, ◌||◌, List, [], ◌∷◌, ◌⊎◌, inl, inr, Option, None, Some, cond, refl, sym, ap, subst, ◌∙◌}
use Rattle.std.proofs.lemmas.Bool.{eq-eqb, true≢false}
use Rattle.sp_base.specs.declared.errno.Errno.{Errno}
use Rattle.sp_base.specs.declared.names.NodeNo.{NodeNo}
use Rattle.sp_base.specs.declared.errno.Errno.TheVariants.{Ebusy, Eisdir, Einval, Enoent, Enotdir, Enotempty}
use Rattle.kern_model.proofs.BelowLaws.{other_test, path_from_test}
use Rattle.kern_model.specs.declared.walk.Walked.{Walked as Way}
use Rattle.kern_model.specs.declared.walk.Walked.TheVariants as way
use Rattle.kern_model.specs.Links.{act_rename, is_below, is_root, moved, rename_over, rename_to, without_name}
use Rattle.kern_model.specs.Links as links
use Rattle.kern_model.specs.Name.{Path, has_entries, is_same_path}
use Rattle.kern_model.specs.Sound.{HasTree}
use Rattle.kern_model.specs.State.{State, root, is_directory, is_working_directory}
use Rattle.kern_model.specs.Step.{Step, failed, answered, fail_if, with_found}
use Rattle.kern_model.specs.Walk.{walk}
use Rattle.kern_names.specs.declared.walk.Last.{Last}
use Rattle.kern_names.specs.declared.walk.Walked.{Walked}
use Rattle.kern_names.specs.declared.walk.Walked.TheVariants.{Found, Missing}
use Rattle.kern_open.specs.OpenTables.{OpenTables}
use Rattle.kern_files.proofs.RenameLaws.{error_free, error_taken}
use Rattle.kern_files.specs.Files.{Files, rename_error}
use Rattle.kern_files.specs.Files as files
use Rattle.kern_files.specs.Reach.{IsLast, Reaches}
use Rattle.kern_calls.specs.Joined.{joined, AreHolders}
use Rattle.kern_calls.specs.Reached.{IsFound, IsMissing, files_of}
use Rattle.kern_calls.specs.Renames.{MayRename, renamed_to}
use Rattle.kern_calls.proofs.RemoveLaws.{without_same, without_holders}
use Rattle.kern_calls.proofs.RmdirLaws.{root_error, root_node}

-- a rename of what was found, by what the new text leads to
rename_found : (s : State) (pid node : ℕ) (old new : List ℕ) (last : Option Last) (m : IsFound s old (walk s pid old) node last)
    → act_rename s pid old new ≡ rename_to s m.path node (is_some last) (walk s pid new)
rename_found s pid node old new last m = ap (λ (w : Way). with_found w s (λ path n named. rename_to s path n named (walk s pid new))) m.walks

pub rename_faulty : (s : State) (pid node : ℕ) (old new : List ℕ) (last : Option Last) (error : Errno) → IsFound s old (walk s pid old) node last → walk s pid new ≡ way.Faulty error
    → act_rename s pid old new ≡ failed error s
rename_faulty s pid node old new last error m faulty = rename_found s pid node old new last m ∙ ap (rename_to s m.path node (is_some last)) faulty

-- a name isn't the root's
not_root : (path above : Path) (name : List ℕ) → path ≡ name ∷ above → is_root path ≡ false
not_root path above name e = ap is_root e ∙ other_test (name ∷ above) [] (λ k. absurd cc)

-- ---- to a place that nothing stands under

rename_free : (s : State) (pid node : ℕ) (old new : List ℕ) (last : Option Last) (to : Last) (m : IsFound s old (walk s pid old) node last) (n : IsMissing s new (walk s pid new) to)
    → act_rename s pid old new ≡ fail_if (to.slash && not (is_directory s node)) Enoent s (links.rename_to_missing s m.path node (is_some last) n.path)
rename_free s pid node old new last to m n = rename_found s pid node old new last m ∙ ap (rename_to s m.path node (is_some last)) n.walks

-- another object than a directory has no name that a slash follows
pub rename_slash : (s : State) (pid node : ℕ) (old new : List ℕ) (last : Option Last) (to : Last) → IsFound s old (walk s pid old) node last → IsMissing s new (walk s pid new) to
    → (to.slash && not (is_directory s node)) ≡ true → act_rename s pid old new ≡ failed Enoent s
rename_slash s pid node old new last to m n slash =
    rename_free s pid node old new last to m n ∙ ap (λ b. fail_if b Enoent s (links.rename_to_missing s m.path node (is_some last) n.path)) slash

free_place : (s : State) (pid node : ℕ) (old new : List ℕ) (last : Option Last) (to : Last) (m : IsFound s old (walk s pid old) node last) (n : IsMissing s new (walk s pid new) to)
    → (to.slash && not (is_directory s node)) ≡ false → act_rename s pid old new ≡ links.rename_to_missing s m.path node (is_some last) n.path
free_place s pid node old new last to m n fits =
    rename_free s pid node old new last to m n ∙ ap (λ b. fail_if b Enoent s (links.rename_to_missing s m.path node (is_some last) n.path)) fits

-- what was found without a name of its own
pub rename_unnamed : (s : State) (pid node : ℕ) (old new : List ℕ) (last : Option Last) (to : Last) (error : Errno) → HasTree s → IsFound s old (walk s pid old) node last → IsMissing s new (walk s pid new) to
    → (to.slash && not (is_directory s node)) ≡ false → last ≡ None → error ≡ (if node == root then Ebusy else Einval) → act_rename s pid old new ≡ failed error s
rename_unnamed s pid node old new last to error h m n fits none is =
    free_place s pid node old new last to m n fits
    ∙ ap (λ (l : Option Last). links.rename_to_missing s m.path node (is_some l) n.path) none
    ∙ ap (λ b. fail_if b Ebusy s (failed Einval s)) (root_node s m.path node h m.stands)
    ∙ root_error (node == root) s error is

named_free : (s : State) (pid node : ℕ) (old new : List ℕ) (from to : Last) (m : IsFound s old (walk s pid old) node (Some from)) (n : IsMissing s new (walk s pid new) to)
    → (to.slash && not (is_directory s node)) ≡ false
    → act_rename s pid old new ≡ fail_if (is_below n.path m.path) Einval s (answered 0 (moved s m.path n.path))
named_free s pid node old new from to m n fits =
    free_place s pid node old new (Some from) to m n fits
    ∙ ap (λ b. fail_if b Ebusy s (fail_if (is_below n.path m.path) Einval s (answered 0 (moved s m.path n.path)))) (not_root m.path m.named.above _ m.named.spelled)

refused_free : (inside : Bool) (s : State) (takes : Step) (error : Errno) → Some error ≡ cond inside (Some Einval) None → fail_if inside Einval s takes ≡ failed error s
refused_free true s takes error e = let same : Einval ≡ error = cc in ap (λ (x : Errno). failed x s) same
refused_free false s takes error e = absurd cc

allowed_free : (inside : Bool) (s : State) (takes : Step) → cond inside (Some Einval) None ≡ None → fail_if inside Einval s takes ≡ takes
allowed_free true s takes e = absurd cc
allowed_free false s takes e = refl

-- a place that the tree refuses
pub rename_free_refused : (s : State) (pid node : ℕ) (old new : List ℕ) (from to : Last) (error : Errno) (m : IsFound s old (walk s pid old) node (Some from)) (n : IsMissing s new (walk s pid new) to)
    → (to.slash && not (is_directory s node)) ≡ false → Some error ≡ rename_error (files_of s) m.path n.path → act_rename s pid old new ≡ failed error s
rename_free_refused s pid node old new from to error m n fits e =
    named_free s pid node old new from to m n fits
    ∙ refused_free (is_below n.path m.path) s (answered 0 (moved s m.path n.path)) error (e ∙ error_free (files_of s) m.path n.path node (is_below n.path m.path) m.stands n.free refl)

-- a place that it allows
pub rename_free_may : (s : State) (pid node : ℕ) (old new : List ℕ) (from to : Last) (m : IsFound s old (walk s pid old) node (Some from)) (n : IsMissing s new (walk s pid new) to)
    → (to.slash && not (is_directory s node)) ≡ false → None ≡ rename_error (files_of s) m.path n.path → MayRename s pid old new from to
rename_free_may s pid node old new from to m n fits e = record {
  path = m.path;
  above = n.path;
  node = node;
  begins = m.named;
  ends = n.named;
  there = m.stands;
  allowed = sym e;
  acts = named_free s pid node old new from to m n fits
      ∙ allowed_free (is_below n.path m.path) s (answered 0 (moved s m.path n.path)) (sym (error_free (files_of s) m.path n.path node (is_below n.path m.path) m.stands n.free refl) ∙ sym e)
      ∙ ap (λ o. answered 0 (renamed_to s m.path node n.path o)) (sym n.free);
}

-- ---- to a place that something stands under

rename_taken : (s : State) (pid node replaced : ℕ) (old new : List ℕ) (last target : Option Last) (m : IsFound s old (walk s pid old) node last) (n : IsFound s new (walk s pid new) replaced target)
    → act_rename s pid old new ≡ links.rename_to_found s m.path node (is_some last) n.path replaced (is_some target)
rename_taken s pid node replaced old new last target m n = rename_found s pid node old new last m ∙ ap (rename_to s m.path node (is_some last)) n.walks

-- one of the two has no name of its own
pub rename_unnamed_taken : (s : State) (pid node replaced : ℕ) (old new : List ℕ) (last target : Option Last) (error : Errno) → HasTree s → IsFound s old (walk s pid old) node last
    → IsFound s new (walk s pid new) replaced target → (is_some last && is_some target) ≡ false → error ≡ (if (node == root) || (replaced == root) then Ebusy else Einval)
    → act_rename s pid old new ≡ failed error s
rename_unnamed_taken s pid node replaced old new last target error h m n both is =
    rename_taken s pid node replaced old new last target m n
    ∙ ap (λ b. cond (b && is_same_path m.path n.path) (answered 0 s) (fail_if (is_root m.path || is_root n.path) Ebusy s (fail_if (not b) Einval s (
    cond (node == replaced) (answered 0 (without_name s m.path node)) (fail_if (is_below n.path m.path) Einval s (rename_over s m.path node n.path replaced)))))) both
    ∙ (λ i. fail_if (root_node s m.path node h m.stands i || root_node s n.path replaced h n.stands i) Ebusy s (failed Einval s))
    ∙ root_error ((node == root) || (replaced == root)) s error is

-- what a rename onto a named object does, by what it tests
abbrev onto : State → Bool → Bool → Bool → Bool → Bool → Bool → Bool → Step → Step → Step → Step
onto s same equal inside d r e w stays loses takes =
    cond same stays (cond equal loses (fail_if inside Einval s (fail_if (not d && r) Eisdir s (fail_if (d && not r) Enotdir s (fail_if (r && e) Enotempty s (fail_if w Ebusy s takes))))))

-- why the tree refuses it
abbrev fault_onto : Bool → Bool → Bool → Bool → Bool → Option Errno
fault_onto equal inside d r e =
    cond equal None (cond inside (Some Einval) (cond (not d && r) (Some Eisdir) (cond (d && not r) (Some Enotdir) (cond (r && e) (Some Enotempty) None))))

refused_onto : (s : State) (same equal inside d r e w : Bool) (stays loses takes : Step) (error : Errno) → (same ≡ true → equal ≡ true) → Some error ≡ fault_onto equal inside d r e
    → onto s same equal inside d r e w stays loses takes ≡ failed error s
refused_onto s same true inside d r e w stays loses takes error one f = absurd cc
refused_onto s true false inside d r e w stays loses takes error one f = absurd (true≢false (sym (one refl)))
refused_onto s false false true d r e w stays loses takes error one f = let is : Einval ≡ error = cc in ap (λ (x : Errno). failed x s) is
refused_onto s false false false false true e w stays loses takes error one f = let is : Eisdir ≡ error = cc in ap (λ (x : Errno). failed x s) is
refused_onto s false false false false false e w stays loses takes error one f = absurd cc
refused_onto s false false false true false e w stays loses takes error one f = let is : Enotdir ≡ error = cc in ap (λ (x : Errno). failed x s) is
refused_onto s false false false true true true w stays loses takes error one f = let is : Enotempty ≡ error = cc in ap (λ (x : Errno). failed x s) is
refused_onto s false false false true true false w stays loses takes error one f = absurd cc

allowed_onto : (s : State) (same equal inside d r e w : Bool) (stays loses takes : Step) → (same ≡ true → equal ≡ true) → None ≡ fault_onto equal inside d r e
    → onto s same equal inside d r e w stays loses takes ≡ cond same stays (cond equal loses (fail_if w Ebusy s takes))
allowed_onto s true equal inside d r e w stays loses takes one f = refl
allowed_onto s false true inside d r e w stays loses takes one f = refl
allowed_onto s false false true d r e w stays loses takes one f = absurd cc
allowed_onto s false false false false true e w stays loses takes one f = absurd cc
allowed_onto s false false false false false e w stays loses takes one f = refl
allowed_onto s false false false true false e w stays loses takes one f = absurd cc
allowed_onto s false false false true true true w stays loses takes one f = absurd cc
allowed_onto s false false false true true false w stays loses takes one f = refl

-- a rename of a named object onto another, or onto itself
abbrev named_onto : State → Path → ℕ → Path → ℕ → Step
named_onto s old node new replaced =
    onto s (is_same_path old new) (node == replaced) (is_below new old) (is_directory s node) (is_directory s replaced) (has_entries s.names new) (is_working_directory s replaced)
    (answered 0 s) (answered 0 (without_name s old node)) (answered 0 (moved (without_name s new replaced) old new))

named_taken : (s : State) (pid node replaced : ℕ) (old new : List ℕ) (from to : Last) (m : IsFound s old (walk s pid old) node (Some from)) (n : IsFound s new (walk s pid new) replaced (Some to))
    → act_rename s pid old new ≡ named_onto s m.path node n.path replaced
named_taken s pid node replaced old new from to m n =
    rename_taken s pid node replaced old new (Some from) (Some to) m n
    ∙ (λ i. cond (is_same_path m.path n.path) (answered 0 s) (fail_if (not_root m.path m.named.above _ m.named.spelled i || not_root n.path n.named.above _ n.named.spelled i) Ebusy s (
    cond (node == replaced) (answered 0 (without_name s m.path node)) (fail_if (is_below n.path m.path) Einval s (rename_over s m.path node n.path replaced)))))

-- one path leads to one node
one_node : (s : State) (old new : Path) (node replaced : ℕ) → get s.names old ≡ Some node → get s.names new ≡ Some replaced → is_same_path old new ≡ true → (node == replaced) ≡ true
one_node s old new node replaced there taken same =
    let both : ◌≡◌ {A = Option ℕ} (Some node) (Some replaced) = sym there ∙ ap (get s.names) (path_from_test old new same) ∙ taken in
    let is : node ≡ replaced = cc in
    eq-eqb node replaced is

-- the tree's fault
fault_taken : (s : State) (old new : Path) (node replaced : ℕ) → get s.names old ≡ Some node → get s.names new ≡ Some replaced
    → rename_error (files_of s) old new ≡ fault_onto (node == replaced) (is_below new old) (is_directory s node) (is_directory s replaced) (has_entries s.names new)
fault_taken s old new node replaced there taken = error_taken (files_of s) old new node replaced (node == replaced) (is_below new old) there taken refl refl

-- a place that the tree refuses
pub rename_taken_refused : (s : State) (pid node replaced : ℕ) (old new : List ℕ) (from to : Last) (error : Errno) (m : IsFound s old (walk s pid old) node (Some from))
    (n : IsFound s new (walk s pid new) replaced (Some to)) → Some error ≡ rename_error (files_of s) m.path n.path → act_rename s pid old new ≡ failed error s
rename_taken_refused s pid node replaced old new from to error m n e =
    named_taken s pid node replaced old new from to m n
    ∙ refused_onto s (is_same_path m.path n.path) (node == replaced) (is_below n.path m.path) (is_directory s node) (is_directory s replaced) (has_entries s.names n.path) (is_working_directory s replaced)
    (answered 0 s) (answered 0 (without_name s m.path node)) (answered 0 (moved (without_name s n.path replaced) m.path n.path)) error (one_node s m.path n.path node replaced m.stands n.stands) (e ∙ fault_taken s m.path n.path node replaced m.stands n.stands)

taken_allowed : (s : State) (pid node replaced : ℕ) (old new : List ℕ) (from to : Last) (m : IsFound s old (walk s pid old) node (Some from))
    (n : IsFound s new (walk s pid new) replaced (Some to)) → None ≡ rename_error (files_of s) m.path n.path
    → act_rename s pid old new ≡ cond (is_same_path m.path n.path) (answered 0 s) (cond (node == replaced) (answered 0 (without_name s m.path node))
    (fail_if (is_working_directory s replaced) Ebusy s (answered 0 (moved (without_name s n.path replaced) m.path n.path))))
taken_allowed s pid node replaced old new from to m n e =
    named_taken s pid node replaced old new from to m n
    ∙ allowed_onto s (is_same_path m.path n.path) (node == replaced) (is_below n.path m.path) (is_directory s node) (is_directory s replaced) (has_entries s.names n.path) (is_working_directory s replaced)
    (answered 0 s) (answered 0 (without_name s m.path node)) (answered 0 (moved (without_name s n.path replaced) m.path n.path)) (one_node s m.path n.path node replaced m.stands n.stands) (e ∙ fault_taken s m.path n.path node replaced m.stands n.stands)

busy_onto : (s : State) (same equal w : Bool) (stays loses takes : Step) → (same ≡ true → equal ≡ true) → equal ≡ false → w ≡ true → cond same stays (cond equal loses (fail_if w Ebusy s takes)) ≡ failed Ebusy s
busy_onto s same true w stays loses takes one f b = absurd (true≢false f)
busy_onto s true false w stays loses takes one f b = absurd (true≢false (sym (one refl)))
busy_onto s false false true stays loses takes one f b = refl
busy_onto s false false false stays loses takes one f b = absurd (true≢false (sym b))

-- a place where some process works
pub rename_busy : (s : State) (pid node replaced : ℕ) (old new : List ℕ) (from to : Last) (m : IsFound s old (walk s pid old) node (Some from)) (n : IsFound s new (walk s pid new) replaced (Some to))
    → None ≡ rename_error (files_of s) m.path n.path → (node == replaced) ≡ false → is_working_directory s replaced ≡ true → act_rename s pid old new ≡ failed Ebusy s
rename_busy s pid node replaced old new from to m n e other busy =
    taken_allowed s pid node replaced old new from to m n e
    ∙ busy_onto s _ (node == replaced) (is_working_directory s replaced) _ _ _ (one_node s m.path n.path node replaced m.stands n.stands) other busy

free_onto : (s a b c : State) (same equal w : Bool) → (equal ≡ true) ⊎ (w ≡ false)
    → cond same (answered 0 a) (cond equal (answered 0 b) (fail_if w Ebusy s (answered 0 c))) ≡ answered 0 (cond same a (cond equal b c))
free_onto s a b c true equal w h = refl
free_onto s a b c false true w h = refl
free_onto s a b c false false false h = refl
free_onto s a b c false false true (inl h) = absurd (true≢false (sym h))
free_onto s a b c false false true (inr h) = absurd (true≢false h)

-- a place that the tree allows, and where no process works
pub rename_taken_may : (s : State) (pid node replaced : ℕ) (old new : List ℕ) (from to : Last) (m : IsFound s old (walk s pid old) node (Some from)) (n : IsFound s new (walk s pid new) replaced (Some to))
    → None ≡ rename_error (files_of s) m.path n.path → ((node == replaced) ≡ true) ⊎ (is_working_directory s replaced ≡ false) → MayRename s pid old new from to
rename_taken_may s pid node replaced old new from to m n e idle = record {
  path = m.path;
  above = n.path;
  node = node;
  begins = m.named;
  ends = n.named;
  there = m.stands;
  allowed = sym e;
  acts = taken_allowed s pid node replaced old new from to m n e
      ∙ free_onto s s (without_name s m.path node) (moved (without_name s n.path replaced) m.path n.path) (is_same_path m.path n.path) (node == replaced) (is_working_directory s replaced) idle
      ∙ ap (λ o. answered 0 (renamed_to s m.path node n.path o)) (sym n.stands);
}

-- ---- a rename in the tree

renamed_same : (o : OpenTables) (f : Files) (old new : Path) (node : ℕ) (at : Option ℕ) → AreHolders o f → renamed_to (joined o f) old node new at ≡ joined o (files.renamed_to f old node new at)
renamed_same o f old new node None h = refl
renamed_same o f old new node (Some replaced) h = by_tests (is_same_path old new) (node == replaced) where
  by_tests : (same equal : Bool) → cond same (joined o f) (cond equal (without_name (joined o f) old node) (moved (without_name (joined o f) new replaced) old new))
      ≡ joined o (cond same f (cond equal (files.without_name f old node) (files.moved (files.without_name f new replaced) old new)))
  by_tests true equal = refl
  by_tests false true = without_same o f old node h
  by_tests false false = ap (λ (t : State). moved t old new) (without_same o f new replaced h)

renamed_holders : (o : OpenTables) (f : Files) (old new : Path) (node : ℕ) (at : Option ℕ) → AreHolders o f → AreHolders o (files.renamed_to f old node new at)
renamed_holders o f old new node None h = h
renamed_holders o f old new node (Some replaced) h = by_tests (is_same_path old new) (node == replaced) where
  by_tests : (same equal : Bool) → AreHolders o (cond same f (cond equal (files.without_name f old node) (files.moved (files.without_name f new replaced) old new)))
  by_tests true equal = h
  by_tests false true = without_holders o f (files.without_name f old node) old node h refl
  by_tests false false = without_holders o f (files.without_name f new replaced) new replaced h refl

-- a rename in the tree, at the state of the parts
renamed_here : (o : OpenTables) (f g : Files) (pid : ℕ) (old new old_name new_name : List ℕ) (from to : Last) → AreHolders o f → MayRename (joined o f) pid old new from to
    → old_name ≡ slice_range old from.from (from.from + from.len) → new_name ≡ slice_range new to.from (to.from + to.len)
    → ((path above : Path) (node : ℕ) → get f.names path ≡ Some from.directory.0 → get f.names above ≡ Some to.directory.0 → get f.names (old_name ∷ path) ≡ Some node
    → g ≡ files.renamed_to f (old_name ∷ path) node (new_name ∷ above) (get f.names (new_name ∷ above)))
    → (act_rename (joined o f) pid old new ≡ answered 0 (joined o g)) × AreHolders o g
renamed_here o f g pid old new old_name new_name from to h m old_is new_is moves =
    let begins : old_name ∷ m.begins.above ≡ m.path = ap (λ (n : List ℕ). n ∷ m.begins.above) old_is ∙ sym m.begins.spelled in
    let ends : new_name ∷ m.ends.above ≡ m.above = ap (λ (n : List ℕ). n ∷ m.ends.above) new_is ∙ sym m.ends.spelled in
    let is : g ≡ files.renamed_to f m.path m.node m.above (get f.names m.above) =
    moves m.begins.above m.ends.above m.node m.begins.stands m.ends.stands (ap (get f.names) begins ∙ m.there)
    ∙ (λ i. files.renamed_to f (begins i) m.node (ends i) (get f.names (ends i))) in (
      m.acts ∙ ap (answered 0) (renamed_same o f m.path m.above m.node (get f.names m.above) h) ∙ ap (λ (k : Files). answered 0 (joined o k)) (sym is),
      subst (λ (k : Files). AreHolders o k) (sym is) (renamed_holders o f m.path m.above m.node (get f.names m.above) h),
    )

-- a rename in the tree is a kernel's
pub rename_done : (o : OpenTables) (f g : Files) (s : State) (pid : ℕ) (old new old_name new_name : List ℕ) (from to : Last) → joined o f ≡ s → AreHolders o f → MayRename s pid old new from to
    → old_name ≡ slice_range old from.from (from.from + from.len) → new_name ≡ slice_range new to.from (to.from + to.len)
    → ((path above : Path) (node : ℕ) → get f.names path ≡ Some from.directory.0 → get f.names above ≡ Some to.directory.0 → get f.names (old_name ∷ path) ≡ Some node
    → g ≡ files.renamed_to f (old_name ∷ path) node (new_name ∷ above) (get f.names (new_name ∷ above)))
    → (act_rename s pid old new ≡ answered 0 (joined o g)) × AreHolders o g
rename_done o f g s pid old new old_name new_name from to view h m old_is new_is moves =
    let here = renamed_here o f g pid old new old_name new_name from to h (subst (λ (t : State). MayRename t pid old new from to) (sym view) m) old_is new_is moves in
    (subst (λ (t : State). act_rename t pid old new ≡ answered 0 (joined o g)) view here.0, here.1)

-- what a test for two nodes says
pub two_nodes : (test equal : Bool) → test ≡ not equal → test ≡ true → equal ≡ false
two_nodes test true e t = absurd (true≢false (sym t ∙ e))
two_nodes test false e t = refl

pub one_of_nodes : (test equal : Bool) → test ≡ not equal → test ≡ false → equal ≡ true
one_of_nodes test true e t = refl
one_of_nodes test false e t = absurd (true≢false (sym e ∙ t))

-- ---- what the tree says

fault_here : (o : OpenTables) (f : Files) (old new old_name new_name : List ℕ) (from to : Last) (path above : Path) (fault : Option Errno) → IsLast (files_of (joined o f)) old path from
    → IsLast (files_of (joined o f)) new above to → old_name ≡ slice_range old from.from (from.from + from.len) → new_name ≡ slice_range new to.from (to.from + to.len)
    → ((p q : Path) → get f.names p ≡ Some from.directory.0 → get f.names q ≡ Some to.directory.0 → fault ≡ rename_error f (old_name ∷ p) (new_name ∷ q))
    → fault ≡ rename_error (files_of (joined o f)) path above
fault_here o f old new old_name new_name from to path above fault m n old_is new_is tells =
    let begins : old_name ∷ m.above ≡ path = ap (λ (c : List ℕ). c ∷ m.above) old_is ∙ sym m.spelled in
    let ends : new_name ∷ n.above ≡ above = ap (λ (c : List ℕ). c ∷ n.above) new_is ∙ sym n.spelled in
    tells m.above n.above m.stands n.stands ∙ (λ i. rename_error f (begins i) (ends i))

-- the fault that the tree tells is that of the state's files
pub fault_is : (o : OpenTables) (f : Files) (s : State) (old new old_name new_name : List ℕ) (from to : Last) (path above : Path) (fault : Option Errno) → joined o f ≡ s → IsLast (files_of s) old path from
    → IsLast (files_of s) new above to → old_name ≡ slice_range old from.from (from.from + from.len) → new_name ≡ slice_range new to.from (to.from + to.len)
    → ((p q : Path) → get f.names p ≡ Some from.directory.0 → get f.names q ≡ Some to.directory.0 → fault ≡ rename_error f (old_name ∷ p) (new_name ∷ q))
    → fault ≡ rename_error (files_of s) path above
fault_is o f s old new old_name new_name from to path above fault view m n old_is new_is tells =
    let begins = subst (λ (t : State). IsLast (files_of t) old path from) (sym view) m in
    let ends = subst (λ (t : State). IsLast (files_of t) new above to) (sym view) n in
    subst (λ (t : State). fault ≡ rename_error (files_of t) path above) view (fault_here o f old new old_name new_name from to path above fault begins ends old_is new_is tells)

-- a rename that may be done has none
pub no_fault : (o : OpenTables) (f : Files) (s : State) (pid : ℕ) (old new old_name new_name : List ℕ) (from to : Last) (fault : Option Errno) → joined o f ≡ s → MayRename s pid old new from to
    → old_name ≡ slice_range old from.from (from.from + from.len) → new_name ≡ slice_range new to.from (to.from + to.len)
    → ((p q : Path) → get f.names p ≡ Some from.directory.0 → get f.names q ≡ Some to.directory.0 → fault ≡ rename_error f (old_name ∷ p) (new_name ∷ q)) → fault ≡ None
no_fault o f s pid old new old_name new_name from to fault view m old_is new_is tells =
    fault_is o f s old new old_name new_name from to m.path m.above fault view m.begins m.ends old_is new_is tells ∙ m.allowed

-- a walk that came to a node, and one that came to none
pub as_found : (s : State) (text : List ℕ) (path : Way) (r : Walked) (node : NodeNo) (last : Option Last) → Reaches (files_of s) text path r → r ≡ Found node last → IsFound s text path node.0 last
as_found s text path r node last h is =
    let m = subst (λ (w : Walked). Reaches (files_of s) text path w) is h in
    record { path = m.0; walks = m.1; stands = m.2; named = m.3 }

pub as_missing : (s : State) (text : List ℕ) (path : Way) (r : Walked) (last : Last) → Reaches (files_of s) text path r → r ≡ Missing last → IsMissing s text path last
as_missing s text path r last h is =
    let m = subst (λ (w : Walked). Reaches (files_of s) text path w) is h in
    record { path = m.0; walks = m.1; free = m.2; named = m.3 }

-- what was found, by the name that it has
pub with_last : (s : State) (text : List ℕ) (path : Way) (node : ℕ) (last : Option Last) (name : Last) → IsFound s text path node last → last ≡ Some name → IsFound s text path node (Some name)
with_last s text path node last name m is = subst (λ (l : Option Last). IsFound s text path node l) is m
