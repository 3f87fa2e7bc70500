-- What a name that goes to another place in a map of directories is to callers.
use Rattle.std.specs.Prelude.{is_some, IsSome, IsTrue, nat_eq, if◌then◌else◌}
use Rattle.std.proofs.Common.{◌≡◌, ◌≢◌, ℕ, false, eqb, ◌&&◌, cond, List, ◌∷◌, ◌++◌, Option, None, Some, refl, ap, sym, subst, ◌∙◌, ◌⊎◌, inl, inr}
use Rattle.std.proofs.lemmas.Bool.{cases_eq, eqb-true, eq-eqb, and_parts, and_from, false_from_ne_true}
use Rattle.std.specs.Cmp.Lexicographic.{pointwise, bytes_decides}
use Rattle.std.specs.FinMap.{get, remove}
use Rattle.std.specs.FinSet as set
use Rattle.std.specs.Prelude.{Result, OnOk, OnErr}
use Rattle.sp_base.specs.declared.memory.NoMemory.{NoMemory}
use Rattle.kern_model.specs.Name.{Path, Names, name_count, below, is_same_path, renamed}
use Rattle.kern_model.specs.Links.{is_below}
use Rattle.kern_model.proofs.RenameLaws.{apart_by}
use Rattle.kern_names.specs.Tree.{Tree, has_directory, without_name, moved}
use Rattle.kern_names.specs.Edges.{Edges, Parents, resolve, IsTree, Shown, edges_of, parents_of}
use Rattle.kern_names.specs.Changes.{Keeps, MovesName, ReplacesName}
use Rattle.kern_names.specs.Requests.{MayMove, MayReplace}
use Rattle.kern_names.proofs.ShownLaws.{not_child, none_some, same_node, nothing}
use Rattle.kern_names.proofs.RemovedLaws.{tree_removed, names_removed, others_left}
use Rattle.kern_names.proofs.MovedLaws.{tree_moved, names_moved, names_counted}
use Rattle.kern_names.proofs.InsideLaws.{Directories, ShowsOf, IsTreeOf, kept_tree, kept_shows, seen, either_way, on_ok, on_err, place, stands, is_up, named, bare, in_fewer, beside_fewer}

-- a path that isn't below another is none below it
apart_path : (old new : Path) → is_below new old ≡ false → new ≢ old → (r : Path) → new ≢ r ++ old
apart_path old new outside ne = apart_by new old (below new old) (is_same_path new old) refl refl outside ne

-- a node whose parent changes stays a directory or stays none
kind_stays : (up parents : Parents) (node to : ℕ) → ((n : ℕ) → n ≢ node → parents n ≡ up n) → (up node ≡ None → parents node ≡ None) → (IsSome (up node) → parents node ≡ Some to)
    → (n : ℕ) → is_some (up n) ≡ is_some (parents n)
kind_stays up parents node to kept plain moved n = by_number (cases_eq n node)
  where
    by_parent : (o : Option ℕ) → up node ≡ o → is_some (up node) ≡ is_some (parents node)
    by_parent None e = ap (λ o. is_some o) (e ∙ sym (plain e))
    by_parent (Some d) e = ap (λ o. is_some o) e ∙ sym (ap (λ o. is_some o) (moved (ap (λ o. is_some o) e)))

    by_number : (n ≡ node) ⊎ (n ≢ node) → is_some (up n) ≡ is_some (parents n)
    by_number (inl e) = subst (λ (m : ℕ). is_some (up m) ≡ is_some (parents m)) (sym e) (by_parent (up node) refl)
    by_number (inr ne) = ap (λ o. is_some o) (sym (kept n ne))

-- ---- the names without one of them

forget : Edges → ℕ → List ℕ → Edges
forget edge directory name d c = if eqb d directory && pointwise nat_eq c name then None else edge d c

forget_here : (edge : Edges) (directory : ℕ) (name : List ℕ) → forget edge directory name directory name ≡ None
unfolding forget
forget_here edge directory name = ap (λ b. cond b None (edge directory name)) (and_from _ _ (eq-eqb directory directory refl) ((bytes_decides name name).1 refl))

forget_beside : (edge : Edges) (directory : ℕ) (name : List ℕ) (d : ℕ) (c : List ℕ) → ((d ≡ directory) × (c ≡ name) → ⊥) → forget edge directory name d c ≡ edge d c
unfolding forget
forget_beside edge directory name d c ne = ap (λ b. cond b None (edge d c)) (false_from_ne_true _ (λ t. let both = and_parts (eqb d directory) (pointwise nat_eq c name) t in ne (eqb-true d directory both.0, (bytes_decides c name).0 both.1)))

unmade : Parents → ℕ → Parents
unmade up node n = if eqb n node then None else up n

unmade_here : (up : Parents) (node : ℕ) → unmade up node node ≡ None
unfolding unmade
unmade_here up node = ap (λ b. cond b None (up node)) (eq-eqb node node refl)

unmade_beside : (up : Parents) (node n : ℕ) → n ≢ node → unmade up node n ≡ up n
unfolding unmade
unmade_beside up node n ne = ap (λ b. cond b None (up n)) (false_from_ne_true _ (λ t. ne (eqb-true n node t)))

module _ (old : Directories) (is : IsTreeOf old) (now : Tree) (shows : ShowsOf old now) (from to : ℕ) (old_name new_name : List ℕ)
    (within : IsTrue (has_directory now from)) (under : IsTrue (has_directory now to)) (path above : Path) (at : get now.names path ≡ Some from) (into : get now.names above ≡ Some to)
    (node : ℕ) (there : get now.names (old_name ∷ path) ≡ Some node) (new : Directories) where
  abbrev edge : Edges
  edge = edges_of old

  abbrev up : Parents
  up = parents_of old

  abbrev before : Path
  before = old_name ∷ path

  abbrev after : Path
  after = new_name ∷ above

  leads : {o : Option ℕ} (p : Path) → get now.names p ≡ o → resolve edge p ≡ o
  leads p e = sym (shows.0 p) ∙ e

  has_name : edge from old_name ≡ Some node
  has_name = named old is now shows from old_name path at ∙ there

  outside_by : is_below after before ≡ false → after ≢ before → (r : Path) → above ≢ r ++ before
  outside_by outside ne r e = apart_path before after outside ne (new_name ∷ r) (ap (λ (p : Path). new_name ∷ p) e)

  -- ---- to a place where nothing is

  module _ (may : MayMove now before after) (moves : MovesName old new from old_name to new_name node) where
    free : edge to new_name ≡ None
    free = named old is now shows to new_name above into ∙ may.free

    outside : (r : Path) → above ≢ r ++ before
    outside = outside_by may.outside (λ e. none_some (sym may.free ∙ ap (get now.names) e ∙ there))

    pub moved_tree : IsTreeOf new
    moved_tree = tree_moved edge (edges_of new) up (parents_of new) is from to node old_name new_name path above (leads path at) (leads above into)
        (is_up old is now shows from within) (is_up old is now shows to under) has_name free outside moves.gone moves.come moves.kept
        moves.parents.others moves.parents.plain moves.parents.moved

    pub moved_shows : ShowsOf new (moved now before after)
    moved_shows = (
      names_moved edge (edges_of new) up (parents_of new) is from to node old_name new_name path above (leads path at) (leads above into)
          (is_up old is now shows from within) (is_up old is now shows to under) has_name free outside moves.gone moves.come moves.kept
          moves.parents.others moves.parents.plain moves.parents.moved now.names shows.0,
      λ n. shows.1 n ∙ kind_stays up (parents_of new) node to moves.parents.others moves.parents.plain moves.parents.moved n,
    )

    pub moved_counts : (n : ℕ) → name_count (moved now before after).names n ≡ name_count now.names n
    moved_counts = names_counted edge (edges_of new) up (parents_of new) is from to node old_name new_name path above (leads path at) (leads above into)
        (is_up old is now shows from within) (is_up old is now shows to under) has_name free outside moves.gone moves.come moves.kept
        moves.parents.others moves.parents.plain moves.parents.moved now.names shows.0

  -- ---- to the place of another node

  module _ (may : MayReplace now before after) (replaced : ℕ) (taken : get now.names after ≡ Some replaced) (replaces : ReplacesName old new from old_name to new_name node replaced) where
    abbrev fewer : Edges
    fewer = forget edge to new_name

    abbrev fewer_up : Parents
    fewer_up = unmade up replaced

    has_other : edge to new_name ≡ Some replaced
    has_other = named old is now shows to new_name above into ∙ taken

    no_names : (c : List ℕ) → edge replaced c ≡ None
    no_names = bare old is now shows after replaced taken may.taken

    two : node ≢ replaced
    two e = may.two (there ∙ ap (λ (n : ℕ). Some n) e ∙ sym taken)

    from_apart : from ≢ replaced
    from_apart e = none_some (sym (no_names old_name) ∙ ap (λ (d : ℕ). edge d old_name) (sym e) ∙ has_name)

    to_apart : to ≢ replaced
    to_apart e = none_some (sym (no_names new_name) ∙ ap (λ (d : ℕ). edge d new_name) (sym e) ∙ has_other)

    fewer_tree : IsTree fewer fewer_up
    fewer_tree = tree_removed edge fewer up fewer_up is to replaced new_name above (leads above into) (is_up old is now shows to under) has_other no_names
        (forget_here edge to new_name) (forget_beside edge to new_name) (unmade_here up replaced) (unmade_beside up replaced)

    fewer_names : (p : Path) → get (remove now.names after) p ≡ resolve fewer p
    fewer_names = names_removed edge fewer up fewer_up is to replaced new_name above (leads above into) (is_up old is now shows to under) has_other no_names
        (forget_here edge to new_name) (forget_beside edge to new_name) (unmade_here up replaced) (unmade_beside up replaced) now.names shows.0

    still : (p : Path) → p ≢ after → resolve fewer p ≡ resolve edge p
    still = others_left edge fewer up fewer_up is to replaced new_name above (leads above into) (is_up old is now shows to under) has_other no_names
        (forget_here edge to new_name) (forget_beside edge to new_name) (unmade_here up replaced) (unmade_beside up replaced)

    at_still : resolve fewer path ≡ Some from
    at_still = still path (λ e. from_apart (same_node (sym at ∙ ap (get now.names) e ∙ taken))) ∙ leads path at

    into_still : resolve fewer above ≡ Some to
    into_still = still above (λ e. not_child above new_name (sym e)) ∙ leads above into

    within_still : IsSome (fewer_up from)
    within_still = ap (λ o. is_some o) (unmade_beside up replaced from from_apart) ∙ is_up old is now shows from within

    under_still : IsSome (fewer_up to)
    under_still = ap (λ o. is_some o) (unmade_beside up replaced to to_apart) ∙ is_up old is now shows to under

    has_still : fewer from old_name ≡ Some node
    has_still = forget_beside edge to new_name from old_name (λ k. two (same_node (sym has_name ∙ (λ i. edge (k.0 i) (k.1 i)) ∙ has_other))) ∙ has_name

    outside_still : (r : Path) → above ≢ r ++ before
    outside_still = outside_by may.outside (λ e. may.two (sym (ap (get now.names) e)))

    kept_still : (d : ℕ) (c : List ℕ) → ((d ≡ from) × (c ≡ old_name) → ⊥) → ((d ≡ to) × (c ≡ new_name) → ⊥) → edges_of new d c ≡ fewer d c
    kept_still d c a b = replaces.kept d c a b ∙ sym (forget_beside edge to new_name d c b)

    up_still : (n : ℕ) → n ≢ node → parents_of new n ≡ fewer_up n
    up_still n ne = by_number (cases_eq n replaced)
      where
        by_number : (n ≡ replaced) ⊎ (n ≢ replaced) → parents_of new n ≡ fewer_up n
        by_number (inl e) = subst (λ (m : ℕ). parents_of new m ≡ fewer_up m) (sym e) (replaces.dropped ∙ sym (unmade_here up replaced))
        by_number (inr other) = replaces.others n ne other ∙ sym (unmade_beside up replaced n other)

    plain_still : fewer_up node ≡ None → parents_of new node ≡ None
    plain_still e = replaces.plain (sym (unmade_beside up replaced node two) ∙ e)

    moved_still : IsSome (fewer_up node) → parents_of new node ≡ Some to
    moved_still some = replaces.moved (sym (ap (λ o. is_some o) (unmade_beside up replaced node two)) ∙ some)

    pub replaced_tree : IsTreeOf new
    replaced_tree = tree_moved fewer (edges_of new) fewer_up (parents_of new) fewer_tree from to node old_name new_name path above at_still into_still within_still under_still
        has_still (forget_here edge to new_name) outside_still replaces.gone replaces.come kept_still up_still plain_still moved_still

    directories_fewer : (n : ℕ) → (n ≡ replaced) ⊎ (n ≢ replaced) → set.contains (set.remove now.directories replaced) n ≡ is_some (fewer_up n)
    directories_fewer n (inl e) = subst (λ (m : ℕ). set.contains (set.remove now.directories replaced) m ≡ is_some (fewer_up m)) (sym e) (in_fewer now.directories replaced ∙ sym (ap (λ o. is_some o) (unmade_here up replaced)))
    directories_fewer n (inr ne) = beside_fewer now.directories replaced n ne ∙ shows.1 n ∙ sym (ap (λ o. is_some o) (unmade_beside up replaced n ne))

    pub replaced_shows : ShowsOf new (moved (without_name now after replaced) before after)
    replaced_shows = (
      names_moved fewer (edges_of new) fewer_up (parents_of new) fewer_tree from to node old_name new_name path above at_still into_still within_still under_still
          has_still (forget_here edge to new_name) outside_still replaces.gone replaces.come kept_still up_still plain_still moved_still (remove now.names after) fewer_names,
      λ n. directories_fewer n (cases_eq n replaced) ∙ kind_stays fewer_up (parents_of new) node to up_still plain_still moved_still n,
    )

    pub replaced_counts : (n : ℕ) → name_count (moved (without_name now after replaced) before after).names n ≡ name_count (remove now.names after) n
    replaced_counts = names_counted fewer (edges_of new) fewer_up (parents_of new) fewer_tree from to node old_name new_name path above at_still into_still within_still under_still
        has_still (forget_here edge to new_name) outside_still replaces.gone replaces.come kept_still up_still plain_still moved_still (remove now.names after) fewer_names

-- ---- a rename, from its answer

module _ (old : Directories) (is : IsTreeOf old) (now : Tree) (shows : ShowsOf old now) (from to : ℕ) (old_name new_name : List ℕ)
    (within : IsTrue (has_directory now from)) (under : IsTrue (has_directory now to)) where
  abbrev path : Path
  path = (place old is now shows from within).path

  abbrev above : Path
  above = (place old is now shows to under).path

  at : get now.names path ≡ Some from
  at = stands old is now shows from within

  into : get now.names above ≡ Some to
  into = stands old is now shows to under

  -- the node that a name has, where something stands under it
  pub child_stands : (child : Option ℕ) (p : Path) → get now.names p ≡ Some from → child ≡ edges_of old from old_name → get now.names (old_name ∷ p) ≡ child
  child_stands child p e found = sym (named old is now shows from old_name p e) ∙ sym found

  module _ (may : (path above : Path) → get now.names path ≡ Some from → get now.names above ≡ Some to → MayMove now (old_name ∷ path) (new_name ∷ above))
      (node : ℕ) (found : Some node ≡ edges_of old from old_name) (new : Directories) (r : Result (Unit {0}) NoMemory)
      (ok : OnOk r (MovesName old new from old_name to new_name node)) (err : OnErr r (Keeps old new)) where
    pub rename_shown : Shown (edges_of new) (parents_of new)
    rename_shown = either_way r ok err
        (λ moves. (
          moved now (old_name ∷ path) (new_name ∷ above),
          moved_shows old is now shows from to old_name new_name within under path above at into node (child_stands (Some node) path at found) new (may path above at into) moves,
        ))
        (λ keeps. (now, kept_shows old new keeps now shows))

    pub rename_tree : IsTreeOf new
    rename_tree = either_way r ok err
        (λ moves. moved_tree old is now shows from to old_name new_name within under path above at into node (child_stands (Some node) path at found) new (may path above at into) moves)
        (λ keeps. kept_tree old new keeps is)

    pub rename_ok : (u : Shown (edges_of new) (parents_of new)) (p q : Path) → get now.names p ≡ Some from → get now.names q ≡ Some to → OnOk r (u.0 ≡ moved now (old_name ∷ p) (new_name ∷ q))
    rename_ok u p q e f = on_ok r
        (λ moves. seen new u _ (moved_shows old is now shows from to old_name new_name within under p q e f node (child_stands (Some node) p e found) new (may p q e f) moves)) ok

    pub rename_counts : (u : Shown (edges_of new) (parents_of new)) (n : ℕ) → OnOk r (name_count u.0.names n ≡ name_count now.names n)
    rename_counts u n = on_ok r
        (λ moves. ap (λ (t : Tree). name_count t.names n) (seen new u _ (moved_shows old is now shows from to old_name new_name within under path above at into node (child_stands (Some node) path at found) new (may path above at into) moves))
        ∙ moved_counts old is now shows from to old_name new_name within under path above at into node (child_stands (Some node) path at found) new (may path above at into) moves n) ok

    pub rename_err : (u : Shown (edges_of new) (parents_of new)) → OnErr r (u.0 ≡ now)
    rename_err u = on_err r (λ keeps. seen new u now (kept_shows old new keeps now shows)) err

  -- ---- a rename over another node

  module _ (may : (path above : Path) → get now.names path ≡ Some from → get now.names above ≡ Some to → MayReplace now (old_name ∷ path) (new_name ∷ above)) where
    pub moved_there : edges_of old from old_name ≡ None → ⊥
    moved_there none = nothing _ (sym (named old is now shows from old_name path at) ∙ none) (may path above at into).there

    pub replaced_there : edges_of old to new_name ≡ None → ⊥
    replaced_there none = nothing _ (sym (named old is now shows to new_name above into) ∙ none) (may path above at into).taken.there

    module _ (node replaced : ℕ) (found : Some node ≡ edges_of old from old_name) (other : Some replaced ≡ edges_of old to new_name) where
      there : get now.names (old_name ∷ path) ≡ Some node
      there = child_stands (Some node) path at found

      taken : get now.names (new_name ∷ above) ≡ Some replaced
      taken = sym (named old is now shows to new_name above into) ∙ sym other

      taken_at : (q : Path) → get now.names q ≡ Some to → get now.names (new_name ∷ q) ≡ Some replaced
      taken_at q f = sym (named old is now shows to new_name q f) ∙ sym other

      pub two_nodes : node ≢ replaced
      two_nodes e = (may path above at into).two (there ∙ ap (λ (n : ℕ). Some n) e ∙ sym taken)

      pub two_places : (from ≡ to) × (old_name ≡ new_name) → ⊥
      two_places same = two_nodes (same_node (found ∙ (λ i. edges_of old (same.0 i) (same.1 i)) ∙ sym other))

      pub replaced_bare : (c : List ℕ) → edges_of old replaced c ≡ None
      replaced_bare = bare old is now shows (new_name ∷ above) replaced taken (may path above at into).taken

      module _ (new : Directories) (replaces : ReplacesName old new from old_name to new_name node replaced) where
        pub replace_shown : Shown (edges_of new) (parents_of new)
        replace_shown = (
          moved (without_name now (new_name ∷ above) replaced) (old_name ∷ path) (new_name ∷ above),
          replaced_shows old is now shows from to old_name new_name within under path above at into node there new (may path above at into) replaced taken replaces,
        )

        pub replace_tree : IsTreeOf new
        replace_tree = replaced_tree old is now shows from to old_name new_name within under path above at into node there new (may path above at into) replaced taken replaces

        pub replace_is : (u : Shown (edges_of new) (parents_of new)) (p q : Path) (n : ℕ) → get now.names p ≡ Some from → get now.names q ≡ Some to → get now.names (new_name ∷ q) ≡ Some n
            → u.0 ≡ moved (without_name now (new_name ∷ q) n) (old_name ∷ p) (new_name ∷ q)
        replace_is u p q n e f taken_by =
            let same : replaced ≡ n = same_node (other ∙ named old is now shows to new_name q f ∙ taken_by) in
            seen new u _ (subst (λ (m : ℕ). ShowsOf new (moved (without_name now (new_name ∷ q) m) (old_name ∷ p) (new_name ∷ q))) same
            (replaced_shows old is now shows from to old_name new_name within under p q e f node (child_stands (Some node) p e found) new (may p q e f) replaced (taken_by ∙ ap (λ (m : ℕ). Some m) (sym same)) replaces))

        pub replace_counts : (u : Shown (edges_of new) (parents_of new)) (q : Path) (m : ℕ) → get now.names q ≡ Some to → name_count u.0.names m ≡ name_count (remove now.names (new_name ∷ q)) m
        replace_counts u q m f =
            ap (λ (t : Tree). name_count t.names m) (seen new u _ (replaced_shows old is now shows from to old_name new_name within under path q at f node there new (may path q at f) replaced (taken_at q f) replaces))
            ∙ replaced_counts old is now shows from to old_name new_name within under path q at f node there new (may path q at f) replaced (taken_at q f) replaces m
