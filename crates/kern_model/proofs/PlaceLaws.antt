-- A tree stays one where a name is put into a directory, where one is taken away, and where one is moved.
use Rattle.std.proofs.Common.{◌≡◌, ◌≢◌, ◌⊎◌, inl, inr, ℕ, ◌<◌, List, [], ◌∷◌, ◌++◌, length, append-nil, Option, Some, None, refl, sym, ap, subst, ◌∙◌}
use Rattle.std.proofs.lemmas.List.{append_cancel_right}
use Rattle.std.specs.FinMap.{get, insert, remove}
use Rattle.kern_model.specs.Name.{Path, Names, below, renamed}
use Rattle.kern_model.specs.State.{State, root, directory_of}
use Rattle.kern_model.specs.Links.{moved}
use Rattle.kern_model.proofs.NameLaws.{HasName, apart_from, insert_cases, insert_other, remove_was, remove_other}
use Rattle.kern_model.proofs.BelowLaws.{below_is, not_below, get_elsewhere, get_old, get_new}
use Rattle.kern_model.specs.Sound.{IsDirectory, IsPlace, IsNamedDirectory, HasTree}

-- ---- a name more: of a node that was made, and that no name leads to if it is a directory

module _ (s : State) (component : List ℕ) (directory : Path) (node : ℕ) (free : get s.names (component ∷ directory) ≡ None) (place : IsPlace s.names s.nodes directory) (lt : node < length s.nodes)
    (unnamed : (other : Path) → get s.names other ≡ Some node → IsDirectory s.nodes node → ⊥) (h : HasTree s) where
  abbrev more : Names
  more = insert s.names (component ∷ directory) node

  -- what stands under a path then is the new node under the new name, or stood there before
  abbrev Came : Path → ℕ → Type 0
  Came path n = ((path ≡ component ∷ directory) × (node ≡ n)) ⊎ (get s.names path ≡ Some n)

  came_in : (path : Path) (n : ℕ) → get more path ≡ Some n → Came path n
  came_in path n e = insert_cases s.names (component ∷ directory) node path n e

  stays_in : (path : Path) (n : ℕ) → get s.names path ≡ Some n → get more path ≡ Some n
  stays_in path n e = insert_other s.names (component ∷ directory) node path (apart_from s.names (component ∷ directory) path n free e) ∙ e

  place_in : (path : Path) → IsPlace s.names s.nodes path → IsPlace more s.nodes path
  place_in path p = record { node = p.node; stands = stays_in path p.node p.stands; directory = p.directory }

  parents_in : (c : List ℕ) (path : Path) (n : ℕ) → Came (c ∷ path) n → IsPlace more s.nodes path
  parents_in c path n (inl new) = let e = new.0 in let same : directory ≡ path = cc in subst (λ (q : Path). IsPlace more s.nodes q) same (place_in directory place)
  parents_in c path n (inr e) = place_in path (h.tree.parents c path n e)

  once_in : (path other : Path) (n : ℕ) → Came path n → Came other n
      → IsDirectory s.nodes n → path ≡ other
  once_in path other n (inl a) (inl b) d = a.0 ∙ sym b.0
  once_in path other n (inl a) (inr f) d = absurd (unnamed other (f ∙ ap (λ (m : ℕ). Some m) (sym a.1)) (subst (λ (m : ℕ). IsDirectory s.nodes m) (sym a.1) d))
  once_in path other n (inr e) (inl b) d = absurd (unnamed path (e ∙ ap (λ (m : ℕ). Some m) (sym b.1)) (subst (λ (m : ℕ). IsDirectory s.nodes m) (sym b.1) d))
  once_in path other n (inr e) (inr f) d = h.tree.once path other n e f d

  made_in : (path : Path) (n : ℕ) → Came path n → n < length s.nodes
  made_in path n (inl a) = subst (λ (m : ℕ). m < length s.nodes) a.1 lt
  made_in path n (inr e) = h.tree.made path n e

  works_in : (node : ℕ) → IsNamedDirectory s.names s.nodes node → IsNamedDirectory more s.nodes node
  works_in n works = record { path = works.path; stands = stays_in works.path n works.stands; directory = works.directory }

  pub tree_insert : HasTree (record s { names = insert s.names (component ∷ directory) node })
  tree_insert = record {
    tree = record {
      top = stays_in [] root h.tree.top;
      root_directory = h.tree.root_directory;
      parents = λ c path n e. parents_in c path n (came_in (c ∷ path) n e);
      once = λ path other n e f d. once_in path other n (came_in path n e) (came_in other n f) d;
      made = λ path n e. made_in path n (came_in path n e);
    };
    working = λ pid. works_in (directory_of s pid) (h.working pid);
  }

-- ---- a name fewer: one below which nothing stands, and not the root's, nor that of a directory in which a process works

module _ (s : State) (component : List ℕ) (directory : Path) (empty : (c : List ℕ) → get s.names (c ∷ component ∷ directory) ≡ None) (h : HasTree s)
    (idle : (pid : ℕ) → (h.working pid).path ≢ component ∷ directory) where
  abbrev pub fewer : Names
  fewer = remove s.names (component ∷ directory)

  was : (path : Path) (n : ℕ) → get fewer path ≡ Some n → get s.names path ≡ Some n
  was path n e = remove_was s.names (component ∷ directory) path n e

  pub is_still : (path : Path) (n : ℕ) → path ≢ component ∷ directory → get s.names path ≡ Some n → get fewer path ≡ Some n
  is_still path n ne e = remove_other s.names (component ∷ directory) path ne ∙ e

  pub place_still : (path : Path) → path ≢ component ∷ directory → IsPlace s.names s.nodes path → IsPlace fewer s.nodes path
  place_still path ne p = record { node = p.node; stands = is_still path p.node ne p.stands; directory = p.directory }

  parents_still : (c : List ℕ) (path : Path) (n : ℕ) → get s.names (c ∷ path) ≡ Some n → IsPlace fewer s.nodes path
  parents_still c path n e =
      place_still path (λ same. let k : None ≡ Some n = sym (empty c) ∙ ap (λ (p : Path). get s.names (c ∷ p)) (sym same) ∙ e in cc) (h.tree.parents c path n e)

  pub tree_remove : HasTree (record s { names = remove s.names (component ∷ directory) })
  tree_remove = record {
    tree = record {
      top = is_still [] root (λ e. absurd cc) h.tree.top;
      root_directory = h.tree.root_directory;
      parents = λ c path n e. parents_still c path n (was (c ∷ path) n e);
      once = λ path other n e f d. h.tree.once path other n (was path n e) (was other n f) d;
      made = λ path n e. h.tree.made path n (was path n e);
    };
    working = λ pid. (let works = h.working pid in record {
      path = works.path;
      stands = is_still works.path (directory_of s pid) (idle pid) works.stands;
      directory = works.directory;
    });
  }

-- ---- a name that is moved into a directory, to where nothing stands; neither name is below the other

-- what stands under a path after a rename stood below the old path
record IsMoved (names : Names) (old new path : Path) (node : ℕ) : Type 0 where
  rest : Path
  is : path ≡ rest ++ new
  stood : get names (rest ++ old) ≡ Some node

-- or under the same path
record IsElsewhere (names : Names) (old path : Path) (node : ℕ) : Type 0 where
  apart : (r : Path) → path ≢ r ++ old
  stood : get names path ≡ Some node

-- a rename leaves a tree, in which exactly the nodes have names that had one
pub record KeepsNames (s : State) (old new : Path) : Type 0 where
  pub tree : HasTree (moved s old new)
  pub came : (path : Path) (node : ℕ) → get (renamed s.names old new) path ≡ Some node → HasName s.names node
  pub goes : (node : ℕ) → HasName s.names node → HasName (renamed s.names old new) node

module _ (s : State) (old : Path) (component : List ℕ) (directory : Path) (new_apart : (r : Path) → component ∷ directory ≢ r ++ old) (old_apart : (r : Path) → old ≢ r ++ (component ∷ directory))
    (free : (r : Path) → get s.names (r ++ (component ∷ directory)) ≡ None) (place : IsPlace s.names s.nodes directory) (h : HasTree s) where
  abbrev new : Path
  new = component ∷ directory

  abbrev after : Names
  after = renamed s.names old (component ∷ directory)

  abbrev CameFrom : Path → ℕ → Type 0
  CameFrom path n = IsMoved s.names old new path n ⊎ IsElsewhere s.names old path n

  came_from : (path : Path) (n : ℕ) → get after path ≡ Some n → CameFrom path n
  came_from path n e =
      elim (below path new) as (λ o. below path new ≡ o → CameFrom path n) [
        | Some r ↦ λ t. (let is = below_is new path r t in inl (record {
          rest = r;
          is = is;
          stood = sym (get_new old new new_apart old_apart s.names free r) ∙ ap (λ (p : Path). get after p) (sym is) ∙ e;
        }))
        | None ↦ λ t. elim (below path old) as (λ o. below path old ≡ o → CameFrom path n) [
          | Some r ↦ λ u. (let k : None ≡ Some n = sym (get_old old new new_apart old_apart s.names r) ∙ ap (λ (p : Path). get after p) (sym (below_is old path r u)) ∙ e in absurd cc)
          | None ↦ λ u. inr (record {
            apart = λ r. not_below old r path u;
            stood = sym (get_elsewhere old new new_apart old_apart s.names path (λ r. not_below old r path u) (λ r. not_below new r path t)) ∙ e;
          })
        ] refl
      ] refl

  stays_at : (path : Path) (n : ℕ) → ((r : Path) → path ≢ r ++ old) → get s.names path ≡ Some n → get after path ≡ Some n
  stays_at path n apart e = get_elsewhere old new new_apart old_apart s.names path apart (λ r. apart_from s.names (r ++ new) path n (free r) e) ∙ e

  place_at : (path : Path) → ((r : Path) → path ≢ r ++ old) → IsPlace s.names s.nodes path → IsPlace after s.nodes path
  place_at path apart p = record { node = p.node; stands = stays_at path p.node apart p.stands; directory = p.directory }

  place_moved : (r : Path) → IsPlace s.names s.nodes (r ++ old) → IsPlace after s.nodes (r ++ new)
  place_moved r p = record { node = p.node; stands = get_new old new new_apart old_apart s.names free r ∙ p.stands; directory = p.directory }

  -- what is right in a place is below the old path where the place is
  above_old : (c : List ℕ) (path : Path) → ((r : Path) → c ∷ path ≢ r ++ old) → (r : Path) → path ≢ r ++ old
  above_old c path apart r e = apart (c ∷ r) (ap (λ (p : Path). c ∷ p) e)

  parents_moved : (c : List ℕ) (path : Path) (n : ℕ) (rest : Path) → c ∷ path ≡ rest ++ new → get s.names (rest ++ old) ≡ Some n → IsPlace after s.nodes path
  parents_moved c path n [] is stood =
      let same : directory ≡ path = cc in subst (λ (q : Path). IsPlace after s.nodes q) same (place_at directory (above_old component directory new_apart) place)
  parents_moved c path n (d ∷ rest) is stood =
      let same : rest ++ new ≡ path = cc in subst (λ (q : Path). IsPlace after s.nodes q) same (place_moved rest (h.tree.parents d (rest ++ old) n stood))

  parents_at : (c : List ℕ) (path : Path) (n : ℕ) → CameFrom (c ∷ path) n → IsPlace after s.nodes path
  parents_at c path n (inl m) = parents_moved c path n m.rest m.is m.stood
  parents_at c path n (inr m) = place_at path (above_old c path m.apart) (h.tree.parents c path n m.stood)

  once_at : (path other : Path) (n : ℕ) → CameFrom path n → CameFrom other n → IsDirectory s.nodes n → path ≡ other
  once_at path other n (inl a) (inl b) d =
      a.is ∙ ap (λ (r : Path). r ++ new) (append_cancel_right a.rest b.rest old (h.tree.once (a.rest ++ old) (b.rest ++ old) n a.stood b.stood d)) ∙ sym b.is
  once_at path other n (inl a) (inr b) d = absurd (b.apart a.rest (h.tree.once other (a.rest ++ old) n b.stood a.stood d))
  once_at path other n (inr a) (inl b) d = absurd (a.apart b.rest (h.tree.once path (b.rest ++ old) n a.stood b.stood d))
  once_at path other n (inr a) (inr b) d = h.tree.once path other n a.stood b.stood d

  made_at : (path : Path) (n : ℕ) → CameFrom path n → n < length s.nodes
  made_at path n (inl m) = h.tree.made (m.rest ++ old) n m.stood
  made_at path n (inr m) = h.tree.made path n m.stood

  -- where a node's name is then
  name_by : (node : ℕ) → (name : HasName s.names node) (o : Option Path) → below name.path old ≡ o → HasName after node
  name_by n name None e = record { path = name.path; stands = stays_at name.path n (λ r. not_below old r name.path e) name.stands }
  name_by n name (Some r) e = record {
    path = r ++ new;
    stands = get_new old new new_apart old_apart s.names free r ∙ ap (λ (p : Path). get s.names p) (sym (below_is old name.path r e)) ∙ name.stands;
  }

  goes_by : (node : ℕ) → HasName s.names node → HasName after node
  goes_by n name = name_by n name (below name.path old) refl

  works_by : (node : ℕ) → IsNamedDirectory s.names s.nodes node → IsNamedDirectory after s.nodes node
  works_by n works = (let name = goes_by n (record { path = works.path; stands = works.stands }) in record { path = name.path; stands = name.stands; directory = works.directory })

  came_by : (path : Path) (n : ℕ) → CameFrom path n → HasName s.names n
  came_by path n (inl m) = record { path = m.rest ++ old; stands = m.stood }
  came_by path n (inr m) = record { path = path; stands = m.stood }

  root_apart : (r : Path) → [] ≢ r ++ old
  root_apart [] e = new_apart new (sym (append-nil new) ∙ ap (λ (p : Path). new ++ p) e)
  root_apart (c ∷ r) e = absurd cc

  tree_moved : HasTree (moved s old (component ∷ directory))
  tree_moved = record {
    tree = record {
      top = stays_at [] root root_apart h.tree.top;
      root_directory = h.tree.root_directory;
      parents = λ c path n e. parents_at c path n (came_from (c ∷ path) n e);
      once = λ path other n e f d. once_at path other n (came_from path n e) (came_from other n f) d;
      made = λ path n e. made_at path n (came_from path n e);
    };
    working = λ pid. works_by (directory_of s pid) (h.working pid);
  }

  pub names_moved : KeepsNames s old (component ∷ directory)
  names_moved = record { tree = tree_moved; came = λ path n e. came_by path n (came_from path n e); goes = goes_by }
