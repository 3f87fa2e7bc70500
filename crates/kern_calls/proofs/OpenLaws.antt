-- What an open file more is to a kernel's state.
use Rattle.std.specs.Prelude.{slice_range, is_some, nat_lt, max, if◌then◌else◌}
use Rattle.std.specs.FinMap.{get, insert}
use Rattle.std.proofs.Common.{◌≡◌, ◌≢◌, ℕ, zero, suc, ◌+◌, ◌-◌, ◌<◌, ◌≤◌, ◌^◌, ◌&&◌, ◌||◌, Bool, true, false, not, List, [], ◌∷◌, ◌++◌, length, Option, None, Some, Result, Ok, Err, cond, count_by, refl, sym, ap, subst, ◌∙◌, ◌⊎◌, inl, inr, IsSome, arith}
use Rattle.std.proofs.lemmas.Bool.{cases_eq}
use Rattle.std.proofs.lemmas.List.Sums.{count_by-le-length}
use Rattle.sp_base.specs.Table.{at, lowest_unused}
use Rattle.sp_base.proofs.CountLaws.{one_if, count_push}
use Rattle.sp_base.specs.declared.errno.Errno.{Errno}
use Rattle.sp_base.specs.declared.errno.Errno.TheVariants.{Enoent, Enospc, Einval, Emfile}
use Rattle.kern_model.specs.declared.node.Access.{Access}
use Rattle.kern_model.specs.declared.node.NodeKind.TheVariants.{File}
use Rattle.kern_model.specs.declared.node.Object.{Object}
use Rattle.kern_model.specs.declared.node.Object.TheVariants as object
use Rattle.kern_model.specs.declared.node.OpenFile.{OpenFile}
use Rattle.kern_model.specs.declared.walk.Walked.{Walked as Way}
use Rattle.kern_model.specs.Descriptors.{has_bit}
use Rattle.kern_model.specs.Files.{act_open, access_of, is_known, truncates, creates, may_write, opened, open_found, open_missing, open_walked, with_new_file, file_limit, total_limit, is_above_total, resized}
use Rattle.kern_model.specs.Name.{Path}
use Rattle.kern_model.specs.Sound.{HasLimits}
use Rattle.kern_model.specs.State.{State, is_of_node, has_room, rows_of, bytes_of, total_size}
use Rattle.kern_model.specs.State as state
use Rattle.kern_model.specs.Step.{Step, failed, answered, fail_if, or_fail}
use Rattle.kern_model.specs.Walk.{walk}
use Rattle.kern_names.specs.declared.walk.Last.{Last}
use Rattle.kern_open.specs.OpenTables.{OpenTables, open_at}
use Rattle.kern_files.specs.Files.{Files, holders_of, with_holders, with_new, create_error, cut_error, state_of}
use Rattle.kern_calls.specs.Joined.{joined, AreHolders}
use Rattle.kern_calls.specs.Opened.{opened_file, held, emptied_if, without_bytes_if}
use Rattle.kern_calls.specs.Reached.{IsMissing}
use Rattle.kern_calls.proofs.Joins.{set_other, of_own, of_other}
use Rattle.kern_calls.proofs.MakeLaws.{missing_in, room_done, room_full, spelled_by, free_at}

-- ---- holders

-- there is room after one was asked for
pub some_room : (room : ℕ) → 0 < max room 1
some_room room = grind arith

-- another holder can be counted where another open file has room
pub hold_fits : (o : OpenTables) (f : Files) (node : ℕ) → AreHolders o f → 0 < o.room → length o.files + o.room < 2 ^ 64 → holders_of f node + 1 < 2 ^ 64
hold_fits o f node h some fits =
    let most = count_by-le-length (is_of_node node) o.files in
    let own = h node in
    omega (arith, most, own, some, fits)

-- an open file more of a node is a holder more
pub opened_holders : (o u : OpenTables) (f g : Files) (node : ℕ) (file : OpenFile) → AreHolders o f → file.object ≡ object.Node node
    → u.files ≡ o.files ++ Some file ∷ [] → g ≡ held f node → holders_of g node ≡ holders_of f node + 1 → AreHolders u g
opened_holders o u f g node file h own files is counted n = elim (cases_eq n node) [
  | inl same ↦ subst (λ (m : ℕ). holders_of g m ≡ count_by (is_of_node m) u.files) (sym same) here
  | inr other ↦ (
      let more = count_push (is_of_node n) o.files (Some file) in
      let none : one_if (is_of_node n (Some file)) ≡ 0 = ap (λ (ob : Object). one_if (state.is_node n ob)) own ∙ ap one_if (different n other) in
      let stays : holders_of g n ≡ holders_of f n = ap (λ (k : Files). holders_of k n) is ∙ set_other f.holders node (holders_of f node + 1) n other in
      let was = h n in
      let now : count_by (is_of_node n) u.files ≡ count_by (is_of_node n) (o.files ++ Some file ∷ []) = ap (count_by (is_of_node n)) files in
      omega (arith, more, none, stays, was, now))
] where
  different : (n : ℕ) → n ≢ node → state.is_node n (object.Node node) ≡ false
  different n other = of_other (object.Node node) n other

  here : holders_of g node ≡ count_by (is_of_node node) u.files
  here =
      let more = count_push (is_of_node node) o.files (Some file) in
      let one : one_if (is_of_node node (Some file)) ≡ 1 = ap (λ (ob : Object). one_if (state.is_node node ob)) own ∙ ap one_if (of_own (object.Node node)) in
      let was = h node in
      let now : count_by (is_of_node node) u.files ≡ count_by (is_of_node node) (o.files ++ Some file ∷ []) = ap (count_by (is_of_node node)) files in
      omega (arith, more, one, was, now, counted)

-- ---- emptied

-- a node can always be emptied
pub can_empty : (o : OpenTables) (f : Files) (s : State) (node : ℕ) → joined o f ≡ s → HasLimits s → cut_error f node 0 ≡ None
can_empty o f s node view limits =
    subst (λ (t : State). HasLimits t → cut_error f node 0 ≡ None) view (λ h. at_joined h) limits where
      at_joined : HasLimits (joined o f) → cut_error f node 0 ≡ None
      at_joined h =
          let most = h.total in
          let own = h.file node in
          ap (λ b. if b then Some Enospc else None) (above (length (bytes_of (joined o f) node)) (total_size (joined o f)) own most) where
            above : (len total : ℕ) → len ≤ file_limit → total ≤ total_limit → nat_lt total_limit ((total - len) + max len 0) ≡ false
            above len total own most = grind arith

-- bytes that are cut to nothing
pub cut_off : (bytes : List ℕ) → resized bytes 0 ≡ []
cut_off bytes = refl

-- ---- opened

-- an open file more of a node in the tables, and a holder more in the tree, are an open in the state
opened_same : (o : OpenTables) (f : Files) (pid fd node flags : ℕ) (access : Access)
    → opened (joined o f) pid fd node flags access ≡ answered fd (joined (open_at o pid fd (opened_file node flags access) (has_bit flags 4194304)) (held f node))
opened_same o f pid fd node flags access = refl

emptied_same : (o : OpenTables) (f : Files) (node : ℕ) (asked : Bool) → without_bytes_if asked (joined o f) node ≡ joined o (emptied_if asked f node)
emptied_same o f node true = refl
emptied_same o f node false = refl

-- an open of what is there
pub found_done : (o u v : OpenTables) (f g k : Files) (s : State) (pid fd node flags : ℕ) (access : Access) → joined o f ≡ s → u ≡ record o { room = max o.room 1 }
    → g ≡ emptied_if (truncates flags) f node → v ≡ open_at u pid fd (opened_file node flags access) (has_bit flags 4194304) → k ≡ held g node
    → opened (without_bytes_if (truncates flags) s node) pid fd node flags access ≡ answered fd (joined v k)
found_done o u v f g k s pid fd node flags access view u_is g_is v_is k_is =
    ap (λ (t : State). opened (without_bytes_if (truncates flags) t node) pid fd node flags access) (sym view)
    ∙ ap (λ (t : State). opened t pid fd node flags access) (emptied_same o f node (truncates flags))
    ∙ opened_same (record o { room = max o.room 1 }) (emptied_if (truncates flags) f node) pid fd node flags access
    ∙ (λ i. answered fd (joined (open_at (sym u_is i) pid fd (opened_file node flags access) (has_bit flags 4194304)) (held (sym g_is i) node)))
    ∙ (λ i. answered fd (joined (sym v_is i) (sym k_is i)))

-- an open of what is missing, by its place
missing_at : (s : State) (pid fd flags : ℕ) (access : Access) (text : List ℕ) (last : Last) (m : IsMissing s text (walk s pid text) last) → creates flags ≡ true → last.slash ≡ false
    → open_walked s pid fd (walk s pid text) flags access
    ≡ fail_if (not (has_room s)) Enospc s (opened (with_new_file s m.path) pid fd (length s.nodes) flags access)
missing_at s pid fd flags access text last m makes plain =
    ap (λ (w : Way). open_walked s pid fd w flags access) m.walks
    ∙ (λ i. fail_if (not (makes i) || plain i) Enoent s (fail_if (not (has_room s)) Enospc s (opened (with_new_file s m.path) pid fd (length s.nodes) flags access)))

done_here : (o u v : OpenTables) (f g k : Files) (pid fd node flags : ℕ) (access : Access) (text name : List ℕ) (last : Last) → u ≡ record o { room = max o.room 1 }
    → IsMissing (joined o f) text (walk (joined o f) pid text) last → name ≡ slice_range text last.from (last.from + last.len) → creates flags ≡ true → last.slash ≡ false
    → ((path : Path) → get f.names path ≡ Some last.directory.0 → None ≡ create_error f (name ∷ path))
    → ((path : Path) → get f.names path ≡ Some last.directory.0 → g ≡ with_new f (name ∷ path) File)
    → node ≡ length f.nodes → v ≡ open_at u pid fd (opened_file node flags access) (has_bit flags 4194304) → k ≡ held g node
    → open_walked (joined o f) pid fd (walk (joined o f) pid text) flags access ≡ answered fd (joined v k)
done_here o u v f g k pid fd node flags access text name last u_is m is makes plain errors made number v_is k_is =
    let sp = spelled_by o f text name (walk (joined o f) pid text) last m is in
    let g_is : g ≡ with_new f m.path File = made sp.above sp.stands ∙ ap (λ (p : Path). with_new f p File) (sym sp.is) in
    missing_at (joined o f) pid fd flags access text last m makes plain
    ∙ room_done (is_some (get f.names (name ∷ sp.above))) (has_room (joined o f)) (joined o f) (opened (with_new_file (joined o f) m.path) pid fd (length f.nodes) flags access)
    (free_at f m.path (name ∷ sp.above) m.free sp.is) (errors sp.above sp.stands)
    ∙ opened_same (record o { room = max o.room 1 }) (with_new f m.path File) pid fd (length f.nodes) flags access
    ∙ (λ i. answered fd (joined (open_at (sym u_is i) pid fd (opened_file (sym number i) flags access) (has_bit flags 4194304)) (held (sym g_is i) (sym number i))))
    ∙ (λ i. answered fd (joined (sym v_is i) (sym k_is i)))

-- an open of what is missing
pub missing_done : (o u v : OpenTables) (f g k : Files) (s : State) (pid fd node flags : ℕ) (access : Access) (text name : List ℕ) (last : Last) → joined o f ≡ s
    → u ≡ record o { room = max o.room 1 } → IsMissing s text (walk s pid text) last → name ≡ slice_range text last.from (last.from + last.len) → creates flags ≡ true → last.slash ≡ false
    → ((path : Path) → get f.names path ≡ Some last.directory.0 → None ≡ create_error f (name ∷ path))
    → ((path : Path) → get f.names path ≡ Some last.directory.0 → g ≡ with_new f (name ∷ path) File)
    → node ≡ length f.nodes → v ≡ open_at u pid fd (opened_file node flags access) (has_bit flags 4194304) → k ≡ held g node
    → open_walked s pid fd (walk s pid text) flags access ≡ answered fd (joined v k)
missing_done o u v f g k s pid fd node flags access text name last view u_is m is makes plain errors made number v_is k_is =
    subst (λ (t : State). open_walked t pid fd (walk t pid text) flags access ≡ answered fd (joined v k)) view
    (done_here o u v f g k pid fd node flags access text name last u_is (missing_in o f s pid text last view m) is makes plain errors made number v_is k_is)

full_here : (o : OpenTables) (f : Files) (pid fd flags : ℕ) (access : Access) (text name : List ℕ) (last : Last) (error : Errno)
    → IsMissing (joined o f) text (walk (joined o f) pid text) last → name ≡ slice_range text last.from (last.from + last.len) → creates flags ≡ true → last.slash ≡ false
    → ((path : Path) → get f.names path ≡ Some last.directory.0 → Some error ≡ create_error f (name ∷ path))
    → open_walked (joined o f) pid fd (walk (joined o f) pid text) flags access ≡ failed error (joined o f)
full_here o f pid fd flags access text name last error m is makes plain errors =
    let sp = spelled_by o f text name (walk (joined o f) pid text) last m is in
    missing_at (joined o f) pid fd flags access text last m makes plain
    ∙ room_full (is_some (get f.names (name ∷ sp.above))) (has_room (joined o f)) (joined o f) (opened (with_new_file (joined o f) m.path) pid fd (length f.nodes) flags access) error
    (free_at f m.path (name ∷ sp.above) m.free sp.is) (errors sp.above sp.stands)

-- an open of what is missing, where there is no room for a node
pub missing_full : (o : OpenTables) (f : Files) (s : State) (pid fd flags : ℕ) (access : Access) (text name : List ℕ) (last : Last) (error : Errno) → joined o f ≡ s
    → IsMissing s text (walk s pid text) last → name ≡ slice_range text last.from (last.from + last.len) → creates flags ≡ true → last.slash ≡ false
    → ((path : Path) → get f.names path ≡ Some last.directory.0 → Some error ≡ create_error f (name ∷ path))
    → open_walked s pid fd (walk s pid text) flags access ≡ failed error s
missing_full o f s pid fd flags access text name last error view m is makes plain errors =
    subst (λ (t : State). open_walked t pid fd (walk t pid text) flags access ≡ failed error t) view
    (full_here o f pid fd flags access text name last error (missing_in o f s pid text last view m) is makes plain errors)

-- an open by its path, once its flags are known and a descriptor is unused
pub open_by_path : (s : State) (pid fd flags : ℕ) (path : List ℕ) (access : Access) → access_of flags ≡ Some access → (not (is_known flags) || truncates flags && not (may_write access)) ≡ false
    → lowest_unused (rows_of s pid) 0 ≡ Some fd → act_open s pid path flags ≡ open_walked s pid fd (walk s pid path) flags access
open_by_path s pid fd flags path access asked known free =
    ap (λ (a : Option Access). or_fail a Einval s (λ access. fail_if (not (is_known flags) || truncates flags && not (may_write access)) Einval s
    (or_fail (lowest_unused (rows_of s pid) 0) Emfile s (λ fd. open_walked s pid fd (walk s pid path) flags access)))) asked
    ∙ ap (λ b. fail_if b Einval s (or_fail (lowest_unused (rows_of s pid) 0) Emfile s (λ fd. open_walked s pid fd (walk s pid path) flags access))) known
    ∙ ap (λ (o : Option ℕ). or_fail o Emfile s (λ fd. open_walked s pid fd (walk s pid path) flags access)) free
