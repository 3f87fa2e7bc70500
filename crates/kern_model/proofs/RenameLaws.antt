-- A rename of a directory to a missing place, or over an empty directory.
use Rattle.std.specs.Prelude.{is_some, IsSome, IsTrue, not, ◌&&◌, ◌||◌, ◌==◌, if◌then◌else◌}
use Rattle.std.proofs.lemmas.Bool.{and_right, ne_eqb, not-false, true≢false, false≢true}
use Rattle.std.proofs.Common.{◌≡◌, ◌≢◌, ℕ, Bool, true, false, List, [], ◌∷◌, ◌++◌, length, Option, None, Some, refl, sym, ap, ◌∙◌, arith, length-append}
use Rattle.std.specs.FinMap.{get, remove}
use Rattle.sp_base.proofs.TableLaws.{at_other}
use Rattle.kern_model.specs.declared.node.Node.{Node}
use Rattle.kern_model.specs.declared.walk.Walked.TheVariants.{Found, Missing, Faulty}
use Rattle.sp_base.specs.declared.errno.Errno.{Errno}
use Rattle.sp_base.specs.declared.errno.Errno.TheVariants.{Enoent, Ebusy, Enotdir, Eisdir, Einval, Enotempty}
use Rattle.kern_model.specs.declared.outcome.Outcome.{Outcome}
use Rattle.kern_model.specs.declared.walk.Walked.{Walked}
use Rattle.kern_model.specs.Name.{Path, Names, is_same_path, has_entries, below, renamed}
use Rattle.kern_model.specs.Outcome.{success, failure}
use Rattle.kern_model.specs.State.{State, bytes_in, bytes_of, is_directory, is_working_directory, without_unused}
use Rattle.kern_model.specs.Step.{Step, answered, fail_if, with_found}
use Rattle.kern_model.specs.Walk.{walk}
use Rattle.kern_model.specs.Links.{is_root, is_below, without_name, moved, rename_to_missing, rename_over, rename_to_found, rename_to}
use Rattle.kern_model.specs.NameLaws.{HasParents, LeadsElsewhere, MovesDirectory}
use Rattle.kern_model.proofs.Errors.{no_error_is_zero}
use Rattle.kern_model.proofs.BelowLaws.{path_from_test, other_test, below_is, not_below, get_elsewhere, get_old, get_new}
use Rattle.kern_model.proofs.EntryLaws.{no_entry}
use Rattle.kern_model.proofs.Holds.{each_is}
use Rattle.kern_model.proofs.NameLaws.{apart_from, paths_apart, remove_same, remove_other}
use Rattle.kern_model.proofs.TreeLaws.{names_unused, unused_by}
use Rattle.kern_model.proofs.WalkLaws.{walk_found, walk_missing}

-- a test that would have failed was false, and the step is the other one
passed : (b : Bool) (error : Errno) (s : State) (step : Step) (value : ℕ) (t : State) → fail_if b error s step ≡ Some (success value, t) → (b ≡ false) × (step ≡ Some (success value, t))
passed true error s step value t h =
    let same : ◌≡◌ {A = Outcome × State} (failure error, s) (success value, t) = cc in
    absurd (no_error_is_zero error (ap (λ (x : Outcome × State). x.0.err) same))
passed false error s step value t h = (refl, h)

-- what stands below a missing path is missing
pub nothing_below : (names : Names) (top : Path) → HasParents names → get names top ≡ None → (r : Path) → get names (r ++ top) ≡ None
nothing_below names top parents e [] = e
nothing_below names top parents e (c ∷ r) = parents c (r ++ top) (nothing_below names top parents e r)

-- a path of which nothing is told, and another one, aren't below the top
pub apart_by : (new old : Path) (o : Option Path) (b : Bool) → below new old ≡ o → is_same_path new old ≡ b → (is_some o && not b) ≡ false → new ≢ old → (r : Path) → new ≢ r ++ old
apart_by new old None b t same h ne r = not_below old r new t
apart_by new old (Some x) true t same h ne r = λ e. ne (path_from_test new old same)
apart_by new old (Some x) false t same h ne r = absurd cc

-- what a rename of a directory did: from a state in which nothing stands under the new path, the names moved
record Moved (s : State) (old new : Path) (t : State) : Type 0 where
  base : State
  is : t ≡ moved base old new
  free : get base.names new ≡ None
  rest : (path : Path) → path ≢ new → get base.names path ≡ get s.names path
  bytes : (node : ℕ) → get s.names new ≢ Some node → bytes_of base node ≡ bytes_of s node
  apart : is_below new old ≡ false
  other : new ≢ old
  below_free : HasParents s.names → (component : List ℕ) → get s.names (component ∷ new) ≡ None

missing_moves : (s : State) (old : Path) (node : ℕ) (named : Bool) (new : Path) (t : State) → get s.names old ≡ Some node → get s.names new ≡ None
    → rename_to_missing s old node named new ≡ Some (success 0, t) → Moved s old new t
missing_moves s old node named new t e free h =
    let a = (passed (is_root old) Ebusy s _ 0 t h).1 in
    let b = (passed (not named) Einval s _ 0 t a).1 in
    let c = passed (is_below new old) Einval s _ 0 t b in
    record {
      base = s;
      is = each_is (λ o u. u ≡ moved s old new) (answered 0 (moved s old new)) (success 0) t refl c.1;
      free = free;
      rest = λ path ne. refl;
      bytes = λ node ne. refl;
      apart = c.0;
      other = λ same. apart_from s.names new old node free e (sym same);
      below_free = λ parents component. parents component new free;
    }

-- every other node has its bytes
other_bytes : (s : State) (node n : ℕ) → n ≢ node → bytes_of (without_unused s node) n ≡ bytes_of s n
other_bytes s node n ne = unused_by (λ t. bytes_of t n ≡ bytes_of s n) s node refl (λ _. ap (λ (o : Option Node). bytes_in o) (at_other s.nodes node None n ne))

and_not : (a b : Bool) → a ≡ true → (a && not b) ≡ false → b ≡ true
and_not true b t e = not-false b e
and_not false b t e = absurd (false≢true t)

and_other : (a b : Bool) → a ≡ true → (a && b) ≡ false → b ≡ false
and_other true b t e = e
and_other false b t e = absurd (false≢true t)

over_moves : (s : State) (old : Path) (node : ℕ) (new : Path) (replaced : ℕ) (t : State) → IsTrue (is_directory s node) → get s.names new ≡ Some replaced → new ≢ old → is_below new old ≡ false
    → rename_over s old node new replaced ≡ Some (success 0, t) → Moved s old new t
over_moves s old node new replaced t directory f other apart h =
    let a = (passed (not (is_directory s node) && is_directory s replaced) Eisdir s _ 0 t h).1 in
    let b = passed (is_directory s node && not (is_directory s replaced)) Enotdir s _ 0 t a in
    let c = passed (is_directory s replaced && has_entries s.names new) Enotempty s _ 0 t b.1 in
    let d = (passed (is_working_directory s replaced) Ebusy s _ 0 t c.1).1 in
    let taken : State = record s { names = remove s.names new } in
    let empty = and_other (is_directory s replaced) (has_entries s.names new) (and_not (is_directory s node) (is_directory s replaced) directory b.0) c.0 in
    record {
      base = without_unused taken replaced;
      is = each_is (λ o u. u ≡ moved (without_name s new replaced) old new) (answered 0 (moved (without_name s new replaced) old new)) (success 0) t refl d;
      free = ap (λ (names : Names). get names new) (names_unused taken replaced) ∙ remove_same s.names new;
      rest = λ path ne. ap (λ (names : Names). get names path) (names_unused taken replaced) ∙ remove_other s.names new path ne;
      bytes = λ n ne. other_bytes taken replaced n (λ same. ne (f ∙ ap (λ (m : ℕ). Some m) (sym same)));
      apart = apart;
      other = other;
      below_free = λ parents. no_entry s.names new empty;
    }

-- a choice whose test is false is the other one
otherwise : (b : Bool) (x y z : Step) → b ≡ false → (if b then x else y) ≡ z → y ≡ z
otherwise true x y z e h = absurd (true≢false e)
otherwise false x y z e h = h

found_moves : (s : State) (old : Path) (node : ℕ) (named : Bool) (new : Path) (replaced : ℕ) (new_named : Bool) (t : State) → IsTrue (is_directory s node) → get s.names old ≡ Some node → get s.names new ≡ Some replaced → node ≢ replaced
    → rename_to_found s old node named new replaced new_named ≡ Some (success 0, t) → Moved s old new t
found_moves s old node named new replaced new_named t directory e f ne h =
    let other : new ≢ old = paths_apart s.names old new node replaced e f (λ same. ne (sym same)) in
    let a = otherwise ((named && new_named) && is_same_path old new) _ _ _ (and_right (named && new_named) _ (other_test old new (λ same. other (sym same)))) h in
    let b = (passed (is_root old || is_root new) Ebusy s _ 0 t a).1 in
    let c = (passed (not (named && new_named)) Einval s _ 0 t b).1 in
    let d = otherwise (node == replaced) _ _ _ (ne_eqb node replaced ne) c in
    let k = passed (is_below new old) Einval s _ 0 t d in
    over_moves s old node new replaced t directory f other k.0 k.1

-- what the rename that is answered 0 did
moves_to : (s : State) (pid : ℕ) (old : Path) (node : ℕ) (named : Bool) (new : Path) (t : State) (text : List ℕ) (w : Walked) → IsTrue (is_directory s node) → get s.names old ≡ Some node
    → walk s pid text ≡ w → LeadsElsewhere new node w → rename_to s old node named w ≡ Some (success 0, t) → Moved s old new t
moves_to s pid old node named new t text (Found there other new_named) directory e is leads h =
    found_moves s old node named new other new_named t directory e (ap (λ (p : Path). get s.names p) (sym leads.0) ∙ walk_found s pid text there other new_named is) leads.1
    (ap (λ (p : Path). rename_to_found s old node named p other new_named) (sym leads.0) ∙ h)
moves_to s pid old node named new t text (Missing there slash) directory e is leads h =
    missing_moves s old node named new t e (ap (λ (p : Path). get s.names p) (sym leads) ∙ walk_missing s pid text there slash is)
    (ap (λ (p : Path). rename_to_missing s old node named p) (sym leads) ∙ (passed (slash && not (is_directory s node)) Enoent s _ 0 t h).1)
moves_to s pid old node named new t text (Faulty error) directory e is leads h = absurd leads

module _ (s t : State) (pid : ℕ) (old new : Path) (m : MovesDirectory s pid old new t) where
  there : get s.names old ≡ Some m.node
  there = walk_found s pid m.old_text old m.node m.named m.found

  done : Moved s old new t
  done = moves_to s pid old m.node m.named new t m.new_text (walk s pid m.new_text) m.directory there refl m.goes
      (ap (λ (w : Walked). with_found w s (λ path node named. rename_to s path node named (walk s pid m.new_text))) (sym m.found) ∙ m.acts)

  -- every node but the one that was under the new path keeps its bytes
  pub bytes_stay : (node : ℕ) → get s.names new ≢ Some node → bytes_of t node ≡ bytes_of s node
  bytes_stay node ne = ap (λ (u : State). bytes_of u node) done.is ∙ done.bytes node ne

module _ (s t : State) (pid : ℕ) (old new : Path) (m : MovesDirectory s pid old new t) (parents : HasParents s.names) where
  abbrev after : Moved s old new t
  after = done s t pid old new m

  abbrev base : State
  base = after.base

  -- nothing stands at or below the new path
  none_below : (c : List ℕ) (r : Path) → get s.names (c ∷ (r ++ new)) ≡ None
  none_below c [] = after.below_free parents c
  none_below c (d ∷ r) = parents c (d ∷ (r ++ new)) (none_below d r)

  longer : (c : List ℕ) (r : Path) → c ∷ (r ++ new) ≢ new
  longer c r e = let a : length (c ∷ (r ++ new)) ≡ length new = ap length e in omega (arith, length-append r new)

  free : (r : Path) → get base.names (r ++ new) ≡ None
  free [] = after.free
  free (c ∷ r) = after.rest (c ∷ (r ++ new)) (longer c r) ∙ none_below c r

  stands : get base.names old ≡ Some m.node
  stands = after.rest old (λ same. after.other (sym same)) ∙ there s t pid old new m

  old_apart : (r : Path) → old ≢ r ++ new
  old_apart r e = let k : None ≡ Some m.node = sym (free r) ∙ ap (λ (p : Path). get base.names p) (sym e) ∙ stands in cc

  new_apart : (r : Path) → new ≢ r ++ old
  new_apart = apart_by new old (below new old) (is_same_path new old) refl refl after.apart after.other

  names_are : t.names ≡ renamed base.names old new
  names_are = ap (λ (u : State). u.names) after.is

  pub below_new : (p rest : Path) → below p new ≡ Some rest → get t.names p ≡ get s.names (rest ++ old)
  below_new p rest e =
      ap (λ (names : Names). get names p) names_are
      ∙ ap (λ (q : Path). get (renamed base.names old new) q) (below_is new p rest e)
      ∙ get_new old new new_apart old_apart base.names free rest
      ∙ after.rest (rest ++ old) (λ same. new_apart rest (sym same))

  old_gone : (p : Path) (o : Option Path) → below p old ≡ o → IsSome o → get t.names p ≡ None
  old_gone p None e some = absurd cc
  old_gone p (Some rest) e some =
      ap (λ (names : Names). get names p) names_are
      ∙ ap (λ (q : Path). get (renamed base.names old new) q) (below_is old p rest e)
      ∙ get_old old new new_apart old_apart base.names rest

  pub below_old : (p : Path) → IsSome (below p old) → get t.names p ≡ None
  below_old p some = old_gone p (below p old) refl some

  pub elsewhere : (p : Path) → below p old ≡ None → below p new ≡ None → get t.names p ≡ get s.names p
  elsewhere p e f =
      ap (λ (names : Names). get names p) names_are
      ∙ get_elsewhere old new new_apart old_apart base.names p (λ r. not_below old r p e) (λ r. not_below new r p f)
      ∙ after.rest p (not_below new [] p f)
