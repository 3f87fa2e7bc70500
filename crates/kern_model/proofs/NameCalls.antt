-- What the calls on names do.
use Rattle.std.specs.Prelude.{not, nat_le}
use Rattle.std.proofs.Common.{◌≡◌, ◌≢◌, ℕ, Bool, true, false, ◌&&◌, ◌||◌, ◌==◌, List, [], ◌∷◌, Some, None, refl, sym, ap, ◌∙◌}
use Rattle.std.proofs.lemmas.Bool.{eq-eqb, eqb-true, leb-false, not-false, or_parts, false_from_ne_true, true≢false}
use Rattle.std.specs.FinMap.{get}
use Rattle.sp_base.specs.declared.errno.Errno.TheVariants.{Eperm, Enoent, Ebusy, Eexist, Enotdir, Eisdir, Einval, Enospc, Emlink, Enotempty}
use Rattle.kern_model.specs.declared.walk.Walked.{Walked}
use Rattle.kern_model.specs.declared.walk.Walked.TheVariants.{Found, Missing, Faulty}
use Rattle.kern_model.specs.Name.{Path, Names, is_same_path, has_entries, name_count}
use Rattle.kern_model.specs.State.{State, root, new_directory, is_directory, is_working_directory, has_room}
use Rattle.kern_model.specs.Walk.{walk}
use Rattle.kern_model.specs.Links.{is_root, link_limit, is_below, act_link, act_unlink, act_mkdir, act_rmdir, act_chdir, rename_to_missing, rename_over, rename_to_found, rename_to, act_rename}
use Rattle.kern_model.specs.Sound.{HasTree}
use Rattle.kern_model.proofs.BelowLaws.{same_test}
use Rattle.kern_model.proofs.EntryLaws.{no_entry}
use Rattle.kern_model.proofs.WalkLaws.{walk_found}
use Rattle.kern_model.proofs.LeadLaws.{walk_free}
use Rattle.kern_model.proofs.Holds.{holds_failed, holds_if, holds_fail_if, holds_found, holds_missing}
use Rattle.kern_model.proofs.Changes.{IsFree, IsSpare, Stays, Makes, Links, Unlinks, Moves, Replaces, Enters}
use Rattle.kern_model.proofs.Does.{DoesStep, fails, does_answered}

-- ---- what may lose its name

-- below what is no directory stands nothing
file_empty : (s : State) (path : Path) (node : ℕ) → get s.names path ≡ Some node → is_directory s node ≡ false → HasTree s → (component : List ℕ) → get s.names (component ∷ path) ≡ None
file_empty s path node e file h component =
    elim (get s.names (component ∷ path)) as (λ o. get s.names (component ∷ path) ≡ o → o ≡ None) [
      | None ↦ λ t. refl
      | Some n ↦ λ t.
          let place = h.tree.parents component path n t in
          let same : Some place.node ≡ Some node = sym place.stands ∙ e in
          let is : place.node ≡ node = cc in
          absurd (true≢false (sym place.directory ∙ ap (λ (m : ℕ). is_directory s m) is ∙ file))
    ] refl

-- what is no directory isn't the root
file_apart : (s : State) (path : Path) (node : ℕ) → get s.names path ≡ Some node → is_directory s node ≡ false → HasTree s → path ≢ []
file_apart s path node e file h is =
    let same : Some root ≡ Some node = sym h.tree.top ∙ ap (λ (p : Path). get s.names p) (sym is) ∙ e in
    let n : root ≡ node = cc in
    true≢false (sym h.tree.root_directory ∙ ap (λ (m : ℕ). is_directory s m) n ∙ file)

-- what is no directory may lose its name
file_spare : (s : State) (path : Path) (node : ℕ) → get s.names path ≡ Some node → is_directory s node ≡ false → HasTree s → IsSpare s path node
file_spare s path node e file h = record {
  named = e;
  apart = file_apart s path node e file h;
  empty = file_empty s path node e file h;
  idle = λ directory. absurd (true≢false (sym directory ∙ file));
}

not_root : (path : Path) → is_root path ≡ false → path ≢ []
not_root path t is = true≢false (sym (same_test []) ∙ ap (λ (p : Path). is_same_path p []) (sym is) ∙ t)

-- nothing stands in what is replaced
replaced_empty : (s : State) (new : Path) (replaced : ℕ) → get s.names new ≡ Some replaced → (is_directory s replaced && has_entries s.names new) ≡ false → HasTree s → (component : List ℕ) → get s.names (component ∷ new) ≡ None
replaced_empty s new replaced f empty h =
    elim (is_directory s replaced) as (λ b. is_directory s replaced ≡ b → (b && has_entries s.names new) ≡ false → (component : List ℕ) → get s.names (component ∷ new) ≡ None) [
      | true ↦ λ t empty. no_entry s.names new empty
      | false ↦ λ t empty. file_empty s new replaced f t h
    ] refl empty

-- one object under two names is no directory, and may lose the old one
twin_spare : (s : State) (old new : Path) (node replaced : ℕ) → get s.names old ≡ Some node → get s.names new ≡ Some replaced → (node == replaced) ≡ true → is_same_path old new ≡ false → HasTree s → IsSpare s old node
twin_spare s old new node replaced e f same other h =
    let one : node ≡ replaced = eqb-true node replaced same in
    let file = false_from_ne_true (is_directory s node) (λ directory.
    true≢false (sym (same_test old) ∙ ap (λ (p : Path). is_same_path old p) (h.tree.once old new node e (f ∙ ap (λ (n : ℕ). Some n) (sym one)) directory) ∙ other)) in
    file_spare s old node e file h

-- two paths to two objects are two
two_apart : (names : Names) (old new : Path) (node replaced : ℕ) → get names old ≡ Some node → get names new ≡ Some replaced → (node == replaced) ≡ false → new ≢ old
two_apart names old new node replaced e f other same =
    let k : Some node ≡ Some replaced = sym e ∙ ap (λ (p : Path). get names p) (sym same) ∙ f in
    true≢false (sym (eq-eqb node replaced cc) ∙ other)

not_both : (a b : Bool) → not a ≡ false → (a && b) ≡ false → b ≡ false
not_both true b n t = t
not_both false b n t = absurd (true≢false n)

-- ---- the calls

module _ (waits : Type 0) (pid : ℕ) (s : State) where
  pub does_mkdir : (text : List ℕ) → DoesStep waits pid s (act_mkdir s pid text)
  does_mkdir text = holds_missing s (walk s pid text) Eexist _ (fails pid s) (λ path slash e.
      holds_fail_if s (not (has_room s)) Enospc _ (fails pid s) (λ room.
      does_answered pid s 0 _ (Makes path new_directory (walk_free s pid text path slash e) (not-false (has_room s) room) refl)))

  pub does_link : (old new : List ℕ) → DoesStep waits pid s (act_link s pid old new)
  does_link old new = holds_found s (walk s pid old) _ (fails pid s) (λ old_path node named e.
      holds_fail_if s (is_directory s node) Eperm _ (fails pid s) (λ file.
      holds_missing s (walk s pid new) Eexist _ (fails pid s) (λ path slash f.
      holds_fail_if s slash Enoent _ (fails pid s) (λ _.
      holds_fail_if s (nat_le link_limit (name_count s.names node)) Emlink _ (fails pid s) (λ low.
      does_answered pid s 0 _ (Links old_path path node (walk_found s pid old old_path node named e) file (walk_free s pid new path slash f) (leb-false link_limit (name_count s.names node) low)))))))

  pub does_unlink : (text : List ℕ) → DoesStep waits pid s (act_unlink s pid text)
  does_unlink text = holds_found s (walk s pid text) _ (fails pid s) (λ path node named e.
      holds_fail_if s (is_directory s node) Eperm _ (fails pid s) (λ file.
      does_answered pid s 0 _ (Unlinks path node (file_spare s path node (walk_found s pid text path node named e) file))))

  pub does_rmdir : (text : List ℕ) → DoesStep waits pid s (act_rmdir s pid text)
  does_rmdir text = holds_found s (walk s pid text) _ (fails pid s) (λ path node named e.
      holds_fail_if s (not (is_directory s node)) Enotdir _ (fails pid s) (λ _.
      holds_fail_if s (is_root path) Ebusy _ (fails pid s) (λ apart.
      holds_fail_if s (not named) Einval _ (fails pid s) (λ _.
      holds_fail_if s (has_entries s.names path) Enotempty _ (fails pid s) (λ empty.
      holds_fail_if s (is_working_directory s node) Ebusy _ (fails pid s) (λ idle.
      does_answered pid s 0 _ (Unlinks path node (λ h. record {
        named = walk_found s pid text path node named e;
        apart = not_root path apart;
        empty = no_entry s.names path empty;
        idle = λ directory. idle;
      }))))))))

  pub does_chdir : (text : List ℕ) → DoesStep waits pid s (act_chdir s pid text)
  does_chdir text = holds_found s (walk s pid text) _ (fails pid s) (λ path node named e.
      holds_fail_if s (not (is_directory s node)) Enotdir _ (fails pid s) (λ directory.
      does_answered pid s 0 _ (Enters path node (walk_found s pid text path node named e) (not-false (is_directory s node) directory))))

  -- ---- rename

  does_rename_to_missing : (old : Path) (node : ℕ) (named : Bool) (new : Path) → get s.names old ≡ Some node → (HasTree s → IsFree s new) → DoesStep waits pid s (rename_to_missing s old node named new)
  does_rename_to_missing old node named new e free =
      holds_fail_if s (is_root old) Ebusy _ (fails pid s) (λ _.
      holds_fail_if s (not named) Einval _ (fails pid s) (λ _.
      holds_fail_if s (is_below new old) Einval _ (fails pid s) (λ apart.
      does_answered pid s 0 _ (Moves old node new (λ h. record { named = e; free = free h; apart = apart })))))

  does_rename_over : (old : Path) (node : ℕ) (new : Path) (replaced : ℕ) → get s.names old ≡ Some node → get s.names new ≡ Some replaced → new ≢ [] → new ≢ old → is_below new old ≡ false
      → DoesStep waits pid s (rename_over s old node new replaced)
  does_rename_over old node new replaced e f top other apart =
      holds_fail_if s (not (is_directory s node) && is_directory s replaced) Eisdir _ (fails pid s) (λ _.
      holds_fail_if s (is_directory s node && not (is_directory s replaced)) Enotdir _ (fails pid s) (λ _.
      holds_fail_if s (is_directory s replaced && has_entries s.names new) Enotempty _ (fails pid s) (λ empty.
      holds_fail_if s (is_working_directory s replaced) Ebusy _ (fails pid s) (λ idle.
      does_answered pid s 0 _ (Replaces old node new replaced (λ h. record {
        named = e;
        other = other;
        apart = apart;
        spare = record { named = f; apart = top; empty = replaced_empty s new replaced f empty h; idle = λ directory. idle };
      }))))))

  does_rename_to_found : (old : Path) (node : ℕ) (named : Bool) (new : Path) (replaced : ℕ) (new_named : Bool) → get s.names old ≡ Some node → get s.names new ≡ Some replaced
      → DoesStep waits pid s (rename_to_found s old node named new replaced new_named)
  does_rename_to_found old node named new replaced new_named e f =
      holds_if ((named && new_named) && is_same_path old new) _ _ (λ _. does_answered pid s 0 s Stays) (λ other.
      holds_fail_if s (is_root old || is_root new) Ebusy _ (fails pid s) (λ roots.
      holds_fail_if s (not (named && new_named)) Einval _ (fails pid s) (λ both.
      holds_if (node == replaced) _ _
      (λ same. does_answered pid s 0 _ (Unlinks old node (twin_spare s old new node replaced e f same (not_both (named && new_named) _ both other))))
      (λ two. holds_fail_if s (is_below new old) Einval _ (fails pid s) (λ apart.
      does_rename_over old node new replaced e f (not_root new (or_parts (is_root old) _ roots).1) (two_apart s.names old new node replaced e f two) apart)))))

  does_rename_to : (old : Path) (node : ℕ) (named : Bool) (w : Walked) (text : List ℕ) → get s.names old ≡ Some node → walk s pid text ≡ w → DoesStep waits pid s (rename_to s old node named w)
  does_rename_to old node named (Found new replaced new_named) text e f = does_rename_to_found old node named new replaced new_named e (walk_found s pid text new replaced new_named f)
  does_rename_to old node named (Missing new slash) text e f =
      holds_fail_if s (slash && not (is_directory s node)) Enoent _ (fails pid s) (λ _. does_rename_to_missing old node named new e (walk_free s pid text new slash f))
  does_rename_to old node named (Faulty error) text e f = holds_failed s error (fails pid s)

  pub does_rename : (old new : List ℕ) → DoesStep waits pid s (act_rename s pid old new)
  does_rename old new = holds_found s (walk s pid old) _ (fails pid s) (λ path node named e.
      does_rename_to path node named (walk s pid new) new (walk_found s pid old path node named e) refl)
