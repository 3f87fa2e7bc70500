-- The room for errors, when calls come and go.
use Rattle.std.specs.Prelude.{IsTrue, is_some}
use Rattle.std.specs.Ordering.{nat_cmp, eq_by_cmp}
use Rattle.std.specs.Cmp.{nat_cmp_total, eq_by_cmp_equiv}
use Rattle.std.specs.FinMap.{FinMap, get, insert, remove, len, empty, get-empty, get-insert, get-remove, len-empty, len-insert, len-remove, empty_of_len}
use Rattle.std.proofs.Common.{◌≡◌, ℕ, zero, suc, ◌+◌, ◌-◌, ◌≤◌, Bool, true, false, cond, Option, Some, None, IsSome, refl, sym, ap, ◌∙◌, arith}
use Rattle.std.proofs.lemmas.Grind.{common_steps}
use Rattle.std.proofs.lemmas.Bool.Decides.{nat_tests}
use Rattle.hub_model.specs.Sound.{is_waiting}
use Rattle.hub_model.specs.declared.state.OpenCall.{OpenCall}
use Rattle.sp_hub.specs.Room.{HasErrorRoom}

itself : (k : ℕ) → eq_by_cmp nat_cmp k k ≡ true
itself k = (eq_by_cmp_equiv nat_cmp_total).refl k

same_key : (q k : ℕ) → eq_by_cmp nat_cmp q k ≡ true → eq_by_cmp nat_cmp k q ≡ true
same_key q k e = (eq_by_cmp_equiv nat_cmp_total).symm k q ∙ e

no_some : {X : Type 0} (x : X) → None ≡ Some x → ⊥
no_some {X = X} x e = (let k : is_some {T = X} None ≡ true = ap (λ (o : Option X). is_some o) e in let f : false ≡ true = k in absurd cc)

-- one room is left whatever calls there are
pub room_left : (calls : FinMap nat_cmp OpenCall) (spare : ℕ) → HasErrorRoom calls spare → 1 ≤ spare
room_left calls spare h = let le = h.room in omega arith

pub room_more : (calls : FinMap nat_cmp OpenCall) (spare spare' : ℕ) → HasErrorRoom calls spare → spare ≤ spare' → HasErrorRoom calls spare'
room_more calls spare spare' h more = let le = h.room in record { waiting = h.waiting; each = h.each; room = omega arith }

pub room_fresh : (spare : ℕ) → 1 ≤ spare → HasErrorRoom empty spare
room_fresh spare le = record {
  waiting = empty;
  each = λ n task e waits. absurd (no_some task (sym (get-empty nat_cmp n) ∙ e));
  room = (let zero = len-empty nat_cmp ℕ in omega arith);
}

insert_len : (m : FinMap nat_cmp ℕ) (n : ℕ) → len (insert m n 0) ≤ len m + 1
insert_len m n = by_test (is_some (get m n)) (len-insert nat_cmp_total m n 0) where
  by_test : (b : Bool) → len (insert m n 0) ≡ cond b (len m) (len m + 1) → len (insert m n 0) ≤ len m + 1
  by_test true e = omega arith
  by_test false e = omega arith

remove_len : (m : FinMap nat_cmp ℕ) (n : ℕ) → IsSome (get m n) → len (remove m n) ≡ len m - 1
remove_len m n there = len-remove nat_cmp_total m n ∙ ap (λ b. cond b (len m - 1) (len m)) there

no_some_here : (o : Option ℕ) → o ≡ None → IsSome o → ⊥
no_some_here None e h = (let f : false ≡ true = h in absurd cc)
no_some_here (Some x) e h = absurd cc

-- a key that is there counts
some_len : (m : FinMap nat_cmp ℕ) (n : ℕ) → IsSome (get m n) → 1 ≤ len m
some_len m n there = by_zero (len m) refl where
  by_zero : (k : ℕ) → len m ≡ k → 1 ≤ len m
  by_zero zero e = absurd (let none : get m n ≡ None = ap (λ (k : FinMap nat_cmp ℕ). get k n) (empty_of_len m e) ∙ get-empty nat_cmp n in no_some_here (get m n) none there)
  by_zero (suc k) e = omega arith

-- a call that waits has its room, and takes it along
pub room_opened : (calls : FinMap nat_cmp OpenCall) (n : ℕ) (task : OpenCall) (spare : ℕ) → HasErrorRoom calls spare → HasErrorRoom (insert calls n task) (spare + 1)
room_opened calls n task spare h = record {
  waiting = insert h.waiting n 0;
  each = λ q other e waits. by_test q other waits (eq_by_cmp nat_cmp q n) refl (sym (get-insert nat_cmp_total calls n task q) ∙ e);
  room = (let le = h.room in let more = insert_len h.waiting n in omega arith);
} where
  by_test : (q : ℕ) (other : OpenCall) → IsTrue (is_waiting other) → (b : Bool) → eq_by_cmp nat_cmp q n ≡ b → cond b (Some task) (get calls q) ≡ Some other → IsSome (get (insert h.waiting n 0) q)
  by_test q other waits true same e = ap (λ (o : Option ℕ). is_some o) (get-insert nat_cmp_total h.waiting n 0 q ∙ ap (λ b. cond b (Some 0) (get h.waiting q)) same)
  by_test q other waits false same e = ap (λ (o : Option ℕ). is_some o) (get-insert nat_cmp_total h.waiting n 0 q ∙ ap (λ b. cond b (Some 0) (get h.waiting q)) same) ∙ h.each q other e waits

-- a call that goes on keeps its room
pub room_kept : (calls : FinMap nat_cmp OpenCall) (n : ℕ) (was task : OpenCall) (spare : ℕ) → get calls n ≡ Some was → (IsTrue (is_waiting task) → IsTrue (is_waiting was)) → HasErrorRoom calls spare → HasErrorRoom (insert calls n task) spare
room_kept calls n was task spare there waited h = record {
  waiting = h.waiting;
  each = λ q other e waits. by_test q other waits (eq_by_cmp nat_cmp q n) refl (sym (get-insert nat_cmp_total calls n task q) ∙ e);
  room = h.room;
} where
  key : (q : ℕ) → eq_by_cmp nat_cmp q n ≡ true → q ≡ n
  key q e = grind (arith, nat_tests, common_steps)

  by_test : (q : ℕ) (other : OpenCall) → IsTrue (is_waiting other) → (b : Bool) → eq_by_cmp nat_cmp q n ≡ b → cond b (Some task) (get calls q) ≡ Some other → IsSome (get h.waiting q)
  by_test q other waits true same e = (let is : task ≡ other = cc in h.each q was (ap (λ k. get calls k) (key q same) ∙ there) (waited (ap is_waiting is ∙ waits)))
  by_test q other waits false same e = h.each q other e waits

-- a call that is answered gives its room
pub room_answered : (calls : FinMap nat_cmp OpenCall) (n : ℕ) (was task : OpenCall) (spare : ℕ) → get calls n ≡ Some was → IsTrue (is_waiting was) → is_waiting task ≡ false → HasErrorRoom calls spare
    → (2 ≤ spare) × HasErrorRoom (insert calls n task) (spare - 1)
room_answered calls n was task spare there waited done h =
    let has = h.each n was there waited in
    let one = some_len h.waiting n has in
    let le = h.room in
    let less = remove_len h.waiting n has in (
      omega arith,
      record {
        waiting = remove h.waiting n;
        each = λ q other e waits. by_test q other waits (eq_by_cmp nat_cmp q n) refl (sym (get-insert nat_cmp_total calls n task q) ∙ e);
        room = omega arith;
      },
    ) where
      by_test : (q : ℕ) (other : OpenCall) → IsTrue (is_waiting other) → (b : Bool) → eq_by_cmp nat_cmp q n ≡ b → cond b (Some task) (get calls q) ≡ Some other → IsSome (get (remove h.waiting n) q)
      by_test q other waits true same e = (let is : task ≡ other = cc in let no_wait : true ≡ false = sym waits ∙ (ap is_waiting (sym is) ∙ done) in absurd cc)
      by_test q other waits false same e = ap (λ (o : Option ℕ). is_some o) (get-remove nat_cmp_total h.waiting n q ∙ ap (λ b. cond b None (get h.waiting q)) same) ∙ h.each q other e waits

-- a call that is gone needs no room
pub room_removed : (calls : FinMap nat_cmp OpenCall) (n spare : ℕ) → HasErrorRoom calls spare → HasErrorRoom (remove calls n) spare
room_removed calls n spare h = record {
  waiting = h.waiting;
  each = λ q other e waits. by_test q other waits (eq_by_cmp nat_cmp q n) (sym (get-remove nat_cmp_total calls n q) ∙ e);
  room = h.room;
} where
  by_test : (q : ℕ) (other : OpenCall) → IsTrue (is_waiting other) → (b : Bool) → cond b None (get calls q) ≡ Some other → IsSome (get h.waiting q)
  by_test q other waits true e = absurd (no_some other e)
  by_test q other waits false e = h.each q other e waits
