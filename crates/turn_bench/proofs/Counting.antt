-- How many entries a history has, by the calls of each name.
use Rattle.std.proofs.Common.{◌≡◌, ◌≢◌, true≢false, ◌==◌, ℕ, ◌+◌, ◌%◌, ◌^◌, ◌<◌, ◌≤◌, List, [], ◌∷◌, length, Bool, true, false, refl, sym, ap, ◌∙◌, subst, inl, inr, arith, ne_eqb}
use Rattle.std.specs.Prelude.{sum_by, ◌&&◌, ⊤}
use Rattle.std.proofs.lemmas.List.Sums.{sum_by-cons}
use mathlib.Core.Logic.{dite}
use native.Mathlib.Decide.{ℕ_discrete}
use Rattle.turn_lock.specs.declared.view.Entry.{Entry}
use Rattle.turn_lock.specs.declared.view.Player.{Player}
use Rattle.turn_lock.specs.History.{is_name, calls_by, Runs}
use Rattle.turn_lock.specs.Passes.{IsIn}
use Rattle.turn_lock.proofs.Names.{same_name, other_name}
use Rattle.turn_bench.specs.declared.counter.Counter.{Counter}
use Rattle.turn_bench.specs.Counts.{Ticks}
use Rattle.turn_bench.specs.Crew.{AreBack}

-- 1 for yes and 0 for no
abbrev pub one : Bool → ℕ
one true = 1
one false = 0

-- how many of the players have this name
abbrev pub hits : List (Player ⊤ ℕ) → List ℕ → ℕ
hits [] name = 0
hits (c ∷ cs) name = one (is_name c.name name) + hits cs name

-- how many entries of the history have the name of a player
abbrev pub entries : List (Player ⊤ ℕ) → List (Entry ⊤ ℕ) → ℕ
entries [] history = 0
entries (c ∷ cs) history = length (calls_by c.name history) + entries cs history

by_one : (name : List ℕ) (e : Entry ⊤ ℕ) (history : List (Entry ⊤ ℕ)) → length (calls_by name (e ∷ history)) ≡ one (is_name name e.name) + length (calls_by name history)
by_one name e history = go (is_name name e.name) refl
  where
    go : (b : Bool) → is_name name e.name ≡ b → length (calls_by name (e ∷ history)) ≡ one b + length (calls_by name history)
    go true is = rw is (omega arith)
    go false is = rw is (omega arith)

entries_none : (cs : List (Player ⊤ ℕ)) → entries cs [] ≡ 0
entries_none [] = refl
entries_none (c ∷ cs) = let z = entries_none cs in omega arith

entries_one : (cs : List (Player ⊤ ℕ)) (e : Entry ⊤ ℕ) (history : List (Entry ⊤ ℕ)) → entries cs (e ∷ history) ≡ hits cs e.name + entries cs history
entries_one [] e history = omega arith
entries_one (c ∷ cs) e history = let a = by_one c.name e history in let b = entries_one cs e history in omega arith

both_true : (a b : Bool) → a && b ≡ true → (a ≡ true) × (b ≡ true)
both_true true b h = (refl, h)
both_true false b h = absurd (true≢false (sym h))

is_same : (xs ys : List ℕ) → is_name xs ys ≡ true → xs ≡ ys
is_same [] [] is = refl
is_same [] (y ∷ ys) is = absurd (true≢false (sym is))
is_same (x ∷ xs) [] is = absurd (true≢false (sym is))
is_same (x ∷ xs) (y ∷ ys) is =
    let both = both_true (x == y) (is_name xs ys) is in
    dite (ℕ_discrete x y)
    (λ e. (λ i. e i ∷ is_same xs ys both.1 i))
    (λ ne. absurd (true≢false (sym both.0 ∙ ne_eqb x y ne)))

nonempty : (e : Entry ⊤ ℕ) (history : List (Entry ⊤ ℕ)) → calls_by e.name (e ∷ history) ≡ [] → ⊥
nonempty e history none = go (is_name e.name e.name) refl
  where
    go : (b : Bool) → is_name e.name e.name ≡ b → ⊥
    go true is = let z = by_one e.name e history in let t = ap one is in let l = ap length none in absurd (omega arith)
    go false is = absurd (true≢false (sym (same_name e.name) ∙ is))

none_long : {A : Type 0} (xs : List A) → length xs ≡ 0 → xs ≡ []
none_long [] e = refl
none_long (x ∷ xs) e = absurd (omega arith)

-- no player has a number that none was given yet, or the empty name
hits_above : (cs : List (Player ⊤ ℕ)) (n : ℕ) → AreBack cs → length cs ≤ n → hits cs (n ∷ []) ≡ 0
hits_above [] n b le = refl
hits_above (c ∷ cs) n b le =
    let ne : c.name ≢ n ∷ [] = λ e. absurd (let l : length cs ≡ n = head_same (sym b.0 ∙ e) in omega arith) in
    let z = hits_above cs n b.2 (omega arith) in
    let o = ap one (other_name c.name (n ∷ []) ne) in
    omega arith
  where
    head_same : {x y : ℕ} → x ∷ [] ≡ y ∷ [] → x ≡ y
    head_same e = cc

hits_nil : (cs : List (Player ⊤ ℕ)) → AreBack cs → hits cs [] ≡ 0
hits_nil [] b = refl
hits_nil (c ∷ cs) b =
    let ne : c.name ≢ [] = λ e. absurd (let f = sym b.0 ∙ e in cc) in
    let z = hits_nil cs b.2 in
    let o = ap one (other_name c.name [] ne) in
    omega arith

-- a name is that of one player at most
hits_most : (cs : List (Player ⊤ ℕ)) (name : List ℕ) → AreBack cs → hits cs name ≤ 1
hits_most [] name b = omega arith
hits_most (c ∷ cs) name b = go (hits_most cs name b.2) (is_name c.name name) refl
  where
    go : hits cs name ≤ 1 → (t : Bool) → is_name c.name name ≡ t → one t + hits cs name ≤ 1
    go ih true is = let z = subst (λ n. hits cs n ≡ 0) (sym b.0 ∙ is_same c.name name is) (hits_above cs (length cs) b.2 (omega arith)) in omega arith
    go ih false is = omega arith

pub hits_in : (cs : List (Player ⊤ ℕ)) (c : Player ⊤ ℕ) → IsIn c cs → 1 ≤ hits cs c.name
hits_in [] c h = absurd h
hits_in (d ∷ cs) c (inl e) = let t : one (is_name d.name c.name) ≡ 1 = ap one (subst (λ (z : Player ⊤ ℕ). is_name d.name z.name ≡ true) (sym e) (same_name d.name)) in omega arith
hits_in (d ∷ cs) c (inr h) = let z = hits_in cs c h in omega arith

-- each entry of a history is counted at just one name
pub counted_once : (cs : List (Player ⊤ ℕ)) (history : List (Entry ⊤ ℕ)) → AreBack cs → ((name : List ℕ) → one (is_name [] name) + hits cs name ≡ 0 → calls_by name history ≡ [])
    → length history ≡ length (calls_by [] history) + entries cs history
counted_once cs [] b others = let z = entries_none cs in omega arith
counted_once cs (e ∷ history) b others =
    let ih = counted_once cs history b (λ name none. later name (others name none)) in
    let own = by_one [] e history in
    let rest = entries_one cs e history in
    let most = once e.name in
    let least : one (is_name [] e.name) + hits cs e.name ≢ 0 = λ z. absurd (nonempty e history (others e.name z)) in
    omega arith
  where
    later : (name : List ℕ) → calls_by name (e ∷ history) ≡ [] → calls_by name history ≡ []
    later name none = none_long (calls_by name history) (let z = by_one name e history in let l = ap length none in omega arith)

    once : (name : List ℕ) → one (is_name [] name) + hits cs name ≤ 1
    once [] = let z = hits_nil cs b in omega arith
    once (n ∷ ns) = let z = hits_most cs (n ∷ ns) b in omega arith

-- of players whose calls are the entries of their names there are as many entries as calls
pub entries_calls : (cs : List (Player ⊤ ℕ)) (history : List (Entry ⊤ ℕ)) → ((c : Player ⊤ ℕ) → IsIn c cs → calls_by c.name history ≡ c.calls) → entries cs history ≡ sum_by (λ (c : Player ⊤ ℕ). length c.calls) cs
entries_calls [] history calls = refl
entries_calls (c ∷ cs) history calls =
    let ih = entries_calls cs history (λ d h. calls d (inr h)) in
    let own = ap length (calls c (inl refl)) in
    let all = sum_by-cons (λ (z : Player ⊤ ℕ). length z.calls) c cs in
    omega arith

-- a counter counts the entries of its history
pub counts : (from to : Counter) (history : List (Entry ⊤ ℕ)) → Runs (λ before _ reply after. Ticks before.total reply after.total) from history to → from.total < 2 ^ 64 → to.total ≡ (from.total + length history) % 2 ^ 64
counts from to [] runs small = sym (ap (λ (z : Counter). z.total) runs) ∙ omega arith
counts from to (e ∷ history) runs small =
    let next = runs.0 in
    let tick = runs.1.0 in
    let ih = counts next to history runs.2 (omega arith) in
    omega arith
