-- A first pass and the jobs that it lent passes to, from call to call.
use Rattle.std.proofs.Common.{◌≡◌, ℕ, ◌+◌, ◌%◌, ◌^◌, ◌<◌, ◌≤◌, List, [], ◌∷◌, ◌++◌, length, refl, sym, ap, ◌∙◌, subst, inl, inr, arith, length-append}
use Rattle.std.specs.Prelude.{sum_by, ⊤}
use Rattle.std.proofs.lemmas.List.Sums.{sum_by-cons, sum_by_push}
use Rattle.std.proofs.lemmas.Option.{same_Some}
use mathlib.Core.Logic.{dite}
use native.Mathlib.Decide.{ℕ_discrete}
use Rattle.atomic_table.specs.Seated.{TableId}
use Rattle.turn_lock.specs.declared.view.Player.{Player}
use Rattle.turn_lock.specs.declared.view.Known.{Known}
use Rattle.turn_lock.specs.History.{entry, is_name, calls_by}
use Rattle.turn_lock.specs.Passes.{IsIn, player, with_call, beginner, joining, Has, HasName, IsWhole, Closes}
use Rattle.turn_bench.specs.declared.counter.Counter.{Counter}
use Rattle.turn_bench.specs.declared.players.Played.{Played}
use Rattle.turn_bench.specs.Counts.{Ticks, Plays}
use Rattle.turn_bench.specs.Crew.{CounterPass, Lends, TakesIn, AreBack, AreLent, IsCrew, planned}
use Rattle.turn_bench.proofs.Counting.{one, hits, counted_once, entries_calls, counts, hits_in}

K : Type 0
K = Known Counter ⊤ ℕ

pub plays_none : {O E R : Type 0} (k : Known O E R) → Plays k 0 k
plays_none k = record { name = refl; splits = refl; calls = omega arith; joined = refl; opening = refl }

pub plays_one : {O E R : Type 0} (k w x : Known O E R) (n : ℕ) (e : E) (r : R) → Plays k n w → x.own ≡ with_call w.own e r → x.joined ≡ w.joined → x.opening ≡ w.opening → Plays k (n + 1) x
plays_one k w x n e r h own joined opening = record {
  name = ap (λ m. m.name) own ∙ h.name;
  splits = ap (λ m. m.splits) own ∙ h.splits;
  calls = let a = ap (λ m. length m.calls) own in let b = h.calls in omega (arith, length-append w.own.calls (entry w.own.name e r ∷ []));
  joined = joined ∙ h.joined;
  opening = opening ∙ h.opening;
}

pub starts : (pass : CounterPass) (turn : TableId) → pass ≡ record { turn = turn; known = beginner (record { total = 0 }) } → IsCrew pass [] × (planned pass [] ≡ 0)
starts pass turn is = subst (λ (p : CounterPass). IsCrew p [] × (planned p [] ≡ 0)) (sym is)
    (record { name = refl; splits = refl; back = tt; lent = tt; opening = refl }, refl)

lent_more : (turn : TableId) (n : ℕ) (jobs : List Played) (job : Played) → AreLent turn n jobs → job.was.value.turn ≡ turn → job.was.value.known.own ≡ player ((n + length jobs) ∷ []) 0 [] → job.was.value.known.joined ≡ [] → AreLent turn n (jobs ++ job ∷ [])
lent_more turn n [] job h on own joined = (on, own ∙ ap (λ k. player (k ∷ []) 0 []) (omega arith), joined, tt)
lent_more turn n (j ∷ jobs) job h on own joined = (h.0, h.1, h.2, lent_more turn (n + 1) jobs job h.3 on (own ∙ ap (λ k. player (k ∷ []) 0 []) (omega arith)) joined)

pub lends : (pass later : CounterPass) (jobs : List Played) (job : Played) (more : ℕ) → IsCrew pass jobs → Lends pass more later job → IsCrew later (jobs ++ job ∷ []) × (planned later (jobs ++ job ∷ []) ≡ planned pass jobs + more)
lends pass later jobs job more h l = subst (λ (p : CounterPass). IsCrew p (jobs ++ job ∷ []) × (planned p (jobs ++ job ∷ []) ≡ planned pass jobs + more)) (sym l.parent) (
  record {
    name = h.name;
    splits = let s = h.splits in omega (arith, length-append jobs (job ∷ []));
    back = h.back;
    lent = lent_more pass.turn (length pass.known.joined) jobs job h.lent (ap (λ (p : CounterPass). p.turn) l.lent) (ap (λ (p : CounterPass). p.known.own) l.lent ∙ ap (λ (name : List ℕ). player name 0 []) name) (ap (λ (p : CounterPass). p.known.joined) l.lent);
    opening = h.opening;
  },
  (let s = sum_by_push (λ (j : Played). j.calls) jobs job in let c = l.calls in omega arith),
)
  where
    name : pass.known.own.name ++ pass.known.own.splits ∷ [] ≡ (length pass.known.joined + length jobs) ∷ []
    name = (λ i. h.name i ++ h.splits i ∷ [])

pub takes : (pass later : CounterPass) (jobs : List Played) (job : Played) → IsCrew pass (job ∷ jobs) → TakesIn pass job later → IsCrew later jobs × (planned later jobs ≡ planned pass (job ∷ jobs))
takes pass later jobs job h t = subst (λ (p : CounterPass). IsCrew p jobs × (planned p jobs ≡ planned pass (job ∷ jobs))) (sym t.joined)
    (subst (λ (l : List (Player ⊤ ℕ)). IsCrew (with_joined l) jobs × (planned (with_joined l) jobs ≡ planned pass (job ∷ jobs))) (sym joined) (crew, (let a = sum_by-cons (λ (c : Player ⊤ ℕ). length c.calls) t.back.own pass.known.joined in let b = sum_by-cons (λ (j : Played). j.calls) job jobs in let d = t.plays.calls in let e = ap (λ (c : Player ⊤ ℕ). length c.calls) h.lent.1 in omega arith)))
  where
    with_joined : List (Player ⊤ ℕ) → CounterPass
    with_joined l = record { turn = pass.turn; known = record (joining pass.known t.back) { joined = l } }

    joined : t.back.own ∷ t.back.joined ++ pass.known.joined ≡ t.back.own ∷ pass.known.joined
    joined = ap (λ l. t.back.own ∷ l ++ pass.known.joined) (t.plays.joined ∙ h.lent.2)

    crew : IsCrew (with_joined (t.back.own ∷ pass.known.joined)) jobs
    crew = record {
      name = h.name;
      splits = let s = h.splits in omega arith;
      back = (t.plays.name ∙ ap (λ (c : Player ⊤ ℕ). c.name) h.lent.1, t.plays.splits ∙ ap (λ (c : Player ⊤ ℕ). c.splits) h.lent.1, h.back);
      lent = subst (λ n. AreLent pass.turn n jobs) (omega arith) h.lent.3;
      opening = h.opening;
    }

pub plays_more : (pass later : CounterPass) (jobs : List Played) (n : ℕ) → IsCrew pass jobs → later.turn ≡ pass.turn → Plays pass.known n later.known → IsCrew later jobs × (planned later jobs ≡ planned pass jobs + n)
plays_more pass later jobs n h on p = (
  record {
    name = p.name ∙ h.name;
    splits = p.splits ∙ h.splits ∙ ap (λ l. length l + length jobs) (sym p.joined);
    back = subst AreBack (sym p.joined) h.back;
    lent = (λ (t : TableId) (l : List (Player ⊤ ℕ)) (a : pass.turn ≡ t) (b : pass.known.joined ≡ l). subst (λ z. AreLent z (length l) jobs) a (subst (λ z. AreLent pass.turn (length z) jobs) b h.lent)) later.turn later.known.joined (sym on) (sym p.joined);
    opening = p.opening ∙ h.opening;
  },
  (let c = p.calls in let j = ap (λ l. sum_by (λ (c : Player ⊤ ℕ). length c.calls) l) p.joined in omega arith),
)

back_has : (cs : List (Player ⊤ ℕ)) (n : ℕ) → AreBack cs → n < length cs → (c : Player ⊤ ℕ) × IsIn c cs × (c.name ≡ n ∷ [])
back_has [] n b lt = absurd (omega arith)
back_has (c ∷ cs) n b lt = dite (ℕ_discrete n (length cs))
    (λ e. (c, inl refl, b.0 ∙ ap (λ k. k ∷ []) (sym e)))
    (λ ne. let r = back_has cs n b.2 (omega arith) in (r.0, inr r.1, r.2))

back_splits : (cs : List (Player ⊤ ℕ)) (c : Player ⊤ ℕ) → AreBack cs → IsIn c cs → c.splits ≡ 0
back_splits [] c b h = absurd h
back_splits (d ∷ cs) c b (inl e) = ap (λ (z : Player ⊤ ℕ). z.splits) e ∙ b.1
back_splits (d ∷ cs) c b (inr h) = back_splits cs c b.2 h

pub whole : (pass : CounterPass) → IsCrew pass [] → IsWhole pass.known
whole pass h = ((pass.known.own, inl refl, h.name), all)
  where
    all : (c : Player ⊤ ℕ) (n : ℕ) → Has pass.known c → n < c.splits → HasName pass.known (c.name ++ n ∷ [])
    all c n (inl e) lt =
        let s = ap (λ (z : Player ⊤ ℕ). z.splits) e in
        let hs = h.splits in
        let r = back_has pass.known.joined n h.back (omega arith) in
        (r.0, inr r.1, r.2 ∙ ap (λ l. l ++ n ∷ []) (sym (ap (λ (z : Player ⊤ ℕ). z.name) e ∙ h.name)))
    all c n (inr i) lt = absurd (let z = back_splits pass.known.joined c h.back i in omega arith)

pub closes_total : (pass : CounterPass) (counter : Counter) → IsCrew pass [] → Closes (λ before _ reply after. Ticks before.total reply after.total) pass.known counter → counter.total ≡ planned pass [] % 2 ^ 64
closes_total pass counter h k =
    let from = k.legal.0 in
    let opened : record { total = 0 } ≡ from = same_Some (record { total = 0 }) from (sym h.opening ∙ k.legal.1) in
    let zero_total = ap (λ (z : Counter). z.total) opened in
    let total = counts from counter k.history k.legal.2 (omega arith) in
    let all = counted_once pass.known.joined k.history h.back others in
    let mine : length (calls_by [] k.history) ≡ length pass.known.own.calls = ap (λ (l : List ℕ). length (calls_by l k.history)) (sym h.name) ∙ ap length (k.calls pass.known.own (inl refl)) in
    let theirs = entries_calls pass.known.joined k.history (λ c i. k.calls c (inr i)) in
    total ∙ ap (λ n. n % 2 ^ 64) (omega arith)
  where
    others : (name : List ℕ) → one (is_name [] name) + hits pass.known.joined name ≡ 0 → calls_by name k.history ≡ []
    others name none = k.others name (λ z. absurd (unnamed z.0 z.1 z.2))
      where
        unnamed : (c : Player ⊤ ℕ) → Has pass.known c → c.name ≡ name → ⊥
        unnamed c (inl e) same = absurd (let t : name ≡ [] = sym same ∙ ap (λ (z : Player ⊤ ℕ). z.name) e ∙ h.name in let u = ap (λ l. one (is_name [] l)) t in omega arith)
        unnamed c (inr i) same = absurd (let z = subst (λ l. 1 ≤ hits pass.known.joined l) same (hits_in pass.known.joined c i) in omega arith)
