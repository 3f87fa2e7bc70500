-- A lock that is made, and the steps of a turn: each keeps the rule.
use Rattle.std.proofs.Common.{◌≡◌, ◌≢◌, ℕ, zero, suc, ◌+◌, ◌%◌, List, [], ◌∷◌, ◌++◌, length, set, Some, refl, sym, ap, ◌∙◌, subst, inl, inr, arith, eqb, length-append}
use Rattle.std.proofs.Math.Nat.{mod-add-mod}
use prog.Atomic.{either}
use mathlib.Core.Option as maybe
use mathlib.Core.Option.{some, some-injective, some-ne-none}
use lib.ListN.{get_elem?}
use Rattle.std.specs.Prelude.{slice_index}
use Rattle.atomic_table.specs.Table.{State, Me, Step, Act, keeps, takes, gives, Valid, Allows, opening, homes_after, carried_after}
use Rattle.atomic_table.proofs.Lists.{set_again, exchanged}
use Rattle.turn_lock.specs.declared.view.Entry.{Entry}
use Rattle.turn_lock.specs.declared.view.Player.{Player}
use Rattle.turn_lock.specs.declared.view.Stage.TheVariants.{Idle, Holding, Spent}
use Rattle.turn_lock.specs.declared.view.View.{View}
use Rattle.turn_lock.specs.declared.view.Slot.{Slot}
use Rattle.turn_lock.specs.History.{BeginsWith, entry, calls_by, Runs}
use Rattle.turn_lock.specs.Passes.{player, Has, HasName, beginner}
use Rattle.turn_lock.specs.Rule.{Fits, IsAt, Kept, Knows, Tried, Committed, Freed, holding, idle, called, first_slot}
use Rattle.turn_lock.proofs.Names.{same_name, other_name, begins_self, begins_more, nil_longer, calls_snoc, calls_other}
use Rattle.turn_lock.proofs.Views.{at_here, Covers, covers_self, Names, names_self, apart_from, below_from, unknown_from, same_set, back_set, each_set, reaches}

module _ {O E R : Type 0} (step : O → E → R → O → Type 0) where
  -- a history that goes on with one call more
  pub runs_snoc : (a b c : O) (history : List (Entry E R)) (name : List ℕ) (event : E) (reply : R) → Runs step a history b → step b event reply c → Runs step a (history ++ entry name event reply ∷ []) c
  runs_snoc a b c [] name event reply same go = (c, subst (λ z. step z event reply c) (sym same) go, refl)
  runs_snoc a b c (e ∷ es) name event reply r go = (r.0, r.1, runs_snoc r.0 b c es name event reply r.2 go)

module _ {O E R : Type 0} (step : O → E → R → O → Type 0) (o : O) where
  abbrev S : Type 0
  S = State (Slot O E R) (View O E R)

  only : (b v : View O E R) (j : ℕ) → get_elem? (b ∷ []) j ≡ some v → (j ≡ 0) × (b ≡ v)
  only b v zero e = (refl, some-injective b v e)
  only b v (suc j) e = absurd (some-ne-none v (sym e))

  abbrev pub start : View O E R
  start = idle (beginner o)

  nameless : (v : View O E R) (m : Player E R) → start ≡ v → Has v.known m → m ≡ player [] 0 []
  nameless v m e h = go (subst (λ z. Has z.known m) (sym e) h)
    where
      go : Has {O = O} {E = E} {R = R} (beginner o) m → m ≡ player [] 0 []
      go (inl same) = same
      go (inr none) = absurd none

  pub begins : (x : Slot O E R) → x.object ≡ Some o → Kept step o (opening (0 ∷ 0 ∷ []) (x ∷ []) start)
  begins x is = record {
    history = [];
    now = o;
    lock = 0;
    holder = 0;
    runs = refl;
    words = refl;
    bit = omega arith;
    home = λ _. (x, refl, is);
    out = λ n. absurd (n refl);
    seats = λ j v p. let at = only start v j p.0 in subst (λ z. Fits o [] o 0 0 j z) at.1 (first j);
    apart = λ j k v w ne p q. absurd (ne ((only start v j p.0).0 ∙ sym (only start w k q.0).0));
    below = λ j k v w p q a b ha hb n more e.
        let c = nameless v a (only start v j p.0).1 ha in
        let d = nameless w b (only start w k q.0).1 hb in
        absurd (nil_longer a.name n more (sym (ap (λ m. m.name) d) ∙ e));
    unknown = λ name none. refl;
  }
    where
      first : (j : ℕ) → Fits {O = O} {E = E} {R = R} o [] o 0 0 j start
      first j = record {
        opened = refl;
        seen = ([], refl);
        calls = λ m h. ap (λ (z : Player E R). calls_by z.name []) (nameless start m refl h) ∙ sym (ap (λ (z : Player E R). z.calls) (nameless start m refl h));
        own = λ m h. absurd h;
        turn = λ p e. absurd (cc);
      }

  -- the object of a view that has the turn
  holds_same : {a b : O} → Holding a ≡ Holding b → b ≡ a
  holds_same e = cc

  knows : (s : S) (h : Kept step o s) (id : ℕ) (v : View O E R) → IsAt s.views id v → Knows step v.known h.history h.now
  knows s h id v at =
      let f = h.seats id v at in
      record {
        legal = (o, f.opened, h.runs);
        begins = f.seen;
        calls = f.calls;
        others = λ whole name none. h.unknown name (λ j u p a ha e. none (subst (HasName v.known) e (reaches s.views id v h.below at whole j u p a ha a.name [] whole.0 refl)));
      }

  -- the passes after a change of one pass that keeps its names
  pub tries : (slots id : ℕ) (v : View O E R) (st : Step (Slot O E R)) → v.stage ≡ Idle → Allows (Kept step o) slots id (v, []) 0 (λ n. either (eqb n 0) 1 n) (Tried step st (v, []))
  tries slots id v st stage s h len at small =
      subst
      (λ ws. (w : View O E R) × (a : Act (Slot O E R)) × Valid s.homes [] a × Kept step o record { words = set ws 0 (either (eqb (slice_index ws 0) 0) 1 (slice_index ws 0)); homes = homes_after s.homes [] a; views = set s.views id w } × Tried step st (v, []) (slice_index ws 0) (w, carried_after [] a))
      (sym h.words)
      (exchanged h.lock 0 1 (λ m. (w : View O E R) × (a : Act (Slot O E R)) × Valid s.homes [] a × Kept step o record { words = m ∷ (length h.history % 18446744073709551616) ∷ []; homes = homes_after s.homes [] a; views = set s.views id w } × Tried step st (v, []) h.lock (w, carried_after [] a)) hit miss)
    where
      here : IsAt s.views id v
      here = (at, λ e. absurd (cc))

      taken : h.lock ≡ 0 → (x : Slot O E R) → s.homes ≡ some x ∷ [] → Kept step o record { words = 1 ∷ (length h.history % 18446744073709551616) ∷ []; homes = set s.homes 0 maybe.none; views = set s.views id (holding v.known h.history h.now) }
      taken free x home =
          let f = h.seats id v here in
          let w = holding v.known h.history h.now in
          let live : w.stage ≢ Spent = λ e. absurd (cc) in
          record {
            history = h.history;
            now = h.now;
            lock = 1;
            holder = id;
            runs = h.runs;
            words = refl;
            bit = omega arith;
            home = λ z. absurd (omega arith);
            out = λ _. ap (λ hs. set hs 0 maybe.none) home;
            seats = each_set s.views id w (λ j u. Fits o h.history h.now 1 id j u)
                (λ j u ne p. let g = h.seats j u p in record { opened = g.opened; seen = g.seen; calls = g.calls; own = g.own; turn = λ p t. let z = (g.turn p t).0 in absurd (omega arith) })
                (record { opened = f.opened; seen = begins_self h.history; calls = f.calls; own = f.own; turn = λ p e. (refl, refl, holds_same e, refl) });
            apart = apart_from (set s.views id w) s.views (same_set s.views id v w here (covers_self v.known)) h.apart;
            below = below_from (set s.views id w) s.views (same_set s.views id v w here (covers_self v.known)) h.below;
            unknown = unknown_from (set s.views id w) s.views h.history (back_set s.views id v w here live (names_self v.known)) h.unknown;
          }

      hit : h.lock ≡ 0 → (w : View O E R) × (a : Act (Slot O E R)) × Valid s.homes [] a × Kept step o record { words = 1 ∷ (length h.history % 18446744073709551616) ∷ []; homes = homes_after s.homes [] a; views = set s.views id w } × Tried step st (v, []) h.lock (w, carried_after [] a)
      hit free =
          let x = h.home free in
          (holding v.known h.history h.now, takes 0 x.0, ap (λ hs. get_elem? hs 0) x.1, taken free x.0 x.1, ((λ _. (h.history, h.now, x.0, x.2, refl, knows s h id v here)), λ n. absurd (n free)))

      miss : h.lock ≢ 0 → (w : View O E R) × (a : Act (Slot O E R)) × Valid s.homes [] a × Kept step o record { words = h.lock ∷ (length h.history % 18446744073709551616) ∷ []; homes = homes_after s.homes [] a; views = set s.views id w } × Tried step st (v, []) h.lock (w, carried_after [] a)
      miss ne =
          (v, keeps, tt, subst (λ z. z) (λ i. Kept step o record { words = h.words i; homes = s.homes; views = sym (set_again s.views id v at) i }) h, ((λ z. absurd (ne z)), λ _. refl))

  pub commits : (slots id : ℕ) (v : View O E R) (c : List (ℕ × Slot O E R)) (st : Step (Slot O E R)) (x : Slot O E R) (event : _) (reply : _) (before now : O)
      → v.stage ≡ Holding before → first_slot c ≡ Some x → x.object ≡ Some now → x.event ≡ Some event → x.reply ≡ Some reply
      → step before event.value reply.value now
      → Allows (Kept step o) slots id (v, c) 1 (λ n. (n + 1) % 18446744073709551616) (Committed st (v, c))
  commits slots id v c st x event reply before now stage first object ev rep steps s h len at small =
      (w, keeps, tt, kept, (x, event, reply, now, first, object, ev, rep, refl))
    where
      here : IsAt s.views id v
      here = (at, λ e. absurd (cc))

      f : Fits o h.history h.now h.lock h.holder id v
      f = h.seats id v here

      w : View O E R
      w = record { stage = Holding now; known = called v.known event.value reply.value }

      new : Entry E R
      new = entry v.known.own.name event.value reply.value

      history : List (Entry E R)
      history = h.history ++ new ∷ []

      -- the pass by its names and counts
      there : Covers w.known v.known
      there m (inl e) = (v.known.own, inl refl, ap (λ (z : Player E R). z.name) e, (let k : m.splits ≡ v.known.own.splits = ap (λ (z : Player E R). z.splits) e in omega arith))
      there m (inr i) = (m, inr i, refl, omega arith)

      back : Names v.known w.known
      back m (inl e) = (w.known.own, inl refl, ap (λ (z : Player E R). z.name) e)
      back m (inr i) = (m, inr i, refl)

      unchanged : (m : Player E R) → m.name ≢ v.known.own.name → calls_by m.name h.history ≡ m.calls → calls_by m.name history ≡ m.calls
      unchanged m ne was = calls_other m.name v.known.own.name event.value reply.value h.history (other_name m.name v.known.own.name ne) ∙ was

      own_calls : (m : Player E R) → Has w.known m → calls_by m.name history ≡ m.calls
      own_calls m (inl e) =
          let n : m.name ≡ v.known.own.name = ap (λ (z : Player E R). z.name) e in
          let k : m.calls ≡ v.known.own.calls ++ new ∷ [] = ap (λ (z : Player E R). z.calls) e in
          ap (λ l. calls_by l history) n ∙ calls_snoc v.known.own.name v.known.own.name event.value reply.value h.history (same_name v.known.own.name) ∙ ap (λ l. l ++ new ∷ []) (f.calls v.known.own (inl refl)) ∙ sym k
      own_calls m (inr i) = unchanged m (f.own m i) (f.calls m (inr i))

      others : (j : ℕ) (u : View O E R) → j ≢ id → IsAt s.views j u → Fits o history now h.lock h.holder j u
      others j u ne p =
          let g = h.seats j u p in
          record {
            opened = g.opened;
            seen = begins_more h.history u.known.seen (new ∷ []) g.seen;
            calls = λ m i. unchanged m (h.apart j id u v ne p here m v.known.own i (inl refl)) (g.calls m i);
            own = g.own;
            turn = λ p t. absurd (ne ((g.turn p t).1 ∙ sym (f.turn before stage).1));
          }

      mine : Fits o history now h.lock h.holder id w
      mine =
          let t = f.turn before stage in
          record {
            opened = f.opened;
            seen = subst (BeginsWith history) (ap (λ l. l ++ new ∷ []) (sym t.3)) (begins_self history);
            calls = own_calls;
            own = f.own;
            turn = λ p e. (t.0, t.1, holds_same e, ap (λ l. l ++ new ∷ []) t.3);
          }

      counts : (length h.history % 18446744073709551616 + 1) % 18446744073709551616 ≡ length history % 18446744073709551616
      counts = mod-add-mod (length h.history) 18446744073709551616 1 ∙ ap (λ n. n % 18446744073709551616) (sym (length-append h.history (new ∷ [])))

      live : w.stage ≢ Spent
      live e = absurd (cc)

      kept : Kept step o record { words = set s.words 1 ((slice_index s.words 1 + 1) % 18446744073709551616); homes = s.homes; views = set s.views id w }
      kept = record {
        history = history;
        now = now;
        lock = h.lock;
        holder = h.holder;
        runs = runs_snoc step o h.now now h.history v.known.own.name event.value reply.value h.runs (subst (λ z. step z event.value reply.value now) (f.turn before stage).2 steps);
        words = ap (λ ws. set ws 1 ((slice_index ws 1 + 1) % 18446744073709551616)) h.words ∙ ap (λ n. h.lock ∷ n ∷ []) counts;
        bit = h.bit;
        home = λ z. absurd (let t = (f.turn before stage).0 in omega arith);
        out = h.out;
        seats = each_set s.views id w (λ j u. Fits o history now h.lock h.holder j u) others mine;
        apart = apart_from (set s.views id w) s.views (same_set s.views id v w here there) h.apart;
        below = below_from (set s.views id w) s.views (same_set s.views id v w here there) h.below;
        unknown = λ name none.
            let ne : v.known.own.name ≢ name = none id w (at_here s.views id v w at, live) w.known.own (inl refl) in
            calls_other name v.known.own.name event.value reply.value h.history (other_name name v.known.own.name (λ e. ne (sym e)))
            ∙ unknown_from (set s.views id w) s.views h.history (back_set s.views id v w here live back) h.unknown name none;
      }

  pub frees : (slots id : ℕ) (v : View O E R) (c : List (ℕ × Slot O E R)) (st : Step (Slot O E R)) (x : Slot O E R) (now : O)
      → v.stage ≡ Holding now → c ≡ (0, x) ∷ [] → x.object ≡ Some now
      → Allows (Kept step o) slots id (v, c) 0 (λ _. 0) (λ n. Freed st (v, c) n)
  frees slots id v c st x now stage is object s h len at small = (w, gives, tt, kept, refl)
    where
      here : IsAt s.views id v
      here = (at, λ e. absurd (cc))

      f : Fits o h.history h.now h.lock h.holder id v
      f = h.seats id v here

      w : View O E R
      w = idle v.known

      live : w.stage ≢ Spent
      live e = absurd (cc)

      homes : homes_after s.homes c gives ≡ some x ∷ []
      homes = ap (λ l. homes_after s.homes l gives) is ∙ ap (λ hs. set hs 0 (some x)) (h.out (λ z. absurd (let t = (f.turn now stage).0 in omega arith)))

      kept : Kept step o record { words = set s.words 0 0; homes = homes_after s.homes c gives; views = set s.views id w }
      kept = record {
        history = h.history;
        now = h.now;
        lock = 0;
        holder = 0;
        runs = h.runs;
        words = ap (λ ws. set ws 0 0) h.words;
        bit = omega arith;
        home = λ _. (x, homes, object ∙ ap Some (f.turn now stage).2);
        out = λ n. absurd (n refl);
        seats = each_set s.views id w (λ j u. Fits o h.history h.now 0 0 j u)
            (λ j u ne p. let g = h.seats j u p in record { opened = g.opened; seen = g.seen; calls = g.calls; own = g.own; turn = λ p t. absurd (ne ((g.turn p t).1 ∙ sym (f.turn now stage).1)) })
            (record { opened = f.opened; seen = f.seen; calls = f.calls; own = f.own; turn = λ p t. absurd (cc) });
        apart = apart_from (set s.views id w) s.views (same_set s.views id v w here (covers_self v.known)) h.apart;
        below = below_from (set s.views id w) s.views (same_set s.views id v w here (covers_self v.known)) h.below;
        unknown = unknown_from (set s.views id w) s.views h.history (back_set s.views id v w here live (names_self v.known)) h.unknown;
      }

  -- the steps, at a seat that is known
  pub opens : (slots : List (Slot O E R)) (x : Slot O E R) → slots ≡ x ∷ [] → x.object ≡ Some o → Kept step o (opening (0 ∷ 0 ∷ []) slots start)
  opens slots x is object = subst (λ l. Kept step o (opening (0 ∷ 0 ∷ []) l start)) (sym is) (begins x object)

  pub tries_as : (slots id : ℕ) (me : Me (Slot O E R) (View O E R)) (st : Step (Slot O E R)) → me.1 ≡ [] → me.0.stage ≡ Idle → Allows (Kept step o) slots id me 0 (λ n. either (eqb n 0) 1 n) (Tried step st me)
  tries_as slots id me st none stage = subst (λ c. Allows (Kept step o) slots id (me.0, c) 0 (λ n. either (eqb n 0) 1 n) (Tried step st (me.0, c))) (sym none) (tries slots id me.0 st stage)
