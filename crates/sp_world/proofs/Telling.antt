-- What is told of a world is what a run of its log leaves, and stays so as events are logged.
use Rattle.std.proofs.Common.{◌≡◌, inl, inr, ℕ, ◌+◌, ◌<◌, ◌==◌, not, Bool, true, false, List, [], ◌∷◌, ◌++◌, length, Some, None, refl, sym, ap, ◌∙◌, subst, append-nil, length-append, arith}
use Rattle.std.specs.Prelude.{◌||◌, if◌then◌else◌}
use Rattle.std.specs.List.{AllByRecursion}
use Rattle.std.specs.Ordering.{nat_cmp}
use Rattle.std.specs.FinMap.{get-empty}
use Rattle.std.proofs.lemmas.Bool.Decides.{nat_tests}
use Rattle.std.proofs.lemmas.Grind.{common_steps}
use Rattle.sp_frames.specs.declared.version.Version.TheVariants.{Four}
use Rattle.world_model.specs.Machine.{played}
use Rattle.world_model.specs.Run.{History, Move, fresh_history, run, step}
use Rattle.world_model.specs.State.{Played, World}
use Rattle.world_model.specs.declared.event.Event.{Event}
use Rattle.world_model.specs.declared.event.Reply.{Reply}
use Rattle.sp_world.specs.Happens.{Happens, IsPaired, IsWithin, is_work, refuses_by, refuses_memory}
use Rattle.sp_world.specs.Told.{IsLogged, IsRun, Told, history_of, is_among, is_wanting, moves_from, moves_of, nothing_told}
use Rattle.sp_world.proofs.Keeping.{plays_keeps}

-- ---- indexes

later_index : (i j : ℕ) → i < j → (j == i) ≡ false
later_index i j lt = grind (arith, nat_tests, common_steps)

earlier_index : (i j : ℕ) → j < i → (j == i) ≡ false
earlier_index i j lt = grind (arith, nat_tests, common_steps)

same_index : (i : ℕ) → (i == i) ≡ true
same_index i = grind (arith, nat_tests, common_steps)

or_true : (b : Bool) → (b || true) ≡ true
or_true true = refl
or_true false = refl

-- an index that is put behind these changes nothing for those below it
among_before : (refused : List ℕ) (n i : ℕ) → i < n → is_among (refused ++ n ∷ []) i ≡ is_among refused i
among_before [] n i lt = ap (λ (b : Bool). b || false) (later_index i n lt)
among_before (j ∷ refused) n i lt = ap (λ (b : Bool). (j == i) || b) (among_before refused n i lt)

among_last : (refused : List ℕ) (n : ℕ) → is_among (refused ++ n ∷ []) n ≡ true
among_last [] n = ap (λ (b : Bool). b || false) (same_index n)
among_last (j ∷ refused) n = ap (λ (b : Bool). (j == n) || b) (among_last refused n) ∙ or_true (j == n)

-- an index above these isn't among them
none_among : (refused : List ℕ) (n : ℕ) → AllByRecursion (λ i. i < n) refused → is_among refused n ≡ false
none_among [] n below = refl
none_among (j ∷ refused) n below = ap (λ (b : Bool). b || is_among refused n) (earlier_index n j below.0) ∙ none_among refused n below.1

-- the indexes of those that were refused, with that of the next event where it was
abbrev next_refused : Bool → List ℕ → ℕ → List ℕ
next_refused b refused n = refused ++ (if b then n ∷ [] else [])

among_next : (b : Bool) (refused : List ℕ) (n : ℕ) → AllByRecursion (λ i. i < n) refused → is_among (next_refused b refused n) n ≡ b
among_next true refused n below = among_last refused n
among_next false refused n below = ap (λ (js : List ℕ). is_among js n) (append-nil refused) ∙ none_among refused n below

among_kept : (b : Bool) (refused : List ℕ) (n i : ℕ) → i < n → is_among (next_refused b refused n) i ≡ is_among refused i
among_kept true refused n i lt = among_before refused n i lt
among_kept false refused n i lt = ap (λ (js : List ℕ). is_among js i) (append-nil refused)

below_next : (b : Bool) (refused : List ℕ) (n : ℕ) → AllByRecursion (λ i. i < n) refused → AllByRecursion (λ i. i < n + 1) (next_refused b refused n)
below_next true [] n below = (omega arith, tt)
below_next false [] n below = tt
below_next b (j ∷ refused) n below = (let lt = below.0 in omega (arith, lt), below_next b refused n below.1)

-- ---- moves

-- the move of an event at an index
abbrev move_at : List ℕ → ℕ → Event → Move
move_at refused i happens = record { happens = happens; memory = not (is_among refused i) }

moves_same : (i : ℕ) (before after : List ℕ) (events : List Event)
    → ((j : ℕ) → j < i + length events → is_among after j ≡ is_among before j) → moves_from i after events ≡ moves_from i before events
moves_same i before after [] same = refl
moves_same i before after (happens ∷ events) same =
    ap (λ (b : Bool). record { happens = happens; memory = not b } ∷ moves_from (i + 1) after events) (same i (omega arith))
    ∙ ap (λ (moves : List Move). move_at before i happens ∷ moves) (moves_same (i + 1) before after events (λ j lt. same j (omega (arith, lt))))

moves_push : (i : ℕ) (refused : List ℕ) (events : List Event) (happens : Event)
    → moves_from i refused (events ++ happens ∷ []) ≡ moves_from i refused events ++ move_at refused (i + length events) happens ∷ []
moves_push i refused [] happens = ap (λ (n : ℕ). move_at refused n happens ∷ []) (omega arith)
moves_push i refused (e ∷ events) happens =
    let same : i + 1 + length events ≡ i + length (e ∷ events) = omega arith in
    ap (λ (moves : List Move). move_at refused i e ∷ moves)
    (moves_push (i + 1) refused events happens ∙ ap (λ (n : ℕ). moves_from (i + 1) refused events ++ move_at refused n happens ∷ []) same)

-- the moves of a log with one event more
moves_next : (b : Bool) (refused : List ℕ) (events : List Event) (happens : Event) → AllByRecursion (λ i. i < length events) refused
    → moves_from 0 (next_refused b refused (length events)) (events ++ happens ∷ [])
    ≡ moves_from 0 refused events ++ record { happens = happens; memory = not b } ∷ []
moves_next b refused events happens below =
    let after = next_refused b refused (length events) in
    let count : 0 + length events ≡ length events = omega arith in
    moves_push 0 after events happens
    ∙ (ap (λ (moves : List Move). moves ++ move_at after (0 + length events) happens ∷ [])
    (moves_same 0 refused after events (λ j lt. among_kept b refused (length events) j (omega (arith, lt))))
    ∙ ap (λ (m : Bool). moves_from 0 refused events ++ record { happens = happens; memory = not m } ∷ [])
    (ap (λ (n : ℕ). is_among after n) count ∙ among_next b refused (length events) below))

-- a run of one move more
run_push : (h : History) (moves : List Move) (move : Move) → run h (moves ++ move ∷ []) ≡ step (run h moves) move
run_push h [] move = refl
run_push h (m ∷ moves) move = run_push (step h m) moves move

-- ---- an event is logged

module _ (old new : Told) (happens : Event) (answer : Reply) (was : IsRun old) (logged : IsLogged old happens answer new) where
  abbrev next_move : Move
  next_move = record { happens = happens; memory = not (refuses_memory happens answer) }

  moves_is : moves_of new ≡ moves_of old ++ next_move ∷ []
  moves_is =
      ap (λ (events : List Event). moves_from 0 new.refused events) logged.events
      ∙ (ap (λ (refused : List ℕ). moves_from 0 refused (old.events ++ happens ∷ [])) logged.refused
      ∙ moves_next (refuses_memory happens answer) old.refused old.events happens was.below)

  history_is : history_of new ≡ step (history_of old) next_move
  history_is = ap (λ (moves : List Move). run (fresh_history Four) moves) moves_is ∙ run_push (fresh_history Four) (moves_of old) next_move

  world_plays : new.world ≡ (played next_move.memory old.world happens).1
  world_plays = ap (λ (p : Played). p.1) logged.plays

  world_is : new.world ≡ (history_of new).world
  world_is =
      world_plays
      ∙ (ap (λ (w : World). (played next_move.memory w happens).1) was.world ∙ sym (ap (λ (h : History). h.world) history_is))

  count_is : length new.events ≡ length old.events + 1
  count_is = ap (λ (events : List Event). length events) logged.events ∙ length-append old.events (happens ∷ [])

  -- what is told stays what a run of the log leaves
  pub logged_run : IsRun new
  logged_run =
      let kept = plays_keeps old.world (length old.events) was.paired was.within next_move.memory happens in
      record {
        world = world_is;
        below = subst (λ (refused : List ℕ). AllByRecursion (λ i. i < length new.events) refused) (sym logged.refused)
            (subst (λ (n : ℕ). AllByRecursion (λ i. i < n) (next_refused (refuses_memory happens answer) old.refused (length old.events)))
            (sym count_is) (below_next (refuses_memory happens answer) old.refused (length old.events) was.below));
        paired = subst IsPaired (sym world_plays) kept.paired;
        within = subst (λ (n : ℕ). IsWithin n new.world) (sym count_is)
            (subst (λ (w : World). IsWithin (length old.events + 1) w) (sym world_plays) kept.within);
      }

-- ---- nothing was told yet

pub nothing_run : IsRun nothing_told
nothing_run = record {
  world = refl;
  below = tt;
  paired = record {
    links = λ c l h. absurd (let k : None ≡ Some l = sym (get-empty nat_cmp c) ∙ h in cc);
    clients = λ c k h. absurd (let q : None ≡ Some k = sym (get-empty nat_cmp c) ∙ h in cc);
  };
  within = record {
    faults = λ c l h. absurd (let k : None ≡ Some l = sym (get-empty nat_cmp c) ∙ h in cc);
    counts = λ guest count h. absurd (let k : None ≡ Some count = sym (get-empty nat_cmp guest) ∙ h in cc);
  };
}

-- ---- memory was refused

module _ (w new : World) (most : ℕ) (happens : Event) (answer : Reply) (paired : IsPaired w) (within : IsWithin most w)
    (gives : Happens w happens answer new) where
  played_wants : (memory : Bool) → ◌≡◌ {A = Played} (answer, new) (played memory w happens) → is_wanting answer ≡ false
  played_wants memory plays = ap (λ (p : Played). is_wanting p.0) plays ∙ (plays_keeps w most paired within memory happens).answers

  -- where memory was refused nothing changed
  pub wanting_stays : is_wanting answer ≡ true → new ≡ w
  wanting_stays is = elim gives [
    | inl plays ↦ absurd (let k : true ≡ false = sym is ∙ played_wants (not (refuses_memory happens answer)) plays in cc)
    | inr wants ↦ wants.keeps
  ]

  -- else what the machine plays is answered
  pub served_plays : is_wanting answer ≡ false → ◌≡◌ {A = Played} (answer, new) (played (not (refuses_memory happens answer)) w happens)
  served_plays is = elim gives [
    | inl plays ↦ plays
    | inr wants ↦ absurd (let k : true ≡ false = sym (ap is_wanting wants.answers) ∙ is in cc)
  ]

-- ---- the log in code

-- what is told is the same where its parts are
pub same_told : (t : Told) (w : World) (events : List Event) (refused : List ℕ) → w ≡ t.world → events ≡ t.events → refused ≡ t.refused
    → ◌≡◌ {A = Told} (record { world = w; events = events; refused = refused }) t
same_told t w events refused same_world same_events same_refused =
    ap (λ (v : World). (let told : Told = record { world = v; events = events; refused = refused } in told)) same_world
    ∙ (ap (λ (es : List Event). (let told : Told = record { world = t.world; events = es; refused = refused } in told)) same_events
    ∙ ap (λ (rs : List ℕ). (let told : Told = record { world = t.world; events = t.events; refused = rs } in told)) same_refused)

-- an event was noted, over what was told, and with room that was kept before
pub record IsNoted (old : Told) (happens : Event) (answer : Reply) (room new : Told) : Type 0 where
  pub gives : Happens old.world happens answer new.world
  pub answers : is_wanting answer ≡ false
  pub work : Bool
  pub is_work : work ≡ is_work happens
  pub refuses : Bool
  pub refuses_is : refuses ≡ refuses_by work answer
  pub copy : Event
  pub copies : copy ≡ happens
  pub keeps_events : room.events ≡ old.events
  pub keeps_refused : room.refused ≡ old.refused
  pub events : new.events ≡ room.events ++ copy ∷ []
  pub refused : new.refused ≡ room.refused ++ (if refuses then length room.events ∷ [] else [])

module _ (old : Told) (happens : Event) (answer : Reply) (room new : Told) (was : IsRun old) (noted : IsNoted old happens answer room new) where
  note_events : new.events ≡ old.events ++ happens ∷ []
  note_events =
      noted.events
      ∙ (ap (λ (e : Event). room.events ++ e ∷ []) noted.copies ∙ ap (λ (es : List Event). es ++ happens ∷ []) noted.keeps_events)

  note_refused : new.refused ≡ next_refused (refuses_memory happens answer) old.refused (length old.events)
  note_refused =
      noted.refused
      ∙ (ap (λ (b : Bool). next_refused b room.refused (length room.events)) (noted.refuses_is ∙ ap (λ (b : Bool). refuses_by b answer) noted.is_work)
      ∙ (ap (λ (rs : List ℕ). next_refused (refuses_memory happens answer) rs (length room.events)) noted.keeps_refused
      ∙ ap (λ (es : List Event). next_refused (refuses_memory happens answer) old.refused (length es)) noted.keeps_events))

  -- it was logged
  note_logs : IsLogged old happens answer new
  note_logs = record {
    plays = served_plays old.world new.world (length old.events) happens answer was.paired was.within noted.gives noted.answers;
    events = note_events;
    refused = note_refused;
  }

  pub note_runs : IsRun new
  note_runs = logged_run old new happens answer was note_logs

-- memory was refused: nothing was noted, and all is as it was
module _ (old : Told) (happens : Event) (answer : Reply) (new : Told) (was : IsRun old) (gives : Happens old.world happens answer new.world)
    (wants : is_wanting answer ≡ true) (events : new.events ≡ old.events) (refused : new.refused ≡ old.refused) where
  unnoted : new ≡ old
  unnoted =
      same_told old new.world new.events new.refused
      (wanting_stays old.world new.world (length old.events) happens answer was.paired was.within gives wants) events refused

  pub unnoted_runs : IsRun new
  unnoted_runs = subst IsRun (sym unnoted) was
