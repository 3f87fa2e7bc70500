-- What holds of the host's kernel in every history.
use Rattle.std.proofs.Common.{◌≡◌, ◌≢◌, inl, inr, ℕ, ◌+◌, ◌<◌, ◌≤◌, Bool, true, false, cond, List, [], ◌∷◌, ◌++◌, length}
use Rattle.std.proofs.Common.{filter, Option, Some, None, refl, sym, ap, subst, ◌∙◌, arith}
use Rattle.std.proofs.lemmas.Bool.Decides.{nat_tests}
use Rattle.std.proofs.lemmas.Grind.{common_steps}
use Rattle.std.proofs.lemmas.List.{length-append}
use Rattle.std.proofs.lemmas.List.Elements.{filter-append}
use Rattle.std.specs.FinMap.{get, get-empty}
use Rattle.std.specs.List.{AllByRecursion}
use Rattle.std.specs.Ordering.{nat_cmp}
use Rattle.sp_base.specs.declared.names.Answer.{Answer}
use Rattle.sp_base.specs.declared.names.Caller.{Caller}
use Rattle.sp_base.specs.declared.names.Pid.{Pid}
use Rattle.sp_copy.specs.declared.part.Part.{Part}
use Rattle.sp_frames.specs.declared.version.Version.{Version}
use Rattle.kern_model.specs.Journal.{FitsPid, HasOwnKeys, IsLegal, IsNew, next_entry, state_after}
use Rattle.kern_model.specs.declared.journal.Entry.{Entry}
use Rattle.kern_model.specs.declared.journal.Who.{Who}
use Rattle.kern_model.specs.declared.journal.Who.TheVariants.{Host}
use Rattle.kern_model.specs.declared.operation.Op.{Op}
use Rattle.kern_model.specs.declared.operation.Op.TheVariants as op
use Rattle.kern_model.proofs.Journals.{legal_push}
use Rattle.hub_model.proofs.Entries.{next_follows, next_who, nexts}
use Rattle.hub_model.proofs.Keeps.{all_map, all_push, keys_push}
use Rattle.hub_model.specs.Frames.{answer_at}
use Rattle.hub_model.specs.Machine as server
use Rattle.hub_model.specs.Run.{Exchange}
use Rattle.hub_model.specs.declared.event.Event.TheVariants as server_event
use Rattle.hub_law.proofs.Lists.{empty_front}
use Rattle.tables.proofs.Maps.{get_put, get_put_other, same_or_not}
use Rattle.world_model.specs.After.{HostedAfter}
use Rattle.world_model.specs.Host.{count_in, host_by, host_entry, host_if, may_ask, performer, read_for, seen_at}
use Rattle.world_model.specs.Log.{IsIn}
use Rattle.world_model.specs.Machine.{played}
use Rattle.world_model.specs.Once.{IsHosted, IsHostedIn, is_of_guest, next_of_guest}
use Rattle.world_model.specs.Run.{History, Item, Move, fresh_history, run, step}
use Rattle.world_model.specs.State.{Played, World}
use Rattle.world_model.specs.Still.{is_still}
use Rattle.world_model.specs.declared.event.Event.{Event}
use Rattle.world_model.specs.declared.event.Event.TheVariants as event
use Rattle.world_model.specs.declared.event.Reply.TheVariants as reply
use Rattle.world_model.proofs.HostStays.{HostStays, IsUnhosted, stays_connects, stays_plays}
use Rattle.world_model.proofs.HostReads.{read_fits_op}
use Rattle.world_model.proofs.Order.{in_right}
use Rattle.world_model.proofs.Says.{same_place}

-- how many entries of a guest a journal has
abbrev count_of : ℕ → List Entry → ℕ
count_of guest journal = length (filter (λ e. is_of_guest guest e.who) journal)

-- who an entry was made for is among the first so many of its guest
abbrev IsCounted : List Entry → Who → Type 0
IsCounted journal (Host guest count) = count ≤ count_of guest journal
IsCounted journal _ = ⊥

-- what holds of the host's kernel: its journal is legal, with the entries of each guest counted from 1, and has those of the log in order
pub record HostKept (h : History) : Type 0 where
  pub legal : IsLegal h.world.host
  pub keys : HasOwnKeys h.world.host
  pub counts : (guest : ℕ) → count_in (get h.world.counts guest) ≡ count_of guest h.world.host
  pub counted : AllByRecursion (λ e. IsCounted h.world.host e.who) h.world.host
  pub hosted : IsHosted h.log h.world.host
  pub below : (item : Item) (answer : Answer) (mem : List Part) → IsIn item h.log → item.reply ≡ reply.Hosted answer mem → answer.place.0 < length h.world.host
  pub after : HostedAfter h

-- a history with an event more
abbrev next : History → Event → Played → List Exchange → History
next h happens p exchanges = record { world = p.1; log = record { event = happens; reply = p.0 } ∷ h.log; exchanges = exchanges }

-- ---- the order

-- the answers before an event's have places before its
abbrev IsLater : List Item → Played → Type 0
IsLater log p = (old : Item) (answer now : Answer) (mem back : List Part) → IsIn old log → old.reply ≡ reply.Hosted answer mem → p.0 ≡ reply.Hosted now back
    → answer.place.0 < now.place.0

module _ (h : History) (happens : Event) (p : Played) (exchanges : List Exchange) (kept : HostedAfter h) (is_later : IsLater h.log p) where
  split : (later earlier : List Item) → ◌≡◌ {A = List Item} (record { event = happens; reply = p.0 } ∷ h.log) (later ++ earlier)
      → (item next : Item) (answer now : Answer) (mem back : List Part) → IsIn item earlier → IsIn next later
      → item.reply ≡ reply.Hosted answer mem → next.reply ≡ reply.Hosted now back → answer.place.0 < now.place.0
  split [] earlier e item next answer now mem back i j a b = absurd j
  split (x ∷ later) earlier e item next answer now mem back i j a b =
      let rest : h.log ≡ later ++ earlier = cc in
      let first : record { event = happens; reply = p.0 } ≡ x = cc in
      elim j [
        | inl same ↦ is_later item answer now mem back (subst (λ (l : List Item). IsIn item l) (sym rest) (in_right item later earlier i)) a
            (ap (λ (y : Item). y.reply) (first ∙ same) ∙ b)
        | inr behind ↦ kept later earlier rest item next answer now mem back i behind a b
      ]

  after_next : HostedAfter (next h happens p exchanges)
  after_next = split

-- ---- an event of which the host's kernel performs nothing

unhosted_is : (p : Played) (answer : Answer) (mem : List Part) → IsUnhosted p.0 → p.0 ≡ reply.Hosted answer mem → ⊥
unhosted_is p answer mem h e = subst IsUnhosted e h

stays_kept : (h : History) (happens : Event) (p : Played) (exchanges : List Exchange) → HostStays h.world p → IsHostedIn happens p.0 h.world.host p.1.host
    → HostKept h → HostKept (next h happens p exchanges)
stays_kept h happens p exchanges b here kept = record {
  legal = subst IsLegal (sym b.host) kept.legal;
  keys = subst HasOwnKeys (sym b.host) kept.keys;
  counts = λ guest. ap (λ counts. count_in (get counts guest)) b.counts ∙ (kept.counts guest ∙ ap (count_of guest) (sym b.host));
  counted = subst (λ (journal : List Entry). AllByRecursion (λ e. IsCounted journal e.who) journal) (sym b.host) kept.counted;
  hosted = (h.world.host, kept.hosted, here);
  below = λ item answer mem i e. elim i [
    | inl same ↦ absurd (unhosted_is p answer mem b.unhosted (ap (λ (y : Item). y.reply) same ∙ e))
    | inr old ↦ subst (λ (journal : List Entry). answer.place.0 < length journal) (sym b.host) (kept.below item answer mem old e)
  ];
  after = after_next h happens p exchanges kept.after (λ old answer now mem back i a b'. absurd (unhosted_is p now back b.unhosted b'));
}

-- ---- an entry more

count_push : (guest : ℕ) (journal : List Entry) (e : Entry) (b : Bool) → is_of_guest guest e.who ≡ b
    → count_of guest (journal ++ e ∷ []) ≡ count_of guest journal + cond b 1 0
count_push guest journal e b is =
    let p : Entry → Bool = λ e. is_of_guest guest e.who in
    ap length (filter-append p journal (e ∷ []))
    ∙ (length-append (filter p journal) (filter p (e ∷ [])) ∙ ap (λ n. count_of guest journal + n) (by_test b is))
  where
    by_test : (b : Bool) → is_of_guest guest e.who ≡ b → length (filter (λ e. is_of_guest guest e.who) (e ∷ [])) ≡ cond b 1 0
    by_test true is = rw is refl
    by_test false is = rw is refl

count_grows : (guest : ℕ) (journal : List Entry) (e : Entry) → count_of guest journal ≤ count_of guest (journal ++ e ∷ [])
count_grows guest journal e = let k = count_push guest journal e (is_of_guest guest e.who) refl in omega (arith, k)

counted_grows : (journal : List Entry) (e : Entry) (who : Who) → IsCounted journal who → IsCounted (journal ++ e ∷ []) who
counted_grows journal e (Host guest count) h = let k = count_grows guest journal e in omega (arith, k, h)
counted_grows journal e _ h = absurd h

of_guest : (guest other count : ℕ) → other ≢ guest → is_of_guest other (Host guest count) ≡ false
of_guest guest other count ne = grind (arith, nat_tests, common_steps)

of_its_guest : (guest count : ℕ) → is_of_guest guest (Host guest count) ≡ true
of_its_guest guest count = grind (arith, nat_tests, common_steps)

module _ (journal : List Entry) (guest : ℕ) (e : Entry) (who : e.who ≡ next_of_guest guest journal) where
  one_more : count_of guest (journal ++ e ∷ []) ≡ count_of guest journal + 1
  one_more = count_push guest journal e true (ap (is_of_guest guest) who ∙ of_its_guest guest (count_of guest journal + 1))

  others_same : (other : ℕ) → other ≢ guest → count_of other (journal ++ e ∷ []) ≡ count_of other journal
  others_same other ne =
      let k = count_push other journal e false (ap (is_of_guest other) who ∙ of_guest guest other (count_of guest journal + 1) ne) in omega (arith, k)

  -- the entry's key is new
  new_who : AllByRecursion (λ f. IsCounted journal f.who) journal → IsNew e.who journal
  new_who counted = all_map (λ f. IsCounted journal f.who) (λ f. f.who ≡ e.who → ⊥)
      (λ f c same. let k : count_of guest journal + 1 ≤ count_of guest journal = subst (IsCounted journal) (same ∙ who) c in omega (arith, k)) journal counted

  counted_push : AllByRecursion (λ f. IsCounted journal f.who) journal → AllByRecursion (λ f. IsCounted (journal ++ e ∷ []) f.who) (journal ++ e ∷ [])
  counted_push counted = all_push (λ f. IsCounted (journal ++ e ∷ []) f.who) journal e
      (all_map (λ f. IsCounted journal f.who) (λ f. IsCounted (journal ++ e ∷ []) f.who) (λ f c. counted_grows journal e f.who c) journal counted)
      (subst (IsCounted (journal ++ e ∷ [])) (sym who) last)
    where
      last : count_of guest journal + 1 ≤ count_of guest (journal ++ e ∷ [])
      last = let k = one_more in omega (arith, k)

-- who may ask for an operation fits its entry
may_fit : (w : World) (pid : Pid) (operation : Op) → may_ask w pid operation ≡ true → FitsPid (state_after w.host) (performer pid operation).0 operation
may_fit w pid op.Attach may = refl
may_fit w pid (op.Sys call) may = may
may_fit w pid op.Fork may = may
may_fit w pid op.Exec may = may
may_fit w pid op.Exit may = may

module _ (h : History) (kept : HostKept h) (guest : ℕ) (caller : Caller) (pid : Pid) (operation : Op) (mem : List Part) (exchanges : List Exchange) where
  -- what happens
  abbrev happens : Event
  happens = event.Host guest caller pid operation mem

  -- what is played with an entry
  abbrev plays : Entry → Played
  plays e = host_by h.world guest caller pid operation mem (Some e)

  -- for whom the next entry is made, by the journal
  abbrev whose : Who
  whose = next_of_guest guest h.world.host

  -- the entry is the next one, by the journal
  abbrev IsNext : Entry → Type 0
  IsNext e = next_entry h.world.host (performer pid operation) whose operation (read_for operation mem) ≡ Some e

  -- the counts say the same of whose it is
  is_next : (e : Entry) → host_entry h.world guest pid operation (read_for operation mem) ≡ Some e → IsNext e
  is_next e is = subst (λ who. next_entry h.world.host (performer pid operation) who operation (read_for operation mem) ≡ Some e)
      (ap (λ n. Host guest (n + 1)) (kept.counts guest)) is

  counts_on : (e : Entry) → e.who ≡ whose → (other : ℕ) → count_in (get (plays e).1.counts other) ≡ count_of other (h.world.host ++ e ∷ [])
  counts_on e key other =
      let was : ℕ = count_in (get h.world.counts guest) + 1 in
      elim (same_or_not other guest) [
        | inl same ↦ subst (λ g. count_in (get (plays e).1.counts g) ≡ count_of g (h.world.host ++ e ∷ [])) (sym same)
            (ap count_in (get_put h.world.counts guest was) ∙ (ap (λ n. n + 1) (kept.counts guest) ∙ sym (one_more h.world.host guest e key)))
        | inr ne ↦ ap count_in (get_put_other h.world.counts guest was other ne) ∙ (kept.counts other ∙ sym (others_same h.world.host guest e key other ne))
      ]

  -- the answer has the place of its entry
  answers_at : (e : Entry) (now : Answer) (back : List Part) → (plays e).0 ≡ reply.Hosted now back → now.place.0 ≡ length h.world.host
  answers_at e now back is =
      let here : (seen_at (length h.world.host) e mem).0 ≡ now = cc in
      sym (ap (λ (a : Answer). a.place.0) here) ∙ same_place _ (answer_at e.outcome (length h.world.host))

  below_on : (e : Entry) (item : Item) (answer : Answer) (back : List Part) → IsIn item (next h happens (plays e) exchanges).log
      → item.reply ≡ reply.Hosted answer back → answer.place.0 < length (h.world.host ++ e ∷ [])
  below_on e item answer back i is =
      let longer = length-append h.world.host (e ∷ []) in
      elim i [
        | inl same ↦ let k = answers_at e answer back (ap (λ (y : Item). y.reply) same ∙ is) in omega (arith, k, longer)
        | inr old ↦ let k = kept.below item answer back old is in omega (arith, k, longer)
      ]

  -- an operation is performed
  performed : (e : Entry) → may_ask h.world pid operation ≡ true → IsNext e → HostKept (next h happens (plays e) exchanges)
  performed e may is =
      let n = nexts h.world.host (performer pid operation) whose operation (read_for operation mem) e is in
      let key = next_who h.world.host (performer pid operation) whose operation (read_for operation mem) e n in
      record {
        legal = legal_push h.world.host e kept.legal
            (next_follows h.world.host (performer pid operation) whose operation (read_for operation mem) e n
            (may_fit h.world pid operation may) (read_fits_op operation mem));
        keys = keys_push h.world.host e kept.keys (new_who h.world.host guest e key kept.counted);
        counts = counts_on e key;
        counted = counted_push h.world.host guest e key kept.counted;
        hosted = (h.world.host, kept.hosted, (e, record { next = is; sees = refl }, refl));
        below = below_on e;
        after = after_next h happens (plays e) exchanges kept.after (λ old answer now m back i a b.
            let k = answers_at e now back b in
            let lt = kept.below old answer m i a in omega (arith, k, lt));
      }

  asked : (may : Bool) → may_ask h.world pid operation ≡ may → (o : Option Entry) → host_entry h.world guest pid operation (read_for operation mem) ≡ o
      → host_if h.world guest caller pid operation mem true ≡ host_by h.world guest caller pid operation mem o
      → HostKept (next h happens (host_if h.world guest caller pid operation mem may) exchanges)
  asked false may o is same = stays_kept h happens (reply.Closed, h.world) exchanges (record { host = refl; counts = refl; unhosted = tt }) refl kept
  asked true may None is same = subst (λ (p : Played). HostKept (next h happens p exchanges)) (sym same)
      (stays_kept h happens (host_by h.world guest caller pid operation mem None) exchanges (record { host = refl; counts = refl; unhosted = tt }) refl kept)
  asked true may (Some e) is same = subst (λ (p : Played). HostKept (next h happens p exchanges)) (sym same) (performed e may (is_next e is))

  -- whoever asks, and whether or not it is performed
  hosts : HostKept (next h happens (host_if h.world guest caller pid operation mem (may_ask h.world pid operation)) exchanges)
  hosts = asked (may_ask h.world pid operation) refl (host_entry h.world guest pid operation (read_for operation mem)) refl refl

-- a world is still or not
still_unhosted : (still : Bool) → IsUnhosted (cond still reply.Still reply.NotStill)
still_unhosted true = tt
still_unhosted false = tt

-- ---- every event

-- whatever happens, what holds of the host's kernel holds on
goes : (memory : Bool) (h : History) (happens : Event) (exchanges : List Exchange) → HostKept h
    → HostKept (next h happens (played memory h.world happens) exchanges)
goes memory h (event.Connect c hello) exchanges kept =
    let p = server.played true h.world.rump (server_event.Opened c) in
    let b = stays_connects h.world p.1 c hello p.0 in
    stays_kept h (event.Connect c hello) (played memory h.world (event.Connect c hello)) exchanges b b.host kept
goes memory h (event.Start c caller call mem) exchanges kept =
    let b = stays_plays memory h.world c (event.Start c caller call mem) in stays_kept h (event.Start c caller call mem) _ exchanges b b.host kept
goes memory h (event.Prefork c caller want) exchanges kept =
    let b = stays_plays memory h.world c (event.Prefork c caller want) in stays_kept h (event.Prefork c caller want) _ exchanges b b.host kept
goes memory h (event.Preexec c caller) exchanges kept =
    let b = stays_plays memory h.world c (event.Preexec c caller) in stays_kept h (event.Preexec c caller) _ exchanges b b.host kept
goes memory h (event.Collect c r) exchanges kept =
    let b = stays_plays memory h.world c (event.Collect c r) in stays_kept h (event.Collect c r) _ exchanges b b.host kept
goes memory h (event.ToServer c salt) exchanges kept =
    let b = stays_plays memory h.world c (event.ToServer c salt) in stays_kept h (event.ToServer c salt) _ exchanges b b.host kept
goes memory h (event.FromServer c) exchanges kept =
    let b = stays_plays memory h.world c (event.FromServer c) in stays_kept h (event.FromServer c) _ exchanges b b.host kept
goes memory h (event.ToClient c) exchanges kept =
    let b = stays_plays memory h.world c (event.ToClient c) in stays_kept h (event.ToClient c) _ exchanges b b.host kept
goes memory h (event.FromClient c) exchanges kept =
    let b = stays_plays memory h.world c (event.FromClient c) in stays_kept h (event.FromClient c) _ exchanges b b.host kept
goes memory h (event.Work c r) exchanges kept =
    let b = stays_plays memory h.world c (event.Work c r) in stays_kept h (event.Work c r) _ exchanges b b.host kept
goes memory h (event.Cut c) exchanges kept =
    let b = stays_plays memory h.world c (event.Cut c) in stays_kept h (event.Cut c) _ exchanges b b.host kept
goes memory h (event.Ends c) exchanges kept =
    let b = stays_plays memory h.world c (event.Ends c) in stays_kept h (event.Ends c) _ exchanges b b.host kept
goes memory h (event.Host guest caller pid operation mem) exchanges kept = hosts h kept guest caller pid operation mem exchanges
goes memory h event.GiveUp exchanges kept =
    stays_kept h event.GiveUp _ exchanges (record { host = refl; counts = refl; unhosted = still_unhosted (is_still h.world) }) refl kept
goes memory h event.Halt exchanges kept = stays_kept h event.Halt _ exchanges (record { host = refl; counts = refl; unhosted = tt }) refl kept

kept_run : (h : History) (moves : List Move) → HostKept h → HostKept (run h moves)
kept_run h [] kept = kept
kept_run h (move ∷ moves) kept = kept_run (step h move) moves (goes move.memory h move.happens (step h move).exchanges kept)

fresh_kept : (version : Version) → HostKept (fresh_history version)
fresh_kept version = record {
  legal = tt;
  keys = tt;
  counts = λ guest. ap count_in (get-empty nat_cmp guest);
  counted = tt;
  hosted = refl;
  below = λ item answer mem i e. absurd i;
  after = λ later earlier e item next answer now mem back i j a b.
      absurd (subst (λ (l : List Item). IsIn next l) (empty_front later earlier (sym e)) j);
}

-- what holds of the host's kernel in every history
pub host_kept : (version : Version) (moves : List Move) → HostKept (run (fresh_history version) moves)
host_kept version moves = kept_run (fresh_history version) moves (fresh_kept version)
