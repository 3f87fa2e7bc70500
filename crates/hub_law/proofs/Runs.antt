-- Every run from the start: the journal and what was sent agree with what came.
use Rattle.std.proofs.Common.{◌≡◌, inl, inr, ℕ, ◌==◌, Bool, true, false, cond, List, [], ◌∷◌, ◌++◌, Option, Some, None, slice_get, refl, sym, ap, ◌∙◌, subst, append-nil, append_assoc}
use Rattle.std.specs.Ordering.{nat_cmp}
use Rattle.std.specs.FinMap.{empty, get, get-empty}
use Rattle.std.proofs.lemmas.Bool.{and_right}
use Rattle.sp_base.specs.declared.names.ConnNo.{ConnNo}
use Rattle.sp_base.specs.declared.names.ReqNo.{ReqNo}
use Rattle.sp_frames.specs.declared.frame.Frame.{Frame}
use Rattle.sp_frames.specs.declared.version.Version.{Version}
use Rattle.kern_model.specs.Journal.{state_after}
use Rattle.kern_model.specs.declared.journal.Entry.{Entry}
use Rattle.hub_model.specs.Frames.{answered_kind, last_error}
use Rattle.hub_model.specs.Machine.{Plays, any_speaks, played_running}
use Rattle.hub_model.specs.Requests.{frame_at, frame_by}
use Rattle.hub_model.specs.Run.{Exchange, Runs}
use Rattle.hub_model.specs.Sound.{IsAnswered, IsOpened, IsSound, PlaysKeepSound}
use Rattle.hub_model.specs.State.{Connection, Machine, Played, fresh_machine, is_draining}
use Rattle.hub_model.specs.Verdict.{body_verdict}
use Rattle.hub_model.specs.declared.event.Event.{Event}
use Rattle.hub_model.specs.declared.event.Event.TheVariants as event
use Rattle.hub_model.specs.declared.event.Reply.{Reply}
use Rattle.hub_model.specs.declared.event.Reply.TheVariants as reply
use Rattle.hub_model.specs.declared.verdict.Verdict.{Verdict}
use Rattle.hub_model.specs.declared.verdict.Verdict.TheVariants as verdict
use Rattle.hub_law.specs.Frames.{came, frame_in, frame_out, sent}
use Rattle.hub_law.specs.Serves.{Agrees, IsServed, IsUnserved, StandsAt}
use Rattle.hub_law.proofs.Ends.{ends, halts, last_is_last, loses, malformed_kept}
use Rattle.hub_law.proofs.Ends as conns
use Rattle.hub_law.proofs.Keys.{grows_same}
use Rattle.hub_law.proofs.Kept.{Frames, Happens, IsQuiet, Kept, kept_same, unchanged}
use Rattle.hub_law.proofs.Lanes.{Lane, Rests, Speaks, rests_cut, speaks_rests}
use Rattle.hub_law.proofs.Lanes.Lane.{Alive, Drains, Over, Unopened}
use Rattle.hub_law.proofs.Means.{Means, body_means}
use Rattle.hub_law.proofs.Requests.{attach_kept, cancel_kept, copy_kept, fault_kept, fork_kept, image_kept, join_kept, open_kept, ready_kept, refuse_kept}
use Rattle.hub_law.proofs.Stages.{Final, stage_quiet}
use Rattle.hub_law.proofs.Stages.Final.{Served, Unserved}
use Rattle.hub_law.proofs.Works.{takes, works}

-- ---- a frame comes

closed_frame : (c : ConnNo) (f : Frame) (salt : ℕ) → IsQuiet (event.Frame c f salt) reply.Closed
closed_frame c f salt = record {
  none_in = λ d. ap (λ b. cond b (f ∷ []) []) (and_right (c.0 == d.0) false refl);
  none_out = λ d. refl;
}

module _ (m : Machine) (ins outs : Frames) (sound : IsSound m) (kept : Kept m ins outs) (c : ConnNo) (x : Connection) (live : is_draining x.condition ≡ false) (opened : IsOpened m.opened c.0)
    (speaks : Speaks c x.last x.calls (ins c) (outs c ++ x.queue) m.journal) (f : Frame) (salt : ℕ) where
  by_verdict : (v : Verdict) → Means m.cookies c x f.number.0 f.body v → Happens (event.Frame c f salt) ins outs (frame_by v m c x f salt)
  by_verdict verdict.Closed means = absurd means
  by_verdict verdict.Malformed means = malformed_kept m ins outs kept c x f salt (last_error f.number (answered_kind f.body)) (last_is_last f.number (answered_kind f.body)) opened speaks
  by_verdict (verdict.Refused why) means = refuse_kept m ins outs kept c x live opened speaks f salt why _ refl means
  by_verdict verdict.Attach means = attach_kept m ins outs kept c x live opened speaks f salt _ refl means
  by_verdict (verdict.Join cookie) means = join_kept m ins outs kept c x live opened speaks f salt cookie _ refl means
  by_verdict (verdict.Image cookie) means = image_kept m ins outs kept c x live opened speaks f salt sound cookie _ refl means
  by_verdict verdict.Fork means = fork_kept m ins outs kept c x live opened speaks f salt _ refl means
  by_verdict verdict.Ready means = ready_kept m ins outs kept c x live opened speaks f salt _ refl means
  by_verdict (verdict.Cancel cookie) means = cancel_kept m ins outs kept c x live opened speaks f salt cookie _ refl means
  by_verdict (verdict.Task call) means = open_kept m ins outs kept c x live opened speaks f salt call means
  by_verdict verdict.Copy means = copy_kept m ins outs kept c x live opened speaks f salt means.0 means.1
  by_verdict (verdict.CopyFault why) means = fault_kept m ins outs kept c x live opened speaks f salt why means.0 means.1

  comes_alive : Happens (event.Frame c f salt) ins outs (frame_at m c f salt (Some x))
  comes_alive =
      let v = body_verdict (state_after m.journal) m.cookies c x f.number.0 f.body in
      subst (λ (b : Bool). Happens (event.Frame c f salt) ins outs (frame_by (cond b verdict.Closed v) m c x f salt)) (sym live)
      (by_verdict v (body_means (state_after m.journal) m.cookies c x f.number.0 f.body))

comes_draining : (m : Machine) (ins outs : Frames) (c : ConnNo) (x : Connection) (f : Frame) (salt : ℕ) → Kept m ins outs → is_draining x.condition ≡ true
    → Happens (event.Frame c f salt) ins outs (frame_at m c f salt (Some x))
comes_draining m ins outs c x f salt kept drains =
    let v = body_verdict (state_after m.journal) m.cookies c x f.number.0 f.body in
    subst (λ (b : Bool). Happens (event.Frame c f salt) ins outs (frame_by (cond b verdict.Closed v) m c x f salt)) (sym drains)
    (unchanged m ins outs (event.Frame c f salt) reply.Closed kept (closed_frame c f salt))

comes_none : (m : Machine) (ins outs : Frames) (c : ConnNo) (f : Frame) (salt : ℕ) (now : Option Connection) → now ≡ None → Kept m ins outs
    → Happens (event.Frame c f salt) ins outs (frame_at m c f salt now)
comes_none m ins outs c f salt None none kept = unchanged m ins outs (event.Frame c f salt) reply.Closed kept (closed_frame c f salt)
comes_none m ins outs c f salt (Some x) none kept = absurd (cc)

comes : (m : Machine) (ins outs : Frames) (c : ConnNo) (f : Frame) (salt : ℕ) (now : Option Connection) → IsSound m → Kept m ins outs → Lane c m.opened now (ins c) (outs c) m.journal
    → Happens (event.Frame c f salt) ins outs (frame_at m c f salt now)
comes m ins outs c f salt now sound kept (Unopened none s) = comes_none m ins outs c f salt now none kept
comes m ins outs c f salt now sound kept (Over none o h) = comes_none m ins outs c f salt now none kept
comes m ins outs c f salt now sound kept (Alive x here live o s) =
    subst (λ (now : Option Connection). Happens (event.Frame c f salt) ins outs (frame_at m c f salt now)) (sym here) (comes_alive m ins outs sound kept c x live o s f salt)
comes m ins outs c f salt now sound kept (Drains x here drains silent o h) =
    subst (λ (now : Option Connection). Happens (event.Frame c f salt) ins outs (frame_at m c f salt now)) (sym here) (comes_draining m ins outs c x f salt kept drains)

-- ---- every event

running : (memory : Bool) (m : Machine) (ins outs : Frames) (happens : Event) → IsSound m → Kept m ins outs → Happens happens ins outs (played_running memory m happens)
running memory m ins outs (event.Opened c) sound kept = conns.opens m ins outs c kept
running memory m ins outs (event.Frame c f salt) sound kept = comes m ins outs c f salt _ sound kept (kept.lanes c)
running memory m ins outs (event.Work c r) sound kept = works memory m ins outs c r _ kept (kept.lanes c)
running memory m ins outs (event.Take c) sound kept = takes m ins outs c _ kept (kept.lanes c)
running memory m ins outs (event.Ended c how) sound kept = ends m ins outs c how _ kept (kept.lanes c)
running memory m ins outs (event.Lost c) sound kept = loses m ins outs c _ kept (kept.lanes c)
running memory m ins outs event.Halt sound kept = halts m ins outs (any_speaks m) kept

closed_quiet : (happens : Event) → IsQuiet happens reply.Closed
closed_quiet (event.Frame c f salt) = closed_frame c f salt
closed_quiet (event.Opened c) = record { none_in = λ d. refl; none_out = λ d. refl }
closed_quiet (event.Work c r) = record { none_in = λ d. refl; none_out = λ d. refl }
closed_quiet (event.Take c) = record { none_in = λ d. refl; none_out = λ d. refl }
closed_quiet (event.Ended c how) = record { none_in = λ d. refl; none_out = λ d. refl }
closed_quiet (event.Lost c) = record { none_in = λ d. refl; none_out = λ d. refl }
closed_quiet event.Halt = record { none_in = λ d. refl; none_out = λ d. refl }

wanting_quiet : (happens : Event) → IsQuiet happens reply.NoMemory
wanting_quiet (event.Frame c f salt) = record { none_in = λ d. ap (λ b. cond b (f ∷ []) []) (and_right (c.0 == d.0) false refl); none_out = λ d. refl }
wanting_quiet (event.Opened c) = record { none_in = λ d. refl; none_out = λ d. refl }
wanting_quiet (event.Work c r) = record { none_in = λ d. refl; none_out = λ d. refl }
wanting_quiet (event.Take c) = record { none_in = λ d. refl; none_out = λ d. refl }
wanting_quiet (event.Ended c how) = record { none_in = λ d. refl; none_out = λ d. refl }
wanting_quiet (event.Lost c) = record { none_in = λ d. refl; none_out = λ d. refl }
wanting_quiet event.Halt = record { none_in = λ d. refl; none_out = λ d. refl }

played_by : (memory : Bool) (m : Machine) (ins outs : Frames) (happens : Event) (halted : Bool) → IsSound m → Kept m ins outs
    → Happens happens ins outs (cond {A = Played} halted (reply.Closed, m) (played_running memory m happens))
played_by memory m ins outs happens true sound kept = unchanged m ins outs happens reply.Closed kept (closed_quiet happens)
played_by memory m ins outs happens false sound kept = running memory m ins outs happens sound kept

plays : (m m' : Machine) (ins outs : Frames) (happens : Event) (answer : Reply) → IsSound m → Kept m ins outs → Plays m happens answer m'
    → Happens happens ins outs (answer, m')
plays m m' ins outs happens answer sound kept (inl p) =
    subst (λ (q : Played). Happens happens ins outs q) (sym p.1) (played_by p.0 m ins outs happens m.halted sound kept)
plays m m' ins outs happens answer sound kept (inr stays) =
    subst (λ (n : Machine). Happens happens ins outs (answer, n)) (sym stays.keeps)
    (subst (λ (r : Reply). Happens happens ins outs (r, m)) (sym stays.answers) (unchanged m ins outs happens reply.NoMemory kept (wanting_quiet happens)))

-- ---- runs

runs : (m m' : Machine) (ins outs : Frames) (exchanges : List Exchange) → PlaysKeepSound → IsSound m → Kept m ins outs → Runs m exchanges m'
    → Kept m' (λ d. ins d ++ came d exchanges) (λ d. outs d ++ sent d exchanges)
runs m m' ins outs [] keeps sound kept same =
    subst (λ (n : Machine). Kept n (λ d. ins d ++ []) (λ d. outs d ++ [])) (sym same)
    (kept_same m ins outs (λ d. ins d ++ []) (λ d. outs d ++ []) (λ d. append-nil (ins d)) (λ d. append-nil (outs d)) kept)
runs m m' ins outs (e ∷ exchanges) keeps sound kept run =
    let ins' : Frames = λ d. ins d ++ frame_in d e.event e.reply in
    let outs' : Frames = λ d. outs d ++ frame_out d e.event e.reply in
    let rest = runs run.0 m' ins' outs' exchanges keeps (keeps m run.0 e.event e.reply sound run.1) (plays m run.0 ins outs e.event e.reply sound kept run.1) run.2 in
    kept_same m' (λ d. ins' d ++ came d exchanges) (λ d. outs' d ++ sent d exchanges) (λ d. ins d ++ came d (e ∷ exchanges)) (λ d. outs d ++ sent d (e ∷ exchanges))
    (λ d. sym (append_assoc (ins d) (frame_in d e.event e.reply) (came d exchanges)))
    (λ d. sym (append_assoc (outs d) (frame_out d e.event e.reply) (sent d exchanges)))
    rest

no_call : (n : ℕ) → IsAnswered (get {R = nat_cmp} empty n)
no_call n = subst IsAnswered (sym (get-empty nat_cmp n)) tt

fresh_kept : (version : Version) → Kept (fresh_machine version) (λ d. []) (λ d. [])
fresh_kept version = record {
  lanes = λ c. Unopened (get-empty nat_cmp c.0) (record {
    each = λ r. stage_quiet [] c r [] [] (get empty r.0) (no_call r.0) (Unserved (λ q e s. absurd (let k : None ≡ Some e = s.0 in cc)) (inl refl));
    above = λ r lt. record { came = refl; said = refl; quiet = no_call r.0; none = λ q e s. absurd (let k : None ≡ Some e = s.0 in cc) };
    plain = tt;
  });
  forks = λ n u there. absurd (let k : None ≡ Some u = sym (get-empty nat_cmp n) ∙ there in cc);
}

-- ---- the law

-- whatever is still queued, what was sent so far agrees
rests : (c : ConnNo) (opened : Option ℕ) (now : Option Connection) (ins outs : List Frame) (journal : List Entry) → Lane c opened now ins outs journal → Rests c ins outs journal
rests c opened now ins outs journal (Unopened none s) = speaks_rests c 0 empty ins outs journal s
rests c opened now ins outs journal (Over none o h) = h
rests c opened now ins outs journal (Alive x here live o s) =
    rests_cut c ins outs x.queue journal journal (λ r. grows_same c r journal) (speaks_rests c x.last x.calls ins (outs ++ x.queue) journal s)
rests c opened now ins outs journal (Drains x here drains silent o h) = rests_cut c ins outs x.queue journal journal (λ r. grows_same c r journal) h

served : (journal : List Entry) (c : ConnNo) (r : ReqNo) (frames answers : List Frame) (place : ℕ) (e : Entry) → Final journal c r frames answers → StandsAt journal c r place e
    → IsServed r place e frames answers
served journal c r frames answers place e (Served p f stands only s) at =
    let here : place ≡ p = only place e at in
    let same : f ≡ e = (let k : Some f ≡ Some e = sym stands.0 ∙ (ap (λ (n : ℕ). slice_get journal n) (sym here) ∙ at.0) in cc) in
    subst (λ (n : ℕ). IsServed r n e frames answers) (sym here) (subst (λ (e : Entry). IsServed r p e frames answers) same s)
served journal c r frames answers place e (Unserved none u) at = absurd (none place e at)

unserved : (journal : List Entry) (c : ConnNo) (r : ReqNo) (frames answers : List Frame) → Final journal c r frames answers → ((place : ℕ) (e : Entry) → StandsAt journal c r place e → ⊥)
    → IsUnserved journal r frames answers
unserved journal c r frames answers (Served p f stands only s) none = absurd (none p f stands)
unserved journal c r frames answers (Unserved none u) _ = u

-- every run from the start agrees, where every event keeps a sound machine sound
pub agrees : PlaysKeepSound → ((version : Version) → IsSound (fresh_machine version))
    → (version : Version) (exchanges : List Exchange) (m : Machine) → Runs (fresh_machine version) exchanges m → IsSound m → Agrees exchanges m.journal
agrees keeps start version exchanges m run sound =
    let kept = runs (fresh_machine version) m (λ d. []) (λ d. []) exchanges keeps (start version) (fresh_kept version) run in
    let rest = λ (c : ConnNo). rests c m.opened (get m.connections c.0) (came c exchanges) (sent c exchanges) m.journal (kept.lanes c) in
    record {
      legal = sound.legal;
      keys = sound.keys;
      served = λ c r place e at. served m.journal c r _ _ place e ((rest c).each r) at;
      unserved = λ c r none. unserved m.journal c r _ _ ((rest c).each r) none;
      last = λ c. (rest c).one;
    }
