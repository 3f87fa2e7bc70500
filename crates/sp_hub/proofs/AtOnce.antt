-- A call that is performed at once is opened, worked and answered by three events of the machine.
use Rattle.std.proofs.Common.{◌≡◌, ◌≢◌, inl, inr, ℕ, Bool, true, false, List, [], ◌∷◌, ◌++◌, length, Option, Some, None, IsSome, refl, sym, ap, subst, ◌∙◌, ◌<◌, arith}
use Rattle.std.specs.Prelude.{◌-◌, IfNone, IfSome, IsTrue, map, slice_get}
use Rattle.std.specs.Cmp.{nat_cmp_total}
use Rattle.std.specs.Ordering.{nat_cmp}
use Rattle.std.specs.FinMap.{FinMap, get, insert, remove, len, same_map, nat_cmp-IsAntisymmetric, empty_of_len, get-empty}
use Rattle.sp_base.specs.Needs.{needs_of, outs_of, ArePieces}
use Rattle.sp_base.specs.Table.{at}
use Rattle.sp_base.specs.declared.call.Call.{Call}
use Rattle.sp_base.specs.declared.names.ConnNo.{ConnNo}
use Rattle.sp_base.specs.declared.names.Pid.{Pid}
use Rattle.sp_base.specs.declared.need.Need.{Need}
use Rattle.sp_frames.specs.declared.frame.Body.TheVariants as body
use Rattle.sp_frames.specs.declared.frame.Frame.{Frame}
use Rattle.kern_model.specs.Journal.{next_entry, state_after}
use Rattle.kern_model.specs.declared.journal.Entry.{Entry}
use Rattle.kern_model.specs.declared.journal.Who.TheVariants.{Request}
use Rattle.kern_model.specs.declared.operation.Ins.TheVariants.{Given}
use Rattle.kern_model.specs.declared.operation.Op.TheVariants.{Sys}
use Rattle.kern_model.specs.declared.outcome.OutPiece.{OutPiece}
use Rattle.hub_model.specs.Frames.{answer_at, puts_from, told}
use Rattle.hub_model.specs.Machine.{played, played_running}
use Rattle.hub_model.specs.Requests.{frame_at, frame_by}
use Rattle.hub_model.specs.Sound.{IsSound, is_waiting}
use Rattle.hub_model.specs.State.{Connection, Machine, Played, with_connection, process_in}
use Rattle.hub_model.specs.Task.{Waits, calls_in, open_calls}
use Rattle.hub_model.specs.Verdict.{verdict_of}
use Rattle.hub_model.specs.Work.{gather, perform, performed, take_at, take_from, work_at, work_number}
use Rattle.hub_model.specs.declared.event.Event.TheVariants as event
use Rattle.hub_model.specs.declared.event.Reply.TheVariants as reply
use Rattle.hub_model.specs.declared.state.Condition.{Condition}
use Rattle.hub_model.specs.declared.state.Condition.TheVariants.{Live}
use Rattle.hub_model.specs.declared.state.OpenCall.{OpenCall}
use Rattle.hub_model.specs.declared.state.OpenCall.TheVariants.{Gathers, Answers}
use Rattle.hub_model.specs.declared.verdict.Verdict.{Verdict}
use Rattle.hub_model.specs.declared.verdict.Verdict.TheVariants as verdict
use Rattle.hub_model.proofs.Sound.{plays_sound}
use Rattle.hub_model.proofs.Verdicts.{tells}
use Rattle.tables.proofs.Entries.{again}
use Rattle.tables.proofs.Maps.{get_put, get_put_other, get_gone, get_gone_other, same_or_not}
use Rattle.sp_fork.specs.Jar.{Jar}
use Rattle.sp_hub.specs.AtOnce.{AnswersAtOnce, AsksAtOnce, IsReady}
use Rattle.sp_hub.specs.Outs.{HaveRooms}
use Rattle.sp_hub.specs.Work.{Appends, FitsEnd, next_of, outs}
use Rattle.sp_hub.specs.declared.gathered.Gathered.{Gathered}
use Rattle.sp_hub.proofs.Plays.{runs}
use Rattle.sp_hub.proofs.Works.{last_is, rooms_at}

-- ---- maps

put_put : {V : Type 0} (m : FinMap nat_cmp V) (k : ℕ) (v w : V) → insert (insert m k v) k w ≡ insert m k w
put_put m k v w = again m (insert m k v) k v w refl

-- a value that is put where none stood, and taken away again
gone_put : {V : Type 0} (m : FinMap nat_cmp V) (k : ℕ) (v : V) → get m k ≡ None → remove (insert m k v) k ≡ m
gone_put m k v none = same_map nat_cmp_total nat_cmp-IsAntisymmetric _ _ (λ q. elim (same_or_not q k) [
  | inl e ↦ subst (λ n. get (remove (insert m k v) k) n ≡ get m n) (sym e) (get_gone (insert m k v) k ∙ sym none)
  | inr ne ↦ get_gone_other (insert m k v) k q ne ∙ get_put_other m k v q ne
])

none_in : {V : Type 0} (m : FinMap nat_cmp V) → len m ≡ 0 → (k : ℕ) → get m k ≡ None
none_in m zero_is k = ap (λ (n : FinMap nat_cmp _). get n k) (empty_of_len m zero_is) ∙ get-empty nat_cmp k

-- ---- the call

no_pieces : (needs : List Need) → slice_get needs 0 ≡ None → ArePieces needs []
no_pieces [] e = tt
no_pieces (need ∷ needs) e = absurd cc

-- such a call of a live process fits the end of the journal
pub asked_fits : (journal : List Entry) (jar : Jar) (c : ConnNo) (x : Connection) (f : Frame) (g : Gathered) → ((pid : Pid) → process_in x.condition ≡ Some pid → IsSome (at (state_after journal).processes pid.0))
    → AsksAtOnce journal jar c x f g → FitsEnd journal g
asked_fits journal jar c x f g live r =
    rw r.is (record {
      call = r.call;
      is = refl;
      live = live r.pid (ap process_in r.idle.speaks);
      ins = no_pieces (needs_of r.call) r.reads;
    })

-- the process of a connection that is there is live
pub owner_lives : (m : Machine) (c : ℕ) (x : Connection) → IsSound m → get m.connections c ≡ Some x → (pid : Pid) → process_in x.condition ≡ Some pid → IsSome (at (state_after m.journal).processes pid.0)
owner_lives m c x sound here = (sound.each c x here).process

no_rooms : (pieces : List OutPiece) → HaveRooms [] pieces → pieces ≡ []
no_rooms [] h = refl
no_rooms (piece ∷ pieces) h = absurd h

-- it writes nothing
writes_nothing : (journal : List Entry) (jar : Jar) (c : ConnNo) (x : Connection) (f : Frame) (g : Gathered) (e : Entry) → IsReady journal jar c x f g → next_of journal g ≡ Some e → e.outcome.outs ≡ []
writes_nothing journal jar c x f g e r is =
    let rooms = rooms_at journal g e r.fits is in
    let none : map (λ r. r.len) (outs g.op) ≡ [] = rw r.asks.is (ap (map (λ r. r.len)) r.asks.writes) in
    no_rooms e.outcome.outs (subst (λ (rooms : List ℕ). HaveRooms rooms e.outcome.outs) none rooms)

-- the response to a request, by its entry
abbrev pub response_of : Frame → Entry → ℕ → Frame
response_of f e place = record { number = f.number; body = body.Answered (answer_at e.outcome place) }

-- ---- the three events

module _ (m : Machine) (c : ConnNo) (f : Frame) (g : Gathered) (e : Entry) (x : Connection) (running : m.halted ≡ false) (here : get m.connections c.0 ≡ Some x) (ready : IsReady m.journal m.cookies c x f g) (is : next_of m.journal g ≡ Some e) where
  abbrev n : ℕ
  n = f.number.0

  r : AsksAtOnce m.journal m.cookies c x f g
  r = ready.asks

  abbrev fresh_task : OpenCall
  fresh_task = Gathers r.call [] false

  -- the connection whose call is open
  abbrev asking : Connection
  asking = record x { last = n; calls = insert x.calls n fresh_task }

  abbrev opened : Machine
  opened = with_connection m c asking

  abbrev response : Frame
  response = response_of f e (length m.journal)

  -- the connection whose call is answered
  abbrev answering : Connection
  answering = record asking { calls = insert asking.calls n Answers; queue = x.queue ++ told f.number e.outcome (length m.journal) }

  abbrev done : Machine
  done = with_connection (record opened { journal = m.journal ++ e ∷ [] }) c answering

  -- the connection afterwards, which has used the number
  abbrev rested : Connection
  rested = record x { last = n }

  abbrev after : Machine
  after = with_connection (record m { journal = m.journal ++ e ∷ [] }) c rested

  speaks : process_in x.condition ≡ Some r.pid
  speaks = ap process_in r.idle.speaks

  enters : next_entry m.journal r.pid (Request c f.number) (Sys r.call) (Given []) ≡ Some e
  enters = subst (λ (g : Gathered). next_of m.journal g ≡ Some e) r.is is

  opens : (salt : ℕ) → played true m (event.Frame c f salt) ≡ (reply.Task f.number, opened)
  opens salt = runs true m (event.Frame c f salt) running ∙ (ap (frame_at m c f salt) here ∙ ap (λ (v : Verdict). frame_by v m c x f salt) r.opens)

  works : played true opened (event.Work c f.number) ≡ (reply.Done, done)
  works =
      runs true opened (event.Work c f.number) running
      ∙ (ap (work_at true opened c f.number) (get_put m.connections c.0 asking)
      ∙ (ap (work_number true opened c asking f.number) (get_put x.calls n fresh_task)
      ∙ (ap (gather true opened c asking f.number r.call []) r.reads
      ∙ (ap (perform true opened c asking f.number r.call (Given [])) speaks
      ∙ ap (performed true opened c asking f.number) enters))))

  one_frame : answering.queue ≡ response ∷ []
  one_frame = rw (r.idle.queue, writes_nothing m.journal m.cookies c x f g e ready is) refl

  no_calls : (k : ℕ) → get x.calls k ≡ None
  no_calls k = none_in x.calls r.idle.calls k

  rests : record answering { calls = remove answering.calls n; queue = [] } ≡ rested
  rests =
      let calls : remove (insert (insert x.calls n fresh_task) n Answers) n ≡ x.calls = ap (λ (t : FinMap nat_cmp OpenCall). remove t n) (put_put x.calls n fresh_task Answers) ∙ gone_put x.calls n Answers (no_calls n) in
      ap (λ (t : FinMap nat_cmp OpenCall). record rested { calls = t; queue = [] }) calls ∙ ap (λ (q : List Frame). record rested { queue = q }) (sym r.idle.queue)

  ends : with_connection done c (record answering { calls = remove answering.calls n; queue = [] }) ≡ after
  ends =
      ap (λ (y : Connection). with_connection done c y) rests
      ∙ ap (λ (t : FinMap nat_cmp Connection). record after { connections = t }) (put_put (insert m.connections c.0 asking) c.0 answering rested ∙ put_put m.connections c.0 asking rested)

  answers_out : played true done (event.Take c) ≡ (reply.Out response, after)
  answers_out =
      runs true done (event.Take c) running
      ∙ (ap (take_at done c) (get_put opened.connections c.0 answering)
      ∙ (ap (λ (s : Condition). take_from done c answering s answering.queue) r.idle.speaks
      ∙ (ap (take_from done c answering (Live r.pid)) one_frame
      ∙ ap (λ (k : Machine). (reply.Out response, k)) ends)))

  quiet : played true after (event.Take c) ≡ (reply.Nothing, after)
  quiet =
      runs true after (event.Take c) running
      ∙ (ap (take_at after c) (get_put m.connections c.0 rested)
      ∙ (ap (λ (s : Condition). take_from after c rested s x.queue) r.idle.speaks
      ∙ ap (take_from after c rested (Live r.pid)) r.idle.queue))

  abbrev Alone : FinMap nat_cmp OpenCall → Type 0
  Alone calls = (k : ℕ) → Waits calls k → k ≡ n

  none_other : (k : ℕ) (task : OpenCall) → get x.calls k ≡ Some task → ⊥
  none_other k task there = let no : None ≡ Some task = sym (no_calls k) ∙ there in cc

  is_alone : Alone (insert x.calls n fresh_task)
  is_alone k w = elim (same_or_not k n) [
    | inl e ↦ e
    | inr ne ↦ absurd (none_other k w.0 (sym (get_put_other x.calls n fresh_task k ne) ∙ w.1))
  ]

  abbrev NoneWaits : FinMap nat_cmp OpenCall → Type 0
  NoneWaits calls = (k : ℕ) → Waits calls k → ⊥

  answered_waits : (task : OpenCall) → ◌≡◌ {A = Option OpenCall} (Some Answers) (Some task) → IsTrue (is_waiting task) → ⊥
  answered_waits task e w = let same : Answers ≡ task = cc in let no : IsTrue (is_waiting Answers) = subst (λ (t : OpenCall). IsTrue (is_waiting t)) (sym same) w in absurd cc

  none_waits : NoneWaits (insert asking.calls n Answers)
  none_waits k w = elim (same_or_not k n) [
    | inl e ↦ answered_waits w.0 (sym (get_put asking.calls n Answers) ∙ subst (λ j. get (insert asking.calls n Answers) j ≡ Some w.0) e w.1) w.2
    | inr ne ↦ none_other k w.0 (sym (get_put_other x.calls n fresh_task k ne) ∙ (sym (get_put_other asking.calls n Answers k ne) ∙ w.1))
  ]

  -- the call of a frame that can be performed at once is answered at once
  pub answers : AnswersAtOnce m c f response after
  answers = record {
    opened = opened;
    performed = done;
    opens = opens;
    works = works;
    answers = answers_out;
    quiet = quiet;
    number = (let later = (tells (state_after m.journal) m.cookies c x f (verdict.Task r.call) r.opens).later in omega arith);
    waits = subst (λ (t : FinMap nat_cmp OpenCall). Waits t n) (sym (ap calls_in (get_put m.connections c.0 asking))) (fresh_task, get_put x.calls n fresh_task, refl);
    alone = subst Alone (sym (ap calls_in (get_put m.connections c.0 asking))) is_alone;
    done = subst NoneWaits (sym (ap calls_in (get_put opened.connections c.0 answering))) none_waits;
  }

-- the same, by what was appended, what was put, and what was said
pub answers_by : (m : Machine) (c : ConnNo) (f said : Frame) (g : Gathered) (x : Connection) (place : ℕ) (new : List Entry) (last : Entry) (connections : FinMap nat_cmp Connection)
    → m.halted ≡ false → get m.connections c.0 ≡ Some x → IsReady m.journal m.cookies c x f g → Appends m.journal (next_of m.journal g) place new → Some last ≡ slice_get new (length new - 1)
    → said ≡ response_of f last place → connections ≡ insert m.connections c.0 (record x { last = f.number.0 })
    → AnswersAtOnce m c f said (record m { journal = new; connections = connections })
answers_by m c f said g x place new last connections running here ready adds at_end says puts =
    let same : last ≡ adds.entry = (let there = last_is m.journal new (next_of m.journal g) place (Some last) adds at_end in cc) in
    rw (says, same, adds.last, adds.items, puts) (answers m c f g adds.entry x running here ready adds.is)

-- a sound machine is sound after a call that was answered at once, or that wasn't
pub stays_sound : (m m' : Machine) (c : ConnNo) (f : Frame) (result : Option Frame) → IsSound m → IfSome result (λ response. AnswersAtOnce m c f response m') → IfNone result (m' ≡ m) → IsSound m'
stays_sound m m' c f None sound plays none = subst (λ (n : Machine). IsSound n) (sym none) sound
stays_sound m m' c f (Some response) sound at none =
    let opened = plays_sound m at.opened (event.Frame c f 0) (reply.Task f.number) sound (inl (true, sym (at.opens 0))) in
    let performed = plays_sound at.opened at.performed (event.Work c f.number) reply.Done opened (inl (true, sym at.works)) in
    plays_sound at.performed m' (event.Take c) (reply.Out response) performed (inl (true, sym at.answers))
