-- The server works the call of a request.
use Rattle.std.proofs.Common.{◌≡◌, ◌≢◌, inl, inr, ℕ, ◌+◌, Bool, true, false, cond, List, [], ◌∷◌, ◌++◌, length, Option, Some, None, slice_get}
use Rattle.std.proofs.Common.{refl, sym, ap, ◌∙◌, subst, append_assoc, append-nil}
use Rattle.std.specs.FinMap.{get, insert}
use Rattle.std.specs.List.{AllByRecursion}
use Rattle.sp_base.specs.Needs.{needs_of}
use Rattle.sp_base.specs.declared.call.Call.{Call}
use Rattle.sp_base.specs.declared.names.ConnNo.{ConnNo}
use Rattle.sp_base.specs.declared.names.Pid.{Pid}
use Rattle.sp_base.specs.declared.names.ReqNo.{ReqNo}
use Rattle.sp_base.specs.declared.names.SpError.TheVariants as error
use Rattle.sp_base.specs.declared.need.Need.{Need}
use Rattle.sp_base.specs.declared.need.Need.TheVariants.{Bytes, Text}
use Rattle.sp_frames.specs.declared.frame.Frame.{Frame}
use Rattle.kern_model.specs.Journal.{next_entry}
use Rattle.kern_model.specs.declared.journal.Entry.{Entry}
use Rattle.kern_model.specs.declared.journal.Who.TheVariants.{Request}
use Rattle.kern_model.specs.declared.operation.Ins.{Ins}
use Rattle.kern_model.specs.declared.operation.Ins.TheVariants.{Given, Fault}
use Rattle.kern_model.specs.declared.operation.Op.TheVariants.{Sys}
use Rattle.kern_model.specs.declared.outcome.OutPiece.{OutPiece}
use Rattle.kern_model.specs.declared.outcome.Outcome.{Outcome}
use Rattle.tables.proofs.Maps.{get_put, get_put_other, same_or_not}
use Rattle.hub_model.specs.Frames.{ask, puts_from, refusal, told}
use Rattle.hub_model.specs.State.{Connection, process_in, is_fresh}
use Rattle.hub_model.specs.State as server_state
use Rattle.hub_model.specs.Work.{gather, perform, performed, work_at, work_call, work_number}
use Rattle.hub_model.specs.declared.event.Reply.{Reply as ServerReply}
use Rattle.hub_model.specs.declared.event.Reply.TheVariants as server_reply
use Rattle.hub_model.specs.declared.state.OpenCall.{OpenCall}
use Rattle.hub_model.specs.declared.state.OpenCall.TheVariants.{Gathers, Fails, Answers}
use Rattle.hub_law.specs.Frames.{numbered}
use Rattle.hub_law.proofs.Frames.{numbered-append}
use Rattle.hub_law.proofs.Keys.{Grows, Stays, grows_push, grows_same, next_is, stays_push}
use Rattle.hub_law.proofs.Lanes.{GrowsPast}
use Rattle.hub_law.proofs.Lists.{all_append}
use Rattle.hub_law.proofs.Requests.{apart_conn, apart_number}
use Rattle.client_model.specs.State.{Client}
use Rattle.client_model.specs.declared.event.Reply.{Reply as ClientReply}
use Rattle.world_model.specs.Log.{IsIn}
use Rattle.world_model.specs.Log as log
use Rattle.world_model.specs.Machine.{connection_plays, played, server_plays}
use Rattle.world_model.specs.Once.{IsFine}
use Rattle.world_model.specs.Run.{History, Item}
use Rattle.world_model.specs.State.{Link}
use Rattle.world_model.specs.declared.event.Event.TheVariants as event
use Rattle.world_model.specs.declared.event.Reply.TheVariants as reply
use Rattle.world_model.proofs.Grown.{stage_grows}
use Rattle.world_model.proofs.Kept.{Goes, Kept}
use Rattle.world_model.proofs.Lane.{Speaks, is_welcome, slice_of}
use Rattle.world_model.proofs.Lane.Beside.{Same}
use Rattle.world_model.proofs.Lane.Lane.{Alive}
use Rattle.world_model.proofs.Plays.{IsAlive, IsBroken, lane_goes}
use Rattle.world_model.proofs.Slice.{Slice, number, unperformed}
use Rattle.world_model.proofs.Slices.{headed_here, headed_other, quiet_speaks, rests_goes, stands_same}
use Rattle.world_model.proofs.Stage.{Stands}
use Rattle.world_model.proofs.Worked.{asks_next, could_perform, fault_performs, given_performs, open_untold, queued, refuses}

-- ---- what is queued

-- frames are of a number, and none is the response of a handshake
abbrev AreOf : ℕ → List Frame → Type 0
AreOf n frames = AllByRecursion (λ f. (f.number.0 ≡ n) × (is_welcome f.body ≡ false)) frames

frames_here : (n : ℕ) (frames : List Frame) → AreOf n frames → numbered n frames ≡ frames
frames_here n [] h = refl
frames_here n (f ∷ frames) h = headed_here n f frames h.0.0 ∙ ap (λ (fs : List Frame). f ∷ fs) (frames_here n frames h.1)

frames_other : (n m : ℕ) (frames : List Frame) → n ≢ m → AreOf m frames → numbered n frames ≡ []
frames_other n m [] ne h = refl
frames_other n m (f ∷ frames) ne h = headed_other n f frames (λ e. ne (sym e ∙ h.0.0)) ∙ frames_other n m frames ne h.1

never_welcome : (fresh : Bool) (n : ℕ) (frames : List Frame) → AreOf n frames → AllByRecursion (λ f. is_welcome f.body ≡ true → fresh ≡ false) frames
never_welcome fresh n [] h = tt
never_welcome fresh n (f ∷ frames) h = (λ e. absurd (let k : false ≡ true = sym h.0.1 ∙ e in cc), never_welcome fresh n frames h.1)

puts_of : (r : ReqNo) (index : ℕ) (pieces : List OutPiece) → AreOf r.0 (puts_from r index pieces)
puts_of r index [] = tt
puts_of r index (piece ∷ pieces) = ((refl, refl), puts_of r (index + 1) pieces)

told_of : (r : ReqNo) (outcome : Outcome) (place : ℕ) → AreOf r.0 (told r outcome place)
told_of r outcome place = all_append (λ f. (f.number.0 ≡ r.0) × (is_welcome f.body ≡ false)) (puts_from r 0 outcome.outs) _ (puts_of r 0 outcome.outs)
    ((refl, refl), tt)

ask_never : (r : ReqNo) (index : ℕ) (need : Need) → is_welcome (ask r index need).body ≡ false
ask_never r index (Bytes addr len) = refl
ask_never r index (Text addr limit) = refl

-- ---- a connection whose call is worked

-- a connection with a call of a number, and more frames queued
abbrev worked : Connection → ReqNo → OpenCall → List Frame → Connection
worked x r task says = record { condition = x.condition; last = x.last; calls = insert x.calls r.0 task; queue = x.queue ++ says }

module _ (c : ConnNo) (k : Client) (l : Link) (x : Connection) (items : List Item) (old new : List Entry) (r : ReqNo) (task : OpenCall) (says : List Frame)
    (are : AreOf r.0 says) where
  down_is : (n : ℕ) → numbered n (l.down ++ (x.queue ++ says)) ≡ numbered n (l.down ++ x.queue) ++ numbered n says
  down_is n = ap (λ (fs : List Frame). numbered n fs) (sym (append_assoc l.down x.queue says)) ∙ numbered-append n (l.down ++ x.queue) says

  speaks_worked : Speaks c k l x items old → ((q : ReqNo) → q.0 ≢ r.0 → Grows c q old new)
      → Stands new c r.0 (record (slice_of c r.0 k l x items) { task = unperformed (Some task); down = numbered r.0 (l.down ++ x.queue) ++ says })
      → Speaks c k l (worked x r task says) items new
  speaks_worked s grows stands = record {
    each = λ n. elim (same_or_not n r.0) [
      | inl e ↦ subst (λ (m : ℕ). Stands new c m (slice_of c m k l (worked x r task says) items)) (sym e)
          (stands_same new c r.0 (record (slice_of c r.0 k l x items) { task = unperformed (Some task); down = numbered r.0 (l.down ++ x.queue) ++ says })
          (slice_of c r.0 k l (worked x r task says) items)
          (record {
            asked = refl;
            told = refl;
            request = refl;
            up = refl;
            task = ap unperformed (get_put x.calls r.0 task);
            down = down_is r.0 ∙ ap (λ (fs : List Frame). numbered r.0 (l.down ++ x.queue) ++ fs) (frames_here r.0 says are);
          }) stands)
      | inr ne ↦ stands_same new c n (slice_of c n k l x items) (slice_of c n k l (worked x r task says) items)
          (record {
            asked = refl;
            told = refl;
            request = refl;
            up = refl;
            task = ap unperformed (get_put_other x.calls r.0 task n ne);
            down = down_is n ∙ ap (λ (fs : List Frame). numbered n (l.down ++ x.queue) ++ fs) (frames_other n r.0 says ne are)
                ∙ append-nil (numbered n (l.down ++ x.queue));
          })
          (stage_grows c n old new (grows (number n) ne) (slice_of c n k l x items) (slice_of c n k l x items) refl (s.each n))
    ];
    above = s.above;
    rises = s.rises;
    goes_on = s.goes_on;
    takes = s.takes;
    begins = s.begins;
    ready = s.ready;
    first = s.first;
    welcome = subst (λ (fs : List Frame). AllByRecursion (λ f. is_welcome f.body ≡ true → is_fresh x.condition ≡ false) fs) (append_assoc l.down x.queue says)
        (all_append (λ f. is_welcome f.body ≡ true → is_fresh x.condition ≡ false) (l.down ++ x.queue) says s.welcome
        (never_welcome (is_fresh x.condition) r.0 says are));
  }

-- ---- the event

-- nothing changes
work_rests : (h : History) (c : ConnNo) (r : ReqNo) (answer : ServerReply) → Kept h → IsFine (reply.Server answer)
    → Goes h c (event.Work c r) (server_plays h.world (answer, h.world.rump))
work_rests h c r answer kept fine = rests_goes h c (event.Work c r) (reply.Server answer) kept (record {
  quiet = λ d. record { asks = λ n. refl; tells = λ n. refl };
  fine = fine;
  lost = λ d e. absurd (cc);
})

module _ (h : History) (c : ConnNo) (r : ReqNo) (kept : Kept h) (k : Client) (l : Link) (x : Connection) (alive : IsAlive h c k l x) where
  abbrev here : Slice
  here = slice_of c r.0 k l x h.log

  -- the call of the number changes, and frames of its number are queued
  call_changes : (answer : ServerReply) (journal : List Entry) (before task : OpenCall) (says : List Frame) → IsFine (reply.Server answer) → AreOf r.0 says
      → here.task ≡ Some before
      → ((d : ConnNo) → d.0 ≢ c.0 → GrowsPast d h.world.rump.journal journal) → ((q : ReqNo) → q.0 ≢ r.0 → Grows c q h.world.rump.journal journal)
      → Stays h.world.rump.journal journal → Stands journal c r.0 (record here { task = unperformed (Some task); down = here.down ++ says })
      → Goes h c (event.Work c r) (server_plays h.world (
        answer,
        record h.world.rump { journal = journal; connections = insert h.world.rump.connections c.0 (worked x r task says) },
      ))
  call_changes answer journal before task says fine are there past others stays stands = record {
    opened = λ n o. o;
    halted = refl;
    clients = λ d ne. refl;
    links = λ d ne. refl;
    connections = λ d ne. Same (get_put_other h.world.rump.connections c.0 (worked x r task says) d.0 ne);
    quiet = λ d ne. record { asks = λ n. refl; tells = λ n. refl };
    stays = stays;
    grows = past;
    closed = λ n answer is. elim (same_or_not n r.0) [
      | inl e ↦ absurd (subst (λ (ts : List ClientReply). IsIn answer ts)
          (ap (λ (m : ℕ). log.told c m h.log) e
          ∙ open_untold h.world.rump.journal c r.0 here before there (alive.speaks.each r.0).0 (alive.speaks.each r.0).1) is)
      | inr ne ↦ others (number n) ne
    ];
    news = λ n ask is. absurd is;
    lane = Alive k l (worked x r task says) alive.client alive.link (get_put h.world.rump.connections c.0 (worked x r task says)) alive.opened alive.runs
        (quiet_speaks c k l (worked x r task says) (record { event = event.Work c r; reply = reply.Server answer }) h.log journal
        (record { asks = λ n. refl; tells = λ n. refl })
        (speaks_worked c k l x h.log h.world.rump.journal journal r task says are alive.speaks others stands));
    fine = fine;
    lost = λ d e. absurd (cc);
    faults = λ d broke. broke;
  }

  -- a call is performed, or refused for want of memory
  performed_goes : (memory : Bool) (before : OpenCall) (pid : Pid) (call : Call) (ins : Ins) (next : Option Entry) → here.task ≡ Some before
      → could_perform before ≡ true
      → next_entry h.world.rump.journal pid (Request c r) (Sys call) ins ≡ next
      → ((e : Entry) → next_entry h.world.rump.journal pid (Request c r) (Sys call) ins ≡ Some e
      → Stands (h.world.rump.journal ++ e ∷ []) c r.0 (queued here (told r e.outcome (length h.world.rump.journal))))
      → Goes h c (event.Work c r) (server_plays h.world (performed memory h.world.rump c x r next))
  performed_goes true before pid call ins None there could made does = work_rests h c r server_reply.NotReady kept tt
  performed_goes false before pid call ins None there could made does = work_rests h c r server_reply.NotReady kept tt
  performed_goes true before pid call ins (Some e) there could made does =
      let journal = h.world.rump.journal in
      let by = next_is journal pid (Request c r) (Sys call) ins e made in
      call_changes server_reply.Done (journal ++ e ∷ []) before Answers (told r e.outcome (length journal)) tt (told_of r e.outcome (length journal)) there
      (λ d ne q. grows_push d q journal e (apart_conn e c d r q by.who_is ne)) (λ q ne. grows_push c q journal e (apart_number e c r q by.who_is ne))
      (stays_push journal e) (does e made)
  performed_goes false before pid call ins (Some e) there could made does =
      let journal = h.world.rump.journal in
      call_changes (server_reply.Refused error.Memory) journal before Answers (refusal r 1 error.Memory ∷ []) (λ e. cc) ((refl, refl), tt) there
      (λ d ne q. grows_same d q journal) (λ q ne. grows_same c q journal) (λ p f s. s)
      (refuses journal c r.0 here before there could (alive.speaks.each r.0).0 (alive.speaks.each r.0).1)

  perform_goes : (memory : Bool) (before : OpenCall) (call : Call) (ins : Ins) (process : Option Pid) → here.task ≡ Some before → could_perform before ≡ true
      → ((pid : Pid) (e : Entry) → next_entry h.world.rump.journal pid (Request c r) (Sys call) ins ≡ Some e
      → Stands (h.world.rump.journal ++ e ∷ []) c r.0 (queued here (told r e.outcome (length h.world.rump.journal))))
      → Goes h c (event.Work c r) (server_plays h.world (perform memory h.world.rump c x r call ins process))
  perform_goes memory before call ins None there could does = work_rests h c r server_reply.Nothing kept tt
  perform_goes memory before call ins (Some pid) there could does =
      performed_goes memory before pid call ins (next_entry h.world.rump.journal pid (Request c r) (Sys call) ins) there could refl (does pid)

  gather_goes : (memory : Bool) (call : Call) (got : List (List ℕ)) (need : Option Need) → here.task ≡ Some (Gathers call got false)
      → slice_get (needs_of call) (length got) ≡ need
      → Goes h c (event.Work c r) (server_plays h.world (gather memory h.world.rump c x r call got need))
  gather_goes memory call got (Some need) there next =
      let journal = h.world.rump.journal in
      call_changes server_reply.Asked journal (Gathers call got false) (Gathers call got true) (ask r (length got) need ∷ []) tt
      ((refl, ask_never r (length got) need), tt) there
      (λ d ne q. grows_same d q journal) (λ q ne. grows_same c q journal) (λ p e s. s)
      (asks_next journal c r.0 here call got need there next (alive.speaks.each r.0).0 (alive.speaks.each r.0).1)
  gather_goes memory call got None there next =
      perform_goes memory (Gathers call got false) call (Given got) (process_in x.condition) there refl
      (λ pid e made. given_performs h.world.rump.journal c r.0 here call got pid e there next made (alive.speaks.each r.0).0 (alive.speaks.each r.0).1)

  task_goes : (memory : Bool) (task : OpenCall) → get x.calls r.0 ≡ Some task
      → Goes h c (event.Work c r) (server_plays h.world (work_call memory h.world.rump c x r task))
  task_goes memory (Gathers call got true) at = work_rests h c r server_reply.AwaitsAnswer kept tt
  task_goes memory (Gathers call got false) at = gather_goes memory call got (slice_get (needs_of call) (length got)) (ap unperformed at) refl
  task_goes memory (Fails call why) at =
      perform_goes memory (Fails call why) call (Fault why) (process_in x.condition) (ap unperformed at) refl
      (λ pid e made. fault_performs h.world.rump.journal c r.0 here call why pid e (ap unperformed at) made (alive.speaks.each r.0).0
      (alive.speaks.each r.0).1)
  task_goes memory Answers at = work_rests h c r server_reply.Nothing kept tt

  number_goes : (memory : Bool) (task : Option OpenCall) → get x.calls r.0 ≡ task
      → Goes h c (event.Work c r) (server_plays h.world (work_number memory h.world.rump c x r task))
  number_goes memory None at = work_rests h c r server_reply.Nothing kept tt
  number_goes memory (Some task) at = task_goes memory task at

  work_alive : (memory : Bool) → Goes h c (event.Work c r) (connection_plays memory h.world c k l (event.Work c r))
  work_alive memory =
      let w = h.world in
      subst (λ (b : Bool). Goes h c (event.Work c r)
      (server_plays w (cond {A = server_state.Played} b (server_reply.Closed, w.rump) (work_at memory w.rump c r (get w.rump.connections c.0)))))
      (sym alive.runs)
      (subst (λ (o : Option Connection). Goes h c (event.Work c r) (server_plays w (work_at memory w.rump c r o))) (sym alive.there)
      (number_goes memory (get x.calls r.0) refl))

work_broken : (memory : Bool) (h : History) (c : ConnNo) (r : ReqNo) → Kept h → (k : Client) (l : Link) → IsBroken h c k l
    → Goes h c (event.Work c r) (connection_plays memory h.world c k l (event.Work c r))
work_broken memory h c r kept k l broken =
    subst (λ (o : Option Connection). Goes h c (event.Work c r)
    (server_plays h.world (cond {A = server_state.Played} h.world.rump.halted (server_reply.Closed, h.world.rump) (work_at memory h.world.rump c r o))))
    (sym broken.over)
    (by_halted h.world.rump.halted)
  where
    by_halted : (b : Bool) → Goes h c (event.Work c r)
        (server_plays h.world (cond {A = server_state.Played} b (server_reply.Closed, h.world.rump) (server_reply.Nothing, h.world.rump)))
    by_halted true = work_rests h c r server_reply.Closed kept tt
    by_halted false = work_rests h c r server_reply.Nothing kept tt

-- the server works the call of a request
pub work_goes : (memory : Bool) (h : History) (c : ConnNo) (r : ReqNo) → Kept h → Goes h c (event.Work c r) (played memory h.world (event.Work c r))
work_goes memory h c r kept = lane_goes memory h c (event.Work c r) kept (record {
  alive = λ k l x alive. work_alive h c r kept k l x alive memory;
  broken = λ k l broken. work_broken memory h c r kept k l broken;
})
