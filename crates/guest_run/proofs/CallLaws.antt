-- What a call comes to that is made over a link.
use Rattle.std.proofs.Common.{◌≡◌, ℕ, Bool, true, false, List, [], ◌∷◌, ◌++◌, length, Option, Some, None, refl, sym, ap, subst, ◌∙◌}
use Rattle.std.proofs.lemmas.List.{append_assoc}
use Rattle.std.specs.Prelude.{IsTrue, if◌then◌else◌}
use Rattle.std.specs.FinMap.{get}
use Rattle.sp_base.specs.Call.{IsProper, call_number}
use Rattle.sp_base.specs.Needs.{needs_of}
use Rattle.sp_base.specs.declared.call.Call.{Call}
use Rattle.sp_base.specs.declared.call.Call.TheVariants as call
use Rattle.sp_base.specs.declared.names.Answer.{Answer}
use Rattle.sp_base.specs.declared.names.ConnNo.{ConnNo}
use Rattle.sp_base.specs.declared.names.Pid.{Pid}
use Rattle.sp_base.specs.declared.names.ReqNo.{ReqNo}
use Rattle.sp_base.specs.declared.need.Need.{Need}
use Rattle.sp_copy.specs.declared.part.Part.{Part}
use Rattle.sp_frames.specs.declared.frame.Frame.{Frame}
use Rattle.kern_model.specs.Act.{act, has_step}
use Rattle.kern_model.specs.Journal.{entry_of_step, state_after}
use Rattle.kern_model.specs.State.{State}
use Rattle.kern_model.specs.Step.{Step}
use Rattle.kern_model.specs.declared.journal.Entry.{Entry}
use Rattle.kern_model.specs.declared.journal.Who.{Who}
use Rattle.kern_model.specs.declared.journal.Who.TheVariants.{Request}
use Rattle.kern_model.specs.declared.operation.Ins.{Ins}
use Rattle.kern_model.specs.declared.operation.Ins.TheVariants.{Given, Fault}
use Rattle.kern_model.specs.declared.operation.Op.{Op}
use Rattle.kern_model.specs.declared.operation.Op.TheVariants.{Sys}
use Rattle.kern_model.specs.declared.outcome.OutPiece.{OutPiece}
use Rattle.kern_model.proofs.Lemmas.{call_acts}
use Rattle.hub_model.specs.State as server
use Rattle.hub_model.specs.State.{Connection, Machine}
use Rattle.hub_model.specs.Verdict.{is_later_call}
use Rattle.hub_model.specs.Work.{take_at, take_from}
use Rattle.hub_model.specs.declared.event.Reply.{Reply as ServerReply}
use Rattle.hub_model.specs.declared.event.Reply.TheVariants as server_reply
use Rattle.hub_model.specs.declared.state.Condition.{Condition}
use Rattle.hub_model.specs.declared.state.Condition.TheVariants.{Draining}
use Rattle.client_model.specs.Machine.{played}
use Rattle.client_model.specs.State as client
use Rattle.client_model.specs.State.{Client}
use Rattle.client_model.specs.declared.event.Event.TheVariants as event
use Rattle.client_model.specs.declared.event.Reply.{Reply}
use Rattle.client_model.specs.declared.event.Reply.TheVariants as reply
use Rattle.link_model.specs.Asked.{Asked, Grows, IsAnswered, IsWhole}
use Rattle.link_model.specs.Asked.{after, after_collecting, collecting, entry_of, journal_before, number_of, start_of}
use Rattle.link_model.specs.Direct.{reads}
use Rattle.link_model.specs.Link.{Link, Made, carried, made, server_hands}
use Rattle.link_model.specs.Route.{returns, rounds, route}
use Rattle.link_model.specs.declared.moves.Move.{Move}
use Rattle.link_model.specs.declared.moves.Move.TheVariants.{ToServer, ToClient, Work}
use Rattle.link_model.proofs.Ends.{carried_on, route_ends}
use Rattle.link_model.proofs.Law.{started, journal_grows, connection_stays, cookies_stay, whole_again, closed_after}
use Rattle.guest_run.specs.Called.{IsAnsweredOver, IsAskedOver}
use Rattle.guest_run.specs.Joined.{IsPlayed, link_of}
use Rattle.guest_run.specs.Steps.{GoesOn, IsRefused}
use Rattle.guest_run.specs.declared.joined.Joined.{Joined}

-- ---- a call has an entry

-- a call that the server takes by now has a step
steps_now : (c : Call) → is_later_call (call_number c) ≡ false → IsTrue (has_step c)
steps_now call.Pipe now = absurd cc
steps_now (call.Socket family kind) now = absurd cc
steps_now (call.Socketpair family kind) now = absurd cc
steps_now (call.Bind fd address len) now = absurd cc
steps_now (call.Listen fd backlog) now = absurd cc
steps_now (call.Accept fd) now = absurd cc
steps_now (call.Connect fd address len) now = absurd cc
steps_now (call.Sendto fd input len address address_len) now = absurd cc
steps_now (call.Recvfrom fd out len address address_max) now = absurd cc
steps_now (call.Shutdown fd how) now = absurd cc
steps_now (call.Getsockname fd out max) now = absurd cc
steps_now (call.Getpeername fd out max) now = absurd cc
steps_now (call.Poll entries count timeout) now = absurd cc
steps_now c now = refl

acts : (s : State) (pid : ℕ) (c : Call) (ins : Ins) → IsTrue (has_step c) → act s pid (Sys c) ins ≡ None → ⊥
acts s pid c (Given pieces) has none = call_acts s pid c pieces has none
acts s pid c (Fault why) has none = cc

entry_by : (pid : Pid) (who : Who) (op : Op) (ins : Ins) (step : Step) → (step ≡ None → ⊥)
    → (e : Entry) × (entry_of_step pid who op ins step ≡ Some e)
entry_by pid who op ins None has = absurd (has refl)
entry_by pid who op ins (Some step) has = (record { pid = pid; who = who; op = op; ins = ins; outcome = step.0 }, refl)

-- the kernel gives an entry to every call that is asked
pub has_entry : (a : Asked) → (e : Entry) × (entry_of a ≡ Some e)
has_entry a =
    let ins = reads a.call a.mem in
    let s = state_after (journal_before a) in
    entry_by a.whole.pid (Request a.link.conn (number_of a)) (Sys a.call) ins (act s a.whole.pid.0 (Sys a.call) ins)
    (acts s a.whole.pid.0 a.call ins (steps_now a.call a.now))

-- ---- what is told leaves the journal

take_from_keeps : (m : Machine) (c : ConnNo) (x : Connection) (condition : Condition) (queue : List Frame)
    → (take_from m c x condition queue).1.journal ≡ m.journal
take_from_keeps m c x Draining [] = refl
take_from_keeps m c x condition [] = refl
take_from_keeps m c x condition (f ∷ queue) = refl

take_at_keeps : (m : Machine) (c : ConnNo) (x : Option Connection) → (take_at m c x).1.journal ≡ m.journal
take_at_keeps m c None = refl
take_at_keeps m c (Some x) = take_from_keeps m c x x.condition x.queue

halted_keeps : (halted : Bool) (m : Machine) (p : server.Played) → p.1.journal ≡ m.journal
    → (if halted then (server_reply.Closed, m) else p).1.journal ≡ m.journal
halted_keeps true m p keeps = refl
halted_keeps false m p keeps = keeps

hands_keep : (link : Link) (p : server.Played) → (server_hands link p).link.server ≡ p.1
hands_keep link (server_reply.Out f, m) = refl
hands_keep link (answer, m) = refl

-- a frame to the client leaves the journal
told_keeps : (link : Link) → (made link ToClient).link.server.journal ≡ link.server.journal
told_keeps link =
    ap (λ (m : Machine). m.journal) (hands_keep link _)
    ∙ halted_keeps link.server.halted link.server _ (take_at_keeps link.server link.conn (get link.server.connections link.conn.0))

-- and so do all that tell an outcome
returns_keep : (link : Link) (outs : List OutPiece) → (carried link (returns outs)).server.journal ≡ link.server.journal
returns_keep link [] = told_keeps link
returns_keep link (piece ∷ outs) = returns_keep (made link ToClient).link outs ∙ told_keeps link

-- ---- the start

-- a call over a whole link, as it is asked by some caller
abbrev pub asking : (joined : Joined) (call : Call) (mem : List Part) → IsWhole (link_of joined) → IsProper call
    → is_later_call (call_number call) ≡ false → Asked
asking joined call mem whole proper now = record {
  link = link_of joined;
  whole = whole;
  caller = record { 0 = 0 };
  call = call;
  proper = proper;
  now = now;
  mem = mem;
}

pub asking_over : (joined : Joined) (call : Call) (mem : List Part) (whole : IsWhole (link_of joined)) (proper : IsProper call)
    (now : is_later_call (call_number call) ≡ false) → IsAskedOver joined call mem (asking joined call mem whole proper now)
asking_over joined call mem whole proper now = record { over = refl; makes = refl; lends = refl }

-- how many needs the call has
pub needs_asked : (a : Asked) (joined : Joined) (call : Call) (mem : List Part) (needs : List Need) → IsAskedOver joined call mem a
    → needs ≡ needs_of call → length (needs_of a.call) ≡ length needs
needs_asked a joined call mem needs asked is = ap (λ (c : Call). length (needs_of c)) asked.makes ∙ sym (ap (λ (ns : List Need). length ns) is)

-- the client has started the call, under its number
pub begun : (a : Asked) (call : Call) (mem : List Part) (old new : Joined) (answer : Reply) → IsAskedOver old call mem a
    → IsPlayed old (event.Start a.caller call mem) answer new
    → (answer ≡ reply.Started (number_of a)) × (link_of new ≡ after a [])
begun a call mem old new answer asked start =
    let p : (answer, new.client) ≡ start_of a =
    start.client
    ∙ ap (λ (c : Call). played old.client (event.Start a.caller c mem)) (sym asked.makes)
    ∙ ap (λ (m : List Part). played old.client (event.Start a.caller a.call m)) (sym asked.lends)
    ∙ ap (λ (l : Link). played l.client (event.Start a.caller a.call a.mem)) (sym asked.over) in
    let q = p ∙ started a in (
      ap (λ (q : client.Played). q.0) q,
      ap (λ (q : client.Played). record (link_of new) { client = q.1 }) p
          ∙ ap (λ (m : Machine). record (link_of new) { client = (start_of a).1; server = m }) start.server
          ∙ ap (λ (c : ConnNo). record (link_of old) { client = (start_of a).1; conn = c }) start.conn
          ∙ ap (λ (l : Link). record l { client = (start_of a).1 }) (sym asked.over),
    )

-- moves behind others
further : (a : Asked) (moves more : List Move) (now next : Link) → now ≡ after a moves → next ≡ carried now more → next ≡ after a (moves ++ more)
further a moves more now next is goes = goes ∙ ap (λ (l : Link). carried l more) is ∙ sym (carried_on (after a []) moves more)

-- after these moves, the request of this number is the call's
pub record IsOnWay (a : Asked) (moves : List Move) (r : ReqNo) (link : Link) : Type 0 where
  pub place : link ≡ after a moves
  pub number : r ≡ number_of a

-- the call's frame came
pub sent : (a : Asked) (call : Call) (mem : List Part) (old new : Joined) (next : Link) (answer : Reply) (r : ReqNo) (up : Option ServerReply)
    → IsAskedOver old call mem a → IsPlayed old (event.Start a.caller call mem) answer new → answer ≡ reply.Started r
    → made (link_of new) ToServer ≡ record { link = next; server = up; client = None } → IsOnWay a (ToServer ∷ []) r next
sent a call mem old new next answer r up asked start number comes =
    let begins = begun a call mem old new answer asked start in
    let same = begins.0 in
    record {
      place = sym (ap (λ (m : Made). m.link) comes) ∙ ap (λ (l : Link). (made l ToServer).link) begins.1;
      number = cc;
    }

-- a call goes on
goes : (a : Asked) (moves more : List Move) (r : ReqNo) (now next : Link) → IsOnWay a moves r now → GoesOn true now r more next
    → IsOnWay a (moves ++ more) r next
goes a moves more r now next way on = record { place = further a moves more now next way.place on; number = way.number }

-- the call is gathered
pub gathers : (a : Asked) (r : ReqNo) (came gathered : Link) → IsOnWay a (ToServer ∷ []) r came
    → GoesOn true came r (rounds r (needs_of a.call)) gathered
    → IsOnWay a (ToServer ∷ rounds r (needs_of a.call)) r gathered
gathers a r came gathered way on = goes a (ToServer ∷ []) (rounds r (needs_of a.call)) r came gathered way on

-- a refused call leaves the journal as it was before it
pub refused : (a : Asked) (moves : List Move) (r : ReqNo) (now : Link) (journal : List Entry) → IsOnWay a moves r now → IsRefused now r journal
    → journal ≡ journal_before a
refused a moves r now journal way stops =
    let all = moves ++ stops.moves in
    let n = number_of a in
    let there : carried now stops.moves ≡ after a all = further a moves stops.moves now _ way.place refl in
    let ready : (made (after a all) (Work n)).server ≡ Some server_reply.Done =
    sym (ap (λ (l : Link). (made l (Work n)).server) there)
    ∙ subst (λ (q : ReqNo). (made (carried now stops.moves) (Work q)).server ≡ Some server_reply.Done) way.number stops.ready in
    let next = (made (after a all) (Work n)).link.server.journal in
    let grows = subst (λ (o : Option ServerReply). Grows a (after a all).server.journal o next) ready (journal_grows a all (Work n)) in
    stops.same ∙ ap (λ (l : Link). l.server.journal) there ∙ grows.0

-- ---- the call is performed

-- the moves up to the work that performs the call
abbrev performing : Asked → ReqNo → List Move
performing a r = (ToServer ∷ rounds r (needs_of a.call)) ++ Work r ∷ []

-- the call was performed, and what tells its entry brings it to its answer
record IsDone (a : Asked) (r : ReqNo) (link : Link) : Type 0 where
  pub entry : Entry
  pub next : entry_of a ≡ Some entry
  pub grown : link.server.journal ≡ journal_before a ++ entry ∷ []
  pub leads : carried link (returns entry.outcome.outs) ≡ after a (route a entry)
  pub number : r ≡ number_of a

done : (a : Asked) (r : ReqNo) (link : Link) → IsOnWay a (performing a r) r link → IsDone a r link
done a r link way =
    let has = has_entry a in
    let e = has.0 in
    let tells = returns e.outcome.outs in
    let leads : carried link tells ≡ after a (route a e) =
    further a (performing a r) tells link _ way.place refl
    ∙ ap (λ (q : ReqNo). after a (performing a q ++ tells)) way.number
    ∙ ap (λ (moves : List Move). after a (ToServer ∷ moves))
    (append_assoc (rounds (number_of a) (needs_of a.call)) (Work (number_of a) ∷ []) tells) in
    let answered = (route_ends a e has.1).performed in
    let same : answered.entry ≡ e = some_is _ _ (sym answered.next ∙ has.1) in
    record {
      entry = e;
      next = has.1;
      grown = sym (returns_keep link e.outcome.outs) ∙ ap (λ (l : Link). l.server.journal) leads ∙ answered.grown
          ∙ ap (λ (d : Entry). journal_before a ++ d ∷ []) same;
      leads = leads;
      number = way.number;
    }
  where
    some_is : (d e : Entry) → Some d ≡ Some e → d ≡ e
    some_is d e h = cc

-- ---- the call is answered

-- the client has the answer to the call, and nobody collected it yet
pub record HasAnswer (a : Asked) (r : ReqNo) (link : Link) : Type 0 where
  pub entry : Entry
  pub place : link ≡ after a (route a entry)
  pub answered : IsAnswered a (after a (route a entry))
  pub number : r ≡ number_of a

-- what tells the entry brings the answer
arrives : (a : Asked) (r : ReqNo) (now next : Link) (done : IsDone a r now) → next ≡ carried now (returns done.entry.outcome.outs)
    → HasAnswer a r next
arrives a r now next done tells = record {
  entry = done.entry;
  place = tells ∙ done.leads;
  answered = route_ends a done.entry done.next;
  number = done.number;
}

-- a call that was gathered, performed and told has its answer
pub told : (a : Asked) (r : ReqNo) (gathered worked last : Link) (pieces : ℕ) → IsOnWay a (ToServer ∷ rounds r (needs_of a.call)) r gathered
    → GoesOn true gathered r (Work r ∷ []) worked
    → ((journal : List Entry) (entry : Entry) → worked.server.journal ≡ journal ++ entry ∷ [] → pieces ≡ length entry.outcome.outs)
    → ((outs : List OutPiece) → length outs ≡ pieces → last ≡ carried worked (returns outs)) → HasAnswer a r last
told a r gathered worked last pieces way works newest tells =
    let d = done a r worked (goes a (ToServer ∷ rounds r (needs_of a.call)) (Work r ∷ []) r gathered worked way works) in
    arrives a r worked last d (tells d.entry.outcome.outs (sym (newest (journal_before a) d.entry d.grown)))

-- the call is collected
collects : (a : Asked) (r : ReqNo) (old new : Joined) (answer : Reply) (has : HasAnswer a r (link_of old)) → IsPlayed old (event.Collect r) answer new
    → (answer, new.client) ≡ collecting a (after a (route a has.entry))
collects a r old new answer has played_so =
    played_so.client
    ∙ ap (λ (q : ReqNo). played old.client (event.Collect q)) has.number
    ∙ ap (λ (l : Link). played l.client (event.Collect (number_of a))) has.place

-- who collects the call gets its answer
pub gets : (a : Asked) (r : ReqNo) (old new : Joined) (answer : Reply) (has : HasAnswer a r (link_of old)) → IsPlayed old (event.Collect r) answer new
    → answer ≡ reply.Got has.answered.answer has.answered.mem
gets a r old new answer has collect = ap (λ (p : client.Played). p.0) (collects a r old new answer has collect) ∙ has.answered.got

-- and the link is whole again, and the request closed
pub ends : (a : Asked) (r : ReqNo) (old new : Joined) (reply' : Reply) (answer : Answer) (mem : List Part) → HasAnswer a r (link_of old)
    → IsPlayed old (event.Collect r) reply' new
    → reply' ≡ reply.Got answer mem → IsAnsweredOver a answer mem (link_of new)
ends a r old new reply' answer mem has collect got =
    let there = route a has.entry in
    let is : link_of new ≡ after_collecting a (after a there) =
    ap (λ (p : client.Played). record (link_of new) { client = p.1 }) (collects a r old new reply' has collect)
    ∙ ap (λ (m : Machine). record (link_of new) { client = (collecting a (after a there)).1; server = m }) collect.server
    ∙ ap (λ (c : ConnNo). record (link_of old) { client = (collecting a (after a there)).1; conn = c }) collect.conn
    ∙ ap (λ (l : Link). record l { client = (collecting a (after a there)).1 }) has.place in
    let answered = has.answered in
    let gives : reply.Got answered.answer answered.mem ≡ reply.Got answer mem = sym (gets a r old new reply' has collect) ∙ got in
    subst (λ (l : Link). IsAnsweredOver a answer mem l) (sym is) (record {
      direct = answered.direct ∙ seen_is _ _ _ _ gives;
      performed = answered.performed;
      cookies = cookies_stay a there;
      stays = record { conn = (connection_stays a there).conn; opened = (connection_stays a there).opened };
      whole = whole_again a there answered;
      closed = closed_after a there answered;
    })
  where
    seen_is : (x y : Answer) (m n : List Part) → reply.Got x m ≡ reply.Got y n → ◌≡◌ {A = Option (Answer × List Part)} (Some (x, m)) (Some (y, n))
    seen_is x y m n h = cc
