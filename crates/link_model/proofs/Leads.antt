-- From which stage of a call a move leads to which.
use Rattle.std.proofs.Common.{◌≡◌, ℕ, ◌+◌, true, false, List, [], ◌∷◌, ◌++◌, length, Option, Some, None, Ok, Err, refl, sym, ap, subst, ◌∙◌}
use Rattle.std.specs.Prelude.{slice_get, IsTrue}
use Rattle.std.specs.Ordering.{nat_cmp}
use Rattle.std.specs.FinMap.{get, get-empty}
use Rattle.sp_base.specs.Needs.{needs_of, outs_of}
use Rattle.sp_base.specs.declared.errno.Errno.{Errno}
use Rattle.sp_base.specs.declared.names.ReqNo.{ReqNo}
use Rattle.sp_base.specs.declared.need.Need.{Need}
use Rattle.sp_base.specs.declared.need.Need.TheVariants.{Bytes, Text}
use Rattle.sp_copy.specs.Delivering.{put_piece}
use Rattle.sp_copy.specs.Reading.{read_of}
use Rattle.sp_copy.specs.declared.delivery.Delivery.{Delivery}
use Rattle.sp_copy.specs.declared.fault.CopyFault.{CopyFault}
use Rattle.sp_frames.specs.declared.frame.Frame.{Frame}
use Rattle.kern_model.specs.Journal.{next_entry}
use Rattle.kern_model.specs.declared.journal.Entry.{Entry}
use Rattle.kern_model.specs.declared.journal.Who.TheVariants.{Request}
use Rattle.kern_model.specs.declared.operation.Ins.{Ins}
use Rattle.kern_model.specs.declared.operation.Ins.TheVariants.{Given, Fault}
use Rattle.kern_model.specs.declared.operation.Op.TheVariants.{Sys}
use Rattle.kern_model.specs.declared.outcome.OutPiece.{OutPiece}
use Rattle.hub_model.specs.Frames.{ask, answer_at, is_end, puts_from}
use Rattle.hub_model.specs.State as server
use Rattle.hub_model.specs.State.{Machine}
use Rattle.hub_model.specs.Work.{work_number, work_call, gather as gathers, performed, take_from}
use Rattle.hub_model.specs.declared.event.Reply.{Reply}
use Rattle.hub_model.specs.declared.event.Reply.TheVariants as reply
use Rattle.hub_model.specs.declared.state.OpenCall.{OpenCall}
use Rattle.hub_model.specs.declared.state.OpenCall.TheVariants.{Gathers, Fails, Answers}
use Rattle.client_model.specs.Machine.{played as client_played}
use Rattle.client_model.specs.State as client
use Rattle.client_model.specs.declared.event.Event.TheVariants as client_event
use Rattle.link_model.specs.Asked.{Asked, IsFine, IsPerformed, Grows, is_taken as is_taken_by_server, number_of, journal_before, entry_of}
use Rattle.link_model.specs.Direct.{reads}
use Rattle.link_model.specs.Link.{Link, Made, made, server_plays, client_plays, server_hands}
use Rattle.link_model.specs.declared.moves.Move.{Move}
use Rattle.link_model.specs.declared.moves.Move.TheVariants.{ToServer, ToClient, Work}
use Rattle.link_model.proofs.Copied.{copy_comes, fault_comes}
use Rattle.link_model.proofs.Caller.{ask_comes, put_comes, answer_comes}
use Rattle.link_model.proofs.Copies.{errno_of}
use Rattle.link_model.proofs.Ranges.{IsInside}
use Rattle.link_model.proofs.Server.{call_comes, call_asks, call_acts, is_taken, is_worked, call_there, frame_goes, end_goes}
use Rattle.link_model.proofs.Stage.{Stage, Sent, Held, Asking, Copying, Failing, Telling, Told, AreBelow, look, shape, untouched, connection_at, calls_at, server_at, answer_frame}

-- a move leads from a stage to another, neither side refuses what comes, and the journal grows where the call is done
pub record Leads (a : Asked) (s : Stage) (m : Made) (next : Stage) : Type 0 where
  pub is : m.link ≡ shape a next
  pub fine : IsFine m
  pub grows : Grows a (look a s).journal m.server (look a next).journal

-- the connection at a stage
abbrev pub connection_of : Asked → Stage → server.Connection
connection_of a s = connection_at a (look a s).last (look a s).task (look a s).down

-- nothing comes to either side
pub stays : (a : Asked) (s : Stage) → Leads a s (record { link = shape a s; server = None; client = None }) s
stays a s = record { is = refl; fine = record { server = tt; client = tt }; grows = refl }

-- the server plays what was proved of it
server_leads : (a : Asked) (s next : Stage) (link : Link) (p q : server.Played) → p ≡ q → Leads a s (server_plays link q) next → Leads a s (server_plays link p) next
server_leads a s next link p q e h = subst (λ (r : server.Played). Leads a s (server_plays link r) next) (sym e) h

-- a frame is handed out, and the client plays it
client_leads : (a : Asked) (s next : Stage) (m : Machine) (f : Frame) (p : server.Played) (q : client.Played) → p ≡ (reply.Out f, m) → client_played (shape a s).client (client_event.Frame f) ≡ q
    → Leads a s (client_plays (record (shape a s) { server = m }) q) next → Leads a s (server_hands (shape a s) p) next
client_leads a s next m f p q out plays h =
    subst (λ (r : server.Played). Leads a s (server_hands (shape a s) r) next) (sym out)
    (subst (λ (r : client.Played). Leads a s (client_plays (record (shape a s) { server = m }) r) next) (sym plays) h)

-- ---- to the server

-- the call's frame comes
pub call_leads : (a : Asked) → Leads a Sent (made (shape a Sent) ToServer) (Held [] [])
call_leads a = server_leads a Sent (Held [] []) (record (shape a Sent) { client = (shape a (Held [] [])).client }) _ _ (call_comes a (journal_before a))
    (record { is = refl; fine = record { server = refl; client = tt }; grows = refl })

-- a copy comes
pub copy_leads : (a : Asked) (got : List (List ℕ)) (indexes : List ℕ) (need : Need) (bytes : List ℕ) → slice_get (needs_of a.call) (length got) ≡ Some need → read_of a.mem need ≡ Ok bytes
    → Leads a (Copying got indexes need) (made (shape a (Copying got indexes need)) ToServer) (Held (got ++ bytes ∷ []) indexes)
copy_leads a got indexes need bytes next e =
    server_leads a (Copying got indexes need) (Held (got ++ bytes ∷ []) indexes) (record (shape a (Copying got indexes need)) { client = (shape a (Held got indexes)).client }) _ _
    (copy_comes a (journal_before a) got need bytes next e)
    (record { is = refl; fine = record { server = refl; client = tt }; grows = refl })

-- a copy comes that is a fault
pub fault_leads : (a : Asked) (got : List (List ℕ)) (indexes : List ℕ) (need : Need) (why : CopyFault) → slice_get (needs_of a.call) (length got) ≡ Some need → read_of a.mem need ≡ Err why
    → Leads a (Copying got indexes need) (made (shape a (Copying got indexes need)) ToServer) (Failing indexes (errno_of why))
fault_leads a got indexes need why next e =
    server_leads a (Copying got indexes need) (Failing indexes (errno_of why)) (record (shape a (Copying got indexes need)) { client = (shape a (Held got indexes)).client }) _ _
    (fault_comes a (journal_before a) got need why next e)
    (record { is = refl; fine = record { server = refl; client = tt }; grows = refl })

-- ---- to the client

ask_goes_on : (r : ReqNo) (index : ℕ) (need : Need) → is_end (ask r index need).body ≡ false
ask_goes_on r index (Bytes addr len) = refl
ask_goes_on r index (Text addr limit) = refl

-- an ask comes
pub ask_leads : (a : Asked) (got : List (List ℕ)) (indexes : List ℕ) (need : Need) → slice_get (needs_of a.call) (length got) ≡ Some need → AreBelow (length got) indexes
    → Leads a (Asking got indexes need) (made (shape a (Asking got indexes need)) ToClient) (Copying got (indexes ++ length got ∷ []) need)
ask_leads a got indexes need next below =
    client_leads a (Asking got indexes need) (Copying got (indexes ++ length got ∷ []) need) _ _ _ _
    (frame_goes a (journal_before a) (Some (Gathers a.call got true)) (ask (number_of a) (length got) need) [] (ask_goes_on (number_of a) (length got) need))
    (ask_comes a indexes (length got) need next below)
    (record { is = refl; fine = record { server = tt; client = refl }; grows = refl })

-- a piece comes
pub put_leads : (a : Asked) (indexes : List ℕ) (e : Entry) (now : Delivery) (index : ℕ) (piece : OutPiece) (todo : List OutPiece) → IsInside (outs_of a.call) piece
    → Leads a (Telling indexes e now index (piece ∷ todo)) (made (shape a (Telling indexes e now index (piece ∷ todo))) ToClient)
    (Telling indexes e (put_piece now (record { addr = piece.addr; bytes = piece.bytes })) (index + 1) todo)
put_leads a indexes e now index piece todo inside =
    client_leads a (Telling indexes e now index (piece ∷ todo)) (Telling indexes e (put_piece now (record { addr = piece.addr; bytes = piece.bytes })) (index + 1) todo) _ _ _ _
    (frame_goes a (journal_before a ++ e ∷ []) (Some Answers) _ (puts_from (number_of a) (index + 1) todo ++ answer_frame a e ∷ []) refl)
    (put_comes a now indexes index piece inside)
    (record { is = refl; fine = record { server = tt; client = refl }; grows = refl })

-- the response comes
pub answer_leads : (a : Asked) (indexes : List ℕ) (e : Entry) (now : Delivery) (index : ℕ)
    → Leads a (Telling indexes e now index []) (made (shape a (Telling indexes e now index [])) ToClient) (Told indexes e now)
answer_leads a indexes e now index =
    client_leads a (Telling indexes e now index []) (Told indexes e now) _ _ _ _
    (end_goes a (journal_before a ++ e ∷ []) Answers (answer_frame a e) refl refl)
    (answer_comes a now indexes (answer_at e.outcome (length (journal_before a))))
    (record { is = refl; fine = record { server = tt; client = refl }; grows = refl })

-- the server has nothing to send
pub none_leads : (a : Asked) (s : Stage) → take_from (shape a s).server a.link.conn (connection_of a s) (connection_of a s).condition (look a s).down ≡ (reply.Nothing, (shape a s).server)
    → Leads a s (made (shape a s) ToClient) s
none_leads a s quiet = subst (λ (p : server.Played). Leads a s (server_hands (shape a s) p) s) (sym (is_taken a (look a s).journal (connection_of a s) ∙ quiet)) (stays a s)

-- ---- the call is worked

-- what changes nothing
pub record Rests (a : Asked) (s : Stage) (answer : Reply) : Type 0 where
  pub taken : IsTrue (is_taken_by_server answer)
  pub grows : Grows a (look a s).journal (Some answer) (look a s).journal

-- nothing is done
rest_leads : (a : Asked) (s : Stage) (r : ReqNo) (answer : Reply) → Rests a s answer
    → work_number true (shape a s).server a.link.conn (connection_of a s) r (get (connection_of a s).calls r.0) ≡ (answer, (shape a s).server)
    → Leads a s (made (shape a s) (Work r)) s
rest_leads a s r answer rests e =
    server_leads a s s (shape a s) _ _ (is_worked a (look a s).journal (connection_of a s) r ∙ e)
    (record { is = refl; fine = record { server = rests.taken; client = tt }; grows = rests.grows })

-- no such call is open
pub no_call_leads : (a : Asked) (s : Stage) (r : ReqNo) → get (connection_of a s).calls r.0 ≡ None → Leads a s (made (shape a s) (Work r)) s
no_call_leads a s r none =
    rest_leads a s r reply.Nothing (record { taken = refl; grows = refl }) (ap (λ (o : Option OpenCall). work_number true (shape a s).server a.link.conn (connection_of a s) r o) none)

-- the call can't go on by now
pub wait_leads : (a : Asked) (s : Stage) (task : OpenCall) (answer : Reply) → Rests a s answer → (look a s).task ≡ Some task
    → work_call true (shape a s).server a.link.conn (connection_of a s) (number_of a) task ≡ (answer, (shape a s).server)
    → Leads a s (made (shape a s) (Work (number_of a))) s
wait_leads a s task answer rests has e =
    rest_leads a s (number_of a) answer rests
    (ap (λ (o : Option OpenCall). work_number true (shape a s).server a.link.conn (connection_of a s) (number_of a) o)
    (ap (λ (o : Option OpenCall). get (calls_at (a.link.client.last + 1) o) (a.link.client.last + 1)) has ∙ call_there (a.link.client.last + 1) task) ∙ e)

-- the next of what the call reads is asked for
pub next_leads : (a : Asked) (got : List (List ℕ)) (indexes : List ℕ) (need : Need) → slice_get (needs_of a.call) (length got) ≡ Some need
    → Leads a (Held got indexes) (made (shape a (Held got indexes)) (Work (number_of a))) (Asking got indexes need)
next_leads a got indexes need next =
    server_leads a (Held got indexes) (Asking got indexes need) (shape a (Held got indexes)) _ _ (call_asks a (journal_before a) got need next)
    (record { is = refl; fine = record { server = refl; client = tt }; grows = refl })

-- ---- the call is performed

-- the server, and the connection, with a call that has what it reads
abbrev server_with : Asked → OpenCall → Machine
server_with a task = server_at a (journal_before a) (connection_at a (a.link.client.last + 1) (Some task) [])

abbrev work_with : Asked → OpenCall → server.Played
work_with a task = work_call true (server_with a task) a.link.conn (connection_at a (a.link.client.last + 1) (Some task) []) (number_of a) task

abbrev perform_with : Asked → OpenCall → Option Entry → server.Played
perform_with a task entry = performed true (server_with a task) a.link.conn (connection_at a (a.link.client.last + 1) (Some task) []) (number_of a) entry

-- the call is worked as its entry says
abbrev Acts : Asked → OpenCall → Type 0
Acts a task = work_with a task ≡ perform_with a task (entry_of a)

-- a call is performed with what it reads
by_ins : (a : Asked) (task : OpenCall) (ins : Ins) → reads a.call a.mem ≡ ins
    → perform_with a task (next_entry (journal_before a) a.whole.pid (Request a.link.conn (number_of a)) (Sys a.call) ins) ≡ perform_with a task (entry_of a)
by_ins a task ins e = ap (λ (i : Ins). perform_with a task (next_entry (journal_before a) a.whole.pid (Request a.link.conn (number_of a)) (Sys a.call) i)) (sym e)

failing_acts : (a : Asked) (why : Errno) → reads a.call a.mem ≡ Fault why → Acts a (Fails a.call why)
failing_acts a why e = by_ins a (Fails a.call why) (Fault why) e

held_acts : (a : Asked) (got : List (List ℕ)) → reads a.call a.mem ≡ Given got → slice_get (needs_of a.call) (length got) ≡ None → Acts a (Gathers a.call got false)
held_acts a got reads none =
    let task = Gathers a.call got false in
    ap (λ (o : Option Need). gathers true (server_with a task) a.link.conn (connection_at a (a.link.client.last + 1) (Some task) []) (number_of a) a.call got o) none
    ∙ by_ins a task (Given got) reads

-- the call waits, where it has no entry
not_ready : (a : Asked) (task : OpenCall) → Acts a task → entry_of a ≡ None → work_with a task ≡ (reply.NotReady, server_with a task)
not_ready a task acts none = acts ∙ ap (λ (o : Option Entry). perform_with a task o) none

-- the stage at which the call's outcome begins to be told
abbrev pub telling : Asked → List ℕ → Entry → Stage
telling a indexes e = Telling indexes e (untouched a) 0 e.outcome.outs

performed_is : (a : Asked) (e : Entry) → entry_of a ≡ Some e → (journal_before a ≡ journal_before a) × IsPerformed a (journal_before a ++ e ∷ [])
performed_is a e entry = (refl, record { entry = e; next = entry; grown = refl })

pub failing_leads : (a : Asked) (indexes : List ℕ) (why : Errno) (e : Entry) → reads a.call a.mem ≡ Fault why → entry_of a ≡ Some e
    → Leads a (Failing indexes why) (made (shape a (Failing indexes why)) (Work (number_of a))) (telling a indexes e)
failing_leads a indexes why e fact entry =
    server_leads a (Failing indexes why) (telling a indexes e) (shape a (Failing indexes why)) _ _ (call_acts a (Fails a.call why) e (failing_acts a why fact) entry)
    (record { is = refl; fine = record { server = refl; client = tt }; grows = performed_is a e entry })

pub failing_waits : (a : Asked) (indexes : List ℕ) (why : Errno) → reads a.call a.mem ≡ Fault why → entry_of a ≡ None
    → Leads a (Failing indexes why) (made (shape a (Failing indexes why)) (Work (number_of a))) (Failing indexes why)
failing_waits a indexes why fact none =
    wait_leads a (Failing indexes why) (Fails a.call why) reply.NotReady (record { taken = refl; grows = refl }) refl (not_ready a (Fails a.call why) (failing_acts a why fact) none)

pub held_leads : (a : Asked) (got : List (List ℕ)) (indexes : List ℕ) (e : Entry) → reads a.call a.mem ≡ Given got → slice_get (needs_of a.call) (length got) ≡ None → entry_of a ≡ Some e
    → Leads a (Held got indexes) (made (shape a (Held got indexes)) (Work (number_of a))) (telling a indexes e)
held_leads a got indexes e fact none entry =
    server_leads a (Held got indexes) (telling a indexes e) (shape a (Held got indexes)) _ _ (call_acts a (Gathers a.call got false) e (held_acts a got fact none) entry)
    (record { is = refl; fine = record { server = refl; client = tt }; grows = performed_is a e entry })

pub held_waits : (a : Asked) (got : List (List ℕ)) (indexes : List ℕ) → reads a.call a.mem ≡ Given got → slice_get (needs_of a.call) (length got) ≡ None → entry_of a ≡ None
    → Leads a (Held got indexes) (made (shape a (Held got indexes)) (Work (number_of a))) (Held got indexes)
held_waits a got indexes fact none entry =
    wait_leads a (Held got indexes) (Gathers a.call got false) reply.NotReady (record { taken = refl; grows = refl }) refl (not_ready a (Gathers a.call got false) (held_acts a got fact none) entry)

-- whatever is moved, a call that was told stays so
pub told_leads : (a : Asked) (indexes : List ℕ) (e : Entry) (now : Delivery) (move : Move) → Leads a (Told indexes e now) (made (shape a (Told indexes e now)) move) (Told indexes e now)
told_leads a indexes e now ToServer = stays a (Told indexes e now)
told_leads a indexes e now ToClient = none_leads a (Told indexes e now) refl
told_leads a indexes e now (Work r) = no_call_leads a (Told indexes e now) r (get-empty nat_cmp r.0)
