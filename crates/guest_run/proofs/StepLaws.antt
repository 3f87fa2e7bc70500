-- What the steps of a call come to.
use Rattle.std.proofs.Common.{◌≡◌, ◌≢◌, ℕ, ◌<◌, ◌+◌, Bool, true, false, List, [], ◌∷◌, ◌++◌, length, drop, get_or, Option, Some, None}
use Rattle.std.proofs.Common.{refl, sym, ap, subst, ◌∙◌, add-one, drop-cons}
use Rattle.std.proofs.Math.Seq.{drop-length}
use Rattle.std.specs.Prelude.{slice_get, if◌then◌else◌}
use Rattle.std.specs.FinMap.{get}
use Rattle.sp_base.specs.Needs.{needs_of}
use Rattle.sp_base.specs.declared.call.Call.{Call}
use Rattle.sp_base.specs.declared.names.ConnNo.{ConnNo}
use Rattle.sp_base.specs.declared.names.Pid.{Pid}
use Rattle.sp_base.specs.declared.names.ReqNo.{ReqNo}
use Rattle.sp_base.specs.declared.names.SpError.{SpError}
use Rattle.sp_base.specs.declared.need.Need.{Need}
use Rattle.sp_base.specs.declared.need.Need.TheVariants.{Bytes}
use Rattle.kern_model.specs.Journal.{next_entry}
use Rattle.kern_model.specs.declared.journal.Entry.{Entry}
use Rattle.kern_model.specs.declared.journal.Who.TheVariants.{Request}
use Rattle.kern_model.specs.declared.operation.Ins.{Ins}
use Rattle.kern_model.specs.declared.operation.Ins.TheVariants.{Given, Fault}
use Rattle.kern_model.specs.declared.operation.Op.TheVariants.{Sys}
use Rattle.kern_model.specs.declared.outcome.OutPiece.{OutPiece}
use Rattle.hub_model.specs.Machine.{played}
use Rattle.hub_model.specs.State.{Connection, Machine, Played, process_in}
use Rattle.hub_model.specs.Work.{gather, perform, performed, work_at, work_call, work_number}
use Rattle.hub_model.specs.declared.event.Event.TheVariants as event
use Rattle.hub_model.specs.declared.event.Reply.{Reply}
use Rattle.hub_model.specs.declared.event.Reply.TheVariants as reply
use Rattle.hub_model.specs.declared.state.OpenCall.{OpenCall}
use Rattle.hub_model.specs.declared.state.OpenCall.TheVariants.{Gathers, Fails, Answers}
use Rattle.client_model.specs.declared.event.Reply.{Reply as ClientReply}
use Rattle.link_model.specs.Link.{Link, Made, carried, made}
use Rattle.link_model.specs.Route.{returns, rounds}
use Rattle.link_model.specs.declared.moves.Move.{Move}
use Rattle.link_model.specs.declared.moves.Move.TheVariants.{ToServer, ToClient, Work}
use Rattle.link_model.proofs.Ends.{carried_on}
use Rattle.guest_run.specs.Joined.{IsWorked, link_of}
use Rattle.guest_run.specs.Steps.{GoesOn, IsRefused}
use Rattle.guest_run.specs.declared.joined.Joined.{Joined}

-- ---- the server works a request

-- what is played without memory is what is played with it; or it is a refusal of what would be done, and the journal stays
record Works (m : Machine) (without full : Played) : Type 0 where
  pub refuses : (why : SpError) → without.0 ≡ reply.Refused why → (without.1.journal ≡ m.journal) × (full.0 ≡ reply.Done)
  pub same : ((why : SpError) → without.0 ≢ reply.Refused why) → without ≡ full

-- what is no refusal
alike : (m : Machine) (p : Played) → ((why : SpError) → p.0 ≢ reply.Refused why) → Works m p p
alike m p not = record { refuses = λ why e. absurd (not why e); same = λ _. refl }

performed_works : (memory : Bool) (m : Machine) (c : ConnNo) (x : Connection) (r : ReqNo) (entry : Option Entry)
    → Works m (performed memory m c x r entry) (performed true m c x r entry)
performed_works true m c x r None = alike m _ (λ why e. cc)
performed_works false m c x r None = alike m _ (λ why e. cc)
performed_works true m c x r (Some entry) = alike m _ (λ why e. cc)
performed_works false m c x r (Some entry) = record { refuses = λ why e. (refl, refl); same = λ not. absurd (not _ refl) }

perform_works : (memory : Bool) (m : Machine) (c : ConnNo) (x : Connection) (r : ReqNo) (call : Call) (ins : Ins) (pid : Option Pid)
    → Works m (perform memory m c x r call ins pid) (perform true m c x r call ins pid)
perform_works memory m c x r call ins None = alike m _ (λ why e. cc)
perform_works memory m c x r call ins (Some pid) = performed_works memory m c x r (next_entry m.journal pid (Request c r) (Sys call) ins)

gather_works : (memory : Bool) (m : Machine) (c : ConnNo) (x : Connection) (r : ReqNo) (call : Call) (got : List (List ℕ)) (need : Option Need)
    → Works m (gather memory m c x r call got need) (gather true m c x r call got need)
gather_works memory m c x r call got (Some need) = alike m _ (λ why e. cc)
gather_works memory m c x r call got None = perform_works memory m c x r call (Given got) (process_in x.condition)

call_works : (memory : Bool) (m : Machine) (c : ConnNo) (x : Connection) (r : ReqNo) (task : OpenCall)
    → Works m (work_call memory m c x r task) (work_call true m c x r task)
call_works memory m c x r (Gathers call got true) = alike m _ (λ why e. cc)
call_works memory m c x r (Gathers call got false) = gather_works memory m c x r call got (slice_get (needs_of call) (length got))
call_works memory m c x r (Fails call why) = perform_works memory m c x r call (Fault why) (process_in x.condition)
call_works memory m c x r Answers = alike m _ (λ why e. cc)

number_works : (memory : Bool) (m : Machine) (c : ConnNo) (x : Connection) (r : ReqNo) (task : Option OpenCall)
    → Works m (work_number memory m c x r task) (work_number true m c x r task)
number_works memory m c x r None = alike m _ (λ why e. cc)
number_works memory m c x r (Some task) = call_works memory m c x r task

connection_works : (memory : Bool) (m : Machine) (c : ConnNo) (r : ReqNo) (x : Option Connection)
    → Works m (work_at memory m c r x) (work_at true m c r x)
connection_works memory m c r None = alike m _ (λ why e. cc)
connection_works memory m c r (Some x) = number_works memory m c x r (get x.calls r.0)

halted_works : (halted : Bool) (m : Machine) (without full : Played) → Works m without full
    → Works m (if halted then (reply.Closed, m) else without) (if halted then (reply.Closed, m) else full)
halted_works true m without full works = alike m _ (λ why e. cc)
halted_works false m without full works = works

works : (memory : Bool) (m : Machine) (c : ConnNo) (r : ReqNo) → Works m (played memory m (event.Work c r)) (played true m (event.Work c r))
works memory m c r = halted_works m.halted m _ _ (connection_works memory m c r (get m.connections c.0))

-- what isn't refused goes on
pub goes_on : (old new : Joined) (r : ReqNo) (answer : Reply) → IsWorked old r answer new → ((why : SpError) → answer ≢ reply.Refused why)
    → GoesOn true (link_of old) r (Work r ∷ []) (link_of new)
goes_on old new r answer worked not =
    let same = (works worked.memory old.hub old.conn r).same (λ why e. not why (ap (λ (p : Played). p.0) worked.server ∙ e)) in
    let p : (answer, new.hub) ≡ played true old.hub (event.Work old.conn r) = worked.server ∙ same in
    ap (λ (c : ConnNo). record (link_of new) { conn = c }) worked.conn
    ∙ ap (λ k. record (link_of new) { client = k; conn = old.conn }) worked.client ∙ ap (λ (q : Played). record (link_of old) { server = q.1 }) p

-- what is refused stays
pub stays : (old new : Joined) (r : ReqNo) (why : SpError) (answer : Reply) → IsWorked old r answer new → answer ≡ reply.Refused why
    → GoesOn false (link_of old) r (Work r ∷ []) (link_of new)
stays old new r why answer worked refused =
    let wants = (works worked.memory old.hub old.conn r).refuses why (sym (ap (λ (p : Played). p.0) worked.server) ∙ refused) in
    record {
      moves = [];
      same = ap (λ (p : Played). p.1.journal) worked.server ∙ wants.0;
      ready = ap (λ (answer : Reply). Some answer) wants.1;
    }

-- ---- rounds

-- a need that is worked, asked for and copied is one round
pub round : (r : ReqNo) (a b c d : Link) (up : Option Reply) (down : Option ClientReply) → GoesOn true a r (Work r ∷ []) b
    → made b ToClient ≡ record { link = c; server = None; client = down } → made c ToServer ≡ record { link = d; server = up; client = None }
    → d ≡ carried a (Work r ∷ ToClient ∷ ToServer ∷ [])
round r a b c d up down worked told sent =
    sym (ap (λ (m : Made). m.link) sent)
    ∙ ap (λ (l : Link). (made l ToServer).link) (sym (ap (λ (m : Made). m.link) told) ∙ ap (λ (l : Link). (made l ToClient).link) worked)

-- the need at an index is the first of those from it on
first_left : {X : Type 0} (xs : List X) (i : ℕ) (x : X) → i < length xs → drop i xs ≡ get_or xs i x ∷ drop (i + 1) xs
first_left xs i x below = rw (add-one, drop-cons xs i x below) refl

-- so many of a request's rounds were made, and what is left of them leads where all of them do
pub record IsGathering (r : ReqNo) (count i : ℕ) (old now : Link) : Type 0 where
  pub moves : List Move
  pub came : now ≡ carried old moves
  pub left : (needs : List Need) → length needs ≡ count → carried now (rounds r (drop i needs)) ≡ carried old (rounds r needs)

pub none_gathered : (r : ReqNo) (count : ℕ) (link : Link) → IsGathering r count 0 link link
none_gathered r count link = record { moves = []; came = refl; left = λ needs all. refl }

-- one round more was made
pub one_gathered : (r : ReqNo) (count i : ℕ) (old now next : Link) → i < count → IsGathering r count i old now
    → next ≡ carried now (Work r ∷ ToClient ∷ ToServer ∷ [])
    → IsGathering r count (i + 1) old next
one_gathered r count i old now next below gathering is = record {
  moves = gathering.moves ++ Work r ∷ ToClient ∷ ToServer ∷ [];
  came = is ∙ ap (λ (l : Link). carried l (Work r ∷ ToClient ∷ ToServer ∷ [])) gathering.came
      ∙ sym (carried_on old gathering.moves (Work r ∷ ToClient ∷ ToServer ∷ []));
  left = λ needs all.
      ap (λ (l : Link). carried l (rounds r (drop (i + 1) needs))) is
      ∙ sym (ap (λ (ns : List Need). carried now (rounds r ns)) (first_left needs i (Bytes 0 0) (subst (λ n. i < n) (sym all) below)))
      ∙ gathering.left needs all;
}

none_left : {X : Type 0} (xs : List X) (count : ℕ) → length xs ≡ count → drop count xs ≡ []
none_left xs count all = subst (λ n. drop n xs ≡ []) all (drop-length xs)

-- all rounds were made
pub all_gathered : (r : ReqNo) (count : ℕ) (old now : Link) (needs : List Need) → IsGathering r count count old now → length needs ≡ count
    → GoesOn true old r (rounds r needs) now
all_gathered r count old now needs gathering all =
    ap (λ (ns : List Need). carried now (rounds r ns)) (sym (none_left needs count all)) ∙ gathering.left needs all

-- what is refused after some moves is refused
pub refused_after : (r : ReqNo) (moves : List Move) (old now : Link) (journal : List Entry) → now ≡ carried old moves → IsRefused now r journal
    → IsRefused old r journal
refused_after r moves old now journal came refused =
    let there : carried old (moves ++ refused.moves) ≡ carried now refused.moves =
    carried_on old moves refused.moves ∙ ap (λ (l : Link). carried l refused.moves) (sym came) in
    record {
      moves = moves ++ refused.moves;
      same = refused.same ∙ ap (λ (l : Link). l.server.journal) (sym there);
      ready = ap (λ (l : Link). (made l (Work r)).server) there ∙ refused.ready;
    }

-- ---- what is told

-- so many pieces came, and what is left to tell leads where all of it does
pub record IsTelling (count i : ℕ) (old now : Link) : Type 0 where
  pub left : (outs : List OutPiece) → length outs ≡ count → carried now (returns (drop i outs)) ≡ carried old (returns outs)

pub none_told : (count : ℕ) (link : Link) → IsTelling count 0 link link
none_told count link = record { left = λ outs all. refl }

-- one piece more came
pub one_told : (count i : ℕ) (old now next : Link) (down : Option ClientReply) → i < count → IsTelling count i old now
    → made now ToClient ≡ record { link = next; server = None; client = down }
    → IsTelling count (i + 1) old next
one_told count i old now next down below telling is = record {
  left = λ outs all.
      sym (ap (λ (m : Made). carried m.link (returns (drop (i + 1) outs))) is)
      ∙ sym (ap (λ (ps : List OutPiece). carried now (returns ps))
      (first_left outs i (record { addr = 0; bytes = [] }) (subst (λ n. i < n) (sym all) below)))
      ∙ telling.left outs all;
}

-- the response came behind all pieces
pub all_told : (count : ℕ) (old now next : Link) (down : Option ClientReply) (outs : List OutPiece) → IsTelling count count old now
    → length outs ≡ count
    → made now ToClient ≡ record { link = next; server = None; client = down } → next ≡ carried old (returns outs)
all_told count old now next down outs telling all is =
    sym (ap (λ (m : Made). m.link) is)
    ∙ ap (λ (ps : List OutPiece). carried now (returns ps)) (sym (none_left outs count all)) ∙ telling.left outs all
