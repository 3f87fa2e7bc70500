-- The text of a run tells which calls were refused for memory.
use Rattle.std.proofs.Common.{◌≡◌, ℕ, List, [], ◌∷◌, ◌++◌, Option, refl, sym, ap, subst, ◌∙◌, append_assoc}
use Rattle.std.proofs.lemmas.List.{append-nil}
use Rattle.std.specs.List.{flat_map}
use Rattle.std.specs.FinMap.{empty}
use Rattle.sp_base.specs.declared.names.ReqNo.{ReqNo}
use Rattle.sp_frames.specs.Banner.{banner}
use Rattle.sp_frames.specs.Grammar.{spelling}
use Rattle.sp_frames.specs.declared.frame.Frame.{Frame}
use Rattle.sp_frames.specs.declared.version.Version.TheVariants.{Four}
use Rattle.hub_model.specs.declared.event.Event.TheVariants as event
use Rattle.hub_model.specs.declared.event.Finish.{Finish}
use Rattle.hub_model.specs.State.{Connection, Machine, fresh_connection, fresh_machine}
use Rattle.tables.proofs.Maps.{get_put}
use Rattle.sp_server.specs.Serving.{Server, server_of, after, refusals}
use Rattle.sp_server.specs.Stdio.{connection, at_start, salt_for, salts_behind, Answers, IsAnswered, IsStdioOut, IsUnended, IsToldBy}
use Rattle.sp_server.proofs.Refusals.{refusals-append, IsBare, hands_empty, end_bare, answer_tells}
use Rattle.sp_server.proofs.RunsLaws.{Leads, out_frames, answering, answered_leads, out_leads}
use Rattle.sp_server.proofs.Shrinking.{queue_in}

start_bare : IsBare at_start connection
start_bare = (refl, ap (λ (o : Option Connection). refusals (queue_in o)) (get_put empty 0 fresh_connection))

-- the calls that are refused while frames are answered are told, in order, by what is handed out for them
answers_tell : (frames : List Frame) (s : Server) (salts text : List ℕ) (n : Server) (is : Answers s frames salts text n) → IsBare s.machine connection
    → (refusals (out_frames frames s salts text n is) ++ n.refused ≡ s.refused) × IsBare n.machine connection
answers_tell [] s salts text n is bare = (ap (λ (t : Server). t.refused) is.1, subst (λ (t : Server). IsBare t.machine connection) (sym is.1) bare)
answers_tell (f ∷ frames) s salts text n is bare =
    let one = is.3 in
    let first = answer_tells s connection f (salt_for f salts) one.rounds one.worked one.frames is.0.machine one.works one.hands bare in
    let rest = answers_tell frames is.0 (salts_behind f salts) is.2 n is.4 first.1 in
    let later = out_frames frames is.0 (salts_behind f salts) is.2 n is.4 in (
      ap (λ (l : List ReqNo). l ++ n.refused) (refusals-append one.frames later) ∙ append_assoc (refusals one.frames) (refusals later) n.refused
          ∙ ap (λ (l : List ReqNo). refusals one.frames ++ l) (rest.0 ∙ one.left) ∙ first.0,
      rest.1,
    )

answered_tells : (input salts : List ℕ) (refused : List ReqNo) (text rest : List ℕ) (m : Machine) (is : IsAnswered input salts refused text rest m)
    → (refusals (answering input salts refused text rest m is) ≡ refused) × IsBare m connection
answered_tells input salts refused text rest m is =
    let told = answers_tell is.frames (server_of at_start refused) salts is.body (server_of m []) is.answers start_bare in
    (sym (append-nil (refusals (answering input salts refused text rest m is))) ∙ told.0, told.1)

-- frames that a run hands out tell their refusals
told_by : (frames : List Frame) (last : Machine) (refused : List ReqNo) (text : List ℕ) → Leads (fresh_machine Four) frames last → text ≡ banner ++ flat_map spelling frames → refusals frames ≡ refused → IsToldBy refused text
told_by frames last refused text leads is told =
    (leads.exchanges, last, leads.runs, is ∙ ap (λ (fs : List Frame). banner ++ flat_map spelling fs) (sym leads.hands), ap refusals leads.hands ∙ told)

pub ended_tells : (input salts : List ℕ) (refused : List ReqNo) (how : Finish) (offset : ℕ) (text : List ℕ) → IsStdioOut input salts refused how offset text → IsToldBy refused text
ended_tells input salts refused how offset text out =
    let frames = answering input salts refused out.front out.rest out.before out.answered in
    let leads = out_leads input salts refused how offset text out in
    let told = answered_tells input salts refused out.front out.rest out.before out.answered in
    let bare = end_bare out.before connection how told.1 in
    let hands = hands_empty (after out.before (event.Ended connection how)) connection out.frames out.last out.hands bare.0 in
    let none : refusals out.frames ≡ [] = sym hands.told ∙ bare.1 in
    told_by (frames ++ out.frames) out.last refused text leads.0 leads.1
    (refusals-append frames out.frames ∙ ap (λ (l : List ReqNo). refusals frames ++ l) none ∙ append-nil (refusals frames) ∙ told.0)

pub unended_tells : (input salts : List ℕ) (refused : List ReqNo) (text : List ℕ) → IsUnended input salts refused text → IsToldBy refused text
unended_tells input salts refused text is =
    let leads = answered_leads input salts refused text is.0 is.1 is.2 in
    told_by (answering input salts refused text is.0 is.1 is.2) is.1 refused text leads.0 leads.1 (answered_tells input salts refused text is.0 is.1 is.2).0
