-- What is written is what a run of the server's machine hands out.
use Rattle.std.proofs.Common.{◌≡◌, ℕ, Bool, true, false, List, [], ◌∷◌, ◌++◌, refl, sym, ap, subst, ◌∙◌, append_assoc, inl}
use Rattle.std.proofs.lemmas.Grind.{flat_map-append}
use Rattle.std.proofs.lemmas.List.{append-nil}
use Rattle.std.specs.List.{flat_map}
use Rattle.sp_base.specs.declared.names.ConnNo.{ConnNo}
use Rattle.sp_base.specs.declared.names.ReqNo.{ReqNo}
use Rattle.sp_frames.specs.Banner.{banner}
use Rattle.sp_frames.specs.Grammar.{spelling}
use Rattle.sp_frames.specs.declared.frame.Frame.{Frame}
use Rattle.hub_model.specs.declared.event.Event.{Event}
use Rattle.hub_model.specs.declared.event.Event.TheVariants as event
use Rattle.hub_model.specs.declared.event.Finish.{Finish}
use Rattle.hub_model.specs.declared.event.Reply.{Reply}
use Rattle.hub_model.specs.declared.event.Reply.TheVariants as reply
use Rattle.sp_frames.specs.declared.version.Version.TheVariants.{Four}
use Rattle.hub_model.specs.Machine.{played}
use Rattle.hub_model.specs.State.{Machine, fresh_machine}
use Rattle.hub_model.specs.Run.{Exchange, Runs}
use Rattle.sp_server.specs.Serving.{Server, server_of, reply_to, after, has_memory, after_work, worked, performs, AreRounds, HandsOut, is_out, taken_frame, handed_out}
use Rattle.sp_server.specs.Stdio.{connection, at_start, salt_for, salts_behind, AnswersFrame, Answers, IsAnswered, IsStdioOut}

-- a run of the machine, and the frames that it hands out
pub record Leads (old : Machine) (frames : List Frame) (new : Machine) : Type 0 where
  pub exchanges : List Exchange
  pub runs : Runs old exchanges new
  pub hands : handed_out exchanges ≡ frames

no_step : (m : Machine) → Leads m [] m
no_step m = record { exchanges = []; runs = refl; hands = refl }

-- one event that is answered as the machine says, with memory or without
one_step : (memory : Bool) (m : Machine) (e : Event) (frames : List Frame) → taken_frame e (played memory m e).0 ≡ frames → Leads m frames (played memory m e).1
one_step memory m e frames is = record {
  exchanges = record { event = e; reply = (played memory m e).0 } ∷ [];
  runs = ((played memory m e).1, inl (memory, refl), refl);
  hands = append-nil (taken_frame e (played memory m e).0) ∙ is;
}

runs_then : (xs ys : List Exchange) (m n k : Machine) → Runs m xs n → Runs n ys k → Runs m (xs ++ ys) k
runs_then [] ys m n k a b = subst (λ (x : Machine). Runs x ys k) a b
runs_then (x ∷ xs) ys m n k a b = (a.0, a.1, runs_then xs ys a.0 n k a.2 b)

handed-append : (xs ys : List Exchange) → handed_out (xs ++ ys) ≡ handed_out xs ++ handed_out ys
handed-append [] ys = refl
handed-append (x ∷ xs) ys = ap (λ (fs : List Frame). taken_frame x.event x.reply ++ fs) (handed-append xs ys) ∙ sym (append_assoc (taken_frame x.event x.reply) (handed_out xs) (handed_out ys))

-- one run and then another
leads_then : (m n k : Machine) (fs gs : List Frame) → Leads m fs n → Leads n gs k → Leads m (fs ++ gs) k
leads_then m n k fs gs a b = record {
  exchanges = a.exchanges ++ b.exchanges;
  runs = runs_then a.exchanges b.exchanges m n k a.runs b.runs;
  hands = handed-append a.exchanges b.exchanges ∙ ap (λ (l : List Frame). l ++ handed_out b.exchanges) a.hands ∙ ap (λ (l : List Frame). fs ++ l) b.hands;
}

-- ---- rounds, and handing out

-- where a Take gives no frame, none is handed out
none_taken : (c : ConnNo) (r : Reply) → is_out r ≡ false → taken_frame (event.Take c) r ≡ []
none_taken c (reply.Out f) e = absurd cc
none_taken c (reply.Task r) e = refl
none_taken c reply.Asked e = refl
none_taken c reply.AwaitsAnswer e = refl
none_taken c reply.NotReady e = refl
none_taken c reply.Done e = refl
none_taken c reply.Nothing e = refl
none_taken c reply.NotQuiet e = refl
none_taken c (reply.Refused why) e = refl
none_taken c reply.Closed e = refl
none_taken c reply.NoMemory e = refl

hands_lead : (m : Machine) (c : ConnNo) (frames : List Frame) (n : Machine) → HandsOut m c frames n → Leads m frames n
hands_lead m c [] n is = subst (λ (x : Machine). Leads m [] x) (sym is.1) (one_step true m (event.Take c) [] (none_taken c (reply_to m (event.Take c)) is.0))
hands_lead m c (f ∷ frames) n is =
    leads_then m (after m (event.Take c)) n (f ∷ []) frames (one_step true m (event.Take c) (f ∷ []) (ap (taken_frame (event.Take c)) is.0)) (hands_lead (after m (event.Take c)) c frames n is.1)

worked_leads : (s : Server) (c : ConnNo) (numbers : List ReqNo) → Leads s.machine [] (worked s c numbers).machine
worked_leads s c [] = no_step s.machine
worked_leads s c (r ∷ numbers) =
    leads_then s.machine (after_work s c r).machine (worked (after_work s c r) c numbers).machine [] []
    (one_step (has_memory s.refused r) s.machine (event.Work c r) [] refl) (worked_leads (after_work s c r) c numbers)

rounds_lead : (s : Server) (c : ConnNo) (again : Bool) (rounds : List (List ReqNo)) (n : Server) → AreRounds s c again rounds n → Leads s.machine [] n.machine
rounds_lead s c again [] n is = subst (λ (x : Server). Leads s.machine [] x.machine) (sym is.1) (no_step s.machine)
rounds_lead s c again (numbers ∷ rounds) n is =
    leads_then s.machine (worked s c numbers).machine n.machine [] [] (worked_leads s c numbers) (rounds_lead (worked s c numbers) c (performs s c numbers) rounds n is.2)

-- ---- answers

answer_leads : (s : Server) (f : Frame) (salt : ℕ) (text : List ℕ) (n : Server) (is : AnswersFrame s f salt text n) → Leads s.machine is.frames n.machine
answer_leads s f salt text n is =
    let came = after s.machine (event.Frame connection f salt) in
    let comes = one_step true s.machine (event.Frame connection f salt) [] refl in
    let worked = rounds_lead (server_of came s.refused) connection true is.rounds is.worked is.works in
    let out = hands_lead is.worked.machine connection is.frames n.machine is.hands in
    leads_then s.machine is.worked.machine n.machine [] is.frames (leads_then s.machine came is.worked.machine [] [] comes worked) out

-- the frames that are handed out for frames
abbrev pub out_frames : (frames : List Frame) (s : Server) (salts text : List ℕ) (n : Server) → Answers s frames salts text n → List Frame
out_frames [] s salts text n is = []
out_frames (f ∷ frames) s salts text n is = is.3.frames ++ out_frames frames is.0 (salts_behind f salts) is.2 n is.4

answers_lead : (frames : List Frame) (s : Server) (salts text : List ℕ) (n : Server) (is : Answers s frames salts text n)
    → Leads s.machine (out_frames frames s salts text n is) n.machine × (text ≡ flat_map spelling (out_frames frames s salts text n is))
answers_lead [] s salts text n is = (subst (λ (x : Server). Leads s.machine [] x.machine) (sym is.1) (no_step s.machine), is.0)
answers_lead (f ∷ frames) s salts text n is =
    let one = is.3 in
    let others = out_frames frames is.0 (salts_behind f salts) is.2 n is.4 in
    let rest = answers_lead frames is.0 (salts_behind f salts) is.2 n is.4 in (
      leads_then s.machine is.0.machine n.machine one.frames others (answer_leads s f (salt_for f salts) is.1 is.0 one) rest.0,
      is.5 ∙ ap (λ (t : List ℕ). t ++ is.2) one.spelled ∙ ap (λ (t : List ℕ). flat_map spelling one.frames ++ t) rest.1 ∙ sym (flat_map-append spelling one.frames others),
    )

-- the frames that are handed out for the whole frames of input
abbrev pub answering : (input salts : List ℕ) (refused : List ReqNo) (text rest : List ℕ) (m : Machine) → IsAnswered input salts refused text rest m → List Frame
answering input salts refused text rest m is = out_frames is.frames (server_of at_start refused) salts is.body (server_of m []) is.answers

-- what is written for the whole frames of input is what a run from a fresh machine hands out
pub answered_leads : (input salts : List ℕ) (refused : List ReqNo) (text rest : List ℕ) (m : Machine) (is : IsAnswered input salts refused text rest m)
    → Leads (fresh_machine Four) (answering input salts refused text rest m is) m × (text ≡ banner ++ flat_map spelling (answering input salts refused text rest m is))
answered_leads input salts refused text rest m is =
    let answers = answers_lead is.frames (server_of at_start refused) salts is.body (server_of m []) is.answers in
    let opens = one_step true (fresh_machine Four) (event.Opened connection) [] refl in
    (leads_then (fresh_machine Four) at_start m [] (answering input salts refused text rest m is) opens answers.0, is.begins ∙ ap (λ (t : List ℕ). banner ++ t) answers.1)

-- and so is what is written for input that ends
pub out_leads : (input salts : List ℕ) (refused : List ReqNo) (how : Finish) (offset : ℕ) (text : List ℕ) (out : IsStdioOut input salts refused how offset text)
    → Leads (fresh_machine Four) (answering input salts refused out.front out.rest out.before out.answered ++ out.frames) out.last
    × (text ≡ banner ++ flat_map spelling (answering input salts refused out.front out.rest out.before out.answered ++ out.frames))
out_leads input salts refused how offset text out =
    let frames = answering input salts refused out.front out.rest out.before out.answered in
    let first = answered_leads input salts refused out.front out.rest out.before out.answered in
    let ends = one_step true out.before (event.Ended connection how) [] refl in
    let hands = hands_lead (after out.before (event.Ended connection how)) connection out.frames out.last out.hands in
    let second = leads_then out.before (after out.before (event.Ended connection how)) out.last [] out.frames ends hands in (
      leads_then (fresh_machine Four) out.before out.last frames out.frames first.0 second,
      out.whole ∙ ap (λ (t : List ℕ). t ++ flat_map spelling out.frames) first.1 ∙ append_assoc banner (flat_map spelling frames) (flat_map spelling out.frames)
          ∙ ap (λ (t : List ℕ). banner ++ t) (sym (flat_map-append spelling frames out.frames)),
    )

pub out_runs : (input salts : List ℕ) (refused : List ReqNo) (how : Finish) (offset : ℕ) (text : List ℕ) → IsStdioOut input salts refused how offset text
    → (exchanges : List Exchange) × (last : Machine) × Runs (fresh_machine Four) exchanges last × (text ≡ banner ++ flat_map spelling (handed_out exchanges))
out_runs input salts refused how offset text out =
    let all = out_leads input salts refused how offset text out in
    (all.0.exchanges, out.last, all.0.runs, all.1 ∙ ap (λ (fs : List Frame). banner ++ flat_map spelling fs) (sym all.0.hands))
