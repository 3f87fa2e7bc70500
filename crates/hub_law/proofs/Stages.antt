-- Where a request is at the server: it gathers what it reads, its gathering has failed, or all has happened that will.
use Rattle.std.proofs.Common.{◌≡◌, inl, inr, ℕ, suc, ◌+◌, ◌≤◌, Bool, true, false, List, [], ◌∷◌, ◌++◌, length, Option, Some, None, refl, sym, ap, ◌∙◌, subst, arith, append-nil, append_assoc}
use Rattle.sp_base.specs.declared.call.Call.{Call}
use Rattle.sp_base.specs.declared.errno.Errno.{Errno}
use Rattle.sp_base.specs.declared.names.ConnNo.{ConnNo}
use Rattle.sp_base.specs.declared.names.ReqNo.{ReqNo}
use Rattle.sp_frames.specs.declared.frame.Body.{Body}
use Rattle.sp_frames.specs.declared.frame.Body.TheVariants as body
use Rattle.sp_frames.specs.declared.frame.Frame.{Frame}
use Rattle.kern_model.specs.declared.journal.Entry.{Entry}
use Rattle.kern_model.specs.declared.operation.Ins.TheVariants.{Given, Fault}
use Rattle.kern_model.specs.declared.operation.Op.TheVariants as op
use Rattle.hub_model.specs.Sound.{IsAnswered}
use Rattle.hub_model.specs.declared.state.OpenCall.{OpenCall}
use Rattle.hub_model.specs.declared.state.OpenCall.TheVariants.{Gathers, Fails, Answers}
use Rattle.hub_law.specs.Serves.{AsksFor, Brings, BringAll, BringIns, IsOpen, IsServed, IsSettled, IsUnserved, StandsAt, Tells, asks_from, first_asks}
use Rattle.hub_law.specs.Serves as serves
use Rattle.hub_law.proofs.Keys.{Grows, HasNone, IsOnly, Stays, forked_stays}
use Rattle.hub_law.proofs.Lists.{empty_front}

-- ---- the stages

-- whatever comes now, this holds: the request has one entry, whose answer was begun; or none
pub data Final (journal : List Entry) (c : ConnNo) (r : ReqNo) (frames answers : List Frame) : Type 0 where
  Served : (place : ℕ) → (e : Entry) → StandsAt journal c r place e → IsOnly journal c r place → IsServed r place e frames answers → Final journal c r frames answers
  Unserved : HasNone journal c r → IsUnserved journal r frames answers → Final journal c r frames answers

-- how many asks went out, where so many copies came and one more ask is out, or none
abbrev asks_out : Bool → ℕ → ℕ
asks_out false count = count
asks_out true count = suc count

-- a call gathers what it reads: these pieces have come, and an ask for the next one is out or not
pub record IsGathering (journal : List Entry) (c : ConnNo) (r : ReqNo) (frames answers : List Frame) (call : Call) (got : List (List ℕ)) (asked : Bool) : Type 0 where
  pub request : Frame
  pub copies : List Frame
  pub comes : frames ≡ request ∷ copies
  pub asks : AsksFor request.body (op.Sys call)
  pub brings : BringAll 0 copies got
  pub goes : answers ≡ first_asks r (asks_out asked (length copies)) (op.Sys call)
  pub none : HasNone journal c r

-- a call's gathering has ended with an error
pub record IsFailing (journal : List Entry) (c : ConnNo) (r : ReqNo) (frames answers : List Frame) (call : Call) (why : Errno) : Type 0 where
  pub request : Frame
  pub copies : List Frame
  pub comes : frames ≡ request ∷ copies
  pub asks : AsksFor request.body (op.Sys call)
  pub brings : BringIns copies (Fault why)
  pub goes : answers ≡ first_asks r (length copies) (op.Sys call)
  pub none : HasNone journal c r

-- where a request is, by the open call of its number
abbrev pub StageOf : List Entry → ConnNo → ReqNo → List Frame → List Frame → Option OpenCall → Type 0
StageOf journal c r frames answers None = Final journal c r frames answers
StageOf journal c r frames answers (Some (Gathers call got asked)) = IsGathering journal c r frames answers call got asked
StageOf journal c r frames answers (Some (Fails call why)) = IsFailing journal c r frames answers call why
StageOf journal c r frames answers (Some Answers) = Final journal c r frames answers

-- nothing has happened under the number of a request
pub record IsUntouched (journal : List Entry) (c : ConnNo) (r : ReqNo) (frames answers : List Frame) (task : Option OpenCall) : Type 0 where
  pub came : frames ≡ []
  pub said : answers ≡ []
  pub quiet : IsAnswered task
  pub none : HasNone journal c r

-- ---- what is final stays so

abbrev unserved_open : (journal : List Entry) (r : ReqNo) (frames answers : List Frame) → IsOpen journal r frames answers → IsUnserved journal r frames answers
unserved_open journal r frames answers o = inr (inl o)

abbrev unserved_settled : (journal : List Entry) (r : ReqNo) (frames answers : List Frame) → IsSettled journal r frames answers → IsUnserved journal r frames answers
unserved_settled journal r frames answers s = inr (inr s)

-- frames come behind, and what was sent is cut short
later_frames : (request : Frame) (copies later more frames frames' : List Frame) → frames ≡ request ∷ (copies ++ later) → frames' ≡ frames ++ more
    → frames' ≡ request ∷ (copies ++ (later ++ more))
later_frames request copies later more frames frames' e f = f ∙ (ap (λ fs. fs ++ more) e ∙ ap (λ fs. request ∷ fs) (append_assoc copies later more))

more_rest : (answers answers' cut rest whole : List Frame) → answers ++ rest ≡ whole → answers ≡ answers' ++ cut → answers' ++ (cut ++ rest) ≡ whole
more_rest answers answers' cut rest whole e f = sym (append_assoc answers' cut rest) ∙ (ap (λ fs. fs ++ rest) (sym f) ∙ e)

handover_stays : (old new : List Entry) (r : ReqNo) (request : Body) (f : Frame) → Stays old new → serves.AnswersHandover old r request f → serves.AnswersHandover new r request f
handover_stays old new r (body.Join cookie name) f stays h = (h.0, forked_stays old new h.0 stays h.1, h.2)
handover_stays old new r body.Preexec f stays h = h
handover_stays old new r (body.Cancel cookie) f stays h = h
handover_stays old new r _ f stays h = absurd h

answers_stays : (old new : List Entry) (r : ReqNo) (request : Body) (f : Frame) → Stays old new → serves.Answers old r request f → serves.Answers new r request f
answers_stays old new r request f stays (inl refuses) = inl refuses
answers_stays old new r request f stays (inr hands) = inr (handover_stays old new r request f stays hands)

said_stays : (old new : List Entry) (r : ReqNo) (request : Body) (says : List Frame) → Stays old new → serves.IsSaid old r request says → serves.IsSaid new r request says
said_stays old new r request says stays (inl nothing) = inl nothing
said_stays old new r request says stays (inr one) = inr (one.0, one.1, answers_stays old new r request one.0 stays one.2)

module _ (old new : List Entry) (r : ReqNo) (frames frames' answers answers' more cut : List Frame) (stays : Stays old new) (came : frames' ≡ frames ++ more) (sent : answers ≡ answers' ++ cut) where
  served_later : (place : ℕ) (e : Entry) → IsServed r place e frames answers → IsServed r place e frames' answers'
  served_later place e s = record {
    request = s.request;
    copies = s.copies;
    later = s.later ++ more;
    comes = later_frames s.request s.copies s.later more frames frames' s.comes came;
    asks = s.asks;
    brings = s.brings;
    says = s.says;
    tells = s.tells;
    rest = cut ++ s.rest;
    goes = more_rest answers answers' cut s.rest _ s.goes sent;
  }

  open_later : IsOpen old r frames answers → IsOpen new r frames' answers'
  open_later o = record {
    request = o.request;
    call = o.call;
    copies = o.copies;
    later = o.later ++ more;
    comes = later_frames o.request o.copies o.later more frames frames' o.comes came;
    asks = o.asks;
    ins = o.ins;
    brings = o.brings;
    count = o.count;
    next = o.next;
    says = o.says;
    said = said_stays old new r o.request.body o.says stays o.said;
    rest = cut ++ o.rest;
    goes = more_rest answers answers' cut o.rest _ o.goes sent;
  }

  settled_later : IsSettled old r frames answers → IsSettled new r frames' answers'
  settled_later s = record {
    request = s.request;
    later = s.later ++ more;
    comes = came ∙ ap (λ fs. fs ++ more) s.comes;
    says = s.says;
    said = said_stays old new r s.request.body s.says stays s.said;
    rest = cut ++ s.rest;
    goes = more_rest answers answers' cut s.rest _ s.goes sent;
  }

  unserved_later : IsUnserved old r frames answers → IsUnserved new r frames' answers'
  unserved_later (inl nothing) = inl (empty_front answers' cut (sym sent ∙ nothing))
  unserved_later (inr (inl o)) = inr (inl (open_later o))
  unserved_later (inr (inr s)) = inr (inr (settled_later s))

-- frames come behind, what was sent is cut short, and the journal grows by entries of others
pub final_later : (old new : List Entry) (c : ConnNo) (r : ReqNo) (frames frames' answers answers' more cut : List Frame)
    → Grows c r old new → frames' ≡ frames ++ more → answers ≡ answers' ++ cut → Final old c r frames answers → Final new c r frames' answers'
final_later old new c r frames frames' answers answers' more cut grows came sent (Served place e stands only s) =
    Served place e (grows.stays place e stands.0, stands.1) (λ q f t. only q f (grows.back q f t))
    (served_later old new r frames frames' answers answers' more cut grows.stays came sent place e s)
final_later old new c r frames frames' answers answers' more cut grows came sent (Unserved none u) =
    Unserved (λ q f t. none q f (grows.back q f t)) (unserved_later old new r frames frames' answers answers' more cut grows.stays came sent u)

-- ---- a stage where nothing of its request happens

stage_grows : (old new : List Entry) (c : ConnNo) (r : ReqNo) (frames answers : List Frame) (task : Option OpenCall)
    → Grows c r old new → StageOf old c r frames answers task → StageOf new c r frames answers task
stage_grows old new c r frames answers None grows h = final_later old new c r frames frames answers answers [] [] grows (sym (append-nil frames)) (sym (append-nil answers)) h
stage_grows old new c r frames answers (Some (Gathers call got asked)) grows h =
    record { request = h.request; copies = h.copies; comes = h.comes; asks = h.asks; brings = h.brings; goes = h.goes; none = λ q f t. h.none q f (grows.back q f t) }
stage_grows old new c r frames answers (Some (Fails call why)) grows h =
    record { request = h.request; copies = h.copies; comes = h.comes; asks = h.asks; brings = h.brings; goes = h.goes; none = λ q f t. h.none q f (grows.back q f t) }
stage_grows old new c r frames answers (Some Answers) grows h = final_later old new c r frames frames answers answers [] [] grows (sym (append-nil frames)) (sym (append-nil answers)) h

pub stage_moves : (old new : List Entry) (c : ConnNo) (r : ReqNo) (frames frames' answers answers' : List Frame) (task task' : Option OpenCall)
    → Grows c r old new → frames' ≡ frames → answers' ≡ answers → task' ≡ task → StageOf old c r frames answers task → StageOf new c r frames' answers' task'
stage_moves old new c r frames frames' answers answers' task task' grows came sent same h =
    subst (λ (fs : List Frame). StageOf new c r fs answers' task') (sym came)
    (subst (λ (fs : List Frame). StageOf new c r frames fs task') (sym sent)
    (subst (λ (t : Option OpenCall). StageOf new c r frames answers t) (sym same) (stage_grows old new c r frames answers task grows h)))

pub untouched_moves : (old new : List Entry) (c : ConnNo) (r : ReqNo) (frames frames' answers answers' : List Frame) (task task' : Option OpenCall)
    → Grows c r old new → frames' ≡ frames → answers' ≡ answers → task' ≡ task → IsUntouched old c r frames answers task → IsUntouched new c r frames' answers' task'
untouched_moves old new c r frames frames' answers answers' task task' grows came sent same u = record {
  came = came ∙ u.came;
  said = sent ∙ u.said;
  quiet = subst IsAnswered (sym same) u.quiet;
  none = λ q f t. u.none q f (grows.back q f t);
}

-- ---- what a stage says of its request, whatever comes

few_asks : (asked : Bool) (count : ℕ) → asks_out asked count ≤ count + 1
few_asks false count = omega arith
few_asks true count = omega arith

-- a call that is open says nothing behind its asks
gathering_final : (journal : List Entry) (c : ConnNo) (r : ReqNo) (frames answers : List Frame) (call : Call) (got : List (List ℕ)) (asked : Bool)
    → IsGathering journal c r frames answers call got asked → Final journal c r frames answers
gathering_final journal c r frames answers call got asked g = Unserved g.none (unserved_open journal r frames answers (record {
  request = g.request;
  call = call;
  copies = g.copies;
  later = [];
  comes = g.comes ∙ ap (λ fs. g.request ∷ fs) (sym (append-nil g.copies));
  asks = g.asks;
  ins = Given got;
  brings = g.brings;
  count = asks_out asked (length g.copies);
  next = few_asks asked (length g.copies);
  says = [];
  said = inl refl;
  rest = [];
  goes = append-nil answers ∙ (g.goes ∙ sym (append-nil (first_asks r (asks_out asked (length g.copies)) (op.Sys call))));
}))

failing_final : (journal : List Entry) (c : ConnNo) (r : ReqNo) (frames answers : List Frame) (call : Call) (why : Errno)
    → IsFailing journal c r frames answers call why → Final journal c r frames answers
failing_final journal c r frames answers call why g = Unserved g.none (unserved_open journal r frames answers (record {
  request = g.request;
  call = call;
  copies = g.copies;
  later = [];
  comes = g.comes ∙ ap (λ fs. g.request ∷ fs) (sym (append-nil g.copies));
  asks = g.asks;
  ins = Fault why;
  brings = g.brings;
  count = length g.copies;
  next = omega arith;
  says = [];
  said = inl refl;
  rest = [];
  goes = append-nil answers ∙ (g.goes ∙ sym (append-nil (first_asks r (length g.copies) (op.Sys call))));
}))

pub stage_final : (journal : List Entry) (c : ConnNo) (r : ReqNo) (frames answers : List Frame) (task : Option OpenCall) → StageOf journal c r frames answers task → Final journal c r frames answers
stage_final journal c r frames answers None h = h
stage_final journal c r frames answers (Some (Gathers call got asked)) h = gathering_final journal c r frames answers call got asked h
stage_final journal c r frames answers (Some (Fails call why)) h = failing_final journal c r frames answers call why h
stage_final journal c r frames answers (Some Answers) h = h

pub stage_quiet : (journal : List Entry) (c : ConnNo) (r : ReqNo) (frames answers : List Frame) (task : Option OpenCall) → IsAnswered task → Final journal c r frames answers → StageOf journal c r frames answers task
stage_quiet journal c r frames answers None quiet h = h
stage_quiet journal c r frames answers (Some (Gathers call got asked)) quiet h = absurd (let k : true ≡ false = quiet in cc)
stage_quiet journal c r frames answers (Some (Fails call why)) quiet h = absurd (let k : true ≡ false = quiet in cc)
stage_quiet journal c r frames answers (Some Answers) quiet h = h
