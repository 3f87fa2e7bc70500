-- How far a round of work, the rounds, and the handing out of frames have come: what is still to be done makes up the whole.
use Rattle.std.proofs.Common.{◌≡◌, ◌≢◌, ℕ, ◌+◌, ◌<◌, ◌≤◌, Bool, true, false, List, [], ◌∷◌, ◌++◌, Option, Some, None, refl, sym, ap, subst, ◌∙◌, append_assoc, arith}
use Rattle.std.proofs.lemmas.List.{append-nil}
use Rattle.std.specs.Prelude.{◌||◌, if◌then◌else◌}
use Rattle.std.specs.List.{flat_map}
use Rattle.std.specs.Ordering.{nat_cmp}
use Rattle.std.specs.FinMap.{FinMap}
use Rattle.sp_base.specs.declared.names.ConnNo.{ConnNo}
use Rattle.sp_base.specs.declared.names.ReqNo.{ReqNo}
use Rattle.sp_frames.specs.declared.frame.Frame.{Frame}
use Rattle.sp_frames.specs.Grammar.{spelling}
use Rattle.hub_model.specs.declared.event.Event.TheVariants as event
use Rattle.hub_model.specs.declared.event.Reply.{Reply}
use Rattle.hub_model.specs.declared.event.Reply.TheVariants as reply
use Rattle.hub_model.specs.declared.state.OpenCall.{OpenCall}
use Rattle.hub_model.specs.Machine.{Plays}
use Rattle.hub_model.specs.Sound.{IsSound}
use Rattle.hub_model.specs.State.{Machine}
use Rattle.hub_model.specs.Task.{IsLowest, open_calls}
use Rattle.hub_model.proofs.Sound.{plays_sound}
use Rattle.sp_server.specs.Serving.{Server, server_of, work_reply, after_work, is_done, worked, performs, AreOpen, AreRounds, HandsOut, HandsOutOne}
use Rattle.sp_server.specs.Session.{MayRefuse, Proceeds, IsRound, AreAllRounds}
use Rattle.sp_server.proofs.Refusing.{work_proceeds}
use Rattle.sp_server.specs.Waiting.{waiting}
use Rattle.sp_server.proofs.Shrinking.{one_fewer}

abbrev pub zeroth : ReqNo
zeroth = record { 0 = 0 }

-- ---- a round

-- calls that are still to be worked, with calls that were worked before, make up a round from the start
pub record RoundFrom (start : Machine) (c : ConnNo) (s : Server) (numbers : List ReqNo) (performed : Bool) : Type 0 where
  pub refused : List ReqNo
  pub all : List ReqNo
  pub may : MayRefuse c start refused
  pub are : AreOpen (server_of start refused) c zeroth all
  pub ends : worked s c numbers ≡ worked (server_of start refused) c all
  pub did : (performed || performs s c numbers) ≡ performs (server_of start refused) c all

-- the calls above a number that are still to be worked make up a round from a sound start, whichever are refused later
pub record IsRoundSoFar (start : Machine) (c : ConnNo) (m : Machine) (above : ReqNo) (performed : Bool) : Type 0 where
  pub fewer : waiting m c + (if performed then 1 else 0) ≤ waiting start c
  pub keeps : IsSound start → IsSound m
  pub rest : IsSound start → (later : List ReqNo) → MayRefuse c m later → (numbers : List ReqNo) → AreOpen (server_of m later) c above numbers → RoundFrom start c (server_of m later) numbers performed

pub round_begins : (m : Machine) (c : ConnNo) → IsRoundSoFar m c m zeroth false
round_begins m c = record {
  fewer = omega arith;
  keeps = λ sound. sound;
  rest = λ sound later may numbers are. record { refused = later; all = numbers; may = may; are = are; ends = refl; did = refl };
}

still_fewer : (a b w : ℕ) (performed done : Bool) → b + (if done then 1 else 0) ≤ a → a + (if performed then 1 else 0) ≤ w → b + (if performed || done then 1 else 0) ≤ w
still_fewer a b w true true one so = omega arith
still_fewer a b w true false one so = omega arith
still_fewer a b w false true one so = omega arith
still_fewer a b w false false one so = omega arith

or_assoc : (a b c : Bool) → ((a || b) || c) ≡ (a || (b || c))
or_assoc true b c = refl
or_assoc false b c = refl

pub one_worked : (start : Machine) (c : ConnNo) (m n : Machine) (above r : ReqNo) (answer : Reply) (performed performed' done : Bool)
    → IsLowest (open_calls m c) above (Some r) → Plays m (event.Work c r) answer n → (answer ≢ reply.NoMemory) × (done ≡ is_done answer) → performed' ≡ (performed || done)
    → IsRoundSoFar start c m above performed → IsRoundSoFar start c n r performed'
one_worked start c m n above r answer performed performed' done low plays kept sum so = record {
  fewer = rw sum (still_fewer (waiting m c) (waiting n c) (waiting start c) performed done (one_fewer m n c r answer done plays kept) so.fewer);
  keeps = λ sound. plays_sound m n (event.Work c r) answer (so.keeps sound) plays;
  rest = λ sound later may numbers are.
      let one = work_proceeds c r m n answer later (so.keeps sound) plays kept.0 may in
      let s = server_of m one.refused in
      let on : AreOpen (after_work s c r) c r numbers = subst (λ (t : Server). AreOpen t c r numbers) (sym one.leaves) are in
      let all = so.rest sound one.refused one.may (r ∷ numbers) (low, on) in
      let said : performed' ≡ (performed || is_done (work_reply s c r)) = sum ∙ ap (λ b. performed || b) (kept.1 ∙ ap is_done (sym one.answers)) in
      record {
        refused = all.refused;
        all = all.all;
        may = all.may;
        are = all.are;
        ends = ap (λ (t : Server). worked t c numbers) (sym one.leaves) ∙ all.ends;
        did = ap (λ (t : Server). performed' || performs t c numbers) (sym one.leaves) ∙ ap (λ b. b || performs (after_work s c r) c numbers) said
            ∙ or_assoc performed (is_done (work_reply s c r)) (performs (after_work s c r) c numbers) ∙ all.did;
      };
}

or_false : (a : Bool) → (a || false) ≡ a
or_false true = refl
or_false false = refl

pub none_lowest : (calls : FinMap nat_cmp OpenCall) (above : ReqNo) (found : Option ReqNo) → ((r : ReqNo) → found ≡ Some r → ⊥) → IsLowest calls above found → IsLowest calls above None
none_lowest calls above None not low = low
none_lowest calls above (Some r) not low = absurd (not r refl)

pub round_ends : (start : Machine) (c : ConnNo) (m : Machine) (above : ReqNo) (performed : Bool) → IsLowest (open_calls m c) above None → IsRoundSoFar start c m above performed
    → Proceeds c (IsRound c performed) start m
round_ends start c m above performed none so = record {
  keeps = so.keeps;
  steps = λ sound later may.
      let all = so.rest sound later may [] none in
      (all.refused, all.may, (all.all, all.are, all.ends, sym (or_false performed) ∙ all.did));
}

-- ---- rounds

-- the rounds that are still to be done make up all rounds from a sound start, whichever calls are refused later
pub record AreRoundsSoFar (start : Machine) (c : ConnNo) (m : Machine) (again : Bool) : Type 0 where
  pub keeps : IsSound start → IsSound m
  pub rest : IsSound start → (later : List ReqNo) → MayRefuse c m later → (rounds : List (List ReqNo)) (end : Server) → AreRounds (server_of m later) c again rounds end
      → (refused : List ReqNo) × MayRefuse c start refused × AreAllRounds c (server_of start refused) end

pub rounds_begin : (m : Machine) (c : ConnNo) → AreRoundsSoFar m c m true
rounds_begin m c = record { keeps = λ sound. sound; rest = λ sound later may rounds end are. (later, may, (rounds, are)) }

pub one_round : (start : Machine) (c : ConnNo) (m n : Machine) (again : Bool) → Proceeds c (IsRound c again) m n → AreRoundsSoFar start c m true → AreRoundsSoFar start c n again
one_round start c m n again round so = record {
  keeps = λ sound. round.keeps (so.keeps sound);
  rest = λ sound later may rounds end are.
      let one = round.steps (so.keeps sound) later may in
      let s = server_of m one.0 in
      let numbers = one.2.0 in
      let left : AreRounds (worked s c numbers) c again rounds end = subst (λ (t : Server). AreRounds t c again rounds end) one.2.2 are in
      let on : AreRounds (worked s c numbers) c (performs s c numbers) rounds end = subst (λ b. AreRounds (worked s c numbers) c b rounds end) one.2.3 left in
      so.rest sound one.0 one.1 (numbers ∷ rounds) end (refl, one.2.1, on);
}

pub rounds_end : (start : Machine) (c : ConnNo) (m : Machine) → AreRoundsSoFar start c m false → Proceeds c (AreAllRounds c) start m
rounds_end start c m so = record { keeps = so.keeps; steps = λ sound later may. so.rest sound later may [] (server_of m later) (refl, refl) }

-- another round follows a round only where fewer calls wait, and none where it changes nothing
pub rounds_fewer : (c : ConnNo) (m n : Machine) (was again : Bool) → was ≡ true → waiting n c + (if again then 1 else 0) ≤ waiting m c
    → waiting n c + (if again then 1 else 0) < waiting m c + (if was then 1 else 0)
rounds_fewer c m n true again first fewer = omega arith
rounds_fewer c m n false again first fewer = absurd cc

-- ---- handing out

-- the frames that are still to be handed out, if there may be more, make up all frames from the start, and their spellings the text
abbrev pub HandsOutSoFar : Machine → ConnNo → List ℕ → Machine → List ℕ → Bool → Type 0
HandsOutSoFar start c before m text true = (frames : List Frame) (end : Machine) → HandsOut m c frames end
    → (all : List Frame) × HandsOut start c all end × (before ++ flat_map spelling all ≡ text ++ flat_map spelling frames)
HandsOutSoFar start c before m text false = (frames : List Frame) × HandsOut start c frames m × (text ≡ before ++ flat_map spelling frames)

pub hands_begin : (m : Machine) (c : ConnNo) (text : List ℕ) → HandsOutSoFar m c text m text true
hands_begin m c text = λ frames end hands. (frames, hands, refl)

pub one_handed : (start : Machine) (c : ConnNo) (before : List ℕ) (m n : Machine) (text text' : List ℕ) (more : Bool) → HandsOutOne m c text more n text'
    → HandsOutSoFar start c before m text true → HandsOutSoFar start c before n text' more
one_handed start c before m n text text' true one so = λ frames end hands.
    let f = one.0 in
    let all = so (f ∷ frames) end (one.1, subst (λ n. HandsOut n c frames end) one.2 hands) in
    (all.0, all.1, all.2 ∙ (sym (append_assoc text (spelling f) (flat_map spelling frames)) ∙ ap (λ t. t ++ flat_map spelling frames) (sym one.3)))
one_handed start c before m n text text' false one so =
    let all = so [] n (one.0, one.1) in
    (all.0, all.1, one.2 ∙ (sym (append-nil text) ∙ sym all.2))
