-- What each thing that happens to a request makes of its stage.
use Rattle.std.proofs.Common.{◌≡◌, inl, inr, ℕ, zero, suc, ◌+◌, true, false, List, [], ◌∷◌, ◌++◌, length, take, Option, Some, slice_get, refl, sym, ap, ◌∙◌, subst, arith, append-nil}
use Rattle.sp_base.specs.Needs.{needs_of}
use Rattle.sp_base.specs.declared.call.Call.{Call}
use Rattle.sp_base.specs.declared.errno.Errno.{Errno}
use Rattle.sp_base.specs.declared.names.ConnNo.{ConnNo}
use Rattle.sp_base.specs.declared.names.Pid.{Pid}
use Rattle.sp_base.specs.declared.names.ReqNo.{ReqNo}
use Rattle.sp_base.specs.declared.names.SpError.TheVariants as error
use Rattle.sp_base.specs.declared.need.Need.{Need}
use Rattle.sp_frames.specs.declared.frame.Body.{Body}
use Rattle.sp_frames.specs.declared.frame.Body.TheVariants as body
use Rattle.sp_frames.specs.declared.frame.Frame.{Frame}
use Rattle.kern_model.specs.declared.journal.Entry.{Entry}
use Rattle.kern_model.specs.declared.journal.Who.TheVariants.{Request}
use Rattle.kern_model.specs.declared.operation.Ins.{Ins}
use Rattle.kern_model.specs.declared.operation.Ins.TheVariants.{Given, Fault}
use Rattle.kern_model.specs.declared.operation.Op.{Op}
use Rattle.kern_model.specs.declared.operation.Op.TheVariants as op
use Rattle.hub_model.specs.Frames.{answered_kind, ask, refusal, told}
use Rattle.hub_model.specs.Journal.{nothing_read}
use Rattle.hub_model.specs.Verdict.{copy_by_error, error_in, index_in}
use Rattle.hub_model.specs.declared.state.OpenCall.{OpenCall}
use Rattle.hub_model.specs.declared.verdict.Verdict.TheVariants.{CopyFault}
use Rattle.hub_law.specs.Serves.{Answers, AsksFor, Brings, BringAll, BringIns, Tells, asks_from, first_asks}
use Rattle.hub_law.proofs.Keys.{HasNone, IsBy, only_push}
use Rattle.hub_law.proofs.Lists.{get_end}
use Rattle.hub_law.proofs.Stages.{Final, IsFailing, IsGathering, IsUntouched}
use Rattle.hub_law.proofs.Stages.Final.{Served, Unserved}

-- ---- copies and asks

bring_push : (index : ℕ) (copies : List Frame) (got : List (List ℕ)) (f : Frame) (bytes : List ℕ)
    → BringAll index copies got → Brings (index + length got) f.body bytes → BringAll index (copies ++ f ∷ []) (got ++ bytes ∷ [])
bring_push index [] [] f bytes h b = (subst (λ (i : ℕ). Brings i f.body bytes) (omega arith) b, tt)
bring_push index [] (piece ∷ got) f bytes h b = absurd h
bring_push index (copy ∷ copies) [] f bytes h b = absurd h
bring_push index (copy ∷ copies) (piece ∷ got) f bytes h b =
    let z : index + suc (length got) ≡ index + 1 + length got = omega arith in
    (h.0, bring_push (index + 1) copies got f bytes h.1 (subst (λ (i : ℕ). Brings i f.body bytes) z b))

bring_same : (index : ℕ) (copies : List Frame) (got : List (List ℕ)) → BringAll index copies got → length copies ≡ length got
bring_same index [] [] h = refl
bring_same index [] (piece ∷ got) h = absurd h
bring_same index (copy ∷ copies) [] h = absurd h
bring_same index (copy ∷ copies) (piece ∷ got) h = ap suc (bring_same (index + 1) copies got h.1)

asks_push : (r : ReqNo) (index count : ℕ) (needs : List Need) (need : Need) → slice_get needs count ≡ Some need
    → asks_from r index (take (suc count) needs) ≡ asks_from r index (take count needs) ++ ask r (index + count) need ∷ []
asks_push r index count [] need h = absurd (cc)
asks_push r index zero (first ∷ needs) need h =
    let same : first ≡ need = cc in
    let z : index + 0 ≡ index = omega arith in
    rw (z, same) refl
asks_push r index (suc count) (first ∷ needs) need h =
    let z : index + suc count ≡ index + 1 + count = omega arith in
    rw z (ap (λ fs. ask r index first ∷ fs) (asks_push r (index + 1) count needs need h))

length_push : (frames : List Frame) (f : Frame) → suc (length frames) ≡ length (frames ++ f ∷ [])
length_push [] f = refl
length_push (x ∷ frames) f = ap suc (length_push frames f)

-- the request of a call comes
pub opens : (journal : List Entry) (c : ConnNo) (r : ReqNo) (frames answers : List Frame) (task : Option OpenCall) (f : Frame) (call : Call)
    → IsUntouched journal c r frames answers task → AsksFor f.body (op.Sys call) → IsGathering journal c r (frames ++ f ∷ []) answers call [] false
opens journal c r frames answers task f call u asks = record {
  request = f;
  copies = [];
  comes = ap (λ fs. fs ++ f ∷ []) u.came;
  asks = asks;
  brings = tt;
  goes = u.said;
  none = u.none;
}

-- a copy comes for what was asked
pub copied : (journal : List Entry) (c : ConnNo) (r : ReqNo) (frames answers : List Frame) (call : Call) (got : List (List ℕ)) (f : Frame) (bytes : List ℕ)
    → IsGathering journal c r frames answers call got true → Brings (length got) f.body bytes
    → IsGathering journal c r (frames ++ f ∷ []) answers call (got ++ bytes ∷ []) false
copied journal c r frames answers call got f bytes g b = record {
  request = g.request;
  copies = g.copies ++ f ∷ [];
  comes = ap (λ fs. fs ++ f ∷ []) g.comes;
  asks = g.asks;
  brings = (let z : length got ≡ 0 + length got = omega arith in bring_push 0 g.copies got f bytes g.brings (subst (λ (i : ℕ). Brings i f.body bytes) z b));
  goes = g.goes ∙ ap (λ (count : ℕ). first_asks r count (op.Sys call)) (length_push g.copies f);
  none = g.none;
}

-- an error comes for what was asked
pub faulted : (journal : List Entry) (c : ConnNo) (r : ReqNo) (frames answers : List Frame) (call : Call) (got : List (List ℕ)) (f : Frame) (why : Errno)
    → IsGathering journal c r frames answers call got true → index_in f.body ≡ Some (length got) → copy_by_error (error_in f.body) ≡ CopyFault why
    → IsFailing journal c r (frames ++ f ∷ []) answers call why
faulted journal c r frames answers call got f why g index wrong = record {
  request = g.request;
  copies = g.copies ++ f ∷ [];
  comes = ap (λ fs. fs ++ f ∷ []) g.comes;
  asks = g.asks;
  brings = (g.copies, got, f, refl, g.brings, index, wrong);
  goes = g.goes ∙ ap (λ (count : ℕ). first_asks r count (op.Sys call)) (length_push g.copies f);
  none = g.none;
}

-- the next of what a call reads is asked for
pub asked : (journal : List Entry) (c : ConnNo) (r : ReqNo) (frames answers : List Frame) (call : Call) (got : List (List ℕ)) (need : Need)
    → IsGathering journal c r frames answers call got false → slice_get (needs_of call) (length got) ≡ Some need
    → IsGathering journal c r frames (answers ++ ask r (length got) need ∷ []) call got true
asked journal c r frames answers call got need g next =
    let same : length g.copies ≡ length got = bring_same 0 g.copies got g.brings in
    let z : 0 + length got ≡ length got = omega arith in
    record {
      request = g.request;
      copies = g.copies;
      comes = g.comes;
      asks = g.asks;
      brings = g.brings;
      goes = rw same (ap (λ fs. fs ++ ask r (length got) need ∷ []) (g.goes ∙ ap (λ (count : ℕ). first_asks r count (op.Sys call)) same)
          ∙ sym (asks_push r 0 (length got) (needs_of call) need next ∙ ap (λ (i : ℕ). asks_from r 0 (take (length got) (needs_of call)) ++ ask r i need ∷ []) z));
      none = g.none;
    }

-- ---- a call is performed, or refused

module _ (journal : List Entry) (c : ConnNo) (r : ReqNo) (frames answers : List Frame) (call : Call) (ins : Ins)
    (request : Frame) (copies : List Frame) (comes : frames ≡ request ∷ copies) (asks : AsksFor request.body (op.Sys call)) (brings : BringIns copies ins)
    (goes : answers ≡ first_asks r (length copies) (op.Sys call)) (none : HasNone journal c r) where
  all_copies : frames ≡ request ∷ (copies ++ [])
  all_copies = comes ∙ ap (λ fs. request ∷ fs) (sym (append-nil copies))

  call_performed : (pid : Pid) (e : Entry) → IsBy pid (Request c r) (op.Sys call) ins e
      → Final (journal ++ e ∷ []) c r frames (answers ++ told r e.outcome (length journal))
  call_performed pid e by = Served (length journal) e (get_end journal e, by.who_is) (only_push c r journal e none) (record {
    request = request;
    copies = copies;
    later = [];
    comes = all_copies;
    asks = subst (λ (o : Op). AsksFor request.body o) (sym by.op_is) asks;
    brings = subst (λ (i : Ins). BringIns copies i) (sym by.ins_are) brings;
    says = told r e.outcome (length journal);
    tells = subst (λ (o : Op). Tells r (length journal) e o (told r e.outcome (length journal))) (sym by.op_is) refl;
    rest = [];
    goes = append-nil (answers ++ told r e.outcome (length journal))
        ∙ ap (λ fs. fs ++ told r e.outcome (length journal)) (goes ∙ ap (λ (o : Op). first_asks r (length copies) o) (sym by.op_is));
  })

  call_refused : answered_kind request.body ≡ Some 1 → Final journal c r frames (answers ++ refusal r 1 error.Memory ∷ [])
  call_refused kind = Unserved none (inr (inl (record {
    request = request;
    call = call;
    copies = copies;
    later = [];
    comes = all_copies;
    asks = asks;
    ins = ins;
    brings = brings;
    count = length copies;
    next = omega arith;
    says = refusal r 1 error.Memory ∷ [];
    said = inr (refusal r 1 error.Memory, refl, inl (1, error.Memory, kind, (λ e. cc), refl));
    rest = [];
    goes = append-nil (answers ++ refusal r 1 error.Memory ∷ []) ∙ ap (λ fs. fs ++ refusal r 1 error.Memory ∷ []) goes;
  })))

sys_kind : (b : Body) (call : Call) → AsksFor b (op.Sys call) → answered_kind b ≡ Some 1
sys_kind (body.Sys num words) call asks = refl
sys_kind _ call asks = absurd asks

pub gathered_performed : (journal : List Entry) (c : ConnNo) (r : ReqNo) (frames answers : List Frame) (call : Call) (got : List (List ℕ)) (pid : Pid) (e : Entry)
    → IsGathering journal c r frames answers call got false → IsBy pid (Request c r) (op.Sys call) (Given got) e
    → Final (journal ++ e ∷ []) c r frames (answers ++ told r e.outcome (length journal))
gathered_performed journal c r frames answers call got pid e g by = call_performed journal c r frames answers call (Given got) g.request g.copies g.comes g.asks g.brings g.goes g.none pid e by

pub gathered_refused : (journal : List Entry) (c : ConnNo) (r : ReqNo) (frames answers : List Frame) (call : Call) (got : List (List ℕ))
    → IsGathering journal c r frames answers call got false → Final journal c r frames (answers ++ refusal r 1 error.Memory ∷ [])
gathered_refused journal c r frames answers call got g = call_refused journal c r frames answers call (Given got) g.request g.copies g.comes g.asks g.brings g.goes g.none (sys_kind g.request.body call g.asks)

pub failed_performed : (journal : List Entry) (c : ConnNo) (r : ReqNo) (frames answers : List Frame) (call : Call) (why : Errno) (pid : Pid) (e : Entry)
    → IsFailing journal c r frames answers call why → IsBy pid (Request c r) (op.Sys call) (Fault why) e
    → Final (journal ++ e ∷ []) c r frames (answers ++ told r e.outcome (length journal))
failed_performed journal c r frames answers call why pid e g by = call_performed journal c r frames answers call (Fault why) g.request g.copies g.comes g.asks g.brings g.goes g.none pid e by

pub failed_refused : (journal : List Entry) (c : ConnNo) (r : ReqNo) (frames answers : List Frame) (call : Call) (why : Errno)
    → IsFailing journal c r frames answers call why → Final journal c r frames (answers ++ refusal r 1 error.Memory ∷ [])
failed_refused journal c r frames answers call why g = call_refused journal c r frames answers call (Fault why) g.request g.copies g.comes g.asks g.brings g.goes g.none (sys_kind g.request.body call g.asks)

-- ---- a request that is answered at once

-- with an entry
pub performed_at_once : (journal : List Entry) (c : ConnNo) (r : ReqNo) (frames answers : List Frame) (task : Option OpenCall) (f : Frame) (pid : Pid) (operation : Op) (e : Entry) (says : List Frame)
    → IsUntouched journal c r frames answers task → AsksFor f.body operation → IsBy pid (Request c r) operation nothing_read e → Tells r (length journal) e operation says
    → Final (journal ++ e ∷ []) c r (frames ++ f ∷ []) (answers ++ says)
performed_at_once journal c r frames answers task f pid operation e says u asks by tells = Served (length journal) e (get_end journal e, by.who_is) (only_push c r journal e u.none) (record {
  request = f;
  copies = [];
  later = [];
  comes = ap (λ fs. fs ++ f ∷ []) u.came;
  asks = subst (λ (o : Op). AsksFor f.body o) (sym by.op_is) asks;
  brings = subst (λ (i : Ins). BringIns [] i) (sym by.ins_are) tt;
  says = says;
  tells = subst (λ (o : Op). Tells r (length journal) e o says) (sym by.op_is) tells;
  rest = [];
  goes = append-nil (answers ++ says) ∙ ap (λ fs. fs ++ says) u.said;
})

-- with none
pub answered_at_once : (journal : List Entry) (c : ConnNo) (r : ReqNo) (frames answers : List Frame) (task : Option OpenCall) (f response : Frame)
    → IsUntouched journal c r frames answers task → Answers journal r f.body response → Final journal c r (frames ++ f ∷ []) (answers ++ response ∷ [])
answered_at_once journal c r frames answers task f response u said = Unserved u.none (inr (inr (record {
  request = f;
  later = [];
  comes = ap (λ fs. fs ++ f ∷ []) u.came;
  says = response ∷ [];
  said = inr (response, refl, said);
  rest = [];
  goes = append-nil (answers ++ response ∷ []) ∙ ap (λ fs. fs ++ response ∷ []) u.said;
})))
