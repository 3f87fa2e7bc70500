use Rattle.std.proofs.Common.{◌≡◌, ap, sym, subst, ◌∙◌}
use Rattle.std.specs.Prelude.{IfOk, OnOk}
use Rattle.std.proofs.lemmas.Result.{on_err_weaker}
use Rattle.hub_model.specs.Machine.{frame_takes}
use Rattle.hub_model.specs.Requests.{bytes_in, with_copy, with_error}
use Rattle.hub_model.specs.State.{Connection, Played}
use Rattle.hub_model.specs.declared.event.Reply.{Reply}
use Rattle.hub_model.specs.declared.state.Condition.TheVariants as condition
use Rattle.hub_model.specs.declared.verdict.Verdict.TheVariants as verdict
use Rattle.sp_hub.proofs.Heard.{at_each, attach_done, cancel_done, copy_goes, fault_goes, fork_done, fork_number, goes_there, heard, image_done, join_done, ready_done, refusal_wants, told}
use Rattle.sp_hub.proofs.machine.Core.follow.Goals as goal

pub add_copy-requires-clause-call : goal.add_copy-requires-clause-call
add_copy-requires-clause-call c =
    let h = heard c.args.self.now c.args.no c.args.frame c.args.salt _ (sym c.in-Copy.is ∙ c.requires.verdict) (λ e. cc) in
    goes_there c.args.self.now c.args.no c.args.frame c.args.salt (λ task. with_copy task (bytes_in c.args.frame.body)) (copy_goes c.args.self.now c.args.no c.args.frame c.args.salt h)

pub fail_call-requires-clause-call : goal.fail_call-requires-clause-call
fail_call-requires-clause-call c =
    let h = heard c.args.self.now c.args.no c.args.frame c.args.salt _ (sym c.in-CopyFault.is ∙ c.requires.verdict) (λ e. cc) in
    goes_there c.args.self.now c.args.no c.args.frame c.args.salt (λ task. with_error task c.in-CopyFault.error) (fault_goes c.args.self.now c.args.no c.args.frame c.args.salt c.in-CopyFault.error h)

pub returns-in-Refused-clause-reply : goal.returns-in-Refused-clause-reply
returns-in-Refused-clause-reply c =
    let h = heard c.args.self.now c.args.no c.args.frame c.args.salt _ (sym c.in-Refused.is ∙ c.requires.verdict) (λ e. cc) in
    subst (λ (p : Played). IfOk c.refuse.result (λ r. r ≡ p.0)) (sym h.step) (c.refuse.ensures.reply h.connection h.here)

pub returns-in-Refused-clause-takes : goal.returns-in-Refused-clause-takes
returns-in-Refused-clause-takes c =
    let h = heard c.args.self.now c.args.no c.args.frame c.args.salt _ (sym c.in-Refused.is ∙ c.requires.verdict) (λ e. cc) in
    on_err_weaker c.refuse.result (λ _. refusal_wants c.args.self.now c.args.no c.args.frame c.args.salt c.in-Refused.why h) c.refuse.ensures.err

pub returns-in-Attach-clause-reply : goal.returns-in-Attach-clause-reply
returns-in-Attach-clause-reply c =
    let h = heard c.args.self.now c.args.no c.args.frame c.args.salt _ (sym c.in-Attach.is ∙ c.requires.verdict) (λ e. cc) in
    subst (λ (p : Reply). IfOk c.attach.result (λ r. r ≡ p)) (sym (attach_done c.args.self.now c.args.no c.args.frame c.args.salt h)) c.attach.ensures.reply

pub returns-in-Attach-clause-takes : goal.returns-in-Attach-clause-takes
returns-in-Attach-clause-takes c =
    let h = heard c.args.self.now c.args.no c.args.frame c.args.salt _ (sym c.in-Attach.is ∙ c.requires.verdict) (λ e. cc) in
    on_err_weaker c.attach.result (λ _. ap frame_takes (attach_done c.args.self.now c.args.no c.args.frame c.args.salt h)) c.attach.ensures.err

pub returns-in-Copy-clause-reply : goal.returns-in-Copy-clause-reply
returns-in-Copy-clause-reply c =
    let h = heard c.args.self.now c.args.no c.args.frame c.args.salt _ (sym c.in-Copy.is ∙ c.requires.verdict) (λ e. cc) in
    let g = copy_goes c.args.self.now c.args.no c.args.frame c.args.salt h in
    subst (λ (p : Played). IfOk c.add_copy-in-Copy.result (λ r. r ≡ p.0)) (sym g.step) c.add_copy-in-Copy.ensures.reply

pub returns-in-Copy-clause-state : goal.returns-in-Copy-clause-state
returns-in-Copy-clause-state c =
    let h = heard c.args.self.now c.args.no c.args.frame c.args.salt _ (sym c.in-Copy.is ∙ c.requires.verdict) (λ e. cc) in
    let g = copy_goes c.args.self.now c.args.no c.args.frame c.args.salt h in
    let state = rw c.bytes_in.ensures at (c.add_copy-in-Copy.ensures.state g.connection g.task g.here g.found) in
    subst (λ (p : Played). OnOk c.add_copy-in-Copy.result (c.add_copy-in-Copy.new.self ≡ p.1)) (sym g.step) state

pub returns-in-Copy-clause-takes : goal.returns-in-Copy-clause-takes
returns-in-Copy-clause-takes c =
    let h = heard c.args.self.now c.args.no c.args.frame c.args.salt _ (sym c.in-Copy.is ∙ c.requires.verdict) (λ e. cc) in
    let g = copy_goes c.args.self.now c.args.no c.args.frame c.args.salt h in
    on_err_weaker c.add_copy-in-Copy.result (λ _. ap (λ (p : Played). frame_takes p.0) g.step) c.add_copy-in-Copy.ensures.err

pub returns-in-CopyFault-clause-reply : goal.returns-in-CopyFault-clause-reply
returns-in-CopyFault-clause-reply c =
    let h = heard c.args.self.now c.args.no c.args.frame c.args.salt _ (sym c.in-CopyFault.is ∙ c.requires.verdict) (λ e. cc) in
    sym (ap (λ (p : Played). p.0) (fault_goes c.args.self.now c.args.no c.args.frame c.args.salt c.in-CopyFault.error h).step)

pub returns-in-CopyFault-clause-state : goal.returns-in-CopyFault-clause-state
returns-in-CopyFault-clause-state c =
    let h = heard c.args.self.now c.args.no c.args.frame c.args.salt _ (sym c.in-CopyFault.is ∙ c.requires.verdict) (λ e. cc) in
    let g = fault_goes c.args.self.now c.args.no c.args.frame c.args.salt c.in-CopyFault.error h in
    c.fail_call.ensures g.connection g.task g.here g.found ∙ sym (ap (λ (p : Played). p.1) g.step)

pub image-requires-clause-fresh : goal.image-requires-clause-fresh
image-requires-clause-fresh c =
    let h = heard c.args.self.now c.args.no c.args.frame c.args.salt _ (sym c.in-Image.is ∙ c.requires.verdict) (λ e. cc) in
    at_each c.args.self.now c.args.no c.args.frame c.args.salt (verdict.Image c.in-Image.cookie) (λ (x : Connection). x.condition ≡ condition.Fresh) h (told c.args.self.now c.args.no c.args.frame c.args.salt (verdict.Image c.in-Image.cookie) h).fresh

pub fork-requires-clause-cookies : goal.fork-requires-clause-cookies
fork-requires-clause-cookies c =
    let h = heard c.args.self.now c.args.no c.args.frame c.args.salt _ (sym c.in-Fork.is ∙ c.requires.verdict) (λ e. cc) in
    (told c.args.self.now c.args.no c.args.frame c.args.salt verdict.Fork h).room

pub fork-requires-clause-number : goal.fork-requires-clause-number
fork-requires-clause-number c =
    let h = heard c.args.self.now c.args.no c.args.frame c.args.salt _ (sym c.in-Fork.is ∙ c.requires.verdict) (λ e. cc) in
    fork_number c.args.self.now c.args.no c.args.frame c.args.salt h

pub ready-requires-clause-cookies : goal.ready-requires-clause-cookies
ready-requires-clause-cookies c =
    let h = heard c.args.self.now c.args.no c.args.frame c.args.salt _ (sym c.in-Ready.is ∙ c.requires.verdict) (λ e. cc) in
    (told c.args.self.now c.args.no c.args.frame c.args.salt verdict.Ready h).room

pub returns-in-Join-clause-reply : goal.returns-in-Join-clause-reply
returns-in-Join-clause-reply c =
    let h = heard c.args.self.now c.args.no c.args.frame c.args.salt _ (sym c.in-Join.is ∙ c.requires.verdict) (λ e. cc) in
    subst (λ (p : Played). IfOk c.join.result (λ r. r ≡ p.0)) (sym h.step) (c.join.ensures.reply h.connection)

pub returns-in-Join-clause-takes : goal.returns-in-Join-clause-takes
returns-in-Join-clause-takes c =
    let h = heard c.args.self.now c.args.no c.args.frame c.args.salt _ (sym c.in-Join.is ∙ c.requires.verdict) (λ e. cc) in
    on_err_weaker c.join.result (λ _. ap frame_takes (join_done c.args.self.now c.args.no c.args.frame c.args.salt c.in-Join.cookie h)) c.join.ensures.err

pub returns-in-Image-clause-reply : goal.returns-in-Image-clause-reply
returns-in-Image-clause-reply c =
    let h = heard c.args.self.now c.args.no c.args.frame c.args.salt _ (sym c.in-Image.is ∙ c.requires.verdict) (λ e. cc) in
    subst (λ (p : Played). IfOk c.image.result (λ r. r ≡ p.0)) (sym h.step) (c.image.ensures.reply h.connection)

pub returns-in-Image-clause-takes : goal.returns-in-Image-clause-takes
returns-in-Image-clause-takes c =
    let h = heard c.args.self.now c.args.no c.args.frame c.args.salt _ (sym c.in-Image.is ∙ c.requires.verdict) (λ e. cc) in
    on_err_weaker c.image.result (λ _. ap frame_takes (image_done c.args.self.now c.args.no c.args.frame c.args.salt c.in-Image.cookie h)) c.image.ensures.err

pub returns-in-Fork-clause-reply : goal.returns-in-Fork-clause-reply
returns-in-Fork-clause-reply c =
    let h = heard c.args.self.now c.args.no c.args.frame c.args.salt _ (sym c.in-Fork.is ∙ c.requires.verdict) (λ e. cc) in
    subst (λ (p : Played). IfOk c.fork.result (λ r. r ≡ p.0)) (sym h.step) (c.fork.ensures.reply h.connection h.here)

pub returns-in-Fork-clause-takes : goal.returns-in-Fork-clause-takes
returns-in-Fork-clause-takes c =
    let h = heard c.args.self.now c.args.no c.args.frame c.args.salt _ (sym c.in-Fork.is ∙ c.requires.verdict) (λ e. cc) in
    on_err_weaker c.fork.result (λ _. ap frame_takes (fork_done c.args.self.now c.args.no c.args.frame c.args.salt h)) c.fork.ensures.err

pub returns-in-Ready-clause-reply : goal.returns-in-Ready-clause-reply
returns-in-Ready-clause-reply c =
    let h = heard c.args.self.now c.args.no c.args.frame c.args.salt _ (sym c.in-Ready.is ∙ c.requires.verdict) (λ e. cc) in
    subst (λ (p : Played). IfOk c.ready.result (λ r. r ≡ p.0)) (sym h.step) (c.ready.ensures.reply h.connection h.here)

pub returns-in-Ready-clause-takes : goal.returns-in-Ready-clause-takes
returns-in-Ready-clause-takes c =
    let h = heard c.args.self.now c.args.no c.args.frame c.args.salt _ (sym c.in-Ready.is ∙ c.requires.verdict) (λ e. cc) in
    on_err_weaker c.ready.result (λ _. ap frame_takes (ready_done c.args.self.now c.args.no c.args.frame c.args.salt h)) c.ready.ensures.err

pub returns-in-Cancel-clause-reply : goal.returns-in-Cancel-clause-reply
returns-in-Cancel-clause-reply c =
    let h = heard c.args.self.now c.args.no c.args.frame c.args.salt _ (sym c.in-Cancel.is ∙ c.requires.verdict) (λ e. cc) in
    subst (λ (p : Played). IfOk c.cancel.result (λ r. r ≡ p.0)) (sym h.step) (c.cancel.ensures.reply h.connection)

pub returns-in-Cancel-clause-takes : goal.returns-in-Cancel-clause-takes
returns-in-Cancel-clause-takes c =
    let h = heard c.args.self.now c.args.no c.args.frame c.args.salt _ (sym c.in-Cancel.is ∙ c.requires.verdict) (λ e. cc) in
    on_err_weaker c.cancel.result (λ _. ap frame_takes (cancel_done c.args.self.now c.args.no c.args.frame c.args.salt c.in-Cancel.cookie h)) c.cancel.ensures.err
