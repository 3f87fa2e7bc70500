use Rattle.std.proofs.Common.{◌≡◌, sym, subst}
use Rattle.std.specs.Prelude.{OnOk}
use Rattle.client_model.specs.State.{Client}
use Rattle.sp_client.proofs.Needs.{bytes_go_on, text_goes_on}
use Rattle.sp_client.proofs.client.ClientCore.take_in.Goals as goal

pub returns-in-AskBytes-clause-ok : goal.returns-in-AskBytes-clause-ok
returns-in-AskBytes-clause-ok c x here = subst (λ (k : Client). OnOk c.answer.result (c.answer.new.self ≡ k)) (sym (bytes_go_on c.args.self.now c.args.frame.now.number x _ _ _ _ c.in-AskBytes.is)) (c.answer.ensures.ok x here)

pub returns-in-AskText-clause-ok : goal.returns-in-AskText-clause-ok
returns-in-AskText-clause-ok c x here = subst (λ (k : Client). OnOk c.answer-in-AskText.result (c.answer-in-AskText.new.self ≡ k)) (sym (text_goes_on c.args.self.now c.args.frame.now.number x _ _ _ _ c.in-AskText.is)) (c.answer-in-AskText.ensures.ok x here)
