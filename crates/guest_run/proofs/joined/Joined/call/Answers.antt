use Rattle.std.proofs.Common.{◌∙◌}
use Rattle.guest_run.proofs.CallLaws.{asking, asking_over, begun, needs_asked, sent, gathers, refused, told, gets, ends}
use Rattle.guest_run.proofs.joined.Joined.call.Goals as goal

pub unreachable-requires : goal.unreachable-requires
unreachable-requires c =
    let r = c.requires in
    let asked = asking c.args.self.now c.args.call c.args.mem r.whole r.proper r.now in
    c.in_default.not-Started _ (begun asked _ _ _ _ _ (asking_over _ _ _ r.whole r.proper r.now) (c.in_ok-number.ensures asked.caller)).0

pub returns-then-not-branch : goal.returns-then-not-branch
returns-then-not-branch c = λ asked over.
    let came = sent asked _ _ _ _ _ _ _ _ over (c.in_ok-number.ensures asked.caller) c.in-Started.is c.in_ok-to_server.ensures in
    let needs = needs_asked asked _ _ _ _ over (c.slice-needs.ensures ∙ c.needs.ensures) in
    let stops = rw c.if-not-branch.true at c.in_ok-gather.ensures in
    refused asked _ _ _ _ came (stops _ needs)

pub returns-then-not-branch-2 : goal.returns-then-not-branch-2
returns-then-not-branch-2 c = λ asked over.
    let came = sent asked _ _ _ _ _ _ _ _ over (c.in_ok-number.ensures asked.caller) c.in-Started.is c.in_ok-to_server.ensures in
    let needs = needs_asked asked _ _ _ _ over (c.slice-needs.ensures ∙ c.needs.ensures) in
    let on = rw c.if-not-branch.false at c.in_ok-gather.ensures in
    let way = gathers asked _ _ _ came (on _ needs) in
    let stops = rw c.if-not-branch-2.true at c.in_ok-works.ensures in
    refused asked _ _ _ _ way stops

pub unreachable-requires-in_default-collect : goal.unreachable-requires-in_default-collect
unreachable-requires-in_default-collect c =
    let r = c.requires in
    let asked = asking c.args.self.now c.args.call c.args.mem r.whole r.proper r.now in
    let over = asking_over _ _ _ r.whole r.proper r.now in
    let came = sent asked _ _ _ _ _ _ _ _ over (c.in_ok-number.ensures asked.caller) c.in-Started.is c.in_ok-to_server.ensures in
    let needs = needs_asked asked _ _ _ _ over (c.slice-needs.ensures ∙ c.needs.ensures) in
    let on = rw c.if-not-branch.false at c.in_ok-gather.ensures in
    let way = gathers asked _ _ _ came (on _ needs) in
    let works = rw c.if-not-branch-2.false at c.in_ok-works.ensures in
    let has = told asked _ _ _ _ _ way works c.pieces-pieces.ensures c.in_ok-tell.ensures in
    c.in_default-collect.not-Got _ _ (gets asked _ _ _ _ has c.collect.ensures)

pub returns : goal.returns
returns c = λ asked over.
    let came = sent asked _ _ _ _ _ _ _ _ over (c.in_ok-number.ensures asked.caller) c.in-Started.is c.in_ok-to_server.ensures in
    let needs = needs_asked asked _ _ _ _ over (c.slice-needs.ensures ∙ c.needs.ensures) in
    let on = rw c.if-not-branch.false at c.in_ok-gather.ensures in
    let way = gathers asked _ _ _ came (on _ needs) in
    let works = rw c.if-not-branch-2.false at c.in_ok-works.ensures in
    let has = told asked _ _ _ _ _ way works c.pieces-pieces.ensures c.in_ok-tell.ensures in
    ends asked _ _ _ _ _ _ has c.collect.ensures c.in-Got.is
