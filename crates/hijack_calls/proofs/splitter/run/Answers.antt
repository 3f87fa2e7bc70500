use Rattle.std.proofs.Common.{◌≤◌, ◌+◌, ◌-◌, ◌∙◌, sym, arith, length-append}
use Rattle.hijack_calls.proofs.EndLaws.{steps_end}
use Rattle.hijack_calls.proofs.RunLaws.{begun, either_risen, failed, fewer, no_poll, one_more, replied, some_left}
use Rattle.hijack_calls.proofs.splitter.run.Goals as goal

pub loop-i-init : goal.loop-i-init
loop-i-init g c = rw c.none-answers.ensures (record { count = omega arith; ends = steps_end _ _ c.args.route c.requires; runs = begun _ _ _ _; rump = λ cause. omega arith; host = λ cause. omega arith })

pub returns-in-Err-clause-runs : goal.returns-in-Err-clause-runs
returns-in-Err-clause-runs g c =
    failed _ c.loop-i.answers c.in-Ask.side c.in-Ask.step c.in-Ask.field-2 c.in-Err.fault c.loop-i.rump c.loop-i.host c.loop-i.mem _ _ _ _ _
    (rw c.slice.ensures at (sym c.turn.ensures ∙ c.in-Ask.is)) c.in-Err.ensures.asked c.loop-i.invariant.runs

pub returns-in-Reply-clause-runs : goal.returns-in-Reply-clause-runs
returns-in-Reply-clause-runs g c =
    replied _ c.loop-i.answers c.in-Reply.by c.in-Reply.answer c.in-Reply.change c.loop-i.rump c.loop-i.host c.loop-i.mem _ _ _
    (rw c.slice.ensures at (sym c.turn.ensures ∙ c.in-Reply.is)) c.loop-i.invariant.runs

pub unreachable-requires : goal.unreachable-requires
unreachable-requires g c = no_poll _ c.loop-i.answers _ (rw c.slice.ensures at (sym c.turn.ensures ∙ c.in-Poll.is)) c.loop-i.invariant.ends

pub push-requires : goal.push-requires
push-requires g c =
    let e = rw c.slice.ensures at (sym c.turn.ensures ∙ c.in-Ask.is) in
    let some = some_left _ _ (fewer _ c.loop-i.answers c.in-Ask.side c.in-Ask.step c.in-Ask.field-2 c.in-Ok.answer c.loop-i.i e c.loop-i-test.true c.loop-i.invariant.ends) in
    let count = c.loop-i.invariant.count in
    omega (arith, some, count)

pub loop-i-preserved : goal.loop-i-preserved
loop-i-preserved g c =
    let e = rw c.slice.ensures at (sym c.turn.ensures ∙ c.in-Ask.is) in
    let i = c.loop-i.invariant in
    rw c.push.ensures (record {
      count = grind (arith, length-append);
      ends = fewer _ c.loop-i.answers c.in-Ask.side c.in-Ask.step c.in-Ask.field-2 c.in-Ok.answer c.loop-i.i e c.loop-i-test.true i.ends;
      runs = one_more _ c.loop-i.answers c.in-Ask.side c.in-Ask.step c.in-Ask.field-2 c.in-Ok.answer c.in-Ok.back c.loop-i.rump c.loop-i.host c.loop-i.mem _ _ _ _ _ e c.in-Ok.ensures.asked i.runs;
      rump = λ cause. let a = i.rump cause in let b = c.in-Ok.ensures.rump cause in omega (arith, a, b);
      host = λ cause. let a = i.host cause in let b = c.in-Ok.ensures.host cause in omega (arith, a, b);
    })

pub unreachable-requires-2 : goal.unreachable-requires-2
unreachable-requires-2 g c = let some = some_left _ _ c.loop-i.invariant.ends in let past = c.loop-i-test.false in omega (arith, some, past)

pub returns-in-Err-clause-risen : goal.returns-in-Err-clause-risen
returns-in-Err-clause-risen g c =
    let r = g.R.Side in
    let h = g.H.Side in
    either_risen (r.faults c.args.rump.now) (r.faults c.loop-i.rump) (r.faults c.ask.new.rump) (h.faults c.args.host.now) (h.faults c.loop-i.host) (h.faults c.ask.new.host)
    c.in-Err.fault c.loop-i.invariant.rump c.loop-i.invariant.host c.in-Err.ensures.risen
