use Rattle.std.proofs.Common.{ℕ, List, ◌++◌, ap, ◌∙◌}
use Rattle.guest_run.specs.declared.calling.Called.TheVariants.{Answered, Refused}
use Rattle.guest_run.proofs.RunLaws.{answered, becomes_of_line, proper_call, refused, taken_call}
use Rattle.guest_run.proofs.running.tell_call.Goals as goal

pub returns-in_ok-extend-in-Answered : goal.returns-in_ok-extend-in-Answered
returns-in_ok-extend-in-Answered c =
    let line = c.args.line.now in
    let call = c.args.call.now in
    let runs = c.requires.runs in
    let becomes = becomes_of_line c.args.joined.now c.call.new.self line call _ _ _ (Answered c.in-Answered.answer c.in-Answered.mem)
    c.copy.ensures c.in_ok-mem.ensures c.in-Answered.is c.in_ok-answer.ensures in (
      c.in_ok-row-in-Answered.row,
      c.in_ok-extend-in-Answered.ensures.ok ∙ ap (λ (row : List ℕ). c.args.rows.now ++ row) c.slice.ensures.value,
      λ pid rest. answered c.args.guest.now pid c.args.number c.args.joined.now c.call.new.self line call c.in-Answered.mem c.in-Answered.answer _
          c.ranges.number.fits (proper_call line call runs c.requires.proper) (taken_call line call runs c.requires.inside) runs becomes
          c.in_ok-row-in-Answered.ensures rest,
    )

pub returns-in_ok-extend-in-Refused : goal.returns-in_ok-extend-in-Refused
returns-in_ok-extend-in-Refused c =
    let line = c.args.line.now in
    let call = c.args.call.now in
    let runs = c.requires.runs in
    let becomes = becomes_of_line c.args.joined.now c.call.new.self line call _ _ _ Refused c.copy.ensures c.in_ok-mem.ensures c.in-Refused.is c.in_ok-answer.ensures in (
      c.in_ok-row-in-Refused.row,
      c.in_ok-extend-in-Refused.ensures.ok ∙ ap (λ (row : List ℕ). c.args.rows.now ++ row) c.slice-in-Refused.ensures.value,
      λ pid rest. refused c.args.guest.now pid c.args.number c.args.joined.now c.call.new.self line call _
          (proper_call line call runs c.requires.proper) (taken_call line call runs c.requires.inside) runs becomes
          c.in_ok-row-in-Refused.ensures rest,
    )
