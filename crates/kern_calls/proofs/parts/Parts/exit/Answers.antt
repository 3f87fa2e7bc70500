use Rattle.std.proofs.Common.{◌≡◌, ◌≤◌, ◌∙◌, length, None, Some, sym, ap, arith}
use Rattle.sp_base.specs.Table.{at}
use Rattle.kern_model.specs.State.{State, rows_of, with_process}
use Rattle.kern_model.proofs.ExecLaws.{exit_rows}
use Rattle.kern_calls.proofs.parts.Parts.exit.Goals as goal

pub end-requires-clause-closed : goal.end-requires-clause-closed
end-requires-clause-closed c fd =
    let long = c.requires.sound.tables.descriptors c.args.pid.0 c.requires.live in
    let most : length (rows_of c.args.self.now c.args.pid.0) ≤ 128 = omega (arith, long) in
    ap (λ (s : State). at (rows_of s c.args.pid.0) fd) c.close_rows.ensures.after ∙ exit_rows c.args.self.now c.args.pid.0 fd most

pub returns : goal.returns
returns c =
    let after = ap (λ (s : State). with_process s c.args.pid.0 None) (sym c.close_rows.ensures.after) ∙ sym c.end.ensures in
    λ i. Some (sym c.done.ensures i, after i)
