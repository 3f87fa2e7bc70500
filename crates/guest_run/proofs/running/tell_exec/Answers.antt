use Rattle.std.proofs.Common.{List, ℕ, ◌++◌, ◌^◌, ◌<◌, ap, arith, subst, sym, ◌∙◌, refl}
use Rattle.sp_frames.specs.Grammar.{IsName}
use Rattle.guest_run.proofs.RunLaws.{execed}
use Rattle.guest_run.proofs.running.tell_exec.Goals as goal

pub exec-requires-clause-name : goal.exec-requires-clause-name
exec-requires-clause-name c = subst IsName (sym c.in_ok-of.ensures) c.requires.name

pub exec-requires-clause-rest : goal.exec-requires-clause-rest
exec-requires-clause-rest c = (c.requires.rest.0, c.args.number, c.ranges.number.fits, c.requires.rest.1)

pub returns : goal.returns
returns c = (
  _,
  c.in_ok-extend.ensures.ok ∙ ap (λ (row : List ℕ). c.args.rows.now ++ row) c.slice.ensures.value,
  λ pid rest. execed c.args.guest.now pid c.args.number c.args.joined.now c.exec.new.self c.args.line.now c.in_ok-place.place _ _ _
      c.requires.runs (c.in_ok-place.ensures pid c.args.number c.ranges.number.fits rest) refl c.none.ensures c.in_ok-row.ensures,
)
