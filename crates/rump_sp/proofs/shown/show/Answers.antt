use Rattle.std.proofs.Common.{sym, subst, arith}
use Rattle.std.specs.List.{AllByRecursion}
use Rattle.guest_language.specs.Facts.{IsSoundSection}
use Rattle.rump_sp.proofs.TopLaws.{first_sound}
use Rattle.rump_sp.proofs.shown.show.Goals as goal

pub show_run-requires-clause-sound : goal.show_run-requires-clause-sound
show_run-requires-clause-sound g c =
    let sound = c.sections_are_sound.ensures c.args.text.now c.in-Ok.script c.in-Ok.ensures in
    let all = subst (AllByRecursion IsSoundSection) (sym c.sections-2.ensures) sound in
    first_sound c.sections-2.result.now c.section-item.result all (omega (arith, c.in-len1.len_at_least)) c.section-item.is
