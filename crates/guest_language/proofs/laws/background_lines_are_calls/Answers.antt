use Rattle.guest_language.specs.Facts.{HasFineLines}
use Rattle.guest_language.proofs.FactLaws.{fine_add, fine_push}
use Rattle.guest_language.proofs.Keeping.{script_keeps}
use Rattle.guest_language.proofs.laws.background_lines_are_calls.Goals as goal

pub returns : goal.returns
returns c = script_keeps HasFineLines tt fine_push fine_add
