use Rattle.guest_language.specs.Facts.{HasOwnNames}
use Rattle.guest_language.proofs.FactLaws.{own_add, own_push}
use Rattle.guest_language.proofs.Keeping.{script_keeps}
use Rattle.guest_language.proofs.laws.names_are_distinct.Goals as goal

pub returns : goal.returns
returns c = script_keeps HasOwnNames tt own_push own_add
