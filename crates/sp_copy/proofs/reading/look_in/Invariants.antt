use Rattle.std.proofs.Common.{◌≡◌, drop}
use Rattle.sp_copy.specs.Reading.{read_from}
use Rattle.sp_copy.proofs.reading.look_in.Given as goal

abbrev pub invariant-loop-part : goal.invariant-loop-part
invariant-loop-part l = read_from (drop l.part-index l.parts) l.need ≡ read_from l.parts l.need
