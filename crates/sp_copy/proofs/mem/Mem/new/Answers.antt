use Rattle.std.proofs.Common.{◌≡◌, ◌∙◌, ap, None, Some, Option}
use Rattle.sp_copy.specs.Faults.{fault_of}
use Rattle.sp_copy.proofs.Rising.{rising}
use Rattle.sp_copy.proofs.mem.Mem.new.Goals as goal

-- parts that rise have no fault
pub returns-in-Some-clause-rising : goal.returns-in-Some-clause-rising
returns-in-Some-clause-rising c r =
    let same : c.as_slice.result.now ≡ c.args.parts = c.as_slice.ensures.value ∙ c.into_vec-parts.ensures in
    let none : fault_of c.as_slice.result.now ≡ None = ap fault_of same ∙ rising c.args.parts r in
    let some : Some c.in-Some.fault ≡ fault_of c.as_slice.result.now = c.in-Some.ensures in
    absurd (cc)
