use Rattle.std.proofs.Common.{arith}
use Rattle.hub_model.proofs.Entries.{process_numbers}
use Rattle.sp_hub.proofs.Numbers.{within}
use Rattle.sp_hub.proofs.kernel.next_process.Goals as goal

pub overflow_add-number : goal.overflow_add-number
overflow_add-number c =
    let lt = within _ c.loop-number.number (c.is_live.ensures.0 c.loop-number-test.true) in
    let numbers = process_numbers c.args.kernel.now.items in
    omega (arith, lt, numbers)

pub loop-number-smaller : goal.loop-number-smaller
loop-number-smaller c =
    let lt = within _ c.loop-number.number (c.is_live.ensures.0 c.loop-number-test.true) in
    let numbers = process_numbers c.args.kernel.now.items in
    omega (arith, lt, numbers)
