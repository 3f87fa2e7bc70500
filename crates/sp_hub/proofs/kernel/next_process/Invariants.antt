use Rattle.std.proofs.Common.{◌≡◌, ◌-◌}
use Rattle.sp_base.specs.Table.{lowest_unused}
use Rattle.sp_base.specs.declared.limits.TheConstants.{FIRST_PROCESS}
use Rattle.kern_model.specs.Journal.{state_after}
use Rattle.sp_hub.proofs.kernel.next_process.Given as goal

abbrev pub invariant-loop-number : goal.invariant-loop-number
invariant-loop-number l = lowest_unused (state_after l.kernel.items).processes FIRST_PROCESS ≡ lowest_unused (state_after l.kernel.items).processes l.number

abbrev pub decreases-loop-number : goal.decreases-loop-number
decreases-loop-number l = 258 - l.number
