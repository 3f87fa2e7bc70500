use Rattle.std.proofs.Common.{sym, subst}
use Rattle.hub_model.specs.Cookies.{ledger_of}
use Rattle.hub_model.specs.State.{Machine}
use Rattle.sp_hub.specs.Handing.{HasProcesses}
use Rattle.sp_hub.proofs.Backs.{processes}
use Rattle.sp_hub.proofs.machine.Core.cancel.Goals as goal

pub take_back-requires : goal.take_back-requires
take_back-requires c = subst (λ (m : Machine). HasProcesses (ledger_of m)) (sym c.self.view_is) (processes c.args.self.now c.requires.sound)
