use Rattle.std.proofs.Common.{refl}
use Rattle.kern_model.proofs.laws.fault_leaves_the_state.Goals as goal

pub returns : goal.returns
returns c = λ s pid op error. refl
