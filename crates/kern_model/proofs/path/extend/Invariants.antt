use Rattle.std.proofs.Common.{◌≡◌, ◌++◌, take}
use Rattle.kern_model.proofs.path.extend.Given as goal

abbrev pub invariant-loop-component : goal.invariant-loop-component
invariant-loop-component l = l.path ≡ l.fn.path ++ take l.component-index l.more
