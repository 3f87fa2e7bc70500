use Rattle.std.proofs.Common.{◌≡◌, ◌++◌, drop, take, map}
use Rattle.hijack_split.specs.View.{kept_by_exec}
use Rattle.hijack_split.proofs.view.drop_marked.Given as goal

abbrev pub invariant-loop-i : goal.invariant-loop-i
invariant-loop-i l = l.aliases ≡ map kept_by_exec (take l.i l.fn.aliases) ++ drop l.i l.fn.aliases
