use Rattle.std.proofs.Common.{sym}
use Rattle.kern_open.proofs.Lives.{nothing_held}
use Rattle.kern_open.proofs.opens.Opens.file.Goals as goal

pub unreachable-requires : goal.unreachable-requires
unreachable-requires c = nothing_held c.self.inside.procs c.self.inside.files c.args.pid.0 c.args.fd c.in-Some.key c.self.invariant c.in-Some.ensures (sym c.in_default-get.ensures.value)
