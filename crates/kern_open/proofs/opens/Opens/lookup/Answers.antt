use Rattle.std.proofs.Common.{sym}
use Rattle.kern_open.proofs.Lives.{no_number}
use Rattle.kern_open.proofs.opens.Opens.lookup.Goals as goal

pub unreachable-requires : goal.unreachable-requires
unreachable-requires c = no_number c.self.inside.procs c.self.inside.files c.args.pid.0 c.args.fd c.in-Some.file c.self.invariant c.in-Some.ensures (sym c.in_default-number.ensures)
