use Rattle.std.proofs.Common.{refl, sym, ◌∙◌}
use Rattle.kern_open.proofs.Keys.{counted_file, file_seen}
use Rattle.kern_open.proofs.Lives.{nothing_held}
use Rattle.kern_open.proofs.opens.Opens.set_file.Goals as goal

pub unreachable-requires : goal.unreachable-requires
unreachable-requires c =
    nothing_held c.self.inside.procs c.self.inside.files c.args.pid.0 c.args.fd c.in-Some.key c.self.invariant c.in-Some.ensures
    (sym (c.in_default-copied.ensures ∙ c.get.ensures.value))

pub invariant_of-self : goal.invariant_of-self
invariant_of-self c =
    counted_file c.self.inside.procs c.self.inside.procs c.self.inside.files c.set.new.self c.args.self.now c.args.pid.0 c.args.fd c.in-Some.key c.in-Some-copied.shared _
    c.self.invariant c.get.ensures.sound (sym (c.in-Some-copied.ensures ∙ c.get.ensures.value)) refl c.set.ensures

pub returns : goal.returns
returns c row there =
    file_seen c.self.inside.procs c.self.inside.procs c.self.inside.files c.set.new.self c.args.self.now c.args.pid.0 c.args.fd c.in-Some.key c.in-Some-copied.shared row _
    c.self.view_is c.in-Some.ensures (sym (c.in-Some-copied.ensures ∙ c.get.ensures.value)) c.set.ensures there
