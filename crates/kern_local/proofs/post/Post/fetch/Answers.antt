use Rattle.std.proofs.Common.{◌≤◌, length, arith}
use Rattle.kern_local.proofs.TrackLemmas.{held_take}
use Rattle.kern_local.proofs.post.Post.fetch.Goals as goal

pub invariant_of-self : goal.invariant_of-self
invariant_of-self c =
    let le : 1 ≤ length c.self.inside.ring.items = omega (arith, c.len.ensures.len, c.if-len-eq0.false) in
    rw c.pop_front.ensures.items (held_take _ _ 1 le c.self.invariant.0, c.self.invariant.1)
