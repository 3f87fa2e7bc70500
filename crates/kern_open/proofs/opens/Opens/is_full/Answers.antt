use Rattle.std.proofs.Common.{◌≡◌, ◌↔◌, ℕ, Option, None, IsTrue, subst}
use Rattle.kern_open.proofs.Lives.{unused_process_is}
use Rattle.kern_open.proofs.opens.Opens.is_full.Goals as goal

pub returns : goal.returns
returns c =
    subst (λ (o : Option ℕ). IsTrue c.is_full.result ↔ (o ≡ None)) (unused_process_is c.self.inside.procs c.self.inside.files c.args.self.now c.self.view_is) c.is_full.ensures
