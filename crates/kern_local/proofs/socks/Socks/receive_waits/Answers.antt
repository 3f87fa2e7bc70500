use Rattle.std.proofs.Common.{◌∙◌, sym}
use Rattle.kern_local.proofs.WaitLemmas.{receive_waits_where}
use Rattle.kern_local.proofs.socks.Socks.receive_waits.Goals as goal

pub returns : goal.returns
returns c =
    let where_it_says = receive_waits_where c.args.self.now c.args.s.0 c.args.max in
    (λ e. where_it_says.1 (sym c.receive_ruling.ensures ∙ c.waits.ensures.0 e), λ w. c.waits.ensures.1 (c.receive_ruling.ensures ∙ where_it_says.0 w))
