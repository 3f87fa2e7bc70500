use Rattle.std.proofs.Common.{◌≡◌, None, is_some, get_or, sym, ◌∙◌}
use Rattle.kern_nodes.proofs.ShowLaws.{is_live_is}
use Rattle.kern_nodes.proofs.nodes.Nodes.is_live.Goals as goal

pub returns : goal.returns
returns c =
    let same : c.contains_key.result ≡ is_some (get_or c.args.self.now.nodes c.args.node.0 None) =
    c.contains_key.ensures ∙ is_live_is c.args.node.0 (record { view = c.self.view_is; counted = c.self.invariant }) in
    (λ there. sym same ∙ there, λ live. same ∙ live)
