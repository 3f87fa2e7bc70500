use Rattle.std.proofs.Common.{◌∙◌, Some, ap, cond}
use Rattle.std.specs.FinMap.{get, remove}
use Rattle.kern_local.specs.Names.{Named, is_socket}
use Rattle.kern_local.proofs.NameLemmas.{named_again, named_else, known_with, known_again}
use Rattle.kern_local.proofs.names.rename.Goals as goal

pub returns-then-old-node-clause-ok : goal.returns-then-old-node-clause-ok
returns-then-old-node-clause-ok c =
    c.in_ok-insert.ensures.ok ∙ named_again c.args.sockets.now c.args.nodes.now c.args.node c.args.s c.requires.known (c.requires.had ∙ ap Some c.if-old-node.true)

pub returns-then-old-node-clause-known : goal.returns-then-old-node-clause-known
returns-then-old-node-clause-known c =
    let had = c.requires.had ∙ ap Some c.if-old-node.true in
    rw (c.in_ok-insert.ensures.ok ∙ named_again c.args.sockets.now c.args.nodes.now c.args.node c.args.s c.requires.known had)
    (known_again c.args.sockets.now c.args.nodes.now c.args.node c.args.s c.requires.known had)

pub returns-clause-ok : goal.returns-clause-ok
returns-clause-ok c =
    c.unname.ensures
    ∙ (ap (λ (m : Named). cond (is_socket (get m c.args.old) c.args.s) (remove m c.args.old) m) c.in_ok-insert.ensures.ok
    ∙ named_else c.args.sockets.now c.args.nodes.now c.args.old c.args.node c.args.s c.requires.known c.requires.had c.if-old-node.false)

pub returns-clause-known : goal.returns-clause-known
returns-clause-known c =
    rw (
      c.unname.ensures
          ∙ (ap (λ (m : Named). cond (is_socket (get m c.args.old) c.args.s) (remove m c.args.old) m) c.in_ok-insert.ensures.ok
          ∙ named_else c.args.sockets.now c.args.nodes.now c.args.old c.args.node c.args.s c.requires.known c.requires.had c.if-old-node.false),
      c.swap.ensures.table,
    )
    (known_with c.args.sockets.now c.args.nodes.now c.args.node c.args.s c.requires.known)
