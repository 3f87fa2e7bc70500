use Rattle.std.proofs.Common.{◌∙◌, sym, subst}
use Rattle.std.specs.FinMap.{insert, remove}
use Rattle.kern_local.specs.Names.{Named, AreKnown, with_name}
use Rattle.kern_local.proofs.NameLemmas.{named_first, known_with, known_back}
use Rattle.kern_local.proofs.names.name.Goals as goal

pub returns-in-Err-clause-known : goal.returns-in-Err-clause-known
returns-in-Err-clause-known c =
    rw (c.in-Err.ensures.err, c.remove.ensures.table, c.in_ok-insert.ensures.ok) (known_back c.args.sockets.now c.args.nodes.now c.args.node c.args.s c.requires.known c.requires.none)

pub returns-in-Ok-clause-ok : goal.returns-in-Ok-clause-ok
returns-in-Ok-clause-ok c = c.in-Ok.ensures.ok ∙ named_first c.args.sockets.now c.args.nodes.now c.args.node c.args.s c.requires.known c.requires.none

pub returns-in-Ok-clause-known : goal.returns-in-Ok-clause-known
returns-in-Ok-clause-known c =
    rw (c.in-Ok.ensures.ok ∙ named_first c.args.sockets.now c.args.nodes.now c.args.node c.args.s c.requires.known c.requires.none, c.in_ok-insert.ensures.ok)
    (known_with c.args.sockets.now c.args.nodes.now c.args.node c.args.s c.requires.known)
