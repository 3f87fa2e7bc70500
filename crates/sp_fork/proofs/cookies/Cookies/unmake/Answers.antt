use Rattle.std.proofs.Common.{◌≡◌, true, false, sym, ap, ◌∙◌}
use Rattle.std.specs.Prelude.{is_some, Option}
use Rattle.sp_fork.proofs.Jars.{one_less_unused}
use Rattle.sp_fork.proofs.Unmade.{as_before, last_there, one_unmade}
use Rattle.sp_fork.specs.declared.unused.Unused.{Unused}
use Rattle.sp_fork.proofs.cookies.Cookies.unmake.Goals as goal

pub invariant_of-self : goal.invariant_of-self
invariant_of-self c = one_unmade c.self.inside.unused c.remove.new.self c.self.inside.given c.remove.ensures.table c.self.invariant

pub invariant_of-self-else-is_some : goal.invariant_of-self-else-is_some
invariant_of-self-else-is_some c =
    one_less_unused c.self.inside.unused c.remove.new.self c.self.inside.given c.self.inside.given c.remove.ensures.table c.self.invariant

pub returns-then-is_some : goal.returns-then-is_some
returns-then-is_some c jar x sound made =
    as_before c.self.inside.unused c.remove.new.self c.self.inside.given c.args.self.now jar x c.remove.ensures.table c.self.view_is sound made

pub returns-else-is_some : goal.returns-else-is_some
returns-else-is_some c jar x sound made =
    let there = last_there c.self.inside.unused c.self.inside.given c.args.self.now jar x c.self.view_is made in
    let is : is_some c.remove.result ≡ true = ap (λ (o : Option Unused). is_some o) (c.remove.ensures.value ∙ there) in
    let no : false ≡ true = sym c.if-is_some.false ∙ (c.is_some.ensures ∙ is) in
    absurd cc
