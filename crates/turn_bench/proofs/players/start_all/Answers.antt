use Rattle.std.proofs.Common.{◌≡◌, ◌∙◌, ◌-◌, ◌/◌, ap, subst, sym, arith, List, [], ◌∷◌, ◌++◌}
use Rattle.turn_bench.specs.declared.players.Played.{Played}
use Rattle.turn_bench.specs.Crew.{IsCrew, planned}
use Rattle.turn_bench.proofs.Crews.{lends}
use Rattle.turn_bench.proofs.players.start_all.Goals as goal

pub loop-at-preserved : goal.loop-at-preserved
loop-at-preserved g c =
    let i = c.loop-at.invariant in
    let share = c.loop-at.left / (c.args.threads - c.loop-at.at) in
    let items : c.push_back_reserved.new.self.items ≡ c.loop-at.joiners.items ++ c.in-Ok.joiner ∷ [] = c.push_back_reserved.ensures.items ∙ ap (λ (l : List Played). l ++ c.in-Ok.joiner ∷ []) c.reserve.ensures.items in
    let l = lends c.loop-at.pass c.lend.new.pass c.loop-at.joiners.items c.in-Ok.joiner share i.1 c.in-Ok.ensures.lends in
    let more = ap (planned c.lend.new.pass) items in
    let planned' = l.1 in
    let before = i.2 in
    (c.lend.ensures.of ∙ i.0, subst (IsCrew c.lend.new.pass) (sym items) l.0, omega arith)
