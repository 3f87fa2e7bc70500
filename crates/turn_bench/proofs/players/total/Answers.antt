use Rattle.std.proofs.Common.{◌≡◌, arith, []}
use Rattle.turn_bench.specs.Crew.{planned}
use Rattle.turn_bench.proofs.Crews.{starts, plays_more, whole, closes_total}
use Rattle.turn_bench.proofs.players.total.Goals as goal

pub close-counter-requires-clause-whole : goal.close-counter-requires-clause-whole
close-counter-requires-clause-whole g c = whole c.take_all_in.new.pass c.take_all_in.ensures.crew

pub returns : goal.returns
returns g c =
    let first = starts c.in_ok-turn.pass _ c.in_ok-turn.ensures.first in
    let none = first.1 in
    let begun = c.start_all-joiners.ensures.planned in
    let played = plays_more c.start_all-joiners.new.pass c.play_all-pass.result c.start_all-joiners.result.joiners.items c.start_all-joiners.result.left c.start_all-joiners.ensures.crew c.play_all-pass.ensures.of c.play_all-pass.ensures.plays in
    let here = played.1 in
    let all = c.take_all_in.ensures.planned in
    let fits = c.ranges.calls.fits in
    let whole_sum : planned c.take_all_in.new.pass [] ≡ c.args.calls = omega arith in
    let total = closes_total c.take_all_in.new.pass c.close-counter.result c.take_all_in.ensures.crew c.close-counter.ensures in
    omega arith
