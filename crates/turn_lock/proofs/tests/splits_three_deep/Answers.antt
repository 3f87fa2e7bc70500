use Rattle.std.proofs.Common.{ap, []}
use Rattle.turn_lock.proofs.Owing.{paid_first, paid_child, later_self, later_play, later_split, later_join, whole_first}
use Rattle.turn_lock.proofs.tests.splits_three_deep.Goals as goal

-- each pass from its beginning to where it is joined, the last one first
pub close-tape-requires-clause-whole : goal.close-tape-requires-clause-whole
close-tape-requires-clause-whole g c =
    let first = ap (λ p. p.known) c.in_ok-turn.ensures.first in
    let first0 = c.in_ok-turn.first.known in
    let first1 = c.play.new.pass.known in
    let child0 = c.split-child.result.known in
    let grand0 = c.split-grandchild.result.known in
    let last0 = c.split-last.result.known in
    let child = ap (λ p. p.known) c.split-child.ensures.child in
    let grand = ap (λ p. p.known) c.split-grandchild.ensures.child in
    let last = ap (λ p. p.known) c.split-last.ensures.child in
    let a = later_play last0 last0 c.play-2.new.pass.known _ _ [] (later_self last0 (paid_child grand0 last0 last)) c.play-2.ensures.own c.play-2.ensures.joined in
    let b = later_split grand0 grand0 c.split-last.new.pass.known last0 [] (later_self grand0 (paid_child child0 grand0 grand)) (ap (λ p. p.known) c.split-last.ensures.parent) last in
    let b' = later_join grand0 c.play-3.new.pass.known c.join.new.pass.known last0 c.play-2.new.pass.known []
    (later_play grand0 c.split-last.new.pass.known c.play-3.new.pass.known _ _ _ b c.play-3.ensures.own c.play-3.ensures.joined) a (ap (λ p. p.known) c.join.ensures.both) in
    let d = later_split child0 child0 c.split-grandchild.new.pass.known grand0 [] (later_self child0 (paid_child first1 child0 child)) (ap (λ p. p.known) c.split-grandchild.ensures.parent) grand in
    let d' = later_join child0 c.play-4.new.pass.known c.join-2.new.pass.known grand0 c.join.new.pass.known []
    (later_play child0 c.split-grandchild.new.pass.known c.play-4.new.pass.known _ _ _ d c.play-4.ensures.own c.play-4.ensures.joined) b' (ap (λ p. p.known) c.join-2.ensures.both) in
    let e = later_play first0 first0 first1 _ _ [] (later_self first0 (paid_first _ first0 first)) c.play.ensures.own c.play.ensures.joined in
    let e' = later_split first0 first1 c.split-child.new.pass.known child0 [] e (ap (λ p. p.known) c.split-child.ensures.parent) child in
    let e'' = later_join first0 c.split-child.new.pass.known c.join-3.new.pass.known child0 c.join-2.new.pass.known [] e' d' (ap (λ p. p.known) c.join-3.ensures.both) in
    whole_first _ first0 c.play-5.new.pass.known first (later_play first0 c.join-3.new.pass.known c.play-5.new.pass.known _ _ [] e'' c.play-5.ensures.own c.play-5.ensures.joined)
