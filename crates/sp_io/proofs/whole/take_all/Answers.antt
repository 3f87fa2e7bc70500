use Rattle.std.proofs.Common.{◌+◌, ◌≤◌, length, arith}
use Rattle.sp_io.proofs.Known.{takes_piece}
use Rattle.sp_io.proofs.whole.take_all.Goals as goal

pub returns-then-len-room-clause-taken : goal.returns-then-len-room-clause-taken
returns-then-len-room-clause-taken g c =
    let s = g.S.Source in
    let i = c.loop-piece.invariant in
    let few : length c.loop-piece.text + length c.take.new.piece ≤ c.args.most + 1 = omega (arith, c.in_ok-take.ensures.most) in
    takes_piece (s.left c.args.source.now) (s.left c.loop-piece.source) (s.left c.take.new.self) (s.passed c.args.source.now) (s.passed c.loop-piece.source) (s.passed c.take.new.self) c.loop-piece.text c.take.new.piece (c.args.most + 1) few i.taken c.in_ok-take.ensures.left i.passed c.in_ok-take.ensures.passed

pub returns-in_err-extend-clause-taken : goal.returns-in_err-extend-clause-taken
returns-in_err-extend-clause-taken g c =
    let s = g.S.Source in
    let i = c.loop-piece.invariant in
    let few : length c.loop-piece.text + length c.take.new.piece ≤ c.args.most + 1 = omega (arith, c.in_ok-take.ensures.most) in
    takes_piece (s.left c.args.source.now) (s.left c.loop-piece.source) (s.left c.take.new.self) (s.passed c.args.source.now) (s.passed c.loop-piece.source) (s.passed c.take.new.self) c.loop-piece.text c.take.new.piece (c.args.most + 1) few i.taken c.in_ok-take.ensures.left i.passed c.in_ok-take.ensures.passed
