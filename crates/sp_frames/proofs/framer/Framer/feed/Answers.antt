use Rattle.sp_frames.proofs.FeedLaws.{exact, added, follows}
use Rattle.sp_frames.proofs.framer.Framer.feed.Goals as goal

pub returns-in-None-clause-exact : goal.returns-in-None-clause-exact
returns-in-None-clause-exact c = λ _. exact c.args.self.now c.args.piece.now c.add_piece.result c.add_piece.new.self c.add_piece.ensures.feeds c.add_piece.ensures.framed

pub returns-in-None-clause-follows : goal.returns-in-None-clause-follows
returns-in-None-clause-follows c =
    λ _ not fed handed was. let old = c.args.self.now in
    let new = c.add_piece.new.self in
    follows old c.args.piece.now new fed handed (added old c.args.piece.now c.add_piece.result new c.add_piece.ensures.feeds not) c.add_piece.ensures.framed was
