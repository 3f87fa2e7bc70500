use Rattle.kern_calls.proofs.WriteLaws.{put_done, put_refused}
use Rattle.kern_calls.proofs.parts.Parts.put.Goals as goal

pub returns-clause-ok : goal.returns-clause-ok
returns-clause-ok c =
    put_done c.self.inside.opens c.self.inside.tree c.write_at.new.self c.args.self.now c.args.node c.args.start c.args.bytes.now c.write_at.result
    c.self.view_is c.requires.some c.write_at.ensures.error c.write_at.ensures.count c.write_at.ensures.ok

pub returns-clause-refused : goal.returns-clause-refused
returns-clause-refused c error is file after writes =
    put_refused c.self.inside.opens c.self.inside.tree c.args.self.now c.args.node c.args.start c.args.bytes.now c.write_at.result error file after
    c.self.view_is c.requires.some c.write_at.ensures.error is writes
