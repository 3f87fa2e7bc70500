use Rattle.std.proofs.Common.{◌+◌, refl, ◌++◌, length, arith}
use Rattle.sp_server.specs.declared.session.Session.{Session}
use Rattle.sp_server.specs.declared.session.Stop.TheVariants as stop
use Rattle.sp_server.specs.Session.{IsPart}
use Rattle.sp_server.proofs.Moves.{moves_nothing, at_err}
use Rattle.sp_server.proofs.SessionLaws.{fed_more, fed_behind, part_unread}
use Rattle.sp_server.proofs.session.Session.feed.Goals as goal

pub returns-in_err-fault-clause-err : goal.returns-in_err-fault-clause-err
returns-in_err-fault-clause-err g c =
    at_err _ c.from_residual.result stop.NoMemory c.from_residual.ensures.1 (λ input before written is.
    moves_nothing (g.S.Salt.drawn c.args.salt.now) (g.O.Sink.held c.args.sink.now) (IsPart (input ++ c.args.bytes.now)) before written (part_unread c.args.self.now input c.args.bytes.now before written is))

pub returns-in_err-answer_ready-clause-err : goal.returns-in_err-answer_ready-clause-err
returns-in_err-answer_ready-clause-err g c =
    at_err _ c.from_residual-in_err-answer_ready.result c.in_err-answer_ready.field-0.0 c.from_residual-in_err-answer_ready.ensures.1 (λ input before written is.
    let f = c.feed.ensures in
    c.in_err-answer_ready.ensures.err (input ++ c.args.bytes.now) before written
    (fed_behind c.args.self.now c.feed.new.self c.feed.result c.in_ok-fault.fault input c.args.bytes.now before written is c.in_ok-fault.ensures f.ok f.fault f.follows))

pub returns-clause-ok : goal.returns-clause-ok
returns-clause-ok g c = λ input before written is.
    let f = c.feed.ensures in
    let a = c.in_ok-answer_ready.ensures in
    let behind = fed_behind c.args.self.now c.feed.new.self c.feed.result c.in_ok-fault.fault input c.args.bytes.now before written is c.in_ok-fault.ensures f.ok f.fault f.follows in
    let t = a.ok (input ++ c.args.bytes.now) before written behind in
    let s : Session = record { alloc = c.args.self.now.alloc; hub = c.answer_ready.new.hub; framer = c.answer_ready.new.framer; room = c.answer_ready.new.room; fed = c.args.self.now.fed + length c.args.bytes.now } in (
      t.0,
      t.1,
      t.2,
      t.3,
      fed_more c.args.self.now s c.feed.new.self c.feed.result c.in_ok-fault.fault input c.args.bytes.now before written (before ++ t.0) (written ++ t.1) is c.in_ok-fault.ensures f.ok f.fault a.ready a.rest a.stop refl c.requires.few
          (λ i. omega (arith, c.type_inv.bytes i)) t.4,
    )
