use Rattle.std.proofs.Common.{[], sym}
use Rattle.std.proofs.lemmas.List.{append-nil}
use Rattle.guest_run.proofs.RunLaws.{calls_cause, no_salt}
use Rattle.guest_run.proofs.running.tell.Goals as goal

pub returns-in_default-clause-told : goal.returns-in_default-clause-told
returns-in_default-clause-told g c = ([], sym (append-nil _), λ pid rest. no_salt _ _ _ _ c.in-Exec.is)

pub returns-in-Run-clause-salt : goal.returns-in-Run-clause-salt
returns-in-Run-clause-salt g c = calls_cause (g.S.Salt.faults c.args.salt.now) c.tell_call.result c.args.guest.now c.args.number c.args.joined.now c.tell_call.new.joined c.args.line.now c.in-Run.call
    c.args.rows.now c.tell_call.new.rows c.in-Run.is c.requires.rest c.tell_call.ensures
