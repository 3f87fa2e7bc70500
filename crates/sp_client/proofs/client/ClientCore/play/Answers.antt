use Rattle.std.proofs.Common.{subst, sym}
use Rattle.client_model.specs.Machine.{Plays}
use Rattle.client_model.specs.declared.event.Event.{Event}
use Rattle.client_model.proofs.Steps.{start_hands_out_none, prefork_hands_out_none, preexec_hands_out_none, frame_hands_out_none}
use Rattle.sp_client.proofs.client.ClientCore.play.Goals as goal

pub returns-in-Start-clause-plays : goal.returns-in-Start-clause-plays
returns-in-Start-clause-plays c = subst (λ (event : Event). Plays c.args.self.now event c.start.result c.start.new.self) (sym c.in-Start.is) (c.start.ensures c.in-Start.field-0)

pub returns-in-Start-clause-fits : goal.returns-in-Start-clause-fits
returns-in-Start-clause-fits c frame is = absurd (start_hands_out_none c.args.self.now c.in-Start.field-0 c.in-Start.call c.in-Start.mem c.start.result c.start.new.self frame (c.start.ensures c.in-Start.field-0) is)

pub returns-in-Prefork-clause-plays : goal.returns-in-Prefork-clause-plays
returns-in-Prefork-clause-plays c = subst (λ (event : Event). Plays c.args.self.now event c.prefork.result c.prefork.new.self) (sym c.in-Prefork.is) (c.prefork.ensures c.in-Prefork.field-0)

pub returns-in-Prefork-clause-fits : goal.returns-in-Prefork-clause-fits
returns-in-Prefork-clause-fits c frame is = absurd (prefork_hands_out_none c.args.self.now c.in-Prefork.field-0 c.in-Prefork.want c.prefork.result c.prefork.new.self frame (c.prefork.ensures c.in-Prefork.field-0) is)

pub returns-in-Preexec-clause-plays : goal.returns-in-Preexec-clause-plays
returns-in-Preexec-clause-plays c = subst (λ (event : Event). Plays c.args.self.now event c.preexec.result c.preexec.new.self) (sym c.in-Preexec.is) (c.preexec.ensures c.in-Preexec.field-0)

pub returns-in-Preexec-clause-fits : goal.returns-in-Preexec-clause-fits
returns-in-Preexec-clause-fits c frame is = absurd (preexec_hands_out_none c.args.self.now c.in-Preexec.field-0 c.preexec.result c.preexec.new.self frame (c.preexec.ensures c.in-Preexec.field-0) is)

pub returns-in-Frame-clause-fits : goal.returns-in-Frame-clause-fits
returns-in-Frame-clause-fits c frame is = absurd (frame_hands_out_none c.args.self.now c.in-Frame.frame c.frame.result c.frame.new.self frame c.frame.ensures is)
