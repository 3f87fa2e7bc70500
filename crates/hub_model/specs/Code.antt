-- The code of the server's machine.
use Rattle.std.specs.Prelude.{ℕ, Bool, List, Option, refl}
use Rattle.std.specs.Coded.{Coded, code_by, coded×, coded_ℕ, coded_list, coded_option, coded_bool}
use Rattle.std.specs.Ordering.{nat_cmp}
use Rattle.std.specs.FinMap.{FinMap}
use Rattle.std.specs.FinMap as map
use Rattle.sp_frames.specs.declared.frame.Frame.{Frame}
use Rattle.sp_frames.specs.contracts.frame.Frame as frame
use Rattle.kern_model.specs.declared.journal.Entry.{Entry}
use Rattle.kern_model.specs.contracts.journal.Entry as entry
use Rattle.sp_fork.specs.Jar.{Jar}
use Rattle.sp_fork.specs.Code.{jar_code}
use Rattle.hub_model.specs.declared.handover.Handover.{Handover}
use Rattle.hub_model.specs.contracts.handover.Handover as handover
use Rattle.hub_model.specs.declared.state.Condition.{Condition}
use Rattle.hub_model.specs.contracts.state.Condition as condition
use Rattle.hub_model.specs.declared.state.OpenCall.{OpenCall}
use Rattle.hub_model.specs.contracts.state.OpenCall as open_call
use Rattle.sp_frames.specs.declared.version.Version.{Version}
use Rattle.sp_frames.specs.contracts.version.Version as version
use Rattle.hub_model.specs.State.{Connection, Machine}

-- the code of a connection
abbrev pub connection_code : Coded Connection
connection_code = code_by (Condition × (ℕ × (FinMap nat_cmp OpenCall × List Frame)))
    (coded× condition.the_row.coded (coded× coded_ℕ (coded× (map.code coded_ℕ open_call.the_row.coded) (coded_list frame.the_row.coded))))
    (λ x. (x.condition, (x.last, (x.calls, x.queue))))
    (λ p. record { condition = p.0; last = p.1.0; calls = p.1.1.0; queue = p.1.1.1 }) (λ _. refl)

-- the code of what a machine keeps beside its journal and its connections
abbrev pub rest_code : Coded (Jar × (List Handover × (Option ℕ × Bool)))
rest_code = coded× jar_code (coded× (coded_list handover.the_row.coded) (coded× (coded_option coded_ℕ) coded_bool))

-- the code of the machine
abbrev pub machine_code : Coded Machine
machine_code = code_by (Version × (List Entry × (FinMap nat_cmp Connection × (Jar × (List Handover × (Option ℕ × Bool))))))
    (coded× version.the_row.coded (coded× (coded_list entry.the_row.coded) (coded× (map.code coded_ℕ connection_code) rest_code)))
    (λ m. (m.version, (m.journal, (m.connections, (m.cookies, (m.handovers, (m.opened, m.halted)))))))
    (λ p. record { version = p.0; journal = p.1.0; connections = p.1.1.0; cookies = p.1.1.1.0; handovers = p.1.1.1.1.0; opened = p.1.1.1.1.1.0; halted = p.1.1.1.1.1.1 })
    (λ _. refl)
