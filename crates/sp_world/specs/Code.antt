-- The codes of a link, of a world, and of what is told of it.
use Rattle.std.specs.Prelude.{ℕ, List, refl}
use Rattle.std.specs.Coded.{Coded, code_by, coded×, coded_ℕ, coded_list}
use Rattle.std.specs.Ordering.{nat_cmp}
use Rattle.std.specs.FinMap.{FinMap}
use Rattle.std.specs.FinMap as map
use Rattle.sp_frames.specs.declared.frame.Frame.{Frame}
use Rattle.sp_frames.specs.contracts.frame.Frame as frame
use Rattle.kern_model.specs.declared.journal.Entry.{Entry}
use Rattle.kern_model.specs.contracts.journal.Entry as entry
use Rattle.hub_model.specs.Code.{machine_code}
use Rattle.hub_model.specs.State.{Machine}
use Rattle.client_model.specs.Code.{client_code}
use Rattle.client_model.specs.State.{Client}
use Rattle.world_model.specs.State.{Link, World}
use Rattle.world_model.specs.declared.event.Event.{Event}
use Rattle.world_model.specs.contracts.event.Event as event
use Rattle.world_model.specs.declared.host.HostCall.{HostCall}
use Rattle.world_model.specs.contracts.host.HostCall as host_call
use Rattle.sp_world.specs.Told.{Told}

-- the code of a link
abbrev pub link_code : Coded Link
link_code = code_by (List Frame × (List Frame × ℕ))
    (coded× (coded_list frame.the_row.coded) (coded× (coded_list frame.the_row.coded) coded_ℕ))
    (λ l. (l.up, (l.down, l.faults)))
    (λ p. record { up = p.0; down = p.1.0; faults = p.1.1 }) (λ _. refl)

-- the code of the host's side of a world
abbrev pub host_code : Coded (List Entry × (FinMap nat_cmp ℕ × List HostCall))
host_code = coded× (coded_list entry.the_row.coded) (coded× (map.code coded_ℕ coded_ℕ) (coded_list host_call.the_row.coded))

-- the code of a world
abbrev pub world_code : Coded World
world_code = code_by (Machine × (FinMap nat_cmp Client × (FinMap nat_cmp Link × (List Entry × (FinMap nat_cmp ℕ × List HostCall)))))
    (coded× machine_code (coded× (map.code coded_ℕ client_code) (coded× (map.code coded_ℕ link_code) host_code)))
    (λ w. (w.rump, (w.clients, (w.links, (w.host, (w.counts, w.waiting))))))
    (λ p. record { rump = p.0; clients = p.1.0; links = p.1.1.0; host = p.1.1.1.0; counts = p.1.1.1.1.0; waiting = p.1.1.1.1.1 })
    (λ _. refl)

-- the code of what is told of a world
abbrev pub told_code : Coded Told
told_code = code_by (World × (List Event × List ℕ)) (coded× world_code (coded× (coded_list event.the_row.coded) (coded_list coded_ℕ)))
    (λ t. (t.world, (t.events, t.refused))) (λ p. record { world = p.0; events = p.1.0; refused = p.1.1 }) (λ _. refl)
