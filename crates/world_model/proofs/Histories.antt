-- What holds at the start holds of every history.
use Rattle.std.proofs.Common.{inl, Bool, List, [], ◌∷◌, Option, None, Some, refl, sym, subst}
use Rattle.std.specs.List.{AllByRecursion}
use Rattle.sp_base.specs.declared.names.ConnNo.{ConnNo}
use Rattle.hub_model.specs.Machine as server
use Rattle.hub_model.specs.Sound.{IsSound}
use Rattle.hub_model.specs.State.{Machine}
use Rattle.hub_model.specs.declared.event.Event.{Event as ServerEvent}
use Rattle.hub_model.proofs.Sound.{plays_sound}
use Rattle.world_model.specs.Machine.{played}
use Rattle.world_model.specs.Run.{History, IsFit, IsFitEvent, Move, memory_for, run, step, to_be_served}
use Rattle.world_model.specs.State.{World}
use Rattle.world_model.specs.declared.event.Event.{Event}
use Rattle.world_model.specs.declared.event.Event.TheVariants as event
use Rattle.world_model.proofs.Arrives.{to_client_goes}
use Rattle.world_model.proofs.Breaks.{cut_goes, ends_goes}
use Rattle.world_model.proofs.Collects.{collect_goes}
use Rattle.world_model.proofs.Comes.{to_server_goes}
use Rattle.world_model.proofs.Fresh.{fresh_kept}
use Rattle.world_model.proofs.Halts.{halt_kept}
use Rattle.world_model.proofs.Hands.{from_server_goes}
use Rattle.world_model.proofs.Hosts.{give_up_goes, host_goes}
use Rattle.world_model.proofs.Keeps.{keeps}
use Rattle.world_model.proofs.Kept.{Goes, Kept}
use Rattle.world_model.proofs.Law.{OfAll}
use Rattle.world_model.proofs.Opens.{connect_goes}
use Rattle.world_model.proofs.Sends.{from_client_goes}
use Rattle.world_model.proofs.Served.{after_served, rump_is}
use Rattle.world_model.proofs.Starts.{preexec_goes, prefork_goes, start_goes}
use Rattle.world_model.proofs.Works.{work_goes}

-- whatever the server plays leaves it sound
served_sound : (memory : Bool) (m : Machine) (part : Option ServerEvent) → IsSound m → IsSound (after_served memory m part)
served_sound memory m None sound = sound
served_sound memory m (Some e) sound =
    let p = server.played (memory_for memory e) m e in plays_sound m p.1 e p.0 sound (inl (memory_for memory e, refl))

-- a move of an event
abbrev of_event : Bool → Event → Move
of_event memory happens = record { happens = happens; memory = memory }

-- an event that did what it owes keeps what holds
goes_kept : (memory : Bool) (h : History) (c : ConnNo) (happens : Event) → Kept h → Goes h c happens (played memory h.world happens)
    → Kept (step h (of_event memory happens))
goes_kept memory h c happens kept goes =
    keeps h c happens (played memory h.world happens) kept goes (step h (of_event memory happens)).exchanges
    (subst IsSound (sym (rump_is memory h.world happens)) (served_sound memory h.world.rump (to_be_served h.world happens) kept.sound))

-- every event keeps what holds
event_kept : (memory : Bool) (h : History) (happens : Event) → IsFitEvent happens → Kept h → Kept (step h (of_event memory happens))
event_kept memory h (event.Connect c hello) fit kept = goes_kept memory h c (event.Connect c hello) kept (connect_goes h c hello kept memory)
event_kept memory h (event.Start c caller call mem) fit kept =
    goes_kept memory h c (event.Start c caller call mem) kept (start_goes memory h c caller call mem kept fit)
event_kept memory h (event.Prefork c caller want) fit kept = goes_kept memory h c (event.Prefork c caller want) kept (prefork_goes memory h c caller want kept)
event_kept memory h (event.Preexec c caller) fit kept = goes_kept memory h c (event.Preexec c caller) kept (preexec_goes memory h c caller kept)
event_kept memory h (event.Collect c r) fit kept = goes_kept memory h c (event.Collect c r) kept (collect_goes memory h c r kept)
event_kept memory h (event.ToServer c salt) fit kept = goes_kept memory h c (event.ToServer c salt) kept (to_server_goes h c salt kept memory)
event_kept memory h (event.FromServer c) fit kept = goes_kept memory h c (event.FromServer c) kept (from_server_goes memory h c kept)
event_kept memory h (event.ToClient c) fit kept = goes_kept memory h c (event.ToClient c) kept (to_client_goes memory h c kept)
event_kept memory h (event.FromClient c) fit kept = goes_kept memory h c (event.FromClient c) kept (from_client_goes memory h c kept)
event_kept memory h (event.Work c r) fit kept = goes_kept memory h c (event.Work c r) kept (work_goes memory h c r kept)
event_kept memory h (event.Cut c) fit kept = goes_kept memory h c (event.Cut c) kept (cut_goes memory h c kept)
event_kept memory h (event.Ends c) fit kept = goes_kept memory h c (event.Ends c) kept (ends_goes memory h c kept)
event_kept memory h (event.Host guest caller pid operation mem) fit kept =
    let c : ConnNo = record { 0 = 0 } in
    goes_kept memory h c (event.Host guest caller pid operation mem) kept (host_goes h c guest caller pid operation mem kept memory)
event_kept memory h event.GiveUp fit kept = let c : ConnNo = record { 0 = 0 } in goes_kept memory h c event.GiveUp kept (give_up_goes memory h c kept)
event_kept memory h event.Halt fit kept = halt_kept h kept memory

runs_kept : (h : History) (moves : List Move) → AllByRecursion IsFit moves → Kept h → Kept (run h moves)
runs_kept h [] fit kept = kept
runs_kept h (move ∷ moves) fit kept = runs_kept (step h move) moves fit.1 (event_kept move.memory h move.happens fit.0 kept)

-- what holds of every history in which the guests ask for what they may
pub kept_run : OfAll Kept
kept_run version moves fit = runs_kept _ moves fit (fresh_kept version)
