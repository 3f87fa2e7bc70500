-- The law of the world, from what holds of every history.
use Rattle.std.proofs.Common.{List}
use Rattle.std.specs.List.{AllByRecursion}
use Rattle.sp_frames.specs.declared.version.Version.{Version}
use Rattle.kern_model.specs.Journal.{IsLegal}
use Rattle.hub_model.proofs.OwnersEvents.{runs_traced}
use Rattle.hub_model.proofs.Sound.{fresh_sound, plays_sound, runs_sound}
use Rattle.hub_model.specs.Sound.{IsSound}
use Rattle.hub_model.specs.State.{fresh_machine}
use Rattle.hub_law.proofs.Runs.{agrees}
use Rattle.hub_law.specs.Serves.{Agrees}
use Rattle.world_model.specs.After.{HappensAfter, HostedAfter}
use Rattle.world_model.specs.Once.{HappensOnce}
use Rattle.world_model.specs.Run.{History, IsFit, Move, fresh_history, run}
use Rattle.world_model.proofs.Hosted.{host_kept}
use Rattle.world_model.proofs.Kept.{Kept}
use Rattle.world_model.proofs.Says.{happens_once}
use Rattle.world_model.proofs.Served.{served}

-- something is so of every history in which the guests ask for what they may
abbrev pub OfAll : (History → Type 0) → Type 0
OfAll P = (version : Version) (moves : List Move) → AllByRecursion IsFit moves → P (run (fresh_history version) moves)

rump_sound : (version : Version) (moves : List Move) → IsSound (run (fresh_history version) moves).world.rump
rump_sound version moves =
    let h = run (fresh_history version) moves in runs_sound (fresh_machine version) h.world.rump h.exchanges (fresh_sound version) (served version moves)

-- the rump kernel's journal is legal
pub rump_legal : OfAll (λ h. IsLegal h.world.rump.journal)
rump_legal version moves fit = (rump_sound version moves).legal

-- the journal of the host's kernel is legal
pub host_legal : OfAll (λ h. IsLegal h.world.host)
host_legal version moves fit = (host_kept version moves).legal

-- what the host's kernel answered stands before what is asked of it then
pub host_after : OfAll HostedAfter
host_after version moves fit = (host_kept version moves).after

-- the journal and what the server sent agree with what came to it
pub serves : OfAll (λ h. Agrees h.exchanges h.world.rump.journal)
serves version moves fit =
    let h = run (fresh_history version) moves in
    agrees plays_sound fresh_sound version h.exchanges h.world.rump (served version moves) (rump_sound version moves)

-- what holds of every history says what happens once
pub once : OfAll Kept → OfAll HappensOnce
once kept version moves fit =
    let h = run (fresh_history version) moves in
    let host = host_kept version moves in
    happens_once h (kept version moves fit) (runs_traced version h.exchanges h.world.rump (served version moves)).owners host.keys host.hosted

-- and what comes after what
pub after : OfAll Kept → OfAll HappensAfter
after kept version moves fit = (kept version moves fit).after
