-- The server speaks the version that it spoke from the start, whatever happens.
use Rattle.std.proofs.Common.{◌≡◌, ℕ, List, Option, refl, ap, ◌∙◌}
use Rattle.sp_frames.specs.declared.version.Version.{Version}
use Rattle.hub_model.proofs.Events.{Leads, plays_leads, runs_keep}
use Rattle.hub_model.specs.Machine.{Plays}
use Rattle.kern_model.specs.declared.operation.Ins.TheVariants.{Given, Fault}
use Rattle.hub_model.specs.Requests.{frame_by}
use Rattle.hub_model.specs.State.{Machine, fresh_machine, process_in}
use Rattle.hub_model.specs.Work.{perform}
use Rattle.hub_model.specs.declared.event.Event.{Event}
use Rattle.hub_model.specs.declared.event.Reply.{Reply}
use Rattle.world_model.specs.Run.{Move, fresh_history, run}
use Rattle.world_model.proofs.Served.{served}
use Rattle.sp_world.proofs.Unchanged.{frame_unchanged, perform_unchanged, unchanged}

-- a machine speaks a version
abbrev Speaks : Version → Machine → Type 0
Speaks version m = m.version ≡ version

same_version : (version : Version) (m n : Machine) → Speaks version m → unchanged n ≡ unchanged m → Speaks version n
same_version version m n speaks same = ap (λ (u : Option ℕ × Version). u.1) same ∙ speaks

leads_version : (version : Version) (m : Machine) → Speaks version m → Leads m (Speaks version)
leads_version version m speaks = record {
  same = speaks;
  opened = λ c new. speaks;
  halted = speaks;
  framed = λ v c x f salt here is. same_version version m (frame_by v m c x f salt).1 speaks (frame_unchanged m v c x f salt);
  asked = λ c x r call got need here there. speaks;
  given = λ memory c x r call got here there next.
      same_version version m (perform memory m c x r call (Given got) (process_in x.condition)).1 speaks (perform_unchanged m memory c x r call (Given got) (process_in x.condition));
  failed = λ memory c x r call why here there.
      same_version version m (perform memory m c x r call (Fault why) (process_in x.condition)).1 speaks (perform_unchanged m memory c x r call (Fault why) (process_in x.condition));
  taken = λ c x f queue here. speaks;
  drained = λ answer c x f here. speaks;
  closed = λ c x here. speaks;
}

keeps_version : (version : Version) (m m' : Machine) (happens : Event) (answer : Reply) → Speaks version m → Plays m happens answer m' → Speaks version m'
keeps_version version m m' happens answer speaks plays = plays_leads m (Speaks version) (leads_version version m speaks) m' happens answer plays

-- the server of a world speaks the version that it began with
pub run_version : (version : Version) (moves : List Move) → (run (fresh_history version) moves).world.rump.version ≡ version
run_version version moves =
    let h = run (fresh_history version) moves in
    runs_keep (Speaks version) (keeps_version version) (fresh_machine version) h.world.rump h.exchanges refl (served version moves)
