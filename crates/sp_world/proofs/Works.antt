-- What the server works is an event of the world.
use Rattle.std.proofs.Common.{◌≡◌, ◌≢◌, inl, inr, ℕ, Bool, true, false, cond, List, length, Option, Some, None, refl, sym, ap, subst, ◌∙◌}
use Rattle.std.specs.Prelude.{not, slice_get}
use Rattle.std.specs.FinMap.{get}
use Rattle.sp_base.specs.Needs.{needs_of}
use Rattle.sp_base.specs.declared.call.Call.{Call}
use Rattle.sp_base.specs.declared.names.ConnNo.{ConnNo}
use Rattle.sp_base.specs.declared.names.Pid.{Pid}
use Rattle.sp_base.specs.declared.names.ReqNo.{ReqNo}
use Rattle.sp_base.specs.declared.need.Need.{Need}
use Rattle.kern_model.specs.Journal.{next_entry}
use Rattle.kern_model.specs.declared.journal.Entry.{Entry}
use Rattle.kern_model.specs.declared.journal.Who.TheVariants.{Request}
use Rattle.kern_model.specs.declared.operation.Ins.{Ins}
use Rattle.kern_model.specs.declared.operation.Ins.TheVariants.{Given, Fault}
use Rattle.kern_model.specs.declared.operation.Op.TheVariants.{Sys}
use Rattle.hub_model.specs.Machine as server
use Rattle.hub_model.specs.State as server_state
use Rattle.hub_model.specs.State.{Connection, Machine, process_in}
use Rattle.hub_model.specs.Work.{gather, perform, performed, work_at, work_call, work_number}
use Rattle.hub_model.specs.declared.event.Event.TheVariants as server_event
use Rattle.hub_model.specs.declared.event.Reply.{Reply as ServerReply}
use Rattle.hub_model.specs.declared.event.Reply.TheVariants as server_reply
use Rattle.hub_model.specs.declared.state.OpenCall.{OpenCall}
use Rattle.hub_model.specs.declared.state.OpenCall.TheVariants.{Gathers, Fails, Answers}
use Rattle.world_model.specs.Machine.{server_plays}
use Rattle.world_model.specs.State.{World}
use Rattle.world_model.specs.declared.event.Event.TheVariants as event
use Rattle.world_model.specs.declared.event.Reply.{Reply}
use Rattle.world_model.specs.declared.event.Reply.TheVariants as reply
use Rattle.sp_world.specs.Ends.{IsThere, of_server}
use Rattle.sp_world.specs.Happens.{Happens, refuses_by}
use Rattle.sp_world.proofs.There.{answered, plays_there}
use Rattle.sp_world.proofs.Wants.{server_never_wants}

-- ---- whether there is memory

-- there is memory, as far as an answer to work tells
abbrev has_memory : ServerReply → Bool
has_memory answer = not (refuses_by true (reply.Server answer))

-- a play is that which its answer tells of
abbrev Tells : (Bool → server_state.Played) → Type 0
Tells play = (memory : Bool) → play memory ≡ play (has_memory (play memory).0)

module _ (m : Machine) (c : ConnNo) (r : ReqNo) where
  performed_tells : (x : Connection) (e : Option Entry) → Tells (λ memory. performed memory m c x r e)
  performed_tells x None memory = refl
  performed_tells x (Some e) true = refl
  performed_tells x (Some e) false = refl

  perform_tells : (x : Connection) (call : Call) (ins : Ins) (pid : Option Pid) → Tells (λ memory. perform memory m c x r call ins pid)
  perform_tells x call ins None memory = refl
  perform_tells x call ins (Some pid) memory = performed_tells x (next_entry m.journal pid (Request c r) (Sys call) ins) memory

  gather_tells : (x : Connection) (call : Call) (got : List (List ℕ)) (need : Option Need) → Tells (λ memory. gather memory m c x r call got need)
  gather_tells x call got (Some need) memory = refl
  gather_tells x call got None memory = perform_tells x call (Given got) (process_in x.condition) memory

  call_tells : (x : Connection) (task : OpenCall) → Tells (λ memory. work_call memory m c x r task)
  call_tells x (Gathers call got true) memory = refl
  call_tells x (Gathers call got false) memory = gather_tells x call got (slice_get (needs_of call) (length got)) memory
  call_tells x (Fails call why) memory = perform_tells x call (Fault why) (process_in x.condition) memory
  call_tells x Answers memory = refl

  number_tells : (x : Connection) (task : Option OpenCall) → Tells (λ memory. work_number memory m c x r task)
  number_tells x None memory = refl
  number_tells x (Some task) memory = call_tells x task memory

  at_tells : (o : Option Connection) → Tells (λ memory. work_at memory m c r o)
  at_tells None memory = refl
  at_tells (Some x) memory = number_tells x (get x.calls r.0) memory

  running_tells : (halted : Bool) → Tells (λ memory. cond {A = server_state.Played} halted (server_reply.Closed, m) (work_at memory m c r (get m.connections c.0)))
  running_tells true memory = refl
  running_tells false memory = at_tells (get m.connections c.0) memory

  -- the answer to work tells whether there was memory for it
  work_tells : Tells (λ memory. server.played memory m (server_event.Work c r))
  work_tells memory = running_tells m.halted memory

-- ---- what happens

-- what the server answers is answered, unless memory was refused
pub told_server : (answer : ServerReply) → answer ≢ server_reply.NoMemory → of_server answer ≡ reply.Server answer
told_server server_reply.NoMemory other = absurd (other refl)
told_server _ other = refl

-- the server's part, where it was worked
worked : (old : World) (c : ConnNo) (r : ReqNo) (answer : ServerReply) (m' : Machine) (memory : Bool) → (answer, m') ≡ server.played memory old.rump (server_event.Work c r)
    → (answer, m') ≡ server.played (has_memory answer) old.rump (server_event.Work c r)
worked old c r answer m' memory same = same ∙ work_tells old.rump c r memory
    ∙ ap (λ (told : ServerReply). server.played (has_memory told) old.rump (server_event.Work c r)) (sym (ap (λ (p : server_state.Played). p.0) same))

-- the server works a call
pub work_happens : (old new : World) (c : ConnNo) (r : ReqNo) (answer : ServerReply) (m' : Machine) → IsThere old c
    → server.Plays old.rump (server_event.Work c r) answer m' → new ≡ record old { rump = m' } → Happens old (event.Work c r) (of_server answer) new
work_happens old new c r answer m' there (inl p) is =
    let other : answer ≢ server_reply.NoMemory = (λ e. server_never_wants p.0 old.rump (server_event.Work c r) (sym (ap (λ (p : server_state.Played). p.0) p.1) ∙ e)) in
    let play = server_plays old (server.played (has_memory answer) old.rump (server_event.Work c r)) in
    subst (λ (told : Reply). Happens old (event.Work c r) told new) (sym (told_server answer other))
    (inl (ap (answered (reply.Server answer)) is ∙ ap (server_plays old) (worked old c r answer m' p.0 p.1)
    ∙ sym (plays_there (has_memory answer) old c (event.Work c r) play there (λ k l. refl))))
work_happens old new c r answer m' there (inr wants) is = inr (record {
  answers = ap of_server wants.answers;
  keeps = is ∙ ap (λ (m : Machine). record old { rump = m }) wants.keeps;
})

-- the server is to take nothing more
pub halt_happens : (old new : World) (answer : ServerReply) (m' : Machine) → (answer, m') ≡ server.played true old.rump server_event.Halt → new ≡ record old { rump = m' }
    → Happens old event.Halt (reply.Server answer) new
halt_happens old new answer m' same is = inl (ap (answered (reply.Server answer)) is ∙ ap (server_plays old) same)
