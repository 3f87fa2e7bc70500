-- What a caller asks of its connection's client is an event of the world.
use Rattle.std.proofs.Common.{◌≡◌, ◌≢◌, inl, inr, Bool, true, List, Option, Some, None, refl, sym, ap, subst, ◌∙◌}
use Rattle.std.specs.Ordering.{nat_cmp}
use Rattle.std.specs.FinMap.{FinMap, get, insert}
use Rattle.sp_base.specs.declared.call.Call.{Call}
use Rattle.sp_base.specs.declared.names.Caller.{Caller}
use Rattle.sp_base.specs.declared.names.ConnNo.{ConnNo}
use Rattle.sp_base.specs.declared.names.ReqNo.{ReqNo}
use Rattle.sp_copy.specs.declared.part.Part.{Part}
use Rattle.client_model.specs.Machine as client
use Rattle.client_model.specs.State as client_state
use Rattle.client_model.specs.State.{Client}
use Rattle.client_model.specs.declared.event.Event.{Event as ClientEvent}
use Rattle.client_model.specs.declared.event.Event.TheVariants as client_event
use Rattle.client_model.specs.declared.event.Reply.{Reply as ClientReply}
use Rattle.client_model.specs.declared.event.Reply.TheVariants as client_reply
use Rattle.client_model.specs.declared.event.Want.{Want}
use Rattle.world_model.specs.Machine.{client_plays, connection_at, connection_plays, of_connection}
use Rattle.world_model.specs.State.{Link, Played, World, with_client}
use Rattle.world_model.specs.declared.event.Event.{Event}
use Rattle.world_model.specs.declared.event.Event.TheVariants as event
use Rattle.world_model.specs.declared.event.Reply.{Reply}
use Rattle.world_model.specs.declared.event.Reply.TheVariants as reply
use Rattle.sp_world.specs.Ends.{Asks, IsAbsent, TakesOut, asked_at, of_client}
use Rattle.sp_world.specs.Happens.{Gives, Happens}
use Rattle.sp_world.proofs.There.{answered}
use Rattle.sp_world.proofs.Wants.{client_never_wants}
use Rattle.sp_world.proofs.Ways.{put, put_back, put_same}

-- ---- what is asked

closed_at : (w : World) (c : ConnNo) (asks : ClientEvent) (k : Option Client) (l : Option Link) → connection_at true w c event.GiveUp k l ≡ (reply.Closed, w)
    → (reply.Closed, w) ≡ asked_at w c asks k l
closed_at w c asks (Some k) (Some l) absent = absurd (let wrong : reply.Nothing ≡ reply.Closed = ap (λ (p : Played). p.0) absent in cc)
closed_at w c asks (Some k) None absent = refl
closed_at w c asks None l absent = refl

-- nobody is asked where the connection isn't there
pub asks_nobody : (old new : World) (c : ConnNo) (asks : ClientEvent) → IsAbsent old c → new ≡ old → Asks old c asks reply.Closed new
asks_nobody old new c asks absent same = inl (ap (answered reply.Closed) same ∙ closed_at old c asks (get old.clients c.0) (get old.links c.0) (absent true event.GiveUp))

told_client : (answer : ClientReply) → ((mem : List Part) → answer ≢ client_reply.NoMemory mem) → of_client answer ≡ reply.Client answer
told_client (client_reply.NoMemory mem) other = absurd (other mem refl)
told_client _ other = refl

-- a client that was taken out is asked, and put back with its link as it was
pub asks_client : (old mid new : World) (c : ConnNo) (asks : ClientEvent) (k k' : Client) (l : Link) (answer : ClientReply) → TakesOut old c k l mid
    → client.Plays k asks answer k' → new ≡ put mid c k' l → Asks old c asks (of_client answer) new
asks_client old mid new c asks k k' l answer out (inl same) is =
    let other : (mem : List Part) → answer ≢ client_reply.NoMemory mem =
    (λ mem e. client_never_wants k asks mem (sym (ap (λ (p : client_state.Played). p.0) same) ∙ e)) in
    let there : new ≡ with_client old c k' =
    is ∙ put_back old mid c k k' l l out ∙ ap (λ (ls : FinMap nat_cmp Link). record old { clients = insert old.clients c.0 k'; links = ls }) out.link_back in
    rw (out.client, out.link) (inl (ap (λ (r : Reply). answered r new) (told_client answer other) ∙ ap (answered (reply.Client answer)) there
    ∙ ap (client_plays old c) same))
asks_client old mid new c asks k k' l answer out (inr wants) is = inr (record {
  answers = ap of_client wants.answers;
  keeps = is ∙ put_back old mid c k k' l l out ∙ ap (λ (k : Client). put old c k l) wants.keeps ∙ put_same old mid c k l out;
})

-- ---- what happens

same_at : (memory : Bool) (w : World) (c : ConnNo) (asks : ClientEvent) (happens : Event) (k : Option Client) (l : Option Link)
    → ((k : Client) (l : Link) → client_plays w c (client.played k asks) ≡ connection_plays memory w c k l happens)
    → asked_at w c asks k l ≡ connection_at memory w c happens k l
same_at memory w c asks happens (Some k) (Some l) same = same k l
same_at memory w c asks happens (Some k) None same = refl
same_at memory w c asks happens None l same = refl

-- an event is what the client is asked
asks_happen : (memory : Bool) (old new : World) (c : ConnNo) (asks : ClientEvent) (happens : Event) (answer : Reply)
    → ((k : Client) (l : Link) → client_plays old c (client.played k asks) ≡ connection_plays memory old c k l happens)
    → Asks old c asks answer new → Gives old (of_connection memory old c happens) answer new
asks_happen memory old new c asks happens answer same asked =
    subst (λ (p : Played). Gives old p answer new) (same_at memory old c asks happens (get old.clients c.0) (get old.links c.0) same) asked

-- a caller asks for a system call
pub start_happens : (old new : World) (c : ConnNo) (caller : Caller) (call : Call) (mem : List Part) (answer : Reply)
    → Asks old c (client_event.Start caller call mem) answer new → Happens old (event.Start c caller call mem) answer new
start_happens old new c caller call mem answer asked =
    asks_happen true old new c (client_event.Start caller call mem) (event.Start c caller call mem) answer (λ k l. refl) asked

-- a caller asks for a child, or that a cookie is taken back
pub prefork_happens : (old new : World) (c : ConnNo) (caller : Caller) (want : Want) (answer : Reply)
    → Asks old c (client_event.Prefork caller want) answer new → Happens old (event.Prefork c caller want) answer new
prefork_happens old new c caller want answer asked =
    asks_happen true old new c (client_event.Prefork caller want) (event.Prefork c caller want) answer (λ k l. refl) asked

-- a caller asks for a cookie of its own
pub preexec_happens : (old new : World) (c : ConnNo) (caller : Caller) (answer : Reply)
    → Asks old c (client_event.Preexec caller) answer new → Happens old (event.Preexec c caller) answer new
preexec_happens old new c caller answer asked =
    asks_happen true old new c (client_event.Preexec caller) (event.Preexec c caller) answer (λ k l. refl) asked

-- a caller asks for the answer to a request
pub collect_happens : (old new : World) (c : ConnNo) (number : ReqNo) (answer : Reply)
    → Asks old c (client_event.Collect number) answer new → Happens old (event.Collect c number) answer new
collect_happens old new c number answer asked =
    asks_happen true old new c (client_event.Collect number) (event.Collect c number) answer (λ k l. refl) asked
