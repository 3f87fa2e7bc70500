-- A link that breaks, and a connection that its guest closes, are events of the world.
use Rattle.std.proofs.Common.{◌≡◌, inl, true, ap, ◌∙◌}
use Rattle.std.specs.Ordering.{nat_cmp}
use Rattle.std.specs.FinMap.{FinMap, insert, remove}
use Rattle.sp_base.specs.declared.names.ConnNo.{ConnNo}
use Rattle.hub_model.specs.Machine as server
use Rattle.hub_model.specs.State as server_state
use Rattle.hub_model.specs.State.{Machine}
use Rattle.hub_model.specs.declared.event.Event.TheVariants as server_event
use Rattle.hub_model.specs.declared.event.Finish.TheVariants.{Clean}
use Rattle.hub_model.specs.declared.event.Reply.{Reply as ServerReply}
use Rattle.client_model.specs.Machine as client
use Rattle.client_model.specs.State as client_state
use Rattle.client_model.specs.State.{Client}
use Rattle.client_model.specs.declared.event.Event.TheVariants as client_event
use Rattle.client_model.specs.declared.event.Reply.{Reply as ClientReply}
use Rattle.world_model.specs.Machine.{close, cut_link, emptied}
use Rattle.world_model.specs.State.{Link, World, with_link}
use Rattle.world_model.specs.declared.event.Event.TheVariants as event
use Rattle.world_model.specs.declared.event.Reply.TheVariants as reply
use Rattle.sp_world.specs.Ends.{TakesOut}
use Rattle.sp_world.specs.Happens.{Happens}
use Rattle.sp_world.proofs.There.{answered}
use Rattle.sp_world.proofs.Ways.{put, put_back, put_with, same_server}

-- the world with both ends of a connection, and another server
abbrev put_all : World → ConnNo → Machine → Client → Link → World
put_all w c m k l = record (put w c k l) { rump = m }

-- the link of a connection breaks
pub cut_happens : (old mid new : World) (c : ConnNo) (k k' : Client) (l l' : Link) (m' : Machine) (answer : ServerReply) (told : ClientReply) → TakesOut old c k l mid
    → (answer, m') ≡ server.played true mid.rump (server_event.Lost c) → (told, k') ≡ client.played k client_event.Gone → l' ≡ cut_link l
    → new ≡ put (record mid { rump = m' }) c k' l' → Happens old (event.Cut c) reply.Moved new
cut_happens old mid new c k k' l l' m' answer told out lost gone breaks is =
    let m : Machine = (server.played true old.rump (server_event.Lost c)).1 in
    let server_is : m' ≡ m = ap (λ (p : server_state.Played). p.1) lost
    ∙ ap (λ (n : Machine). (server.played true n (server_event.Lost c)).1) (same_server old mid c k l out) in
    let client_is : k' ≡ (client.played k client_event.Gone).1 = ap (λ (p : client_state.Played). p.1) gone in
    let world_is : new ≡ put_all old c m (client.played k client_event.Gone).1 (cut_link l) =
    is ∙ put_with old mid c k k' l l' m' out ∙ ap (λ (n : Machine). put_all old c n k' l') server_is ∙ ap (λ (j : Client). put_all old c m j l') client_is
    ∙ ap (λ (i : Link). put_all old c m (client.played k client_event.Gone).1 i) breaks in
    rw (out.client, out.link) (inl (ap (answered reply.Moved) world_is))

-- the world without a connection's client, and with another server
abbrev left : World → ConnNo → Machine → World
left w c m = record w { rump = m; clients = remove w.clients c.0 }

-- a guest closes its connection
pub ends_happens : (old mid back new : World) (c : ConnNo) (k : Client) (l l' : Link) (m' : Machine) (answer : ServerReply) → TakesOut old c k l mid
    → l' ≡ emptied l → back ≡ put mid c k l' → (answer, m') ≡ server.played true back.rump (server_event.Ended c Clean)
    → new ≡ record back { rump = m'; clients = remove back.clients c.0 } → Happens old (event.Ends c) (reply.Server answer) new
ends_happens old mid back new c k l l' m' answer out empties back_is ended is =
    let there : back ≡ with_link old c (emptied l) =
    back_is ∙ put_back old mid c k k l l' out ∙ ap (λ (ks : FinMap nat_cmp Client). record old { clients = ks; links = insert old.links c.0 l' }) out.client_back
    ∙ ap (λ (i : Link). with_link old c i) empties in
    let plays : ◌≡◌ {A = server_state.Played} (answer, m') (server.played true old.rump (server_event.Ended c Clean)) =
    ended ∙ ap (λ (w : World). server.played true w.rump (server_event.Ended c Clean)) there in
    rw (out.client, out.link) (inl (ap (answered (reply.Server answer)) (is ∙ ap (λ (w : World). left w c m') there) ∙ ap (close old c l) plays))
