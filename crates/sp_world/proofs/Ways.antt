-- A move over a link that was taken out, and is put back, is what happens in the world.
use Rattle.std.proofs.Common.{◌≡◌, inl, inr, ℕ, true, List, [], ◌∷◌, Option, Some, refl, sym, ap, subst, ◌∙◌}
use Rattle.std.specs.FinMap.{get, insert}
use Rattle.sp_base.specs.declared.names.ConnNo.{ConnNo}
use Rattle.sp_frames.specs.declared.frame.Frame.{Frame}
use Rattle.hub_model.specs.Machine as server
use Rattle.hub_model.specs.State.{Machine}
use Rattle.hub_model.specs.declared.event.Event.TheVariants as server_event
use Rattle.hub_model.specs.declared.event.Reply.{Reply as ServerReply}
use Rattle.hub_model.specs.declared.event.Reply.TheVariants as server_reply
use Rattle.client_model.specs.Machine as client
use Rattle.client_model.specs.State.{Client}
use Rattle.client_model.specs.declared.event.Event.TheVariants as client_event
use Rattle.client_model.specs.declared.event.Reply.{Reply as ClientReply}
use Rattle.client_model.specs.declared.event.Reply.TheVariants as client_reply
use Rattle.world_model.specs.Machine.{connection_at, connection_plays, from_client_by, from_server_by, to_client, to_server}
use Rattle.world_model.specs.State.{Link, Played, World}
use Rattle.world_model.specs.declared.event.Event.{Event}
use Rattle.world_model.specs.declared.event.Event.TheVariants as event
use Rattle.world_model.specs.declared.event.Reply.{Reply}
use Rattle.world_model.specs.declared.event.Reply.TheVariants as reply
use Rattle.sp_world.specs.Ends.{Moved, Moves, TakesOut, brought_down, brought_down_by, brought_up, brought_up_by, sent_down, sent_down_by, sent_up, sent_up_by}
use Rattle.sp_world.specs.Happens.{Gives, Happens}

-- ---- what is taken out, and put back

-- what is answered, with a world
abbrev answered : Reply → World → Played
answered answer w = (answer, w)

-- the world with both ends of a connection
abbrev pub put : World → ConnNo → Client → Link → World
put w c k l = record w { clients = insert w.clients c.0 k; links = insert w.links c.0 l }

-- ends that are put back where others stood are put into the world from which those were taken
pub put_back : (old mid : World) (c : ConnNo) (k k' : Client) (l l' : Link) → TakesOut old c k l mid → put mid c k' l' ≡ put old c k' l'
put_back old mid c k k' l l' out =
    let q : put mid c k' l' ≡ record old { clients = insert mid.clients c.0 k'; links = insert mid.links c.0 l' } =
    ap (λ (w : World). record w { clients = insert mid.clients c.0 k'; links = insert mid.links c.0 l' }) out.stays in
    let r : record old { clients = insert mid.clients c.0 k'; links = insert mid.links c.0 l' } ≡ put old c k' l' = rw (out.clients k', out.links l') refl in
    q ∙ r

-- the ends that were taken out are put back: the world is as it was
pub put_same : (old mid : World) (c : ConnNo) (k : Client) (l : Link) → TakesOut old c k l mid → put old c k l ≡ old
put_same old mid c k l out = rw (out.client_back, out.link_back) refl

-- the server isn't taken out
pub same_server : (old mid : World) (c : ConnNo) (k : Client) (l : Link) → TakesOut old c k l mid → mid.rump ≡ old.rump
same_server old mid c k l out = ap (λ (w : World). w.rump) out.stays

-- what is put back with another server
pub put_with : (old mid : World) (c : ConnNo) (k k' : Client) (l l' : Link) (m : Machine) → TakesOut old c k l mid → put (record mid { rump = m }) c k' l' ≡ record (put old c k' l') { rump = m }
put_with old mid c k k' l l' m out = ap (λ (w : World). record w { rump = m }) (put_back old mid c k k' l l' out)

-- a connection that is there plays an event with its ends
with_ends : (old mid : World) (c : ConnNo) (k : Client) (l : Link) (happens : Event) → TakesOut old c k l mid
    → connection_at true old c happens (get old.clients c.0) (get old.links c.0) ≡ connection_plays true old c k l happens
with_ends old mid c k l happens out =
    ap (λ (o : Option Client). connection_at true old c happens o (get old.links c.0)) out.client ∙ ap (λ (o : Option Link). connection_at true old c happens (Some k) o) out.link

-- ---- at the client's end

-- a move at the client's end, in the world
abbrev moved_there : World → ConnNo → Moved Client → Played
moved_there w c moved = (moved.0, put w c moved.1.1 moved.1.0)

client_end : (old mid new : World) (c : ConnNo) (k k' : Client) (l l' : Link) (answer : Reply) (moved : Moved Client) (played : Played) → TakesOut old c k l mid → new ≡ put mid c k' l'
    → moved_there old c moved ≡ played → Moves moved answer l l' k k' → Gives old played answer new
client_end old mid new c k k' l l' answer moved played out is plays (inl same) =
    inl (ap (answered answer) (is ∙ put_back old mid c k k' l l' out) ∙ ap (moved_there old c) same ∙ plays)
client_end old mid new c k k' l l' answer moved played out is plays (inr (none, same_link, same_client)) =
    let back : put old c k' l' ≡ old = rw (same_link, same_client) (put_same old mid c k l out) in
    inr (record { answers = none; keeps = is ∙ put_back old mid c k k' l l' out ∙ back })

sent_there : (w : World) (c : ConnNo) (k : Client) (l : Link) (answer : ClientReply) (k' : Client) → put w c k l ≡ w → moved_there w c (sent_up_by l k answer k') ≡ from_client_by w c l k' answer
sent_there w c k l (client_reply.Out f) k' same = refl
sent_there w c k l _ k' same = ap (answered reply.Nothing) same

-- the client sends its oldest frame
pub from_client_happens : (old mid new : World) (c : ConnNo) (k k' : Client) (l l' : Link) (answer : Reply) → TakesOut old c k l mid → Moves (sent_up l k) answer l l' k k'
    → new ≡ put mid c k' l' → Happens old (event.FromClient c) answer new
from_client_happens old mid new c k k' l l' answer out moves is =
    let sent = sent_there old c k l (client.played k client_event.Take).0 (client.played k client_event.Take).1 (put_same old mid c k l out) in
    client_end old mid new c k k' l l' answer (sent_up l k) _ out is (sent ∙ sym (with_ends old mid c k l (event.FromClient c) out)) moves

came_there : (w : World) (c : ConnNo) (k : Client) (l : Link) (frames : List Frame) → put w c k l ≡ w → moved_there w c (brought_down_by l k frames) ≡ to_client w c k l frames
came_there w c k l [] same = ap (answered reply.Nothing) same
came_there w c k l (f ∷ frames) same = refl

-- the oldest frame under way to the client comes there
pub to_client_happens : (old mid new : World) (c : ConnNo) (k k' : Client) (l l' : Link) (answer : Reply) → TakesOut old c k l mid → Moves (brought_down l k) answer l l' k k'
    → new ≡ put mid c k' l' → Happens old (event.ToClient c) answer new
to_client_happens old mid new c k k' l l' answer out moves is =
    let came = came_there old c k l l.down (put_same old mid c k l out) in
    client_end old mid new c k k' l l' answer (brought_down l k) _ out is (came ∙ sym (with_ends old mid c k l (event.ToClient c) out)) moves

-- ---- at the server's end

-- a move at the server's end, in the world, with the connection's client as it is
abbrev moved_here : World → ConnNo → Client → Moved Machine → Played
moved_here w c k moved = (moved.0, record (put w c k moved.1.0) { rump = moved.1.1 })

server_end : (old mid new : World) (c : ConnNo) (k : Client) (l l' : Link) (m' : Machine) (answer : Reply) (moved : Moved Machine) (played : Played) → TakesOut old c k l mid
    → new ≡ put (record mid { rump = m' }) c k l' → moved_here old c k moved ≡ played → Moves moved answer l l' old.rump m' → Gives old played answer new
server_end old mid new c k l l' m' answer moved played out is plays (inl same) =
    inl (ap (answered answer) (is ∙ put_with old mid c k k l l' m' out) ∙ ap (moved_here old c k) same ∙ plays)
server_end old mid new c k l l' m' answer moved played out is plays (inr (none, same_link, same_machine)) =
    let back : record (put old c k l') { rump = m' } ≡ old = rw (same_link, same_machine) (ap (λ (w : World). record w { rump = old.rump }) (put_same old mid c k l out)) in
    inr (record { answers = none; keeps = is ∙ put_with old mid c k k l l' m' out ∙ back })

sent_here : (w : World) (c : ConnNo) (k : Client) (l : Link) (answer : ServerReply) (m' : Machine) → insert w.clients c.0 k ≡ w.clients → insert w.links c.0 l ≡ w.links
    → moved_here w c k (sent_down_by l w.rump answer m') ≡ from_server_by w c l m' answer
sent_here w c k l (server_reply.Out f) m' client link = rw client refl
sent_here w c k l _ m' client link = rw (client, link) refl

-- the server sends its oldest frame for a connection
pub from_server_happens : (old mid seen new : World) (c : ConnNo) (k : Client) (l l' : Link) (m' : Machine) (answer : Reply) → TakesOut old c k l mid → seen ≡ mid
    → Moves (sent_down l seen.rump c) answer l l' seen.rump m' → new ≡ put (record seen { rump = m' }) c k l' → Happens old (event.FromServer c) answer new
from_server_happens old mid seen new c k l l' m' answer out view moves is =
    let out_seen = subst (λ (w : World). TakesOut old c k l w) (sym view) out in
    let here = subst (λ (m : Machine). Moves (sent_down l m c) answer l l' m m') (same_server old seen c k l out_seen) moves in
    let p = server.played true old.rump (server_event.Take c) in
    let sent = sent_here old c k l p.0 p.1 out.client_back out.link_back in
    server_end old seen new c k l l' m' answer (sent_down l old.rump c) _ out_seen is (sent ∙ sym (with_ends old mid c k l (event.FromServer c) out)) here

came_here : (w : World) (c : ConnNo) (k : Client) (l : Link) (salt : ℕ) (frames : List Frame) → insert w.clients c.0 k ≡ w.clients → insert w.links c.0 l ≡ w.links
    → moved_here w c k (brought_up_by l w.rump c salt frames) ≡ to_server w c salt l frames
came_here w c k l salt [] client link = rw (client, link) refl
came_here w c k l salt (f ∷ frames) client link = rw client refl

-- the oldest frame under way to the server comes there
pub to_server_happens : (old mid seen new : World) (c : ConnNo) (k : Client) (l l' : Link) (m' : Machine) (salt : ℕ) (answer : Reply) → TakesOut old c k l mid → seen ≡ mid
    → Moves (brought_up l seen.rump c salt) answer l l' seen.rump m' → new ≡ put (record seen { rump = m' }) c k l' → Happens old (event.ToServer c salt) answer new
to_server_happens old mid seen new c k l l' m' salt answer out view moves is =
    let out_seen = subst (λ (w : World). TakesOut old c k l w) (sym view) out in
    let here = subst (λ (m : Machine). Moves (brought_up l m c salt) answer l l' m m') (same_server old seen c k l out_seen) moves in
    let came = came_here old c k l salt l.up out.client_back out.link_back in
    server_end old seen new c k l l' m' answer (brought_up l old.rump c salt) _ out_seen is (came ∙ sym (with_ends old mid c k l (event.ToServer c salt) out)) here
