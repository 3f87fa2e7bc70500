-- What the methods of a joined client and server do are the moves of their link.
use Rattle.std.proofs.Common.{◌≡◌, ◌≢◌, ℕ, inl, inr, List, Bool, true, false, Some, None, refl, sym, ap, subst, ◌∙◌}
use Rattle.sp_base.specs.declared.names.ConnNo.{ConnNo}
use Rattle.sp_copy.specs.declared.part.Part.{Part}
use Rattle.sp_frames.specs.declared.frame.Frame.{Frame}
use Rattle.hub_model.specs.Machine as server
use Rattle.hub_model.specs.State.{Machine, Played}
use Rattle.hub_model.specs.declared.event.Event.{Event as ServerEvent}
use Rattle.hub_model.specs.declared.event.Event.TheVariants as server_event
use Rattle.hub_model.specs.declared.event.Reply.{Reply as ServerReply}
use Rattle.hub_model.specs.declared.event.Reply.TheVariants as server_reply
use Rattle.client_model.specs.Machine as client
use Rattle.client_model.specs.State.{Client}
use Rattle.client_model.specs.declared.event.Event.{Event as ClientEvent}
use Rattle.client_model.specs.declared.event.Event.TheVariants as client_event
use Rattle.client_model.specs.declared.event.Reply.{Reply as ClientReply}
use Rattle.client_model.specs.declared.event.Reply.TheVariants as client_reply
use Rattle.link_model.specs.Link.{Link, made, sent as sent_with, client_hands_with, server_hands, to_server_with, to_client, server_plays, client_plays}
use Rattle.link_model.specs.declared.moves.Move.TheVariants.{ToClient}

-- whether there is memory matters to no frame that comes
frame_any : (memory : Bool) (m : Machine) (c : ConnNo) (f : Frame) (salt : ℕ) → server.played memory m (server_event.Frame c f salt) ≡ server.played true m (server_event.Frame c f salt)
frame_any true m c f salt = refl
frame_any false m c f salt = refl

-- an event that isn't answered for want of memory is played
played_by : (m m' : Machine) (event : ServerEvent) (answer : ServerReply) → server.Plays m event answer m' → answer ≢ server_reply.NoMemory → (memory : Bool) × ((answer, m') ≡ server.played memory m event)
played_by m m' event answer (inl played) has = played
played_by m m' event answer (inr wants) has = absurd (has wants.answers)

frame_played : (m m' : Machine) (c : ConnNo) (f : Frame) (salt : ℕ) (answer : ServerReply) → server.Plays m (server_event.Frame c f salt) answer m' → answer ≢ server_reply.NoMemory
    → (answer, m') ≡ server.played true m (server_event.Frame c f salt)
frame_played m m' c f salt answer plays has = let p = played_by m m' (server_event.Frame c f salt) answer plays has in p.1 ∙ frame_any p.0 m c f salt

opened_any : (memory : Bool) (m : Machine) (c : ConnNo) → server.played memory m (server_event.Opened c) ≡ server.played true m (server_event.Opened c)
opened_any true m c = refl
opened_any false m c = refl

-- a connection that opens
pub opens : (m m' : Machine) (c : ConnNo) (answer : ServerReply) → server.Plays m (server_event.Opened c) answer m' → answer ≢ server_reply.NoMemory
    → m' ≡ (server.played true m (server_event.Opened c)).1
opens m m' c answer plays has = let p = played_by m m' (server_event.Opened c) answer plays has in ap (λ (q : Played). q.1) (p.1 ∙ opened_any p.0 m c)

-- a frame that the client hands out goes to the server
pub sent : (link : Link) (salt : ℕ) (k : Client) (m' : Machine) (f passed : Frame) (answer : ServerReply) → (client_reply.Out f, k) ≡ client.played link.client client_event.Take → passed ≡ f
    → server.Plays link.server (server_event.Frame link.conn passed salt) answer m' → answer ≢ server_reply.NoMemory
    → sent_with link salt ≡ record { link = record { client = k; server = m'; conn = link.conn }; server = Some answer; client = None }
sent link salt k m' f passed answer takes same plays has =
    let p = frame_played link.server m' link.conn passed salt answer plays has in
    let q = subst (λ (g : Frame). (answer, m') ≡ server.played true link.server (server_event.Frame link.conn g salt)) same p in
    sym (ap (client_hands_with link salt) takes) ∙ sym (ap (server_plays (record link { client = k })) q)

no_frame_up : (link : Link) (salt : ℕ) (answer : ClientReply) → ((f : Frame) → answer ≢ client_reply.Out f) → to_server_with link salt answer ≡ record { link = link; server = None; client = None }
no_frame_up link salt (client_reply.Out f) not = absurd (not f refl)
no_frame_up link salt answer not = refl

-- a client that hands out no frame sends none
pub not_sent : (link : Link) (salt : ℕ) (k : Client) (answer : ClientReply) → (answer, k) ≡ client.played link.client client_event.Take → ((f : Frame) → answer ≢ client_reply.Out f)
    → sent_with link salt ≡ record { link = record { client = k; server = link.server; conn = link.conn }; server = None; client = None }
not_sent link salt k answer takes not = sym (ap (client_hands_with link salt) takes) ∙ no_frame_up (record link { client = k }) salt answer not

pub client_played_by : (k k' : Client) (event : ClientEvent) (answer : ClientReply) → client.Plays k event answer k' → ((mem : List Part) → answer ≢ client_reply.NoMemory mem) → (answer, k') ≡ client.played k event
client_played_by k k' event answer (inl played) has = played
client_played_by k k' event answer (inr wants) has = absurd (has _ wants.answers)

-- a frame that the server hands out goes to the client
pub told : (link : Link) (k : Client) (m' : Machine) (f passed : Frame) (answer : ClientReply) → (server_reply.Out f, m') ≡ server.played true link.server (server_event.Take link.conn) → passed ≡ f
    → client.Plays link.client (client_event.Frame passed) answer k → ((mem : List Part) → answer ≢ client_reply.NoMemory mem)
    → made link ToClient ≡ record { link = record { client = k; server = m'; conn = link.conn }; server = None; client = Some answer }
told link k m' f passed answer takes same plays has =
    let p = client_played_by link.client k (client_event.Frame passed) answer plays has in
    let q = subst (λ (g : Frame). (answer, k) ≡ client.played link.client (client_event.Frame g)) same p in
    sym (ap (server_hands link) takes) ∙ sym (ap (client_plays (record link { server = m' })) q)

no_frame_down : (link : Link) (answer : ServerReply) → ((f : Frame) → answer ≢ server_reply.Out f) → to_client link answer ≡ record { link = link; server = None; client = None }
no_frame_down link (server_reply.Out f) not = absurd (not f refl)
no_frame_down link answer not = refl

-- a server that hands out no frame sends none
pub not_told : (link : Link) (m' : Machine) (answer : ServerReply) → (answer, m') ≡ server.played true link.server (server_event.Take link.conn) → ((f : Frame) → answer ≢ server_reply.Out f)
    → made link ToClient ≡ record { link = record { client = link.client; server = m'; conn = link.conn }; server = None; client = None }
not_told link m' answer takes not = sym (ap (server_hands link) takes) ∙ no_frame_down (record link { server = m' }) answer not
