-- What the methods of a link do is a move of its frames.
use Rattle.std.proofs.Common.{◌≡◌, ◌≢◌, ◌<◌, inl, ℕ, Bool, true, false, cond, List, [], ◌∷◌, length, drop, get_or, Option, Some, None, refl, sym, ap, subst, ◌∙◌, arith}
use Rattle.std.specs.FinMap.{get}
use Rattle.sp_base.specs.declared.names.ConnNo.{ConnNo}
use Rattle.sp_copy.specs.declared.part.Part.{Part}
use Rattle.sp_frames.specs.declared.frame.Frame.{Frame}
use Rattle.hub_model.specs.Machine as server
use Rattle.hub_model.specs.State as server_state
use Rattle.hub_model.specs.State.{Connection, Machine}
use Rattle.hub_model.specs.Work.{take_at, take_from}
use Rattle.hub_model.specs.declared.event.Event.TheVariants as server_event
use Rattle.hub_model.specs.declared.event.Reply.{Reply as ServerReply}
use Rattle.hub_model.specs.declared.event.Reply.TheVariants as server_reply
use Rattle.hub_model.specs.declared.state.Condition.{Condition}
use Rattle.hub_model.specs.declared.state.Condition.TheVariants as condition
use Rattle.client_model.specs.Machine as client
use Rattle.client_model.specs.State as client_state
use Rattle.client_model.specs.State.{Client}
use Rattle.client_model.specs.declared.event.Event.TheVariants as client_event
use Rattle.client_model.specs.declared.event.Reply.{Reply as ClientReply}
use Rattle.client_model.specs.declared.event.Reply.TheVariants as client_reply
use Rattle.world_model.specs.State.{Link}
use Rattle.world_model.specs.declared.event.Reply.TheVariants as reply
use Rattle.sp_world.specs.Ends.{Moved, Moves, brought_down, brought_down_by, brought_up, brought_up_by, sent_down, sent_down_by, sent_up, sent_up_by}
use Rattle.sp_world.proofs.Wants.{client_plays, server_plays}

-- ---- from the client

-- nothing moves, and the client is that of a play
abbrev still_up : Link → client_state.Played → Moved Client
still_up l p = (reply.Nothing, (l, p.1))

nothing_up_by : (l : Link) (k k' : Client) (answer : ClientReply) (queue : List Frame) → (answer, k') ≡ client.take_from k queue → ((f : Frame) → answer ≢ client_reply.Out f)
    → (reply.Nothing, (l, k')) ≡ sent_up_by l k (client.take_from k queue).0 (client.take_from k queue).1
nothing_up_by l k k' answer [] e other = ap (still_up l) e
nothing_up_by l k k' answer (f ∷ queue) e other = absurd (other f (ap (λ (p : client_state.Played). p.0) e))

-- a client that hands out no frame stays as it was
pub nothing_up : (l inside l' : Link) (k k' : Client) (answer : ClientReply) → inside ≡ l → l' ≡ inside → (answer, k') ≡ client.played k client_event.Take → ((f : Frame) → answer ≢ client_reply.Out f)
    → Moves (sent_up l k) reply.Nothing l l' k k'
nothing_up l inside l' k k' answer view same e other = rw (same, view) (inl (nothing_up_by l k k' answer k.queue e other))

-- ---- from the server

-- nothing moves, and the server is that of a play
abbrev still_down : Link → server_state.Played → Moved Machine
still_down l p = (reply.Nothing, (l, p.1))

-- where a play of the server hands out no frame, nothing moves
abbrev IsStill : Link → Machine → server_state.Played → Type 0
IsStill l m p = (answer : ServerReply) (m' : Machine) → (answer, m') ≡ p → ((f : Frame) → answer ≢ server_reply.Out f) → (reply.Nothing, (l, m')) ≡ sent_down_by l m p.0 p.1

closed_still : (l : Link) (m : Machine) → IsStill l m (server_reply.Closed, m)
closed_still l m answer m' e other = ap (still_down l) e

taken_still : (l : Link) (m : Machine) (c : ConnNo) (x : Connection) (how : Condition) (queue : List Frame) → IsStill l m (take_from m c x how queue)
taken_still l m c x condition.Draining [] answer m' e other = ap (still_down l) e
taken_still l m c x condition.Draining (f ∷ queue) answer m' e other = absurd (other f (ap (λ (p : server_state.Played). p.0) e))
taken_still l m c x _ [] answer m' e other = ap (still_down l) e
taken_still l m c x _ (f ∷ queue) answer m' e other = absurd (other f (ap (λ (p : server_state.Played). p.0) e))

take_still : (l : Link) (m : Machine) (c : ConnNo) (o : Option Connection) → IsStill l m (take_at m c o)
take_still l m c None = closed_still l m
take_still l m c (Some x) = taken_still l m c x x.condition x.queue

running_still : (l : Link) (m : Machine) (p : server_state.Played) (halted : Bool) → IsStill l m p → IsStill l m (cond {A = server_state.Played} halted (server_reply.Closed, m) p)
running_still l m p true still = closed_still l m
running_still l m p false still = still

-- a server that hands out no frame stays as it was
pub nothing_down : (l inside l' : Link) (m m' : Machine) (c : ConnNo) (answer : ServerReply) → inside ≡ l → l' ≡ inside → (answer, m') ≡ server.played true m (server_event.Take c)
    → ((f : Frame) → answer ≢ server_reply.Out f) → Moves (sent_down l m c) reply.Nothing l l' m m'
nothing_down l inside l' m m' c answer view same e other =
    rw (same, view) (inl (running_still l m (take_at m c (get m.connections c.0)) m.halted (take_still l m c (get m.connections c.0)) answer m' e other))

-- ---- the oldest frame

-- the first of a list, and what is left without it
oldest : (frames : List Frame) (f : Frame) → 0 < length frames → f ≡ get_or frames 0 f → frames ≡ f ∷ drop 1 frames
oldest [] f some first = absurd (omega arith)
oldest (g ∷ frames) f some first = ap (λ (h : Frame). h ∷ frames) (sym first)

-- ---- to the server

-- whether there is memory for a call matters to no frame
frame_plays : (memory : Bool) (m : Machine) (c : ConnNo) (f : Frame) (salt : ℕ) → server.played memory m (server_event.Frame c f salt) ≡ server.played true m (server_event.Frame c f salt)
frame_plays true m c f salt = refl
frame_plays false m c f salt = refl

-- what the server answered to the oldest frame
abbrev came_up : Link → List Frame → server_state.Played → Moved Machine
came_up l frames p = (reply.Server p.0, (record l { up = frames }, p.1))

brings_up_by : (l : Link) (m m' : Machine) (c : ConnNo) (f copy : Frame) (frames : List Frame) (salt : ℕ) (answer : ServerReply) → l.up ≡ f ∷ frames → copy ≡ f
    → server.Plays m (server_event.Frame c copy salt) answer m' → answer ≢ server_reply.NoMemory → (reply.Server answer, (record l { up = frames }, m')) ≡ brought_up l m c salt
brings_up_by l m m' c f copy frames salt answer has same plays other =
    let p = server_plays m m' (server_event.Frame c copy salt) answer plays other in
    let q = subst (λ (g : Frame). (answer, m') ≡ server.played true m (server_event.Frame c g salt)) same (p.1 ∙ frame_plays p.0 m c copy salt) in
    ap (came_up l frames) q ∙ sym (ap (brought_up_by l m c salt) has)

-- a frame comes to the server
pub brings_up : (l inside l' : Link) (m m' : Machine) (c : ConnNo) (f copy : Frame) (salt : ℕ) (answer : ServerReply) → inside ≡ l → 0 < length inside.up → f ≡ get_or inside.up 0 f
    → l' ≡ record inside { up = drop 1 inside.up } → copy ≡ f → server.Plays m (server_event.Frame c copy salt) answer m' → answer ≢ server_reply.NoMemory
    → Moves (brought_up l m c salt) (reply.Server answer) l l' m m'
brings_up l inside l' m m' c f copy salt answer view some first rest same plays other = rw (rest, ← view)
    (inl (brings_up_by inside m m' c f copy (drop 1 inside.up) salt answer (oldest inside.up f some first) same plays other))

-- no frame is under way to the server
pub none_up : (l : Link) (m : Machine) (c : ConnNo) (salt : ℕ) → l.up ≡ [] → Moves (brought_up l m c salt) reply.Nothing l l m m
none_up l m c salt none = inl (sym (ap (brought_up_by l m c salt) none))

-- ---- to the client

-- what the client answered to the oldest frame
abbrev came_down : Link → List Frame → client_state.Played → Moved Client
came_down l frames p = (reply.Client p.0, (record l { down = frames }, p.1))

brings_down_by : (l : Link) (k k' : Client) (f copy : Frame) (frames : List Frame) (answer : ClientReply) → l.down ≡ f ∷ frames → copy ≡ f
    → client.Plays k (client_event.Frame copy) answer k' → ((mem : List Part) → answer ≢ client_reply.NoMemory mem) → (reply.Client answer, (record l { down = frames }, k')) ≡ brought_down l k
brings_down_by l k k' f copy frames answer has same plays other =
    let p = client_plays k k' (client_event.Frame copy) answer plays other in
    let q = subst (λ (g : Frame). (answer, k') ≡ client.played k (client_event.Frame g)) same p in
    ap (came_down l frames) q ∙ sym (ap (brought_down_by l k) has)

-- a frame comes to the client
pub brings_down : (l inside l' : Link) (k k' : Client) (f copy : Frame) (answer : ClientReply) → inside ≡ l → 0 < length inside.down → f ≡ get_or inside.down 0 f
    → l' ≡ record inside { down = drop 1 inside.down } → copy ≡ f → client.Plays k (client_event.Frame copy) answer k' → ((mem : List Part) → answer ≢ client_reply.NoMemory mem)
    → Moves (brought_down l k) (reply.Client answer) l l' k k'
brings_down l inside l' k k' f copy answer view some first rest same plays other = rw (rest, ← view)
    (inl (brings_down_by inside k k' f copy (drop 1 inside.down) answer (oldest inside.down f some first) same plays other))

-- no frame is under way to the client
pub none_down : (l : Link) (k : Client) → l.down ≡ [] → Moves (brought_down l k) reply.Nothing l l k k
none_down l k none = inl (sym (ap (brought_down_by l k) none))
