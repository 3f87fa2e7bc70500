-- Events of connections leave the host's kernel as it is.
use Rattle.std.proofs.Common.{◌≡◌, ℕ, Bool, true, List, [], ◌∷◌, Option, Some, None, refl}
use Rattle.std.specs.Prelude.{⊤}
use Rattle.std.specs.FinMap.{get}
use Rattle.sp_base.specs.declared.names.ConnNo.{ConnNo}
use Rattle.sp_frames.specs.declared.frame.Frame.{Frame}
use Rattle.hub_model.specs.Machine as server
use Rattle.hub_model.specs.State.{Machine}
use Rattle.hub_model.specs.declared.event.Event.TheVariants as server_event
use Rattle.hub_model.specs.declared.event.Reply.{Reply as ServerReply}
use Rattle.hub_model.specs.declared.event.Reply.TheVariants as server_reply
use Rattle.client_model.specs.Machine as client
use Rattle.client_model.specs.State.{Client}
use Rattle.client_model.specs.declared.event.Event.TheVariants as client_event
use Rattle.client_model.specs.declared.event.Hello.{Hello}
use Rattle.client_model.specs.declared.event.Reply.{Reply as ClientReply}
use Rattle.client_model.specs.declared.event.Reply.TheVariants as client_reply
use Rattle.world_model.specs.Machine.{connect_by, connection_at, connection_plays, from_client_by, from_server_by, of_connection, to_client, to_server}
use Rattle.world_model.specs.State.{Link, Played, World}
use Rattle.world_model.specs.declared.event.Event.{Event}
use Rattle.world_model.specs.declared.event.Event.TheVariants as event
use Rattle.world_model.specs.declared.event.Reply.{Reply}
use Rattle.world_model.specs.declared.event.Reply.TheVariants as reply

-- a reply isn't that of the host's kernel
abbrev pub IsUnhosted : Reply → Type 0
IsUnhosted (reply.Hosted answer mem) = ⊥
IsUnhosted _ = ⊤

-- what was played leaves the host's journal and its guests' counts as they were, and isn't answered by the host's kernel
pub record HostStays (w : World) (p : Played) : Type 0 where
  pub host : p.1.host ≡ w.host
  pub counts : p.1.counts ≡ w.counts
  pub unhosted : IsUnhosted p.0

stays_sends : (w : World) (c : ConnNo) (l : Link) (k : Client) (answer : ClientReply) → HostStays w (from_client_by w c l k answer)
stays_sends w c l k (client_reply.Out f) = record { host = refl; counts = refl; unhosted = tt }
stays_sends w c l k _ = record { host = refl; counts = refl; unhosted = tt }

stays_takes : (w : World) (c : ConnNo) (l : Link) (m : Machine) (answer : ServerReply) → HostStays w (from_server_by w c l m answer)
stays_takes w c l m (server_reply.Out f) = record { host = refl; counts = refl; unhosted = tt }
stays_takes w c l m _ = record { host = refl; counts = refl; unhosted = tt }

stays_comes : (w : World) (c : ConnNo) (salt : ℕ) (l : Link) (frames : List Frame) → HostStays w (to_server w c salt l frames)
stays_comes w c salt l [] = record { host = refl; counts = refl; unhosted = tt }
stays_comes w c salt l (f ∷ frames) = record { host = refl; counts = refl; unhosted = tt }

stays_arrives : (w : World) (c : ConnNo) (k : Client) (l : Link) (frames : List Frame) → HostStays w (to_client w c k l frames)
stays_arrives w c k l [] = record { host = refl; counts = refl; unhosted = tt }
stays_arrives w c k l (f ∷ frames) = record { host = refl; counts = refl; unhosted = tt }

stays_there : (memory : Bool) (w : World) (c : ConnNo) (k : Client) (l : Link) (happens : Event) → HostStays w (connection_plays memory w c k l happens)
stays_there memory w c k l (event.FromClient d) = stays_sends w c l (client.played k client_event.Take).1 (client.played k client_event.Take).0
stays_there memory w c k l (event.ToServer d salt) = stays_comes w c salt l l.up
stays_there memory w c k l (event.FromServer d) =
    let p = server.played true w.rump (server_event.Take c) in stays_takes w c l p.1 p.0
stays_there memory w c k l (event.ToClient d) = stays_arrives w c k l l.down
stays_there memory w c k l _ = record { host = refl; counts = refl; unhosted = tt }

stays_at : (memory : Bool) (w : World) (c : ConnNo) (happens : Event) (k : Option Client) (l : Option Link)
    → HostStays w (connection_at memory w c happens k l)
stays_at memory w c happens (Some k) (Some l) = stays_there memory w c k l happens
stays_at memory w c happens (Some k) None = record { host = refl; counts = refl; unhosted = tt }
stays_at memory w c happens None l = record { host = refl; counts = refl; unhosted = tt }

-- an event of a connection leaves the host's kernel as it is
pub stays_plays : (memory : Bool) (w : World) (c : ConnNo) (happens : Event) → HostStays w (of_connection memory w c happens)
stays_plays memory w c happens = stays_at memory w c happens (get w.clients c.0) (get w.links c.0)

connect_host : (w : World) (c : ConnNo) (hello : Hello) (answer : ServerReply) → (connect_by w c hello answer).host ≡ w.host
connect_host w c hello server_reply.Nothing = refl
connect_host w c hello _ = refl

connect_counts : (w : World) (c : ConnNo) (hello : Hello) (answer : ServerReply) → (connect_by w c hello answer).counts ≡ w.counts
connect_counts w c hello server_reply.Nothing = refl
connect_counts w c hello _ = refl

-- so does a connection that opens
pub stays_connects : (w : World) (m : Machine) (c : ConnNo) (hello : Hello) (answer : ServerReply)
    → HostStays w (reply.Server answer, connect_by (record w { rump = m }) c hello answer)
stays_connects w m c hello answer = record {
  host = connect_host (record w { rump = m }) c hello answer;
  counts = connect_counts (record w { rump = m }) c hello answer;
  unhosted = tt;
}
