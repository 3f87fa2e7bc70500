-- What is known where a connection is there, and where it isn't.
use Rattle.std.proofs.Common.{◌≡◌, Bool, true, false, Option, Some, None, IsSome, refl, sym, subst, ◌∙◌}
use Rattle.std.specs.Prelude.{◌↔◌, IsTrue}
use Rattle.std.specs.FinMap.{get}
use Rattle.sp_base.specs.declared.names.ConnNo.{ConnNo}
use Rattle.client_model.specs.State.{Client}
use Rattle.world_model.specs.Machine.{connection_at, connection_plays}
use Rattle.world_model.specs.State.{Link, Played, World}
use Rattle.world_model.specs.declared.event.Event.{Event}
use Rattle.world_model.specs.declared.event.Reply.{Reply}
use Rattle.world_model.specs.declared.event.Reply.TheVariants as reply
use Rattle.sp_world.specs.Ends.{IsAbsent, IsThere}
use Rattle.sp_world.specs.Happens.{IsPaired}

-- what is answered, with a world
abbrev pub answered : Reply → World → Played
answered answer w = (answer, w)

absent_at : (memory : Bool) (w : World) (c : ConnNo) (happens : Event) (k : Option Client) (l : Option Link) → (IsSome k → IsSome l → ⊥)
    → connection_at memory w c happens k l ≡ (reply.Closed, w)
absent_at memory w c happens (Some k) (Some l) lacks = absurd (lacks refl refl)
absent_at memory w c happens (Some k) None lacks = refl
absent_at memory w c happens None l lacks = refl

-- a connection that was looked for, and isn't there
pub absent : (w : World) (c : ConnNo) (there : Bool) → (IsTrue there ↔ IsThere w c) → there ≡ false → IsAbsent w c
absent w c there tells is memory happens = absent_at memory w c happens (get w.clients c.0) (get w.links c.0)
    (λ client link. let yes : there ≡ true = tells.1 (record { client = client; link = link }) in let wrong : true ≡ false = sym yes ∙ is in cc)

plays_at : (memory : Bool) (w : World) (c : ConnNo) (happens : Event) (play : Played) (k : Option Client) (l : Option Link) → IsSome k → IsSome l
    → ((k : Client) (l : Link) → connection_plays memory w c k l happens ≡ play) → connection_at memory w c happens k l ≡ play
plays_at memory w c happens play (Some k) (Some l) client link is = is k l
plays_at memory w c happens play (Some k) None client link is = absurd (let wrong : false ≡ true = link in cc)
plays_at memory w c happens play None l client link is = absurd (let wrong : false ≡ true = client in cc)

-- an event of a connection that is there, which plays whatever its ends are
pub plays_there : (memory : Bool) (w : World) (c : ConnNo) (happens : Event) (play : Played) → IsThere w c
    → ((k : Client) (l : Link) → connection_plays memory w c k l happens ≡ play) → connection_at memory w c happens (get w.clients c.0) (get w.links c.0) ≡ play
plays_there memory w c happens play there is = plays_at memory w c happens play (get w.clients c.0) (get w.links c.0) there.client there.link is

client_lacks : (k : Option Client) (l : Option Link) → (IsSome k → IsSome l) → l ≡ None → k ≡ None
client_lacks None l paired none = refl
client_lacks (Some k) l paired none = absurd (let wrong : false ≡ true = subst (λ (o : Option Link). IsSome o) none (paired refl) in cc)

paired_at : (w : World) (c : ConnNo) (k : Option Client) → get w.clients c.0 ≡ k → IsPaired w → IsSome k → IsSome (get w.links c.0)
paired_at w c (Some k) is paired some = paired.clients c.0 k is
paired_at w c None is paired some = absurd (let wrong : false ≡ true = some in cc)

-- where there is no link there is no client
pub no_client : (w : World) (c : ConnNo) → IsPaired w → get w.links c.0 ≡ None → get w.clients c.0 ≡ None
no_client w c paired none = client_lacks (get w.clients c.0) (get w.links c.0) (paired_at w c (get w.clients c.0) refl paired) none
