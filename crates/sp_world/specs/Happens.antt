-- What is answered to an event of a world, where memory may be refused.
use Rattle.std.specs.Prelude.{◌≡◌, ◌⊎◌, ℕ, ◌≤◌, not, Bool, true, false, Some, IsSome}
use Rattle.std.specs.FinMap.{get}
use Rattle.hub_model.specs.Sound.{IsOpened}
use Rattle.hub_model.specs.declared.event.Reply.TheVariants as server_reply
use Rattle.sp_base.specs.declared.names.SpError.TheVariants as error
use Rattle.client_model.specs.State.{Client, HasName}
use Rattle.world_model.specs.Machine.{played}
use Rattle.world_model.specs.State.{Link, Played, World}
use Rattle.world_model.specs.declared.event.Event.{Event}
use Rattle.world_model.specs.declared.event.Event.TheVariants as event
use Rattle.world_model.specs.declared.event.Reply.{Reply}
use Rattle.world_model.specs.declared.event.Reply.TheVariants as reply

-- an event is work
abbrev pub is_work : Event → Bool
is_work (event.Work c r) = true
is_work _ = false

-- the answer to an event tells that there was no memory for what would have been performed, where the event is work
abbrev pub refuses_by : Bool → Reply → Bool
refuses_by true (reply.Server (server_reply.Refused error.Memory)) = true
refuses_by _ _ = false

-- the answer to work tells that there was no memory for what would have been performed
abbrev pub refuses_memory : Event → Reply → Bool
refuses_memory happens answer = refuses_by (is_work happens) answer

-- memory was refused, and nothing changed
pub record IsWanting (old : World) (answer : Reply) (new : World) : Type 0 where
  pub answers : answer ≡ reply.NoMemory
  pub keeps : new ≡ old

-- what the machine plays is answered, or memory was refused
abbrev pub Gives : World → Played → Reply → World → Type 0
Gives old played answer new = ((answer, new) ≡ played) ⊎ IsWanting old answer new

-- an event happens as the machine plays it, with memory unless the answer tells of none; or memory was refused
abbrev pub Happens : World → Event → Reply → World → Type 0
Happens old happens answer new = Gives old (played (not (refuses_memory happens answer)) old happens) answer new

-- who greets does so under a name that a frame can carry
abbrev pub IsNamed : Event → Type 0
IsNamed (event.Connect c hello) = HasName hello
IsNamed _ = Unit {0}

-- each link is of a number that was opened, and each client has a link
pub record IsPaired (w : World) : Type 0 where
  pub links : (c : ℕ) (l : Link) → get w.links c ≡ Some l → IsOpened w.rump.opened c
  pub clients : (c : ℕ) (k : Client) → get w.clients c ≡ Some k → IsSome (get w.links c)

-- no link broke more often, and no guest has more entries
pub record IsWithin (most : ℕ) (w : World) : Type 0 where
  pub faults : (c : ℕ) (l : Link) → get w.links c ≡ Some l → l.faults ≤ most
  pub counts : (guest count : ℕ) → get w.counts guest ≡ Some count → count ≤ most
