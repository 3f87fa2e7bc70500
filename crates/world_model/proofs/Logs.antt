-- What stands in a log where something was told.
use Rattle.std.proofs.Common.{◌≡◌, inl, inr, ℕ, Bool, true, false, cond, List, [], ◌∷◌, Option, Some, refl, ap, ◌∙◌, arith}
use Rattle.std.proofs.lemmas.Bool.Decides.{nat_tests}
use Rattle.std.proofs.lemmas.Grind.{common_steps}
use Rattle.sp_base.specs.declared.names.ConnNo.{ConnNo}
use Rattle.sp_base.specs.declared.names.ReqNo.{ReqNo}
use Rattle.sp_copy.specs.declared.part.Part.{Part}
use Rattle.client_model.specs.declared.event.Reply.{Reply as ClientReply}
use Rattle.client_model.specs.declared.event.Reply.TheVariants as client_reply
use Rattle.world_model.specs.Log.{IsIn, closing, closing_in, is_closing, is_key, tells, told}
use Rattle.world_model.specs.Once.{lost_on}
use Rattle.world_model.specs.Run.{Item}
use Rattle.world_model.specs.declared.event.Event.{Event}
use Rattle.world_model.specs.declared.event.Event.TheVariants as event
use Rattle.world_model.specs.declared.event.Reply.{Reply}
use Rattle.world_model.specs.declared.event.Reply.TheVariants as reply
use Rattle.world_model.proofs.Order.{in_either}

-- what is told is what the client answered
pub closing_is : (answer was : ClientReply) → IsIn answer (closing was) → was ≡ answer
closing_is answer was i = by_test (is_closing was) i where
  by_test : (b : Bool) → IsIn answer (cond b (was ∷ []) []) → was ≡ answer
  by_test true (inl same) = same
  by_test true (inr none) = absurd none
  by_test false none = absurd none

-- an item of a log answers that the link of a connection is gone
pub record SaysLost (c : ConnNo) (log : List Item) : Type 0 where
  pub item : Item
  pub there : IsIn item log
  pub says : lost_on item.event item.reply ≡ Some c

-- ---- who was told that a link is gone

-- the connection of a key is the one that is asked about
key_connection : (c : ConnNo) (n : ℕ) (d : ConnNo) (m : ℕ) → is_key c n d m ≡ true → d.0 ≡ c.0
key_connection c n d m h = grind (arith, nat_tests, common_steps)

-- a connection by its number
abbrev connection : ℕ → Option ConnNo
connection n = Some (record { 0 = n })

lost_collected : (c : ConnNo) (mem : List Part) (r : ReqNo) (answer : Reply) → IsIn (client_reply.Lost mem) (closing_in answer)
    → lost_on (event.Collect c r) answer ≡ Some c
lost_collected c mem r (reply.Client was) i = ap (λ (a : ClientReply). lost_on (event.Collect c r) (reply.Client a)) (closing_is (client_reply.Lost mem) was i)
lost_collected c mem r _ i = absurd i

lost_tells : (c : ConnNo) (n : ℕ) (mem : List Part) (happens : Event) (answer : Reply) → IsIn (client_reply.Lost mem) (tells c n happens answer)
    → lost_on happens answer ≡ Some c
lost_tells c n mem (event.Collect d r) answer i = by_key (is_key c n d r.0) refl i where
  by_key : (b : Bool) → is_key c n d r.0 ≡ b → IsIn (client_reply.Lost mem) (cond b (closing_in answer) []) → lost_on (event.Collect d r) answer ≡ Some c
  by_key true e i = lost_collected d mem r answer i ∙ ap (λ (n : ℕ). connection n) (key_connection c n d r.0 e)
  by_key false e i = absurd i
lost_tells c n mem _ answer i = absurd i

-- who was told that a link is gone was told so by an item of the log
pub lost_told : (c : ConnNo) (n : ℕ) (mem : List Part) (log : List Item) → IsIn (client_reply.Lost mem) (told c n log) → SaysLost c log
lost_told c n mem [] i = absurd i
lost_told c n mem (item ∷ log) i = elim (in_either (client_reply.Lost mem) (tells c n item.event item.reply) (told c n log) i) [
  | inl here ↦ record { item = item; there = inl refl; says = lost_tells c n mem item.event item.reply here }
  | inr before ↦ let was = lost_told c n mem log before in record { item = was.item; there = inr was.there; says = was.says }
]
