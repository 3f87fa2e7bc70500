-- The log's splits, and the order of places in a journal that grows.
use Rattle.std.proofs.Common.{◌≡◌, ◌≢◌, ◌⊎◌, inl, inr, ℕ, ◌<◌, ◌≤◌, List, [], ◌∷◌, ◌++◌, length, Option, Some, None, slice_get, refl, sym, ap, ◌∙◌, subst, arith, append_assoc}
use Rattle.std.proofs.lemmas.Option.{slice_get_cases, slice_get_within}
use Rattle.sp_base.specs.declared.names.ConnNo.{ConnNo}
use Rattle.sp_base.specs.declared.names.ReqNo.{ReqNo}
use Rattle.kern_model.specs.declared.journal.Entry.{Entry}
use Rattle.hub_law.specs.Serves.{StandsAt}
use Rattle.hub_law.proofs.Keys.{Grows, HasNone, Stays}
use Rattle.client_model.specs.declared.event.Reply.{Reply as ClientReply}
use Rattle.world_model.specs.After.{HappensAfter}
use Rattle.world_model.specs.Log.{Ask, IsIn, asked, asks, told, tells}
use Rattle.world_model.specs.Run.{History, Item}

-- ---- what is in a list

pub in_left : {X : Type 0} (x : X) (xs ys : List X) → IsIn x xs → IsIn x (xs ++ ys)
in_left x [] ys h = absurd h
in_left x (z ∷ xs) ys (inl e) = inl e
in_left x (z ∷ xs) ys (inr h) = inr (in_left x xs ys h)

pub in_right : {X : Type 0} (x : X) (xs ys : List X) → IsIn x ys → IsIn x (xs ++ ys)
in_right x [] ys h = h
in_right x (z ∷ xs) ys h = inr (in_right x xs ys h)

pub in_either : {X : Type 0} (x : X) (xs ys : List X) → IsIn x (xs ++ ys) → IsIn x xs ⊎ IsIn x ys
in_either x [] ys h = inr h
in_either x (z ∷ xs) ys (inl e) = inl (inl e)
in_either x (z ∷ xs) ys (inr h) = elim (in_either x xs ys h) [
  | inl here ↦ inl (inr here)
  | inr there ↦ inr there
]

-- what was told earlier is told
pub told_earlier : (c : ConnNo) (n : ℕ) (later earlier : List Item) (answer : ClientReply) → IsIn answer (told c n earlier) → IsIn answer (told c n (later ++ earlier))
told_earlier c n [] earlier answer h = h
told_earlier c n (item ∷ later) earlier answer h = in_right answer (tells c n item.event item.reply) (told c n (later ++ earlier)) (told_earlier c n later earlier answer h)

-- ---- an event more

-- what an event owes for the order: each entry stays at its place; what was told has no new entry; what is asked for anew has none
pub record KeepsOrder (old new : List Entry) (log : List Item) (item : Item) : Type 0 where
  pub stays : Stays old new
  pub closed : (c : ConnNo) (r : ReqNo) (answer : ClientReply) → IsIn answer (told c r.0 log) → Grows c r old new
  pub news : (c : ConnNo) (r : ReqNo) (ask : Ask) → IsIn ask (asks c r.0 item.event item.reply) → HasNone old c r

-- an entry stood at its place before, or is new
old_or_new : (old new : List Entry) (p : ℕ) (e : Entry) → Stays old new → slice_get new p ≡ Some e → (slice_get old p ≡ Some e) ⊎ (length old ≤ p)
old_or_new old new p e stays h = elim (slice_get_cases old p).1 [
  | inl there ↦
      let same : there.0 ≡ e = (let k : Some there.0 ≡ Some e = sym (stays p there.0 there.2) ∙ h in cc) in
      inl (there.2 ∙ ap Some same)
  | inr past ↦ inr past.0
]

cons_split : (item : Item) (log : List Item) (later earlier : List Item) → item ∷ log ≡ later ++ earlier
    → (later ≡ []) ⊎ ((rest : List Item) × (later ≡ item ∷ rest) × (log ≡ rest ++ earlier))
cons_split item log [] earlier e = inl refl
cons_split item log (x ∷ later) earlier e =
    let head : x ≡ item = cc in
    let tail : log ≡ later ++ earlier = cc in
    inr (later, ap (λ (y : Item). y ∷ later) head, tail)

module _ (old new : List Entry) (log : List Item) (item : Item) (keeps : KeepsOrder old new log item) where
  before_new : (c : ConnNo) (r : ReqNo) (answer : ClientReply) (p : ℕ) (e : Entry) → IsIn answer (told c r.0 log) → StandsAt new c r p e → StandsAt old c r p e
  before_new c r answer p e is s = (keeps.closed c r answer is).back p e s

  later_step : ((later earlier : List Item) → log ≡ later ++ earlier
      → (c d : ConnNo) (r q : ReqNo) (answer : ClientReply) (ask : Ask) (p place : ℕ) (e f : Entry)
      → IsIn answer (told c r.0 earlier) → IsIn ask (asked d q.0 later)
      → StandsAt old c r p e → StandsAt old d q place f → p < place)
      → (rest earlier : List Item) → log ≡ rest ++ earlier
      → (c d : ConnNo) (r q : ReqNo) (answer : ClientReply) (ask : Ask) (p place : ℕ) (e f : Entry)
      → IsIn answer (told c r.0 earlier) → IsIn ask (asks d q.0 item.event item.reply ++ asked d q.0 rest)
      → StandsAt new c r p e → StandsAt new d q place f → p < place
  later_step after rest earlier split c d r q answer ask p place e f told_it asked_it first second =
      let told_now : IsIn answer (told c r.0 log) = subst (λ (l : List Item). IsIn answer (told c r.0 l)) (sym split) (told_earlier c r.0 rest earlier answer told_it) in
      let stood : StandsAt old c r p e = before_new c r answer p e told_now first in
      let within : p < length old = slice_get_within old p e stood.0 in
      elim (old_or_new old new place f keeps.stays second.0) [
        | inl before ↦ elim (in_either ask (asks d q.0 item.event item.reply) (asked d q.0 rest) asked_it) [
          | inl here ↦ absurd (keeps.news d q ask here place f (before, second.1))
          | inr there ↦ after rest earlier split c d r q answer ask p place e f told_it there stood (before, second.1)
        ]
        | inr past ↦ omega (arith, within, past)
      ]

-- the order of places holds on
pub order_step : (h h' : History) (item : Item) → h'.log ≡ item ∷ h.log → KeepsOrder h.world.rump.journal h'.world.rump.journal h.log item
    → HappensAfter h → HappensAfter h'
order_step h h' item logs keeps after = λ later earlier split c d r q answer ask p place e f told_it asked_it first second.
    elim (cons_split item h.log later earlier (sym logs ∙ split)) [
      | inl none ↦ absurd (subst (λ (l : List Item). IsIn ask (asked d q.0 l)) none asked_it)
      | inr more ↦ later_step h.world.rump.journal h'.world.rump.journal h.log item keeps after more.0 earlier more.2 c d r q answer ask p place e f told_it
          (subst (λ (l : List Item). IsIn ask (asked d q.0 l)) more.1 asked_it) first second
    ]
