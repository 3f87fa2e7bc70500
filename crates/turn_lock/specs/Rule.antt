-- The rule that the lock's table keeps, and what each kind of step tells.
use Rattle.std.specs.Prelude.{◌≡◌, ◌≢◌, ℕ, ◌%◌, ◌<◌, List, [], ◌∷◌, ◌++◌, length, Option, Some, None}
use mathlib.Core.Option as maybe
use mathlib.Core.Option.{some}
use lib.ListN.{get_elem?}
use Rattle.atomic_table.specs.Table.{State, Me, Step, rest}
use Rattle.turn_lock.specs.declared.view.Entry.{Entry}
use Rattle.turn_lock.specs.declared.view.Player.{Player}
use Rattle.turn_lock.specs.declared.view.Known.{Known}
use Rattle.turn_lock.specs.declared.view.Stage.TheVariants.{Idle, Holding, Spent}
use Rattle.turn_lock.specs.declared.view.View.{View}
use Rattle.turn_lock.specs.declared.view.Slot.{Slot}
use Rattle.turn_lock.specs.History.{BeginsWith, BeginsAndEnds, entry, calls_by, Runs, Leads, IsLegal}
use Rattle.turn_lock.specs.Passes.{IsIn, player, with_call, Has, HasName, IsWhole}

module _ {O E R : Type 0} where
  -- the view of a pass without the turn
  abbrev pub idle : Known O E R → View O E R
  idle k = record { stage = Idle; known = k }

  -- the view of a pass that has the turn, after this history, which leads to this object
  abbrev pub holding : Known O E R → List (Entry E R) → O → View O E R
  holding k history now = record { stage = Holding now; known = record k { seen = history } }

  -- the view of a pass that was joined into another
  abbrev pub spent : View O E R
  spent = record { stage = Spent; known = record { opening = None; seen = []; own = player [] 0 []; joined = [] } }

  -- the pass in the seat j was not joined into another, and this is its view
  abbrev pub IsAt : List (View O E R) → ℕ → View O E R → Type 0
  IsAt views j v = (get_elem? views j ≡ some v) × (v.stage ≢ Spent)

  -- what holds of such a pass: it has seen a beginning of the history, its calls and those of the passes joined into it
  -- are the entries of their names, and where it has the turn, the lock is taken, and it has seen all
  pub record Fits (opening : O) (history : List (Entry E R)) (now : O) (lock holder j : ℕ) (v : View O E R) : Type 0 where
    pub opened : v.known.opening ≡ Some opening
    pub seen : BeginsWith history v.known.seen
    pub calls : (c : Player E R) → Has v.known c → calls_by c.name history ≡ c.calls
    pub own : (c : Player E R) → IsIn c v.known.joined → c.name ≢ v.known.own.name
    pub turn : (o : O) → v.stage ≡ Holding o → (lock ≡ 1) × (j ≡ holder) × (o ≡ now) × (v.known.seen ≡ history)

  -- no two passes have a name in common
  abbrev pub Apart : List (View O E R) → Type 0
  Apart views = (j k : ℕ) (v w : View O E R) → j ≢ k → IsAt views j v → IsAt views k w
      → (a b : Player E R) → Has v.known a → Has w.known b → a.name ≢ b.name

  -- a name that extends another goes on with a number below the other's count of splits
  abbrev pub Below : List (View O E R) → Type 0
  Below views = (j k : ℕ) (v w : View O E R) → IsAt views j v → IsAt views k w
      → (a b : Player E R) → Has v.known a → Has w.known b
      → (n : ℕ) (more : List ℕ) → b.name ≡ a.name ++ n ∷ more → n < a.splits

  -- a name that no pass has stands in no entry
  abbrev pub Unknown : List (View O E R) → List (Entry E R) → Type 0
  Unknown views history = (name : List ℕ)
      → ((j : ℕ) (v : View O E R) → IsAt views j v → (c : Player E R) → Has v.known c → c.name ≢ name)
      → calls_by name history ≡ []

  -- the rule: the history leads from the opening object to the one behind the lock; the lock word is 0 or 1, and the
  -- other word counts the history; while the lock is free the object lies in the slot, else the slot is out with a pass
  pub record Kept (step : O → E → R → O → Type 0) (opening : O) (s : State (Slot O E R) (View O E R)) : Type 0 where
    pub history : List (Entry E R)
    pub now : O
    pub lock : ℕ
    pub holder : ℕ
    pub runs : Runs step opening history now
    pub words : s.words ≡ lock ∷ (length history % 18446744073709551616) ∷ []
    pub bit : lock < 2
    pub home : lock ≡ 0 → (x : Slot O E R) × (s.homes ≡ some x ∷ []) × (x.object ≡ Some now)
    pub out : lock ≢ 0 → s.homes ≡ maybe.none ∷ []
    pub seats : (j : ℕ) (v : View O E R) → IsAt s.views j v → Fits opening history now lock holder j v
    pub apart : Apart s.views
    pub below : Below s.views
    pub unknown : Unknown s.views history

  -- what is known at the moment that a pass takes the turn
  pub record Knows (step : O → E → R → O → Type 0) (k : Known O E R) (history : List (Entry E R)) (now : O) : Type 0 where
    pub legal : Leads step k.opening history now
    pub begins : BeginsWith history k.seen
    pub calls : (c : Player E R) → Has k c → calls_by c.name history ≡ c.calls
    pub others : IsWhole k → (name : List ℕ) → (HasName k name → ⊥) → calls_by name history ≡ []

  -- the turn was taken, and the slot with the object
  abbrev pub Took : (O → E → R → O → Type 0) → Me (Slot O E R) (View O E R) → Me (Slot O E R) (View O E R) → Type 0
  Took step me w = (history : List (Entry E R)) × (now : O) × (x : Slot O E R) × (x.object ≡ Some now)
      × (w ≡ (holding me.0.known history now, (0, x) ∷ me.1)) × Knows step me.0.known history now

  -- a try that finds 0 takes the turn, any other changes nothing
  abbrev pub Tried : (O → E → R → O → Type 0) → Step (Slot O E R) → Me (Slot O E R) (View O E R) → ℕ → Me (Slot O E R) (View O E R) → Type 0
  Tried step s me found w = (found ≡ 0 → Took step me w) × (found ≢ 0 → w ≡ me)

  -- what the pass knows once its call was counted
  abbrev pub called : Known O E R → E → R → Known O E R
  called k event reply = record k { seen = k.seen ++ entry k.own.name event reply ∷ []; own = with_call k.own event reply }

  -- the slot that a seat took last
  abbrev pub first_slot : List (ℕ × Slot O E R) → Option (Slot O E R)
  first_slot [] = None
  first_slot (x ∷ xs) = Some x.1

  -- the call of the slot was counted: it is the last one that the pass has seen and made
  abbrev pub Committed : Step (Slot O E R) → Me (Slot O E R) (View O E R) → ℕ → Me (Slot O E R) (View O E R) → Type 0
  Committed s me found w = (x : Slot O E R) × (event : _) × (reply : _) × (now : O)
      × (first_slot me.1 ≡ Some x) × (x.object ≡ Some now) × (x.event ≡ Some event) × (x.reply ≡ Some reply)
      × (w ≡ (record { stage = Holding now; known = called me.0.known event.value reply.value }, me.1))

  -- the turn was given up, and the slot with it
  abbrev pub Freed : Step (Slot O E R) → Me (Slot O E R) (View O E R) → ℕ → Me (Slot O E R) (View O E R) → Type 0
  Freed s me found w = w ≡ (idle me.0.known, rest me.1)

  -- the slot as the lock is made
  abbrev pub home : O → Slot O E R
  home o = record { object = Some o; event = None; reply = None }

  -- the seat holds the one slot
  abbrev pub IsOneSlot : List (ℕ × Slot O E R) → Type 0
  IsOneSlot held = (x : Slot O E R) × (held ≡ (0, x) ∷ [])

  -- the seat holds the slot with this object
  abbrev pub Carries : List (ℕ × Slot O E R) → O → Type 0
  Carries held now = (x : Slot O E R) × (held ≡ (0, x) ∷ []) × (x.object ≡ Some now)

  -- the seat holds the slot with this object, and the call that led to it
  abbrev pub Tells : List (ℕ × Slot O E R) → O → E → R → Type 0
  Tells held now e r = (x : Slot O E R) × (event : _) × (reply : _) × (held ≡ (0, x) ∷ []) × (x.object ≡ Some now)
      × (x.event ≡ Some event) × (event.value ≡ e) × (x.reply ≡ Some reply) × (reply.value ≡ r)

  -- what a call makes of a pass
  pub record Played (step : O → E → R → O → Type 0) (k : Known O E R) (event : E) (reply : R) (after : Known O E R) : Type 0 where
    pub legal : IsLegal step after.opening after.seen
    pub seen : BeginsAndEnds k.seen (entry k.own.name event reply) after.seen
    pub own : after.own ≡ with_call k.own event reply
    pub once : calls_by after.own.name after.seen ≡ after.own.calls
    pub joined : after.joined ≡ k.joined
    pub opening : after.opening ≡ k.opening
