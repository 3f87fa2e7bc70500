-- Whose process a connection speaks for, by all that was done to hand processes over.
use Rattle.std.specs.Prelude.{◌≡◌, ℕ, ◌<◌, ◌==◌, List, [], ◌∷◌, slice_get, Option, None, Some, option_and_then, option_map, if◌then◌else◌}
use Rattle.std.specs.FinMap.{get}
use Rattle.std.specs.List.{AllByRecursion}
use Rattle.sp_base.specs.declared.names.Pid.{Pid}
use Rattle.kern_model.specs.declared.journal.Entry.{Entry}
use Rattle.kern_model.specs.declared.journal.Who.TheVariants.{Request}
use Rattle.kern_model.specs.declared.operation.Op.{Op}
use Rattle.kern_model.specs.declared.operation.Op.TheVariants.{Attach}
use Rattle.hub_model.specs.State.{Connection, Machine, process_in}
use Rattle.hub_model.specs.declared.handover.Handover.{Handover}
use Rattle.hub_model.specs.declared.handover.Handover.TheVariants.{Attached, Forked, Readied, Joined, Imaged, Cancelled}

-- the process that the entry at a place made
abbrev pub made_at : List Entry → ℕ → Option ℕ
made_at journal place = option_map (λ e. e.outcome.ret0) (slice_get journal place)

-- the place of the fork whose child the fork cookie of a number hands over
abbrev pub fork_of : List Handover → ℕ → Option ℕ
fork_of [] number = None
fork_of (Forked k place ∷ earlier) number = if k == number then Some place.0 else fork_of earlier number
fork_of (h ∷ earlier) number = fork_of earlier number

-- the connection that made the exec cookie of a number
abbrev pub maker_of : List Handover → ℕ → Option ℕ
maker_of [] number = None
maker_of (Readied k c ∷ earlier) number = if k == number then Some c.0 else maker_of earlier number
maker_of (h ∷ earlier) number = maker_of earlier number

-- the process that a connection speaks for, or spoke for: the one that its attach made; the child of the fork cookie that it
-- joined by; or the process of the connection that made the exec cookie by which it goes on
abbrev pub owner_by : List Entry → List Handover → ℕ → Option ℕ
owner_by journal [] c = None
owner_by journal (Attached d place ∷ earlier) c = if d.0 == c then made_at journal place.0 else owner_by journal earlier c
owner_by journal (Joined d number ∷ earlier) c =
    if d.0 == c then option_and_then (made_at journal) (fork_of earlier number) else owner_by journal earlier c
owner_by journal (Imaged d number ∷ earlier) c =
    if d.0 == c then option_and_then (owner_by journal earlier) (maker_of earlier number) else owner_by journal earlier c
owner_by journal (h ∷ earlier) c = owner_by journal earlier c

-- the process that a connection speaks for, or spoke for
abbrev pub owner : Machine → ℕ → Option ℕ
owner m c = owner_by m.journal m.handovers c

-- the number that a handover gave to a new cookie
abbrev pub number_made : Handover → Option ℕ
number_made (Forked number place) = Some number
number_made (Readied number c) = Some number
number_made h = None

-- the number of the cookie that a handover used up
abbrev pub number_used : Handover → Option ℕ
number_used (Joined c number) = Some number
number_used (Imaged c number) = Some number
number_used (Cancelled number) = Some number
number_used h = None

-- a handover that made a cookie gave a number above each one that was given before
abbrev pub HasNewNumber : Handover → List Handover → Type 0
HasNewNumber h earlier = (n : ℕ) → number_made h ≡ Some n
    → AllByRecursion (λ g. (k : ℕ) → number_made g ≡ Some k → k < n) earlier

-- a handover that used a cookie up is the first that did
abbrev pub IsFirstUse : Handover → List Handover → Type 0
IsFirstUse h earlier = (n : ℕ) → number_used h ≡ Some n → AllByRecursion (λ g. number_used g ≡ Some n → ⊥) earlier

-- cookies are made under rising numbers, and each is used up once at the most: by one connection, or taken back
abbrev pub AreUsedOnce : List Handover → Type 0
AreUsedOnce [] = Unit {0}
AreUsedOnce (h ∷ earlier) = HasNewNumber h earlier × IsFirstUse h earlier × AreUsedOnce earlier

-- an operation of a request is by the process that its connection speaks for; an attach makes that process
abbrev pub IsOwners : Machine → ℕ → Entry → Op → Type 0
IsOwners m c e Attach = owner m c ≡ Some e.outcome.ret0
IsOwners m c e op = owner m c ≡ Some e.pid.0

-- what holds of all that was handed over
pub record HasOwners (m : Machine) : Type 0 where
  -- a connection speaks for its owner
  pub speaks : (c : ℕ) (x : Connection) (pid : Pid) → get m.connections c ≡ Some x → process_in x.condition ≡ Some pid → owner m c ≡ Some pid.0
  -- each entry of a request is by the owner of its connection, over or not
  pub entries : AllByRecursion (λ e. (c : _) (r : _) → e.who ≡ Request c r → IsOwners m c.0 e e.op) m.journal
  -- each cookie is used up once at the most, and numbers rise
  pub once : AreUsedOnce m.handovers
