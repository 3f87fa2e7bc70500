-- Where a connection is, and what holds of all its requests.
use Rattle.std.proofs.Common.{◌≡◌, ℕ, ◌<◌, ◌≤◌, Bool, true, false, List, [], ◌∷◌, ◌++◌, Option, Some, None}
use Rattle.std.specs.List.{AllByRecursion}
use Rattle.std.specs.FinMap.{get}
use Rattle.sp_base.specs.declared.names.ConnNo.{ConnNo}
use Rattle.sp_frames.specs.declared.frame.Body.{Body}
use Rattle.sp_frames.specs.declared.frame.Body.TheVariants as body
use Rattle.sp_frames.specs.declared.frame.Frame.{Frame}
use Rattle.kern_model.specs.declared.journal.Entry.{Entry}
use Rattle.hub_model.specs.Requests.{left_over}
use Rattle.hub_model.specs.Sound.{IsOpened}
use Rattle.hub_model.specs.State.{Connection, is_draining, is_fresh}
use Rattle.client_model.specs.State.{Client}
use Rattle.client_model.specs.declared.request.Ending.TheVariants.{Gone}
use Rattle.world_model.specs.Log.{asked, told}
use Rattle.world_model.specs.Run.{Item}
use Rattle.world_model.specs.State.{Link}
use Rattle.world_model.proofs.Left.{LeftAt, OverAt}
use Rattle.world_model.proofs.Slice.{Slice, slice}
use Rattle.world_model.proofs.Stage.{Stands}

-- a frame brings a copy
abbrev pub is_copy : Body → Bool
is_copy (body.GotBytes index err bytes) = true
is_copy (body.GotText index err bytes) = true
is_copy _ = false

-- the requests among frames have rising numbers, above a last one and up to another
abbrev pub RisesBy : Bool → ℕ → Frame → (ℕ → Type 0) → Type 0
RisesBy true last f rest = rest last
RisesBy false last f rest = (last < f.number.0) × rest f.number.0

abbrev pub Rises : ℕ → List Frame → ℕ → Type 0
Rises last [] most = last ≤ most
Rises last (f ∷ frames) most = RisesBy (is_copy f.body) last f (λ n. Rises n frames most)

-- a frame with which the client speaks for a process
abbrev pub is_welcome : Body → Bool
is_welcome (body.Hello pid) = true
is_welcome (body.Joined pid) = true
is_welcome (body.Imaged pid place) = true
is_welcome _ = false

-- what there is of a request on a connection that speaks
abbrev pub slice_of : ConnNo → ℕ → Client → Link → Connection → List Item → Slice
slice_of c n k l x log = slice c n k.requests x.calls (l.up ++ k.queue) (l.down ++ x.queue) log

-- a connection speaks: each of its requests is at a stage, and none above the last number was asked for; the requests under way come in rising order; the
-- client may ask for more only once it speaks for a process, and so does the connection by then
pub record Speaks (c : ConnNo) (k : Client) (l : Link) (x : Connection) (log : List Item) (journal : List Entry) : Type 0 where
  pub each : (n : ℕ) → Stands journal c n (slice_of c n k l x log)
  pub above : (n : ℕ) → k.last < n → asked c n log ≡ []
  pub rises : Rises x.last (l.up ++ k.queue) k.last
  pub goes_on : k.ending ≡ None
  pub takes : is_draining x.condition ≡ false
  pub begins : x.last ≡ 0 → is_fresh x.condition ≡ true
  pub ready : k.ready ≡ true → is_fresh x.condition ≡ false
  pub first : k.ready ≡ false → k.last ≡ 1
  pub welcome : AllByRecursion (λ f. is_welcome f.body ≡ true → is_fresh x.condition ≡ false) (l.down ++ x.queue)

-- nothing is under way over a link
pub record IsEmpty (l : Link) : Type 0 where
  pub up : l.up ≡ []
  pub down : l.down ≡ []

-- where a connection is: never opened; speaking; left by a broken link, whose client may still hand out what it had queued; or closed by its guest
pub data Lane (c : ConnNo) (opened : Option ℕ) (halted : Bool) (k : Option Client) (l : Option Link) (x : Option Connection) (log : List Item) (journal : List Entry) : Type 0 where
  Absent : k ≡ None → l ≡ None → x ≡ None → ((n : ℕ) → OverAt journal c n (asked c n log) (told c n log)) → ((n : ℕ) → asked c n log ≡ [])
      → Lane c opened halted k l x log journal
  Alive : (k' : Client) → (l' : Link) → (x' : Connection) → k ≡ Some k' → l ≡ Some l' → x ≡ Some x' → IsOpened opened c.0 → halted ≡ false
      → Speaks c k' l' x' log journal → Lane c opened halted k l x log journal
  Broken : (k' : Client) → (l' : Link) → k ≡ Some k' → l ≡ Some l' → x ≡ None → IsOpened opened c.0 → k'.ending ≡ Some Gone → l'.down ≡ [] → 0 < l'.faults
      → ((n : ℕ) → LeftAt journal c n (asked c n log) (told c n log) (get k'.requests n)) → Lane c opened halted k l x log journal
  Closed : (l' : Link) → k ≡ None → l ≡ Some l' → x ≡ None → IsOpened opened c.0 → IsEmpty l'
      → ((n : ℕ) → OverAt journal c n (asked c n log) (told c n log)) → Lane c opened halted k l x log journal

-- what may become of another connection at the server meanwhile: nothing; or its process goes on as its next program, over another connection
pub data Beside (now now' : Option Connection) : Type 0 where
  Same : now' ≡ now → Beside now now'
  LeftOver : (x : Connection) → now ≡ Some x → is_fresh x.condition ≡ false → now' ≡ Some (left_over x) → Beside now now'
