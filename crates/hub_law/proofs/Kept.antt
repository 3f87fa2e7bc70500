-- What holds of a machine, of what came and of what was sent; and that it holds on when one connection changes.
use Rattle.std.proofs.Common.{◌≡◌, ◌≢◌, inl, inr, ℕ, ◌==◌, ◌&&◌, Bool, true, cond, List, [], ◌∷◌, ◌++◌, Option, Some, refl, sym, ap, ◌∙◌, subst, append-nil}
use Rattle.std.specs.FinMap.{get, insert}
use Rattle.std.proofs.lemmas.Bool.{and_from, and_left, eq-eqb, ne_eqb}
use Rattle.sp_base.specs.declared.names.ConnNo.{ConnNo}
use Rattle.sp_frames.specs.declared.frame.Frame.{Frame}
use Rattle.kern_model.specs.declared.journal.Entry.{Entry}
use Rattle.sp_fork.specs.Jar.{Jar}
use Rattle.sp_fork.specs.declared.unused.CookieKind.TheVariants as kind
use Rattle.sp_fork.specs.declared.unused.Unused.{Unused}
use Rattle.hub_model.specs.Sound.{IsOpened}
use Rattle.hub_model.specs.State.{Connection, Machine, Played}
use Rattle.hub_model.specs.declared.event.Event.{Event}
use Rattle.hub_model.specs.declared.event.Event.TheVariants as event
use Rattle.hub_model.specs.declared.event.Reply.{Reply}
use Rattle.hub_model.specs.declared.event.Reply.TheVariants as reply
use Rattle.tables.proofs.Maps.{get_put, get_put_other, same_or_not}
use Rattle.hub_law.specs.Frames.{frame_in, frame_out, is_taken}
use Rattle.hub_law.specs.Serves.{IsForked}
use Rattle.hub_law.proofs.Keys.{grows_same}
use Rattle.hub_law.proofs.Lanes.{Aside, GrowsPast, Lane, lane_aside}
use Rattle.hub_law.proofs.Lanes.Aside.{Same}

-- the frames of each connection
abbrev pub Frames : Type 0
Frames = ConnNo → List Frame

-- some fork made the process of each unused fork cookie
abbrev pub HasForks : List Entry → Jar → Type 0
HasForks journal jar = (n : ℕ) (u : Unused) → get jar.unused n ≡ Some u → u.kind ≡ kind.Fork → IsForked journal u.pid

-- what holds of a machine, with the frames that came and that were sent
pub record Kept (m : Machine) (came sent : Frames) : Type 0 where
  pub lanes : (c : ConnNo) → Lane c m.opened (get m.connections c.0) (came c) (sent c) m.journal
  pub forks : HasForks m.journal m.cookies

-- it holds after an event
abbrev pub Happens : Event → Frames → Frames → Played → Type 0
Happens happens came sent p = Kept p.1 (λ d. came d ++ frame_in d happens p.0) (λ d. sent d ++ frame_out d happens p.0)

-- what an event leaves of everything but the connection that it is about
pub record Moves (m m' : Machine) (c : ConnNo) (now : Option Connection) : Type 0 where
  pub here : get m'.connections c.0 ≡ now
  pub others : (d : ConnNo) → d.0 ≢ c.0 → Aside (get m.connections d.0) (get m'.connections d.0)
  pub opened : (n : ℕ) → IsOpened m.opened n → IsOpened m'.opened n
  pub grows : (d : ConnNo) → d.0 ≢ c.0 → GrowsPast d m.journal m'.journal
  pub forks : HasForks m'.journal m'.cookies

same_connection : (c d : ConnNo) → d.0 ≡ c.0 → d ≡ c
same_connection c d e = ap (λ (n : ℕ). record { 0 = n }) e

keeps : (m m' : Machine) (c : ConnNo) (now : Option Connection) (came sent came' sent' : Frames) → Kept m came sent → Moves m m' c now
    → ((d : ConnNo) → d.0 ≢ c.0 → came' d ≡ came d) → ((d : ConnNo) → d.0 ≢ c.0 → sent' d ≡ sent d)
    → Lane c m'.opened now (came' c) (sent' c) m'.journal → Kept m' came' sent'
keeps m m' c now came sent came' sent' kept moves ins outs lane = record {
  lanes = λ d. elim (same_or_not d.0 c.0) [
    | inl e ↦ subst (λ (d : ConnNo). Lane d m'.opened (get m'.connections d.0) (came' d) (sent' d) m'.journal) (sym (same_connection c d e))
        (subst (λ (o : Option Connection). Lane c m'.opened o (came' c) (sent' c) m'.journal) (sym moves.here) lane)
    | inr ne ↦ lane_aside d m.opened m'.opened _ _ (came d) (came' d) (sent d) (sent' d) m.journal m'.journal moves.opened (moves.others d ne) (ins d ne) (outs d ne) (moves.grows d ne) (kept.lanes d)
  ];
  forks = moves.forks;
}

-- no frame comes and none goes, and the machine is the same
pub kept_same : (m : Machine) (came sent came' sent' : Frames) → ((d : ConnNo) → came' d ≡ came d) → ((d : ConnNo) → sent' d ≡ sent d) → Kept m came sent → Kept m came' sent'
kept_same m came sent came' sent' ins outs kept = record {
  lanes = λ d. lane_aside d m.opened m.opened _ _ (came d) (came' d) (sent d) (sent' d) m.journal m.journal (λ n o. o) (Same refl) (ins d) (outs d) (λ r. grows_same d r m.journal) (kept.lanes d);
  forks = kept.forks;
}

-- no frame comes and none goes with an event
pub record IsQuiet (happens : Event) (answer : Reply) : Type 0 where
  pub none_in : (d : ConnNo) → frame_in d happens answer ≡ []
  pub none_out : (d : ConnNo) → frame_out d happens answer ≡ []

nothing_more : (frames more : List Frame) → more ≡ [] → frames ++ more ≡ frames
nothing_more frames more none = ap (λ fs. frames ++ fs) none ∙ append-nil frames

-- an event that changes nothing
pub unchanged : (m : Machine) (came sent : Frames) (happens : Event) (answer : Reply) → Kept m came sent → IsQuiet happens answer → Happens happens came sent (answer, m)
unchanged m came sent happens answer kept quiet = kept_same m came sent _ _
    (λ d. nothing_more (came d) (frame_in d happens answer) (quiet.none_in d)) (λ d. nothing_more (sent d) (frame_out d happens answer) (quiet.none_out d)) kept

-- an event with which no frame comes or goes
pub quiet_kept : (m m' : Machine) (c : ConnNo) (now : Option Connection) (came sent : Frames) (happens : Event) (answer : Reply) → Kept m came sent → IsQuiet happens answer
    → Moves m m' c now → Lane c m'.opened now (came c) (sent c) m'.journal → Happens happens came sent (answer, m')
quiet_kept m m' c now came sent happens answer kept quiet moves lane = unchanged m' came sent happens answer
    (keeps m m' c now came sent came sent kept moves (λ d ne. refl) (λ d ne. refl) lane) quiet

not_in : (c d : ConnNo) (f : Frame) (taken : Bool) → d.0 ≢ c.0 → cond ((c.0 == d.0) && taken) (f ∷ []) [] ≡ []
not_in c d f taken ne = ap (λ b. cond b (f ∷ []) []) (and_left (c.0 == d.0) taken (ne_eqb c.0 d.0 (λ e. ne (sym e))))

is_in : (c : ConnNo) (f : Frame) (taken : Bool) → taken ≡ true → cond ((c.0 == c.0) && taken) (f ∷ []) [] ≡ f ∷ []
is_in c f taken e = ap (λ b. cond b (f ∷ []) []) (and_from (c.0 == c.0) taken (eq-eqb c.0 c.0 refl) e)

-- a frame comes
pub frame_kept : (m m' : Machine) (c : ConnNo) (now : Option Connection) (came sent : Frames) (f : Frame) (salt : ℕ) (answer : Reply) → Kept m came sent → is_taken answer ≡ true
    → Moves m m' c now → Lane c m'.opened now (came c ++ f ∷ []) (sent c) m'.journal → Happens (event.Frame c f salt) came sent (answer, m')
frame_kept m m' c now came sent f salt answer kept taken moves lane = keeps m m' c now came sent _ _ kept moves
    (λ d ne. nothing_more (came d) _ (not_in c d f (is_taken answer) ne))
    (λ d ne. append-nil (sent d))
    (subst (λ (fs : List Frame). Lane c m'.opened now (came c ++ fs) (sent c ++ []) m'.journal) (sym (is_in c f (is_taken answer) taken))
    (subst (λ (fs : List Frame). Lane c m'.opened now (came c ++ f ∷ []) fs m'.journal) (sym (append-nil (sent c))) lane))

-- a frame is handed out
pub out_kept : (m m' : Machine) (c : ConnNo) (now : Option Connection) (came sent : Frames) (f : Frame) → Kept m came sent
    → Moves m m' c now → Lane c m'.opened now (came c) (sent c ++ f ∷ []) m'.journal → Happens (event.Take c) came sent (reply.Out f, m')
out_kept m m' c now came sent f kept moves lane = keeps m m' c now came sent _ _ kept moves
    (λ d ne. append-nil (came d))
    (λ d ne. nothing_more (sent d) _ (ap (λ b. cond b (f ∷ []) []) (ne_eqb c.0 d.0 (λ e. ne (sym e)))))
    (subst (λ (fs : List Frame). Lane c m'.opened now (came c ++ []) (sent c ++ fs) m'.journal) (sym (ap (λ b. cond b (f ∷ []) []) (eq-eqb c.0 c.0 refl)))
    (subst (λ (fs : List Frame). Lane c m'.opened now fs (sent c ++ f ∷ []) m'.journal) (sym (append-nil (came c))) lane))

-- the connection of a number changes, and the journal and the cookies may
pub put_moves : (m : Machine) (c : ConnNo) (x : Connection) (journal : List Entry) (cookies : Jar) (handovers : _)
    → ((d : ConnNo) → d.0 ≢ c.0 → GrowsPast d m.journal journal) → HasForks journal cookies
    → Moves m (record m { journal = journal; connections = insert m.connections c.0 x; cookies = cookies; handovers = handovers }) c (Some x)
put_moves m c x journal cookies handovers grows forks = record {
  here = get_put m.connections c.0 x;
  others = λ d ne. Same (get_put_other m.connections c.0 x d.0 ne);
  opened = λ n o. o;
  grows = grows;
  forks = forks;
}
