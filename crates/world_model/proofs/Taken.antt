-- What a frame that comes to the server owes, and that its connection speaks on.
use Rattle.std.proofs.Common.{◌≡◌, ◌≢◌, inl, inr, ℕ, true, false, List, [], ◌∷◌, ◌++◌, length, Some, refl, sym, ap, ◌∙◌, subst, append-nil, append_assoc}
use Rattle.std.specs.List.{AllByRecursion}
use Rattle.std.specs.FinMap.{get, insert}
use Rattle.sp_base.specs.declared.names.ConnNo.{ConnNo}
use Rattle.sp_base.specs.declared.names.ReqNo.{ReqNo}
use Rattle.sp_frames.specs.declared.frame.Body.{Body}
use Rattle.sp_frames.specs.declared.frame.Frame.{Frame}
use Rattle.kern_model.specs.declared.journal.Entry.{Entry}
use Rattle.tables.proofs.Maps.{get_put, get_put_other, same_or_not}
use Rattle.hub_model.proofs.Keeps.{all_map}
use Rattle.hub_model.specs.State.{Connection, Machine, is_draining, is_fresh}
use Rattle.hub_model.specs.State as server
use Rattle.hub_law.specs.Frames.{numbered}
use Rattle.hub_law.proofs.Frames.{numbered-append}
use Rattle.hub_law.proofs.Keys.{Grows, Stays}
use Rattle.hub_law.proofs.Lanes.{AreNumbered, GrowsPast}
use Rattle.hub_law.proofs.Lists.{all_append}
use Rattle.client_model.specs.State.{Client}
use Rattle.world_model.specs.Once.{IsFine}
use Rattle.world_model.specs.Run.{Item}
use Rattle.world_model.specs.State.{Link}
use Rattle.world_model.specs.declared.event.Reply.TheVariants as reply
use Rattle.world_model.proofs.Grown.{fact_grows}
use Rattle.world_model.proofs.Lane.{Beside, Rises, RisesBy, Same, Speaks, is_copy, is_welcome, slice_of}
use Rattle.world_model.proofs.Slice.{Slice, frame_of, number, unperformed}
use Rattle.world_model.proofs.Slices.{headed_here, headed_other}
use Rattle.world_model.proofs.Stage.{At, Calling, Stage, Stands, Sent, Copying}
use Rattle.hub_model.specs.Frames.{ask_body}
use Rattle.client_model.specs.Asks.{copy_of}
use Rattle.sp_base.specs.declared.need.Need.{Need}
use Rattle.world_model.specs.Log.{Ask}

-- what an event at the server leaves of its machine: a connection is another one, and others stay, or are left; the journal grows past the others
pub record Changed (m m' : Machine) (c : ConnNo) (now : Connection) : Type 0 where
  pub here : get m'.connections c.0 ≡ Some now
  pub others : (d : ConnNo) → d.0 ≢ c.0 → Beside (get m.connections d.0) (get m'.connections d.0)
  pub opened : m'.opened ≡ m.opened
  pub halted : m'.halted ≡ m.halted
  pub stays : Stays m.journal m'.journal
  pub grows : (d : ConnNo) → d.0 ≢ c.0 → GrowsPast d m.journal m'.journal

-- what a frame owes that comes to the server: the journal grows by no entry of another request, and the connection speaks on
pub record Taken (m : Machine) (c : ConnNo) (k : Client) (l : Link) (f : Frame) (log : List Item) (p : server.Played) : Type 0 where
  pub now : Connection
  pub changed : Changed m p.1 c now
  pub past : (q : ReqNo) → q.0 ≢ f.number.0 → Grows c q m.journal p.1.journal
  pub fine : IsFine (reply.Server p.0)
  pub speaks : Speaks c k l now log p.1.journal

-- the connection of a number changes, and the journal and the cookies may
pub put_changed : (m : Machine) (c : ConnNo) (x : Connection) (journal : List Entry) (cookies : _) (handovers : _)
    → Stays m.journal journal → ((d : ConnNo) → d.0 ≢ c.0 → GrowsPast d m.journal journal)
    → Changed m (record m { journal = journal; connections = insert m.connections c.0 x; cookies = cookies; handovers = handovers }) c x
put_changed m c x journal cookies handovers stays grows = record {
  here = get_put m.connections c.0 x;
  others = λ d ne. Same (get_put_other m.connections c.0 x d.0 ne);
  opened = refl;
  halted = refl;
  stays = stays;
  grows = grows;
}

-- ---- the oldest frame

-- what the oldest frame under way can be: a request, or a copy; and no more is under way of its number
pub data Comes (journal : List Entry) (c : ConnNo) (n : ℕ) (σ : Slice) (f : Frame) (rest : List Frame) : Type 0 where
  Asks : (ask : Ask) → (says : Body) → At journal c n σ (Sent ask says) → f ≡ frame_of n says → rest ≡ [] → Comes journal c n σ f rest
  Brings : (a : Calling) → (got : List (List ℕ)) → (need : Need) → At journal c n σ (Copying a got need)
      → f ≡ frame_of n (copy_of a.mem (ask_body (length got) need)) → rest ≡ [] → Comes journal c n σ f rest

-- nothing was told of it
pub comes_untold : (journal : List Entry) (c : ConnNo) (n : ℕ) (σ : Slice) (f : Frame) (rest : List Frame) → Comes journal c n σ f rest → σ.told ≡ []
comes_untold journal c n σ f rest (Asks ask says at is none) = at.told
comes_untold journal c n σ f rest (Brings a got need at is none) = at.told

-- the oldest frame is one or the other
pub comes_as : (journal : List Entry) (c : ConnNo) (n : ℕ) (σ : Slice) (f : Frame) (rest : List Frame) → σ.up ≡ f ∷ rest → (s : Stage) → At journal c n σ s
    → Comes journal c n σ f rest
comes_as journal c n σ f rest up (Sent ask says) h = Asks ask says h (cc) (cc)
comes_as journal c n σ f rest up (Copying a got need) h = Brings a got need h (cc) (cc)
comes_as journal c n σ f rest up _ h = absurd (cc)

-- ---- the connection speaks on

-- the link without its oldest frame
abbrev pub rest_of : Link → List Frame → Link
rest_of l frames = record l { up = frames }

module _ (c : ConnNo) (k : Client) (l : Link) (x : Connection) (f : Frame) (frames : List Frame) (log : List Item) (up : l.up ≡ f ∷ frames) where
  -- the frames of the frame's number
  pub head_is : (slice_of c f.number.0 k l x log).up ≡ f ∷ numbered f.number.0 (frames ++ k.queue)
  head_is = ap (λ (fs : List Frame). numbered f.number.0 (fs ++ k.queue)) up ∙ headed_here f.number.0 f (frames ++ k.queue) refl

  pub rises_is : Rises x.last (l.up ++ k.queue) k.last → RisesBy (is_copy f.body) x.last f (λ n. Rises n (frames ++ k.queue) k.last)
  rises_is h = subst (λ (fs : List Frame). Rises x.last (fs ++ k.queue) k.last) up h

  -- what a connection is made of a frame: what is said is of the frame's number, and so is the call that changes
  pub record Turns (x' : Connection) (says : List Frame) : Type 0 where
    pub queue : x'.queue ≡ x.queue ++ says
    pub numbers : AreNumbered f.number says
    pub calls : (q : ℕ) → q ≢ f.number.0 → get x'.calls q ≡ get x.calls q
    pub rises : Rises x'.last (frames ++ k.queue) k.last
    pub takes : is_draining x'.condition ≡ false
    pub begins : x'.last ≡ 0 → is_fresh x'.condition ≡ true
    pub spoke : is_fresh x.condition ≡ false → is_fresh x'.condition ≡ false
    pub welcome : AllByRecursion (λ f. is_welcome f.body ≡ true → is_fresh x'.condition ≡ false) says

  module _ (x' : Connection) (says : List Frame) (old new : List Entry) (turns : Turns x' says) (speaks : Speaks c k l x log old)
      (past : (q : ReqNo) → q.0 ≢ f.number.0 → Grows c q old new) where
    up_other : (q : ℕ) → q ≢ f.number.0 → numbered q (frames ++ k.queue) ≡ numbered q (l.up ++ k.queue)
    up_other q ne = sym (ap (λ (fs : List Frame). numbered q (fs ++ k.queue)) up ∙ headed_other q f (frames ++ k.queue) (λ e. ne (sym e)))

    down_all : (q : ℕ) → numbered q (l.down ++ x'.queue) ≡ numbered q (l.down ++ x.queue) ++ numbered q says
    down_all q =
        ap (λ (fs : List Frame). numbered q (l.down ++ fs)) turns.queue
        ∙ (ap (λ (fs : List Frame). numbered q fs) (sym (append_assoc l.down x.queue says)) ∙ numbered-append q (l.down ++ x.queue) says)

    down_other : (q : ℕ) → q ≢ f.number.0 → numbered q (l.down ++ x'.queue) ≡ numbered q (l.down ++ x.queue)
    down_other q ne =
        down_all q ∙ (ap (λ (fs : List Frame). numbered q (l.down ++ x.queue) ++ fs) (turns.numbers.other q ne) ∙ append-nil (numbered q (l.down ++ x.queue)))

    -- another request stays where it was
    others : (q : ℕ) → q ≢ f.number.0 → Stands new c q (slice_of c q k (rest_of l frames) x' log)
    others q ne =
        let h = speaks.each q in (
          h.0,
          record {
            asked = h.1.asked;
            told = h.1.told;
            request = h.1.request;
            up = up_other q ne ∙ h.1.up;
            task = ap unperformed (turns.calls q ne) ∙ h.1.task;
            down = down_other q ne ∙ h.1.down;
            fact = fact_grows c q old new (past (number q) ne) h.0 h.1.fact;
          },
        )

    all_welcome : AllByRecursion (λ f. is_welcome f.body ≡ true → is_fresh x'.condition ≡ false) (l.down ++ x'.queue)
    all_welcome =
        subst (λ (fs : List Frame). AllByRecursion (λ f. is_welcome f.body ≡ true → is_fresh x'.condition ≡ false) fs)
        (append_assoc l.down x.queue says ∙ ap (λ (fs : List Frame). l.down ++ fs) (sym turns.queue))
        (all_append (λ (f : Frame). is_welcome f.body ≡ true → is_fresh x'.condition ≡ false) (l.down ++ x.queue) says
        (all_map (λ (f : Frame). is_welcome f.body ≡ true → is_fresh x.condition ≡ false)
        (λ (f : Frame). is_welcome f.body ≡ true → is_fresh x'.condition ≡ false)
        (λ (f : Frame) spoke e. turns.spoke (spoke e)) (l.down ++ x.queue) speaks.welcome)
        turns.welcome)

    -- the frame's request is at its stage, and so the connection speaks on
    pub speaks_on : Stands new c f.number.0 (slice_of c f.number.0 k (rest_of l frames) x' log) → Speaks c k (rest_of l frames) x' log new
    speaks_on stands = record {
      each = λ q. elim (same_or_not q f.number.0) [
        | inl e ↦ subst (λ (q : ℕ). Stands new c q (slice_of c q k (rest_of l frames) x' log)) (sym e) stands
        | inr ne ↦ others q ne
      ];
      above = speaks.above;
      rises = turns.rises;
      goes_on = speaks.goes_on;
      takes = turns.takes;
      begins = turns.begins;
      ready = λ e. turns.spoke (speaks.ready e);
      first = speaks.first;
      welcome = all_welcome;
    }

    -- what is said of the frame's number
    pub says_here : (slice_of c f.number.0 k l x log).down ≡ [] → (slice_of c f.number.0 k (rest_of l frames) x' log).down ≡ says
    says_here none = down_all f.number.0 ∙ (ap (λ (fs : List Frame). fs ++ numbered f.number.0 says) none ∙ turns.numbers.here)
