-- The oldest frame under way to the client comes there.
use Rattle.std.proofs.Common.{◌≡◌, ◌≢◌, inl, inr, ℕ, ◌+◌, ◌<◌, ◌||◌, Bool, true, false, List, [], ◌∷◌, ◌++◌, length, Option, Some, None, refl, sym, ap, ◌∙◌, subst, arith, append_assoc}
use Rattle.std.specs.List.{AllByRecursion}
use Rattle.std.specs.FinMap.{get, insert}
use Rattle.sp_base.specs.declared.names.ConnNo.{ConnNo}
use Rattle.sp_base.specs.declared.need.Need.{Need}
use Rattle.sp_copy.specs.Delivering.{put_piece}
use Rattle.sp_copy.specs.declared.delivery.Delivery.{Delivery}
use Rattle.sp_copy.proofs.Deliveries.{after}
use Rattle.sp_frames.specs.declared.frame.Body.{Body}
use Rattle.sp_frames.specs.declared.frame.Body.TheVariants as body
use Rattle.sp_frames.specs.declared.frame.Frame.{Frame}
use Rattle.tables.proofs.Maps.{get_put, get_put_other, same_or_not}
use Rattle.kern_model.specs.declared.outcome.OutPiece.{OutPiece}
use Rattle.hub_model.specs.Frames.{ask_body, puts_from}
use Rattle.hub_model.specs.State.{Connection, is_fresh}
use Rattle.hub_model.proofs.Keeps.{all_map, all_push}
use Rattle.hub_law.specs.Frames.{numbered}
use Rattle.client_model.specs.Asks.{copy_of, goes_on}
use Rattle.client_model.specs.Fitness.{may_come}
use Rattle.client_model.specs.Machine.{frame_by, frame_if, take_in}
use Rattle.client_model.specs.State.{Client, Open}
use Rattle.client_model.specs.declared.event.Reply.TheVariants as client_reply
use Rattle.client_model.specs.declared.request.Ending.{Ending}
use Rattle.world_model.specs.Log.{Ask}
use Rattle.world_model.specs.Machine.{client_plays, played, to_client}
use Rattle.world_model.specs.Once.{may_change}
use Rattle.world_model.specs.Run.{History, Item}
use Rattle.world_model.specs.State.{Link, World, faults_of, with_link}
use Rattle.world_model.specs.declared.event.Event.{Event}
use Rattle.world_model.specs.declared.event.Event.TheVariants as event
use Rattle.world_model.specs.declared.event.Reply.TheVariants as reply
use Rattle.world_model.proofs.Accepts.{ask_fits, ask_goes, copies, put_changes, put_fits, says_fits, says_goes}
use Rattle.world_model.proofs.Kept.{Goes, Kept}
use Rattle.world_model.proofs.Lane.{Rises, Speaks, is_welcome, slice_of}
use Rattle.world_model.proofs.Lane.Lane.{Alive}
use Rattle.world_model.proofs.Plays.{IsAlive, lane_goes, moves_goes}
use Rattle.world_model.proofs.Rises.{rises_copy}
use Rattle.world_model.proofs.Slice.{frame_of, number}
use Rattle.world_model.proofs.Slices.{headed_here, headed_other, pushed_here, pushed_other, rests_goes, stands_same}
use Rattle.world_model.proofs.Stage.{At, Calling, Stage, Stands, ask_of, open_of, untouched}
use Rattle.world_model.proofs.Stage.Stage.{Asking, Copying, Telling, Told}

same_heads : (f g : Frame) (fs gs : List Frame) → f ∷ fs ≡ g ∷ gs → (f ≡ g) × (fs ≡ gs)
same_heads f g fs gs e = (cc, cc)

below_more : (n : ℕ) (indexes : List ℕ) → AllByRecursion (λ i. i < n) indexes → AllByRecursion (λ i. i < n + 1) (indexes ++ n ∷ [])
below_more n indexes h = all_push (λ i. i < n + 1) indexes n (all_map (λ i. i < n) (λ i. i < n + 1) (λ i lt. omega (arith, lt)) indexes h) (omega arith)

module _ (memory : Bool) (h : History) (c : ConnNo) (kept : Kept h) where
  abbrev happens : Event
  happens = event.ToClient c

  -- there was no frame
  nothing_goes : Goes h c happens (reply.Nothing, h.world)
  nothing_goes = rests_goes h c happens reply.Nothing kept (record {
    quiet = λ d. record { asks = λ n. refl; tells = λ n. refl };
    fine = tt;
    lost = λ d e. absurd (cc);
  })

  abbrev item : Item
  item = record { event = happens; reply = reply.Client client_reply.Nothing }

  module _ (k : Client) (l : Link) (x : Connection) (alive : IsAlive h c k l x) (frames : List Frame) where
    -- the link without the frame
    abbrev shorter : Link
    shorter = record l { down = frames }

    abbrev without : World
    without = with_link h.world c shorter

    -- ---- the client goes on with another request of the number

    module _ (n : ℕ) (b : Body) (comes : l.down ≡ frame_of n b ∷ frames) where
      -- the client with another request, queue, and whether it speaks for a process
      abbrev changed : Open → List Frame → Bool → Client
      changed y queue ready = record k { requests = insert k.requests n y; queue = queue; ready = ready }

      record Changes (y : Open) (queue : List Frame) (ready : Bool) : Type 0 where
        here : Stands h.world.rump.journal c n (slice_of c n (changed y queue ready) shorter x (item ∷ h.log))
        others : (m : ℕ) → m ≢ n → numbered m (l.up ++ queue) ≡ numbered m (l.up ++ k.queue)
        rises : Rises x.last (l.up ++ queue) k.last
        speaks : ready ≡ true → is_fresh x.condition ≡ false
        first : ready ≡ false → k.last ≡ 1

      down_is : l.down ++ x.queue ≡ frame_of n b ∷ (frames ++ x.queue)
      down_is = ap (λ (fs : List Frame). fs ++ x.queue) comes

      welcomes : AllByRecursion (λ f. is_welcome f.body ≡ true → is_fresh x.condition ≡ false) (frame_of n b ∷ (frames ++ x.queue))
      welcomes = subst (λ (fs : List Frame). AllByRecursion (λ f. is_welcome f.body ≡ true → is_fresh x.condition ≡ false) fs) down_is alive.speaks.welcome

      other : (y : Open) (queue : List Frame) (ready : Bool) → Changes y queue ready → (m : ℕ) → m ≢ n
          → Stands h.world.rump.journal c m (slice_of c m (changed y queue ready) shorter x (item ∷ h.log))
      other y queue ready changes m ne =
          let new = slice_of c m (changed y queue ready) shorter x (item ∷ h.log) in
          stands_same h.world.rump.journal c m (slice_of c m k l x h.log) new (record {
            asked = refl;
            told = refl;
            request = get_put_other k.requests n y m ne;
            up = changes.others m ne;
            task = refl;
            down = sym (ap (λ (fs : List Frame). numbered m fs) down_is ∙ headed_other m (frame_of n b) (frames ++ x.queue) (λ e. ne (sym e)));
          }) (alive.speaks.each m)

      speaks_on : (y : Open) (queue : List Frame) (ready : Bool) → Changes y queue ready
          → Speaks c (changed y queue ready) shorter x (item ∷ h.log) h.world.rump.journal
      speaks_on y queue ready changes = record {
        each = λ m. elim (same_or_not m n) [
          | inl e ↦ subst (λ (m : ℕ). Stands h.world.rump.journal c m (slice_of c m (changed y queue ready) shorter x (item ∷ h.log))) (sym e) changes.here
          | inr ne ↦ other y queue ready changes m ne
        ];
        above = alive.speaks.above;
        rises = changes.rises;
        goes_on = alive.speaks.goes_on;
        takes = alive.speaks.takes;
        begins = alive.speaks.begins;
        ready = changes.speaks;
        first = changes.first;
        welcome = welcomes.1;
      }

      changes_goes : (y : Open) (queue : List Frame) (ready : Bool) → Changes y queue ready
          → Goes h c happens (client_plays without c (client_reply.Nothing, changed y queue ready))
      changes_goes y queue ready changes =
          let k' = changed y queue ready in
          moves_goes h c happens (reply.Client client_reply.Nothing) (insert h.world.clients c.0 k') (insert h.world.links c.0 shorter) (record {
            clients = λ d ne. get_put_other h.world.clients c.0 k' d ne;
            links = λ d ne. get_put_other h.world.links c.0 shorter d ne;
            faults = ap faults_of (get_put h.world.links c.0 shorter) ∙ sym (ap faults_of alive.link);
            quiet = λ d ne. record { asks = λ m. refl; tells = λ m. refl };
            news = λ m a is. absurd is;
            lane = Alive k' shorter x (get_put h.world.clients c.0 k') (get_put h.world.links c.0 shorter) alive.there alive.opened alive.runs
                (speaks_on y queue ready changes);
            fine = tt;
            lost = λ d e. absurd (cc);
          })

      -- a frame that may come does what it does
      frame_goes : (o : Open) → get k.requests n ≡ Some o → may_come (Some o) b ≡ true
          → Goes h c happens (client_plays without c (client_reply.Nothing, goes_on k (number n) o b))
          → Goes h c happens (client_plays without c (frame_by k (frame_of n b) k.ending))
      frame_goes o there may goes =
          let f = frame_of n b in
          subst (λ (e : Option Ending). Goes h c happens (client_plays without c (frame_by k f e))) (sym alive.speaks.goes_on)
          (subst (λ (q : Option Open). Goes h c happens (client_plays without c (frame_if k f (may_come q b)))) (sym there)
          (subst (λ (t : Bool). Goes h c happens (client_plays without c (frame_if k f t))) (sym may)
          (subst (λ (q : Option Open). Goes h c happens (client_plays without c (take_in k f q))) (sym there) goes)))

    -- ---- an ask comes

    asks_goes : (n : ℕ) (a : Calling) (got : List (List ℕ)) (need : Need) → l.down ≡ frame_of n (ask_body (length got) need) ∷ frames
        → numbered n (frames ++ x.queue) ≡ [] → At h.world.rump.journal c n (slice_of c n k l x h.log) (Asking a got need)
        → Goes h c happens (client_plays without c (frame_by k (frame_of n (ask_body (length got) need)) k.ending))
    asks_goes n a got need comes rest at =
        let b = ask_body (length got) need in
        let o = open_of (ask_of a) (untouched a.mem) a.indexes None in
        let more = a.indexes ++ length got ∷ [] in
        let y = open_of (ask_of a) (untouched a.mem) more None in
        let g : Frame = frame_of n (copy_of a.mem b) in
        let up_is : l.up ++ (k.queue ++ g ∷ []) ≡ l.up ++ k.queue ++ g ∷ [] = sym (append_assoc l.up k.queue (g ∷ [])) in
        frame_goes n b comes o at.request (ask_fits a.call a.indexes (length got) need at.fact.next at.fact.gathering.below)
        (subst (λ (k' : Client). Goes h c happens (client_plays without c (client_reply.Nothing, k'))) (sym (ask_goes k (number n) o (length got) need))
        (changes_goes n b comes y (k.queue ++ g ∷ []) k.ready (record {
          here = (
            Copying (record a { indexes = more }) got need,
            record {
              asked = at.asked;
              told = at.told;
              request = get_put k.requests n y;
              up = ap (λ (fs : List Frame). numbered n fs) up_is ∙ pushed_here n (l.up ++ k.queue) g refl ∙ ap (λ (fs : List Frame). fs ++ g ∷ []) at.up;
              task = at.task;
              down = rest;
              fact = record {
                gathering = record {
                  later = at.fact.gathering.later;
                  front = at.fact.gathering.front;
                  below = below_more (length got) a.indexes at.fact.gathering.below;
                  none = at.fact.gathering.none;
                };
                next = at.fact.next;
              };
            },
          );
          others = λ m ne. ap (λ (fs : List Frame). numbered m fs) up_is ∙ pushed_other m (l.up ++ k.queue) g (λ e. ne (sym e));
          rises = subst (λ (fs : List Frame). Rises x.last fs k.last) (sym up_is)
              (rises_copy x.last (l.up ++ k.queue) k.last g (copies a.mem (length got) need) alive.speaks.rises);
          speaks = alive.speaks.ready;
          first = alive.speaks.first;
        })))

    -- ---- bytes come

    puts_goes : (n : ℕ) (ask : Ask) (indexes : List ℕ) (now : Delivery) (index : ℕ) (piece : OutPiece) (todo : List OutPiece) (says : Body)
        → l.down ≡ frame_of n (body.Put index piece.addr piece.bytes) ∷ frames
        → numbered n (frames ++ x.queue) ≡ puts_from (number n) (index + 1) todo ++ frame_of n says ∷ []
        → At h.world.rump.journal c n (slice_of c n k l x h.log) (Telling ask indexes now index (piece ∷ todo) says)
        → Goes h c happens (client_plays without c (frame_by k (frame_of n (body.Put index piece.addr piece.bytes)) k.ending))
    puts_goes n ask indexes now index piece todo says comes rest at =
        let b = body.Put index piece.addr piece.bytes in
        let now' = put_piece now (record { addr = piece.addr; bytes = piece.bytes }) in
        let y = open_of ask now' indexes None in
        let inside = at.fact.inside.0 in
        frame_goes n b comes (open_of ask now indexes None) at.request (put_fits ask.what indexes index piece inside)
        (changes_goes n b comes y k.queue k.ready (record {
          here = (
            Telling ask indexes now' (index + 1) todo says,
            record {
              asked = at.asked;
              told = at.told;
              request = get_put k.requests n y;
              up = at.up;
              task = at.task;
              down = rest;
              fact = record {
                number = at.fact.number;
                entered = at.fact.entered;
                kind = at.fact.kind;
                inside = at.fact.inside.1;
                changes = after (may_change ask.what) ask.mem now.mem now'.mem at.fact.changes (put_changes ask.what now piece inside);
                what = at.fact.what;
                brings = at.fact.brings;
                right = at.fact.right;
              };
            },
          );
          others = λ m ne. refl;
          rises = alive.speaks.rises;
          speaks = alive.speaks.ready;
          first = alive.speaks.first;
        }))

    -- ---- the response comes

    says_comes : (n : ℕ) (ask : Ask) (indexes : List ℕ) (now : Delivery) (index : ℕ) (says : Body) → l.down ≡ frame_of n says ∷ frames
        → numbered n (frames ++ x.queue) ≡ [] → At h.world.rump.journal c n (slice_of c n k l x h.log) (Telling ask indexes now index [] says)
        → Goes h c happens (client_plays without c (frame_by k (frame_of n says) k.ending))
    says_comes n ask indexes now index says comes rest at =
        let what = at.fact.what in
        let o = open_of ask now indexes None in
        let y = open_of ask now indexes (Some what) in
        frame_goes n says comes o at.request (says_fits ask.what indexes says at.fact.kind)
        (subst (λ (k' : Client). Goes h c happens (client_plays without c (client_reply.Nothing, k')))
        (sym (says_goes k (number n) o says what at.fact.brings))
        (changes_goes n says comes y k.queue (is_welcome says || k.ready) (record {
          here = (
            Told ask indexes now what,
            record {
              asked = at.asked;
              told = at.told;
              request = get_put k.requests n y;
              up = at.up;
              task = at.task;
              down = rest;
              fact = record { entered = at.fact.entered; right = at.fact.right };
            },
          );
          others = λ m ne. refl;
          rises = alive.speaks.rises;
          speaks = speaks (is_welcome says) refl;
          first = first (is_welcome says);
        })))
      where
        speaks : (b : Bool) → is_welcome says ≡ b → (b || k.ready) ≡ true → is_fresh x.condition ≡ false
        speaks true e ready = (welcomes n says comes).0 e
        speaks false e ready = alive.speaks.ready ready

        first : (b : Bool) → (b || k.ready) ≡ false → k.last ≡ 1
        first true e = absurd (cc)
        first false e = alive.speaks.first e

    -- ---- whatever comes

    comes_goes : (f : Frame) → l.down ≡ f ∷ frames → (s : Stage) → At h.world.rump.journal c f.number.0 (slice_of c f.number.0 k l x h.log) s
        → numbered f.number.0 (l.down ++ x.queue) ≡ f ∷ numbered f.number.0 (frames ++ x.queue)
        → Goes h c happens (client_plays without c (frame_by k f k.ending))
    comes_goes f comes (Asking a got need) at down =
        let heads = same_heads f (frame_of f.number.0 (ask_body (length got) need)) (numbered f.number.0 (frames ++ x.queue)) [] (sym down ∙ at.down) in
        subst (λ (f : Frame). Goes h c happens (client_plays without c (frame_by k f k.ending))) (sym heads.0)
        (asks_goes f.number.0 a got need (comes ∙ ap (λ (f : Frame). f ∷ frames) heads.0) heads.1 at)
    comes_goes f comes (Telling ask indexes now index (piece ∷ todo) says) at down =
        let n = f.number.0 in
        let heads = same_heads f (frame_of n (body.Put index piece.addr piece.bytes)) (numbered n (frames ++ x.queue))
        (puts_from (number n) (index + 1) todo ++ frame_of n says ∷ []) (sym down ∙ at.down) in
        subst (λ (f : Frame). Goes h c happens (client_plays without c (frame_by k f k.ending))) (sym heads.0)
        (puts_goes n ask indexes now index piece todo says (comes ∙ ap (λ (f : Frame). f ∷ frames) heads.0) heads.1 at)
    comes_goes f comes (Telling ask indexes now index [] says) at down =
        let heads = same_heads f (frame_of f.number.0 says) (numbered f.number.0 (frames ++ x.queue)) [] (sym down ∙ at.down) in
        subst (λ (f : Frame). Goes h c happens (client_plays without c (frame_by k f k.ending))) (sym heads.0)
        (says_comes f.number.0 ask indexes now index says (comes ∙ ap (λ (f : Frame). f ∷ frames) heads.0) heads.1 at)
    comes_goes f comes s at down = absurd (let e = sym down ∙ at.down in cc)

  alive_goes : (k : Client) (l : Link) (x : Connection) → IsAlive h c k l x → Goes h c happens (to_client h.world c k l l.down)
  alive_goes k l x alive = by_down l.down refl
    where
      by_down : (fs : List Frame) → l.down ≡ fs → Goes h c happens (to_client h.world c k l fs)
      by_down [] e = nothing_goes
      by_down (f ∷ frames) e =
          let stands = alive.speaks.each f.number.0 in
          comes_goes k l x alive frames f e stands.0 stands.1
          (ap (λ (fs : List Frame). numbered f.number.0 (fs ++ x.queue)) e ∙ headed_here f.number.0 f (frames ++ x.queue) refl)

  -- the oldest frame comes to the client, or there is none
  pub to_client_goes : Goes h c happens (played memory h.world happens)
  to_client_goes = lane_goes memory h c happens kept (record {
    alive = alive_goes;
    broken = λ k l broken. subst (λ (fs : List Frame). Goes h c happens (to_client h.world c k l fs)) (sym broken.down) nothing_goes;
  })
