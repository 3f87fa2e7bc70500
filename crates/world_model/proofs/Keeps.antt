-- What holds of a history holds on, where an event did what it owes.
use Rattle.std.proofs.Common.{◌≡◌, ◌≢◌, inl, inr, ℕ, ◌<◌, Bool, true, false, List, [], ◌∷◌, ◌++◌, Option, Some, None, refl, sym, ap, ◌∙◌, subst}
use Rattle.std.specs.List.{AllByRecursion}
use Rattle.std.specs.FinMap.{get}
use Rattle.sp_base.specs.declared.names.ConnNo.{ConnNo}
use Rattle.sp_base.specs.declared.names.ReqNo.{ReqNo}
use Rattle.sp_frames.specs.declared.frame.Frame.{Frame}
use Rattle.kern_model.specs.declared.journal.Entry.{Entry}
use Rattle.tables.proofs.Maps.{same_or_not}
use Rattle.hub_model.specs.Requests.{left_over}
use Rattle.hub_model.specs.Run.{Exchange}
use Rattle.hub_model.specs.Sound.{IsOpened, IsSound}
use Rattle.hub_model.specs.State.{Connection, is_draining, is_fresh}
use Rattle.hub_law.proofs.Keys.{Grows, HasNone}
use Rattle.hub_law.proofs.Lanes.{GrowsPast}
use Rattle.client_model.specs.State.{Client}
use Rattle.client_model.specs.declared.event.Reply.{Reply as ClientReply}
use Rattle.world_model.specs.Log.{Ask, IsIn, asked, asks, tells, told}
use Rattle.world_model.specs.Once.{lost_on}
use Rattle.world_model.specs.Run.{History, Item}
use Rattle.world_model.specs.State.{Link, Played, faults_of}
use Rattle.world_model.specs.declared.event.Event.{Event}
use Rattle.world_model.proofs.Grown.{left_grows, over_grows, stage_grows}
use Rattle.world_model.proofs.Kept.{Goes, IsQuietFor, Kept, LostWhereBroken, lane_in, logged}
use Rattle.world_model.proofs.Lane.{Beside, Lane, Speaks, is_welcome, slice_of}
use Rattle.world_model.proofs.Lane.Beside.{Same, LeftOver}
use Rattle.world_model.proofs.Lane.Lane.{Absent, Alive, Broken, Closed}
use Rattle.world_model.proofs.Left.{LeftAt, OverAt}
use Rattle.world_model.proofs.Order.{KeepsOrder, order_step}
use Rattle.world_model.proofs.Slice.{Slice, number, slice}
use Rattle.world_model.proofs.Stage.{Stands}

-- ---- nothing of a connection happens

module _ (d : ConnNo) (log : List Item) (item : Item) (quiet : IsQuietFor d item) where
  pub asked_same : (n : ℕ) → asked d n (item ∷ log) ≡ asked d n log
  asked_same n = ap (λ (xs : List Ask). xs ++ asked d n log) (quiet.asks n)

  pub told_same : (n : ℕ) → told d n (item ∷ log) ≡ told d n log
  told_same n = ap (λ (xs : List ClientReply). xs ++ told d n log) (quiet.tells n)

  slice_same : (n : ℕ) (k : Client) (l : Link) (x : Connection) → slice_of d n k l x (item ∷ log) ≡ slice_of d n k l x log
  slice_same n k l x =
      ap (λ (a : List Ask). record (slice_of d n k l x log) { asked = a; told = told d n (item ∷ log) }) (asked_same n)
      ∙ ap (λ (t : List ClientReply). record (slice_of d n k l x log) { told = t }) (told_same n)

  module _ (old new : List Entry) (grows : GrowsPast d old new) where
    over_stays : (n : ℕ) → OverAt old d n (asked d n log) (told d n log) → OverAt new d n (asked d n (item ∷ log)) (told d n (item ∷ log))
    over_stays n h =
        subst (λ (a : List Ask). OverAt new d n a (told d n (item ∷ log))) (sym (asked_same n))
        (subst (λ (t : List ClientReply). OverAt new d n (asked d n log) t) (sym (told_same n)) (over_grows d n old new (grows (number n)) (asked d n log) (told d n log) h))

    pub left_stays : (n : ℕ) (k : Client) → LeftAt old d n (asked d n log) (told d n log) (get k.requests n)
        → LeftAt new d n (asked d n (item ∷ log)) (told d n (item ∷ log)) (get k.requests n)
    left_stays n k h =
        subst (λ (a : List Ask). LeftAt new d n a (told d n (item ∷ log)) (get k.requests n)) (sym (asked_same n))
        (subst (λ (t : List ClientReply). LeftAt new d n (asked d n log) t (get k.requests n)) (sym (told_same n))
        (left_grows d n old new (grows (number n)) (asked d n log) (told d n log) (get k.requests n) h))

    pub speaks_stays : (k : Client) (l : Link) (x : Connection) → Speaks d k l x log old → Speaks d k l x (item ∷ log) new
    speaks_stays k l x s = record {
      each = λ n. stage_grows d n old new (grows (number n)) (slice_of d n k l x log) (slice_of d n k l x (item ∷ log)) (slice_same n k l x) (s.each n);
      above = λ n lt. asked_same n ∙ s.above n lt;
      rises = s.rises;
      goes_on = s.goes_on;
      takes = s.takes;
      begins = s.begins;
      ready = s.ready;
      first = s.first;
      welcome = s.welcome;
    }

-- a connection that is left spoke for a process before
left_begins : (x : Connection) → (x.last ≡ 0 → is_fresh x.condition ≡ true) → is_fresh x.condition ≡ false → x.last ≡ 0 → false ≡ true
left_begins x begins spoke e = sym spoke ∙ begins e

speaks_left : (d : ConnNo) (k : Client) (l : Link) (x : Connection) (log : List Item) (journal : List Entry) → is_fresh x.condition ≡ false
    → Speaks d k l x log journal → Speaks d k l (left_over x) log journal
speaks_left d k l x log journal spoke s = record {
  each = s.each;
  above = s.above;
  rises = s.rises;
  goes_on = s.goes_on;
  takes = refl;
  begins = λ e. left_begins x s.begins spoke e;
  ready = λ e. refl;
  first = s.first;
  welcome = all_welcome (l.down ++ x.queue);
}
  where
    all_welcome : (frames : List Frame) → AllByRecursion (λ f. is_welcome f.body ≡ true → false ≡ false) frames
    all_welcome [] = tt
    all_welcome (f ∷ frames) = (λ e. refl, all_welcome frames)

-- a connection goes on beside another one
pub lane_beside : (d : ConnNo) (opened opened' : Option ℕ) (halted : Bool) (k : Option Client) (l : Option Link) (x x' : Option Connection) (log : List Item) (item : Item)
    (old new : List Entry) → ((n : ℕ) → IsOpened opened n → IsOpened opened' n) → Beside x x' → IsQuietFor d item → GrowsPast d old new
    → Lane d opened halted k l x log old → Lane d opened' halted k l x' (item ∷ log) new
lane_beside d opened opened' halted k l x x' log item old new up (Same e) quiet grows (Absent no_client no_link none over asked_none) =
    Absent no_client no_link (e ∙ none) (λ n. over_stays d log item quiet old new grows n (over n)) (λ n. asked_same d log item quiet n ∙ asked_none n)
lane_beside d opened opened' halted k l x x' log item old new up (Same e) quiet grows (Alive k' l' y client link there o running s) =
    Alive k' l' y client link (e ∙ there) (up d.0 o) running (speaks_stays d log item quiet old new grows k' l' y s)
lane_beside d opened opened' halted k l x x' log item old new up (Same e) quiet grows (Broken k' l' client link none o gone empty broke left) =
    Broken k' l' client link (e ∙ none) (up d.0 o) gone empty broke (λ n. left_stays d log item quiet old new grows n k' (left n))
lane_beside d opened opened' halted k l x x' log item old new up (Same e) quiet grows (Closed l' no_client link none o empty over) =
    Closed l' no_client link (e ∙ none) (up d.0 o) empty (λ n. over_stays d log item quiet old new grows n (over n))
lane_beside d opened opened' halted k l x x' log item old new up (LeftOver y here spoke e) quiet grows (Alive k' l' z client link there o running s) =
    let same : z ≡ y = (let both : Some z ≡ Some y = sym there ∙ here in cc) in
    let spoke_z : is_fresh z.condition ≡ false = ap (λ (w : Connection). is_fresh w.condition) same ∙ spoke in
    Alive k' l' (left_over z) client link (e ∙ ap (λ (w : Connection). Some (left_over w)) (sym same)) (up d.0 o) running
    (speaks_stays d log item quiet old new grows k' l' (left_over z) (speaks_left d k' l' z log old spoke_z s))
lane_beside d opened opened' halted k l x x' log item old new up (LeftOver y here spoke e) quiet grows (Absent no_client no_link none over asked_none) = absurd (cc)
lane_beside d opened opened' halted k l x x' log item old new up (LeftOver y here spoke e) quiet grows (Broken k' l' client link none o gone empty broke left) = absurd (cc)
lane_beside d opened opened' halted k l x x' log item old new up (LeftOver y here spoke e) quiet grows (Closed l' no_client link none o empty over) = absurd (cc)

-- ---- all connections

same_conn : (d c : ConnNo) → d.0 ≡ c.0 → c ≡ d
same_conn d c e = let same : ◌≡◌ {A = ConnNo} (record { 0 = c.0 }) (record { 0 = d.0 }) = ap (λ (n : ℕ). record { 0 = n }) (sym e) in same

module _ (h : History) (c : ConnNo) (happens : Event) (p : Played) (kept : Kept h) (goes : Goes h c happens p) where
  abbrev item : Item
  item = record { event = happens; reply = p.0 }

  beside : (d : ConnNo) → d.0 ≢ c.0 → lane_in d p.1 (item ∷ h.log)
  beside d ne =
      let lane = lane_beside d h.world.rump.opened p.1.rump.opened h.world.rump.halted (get h.world.clients d.0) (get h.world.links d.0) (get h.world.rump.connections d.0)
      (get p.1.rump.connections d.0) h.log item h.world.rump.journal p.1.rump.journal goes.opened (goes.connections d ne) (goes.quiet d ne) (goes.grows d ne) (kept.lanes d) in
      subst (λ (b : Bool). Lane d p.1.rump.opened b (get p.1.clients d.0) (get p.1.links d.0) (get p.1.rump.connections d.0) (item ∷ h.log) p.1.rump.journal) (sym goes.halted)
      (subst (λ (k : Option Client). Lane d p.1.rump.opened h.world.rump.halted k (get p.1.links d.0) (get p.1.rump.connections d.0) (item ∷ h.log) p.1.rump.journal) (sym (goes.clients d ne))
      (subst (λ (l : Option Link). Lane d p.1.rump.opened h.world.rump.halted (get h.world.clients d.0) l (get p.1.rump.connections d.0) (item ∷ h.log) p.1.rump.journal) (sym (goes.links d ne)) lane))

  lanes : (d : ConnNo) → lane_in d p.1 (item ∷ h.log)
  lanes d = elim (same_or_not d.0 c.0) [
    | inl e ↦ subst (λ (b : ConnNo). lane_in b p.1 (item ∷ h.log)) (same_conn d c e) goes.lane
    | inr ne ↦ beside d ne
  ]

  lost : LostWhereBroken p.1 (item ∷ h.log)
  lost other d (inl e) is = goes.lost d (ap (λ (i : Item). lost_on i.event i.reply) e ∙ is)
  lost other d (inr there) is = goes.faults d (kept.lost other d there is)

  order : KeepsOrder h.world.rump.journal p.1.rump.journal h.log item
  order = record {
    stays = goes.stays;
    closed = λ d r answer is. elim (same_or_not d.0 c.0) [
      | inl e ↦ subst (λ (b : ConnNo). Grows b r h.world.rump.journal p.1.rump.journal) (same_conn d c e)
          (goes.closed r.0 answer (subst (λ (b : ConnNo). IsIn answer (told b r.0 h.log)) (sym (same_conn d c e)) is))
      | inr ne ↦ goes.grows d ne r
    ];
    news = λ d r ask is. elim (same_or_not d.0 c.0) [
      | inl e ↦ subst (λ (b : ConnNo). HasNone h.world.rump.journal b r) (same_conn d c e)
          (goes.news r.0 ask (subst (λ (b : ConnNo). IsIn ask (asks b r.0 item.event item.reply)) (sym (same_conn d c e)) is))
      | inr ne ↦ absurd (subst (λ (xs : List Ask). IsIn ask xs) ((goes.quiet d ne).asks r.0) is)
    ];
  }

  -- a history holds on, where an event did what it owes, and the server is sound
  pub keeps : (exchanges : List Exchange) → IsSound p.1.rump → Kept (record { world = p.1; log = logged happens p h.log; exchanges = exchanges })
  keeps exchanges sound = record {
    sound = sound;
    lanes = lanes;
    fine = (goes.fine, kept.fine);
    lost = lost;
    after = order_step h (record { world = p.1; log = item ∷ h.log; exchanges = exchanges }) item refl order kept.after;
  }
