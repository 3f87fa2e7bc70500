-- A connection's frames and the journal: each of its requests is at a stage.
use Rattle.std.proofs.Common.{◌≡◌, ◌≢◌, inl, inr, ℕ, ◌<◌, ◌≤◌, true, false, cond, List, [], ◌∷◌, ◌++◌, Option, Some, None, refl, sym, ap, ◌∙◌, subst, arith, append-nil}
use Rattle.std.specs.Ordering.{nat_cmp}
use Rattle.std.specs.FinMap.{FinMap, empty, get, remove}
use Rattle.sp_base.specs.declared.names.ConnNo.{ConnNo}
use Rattle.sp_base.specs.declared.names.ReqNo.{ReqNo}
use Rattle.sp_frames.specs.declared.frame.Frame.{Frame}
use Rattle.kern_model.specs.declared.journal.Entry.{Entry}
use Rattle.hub_model.specs.Frames.{is_end}
use Rattle.hub_model.specs.Sound.{IsAnswered, IsOpened}
use Rattle.hub_model.specs.State.{Connection, is_draining}
use Rattle.hub_model.specs.Work.{calls_after}
use Rattle.hub_model.specs.Requests.{left_over}
use Rattle.hub_model.specs.declared.state.OpenCall.{OpenCall}
use Rattle.tables.proofs.Maps.{get_gone, get_gone_other, same_or_not}
use Rattle.hub_law.specs.Frames.{answers_to, is_last_error, numbered}
use Rattle.hub_law.specs.Serves.{HasOneLast}
use Rattle.hub_law.proofs.Frames.{AreOf, ArePlain, answers-append, answers_here, answers_last, answers_other, last_of_front, none_last, numbered-append, one_last, plain_of}
use Rattle.hub_law.proofs.Keys.{Grows}
use Rattle.hub_law.proofs.Lists.{all_append}
use Rattle.hub_law.proofs.Stages.{Final, IsUntouched, StageOf, final_later, stage_final, stage_moves, untouched_moves}

-- the journal grows, and not by entries of a connection's requests
abbrev pub GrowsPast : ConnNo → List Entry → List Entry → Type 0
GrowsPast c old new = (r : ReqNo) → Grows c r old new

-- a connection takes frames: each of its requests is at its stage, and none above the last number was touched
pub record Speaks (c : ConnNo) (last : ℕ) (calls : FinMap nat_cmp OpenCall) (came sent : List Frame) (journal : List Entry) : Type 0 where
  pub each : (r : ReqNo) → StageOf journal c r (numbered r.0 came) (answers_to r.0 sent) (get calls r.0)
  pub above : (r : ReqNo) → last < r.0 → IsUntouched journal c r (numbered r.0 came) (answers_to r.0 sent) (get calls r.0)
  pub plain : ArePlain sent

-- a connection takes no frame any more: whatever is sent of what was queued, this holds
pub record Rests (c : ConnNo) (came sent : List Frame) (journal : List Entry) : Type 0 where
  pub each : (r : ReqNo) → Final journal c r (numbered r.0 came) (answers_to r.0 sent)
  pub one : HasOneLast sent

-- where a connection is: not opened yet, taking frames, sending what is queued, or over
pub data Lane (c : ConnNo) (opened : Option ℕ) (now : Option Connection) (came sent : List Frame) (journal : List Entry) : Type 0 where
  Unopened : now ≡ None → Speaks c 0 empty came sent journal → Lane c opened now came sent journal
  Alive : (x : Connection) → now ≡ Some x → is_draining x.condition ≡ false → IsOpened opened c.0
      → Speaks c x.last x.calls came (sent ++ x.queue) journal → Lane c opened now came sent journal
  Drains : (x : Connection) → now ≡ Some x → is_draining x.condition ≡ true → ((n : ℕ) → get x.calls n ≡ None) → IsOpened opened c.0
      → Rests c came (sent ++ x.queue) journal → Lane c opened now came sent journal
  Over : now ≡ None → IsOpened opened c.0 → Rests c came sent journal → Lane c opened now came sent journal

-- ---- nothing of the connection happens

pub speaks_grows : (c : ConnNo) (last : ℕ) (calls : FinMap nat_cmp OpenCall) (came sent : List Frame) (old new : List Entry)
    → GrowsPast c old new → Speaks c last calls came sent old → Speaks c last calls came sent new
speaks_grows c last calls came sent old new grows s = record {
  each = λ r. stage_moves old new c r _ _ _ _ _ _ (grows r) refl refl refl (s.each r);
  above = λ r lt. untouched_moves old new c r _ _ _ _ _ _ (grows r) refl refl refl (s.above r lt);
  plain = s.plain;
}

pub speaks_rests : (c : ConnNo) (last : ℕ) (calls : FinMap nat_cmp OpenCall) (came sent : List Frame) (journal : List Entry)
    → Speaks c last calls came sent journal → Rests c came sent journal
speaks_rests c last calls came sent journal s = record {
  each = λ r. stage_final journal c r (numbered r.0 came) (answers_to r.0 sent) (get calls r.0) (s.each r);
  one = none_last sent s.plain;
}

-- what was queued is lost, or not yet sent
pub rests_cut : (c : ConnNo) (came sent queue : List Frame) (old new : List Entry) → GrowsPast c old new → Rests c came (sent ++ queue) old → Rests c came sent new
rests_cut c came sent queue old new grows h = record {
  each = λ r. final_later old new c r (numbered r.0 came) (numbered r.0 came) (answers_to r.0 (sent ++ queue)) (answers_to r.0 sent) [] (answers_to r.0 queue) (grows r)
      (sym (append-nil (numbered r.0 came))) (answers-append r.0 sent queue) (h.each r);
  one = last_of_front sent queue h.one;
}

rests_grows : (c : ConnNo) (came sent : List Frame) (old new : List Entry) → GrowsPast c old new → Rests c came sent old → Rests c came sent new
rests_grows c came sent old new grows h =
    rests_cut c came sent [] old new grows (subst (λ (fs : List Frame). Rests c came fs old) (sym (append-nil sent)) h)

-- a frame may have come, and the connection's last error is queued
pub rests_last : (c : ConnNo) (last : ℕ) (calls : FinMap nat_cmp OpenCall) (came more sent : List Frame) (f : Frame) (old new : List Entry)
    → GrowsPast c old new → is_last_error f.body ≡ true → Speaks c last calls came sent old → Rests c (came ++ more) (sent ++ f ∷ []) new
rests_last c last calls came more sent f old new grows is s = record {
  each = λ r. final_later old new c r (numbered r.0 came) (numbered r.0 (came ++ more)) (answers_to r.0 sent) (answers_to r.0 (sent ++ f ∷ [])) (numbered r.0 more) [] (grows r)
      (numbered-append r.0 came more)
      (sym (append-nil (answers_to r.0 (sent ++ f ∷ []))
      ∙ (answers-append r.0 sent (f ∷ []) ∙ (ap (λ fs. answers_to r.0 sent ++ fs) (answers_last r.0 f is) ∙ append-nil (answers_to r.0 sent)))))
      (stage_final old c r (numbered r.0 came) (answers_to r.0 sent) (get calls r.0) (s.each r));
  one = one_last sent f s.plain;
}

-- what another connection's lane may do meanwhile: nothing; or its process goes on as its next program, over another connection
pub data Aside (now now' : Option Connection) : Type 0 where
  Same : now' ≡ now → Aside now now'
  LeftOver : (x : Connection) → now ≡ Some x → is_draining x.condition ≡ false → now' ≡ Some (left_over x) → Aside now now'

draining_once : (x y : Connection) → x ≡ y → is_draining x.condition ≡ false → is_draining y.condition ≡ true → ⊥
draining_once x y same speaks drains =
    let k : false ≡ true = sym speaks ∙ (ap (λ (z : Connection). is_draining z.condition) same ∙ drains) in cc

lane_grows : (d : ConnNo) (opened opened' : Option ℕ) (now now' : Option Connection) (came sent : List Frame) (old new : List Entry)
    → ((n : ℕ) → IsOpened opened n → IsOpened opened' n) → Aside now now' → GrowsPast d old new → Lane d opened now came sent old → Lane d opened' now' came sent new
lane_grows d opened opened' now now' came sent old new up (Same e) grows (Unopened none s) = Unopened (e ∙ none) (speaks_grows d 0 empty came sent old new grows s)
lane_grows d opened opened' now now' came sent old new up (Same e) grows (Alive x here live o s) =
    Alive x (e ∙ here) live (up d.0 o) (speaks_grows d x.last x.calls came (sent ++ x.queue) old new grows s)
lane_grows d opened opened' now now' came sent old new up (Same e) grows (Drains x here drains silent o h) =
    Drains x (e ∙ here) drains silent (up d.0 o) (rests_grows d came (sent ++ x.queue) old new grows h)
lane_grows d opened opened' now now' came sent old new up (Same e) grows (Over none o h) = Over (e ∙ none) (up d.0 o) (rests_grows d came sent old new grows h)
lane_grows d opened opened' now now' came sent old new up (LeftOver x here live e) grows (Unopened none s) = absurd (cc)
lane_grows d opened opened' now now' came sent old new up (LeftOver x here live e) grows (Alive y there l o s) =
    let same : y ≡ x = cc in
    Alive (left_over x) e refl (up d.0 o)
    (subst (λ (z : Connection). Speaks d z.last z.calls came (sent ++ z.queue) new) same (speaks_grows d y.last y.calls came (sent ++ y.queue) old new grows s))
lane_grows d opened opened' now now' came sent old new up (LeftOver x here live e) grows (Drains y there drains silent o h) =
    let same : x ≡ y = cc in absurd (draining_once x y same live drains)
lane_grows d opened opened' now now' came sent old new up (LeftOver x here live e) grows (Over none o h) = absurd (cc)

pub lane_aside : (d : ConnNo) (opened opened' : Option ℕ) (now now' : Option Connection) (came came' sent sent' : List Frame) (old new : List Entry)
    → ((n : ℕ) → IsOpened opened n → IsOpened opened' n) → Aside now now' → came' ≡ came → sent' ≡ sent → GrowsPast d old new
    → Lane d opened now came sent old → Lane d opened' now' came' sent' new
lane_aside d opened opened' now now' came came' sent sent' old new up aside c s grows lane =
    subst (λ (fs : List Frame). Lane d opened' now' fs sent' new) (sym c)
    (subst (λ (fs : List Frame). Lane d opened' now' came fs new) (sym s) (lane_grows d opened opened' now now' came sent old new up aside grows lane))

-- ---- something of one request happens

-- frames are of a request's number
pub record AreNumbered (r : ReqNo) (frames : List Frame) : Type 0 where
  pub here : numbered r.0 frames ≡ frames
  pub other : (n : ℕ) → n ≢ r.0 → numbered n frames ≡ []

same_number : (q r : ReqNo) → q.0 ≡ r.0 → q ≡ r
same_number q r e = ap (λ (n : ℕ). record { 0 = n }) e

none_more : (xs ys zs : List Frame) → xs ≡ ys ++ zs → zs ≡ [] → xs ≡ ys
none_more xs ys zs e none = e ∙ (ap (λ fs. ys ++ fs) none ∙ append-nil ys)

-- one request's stage changes, and those of all others stay
pub touched : (c : ConnNo) (r : ReqNo) (last last' : ℕ) (calls calls' : FinMap nat_cmp OpenCall) (came more sent says : List Frame) (old new : List Entry)
    → Speaks c last calls came sent old → last ≤ last' → r.0 ≤ last' → AreNumbered r more → AreOf r says
    → ((q : ReqNo) → q.0 ≢ r.0 → Grows c q old new) → ((n : ℕ) → n ≢ r.0 → get calls' n ≡ get calls n)
    → StageOf new c r (numbered r.0 came ++ more) (answers_to r.0 sent ++ says) (get calls' r.0)
    → Speaks c last' calls' (came ++ more) (sent ++ says) new
touched c r last last' calls calls' came more sent says old new s rises within numbers are grows others stage =
    let came_other : (n : ℕ) → n ≢ r.0 → numbered n (came ++ more) ≡ numbered n came
    = λ n ne. none_more _ _ (numbered n more) (numbered-append n came more) (numbers.other n ne) in
    let sent_other : (n : ℕ) → n ≢ r.0 → answers_to n (sent ++ says) ≡ answers_to n sent
    = λ n ne. none_more _ _ (answers_to n says) (answers-append n sent says) (answers_other n r says ne are) in
    let came_here : numbered r.0 (came ++ more) ≡ numbered r.0 came ++ more
    = numbered-append r.0 came more ∙ ap (λ fs. numbered r.0 came ++ fs) numbers.here in
    let sent_here : answers_to r.0 (sent ++ says) ≡ answers_to r.0 sent ++ says
    = answers-append r.0 sent says ∙ ap (λ fs. answers_to r.0 sent ++ fs) (answers_here r says are) in
    record {
      each = λ q. elim (same_or_not q.0 r.0) [
        | inl e ↦ subst (λ (p : ReqNo). StageOf new c p (numbered p.0 (came ++ more)) (answers_to p.0 (sent ++ says)) (get calls' p.0)) (sym (same_number q r e))
            (subst (λ (fs : List Frame). StageOf new c r fs (answers_to r.0 (sent ++ says)) (get calls' r.0)) (sym came_here)
            (subst (λ (fs : List Frame). StageOf new c r (numbered r.0 came ++ more) fs (get calls' r.0)) (sym sent_here) stage))
        | inr ne ↦ stage_moves old new c q _ _ _ _ _ _ (grows q ne) (came_other q.0 ne) (sent_other q.0 ne) (others q.0 ne) (s.each q)
      ];
      above = λ q lt.
          let ne : q.0 ≢ r.0 = λ e. omega arith in
          untouched_moves old new c q _ _ _ _ _ _ (grows q ne) (came_other q.0 ne) (sent_other q.0 ne) (others q.0 ne) (s.above q (omega arith));
      plain = all_append (λ f. is_last_error f.body ≡ false) sent says s.plain (plain_of r says are);
    }

-- ---- a frame is handed out

take_stage : (journal : List Entry) (c : ConnNo) (r : ReqNo) (frames answers : List Frame) (calls : FinMap nat_cmp OpenCall) (n : ℕ)
    → StageOf journal c r frames answers (get calls r.0) → StageOf journal c r frames answers (get (remove calls n) r.0)
take_stage journal c r frames answers calls n stage = elim (same_or_not r.0 n) [
  | inl e ↦ subst (λ (t : Option OpenCall). StageOf journal c r frames answers t) (sym (ap (λ (k : ℕ). get (remove calls n) k) e ∙ get_gone calls n))
      (stage_final journal c r frames answers (get calls r.0) stage)
  | inr ne ↦ subst (λ (t : Option OpenCall). StageOf journal c r frames answers t) (sym (get_gone_other calls n r.0 ne)) stage
]

take_quiet : (calls : FinMap nat_cmp OpenCall) (n k : ℕ) → IsAnswered (get calls k) → IsAnswered (get (remove calls n) k)
take_quiet calls n k quiet = elim (same_or_not k n) [
  | inl e ↦ subst IsAnswered (sym (ap (λ (k : ℕ). get (remove calls n) k) e ∙ get_gone calls n)) tt
  | inr ne ↦ subst IsAnswered (sym (get_gone_other calls n k ne)) quiet
]

take_none : (calls : FinMap nat_cmp OpenCall) (n k : ℕ) → get calls k ≡ None → get (remove calls n) k ≡ None
take_none calls n k none = elim (same_or_not k n) [
  | inl e ↦ ap (λ (k : ℕ). get (remove calls n) k) e ∙ get_gone calls n
  | inr ne ↦ get_gone_other calls n k ne ∙ none
]

without_call : (c : ConnNo) (last : ℕ) (calls : FinMap nat_cmp OpenCall) (came sent : List Frame) (journal : List Entry) (n : ℕ)
    → Speaks c last calls came sent journal → Speaks c last (remove calls n) came sent journal
without_call c last calls came sent journal n s = record {
  each = λ r. take_stage journal c r (numbered r.0 came) (answers_to r.0 sent) calls n (s.each r);
  above = λ r lt. let u = s.above r lt in record { came = u.came; said = u.said; quiet = take_quiet calls n r.0 u.quiet; none = u.none };
  plain = s.plain;
}

pub speaks_on : (c : ConnNo) (last : ℕ) (calls : FinMap nat_cmp OpenCall) (came sent : List Frame) (journal : List Entry) (f : Frame)
    → Speaks c last calls came sent journal → Speaks c last (calls_after calls f) came sent journal
speaks_on c last calls came sent journal f s =
    elim (is_end f.body) as (λ b. Speaks c last (cond b (remove calls f.number.0) calls) came sent journal) [
      | true ↦ without_call c last calls came sent journal f.number.0 s
      | false ↦ s
    ]

pub silent_on : (calls : FinMap nat_cmp OpenCall) (f : Frame) → ((n : ℕ) → get calls n ≡ None) → (n : ℕ) → get (calls_after calls f) n ≡ None
silent_on calls f silent n =
    elim (is_end f.body) as (λ b. get (cond b (remove calls f.number.0) calls) n ≡ None) [
      | true ↦ take_none calls f.number.0 n (silent n)
      | false ↦ silent n
    ]
