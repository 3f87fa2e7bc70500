-- A caller asks for the answer to a request.
use Rattle.std.proofs.Common.{◌≡◌, ◌≢◌, inl, inr, ℕ, Bool, List, [], ◌∷◌, ◌++◌, Option, Some, None, refl, sym, ap, ◌∙◌, subst}
use Rattle.std.specs.Prelude.{if◌then◌else◌}
use Rattle.std.specs.FinMap.{get, insert}
use Rattle.sp_base.specs.declared.names.ConnNo.{ConnNo}
use Rattle.sp_base.specs.declared.names.ReqNo.{ReqNo}
use Rattle.sp_copy.specs.declared.delivery.Delivery.{Delivery}
use Rattle.tables.proofs.Maps.{get_gone, get_gone_other, get_put, get_put_other, same_or_not}
use Rattle.kern_model.specs.declared.journal.Entry.{Entry}
use Rattle.hub_model.specs.State.{Connection}
use Rattle.client_model.specs.Requests.{closed, collect_at, collect_by, collect_unanswered, collected}
use Rattle.client_model.specs.State.{Client, Open}
use Rattle.client_model.specs.declared.event.Reply.{Reply as ClientReply}
use Rattle.client_model.specs.declared.event.Reply.TheVariants as client_reply
use Rattle.client_model.specs.declared.request.Ending.{Ending}
use Rattle.client_model.specs.declared.request.Response.{Response}
use Rattle.client_model.specs.declared.request.Response.TheVariants as response
use Rattle.world_model.specs.Log.{Ask, asked, closing, is_key, told}
use Rattle.world_model.specs.Machine.{client_plays, played}
use Rattle.world_model.specs.Once.{IsSane, lost_on}
use Rattle.world_model.specs.Run.{History, Item}
use Rattle.world_model.specs.State.{Link}
use Rattle.world_model.specs.declared.event.Event.{Event}
use Rattle.world_model.specs.declared.event.Event.TheVariants as event
use Rattle.world_model.specs.declared.event.Reply.TheVariants as reply
use Rattle.world_model.proofs.Kept.{Goes, IsQuietFor, Kept}
use Rattle.world_model.proofs.Lane.{Speaks, slice_of}
use Rattle.world_model.proofs.Lane.Lane.{Alive, Broken}
use Rattle.world_model.proofs.Left.{Ended, LeftAt}
use Rattle.world_model.proofs.Left.Ended.{Answered, Lost}
use Rattle.world_model.proofs.Left.LeftAt.{Unasked, Waiting, Has, Collected}
use Rattle.world_model.proofs.Plays.{IsAlive, IsBroken, IsQuietReply, alive_stays, broke_there, broken_stays, lane_goes, moves_goes}
use Rattle.world_model.proofs.Slice.{Slice}
use Rattle.world_model.proofs.Slices.{key_elsewhere, key_here, key_other, none_told, same_connection, stands_same}
use Rattle.world_model.proofs.Stage.{At, Stage, Stands}
use Rattle.world_model.proofs.Stage.Stage.{Told, Closed}

-- ---- what can be collected

-- the response of an open request, where there is one
abbrev response_of : Option Open → Option Response
response_of None = None
response_of (Some x) = x.response

-- what was delivered for it
same_delivery : (x y : Open) → ◌≡◌ {A = Option Open} (Some x) (Some y) → x.delivery ≡ y.delivery
same_delivery x y e = let same : x ≡ y = cc in ap (λ (z : Open). z.delivery) same

-- a request with a response was told
record WasTold (journal : List Entry) (c : ConnNo) (n : ℕ) (σ : Slice) (x : Open) (what : Response) : Type 0 where
  ask : Ask
  indexes : List ℕ
  now : Delivery
  at : At journal c n σ (Told ask indexes now what)
  delivery : x.delivery ≡ now

was_told : (journal : List Entry) (c : ConnNo) (n : ℕ) (σ : Slice) (x : Open) (what : Response) → σ.request ≡ Some x → x.response ≡ Some what
    → (s : Stage) → At journal c n σ s → WasTold journal c n σ x what
was_told journal c n σ x what there has (Told ask indexes now other) h =
    let both : ◌≡◌ {A = Option Response} (Some other) (Some what) = sym (ap response_of (sym there ∙ h.request)) ∙ has in
    let same : other ≡ what = cc in
    subst (λ (w : Response). WasTold journal c n σ x w) same
    (record { ask = ask; indexes = indexes; now = now; at = h; delivery = same_delivery x _ (sym there ∙ h.request) })
was_told journal c n σ x what there has s h = absurd (let k = sym has ∙ ap response_of (sym there ∙ h.request) in cc)

-- what is collected closes the request
closes : (what : Response) (d : Delivery) → closing (collected what d) ≡ collected what d ∷ []
closes (response.Joined pid) d = refl
closes _ d = refl

collected_sane : (what : Response) (d : Delivery) → IsSane (collected what d)
collected_sane (response.Joined pid) d = tt
collected_sane _ d = tt

collected_whole : (c : ConnNo) (r : ReqNo) (what : Response) (d : Delivery) → lost_on (event.Collect c r) (reply.Client (collected what d)) ≡ None
collected_whole c r (response.Joined pid) d = refl
collected_whole c r _ d = refl

module _ (memory : Bool) (h : History) (c : ConnNo) (r : ReqNo) where
  abbrev happens : Event
  happens = event.Collect c r

  abbrev item : ClientReply → Item
  item answer = record { event = happens; reply = reply.Client answer }

  -- ---- what the log says then

  told_here : (answer : ClientReply) → closing answer ≡ answer ∷ [] → told c r.0 h.log ≡ [] → told c r.0 (item answer ∷ h.log) ≡ answer ∷ []
  told_here answer closing_is none =
      ap (λ (b : Bool). (if b then closing answer else []) ++ told c r.0 h.log) (key_here c r.0)
      ∙ ap (λ (xs : List ClientReply). xs ++ told c r.0 h.log) closing_is
      ∙ ap (λ (xs : List ClientReply). answer ∷ xs) none

  told_other : (answer : ClientReply) (n : ℕ) → n ≢ r.0 → told c n (item answer ∷ h.log) ≡ told c n h.log
  told_other answer n ne = ap (λ (b : Bool). (if b then closing answer else []) ++ told c n h.log) (key_other c c n r.0 (λ e. ne (sym e)))

  quiet_elsewhere : (answer : ClientReply) (d : ConnNo) → d.0 ≢ c.0 → IsQuietFor d (item answer)
  quiet_elsewhere answer d ne = record {
    asks = λ n. refl;
    tells = λ n. ap (λ (b : Bool). if b then closing answer else []) (key_elsewhere d c n r.0 (λ e. ne (sym e)));
  }

  -- ---- nothing is collected

  unknown : IsQuietReply c happens client_reply.Unknown
  unknown = record { quiet = λ d. record { asks = λ n. refl; tells = λ n. none_told (is_key d n c r.0) }; sane = tt; lost = λ d e. absurd (cc) }

  not_yet : IsQuietReply c happens (client_reply.NotYet [])
  not_yet = record { quiet = λ d. record { asks = λ n. refl; tells = λ n. none_told (is_key d n c r.0) }; sane = tt; lost = λ d e. absurd (cc) }

  -- ---- over a connection that speaks

  module _ (k : Client) (l : Link) (x : Connection) (alive : IsAlive h c k l x) where
    module _ (o : Open) (what : Response) (there : get k.requests r.0 ≡ Some o) (has : o.response ≡ Some what) where
      abbrev answer : ClientReply
      answer = collected what o.delivery

      here : Stands h.world.rump.journal c r.0 (slice_of c r.0 (closed k r) l x (item answer ∷ h.log))
      here =
          let stands = alive.speaks.each r.0 in
          let was = was_told h.world.rump.journal c r.0 (slice_of c r.0 k l x h.log) o what there has stands.0 stands.1 in (
            Closed was.ask answer,
            record {
              asked = was.at.asked;
              told = told_here answer (closes what o.delivery) was.at.told;
              request = get_gone k.requests r.0;
              up = was.at.up;
              task = was.at.task;
              down = was.at.down;
              fact = record { whole = was.now; what = what; told = was.at.fact; reply = ap (λ (d : Delivery). collected what d) was.delivery };
            },
          )

      other : (n : ℕ) → n ≢ r.0 → Stands h.world.rump.journal c n (slice_of c n (closed k r) l x (item answer ∷ h.log))
      other n ne = stands_same h.world.rump.journal c n (slice_of c n k l x h.log) (slice_of c n (closed k r) l x (item answer ∷ h.log)) (record {
        asked = refl;
        told = told_other answer n ne;
        request = get_gone_other k.requests r.0 n ne;
        up = refl;
        task = refl;
        down = refl;
      }) (alive.speaks.each n)

      speaks_on : Speaks c (closed k r) l x (item answer ∷ h.log) h.world.rump.journal
      speaks_on = record {
        each = λ n. elim (same_or_not n r.0) [
          | inl e ↦ subst (λ (n : ℕ). Stands h.world.rump.journal c n (slice_of c n (closed k r) l x (item answer ∷ h.log))) (sym e) here
          | inr ne ↦ other n ne
        ];
        above = alive.speaks.above;
        rises = alive.speaks.rises;
        goes_on = alive.speaks.goes_on;
        takes = alive.speaks.takes;
        begins = alive.speaks.begins;
        ready = alive.speaks.ready;
        first = alive.speaks.first;
        welcome = alive.speaks.welcome;
      }

      done : Goes h c happens (client_plays h.world c (answer, closed k r))
      done = moves_goes h c happens (reply.Client answer) (insert h.world.clients c.0 (closed k r)) h.world.links (record {
        clients = λ d ne. get_put_other h.world.clients c.0 (closed k r) d ne;
        links = λ d ne. refl;
        faults = refl;
        quiet = quiet_elsewhere answer;
        news = λ n a is. absurd is;
        lane = Alive (closed k r) l x (get_put h.world.clients c.0 (closed k r)) alive.link alive.there alive.opened alive.runs speaks_on;
        fine = collected_sane what o.delivery;
        lost = λ d e. absurd (let g = sym (collected_whole c r what o.delivery) ∙ e in cc);
      })

    alive_goes : Goes h c happens (client_plays h.world c (collect_at k r (get k.requests r.0)))
    alive_goes = by_found (get k.requests r.0) refl
      where
        waits : (o : Open) → Goes h c happens (client_plays h.world c (collect_unanswered k r o k.ending))
        waits o =
            subst (λ (e : Option Ending). Goes h c happens (client_plays h.world c (collect_unanswered k r o e))) (sym alive.speaks.goes_on)
            (alive_stays h c happens (client_reply.NotYet []) not_yet k l x alive (λ d e. cc))

        by_response : (o : Open) → get k.requests r.0 ≡ Some o → (b : Option Response) → o.response ≡ b
            → Goes h c happens (client_plays h.world c (collect_by k r o b))
        by_response o there None has = waits o
        by_response o there (Some what) has = done o what there has

        by_found : (b : Option Open) → get k.requests r.0 ≡ b → Goes h c happens (client_plays h.world c (collect_at k r b))
        by_found None there = alive_stays h c happens client_reply.Unknown unknown k l x alive (λ d e. cc)
        by_found (Some o) there = by_response o there o.response refl

  -- ---- over one that was left by its link

  module _ (k : Client) (l : Link) (broken : IsBroken h c k l) where
    -- a request is closed with an answer
    closes_left : (answer : ClientReply) (ask : Ask) → closing answer ≡ answer ∷ [] → IsSane answer
        → ((d : ConnNo) → lost_on happens (reply.Client answer) ≡ Some d → d ≡ c) → asked c r.0 h.log ≡ ask ∷ [] → told c r.0 h.log ≡ []
        → Ended h.world.rump.journal c r.0 ask answer → Goes h c happens (client_plays h.world c (answer, closed k r))
    closes_left answer ask closing_is sane lost one none ended =
        moves_goes h c happens (reply.Client answer) (insert h.world.clients c.0 (closed k r)) h.world.links (record {
          clients = λ d ne. get_put_other h.world.clients c.0 (closed k r) d ne;
          links = λ d ne. refl;
          faults = refl;
          quiet = quiet_elsewhere answer;
          news = λ n a is. absurd is;
          lane = Broken (closed k r) l (get_put h.world.clients c.0 (closed k r)) broken.link
              broken.over broken.opened broken.gone broken.down broken.broke each;
          fine = sane;
          lost = λ d e. broke_there h c k l broken d (lost d e);
        })
      where
        here : LeftAt h.world.rump.journal c r.0 (asked c r.0 (item answer ∷ h.log)) (told c r.0 (item answer ∷ h.log)) (get (closed k r).requests r.0)
        here = Collected ask answer one (told_here answer closing_is none) (get_gone k.requests r.0) ended

        other : (n : ℕ) → n ≢ r.0
            → LeftAt h.world.rump.journal c n (asked c n (item answer ∷ h.log)) (told c n (item answer ∷ h.log)) (get (closed k r).requests n)
        other n ne =
            subst (λ (t : List ClientReply). LeftAt h.world.rump.journal c n (asked c n h.log) t (get (closed k r).requests n)) (sym (told_other answer n ne))
            (subst (λ (o : Option Open). LeftAt h.world.rump.journal c n (asked c n h.log) (told c n h.log) o) (sym (get_gone_other k.requests r.0 n ne))
            (broken.left n))

        each : (n : ℕ) → LeftAt h.world.rump.journal c n (asked c n (item answer ∷ h.log)) (told c n (item answer ∷ h.log)) (get (closed k r).requests n)
        each n = elim (same_or_not n r.0) [
          | inl e ↦ subst (λ (n : ℕ). LeftAt h.world.rump.journal c n (asked c n h.log) (told c n (item answer ∷ h.log)) (get (closed k r).requests n))
              (sym e) here
          | inr ne ↦ other n ne
        ]

    -- a request without a response is lost
    loses : (o : Open) → get k.requests r.0 ≡ Some o → o.response ≡ None
        → LeftAt h.world.rump.journal c r.0 (asked c r.0 h.log) (told c r.0 h.log) (get k.requests r.0)
        → Goes h c happens (client_plays h.world c (client_reply.Lost o.delivery.mem, closed k r))
    loses o there has (Waiting ask indexes now one none request entered changes) =
        let same : now ≡ o.delivery = sym (same_delivery o _ (sym there ∙ request)) in
        closes_left (client_reply.Lost o.delivery.mem) ask refl tt (λ d e. same_connection c d e) one none
        (subst (λ (d : Delivery). Ended h.world.rump.journal c r.0 ask (client_reply.Lost d.mem)) same (Lost now.mem refl changes entered))
    loses o there has (Has ask indexes now what one none request tells) = absurd (let g = sym has ∙ ap response_of (sym there ∙ request) in cc)
    loses o there has (Unasked one none request free) = absurd (let g = sym there ∙ request in cc)
    loses o there has (Collected ask answer one none request ended) = absurd (let g = sym there ∙ request in cc)

    -- one with a response is collected
    gives : (o : Open) (what : Response) → get k.requests r.0 ≡ Some o → o.response ≡ Some what
        → LeftAt h.world.rump.journal c r.0 (asked c r.0 h.log) (told c r.0 h.log) (get k.requests r.0)
        → Goes h c happens (client_plays h.world c (collected what o.delivery, closed k r))
    gives o what there has (Has ask indexes now that one none request tells) =
        let both : ◌≡◌ {A = Option Response} (Some that) (Some what) = sym (ap response_of (sym there ∙ request)) ∙ has in
        let same : that ≡ what = cc in
        let delivery : o.delivery ≡ now = same_delivery o _ (sym there ∙ request) in
        closes_left (collected what o.delivery) ask (closes what o.delivery) (collected_sane what o.delivery)
        (λ d e. absurd (let g = sym (collected_whole c r what o.delivery) ∙ e in cc)) one none
        (subst (λ (w : Response). Ended h.world.rump.journal c r.0 ask (collected w o.delivery)) same
        (Answered (record { whole = now; what = that; told = tells; reply = ap (λ (d : Delivery). collected that d) delivery })))
    gives o what there has (Waiting ask indexes now one none request entered changes) = absurd (let g = sym has ∙ ap response_of (sym there ∙ request) in cc)
    gives o what there has (Unasked one none request free) = absurd (let g = sym there ∙ request in cc)
    gives o what there has (Collected ask answer one none request ended) = absurd (let g = sym there ∙ request in cc)

    broken_goes : Goes h c happens (client_plays h.world c (collect_at k r (get k.requests r.0)))
    broken_goes = by_found (get k.requests r.0) refl
      where
        lost : (o : Open) → get k.requests r.0 ≡ Some o → o.response ≡ None → Goes h c happens (client_plays h.world c (collect_unanswered k r o k.ending))
        lost o there has =
            subst (λ (e : Option Ending). Goes h c happens (client_plays h.world c (collect_unanswered k r o e))) (sym broken.gone)
            (loses o there has (broken.left r.0))

        by_response : (o : Open) → get k.requests r.0 ≡ Some o → (b : Option Response) → o.response ≡ b
            → Goes h c happens (client_plays h.world c (collect_by k r o b))
        by_response o there None has = lost o there has
        by_response o there (Some what) has = gives o what there has (broken.left r.0)

        by_found : (b : Option Open) → get k.requests r.0 ≡ b → Goes h c happens (client_plays h.world c (collect_at k r b))
        by_found None there = broken_stays h c happens client_reply.Unknown unknown k l broken
        by_found (Some o) there = by_response o there o.response refl

  -- a request is collected, or not yet
  pub collect_goes : Kept h → Goes h c happens (played memory h.world happens)
  collect_goes kept = lane_goes memory h c happens kept (record { alive = alive_goes; broken = broken_goes })
