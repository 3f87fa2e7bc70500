-- A call that is asked over a whole link is answered as it would be at once.
use Rattle.std.proofs.Common.{◌≡◌, ◌⊎◌, inl, inr, ℕ, ◌+◌, ◌-◌, ◌≤◌, Bool, cond, true, false, List, [], ◌∷◌, length, Option, Some, refl, sym, ap, subst, ◌∙◌, arith}
use Rattle.std.specs.Cmp.{nat_cmp_total}
use Rattle.std.specs.Ordering.{nat_cmp}
use Rattle.std.specs.FinMap.{FinMap, contains_key, get, insert, len, len-insert, len-remove, remove}
use Rattle.std.specs.Prelude.{is_some}
use Rattle.sp_base.specs.declared.names.Answer.{Answer}
use Rattle.sp_copy.specs.Delivering.{answer_after}
use Rattle.sp_copy.specs.declared.delivery.Delivery.{Delivery}
use Rattle.kern_model.specs.Step.{Step}
use Rattle.kern_model.specs.declared.journal.Entry.{Entry}
use Rattle.kern_model.specs.declared.journal.Who.TheVariants.{Request}
use Rattle.kern_model.specs.declared.operation.Op.TheVariants.{Sys}
use Rattle.hub_model.specs.Frames.{answer_at}
use Rattle.hub_model.specs.State.{Connection, Machine}
use Rattle.hub_model.proofs.Entries.{nexts}
use Rattle.tables.proofs.Entries.{again, back}
use Rattle.tables.proofs.Maps.{get_put}
use Rattle.client_model.specs.Requests.{start_by, call_body}
use Rattle.client_model.specs.State.{Played}
use Rattle.client_model.specs.declared.event.Reply.TheVariants as reply
use Rattle.client_model.specs.declared.request.Ending.{Ending}
use Rattle.client_model.specs.declared.request.Request.TheVariants as request
use Rattle.link_model.specs.Asked.{Asked, IsPerformed, IsAnswered, IsFine, IsWholeAgain, IsClosed, Grows, Stays, number_of, start_of, after, journal_before, entry_of, direct_of, collected, after_collecting, idle}
use Rattle.link_model.specs.Direct.{reads, seen}
use Rattle.link_model.specs.Link.{Link, made, carried}
use Rattle.link_model.specs.declared.moves.Move.{Move}
use Rattle.link_model.proofs.Caller.{none_collected, answer_plays}
use Rattle.link_model.proofs.Stage.{Stage, Sent, Held, Asking, Copying, Failing, Telling, Told, Stands, Fact, look, shape, delivered}
use Rattle.link_model.proofs.Transitions.{move_goes}

-- ---- the start

-- a value that stands in a map is put there again without a change
put_again : {X : Type 0} (m : FinMap nat_cmp X) (k : ℕ) (x : X) → get m k ≡ Some x → m ≡ insert m k x
put_again m k x h = sym (back m (insert m k x) k x x refl h) ∙ again m (insert m k x) k x x refl

-- the client has sent the call's frame
pub started : (a : Asked) → start_of a ≡ (reply.Started (number_of a), (shape a Sent).client)
started a =
    let k = a.link.client in
    ap (λ (o : Option Ending). start_by k (request.Call a.call) (call_body a.call) a.mem o) a.whole.goes_on
    ∙ rw (a.whole.ready, a.whole.free, a.whole.sent, a.whole.goes_on) refl

served : (a : Asked) → a.link.server ≡ (shape a Sent).server
served a =
    let m = a.link.server in
    ap (λ (c : FinMap nat_cmp Connection). record m { connections = c }) (put_again m.connections a.link.conn.0 _ a.whole.idle)
    ∙ ap (λ (b : Bool). record (shape a Sent).server { halted = b }) a.whole.serves

-- the link stands at the first stage
pub begins : (a : Asked) → after a [] ≡ shape a Sent
begins a = ap (λ (p : Played). record a.link { client = p.1 }) (started a) ∙ ap (λ (m : Machine). record (shape a Sent) { server = m }) (served a)

-- ---- moves

carries : (a : Asked) (link : Link) (moves : List Move) → Stands a link → Stands a (carried link moves)
carries a link [] h = h
carries a link (move ∷ moves) h =
    let goes = move_goes a h.stage h.fact move in
    carries a (made link move).link moves (subst (λ (l : Link). Stands a (made l move).link) (sym h.is) (record { stage = goes.stage; is = goes.leads.is; fact = goes.fact }))

-- whatever is moved, the link stands at a stage
pub stands : (a : Asked) (moves : List Move) → Stands a (after a moves)
stands a moves = carries a (after a []) moves (record { stage = Sent; is = begins a; fact = tt })

-- ---- what is told of the stages

-- the journal at a stage
journal_at : (a : Asked) (s : Stage) → Fact a s → ((look a s).journal ≡ journal_before a) ⊎ IsPerformed a (look a s).journal
journal_at a Sent fact = inl refl
journal_at a (Held got indexes) fact = inl refl
journal_at a (Asking got indexes need) fact = inl refl
journal_at a (Copying got indexes need) fact = inl refl
journal_at a (Failing indexes why) fact = inl refl
journal_at a (Telling indexes e now index todo) fact = inr (record { entry = e; next = fact.entry; grown = refl })
journal_at a (Told indexes e now) fact = inr (record { entry = e; next = fact.entry; grown = refl })

-- the call has its entry at most
pub journal_stands : (a : Asked) (moves : List Move) → ((after a moves).server.journal ≡ journal_before a) ⊎ IsPerformed a (after a moves).server.journal
journal_stands a moves =
    let h = stands a moves in
    subst (λ (l : Link). (l.server.journal ≡ journal_before a) ⊎ IsPerformed a l.server.journal) (sym h.is) (journal_at a h.stage h.fact)

-- what is seen of the entry at once
seen_at_once : (a : Asked) (e : Entry) → entry_of a ≡ Some e
    → direct_of a ≡ Some (answer_after (delivered a e).whole (answer_at e.outcome (length (journal_before a))), (delivered a e).mem)
seen_at_once a e entry =
    let next = nexts (journal_before a) a.whole.pid (Request a.link.conn (number_of a)) (Sys a.call) (reads a.call a.mem) e entry in
    ap (λ (step : Step). seen step (length (journal_before a)) a.mem) next.acts

kept_place : (whole : Bool) (answer : Answer) → (answer_after whole answer).place.0 ≡ answer.place.0
kept_place true answer = refl
kept_place false answer = refl

-- a call that was told is answered
pub told_answered : (a : Asked) (indexes : List ℕ) (e : Entry) (now : Delivery) → Fact a (Told indexes e now) → IsAnswered a (shape a (Told indexes e now))
told_answered a indexes e now fact =
    let answer = answer_at e.outcome (length (journal_before a)) in
    record {
      answer = answer_after now.whole answer;
      mem = now.mem;
      got = ap (λ (p : Played). p.0) (answer_plays a now indexes [] answer);
      direct = seen_at_once a e fact.entry ∙ ap (λ (d : Delivery). Some (answer_after d.whole answer, d.mem)) (sym fact.whole);
      performed = record { entry = e; next = fact.entry; grown = refl };
      place = kept_place now.whole answer;
    }

-- a call isn't answered, or as it would be at once
answer_at_stage : (a : Asked) (s : Stage) → Fact a s → (collected a (shape a s) ≡ reply.NotYet []) ⊎ IsAnswered a (shape a s)
answer_at_stage a Sent fact = inl (none_collected a _ _ _)
answer_at_stage a (Held got indexes) fact = inl (none_collected a _ _ _)
answer_at_stage a (Asking got indexes need) fact = inl (none_collected a _ _ _)
answer_at_stage a (Copying got indexes need) fact = inl (none_collected a _ _ _)
answer_at_stage a (Failing indexes why) fact = inl (none_collected a _ _ _)
answer_at_stage a (Telling indexes e now index todo) fact = inl (none_collected a _ _ _)
answer_at_stage a (Told indexes e now) fact = inr (told_answered a indexes e now fact)

pub answer_stands : (a : Asked) (moves : List Move) → (collected a (after a moves) ≡ reply.NotYet []) ⊎ IsAnswered a (after a moves)
answer_stands a moves =
    let h = stands a moves in
    subst (λ (l : Link). (collected a l ≡ reply.NotYet []) ⊎ IsAnswered a l) (sym h.is) (answer_at_stage a h.stage h.fact)

-- neither side refuses what comes to it
pub moves_fine : (a : Asked) (moves : List Move) (move : Move) → IsFine (made (after a moves) move)
moves_fine a moves move = let h = stands a moves in subst (λ (l : Link). IsFine (made l move)) (sym h.is) (move_goes a h.stage h.fact move).leads.fine

-- the server's cookies stay
pub cookies_stay : (a : Asked) (moves : List Move) → (after a moves).server.cookies ≡ a.link.server.cookies
cookies_stay a moves = ap (λ (l : Link). l.server.cookies) (stands a moves).is

-- the connection stays, and none is opened
pub connection_stays : (a : Asked) (moves : List Move) → Stays a (after a moves)
connection_stays a moves =
    let is = (stands a moves).is in
    record { conn = ap (λ (l : Link). l.conn) is; opened = ap (λ (l : Link). l.server.opened) is }

-- the journal has the call's entry more exactly where the call is done
pub journal_grows : (a : Asked) (moves : List Move) (move : Move)
    → let link = after a moves in
    let next = made link move in
    Grows a link.server.journal next.server next.link.server.journal
journal_grows a moves move =
    let h = stands a moves in
    let goes = move_goes a h.stage h.fact move in
    subst (λ (l : Link). Grows a l.server.journal (made l move).server (made l move).link.server.journal) (sym h.is)
    (subst (λ (l : Link). Grows a (look a h.stage).journal (made (shape a h.stage) move).server l.server.journal) (sym goes.leads.is) goes.leads.grows)

-- ---- afterwards

-- a call that was told leaves a whole link
told_whole : (a : Asked) (indexes : List ℕ) (e : Entry) (now : Delivery) → IsWholeAgain a (after_collecting a (shape a (Told indexes e now)))
told_whole a indexes e now =
    let link = shape a (Told indexes e now) in
    let answer = answer_at e.outcome (length (journal_before a)) in
    subst (λ (p : Played). IsWholeAgain a (record link { client = p.1 })) (sym (answer_plays a now indexes [] answer)) (λ free. (
      record {
        ready = refl;
        goes_on = refl;
        free = free;
        sent = refl;
        serves = refl;
        pid = a.whole.pid;
        idle = get_put a.link.server.connections a.link.conn.0 (idle a.whole.pid (a.link.client.last + 1));
      },
      refl,
    ))

unanswered : (a : Asked) (s : Stage) → collected a (shape a s) ≡ reply.NotYet [] → IsAnswered a (shape a s) → ⊥
unanswered a s none answered = let k = sym none ∙ answered.got in cc

-- what holds where the call was told holds at every stage at which it is answered
where_answered : (a : Asked) (P : Stage → Type 0) → ((indexes : List ℕ) (e : Entry) (now : Delivery) → P (Told indexes e now))
    → (s : Stage) → Fact a s → IsAnswered a (shape a s) → P s
where_answered a P told (Told indexes e now) fact answered = told indexes e now
where_answered a P told Sent fact answered = absurd (unanswered a Sent (none_collected a _ _ _) answered)
where_answered a P told (Held got indexes) fact answered = absurd (unanswered a (Held got indexes) (none_collected a _ _ _) answered)
where_answered a P told (Asking got indexes need) fact answered = absurd (unanswered a (Asking got indexes need) (none_collected a _ _ _) answered)
where_answered a P told (Copying got indexes need) fact answered = absurd (unanswered a (Copying got indexes need) (none_collected a _ _ _) answered)
where_answered a P told (Failing indexes why) fact answered = absurd (unanswered a (Failing indexes why) (none_collected a _ _ _) answered)
where_answered a P told (Telling indexes e now index todo) fact answered = absurd (unanswered a (Telling indexes e now index todo) (none_collected a _ _ _) answered)

-- the same after any moves
after_answer : (a : Asked) (P : Link → Type 0) → ((indexes : List ℕ) (e : Entry) (now : Delivery) → P (shape a (Told indexes e now)))
    → (moves : List Move) → IsAnswered a (after a moves) → P (after a moves)
after_answer a P told moves =
    let h = stands a moves in
    subst (λ (l : Link). IsAnswered a l → P l) (sym h.is) (where_answered a (λ s. P (shape a s)) told h.stage h.fact)

-- once the call is answered and collected, the link is whole again
pub whole_again : (a : Asked) (moves : List Move) → IsAnswered a (after a moves) → IsWholeAgain a (after_collecting a (after a moves))
whole_again a = after_answer a (λ l. IsWholeAgain a (after_collecting a l)) (told_whole a)

-- one value more and then one less is no value more
no_more : {X : Type 0} (m : FinMap nat_cmp X) (k : ℕ) (x : X) → len (remove (insert m k x) k) ≤ len m
no_more m k x =
    let there : contains_key (insert m k x) k ≡ true = ap is_some (get_put m k x) in
    subst (λ n. n ≤ len m)
    (sym (len-remove nat_cmp_total (insert m k x) k ∙ ap (λ b. cond b (len (insert m k x) - 1) (len (insert m k x))) there
    ∙ ap (λ n. n - 1) (len-insert nat_cmp_total m k x)))
    (less (contains_key m k) (len m))
  where
    less : (b : Bool) (n : ℕ) → cond b n (n + 1) - 1 ≤ n
    less true n = omega arith
    less false n = omega arith

-- a call that was told closes its request
told_closed : (a : Asked) (indexes : List ℕ) (e : Entry) (now : Delivery) → IsClosed a (after_collecting a (shape a (Told indexes e now)))
told_closed a indexes e now =
    let link = shape a (Told indexes e now) in
    let answer = answer_at e.outcome (length (journal_before a)) in
    subst (λ (p : Played). IsClosed a (record link { client = p.1 })) (sym (answer_plays a now indexes [] answer)) (record {
      requests = no_more a.link.client.requests (a.link.client.last + 1) _;
      last = refl;
    })

-- once the call is answered and collected, its request is closed
pub closed_after : (a : Asked) (moves : List Move) → IsAnswered a (after a moves) → IsClosed a (after_collecting a (after a moves))
closed_after a = after_answer a (λ l. IsClosed a (after_collecting a l)) (told_closed a)
