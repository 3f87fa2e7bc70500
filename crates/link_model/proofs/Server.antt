-- What the server does at each stage of a call.
use Rattle.std.proofs.Common.{◌≡◌, ◌≢◌, inl, inr, ℕ, ◌+◌, Bool, true, false, List, [], ◌∷◌, ◌++◌, length, Option, Some, None, refl, sym, ap, subst, ◌∙◌, arith, cond}
use Rattle.std.specs.Prelude.{slice_get, nat_le, IfSome}
use Rattle.std.specs.Ordering.{nat_cmp}
use Rattle.std.specs.FinMap.{FinMap, get, insert, remove, empty, len-empty, get-empty, same_map, nat_cmp-IsAntisymmetric}
use Rattle.std.specs.Cmp.{nat_cmp_total}
use Rattle.std.proofs.lemmas.Bool.Decides.{nat_tests}
use Rattle.sp_base.specs.Call.{call_number, call_words, wanted_words}
use Rattle.sp_base.specs.Needs.{needs_of}
use Rattle.sp_base.specs.declared.names.ReqNo.{ReqNo}
use Rattle.sp_base.specs.declared.need.Need.{Need}
use Rattle.sp_base.proofs.CallRows.{call_of-parts, call-count}
use Rattle.sp_frames.specs.declared.frame.Frame.{Frame}
use Rattle.kern_model.specs.Journal.{state_after}
use Rattle.kern_model.specs.State.{State}
use Rattle.kern_model.specs.declared.journal.Entry.{Entry}
use Rattle.hub_model.specs.Machine.{played}
use Rattle.hub_model.specs.Requests.{frame_at, frame_by}
use Rattle.hub_model.specs.State.{Connection, Played, with_connection}
use Rattle.hub_model.specs.Verdict.{verdict_of, is_other_count}
use Rattle.hub_model.specs.Frames.{ask, told, is_end}
use Rattle.hub_model.specs.Work.{work_at, work_number, work_call, gather, performed, take_at, take_from}
use Rattle.hub_model.specs.declared.event.Event.TheVariants as event
use Rattle.hub_model.specs.declared.event.Reply.{Reply}
use Rattle.hub_model.specs.declared.event.Reply.TheVariants as reply
use Rattle.hub_model.specs.declared.state.OpenCall.{OpenCall}
use Rattle.hub_model.specs.declared.state.OpenCall.TheVariants.{Gathers, Answers}
use Rattle.hub_model.specs.declared.verdict.Verdict.{Verdict}
use Rattle.hub_model.specs.declared.verdict.Verdict.TheVariants as verdict
use Rattle.tables.proofs.Entries.{again}
use Rattle.tables.proofs.Maps.{get_put, get_put_other, get_gone, get_gone_other, same_or_not}
use Rattle.client_model.specs.Requests.{call_body}
use Rattle.client_model.specs.State.{request_frame}
use Rattle.link_model.specs.Asked.{Asked, number_of, journal_before, entry_of}
use Rattle.link_model.proofs.Stage.{server_at, connection_at, calls_at}

-- ---- the connection in the server

module _ (a : Asked) (journal : List Entry) (x : Connection) where
  pub there : get (server_at a journal x).connections a.link.conn.0 ≡ Some x
  there = get_put a.link.server.connections a.link.conn.0 x

  pub frame_comes : (f : Frame) → played true (server_at a journal x) (event.Frame a.link.conn f 0)
      ≡ frame_by (verdict_of (state_after journal) a.link.server.cookies a.link.conn x f) (server_at a journal x) a.link.conn x f 0
  frame_comes f = ap (λ (o : Option Connection). frame_at (server_at a journal x) a.link.conn f 0 o) there

  pub is_worked : (r : ReqNo) → played true (server_at a journal x) (event.Work a.link.conn r) ≡ work_number true (server_at a journal x) a.link.conn x r (get x.calls r.0)
  is_worked r = ap (λ (o : Option Connection). work_at true (server_at a journal x) a.link.conn r o) there

  pub is_taken : played true (server_at a journal x) (event.Take a.link.conn) ≡ take_from (server_at a journal x) a.link.conn x x.condition x.queue
  is_taken = ap (λ (o : Option Connection). take_at (server_at a journal x) a.link.conn o) there

  -- the server with another connection, after what was answered
  pub moves_to : (answer : Reply) (journal' : List Entry) (y z : Connection) → y ≡ z
      → ◌≡◌ {A = Played} (answer, with_connection (record (server_at a journal x) { journal = journal' }) a.link.conn y) (answer, server_at a journal' z)
  moves_to answer journal' y z same =
      ap (λ (m : FinMap nat_cmp Connection). (answer, record (server_at a journal' z) { connections = m }))
      (ap (λ (y : Connection). insert (insert a.link.server.connections a.link.conn.0 x) a.link.conn.0 y) same
      ∙ again a.link.server.connections (insert a.link.server.connections a.link.conn.0 x) a.link.conn.0 x z refl)

-- the open call in the connection
pub call_put : (n : ℕ) (task : Option OpenCall) (new : OpenCall) → insert (calls_at n task) n new ≡ calls_at n (Some new)
call_put n None new = refl
call_put n (Some task) new = again empty (insert empty n task) n task new refl

pub call_there : (n : ℕ) (task : OpenCall) → get (calls_at n (Some task)) n ≡ Some task
call_there n task = get_put empty n task

pub no_other : (n : ℕ) (task : Option OpenCall) (q : ℕ) → q ≢ n → get (calls_at n task) q ≡ None
no_other n None q ne = get-empty nat_cmp q
no_other n (Some task) q ne = get_put_other empty n task q ne ∙ get-empty nat_cmp q

-- ---- the call's frame

later : (n : ℕ) → nat_le (n + 1) n ≡ false
later n = grind (arith, nat_tests)

same_count : (o : Option ℕ) (n : ℕ) → IfSome o (λ want. want ≡ n) → is_other_count o n ≡ false
same_count None n h = refl
same_count (Some want) n h = grind (arith, nat_tests)

words_fit : (a : Asked) → is_other_count (wanted_words (call_number a.call)) (length (call_words a.call)) ≡ false
words_fit a = same_count (wanted_words (call_number a.call)) (length (call_words a.call)) (call-count a.call a.proper)

-- the server takes the call
call_verdict_is : (a : Asked) (s : State) → verdict_of s a.link.server.cookies a.link.conn (connection_at a a.link.client.last None []) (request_frame (a.link.client.last + 1) (call_body a.call)) ≡ verdict.Task a.call
call_verdict_is a s = rw (later a.link.client.last, words_fit a, a.now, len-empty nat_cmp OpenCall, call_of-parts a.call a.proper) refl

-- the call is open
pub call_comes : (a : Asked) (journal : List Entry)
    → played true (server_at a journal (connection_at a a.link.client.last None [])) (event.Frame a.link.conn (request_frame (a.link.client.last + 1) (call_body a.call)) 0)
    ≡ (reply.Task (number_of a), server_at a journal (connection_at a (a.link.client.last + 1) (Some (Gathers a.call [] false)) []))
call_comes a journal =
    let x = connection_at a a.link.client.last None [] in
    let f = request_frame (a.link.client.last + 1) (call_body a.call) in
    frame_comes a journal x f
    ∙ ap (λ (v : Verdict). frame_by v (server_at a journal x) a.link.conn x f 0) (call_verdict_is a (state_after journal))
    ∙ moves_to a journal x (reply.Task (number_of a)) journal _ _ refl

-- ---- the call is worked

-- the next of what the call reads is asked for
pub call_asks : (a : Asked) (journal : List Entry) (got : List (List ℕ)) (need : Need) → slice_get (needs_of a.call) (length got) ≡ Some need
    → played true (server_at a journal (connection_at a (a.link.client.last + 1) (Some (Gathers a.call got false)) [])) (event.Work a.link.conn (number_of a))
    ≡ (reply.Asked, server_at a journal (connection_at a (a.link.client.last + 1) (Some (Gathers a.call got true)) (ask (number_of a) (length got) need ∷ [])))
call_asks a journal got need next =
    let n = a.link.client.last + 1 in
    let task = Gathers a.call got false in
    let x = connection_at a n (Some task) [] in
    is_worked a journal x (number_of a)
    ∙ ap (λ (o : Option OpenCall). work_number true (server_at a journal x) a.link.conn x (number_of a) o) (call_there n task)
    ∙ ap (λ (o : Option Need). gather true (server_at a journal x) a.link.conn x (number_of a) a.call got o) next
    ∙ moves_to a journal x reply.Asked journal _ _
    (ap (λ (m : FinMap nat_cmp OpenCall). record x { calls = m; queue = ask (number_of a) (length got) need ∷ [] }) (call_put n (Some task) (Gathers a.call got true)))

-- the call is performed, where it has an entry
pub call_acts : (a : Asked) (task : OpenCall) (e : Entry)
    → let x = connection_at a (a.link.client.last + 1) (Some task) [] in
    let m = server_at a (journal_before a) x in
    work_call true m a.link.conn x (number_of a) task ≡ performed true m a.link.conn x (number_of a) (entry_of a)
    → entry_of a ≡ Some e
    → played true m (event.Work a.link.conn (number_of a))
    ≡ (reply.Done, server_at a (journal_before a ++ e ∷ []) (connection_at a (a.link.client.last + 1) (Some Answers) (told (number_of a) e.outcome (length (journal_before a)))))
call_acts a task e works entry =
    let n = a.link.client.last + 1 in
    let x = connection_at a n (Some task) [] in
    let m = server_at a (journal_before a) x in
    is_worked a (journal_before a) x (number_of a)
    ∙ ap (λ (o : Option OpenCall). work_number true m a.link.conn x (number_of a) o) (call_there n task)
    ∙ works
    ∙ ap (λ (o : Option Entry). performed true m a.link.conn x (number_of a) o) entry
    ∙ moves_to a (journal_before a) x reply.Done (journal_before a ++ e ∷ []) _ _
    (ap (λ (c : FinMap nat_cmp OpenCall). record x { calls = c; queue = told (number_of a) e.outcome (length (journal_before a)) }) (call_put n (Some task) Answers))

-- ---- frames are handed out

-- a frame that ends nothing
pub frame_goes : (a : Asked) (journal : List Entry) (task : Option OpenCall) (f : Frame) (queue : List Frame) → is_end f.body ≡ false
    → played true (server_at a journal (connection_at a (a.link.client.last + 1) task (f ∷ queue))) (event.Take a.link.conn)
    ≡ (reply.Out f, server_at a journal (connection_at a (a.link.client.last + 1) task queue))
frame_goes a journal task f queue more =
    let n = a.link.client.last + 1 in
    let x = connection_at a n task (f ∷ queue) in
    is_taken a journal x
    ∙ moves_to a journal x (reply.Out f) journal _ _
    (ap (λ (b : Bool). record x { calls = cond b (remove (calls_at n task) f.number.0) (calls_at n task); queue = queue }) more)

-- a call that was put and is gone again leaves no call
gone : (n : ℕ) (task : OpenCall) → remove (calls_at n (Some task)) n ≡ empty
gone n task = same_map nat_cmp_total nat_cmp-IsAntisymmetric _ _ (λ q.
    elim (same_or_not q n) [
      | inl e ↦ subst (λ (k : ℕ). get (remove (calls_at n (Some task)) n) k ≡ get (empty {X = OpenCall} {R = nat_cmp}) k) (sym e) (get_gone (insert empty n task) n ∙ sym (get-empty nat_cmp n))
      | inr ne ↦ get_gone_other (insert empty n task) n q ne ∙ get_put_other empty n task q ne
    ])

-- the frame that ends the call
pub end_goes : (a : Asked) (journal : List Entry) (task : OpenCall) (f : Frame) → is_end f.body ≡ true → f.number ≡ number_of a
    → played true (server_at a journal (connection_at a (a.link.client.last + 1) (Some task) (f ∷ []))) (event.Take a.link.conn)
    ≡ (reply.Out f, server_at a journal (connection_at a (a.link.client.last + 1) None []))
end_goes a journal task f ends number =
    let n = a.link.client.last + 1 in
    let x = connection_at a n (Some task) (f ∷ []) in
    is_taken a journal x
    ∙ moves_to a journal x (reply.Out f) journal _ _
    (ap (λ (b : Bool). record x { calls = cond b (remove (calls_at n (Some task)) f.number.0) (calls_at n (Some task)); queue = [] }) ends
    ∙ ap (λ (r : ReqNo). record x { calls = remove (calls_at n (Some task)) r.0; queue = [] }) number
    ∙ ap (λ (c : FinMap nat_cmp OpenCall). record x { calls = c; queue = [] }) (gone n task))
