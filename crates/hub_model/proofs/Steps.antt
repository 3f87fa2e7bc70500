-- What each step of a connection owes to the machine.
use Rattle.std.proofs.Common.{◌≡◌, ◌⊎◌, inl, inr, ℕ, zero, suc, ◌<◌, ◌≤◌, Bool, true, false, List, [], ◌∷◌, ◌++◌, length, take, Option, Some, None, IsSome, refl, sym, ap, subst, ◌∙◌, arith}
use Rattle.std.specs.Prelude.{IfSome, IsTrue, ◌||◌, slice_get, if◌then◌else◌}
use Rattle.std.specs.List.{list_any}
use Rattle.std.specs.Ordering.{nat_cmp}
use Rattle.std.specs.FinMap.{FinMap, get, insert, remove}
use Rattle.sp_base.specs.Needs.{needs_of, IsPiece, ArePieces}
use Rattle.sp_base.specs.Table.{at}
use Rattle.sp_base.specs.declared.call.Call.{Call}
use Rattle.sp_base.specs.declared.errno.Errno.{Errno}
use Rattle.sp_base.specs.declared.errno.Errno.TheVariants.{Efault, Enametoolong}
use Rattle.sp_base.specs.declared.names.ConnNo.{ConnNo}
use Rattle.sp_base.specs.declared.names.Pid.{Pid}
use Rattle.sp_base.specs.declared.names.ReqNo.{ReqNo}
use Rattle.sp_base.specs.declared.need.Need.{Need}
use Rattle.sp_base.specs.declared.need.Need.TheVariants.{Bytes, Text}
use Rattle.sp_frames.specs.declared.frame.Frame.{Frame}
use Rattle.kern_model.specs.declared.journal.Entry.{Entry}
use Rattle.kern_model.specs.declared.journal.Who.{Who}
use Rattle.kern_model.specs.declared.journal.Who.TheVariants.{Request, End, Cancelled, Host}
use Rattle.kern_model.specs.declared.operation.Ins.{Ins}
use Rattle.kern_model.specs.declared.operation.Op.{Op}
use Rattle.kern_model.specs.declared.operation.Op.TheVariants.{Sys, Attach, Fork, Exit}
use Rattle.kern_model.specs.Journal.{FitsPid, state_after, next_entry}
use Rattle.kern_model.specs.Needs.{FitsIns, IsFaultOf, reads, is_text}
use Rattle.kern_model.specs.State.{State}
use Rattle.sp_fork.specs.declared.unused.CookieKind.TheVariants as kind
use Rattle.sp_fork.specs.declared.unused.Unused.{Unused}
use Rattle.hub_model.specs.Journal.{nothing_read, exit_of, with_entry}
use Rattle.hub_model.specs.Requests.{no_process}
use Rattle.hub_model.specs.Sound.{is_waiting, HasGathered, IsCall, IsConnection, IsAnswered, HasDone, IsSound}
use Rattle.hub_model.specs.State.{Connection, Machine, process_in, is_live, is_draining}
use Rattle.hub_model.specs.declared.state.Condition.{Condition}
use Rattle.hub_model.specs.declared.state.Condition.TheVariants as condition
use Rattle.hub_model.specs.declared.state.OpenCall.{OpenCall}
use Rattle.hub_model.specs.declared.state.OpenCall.TheVariants.{Gathers, Answers}
use Rattle.hub_model.proofs.Entries.{Nexts, Made, nexts, next_follows, next_who, attached, call_live, exit_live}
use Rattle.hub_model.proofs.Keeps.{IsAbout, IsProcess, IsFree, WaitsStill, Adds, Keeps, unused_free}
use Rattle.tables.proofs.Maps.{after_change, put_changes, gone_changes, get_put, get_put_other, get_gone, get_gone_other, same_or_not}
use Rattle.hub_model.proofs.Verdicts.{Attaches, FaultFits}

-- ---- pieces

-- one piece more
pub pieces_push : (all : List Need) (got : List (List ℕ)) (need : Need) (piece : List ℕ) → ArePieces (take (length got) all) got
    → slice_get all (length got) ≡ Some need → IsPiece need piece → ArePieces (take (length (got ++ piece ∷ [])) all) (got ++ piece ∷ [])
pieces_push [] [] need piece h e p = absurd cc
pieces_push (n ∷ all) [] need piece h e p = let same : need ≡ n = cc in (subst (λ (m : Need). IsPiece m piece) same p, tt)
pieces_push [] (g ∷ got) need piece h e p = absurd cc
pieces_push (n ∷ all) (g ∷ got) need piece h e p = (h.0, pieces_push all got need piece h.1 e p)

-- where nothing is left, all is there
pub pieces_all : (all : List Need) (got : List (List ℕ)) → ArePieces (take (length got) all) got → slice_get all (length got) ≡ None → ArePieces all got
pieces_all [] [] h e = tt
pieces_all (n ∷ all) [] h e = absurd cc
pieces_all [] (g ∷ got) h e = absurd h
pieces_all (n ∷ all) (g ∷ got) h e = (h.0, pieces_all all got h.1 e)

-- something is read where a need stands
reads_at : (all : List Need) (i : ℕ) (need : Need) → slice_get all i ≡ Some need → IsTrue (reads all)
reads_at [] i need e = absurd cc
reads_at (n ∷ all) i need e = refl

-- a text is read where one stands
text_at : (all : List Need) (i addr limit : ℕ) → slice_get all i ≡ Some (Text addr limit) → IsTrue (list_any is_text all)
text_at [] i addr limit e = absurd cc
text_at (n ∷ all) zero addr limit e = let same : n ≡ Text addr limit = cc in rw same refl
text_at (n ∷ all) (suc i) addr limit e = later (is_text n) (list_any is_text all) (text_at all i addr limit e) where
  later : (a b : Bool) → IsTrue b → IsTrue (a || b)
  later true b h = refl
  later false b h = h

-- an error of a need is one that gathering can end in
pub fault_of_call : (call : Call) (i : ℕ) (need : Need) (why : Errno) → slice_get (needs_of call) i ≡ Some need → FaultFits need why → IsFaultOf (needs_of call) why
fault_of_call call i need Efault e fits = reads_at (needs_of call) i need e
fault_of_call call i (Text addr limit) Enametoolong e fits = text_at (needs_of call) i addr limit e
fault_of_call call i (Bytes addr bytes_len) Enametoolong e fits = absurd fits
fault_of_call call i (Bytes addr bytes_len) _ e fits = absurd fits
fault_of_call call i (Text addr limit) _ e fits = absurd fits

-- ---- what a connection has done with

-- it has done with the same after its last number has risen, where no answered call waits again
done_by : (x x' : Connection) → x.last ≤ x'.last → ((r : ℕ) → r ≤ x.last → IsAnswered (get x.calls r) → IsAnswered (get x'.calls r))
    → (IsTrue (is_draining x.condition) → IsTrue (is_draining x'.condition)) → (who : Who) → HasDone who x → HasDone who x'
done_by x x' last calls draining (Request c r) h = ((let le = h.0 in omega arith), calls r.0 h.0 h.1)
done_by x x' last calls draining (End c) h = draining h
done_by x x' last calls draining (Cancelled cookie) h = absurd h
done_by x x' last calls draining (Host guest count) h = absurd h

-- an unused cookie's maker waits on where its condition is the same, and its process is live
waits_same : (journal' : List Entry) (x x' : Connection) (pid : Pid) → x'.condition ≡ x.condition → IsProcess journal' pid → x.condition ≡ condition.InExec pid → WaitsStill journal' pid (Some x')
waits_same journal' x x' pid same live is = record { there = x'; is = refl; waits = same ∙ is; live = live }

-- a connection goes on as far as it was, and every process stays live
goes_on : (m : Machine) (c : ℕ) (x x' : Connection) (journal' : List Entry) → x'.condition ≡ x.condition → IsConnection m.journal x
    → ((number : ℕ) (task : OpenCall) → get x'.calls number ≡ Some task → IsCall x' number task) → ((who : Who) → HasDone who x → HasDone who x')
    → ((q : Pid) → IsProcess m.journal q → IsProcess journal' q) → (journal' ≡ m.journal) ⊎ Adds m.journal c x journal' (Some x') → Keeps m c x journal' (Some x')
goes_on m c x x' journal' same is calls done lives grows = record {
  connection = λ y e. let one : x' ≡ y = cc in subst (λ (z : Connection). IsConnection journal' z) one (record {
    process = λ p speaks. lives p (is.process p (sym (ap process_in same) ∙ speaks));
    calls = calls;
  });
  done = done;
  grows = grows;
  others = λ q live own. lives q live;
  fresh = λ y p e speaks. let one : x' ≡ y = cc in inl (sym (ap process_in same) ∙ (ap (λ (z : Connection). process_in z.condition) one ∙ speaks));
  made = λ number u there by. refl;
  waits = λ number u there by exec in_exec. waits_same journal' x x' u.pid same (lives u.pid (is.process u.pid (ap process_in in_exec))) in_exec;
}

-- a change that leaves the journal and the condition
same_journal : (m : Machine) (c : ℕ) (x x' : Connection) → x'.condition ≡ x.condition → IsConnection m.journal x
    → ((number : ℕ) (task : OpenCall) → get x'.calls number ≡ Some task → IsCall x' number task) → ((who : Who) → HasDone who x → HasDone who x') → Keeps m c x m.journal (Some x')
same_journal m c x x' same is calls done = goes_on m c x x' m.journal same is calls done (λ q live. live) (inl refl)

-- what an answered call was is answered after another call is put
answered_put : (calls : FinMap nat_cmp OpenCall) (n r : ℕ) (task : OpenCall) → (r ≡ n → IsAnswered (get calls n) → IsAnswered (Some task))
    → IsAnswered (get calls r) → IsAnswered (get (insert calls n task) r)
answered_put calls n r task here h =
    elim (same_or_not r n) [
      | inl e ↦ subst (λ k. IsAnswered (get (insert calls n task) k)) (sym e) (subst (λ (o : Option OpenCall). IsAnswered o) (sym (get_put calls n task)) (here e (subst (λ k. IsAnswered (get calls k)) e h)))
      | inr ne ↦ subst (λ (o : Option OpenCall). IsAnswered o) (sym (get_put_other calls n task r ne)) h
    ]

answered_gone : (calls : FinMap nat_cmp OpenCall) (n r : ℕ) → IsAnswered (get calls r) → IsAnswered (get (remove calls n) r)
answered_gone calls n r h =
    elim (same_or_not r n) [
      | inl e ↦ subst (λ k. IsAnswered (get (remove calls n) k)) (sym e) (subst (λ (o : Option OpenCall). IsAnswered o) (sym (get_gone calls n)) tt)
      | inr ne ↦ subst (λ (o : Option OpenCall). IsAnswered o) (sym (get_gone_other calls n r ne)) h
    ]

-- a call that waits isn't answered
waiting : (calls : FinMap nat_cmp OpenCall) (n : ℕ) (task : OpenCall) → get calls n ≡ Some task → is_waiting task ≡ true → IsAnswered (get calls n) → ⊥
waiting calls n task e w h = let a : is_waiting task ≡ false = subst (λ (o : Option OpenCall). IsAnswered o) e h in let k : false ≡ true = sym a ∙ w in cc

-- what holds of each call after one is put
calls_put : (x x' : Connection) (n : ℕ) (task : OpenCall) → x'.calls ≡ insert x.calls n task → x.last ≤ x'.last → (IsTrue (is_live x.condition) → IsTrue (is_live x'.condition))
    → ((number : ℕ) (t : OpenCall) → get x.calls number ≡ Some t → IsCall x number t) → IsCall x' n task
    → (number : ℕ) (t : OpenCall) → get x'.calls number ≡ Some t → IsCall x' number t
calls_put x x' n task is last live old new number t h =
    elim (after_change x.calls (insert x.calls n task) n number t (Some task) (put_changes x.calls n task) (subst (λ (m : FinMap nat_cmp OpenCall). get m number ≡ Some t) is h)) [
      | inl e ↦ let same : task ≡ t = (let q = e.1 in cc) in subst (λ k. IsCall x' k t) (sym e.0) (subst (λ (u : OpenCall). IsCall x' n u) same new)
      | inr o ↦ let was = old number t o.1 in record { taken = (let le = was.taken in omega arith); gathered = was.gathered; live = λ w. live (was.live w) }
    ]

-- what holds of each call of the same calls
calls_same : (x x' : Connection) → x'.calls ≡ x.calls → x.last ≤ x'.last → (IsTrue (is_live x.condition) → IsTrue (is_live x'.condition))
    → ((number : ℕ) (t : OpenCall) → get x.calls number ≡ Some t → IsCall x number t) → (number : ℕ) (t : OpenCall) → get x'.calls number ≡ Some t → IsCall x' number t
calls_same x x' is last live old number t h =
    let was = old number t (subst (λ (m : FinMap nat_cmp OpenCall). get m number ≡ Some t) is h) in
    record { taken = (let le = was.taken in omega arith); gathered = was.gathered; live = λ w. live (was.live w) }

-- ---- requests

-- a request is refused
pub refuse_keeps : (m : Machine) (c n : ℕ) (x : Connection) (queue : List Frame) → IsConnection m.journal x → x.last < n
    → Keeps m c x m.journal (Some (record x { last = n; queue = queue }))
refuse_keeps m c n x queue is later =
    let x' = record x { last = n; queue = queue } in
    same_journal m c x x' refl is
    (calls_same x x' refl (omega arith) (λ l. l) is.calls)
    (done_by x x' (omega arith) (λ r le h. h) (λ d. d))

-- a call is open
pub open_keeps : (m : Machine) (c n : ℕ) (x : Connection) (call : Call) → IsConnection m.journal x → x.last < n → IsTrue (is_live x.condition)
    → Keeps m c x m.journal (Some (record x { last = n; calls = insert x.calls n (Gathers call [] false) }))
open_keeps m c n x call is later live =
    let task = Gathers call [] false in
    let x' = record x { last = n; calls = insert x.calls n task } in
    same_journal m c x x' refl is
    (calls_put x x' n task refl (omega arith) (λ l. l) is.calls (record { taken = omega arith; gathered = tt; live = λ w. live }))
    (done_by x x' (omega arith) (λ r le h. answered_put x.calls n r task (λ e g. absurd (omega arith)) h) (λ d. d))

-- an open call that waits goes on
pub task_keeps : (m : Machine) (c n : ℕ) (x : Connection) (queue : List Frame) (old new : OpenCall) → IsConnection m.journal x
    → get x.calls n ≡ Some old → is_waiting old ≡ true → HasGathered new
    → Keeps m c x m.journal (Some (record x { calls = insert x.calls n new; queue = queue }))
task_keeps m c n x queue old new is there waits gathered =
    let x' = record x { calls = insert x.calls n new; queue = queue } in
    let was = is.calls n old there in
    same_journal m c x x' refl is
    (calls_put x x' n new refl (omega arith) (λ l. l) is.calls (record { taken = was.taken; gathered = gathered; live = λ w. was.live waits }))
    (done_by x x' (omega arith) (λ r le h. answered_put x.calls n r new (λ e g. absurd (waiting x.calls n old there waits g)) h) (λ d. d))

-- an open call is answered
pub answer_keeps : (m : Machine) (c n : ℕ) (x : Connection) (queue : List Frame) (old : OpenCall) → IsConnection m.journal x
    → get x.calls n ≡ Some old → Keeps m c x m.journal (Some (record x { calls = insert x.calls n Answers; queue = queue }))
answer_keeps m c n x queue old is there =
    let x' = record x { calls = insert x.calls n Answers; queue = queue } in
    let was = is.calls n old there in
    same_journal m c x x' refl is
    (calls_put x x' n Answers refl (omega arith) (λ l. l) is.calls (record { taken = was.taken; gathered = tt; live = λ w. absurd cc }))
    (done_by x x' (omega arith) (λ r le h. answered_put x.calls n r Answers (λ e g. refl) h) (λ d. d))

-- a frame is handed out, and perhaps a call is open no more
pub take_keeps : (m : Machine) (c n : ℕ) (x : Connection) (queue : List Frame) (ends : Bool) → IsConnection m.journal x
    → Keeps m c x m.journal (Some (record x { calls = if ends then remove x.calls n else x.calls; queue = queue }))
take_keeps m c n x queue false is =
    let x' = record x { queue = queue } in
    same_journal m c x x' refl is
    (calls_same x x' refl (omega arith) (λ l. l) is.calls)
    (done_by x x' (omega arith) (λ r le h. h) (λ d. d))
take_keeps m c n x queue true is =
    let x' = record x { calls = remove x.calls n; queue = queue } in
    same_journal m c x x' refl is
    (λ number t h. elim (after_change x.calls (remove x.calls n) n number t None (gone_changes x.calls n) h) [
      | inl e ↦ absurd (let q = e.1 in cc)
      | inr o ↦ let was = is.calls number t o.1 in record { taken = was.taken; gathered = was.gathered; live = was.live }
    ])
    (done_by x x' (omega arith) (λ r le h. answered_gone x.calls n r h) (λ d. d))

-- ---- operations

-- no call of a number above the last one is open
unasked : (journal : List Entry) (x : Connection) (r : ℕ) → IsConnection journal x → x.last < r → IsAnswered (get x.calls r)
unasked journal x r is later = by_call (get x.calls r) (λ t h. let le = (is.calls r t h).taken in omega arith) where
  by_call : (o : Option OpenCall) → ((t : OpenCall) → o ≡ Some t → ⊥) → IsAnswered o
  by_call None h = tt
  by_call (Some t) h = absurd (h t refl)

-- an operation is performed for a request of a number above the last one
pub request_adds : (journal : List Entry) (c : ConnNo) (r : ReqNo) (x x' : Connection) (pid : Pid) (op : Op) (ins : Ins) (e : Entry) → IsConnection journal x → x.last < r.0
    → x'.last ≡ r.0 → x'.calls ≡ x.calls → Nexts journal pid (Request c r) op ins e → FitsPid (state_after journal) pid.0 op → FitsIns op ins
    → Adds journal c.0 x (journal ++ e ∷ []) (Some x')
request_adds journal c r x x' pid op ins e is later last calls m fits given =
    let who = next_who journal pid (Request c r) op ins e m in record {
      entry = e;
      grown = refl;
      follows = next_follows journal pid (Request c r) op ins e m fits given;
      about = subst (λ (w : Who). IsAbout c.0 w) (sym who) refl;
      done = subst (λ (w : Who). HasDone w x') (sym who)
          ((let same = last in omega arith), subst (λ (k : FinMap nat_cmp OpenCall). IsAnswered (get k r.0)) (sym calls) (unasked journal x r.0 is later));
      before = λ h. (let g : HasDone (Request c r) x = subst (λ (w : Who). HasDone w x) who h in let le = g.0 in omega arith);
    }

-- processes that are live in the next state are live after the entry
pub after_lives : (journal : List Entry) (pid : Pid) (who : Who) (op : Op) (ins : Ins) (e : Entry) (m : Nexts journal pid who op ins e) (q : Pid)
    → IsSome (at m.next.processes q.0) → IsProcess (journal ++ e ∷ []) q
after_lives journal pid who op ins e m q live = subst (λ (s : State). IsSome (at s.processes q.0)) (sym m.state) live

-- a call is performed
pub perform_keeps : (m : Machine) (c : ConnNo) (r : ReqNo) (x : Connection) (queue : List Frame) (old : OpenCall) (call : Call) (ins : Ins) (pid : Pid) (e : Entry) → IsConnection m.journal x
    → get x.calls r.0 ≡ Some old → is_waiting old ≡ true → process_in x.condition ≡ Some pid → FitsIns (Sys call) ins → next_entry m.journal pid (Request c r) (Sys call) ins ≡ Some e
    → Keeps m c.0 x (m.journal ++ e ∷ []) (Some (record x { calls = insert x.calls r.0 Answers; queue = queue }))
perform_keeps m c r x queue old call ins pid e is there waits own fits next =
    let x' = record x { calls = insert x.calls r.0 Answers; queue = queue } in
    let was = is.calls r.0 old there in
    let n = nexts m.journal pid (Request c r) (Sys call) ins e next in
    let who = next_who m.journal pid (Request c r) (Sys call) ins e n in
    goes_on m c.0 x x' (m.journal ++ e ∷ []) refl is
    (calls_put x x' r.0 Answers refl (omega arith) (λ l. l) is.calls (record { taken = was.taken; gathered = tt; live = λ w. absurd cc }))
    (done_by x x' (omega arith) (λ k le h. answered_put x.calls r.0 k Answers (λ q g. refl) h) (λ d. d))
    (λ q live. after_lives m.journal pid (Request c r) (Sys call) ins e n q (call_live (state_after m.journal) pid.0 call ins e.outcome n.next q.0 n.acts live))
    (inr (record {
      entry = e;
      grown = refl;
      follows = next_follows m.journal pid (Request c r) (Sys call) ins e n (is.process pid own) fits;
      about = subst (λ (w : Who). IsAbout c.0 w) (sym who) refl;
      done = subst (λ (w : Who). HasDone w x') (sym who) (was.taken, subst (λ (o : Option OpenCall). IsAnswered o) (sym (get_put x.calls r.0 Answers)) refl);
      before = λ h. (let g : HasDone (Request c r) x = subst (λ (w : Who). HasDone w x) who h in waiting x.calls r.0 old there waits g.1);
    }))

-- a fresh connection speaks for a free process
pub speaks_keeps : (m : Machine) (c n : ℕ) (x : Connection) (p : Pid) (queue : List Frame) (journal' : List Entry) → IsConnection m.journal x → x.condition ≡ condition.Fresh → x.last < n
    → IsFree m p → IsProcess journal' p → ((q : Pid) → IsProcess m.journal q → IsProcess journal' q)
    → (journal' ≡ m.journal) ⊎ Adds m.journal c x journal' (Some (record x { condition = condition.Live p; last = n; queue = queue }))
    → Keeps m c x journal' (Some (record x { condition = condition.Live p; last = n; queue = queue }))
speaks_keeps m c n x p queue journal' is fresh later free live lives grows =
    let x' = record x { condition = condition.Live p; last = n; queue = queue } in record {
      connection = λ y q. let same : x' ≡ y = cc in subst (λ (z : Connection). IsConnection journal' z) same (record {
        process = λ r speaks. let own : p ≡ r = cc in subst (λ (s : Pid). IsProcess journal' s) own live;
        calls = calls_same x x' refl (omega arith) (λ l. refl) is.calls;
      });
      done = done_by x x' (omega arith) (λ r le h. h) (λ d. (let k : false ≡ true = sym (ap is_draining fresh) ∙ d in absurd cc));
      grows = grows;
      others = λ q was own. lives q was;
      fresh = λ y q e speaks. (let same : x' ≡ y = cc in let k : Some p ≡ Some q = ap (λ (z : Connection). process_in z.condition) same ∙ speaks in
          let own : p ≡ q = cc in inr (subst (λ (r : Pid). IsFree m r) own free));
      made = λ number u there by. refl;
      waits = λ number u there by exec in_exec. absurd (let k : condition.Fresh ≡ condition.InExec u.pid = sym fresh ∙ in_exec in cc);
    }

-- a guest's handshake is performed
pub attach_keeps : (m : Machine) (c : ConnNo) (r : ReqNo) (x : Connection) (queue : List Frame) (e : Entry) → IsSound m → IsConnection m.journal x
    → Attaches (state_after m.journal) x r.0 → next_entry m.journal no_process (Request c r) Attach nothing_read ≡ Some e
    → Keeps m c.0 x (m.journal ++ e ∷ []) (Some (record x { condition = condition.Live (record { 0 = e.outcome.ret0 }); last = r.0; queue = queue }))
attach_keeps m c r x queue e sound is a next =
    let child : Pid = record { 0 = e.outcome.ret0 } in
    let n = nexts m.journal no_process (Request c r) Attach nothing_read e next in
    let made = attached (state_after m.journal) a.pid e.outcome n.next a.lowest n.acts in
    speaks_keeps m c.0 r.0 x child queue (m.journal ++ e ∷ []) is a.fresh a.later (unused_free m child sound made.unused)
    (after_lives m.journal no_process (Request c r) Attach nothing_read e n child made.made)
    (λ q live. after_lives m.journal no_process (Request c r) Attach nothing_read e n q (made.live q.0 live))
    (inr (request_adds m.journal c r x _ no_process Attach nothing_read e is a.later refl refl n refl tt))

-- the process of a connection forks
pub fork_keeps : (m : Machine) (c : ConnNo) (r : ReqNo) (x : Connection) (pid : Pid) (queue : List Frame) (e : Entry) → IsConnection m.journal x → x.last < r.0
    → process_in x.condition ≡ Some pid → (n : Nexts m.journal pid (Request c r) Fork nothing_read e) → Made (state_after m.journal) e.outcome n.next
    → Keeps m c.0 x (m.journal ++ e ∷ []) (Some (record x { last = r.0; queue = queue }))
fork_keeps m c r x pid queue e is later own n made =
    let x' = record x { last = r.0; queue = queue } in
    goes_on m c.0 x x' (m.journal ++ e ∷ []) refl is (calls_same x x' refl (omega arith) (λ l. l) is.calls) (done_by x x' (omega arith) (λ k le h. h) (λ d. d))
    (λ q live. after_lives m.journal pid (Request c r) Fork nothing_read e n q (made.live q.0 live))
    (inr (request_adds m.journal c r x x' pid Fork nothing_read e is later refl refl n (is.process pid own) tt))

-- the condition changes, and the process that the connection speaks for doesn't, or it speaks for none any more
pub turns_keeps : (m : Machine) (c : ℕ) (x x' : Connection) → IsConnection m.journal x → x.last ≤ x'.last → x'.calls ≡ x.calls
    → ((pid : Pid) → process_in x'.condition ≡ Some pid → process_in x.condition ≡ Some pid)
    → ((number : ℕ) (task : OpenCall) → get x.calls number ≡ Some task → IsTrue (is_waiting task) → IsTrue (is_live x'.condition))
    → (IsTrue (is_draining x.condition) → IsTrue (is_draining x'.condition))
    → ((number : ℕ) (u : Unused) → get m.cookies.unused number ≡ Some u → u.maker.0 ≡ c → u.kind ≡ kind.Exec → x.condition ≡ condition.InExec u.pid → x'.condition ≡ condition.InExec u.pid)
    → Keeps m c x m.journal (Some x')
turns_keeps m c x x' is last same speaks live draining in_exec = record {
  connection = λ y e. let one : x' ≡ y = cc in subst (λ (z : Connection). IsConnection m.journal z) one (record {
    process = λ p own. is.process p (speaks p own);
    calls = λ number task h. (let before : get x.calls number ≡ Some task = subst (λ (k : FinMap nat_cmp OpenCall). get k number ≡ Some task) same h in
        let was = is.calls number task before in
        record { taken = (let le = was.taken in omega arith); gathered = was.gathered; live = λ w. live number task before w });
  });
  done = done_by x x' last (λ r le h. subst (λ (k : FinMap nat_cmp OpenCall). IsAnswered (get k r)) (sym same) h) draining;
  grows = inl refl;
  others = λ q was own. was;
  fresh = λ y p e own. let one : x' ≡ y = cc in inl (speaks p (ap (λ (z : Connection). process_in z.condition) one ∙ own));
  made = λ number u there by. refl;
  waits = λ number u there by exec was. record { there = x'; is = refl; waits = in_exec number u there by exec was; live = is.process u.pid (ap process_in was) };
}

-- ---- ends

-- two processes of one number are one
pub pid_is : (p q : Pid) → p.0 ≡ q.0 → p ≡ q
pid_is p q e = let same : ◌≡◌ {A = Pid} (record { 0 = p.0 }) (record { 0 = q.0 }) = ap (λ n. record { 0 = n }) e in same

-- a connection goes: nothing waits on it, and it speaks for no process
pub record Goes (x y : Connection) : Type 0 where
  pub last : y.last ≡ x.last
  pub process : process_in y.condition ≡ None
  pub draining : IsTrue (is_draining y.condition)
  pub calls : (n : ℕ) → get y.calls n ≡ None

goes_is : (journal : List Entry) (x y : Connection) → Goes x y → IsConnection journal y
goes_is journal x y g = record {
  process = λ p s. absurd (let k : None ≡ Some p = sym g.process ∙ s in cc);
  calls = λ n t h. absurd (let k : None ≡ Some t = sym (g.calls n) ∙ h in cc);
}

goes_done : (x : Connection) (who : Who) (now : Option Connection) → ((y : Connection) → now ≡ Some y → Goes x y) → HasDone who x → IfSome now (HasDone who)
goes_done x who None goes h = tt
goes_done x (Request d r) (Some y) goes h = let g = goes y refl in ((let le = h.0 in let e = g.last in omega arith), subst (λ (o : Option OpenCall). IsAnswered o) (sym (g.calls r.0)) tt)
goes_done x (End d) (Some y) goes h = (goes y refl).draining
goes_done x (Cancelled cookie) (Some y) goes h = absurd h
goes_done x (Host guest count) (Some y) goes h = absurd h

-- a connection that speaks for a process isn't draining
speaks_on : (c : Condition) (pid : Pid) → process_in c ≡ Some pid → IsTrue (is_draining c) → ⊥
speaks_on condition.Fresh pid e d = cc
speaks_on (condition.Live p) pid e d = cc
speaks_on (condition.InExec p) pid e d = cc
speaks_on condition.Left pid e d = cc
speaks_on condition.Draining pid e d = cc

-- no unused cookie was made by a connection
abbrev pub HasNoCookie : Machine → ℕ → Type 0
HasNoCookie m c = (number : ℕ) (u : Unused) → get m.cookies.unused number ≡ Some u → u.maker.0 ≡ c → ⊥

-- a connection without a process goes
quiet_keeps : (m : Machine) (c : ℕ) (x : Connection) (now : Option Connection) → HasNoCookie m c → ((y : Connection) → now ≡ Some y → Goes x y) → Keeps m c x m.journal now
quiet_keeps m c x now none goes = record {
  connection = λ y e. goes_is m.journal x y (goes y e);
  done = λ who h. goes_done x who now goes h;
  grows = inl refl;
  others = λ q live no. live;
  fresh = λ y p e s. absurd (let g = (goes y e).process in let k : None ≡ Some p = sym g ∙ s in cc);
  made = λ number u there by. absurd (none number u there by);
  waits = λ number u there by exec is. absurd (none number u there by);
}

draining_by : (c : ConnNo) (x : Connection) (now : Option Connection) → ((y : Connection) → now ≡ Some y → Goes x y) → IfSome now (HasDone (End c))
draining_by c x None goes = tt
draining_by c x (Some y) goes = (goes y refl).draining

-- a connection with a process goes, and its process exits
exit_by : (m : Machine) (c : ConnNo) (x : Connection) (pid : Pid) (next : Option Entry) (now : Option Connection) → IsConnection m.journal x → HasNoCookie m c.0
    → process_in x.condition ≡ Some pid → next_entry m.journal pid (End c) Exit nothing_read ≡ next → ((y : Connection) → now ≡ Some y → Goes x y)
    → Keeps m c.0 x (with_entry m.journal next) now
exit_by m c x pid None now is none own h goes = quiet_keeps m c.0 x now none goes
exit_by m c x pid (Some e) now is none own h goes =
    let n = nexts m.journal pid (End c) Exit nothing_read e h in
    let who = next_who m.journal pid (End c) Exit nothing_read e n in
    record {
      connection = λ y q. goes_is (m.journal ++ e ∷ []) x y (goes y q);
      done = λ w k. goes_done x w now goes k;
      grows = inr (record {
        entry = e;
        grown = refl;
        follows = next_follows m.journal pid (End c) Exit nothing_read e n (is.process pid own) tt;
        about = subst (λ (w : Who). IsAbout c.0 w) (sym who) refl;
        done = subst (λ (w : Who). IfSome now (HasDone w)) (sym who) (draining_by c x now goes);
        before = λ k. (let g : HasDone (End c) x = subst (λ (w : Who). HasDone w x) who k in speaks_on x.condition pid own g);
      });
      others = λ q live other. after_lives m.journal pid (End c) Exit nothing_read e n q
          (exit_live (state_after m.journal) pid.0 e.outcome n.next q.0 n.acts (λ (same : q.0 ≡ pid.0). other (own ∙ ap (λ (p : Pid). Some p) (sym (pid_is q pid same)))) live);
      fresh = λ y p q s. absurd (let g = (goes y q).process in let k : None ≡ Some p = sym g ∙ s in cc);
      made = λ number u there by. absurd (none number u there by);
      waits = λ number u there by exec in_exec. absurd (none number u there by);
    }

-- a connection goes, and the process that it still has exits
pub exit_keeps : (m : Machine) (c : ConnNo) (x : Connection) (process : Option Pid) (now : Option Connection) → IsConnection m.journal x → HasNoCookie m c.0
    → process_in x.condition ≡ process → ((y : Connection) → now ≡ Some y → Goes x y) → Keeps m c.0 x (exit_of m.journal c process) now
exit_keeps m c x None now is none own goes = quiet_keeps m c.0 x now none goes
exit_keeps m c x (Some pid) now is none own goes = exit_by m c x pid (next_entry m.journal pid (End c) Exit nothing_read) now is none own refl goes
