-- Whatever closes a connection takes its cookies back, and ends what was its own.
use Rattle.std.proofs.Common.{◌≡◌, ◌≢◌, inl, inr, ℕ, Bool, true, false, cond, List, [], ◌∷◌, ◌++◌, Option, Some, None, refl, sym, ap, subst, ◌∙◌, append-nil, append_assoc, arith}
use Rattle.std.specs.Prelude.{◌==◌, IsTrue, T, filter, flat_map, map}
use Rattle.std.specs.FinMap.{FinMap, entries, entries_sorted, get, remove}
use Rattle.std.specs.FinMap.Entries as entry
use Rattle.std.specs.List.{AllByRecursion}
use Rattle.std.specs.Ordering.{nat_cmp, is_lt}
use Rattle.std.proofs.lemmas.Grind.{common_steps}
use Rattle.std.proofs.lemmas.Bool.Decides.{nat_tests}
use Rattle.sp_base.specs.declared.names.ConnNo.{ConnNo}
use Rattle.sp_base.specs.declared.names.Cookie.{Cookie}
use Rattle.sp_base.specs.declared.names.Pid.{Pid}
use Rattle.sp_base.specs.declared.names.SpError.{SpError}
use Rattle.sp_base.specs.declared.names.SpError.TheVariants as error
use Rattle.sp_frames.specs.declared.frame.Frame.{Frame}
use Rattle.kern_model.specs.declared.journal.Entry.{Entry}
use Rattle.kern_model.specs.declared.journal.Who.TheVariants.{Request}
use Rattle.kern_model.specs.declared.operation.Op.TheVariants as op
use Rattle.kern_model.specs.Journal.{next_entry, state_after}
use Rattle.sp_fork.specs.Jar.{Jar, cancellable, cookie_of, made_by, only, redeemable, without}
use Rattle.sp_fork.specs.declared.unused.CookieKind.{CookieKind}
use Rattle.sp_fork.specs.declared.unused.CookieKind.TheVariants as kind
use Rattle.sp_fork.specs.declared.unused.Unused.{Unused}
use Rattle.sp_fork.proofs.Firsts.{both, makes, values_there}
use Rattle.hub_model.specs.Closing.{ClosingTakesBack, HasClosed, child_exit, children_exits, own_exit}
use Rattle.hub_model.specs.Cookies.{Ledger, ledger_of, take_all_back, take_back, take_back_by, take_back_each, without_child}
use Rattle.hub_model.specs.Ends.{close, drain, draining, end_at, end_by, gone, lose_at}
use Rattle.hub_model.specs.Frames.{answered_kind, last_error}
use Rattle.hub_model.specs.Journal.{exit_of, nothing_read}
use Rattle.hub_model.specs.Machine.{Plays, refusal_takes}
use Rattle.hub_model.specs.Requests.{attach, bytes_in, cancel, fork, fork_by, frame_at, frame_by, go_on, image, image_by, join, no_process, ready, refuse, with_copy, with_error}
use Rattle.hub_model.specs.State.{Connection, Machine, Played, process_in, with_connection}
use Rattle.hub_model.specs.Verdict.{verdict_of}
use Rattle.hub_model.specs.declared.event.Event.TheVariants as event
use Rattle.hub_model.specs.declared.event.Finish.{Finish}
use Rattle.hub_model.specs.declared.event.Finish.TheVariants as finish
use Rattle.hub_model.specs.declared.event.Reply.{Reply}
use Rattle.hub_model.specs.declared.event.Reply.TheVariants as reply
use Rattle.hub_model.specs.declared.state.Condition.{Condition}
use Rattle.hub_model.specs.declared.state.Condition.TheVariants as condition
use Rattle.hub_model.specs.declared.state.OpenCall.{OpenCall}
use Rattle.hub_model.specs.declared.verdict.Verdict.{Verdict}
use Rattle.hub_model.specs.declared.verdict.Verdict.TheVariants as verdict
use Rattle.hub_model.proofs.Keeps.{all_map}
use Rattle.hub_model.proofs.Ledgers.{cancellable_is, none_left}
use Rattle.hub_model.proofs.OwnersStay.{same_number}
use Rattle.hub_model.proofs.Verdicts.{tells}
use Rattle.tables.proofs.Maps.{get_gone_other}

-- ---- the entries of a jar that a connection made

-- an entry is in a map, and the connection made its cookie
abbrev IsHis : FinMap nat_cmp Unused → ConnNo → ℕ × Unused → Type 0
IsHis unused c e = (get unused e.0 ≡ Some e.1) × (makes c e ≡ true)

-- no later entry has the number of an earlier one
abbrev AreApart : List (ℕ × Unused) → Type 0
AreApart [] = Unit {0}
AreApart (e ∷ es) = AllByRecursion (λ x. x.0 ≢ e.0) es × AreApart es

above_differs : (a b : ℕ) → T (is_lt (nat_cmp a b)) → b ≢ a
above_differs a b h same = grind (arith, nat_tests, common_steps)

all_above : (k : ℕ) (es : List (ℕ × Unused)) → T (entry.below_all nat_cmp k es) → AllByRecursion (λ x. x.0 ≢ k) es
all_above k [] below = tt
all_above k (e ∷ es) below = let parts = both (is_lt (nat_cmp k e.0)) (entry.below_all nat_cmp k es) below in (above_differs k e.0 parts.0, all_above k es parts.1)

sorted_apart : (es : List (ℕ × Unused)) → T (entry.is_sorted nat_cmp es) → AreApart es
sorted_apart [] sorted = tt
sorted_apart (e ∷ es) sorted = let parts = both (entry.below_all nat_cmp e.0 es) (entry.is_sorted nat_cmp es) sorted in (all_above e.0 es parts.0, sorted_apart es parts.1)

-- what holds of all entries holds of those that a connection made
all_filter : (P : ℕ × Unused → Type 0) (c : ConnNo) (es : List (ℕ × Unused)) → AllByRecursion P es → AllByRecursion (λ e. P e × (makes c e ≡ true)) (filter (makes c) es)
all_filter P c [] all = tt
all_filter P c (e ∷ es) all = by_test (makes c e) refl (all_filter P c es all.1) where
  by_test : (b : Bool) → makes c e ≡ b → AllByRecursion (λ x. P x × (makes c x ≡ true)) (filter (makes c) es)
      → AllByRecursion (λ x. P x × (makes c x ≡ true)) (cond b (e ∷ filter (makes c) es) (filter (makes c) es))
  by_test true passes rest = ((all.0, passes), rest)
  by_test false fails rest = rest

filter_apart : (c : ConnNo) (es : List (ℕ × Unused)) → AreApart es → AreApart (filter (makes c) es)
filter_apart c [] apart = tt
filter_apart c (e ∷ es) apart = by_test (makes c e) (filter_apart c es apart.1) where
  by_test : (b : Bool) → AreApart (filter (makes c) es) → AreApart (cond b (e ∷ filter (makes c) es) (filter (makes c) es))
  by_test true rest = (all_map (λ x. (x.0 ≢ e.0) × (makes c x ≡ true)) (λ x. x.0 ≢ e.0) (λ x h. h.0) (filter (makes c) es) (all_filter (λ x. x.0 ≢ e.0) c es apart.0), rest)
  by_test false rest = rest

-- ---- one cookie is taken back

-- a cookie of the map that the connection made can be cancelled
his_cancellable : (jar : Jar) (c : ConnNo) (e : ℕ × Unused) → IsHis jar.unused c e → cancellable jar (cookie_of e) c ≡ Some e.1
his_cancellable jar c e is =
    ap (λ (o : Option Unused). only (λ x. x.maker.0 == c.0) (only (λ x. x.salt == e.1.salt) o)) is.0
    ∙ (ap (λ b. only (λ x. x.maker.0 == c.0) (cond b (Some e.1) None)) (same_number e.1.salt)
    ∙ ap (λ b. cond b (Some e.1) None) is.1)

child_exits : (journal : List Entry) (number : ℕ) (pid : Pid) (k : CookieKind) → without_child journal number pid k ≡ journal ++ child_exit number pid k
child_exits journal number pid kind.Fork = refl
child_exits journal number pid kind.Exec = sym (append-nil journal)

-- what a cookie that is taken back leaves of the ledger
back_journal : (l : Ledger) (c : ConnNo) (e : ℕ × Unused) → IsHis l.cookies.unused c e → (take_back l c (cookie_of e)).journal ≡ l.journal ++ child_exit e.0 e.1.pid e.1.kind
back_journal l c e is = ap (λ (o : Option Unused). (take_back_by l c (cookie_of e) o).journal) (his_cancellable l.cookies c e is) ∙ child_exits l.journal e.0 e.1.pid e.1.kind

back_unused : (l : Ledger) (c : ConnNo) (e : ℕ × Unused) → IsHis l.cookies.unused c e → (take_back l c (cookie_of e)).cookies.unused ≡ remove l.cookies.unused e.0
back_unused l c e is =
    ap (λ (o : Option Unused). (take_back_by l c (cookie_of e) o).cookies.unused) (his_cancellable l.cookies c e is)
    ∙ ap (λ (o : Option Unused). (without l.cookies e.0 o).unused) (his_cancellable l.cookies c e is)

still_his : (unused : FinMap nat_cmp Unused) (c : ConnNo) (k : ℕ) (x : ℕ × Unused) → x.0 ≢ k → IsHis unused c x → IsHis (remove unused k) c x
still_his unused c k x other is = (get_gone_other unused k x.0 other ∙ is.0, is.1)

all_both : (P Q R : ℕ × Unused → Type 0) → ((x : ℕ × Unused) → P x → Q x → R x) → (es : List (ℕ × Unused)) → AllByRecursion P es → AllByRecursion Q es → AllByRecursion R es
all_both P Q R f [] p q = tt
all_both P Q R f (x ∷ es) p q = (f x p.0 q.0, all_both P Q R f es p.1 q.1)

-- ---- all cookies are taken back

each_journal : (l : Ledger) (c : ConnNo) (es : List (ℕ × Unused)) → AllByRecursion (λ e. IsHis l.cookies.unused c e) es → AreApart es
    → (take_back_each l c (map cookie_of es)).journal ≡ l.journal ++ flat_map (λ e. child_exit e.0 e.1.pid e.1.kind) es
each_journal l c [] all apart = sym (append-nil l.journal)
each_journal l c (e ∷ es) all apart =
    let next = take_back l c (cookie_of e) in
    let left : AllByRecursion (λ x. IsHis next.cookies.unused c x) es = subst (λ (unused : FinMap nat_cmp Unused). AllByRecursion (λ x. IsHis unused c x) es) (sym (back_unused l c e all.0))
    (all_both (λ x. x.0 ≢ e.0) (λ x. IsHis l.cookies.unused c x) (λ x. IsHis (remove l.cookies.unused e.0) c x) (still_his l.cookies.unused c e.0) es apart.0 all.1) in
    let more = flat_map (λ (x : ℕ × Unused). child_exit x.0 x.1.pid x.1.kind) es in
    each_journal next c es left apart.1
    ∙ (ap (λ (j : List Entry). j ++ more) (back_journal l c e all.0) ∙ append_assoc l.journal (child_exit e.0 e.1.pid e.1.kind) more)

all_journal : (l : Ledger) (c : ConnNo) → (take_all_back l c).journal ≡ l.journal ++ children_exits l.cookies c
all_journal l c =
    let unused = l.cookies.unused in
    each_journal l c (filter (makes c) (entries unused))
    (all_filter (λ e. get unused e.0 ≡ Some e.1) c (entries unused) (values_there unused))
    (filter_apart c (entries unused) (sorted_apart (entries unused) (entries_sorted unused)))

-- the cookies of others stay
back_others : (l : Ledger) (c : ConnNo) (cookie : Cookie) (o : Option Unused) (number : ℕ) (u : Unused) → cancellable l.cookies cookie c ≡ o → u.maker.0 ≢ c.0
    → get l.cookies.unused number ≡ Some u → get (take_back_by l c cookie o).cookies.unused number ≡ Some u
back_others l c cookie None number u is other there = there
back_others l c cookie (Some v) number u is other there =
    let found = cancellable_is l.cookies cookie c v is in
    ap (λ (o : Option Unused). get (without l.cookies cookie.number o).unused number) is
    ∙ (get_gone_other l.cookies.unused cookie.number number (λ same.
    let one : Some u ≡ Some v = sym there ∙ (ap (λ (n : ℕ). get l.cookies.unused n) same ∙ found.0) in
    let equal : u ≡ v = cc in
    other (ap (λ (w : Unused). w.maker.0) equal ∙ found.1)) ∙ there)

each_others : (l : Ledger) (c : ConnNo) (cookies : List Cookie) (number : ℕ) (u : Unused) → u.maker.0 ≢ c.0 → get l.cookies.unused number ≡ Some u
    → get (take_back_each l c cookies).cookies.unused number ≡ Some u
each_others l c [] number u other there = there
each_others l c (cookie ∷ cookies) number u other there =
    each_others (take_back l c cookie) c cookies number u other (back_others l c cookie (cancellable l.cookies cookie c) number u refl other there)

-- ---- a connection goes

own_exits : (journal : List Entry) (c : ConnNo) (process : Option Pid) → exit_of journal c process ≡ journal ++ own_exit c process
own_exits journal c None = sym (append-nil journal)
own_exits journal c (Some pid) = refl

gone_closes : (m : Machine) (c : ConnNo) (x : Connection) → get m.connections c.0 ≡ Some x → HasClosed m c x (gone m c x)
gone_closes m c x here = record {
  here = here;
  none = λ number u there his. none_left m c number u there his;
  others = λ number u there other. each_others (ledger_of m) c (made_by m.cookies c) number u other there;
  journal = own_exits (take_all_back (ledger_of m) c).journal c (process_in x.condition)
      ∙ (ap (λ (j : List Entry). j ++ own_exit c (process_in x.condition)) (all_journal (ledger_of m) c)
      ∙ append_assoc m.journal (children_exits m.cookies c) (own_exit c (process_in x.condition)));
}

-- of the connections the closing of one doesn't speak
with_connections : (m : Machine) (c : ConnNo) (x : Connection) (n : Machine) (connections : _) → HasClosed m c x n → HasClosed m c x (record n { connections = connections })
with_connections m c x n connections h = record { here = h.here; none = h.none; others = h.others; journal = h.journal }

-- what closes a connection of a machine
abbrev Closed : Machine → ConnNo → Machine → Type 0
Closed m c m' = (x : Connection) × HasClosed m c x m'

drain_closes : (answer : Reply) (m : Machine) (c : ConnNo) (x : Connection) (f : Frame) → get m.connections c.0 ≡ Some x → Closed m c (drain answer m c x f).1
drain_closes answer m c x f here = (x, with_connections m c x (gone m c x) (with_connection (gone m c x) c (draining x f)).connections (gone_closes m c x here))

close_closes : (m : Machine) (c : ConnNo) (x : Connection) → get m.connections c.0 ≡ Some x → Closed m c (close m c x).1
close_closes m c x here = (x, with_connections m c x (gone m c x) (remove m.connections c.0) (gone_closes m c x here))

-- ---- the events that close

-- a machine answers, and is this one afterwards
abbrev Answers : Reply → Machine → Played → Type 0
Answers answer m' p = ◌≡◌ {A = Played} (answer, m') p

not_this : {X : Type 0} (m' : Machine) (answer : Reply) (p : Played) → answer ≢ p.0 → Answers answer m' p → X
not_this m' answer p other e = absurd (other (ap (λ (q : Played). q.0) e))

so_is : (m m' : Machine) (c : ConnNo) (answer : Reply) (p : Played) → Closed m c p.1 → Answers answer m' p → Closed m c m'
so_is m m' c answer p h e = subst (λ (n : Machine). Closed m c n) (sym (ap (λ (q : Played). q.1) e)) h

end_closes : (m m' : Machine) (c : ConnNo) (x : Connection) (s : Condition) (how : Finish) → get m.connections c.0 ≡ Some x → Answers reply.Nothing m' (end_by m c x s how) → Closed m c m'
end_closes m m' c x (condition.Live pid) (finish.Bad fault) here e = so_is m m' c reply.Nothing _ (drain_closes reply.Nothing m c x (last_error (record { 0 = 0 }) None) here) e
end_closes m m' c x (condition.Live pid) finish.Clean here e = so_is m m' c reply.Nothing _ (close_closes m c x here) e
end_closes m m' c x (condition.Live pid) finish.Inside here e = so_is m m' c reply.Nothing _ (close_closes m c x here) e
end_closes m m' c x condition.Fresh how here e = so_is m m' c reply.Nothing _ (close_closes m c x here) e
end_closes m m' c x (condition.InExec pid) how here e = so_is m m' c reply.Nothing _ (close_closes m c x here) e
end_closes m m' c x condition.Left how here e = so_is m m' c reply.Nothing _ (close_closes m c x here) e
end_closes m m' c x condition.Draining how here e = so_is m m' c reply.Nothing _ (close_closes m c x here) e

end_at_closes : (m m' : Machine) (c : ConnNo) (how : Finish) (o : Option Connection) → get m.connections c.0 ≡ o → Answers reply.Nothing m' (end_at m c how o) → Closed m c m'
end_at_closes m m' c how None here e = not_this m' reply.Nothing (reply.Closed, m) (λ q. cc) e
end_at_closes m m' c how (Some x) here e = end_closes m m' c x x.condition how here e

lose_at_closes : (m m' : Machine) (c : ConnNo) (o : Option Connection) → get m.connections c.0 ≡ o → Answers reply.Nothing m' (lose_at m c o) → Closed m c m'
lose_at_closes m m' c None here e = not_this m' reply.Nothing (reply.Closed, m) (λ q. cc) e
lose_at_closes m m' c (Some x) here e = so_is m m' c reply.Nothing _ (close_closes m c x here) e

-- ---- malformed frames

abbrev malformed : Reply
malformed = reply.Refused error.Malformed

refused_why : {X : Type 0} (m m' : Machine) (c : ConnNo) (x : Connection) (f : Frame) (why : SpError) (o : Option ℕ) → IsTrue (refusal_takes why) → Answers malformed m' (refuse m c x f why o) → X
refused_why m m' c x f why None takes e = absurd (let q : malformed ≡ reply.Refused why = ap (λ (p : Played). p.0) e in let same : error.Malformed ≡ why = cc in
    let clash : false ≡ true = ap refusal_takes same ∙ takes in cc)
refused_why m m' c x f why (Some n) takes e = absurd (let q : malformed ≡ reply.Refused why = ap (λ (p : Played). p.0) e in let same : error.Malformed ≡ why = cc in
    let clash : false ≡ true = ap refusal_takes same ∙ takes in cc)

-- the reply isn't that of a malformed frame
abbrev IsOther : Reply → Type 0
IsOther answer = malformed ≢ answer

attach_other : (m : Machine) (c : ConnNo) (x : Connection) (f : Frame) (o : Option Entry) → IsOther (attach m c x f o).0
attach_other m c x f None = λ q. cc
attach_other m c x f (Some e) = λ q. cc

join_other : (m : Machine) (c : ConnNo) (x : Connection) (f : Frame) (cookie : Cookie) (o : Option Unused) → IsOther (join m c x f cookie o).0
join_other m c x f cookie None = λ q. cc
join_other m c x f cookie (Some u) = λ q. cc

image_by_other : (m : Machine) (c : ConnNo) (x : Connection) (f : Frame) (cookie : Cookie) (u : Unused) (o : Option Entry) → IsOther (image_by m c x f cookie u o).0
image_by_other m c x f cookie u None = λ q. cc
image_by_other m c x f cookie u (Some e) = λ q. cc

image_other : (m : Machine) (c : ConnNo) (x : Connection) (f : Frame) (cookie : Cookie) (o : Option Unused) → IsOther (image m c x f cookie o).0
image_other m c x f cookie None = λ q. cc
image_other m c x f cookie (Some u) = image_by_other m c x f cookie u (next_entry m.journal u.pid (Request c f.number) op.Exec nothing_read)

fork_by_other : (m : Machine) (c : ConnNo) (x : Connection) (f : Frame) (salt : ℕ) (o : Option Entry) → IsOther (fork_by m c x f salt o).0
fork_by_other m c x f salt None = λ q. cc
fork_by_other m c x f salt (Some e) = λ q. cc

fork_other : (m : Machine) (c : ConnNo) (x : Connection) (f : Frame) (salt : ℕ) (o : Option Pid) → IsOther (fork m c x f salt o).0
fork_other m c x f salt None = λ q. cc
fork_other m c x f salt (Some pid) = fork_by_other m c x f salt (next_entry m.journal pid (Request c f.number) op.Fork nothing_read)

ready_other : (m : Machine) (c : ConnNo) (x : Connection) (f : Frame) (salt : ℕ) (o : Option Pid) → IsOther (ready m c x f salt o).0
ready_other m c x f salt None = λ q. cc
ready_other m c x f salt (Some pid) = λ q. cc

cancel_other : (m : Machine) (c : ConnNo) (x : Connection) (f : Frame) (cookie : Cookie) (o : Option Unused) → IsOther (cancel m c x f cookie o).0
cancel_other m c x f cookie None = λ q. cc
cancel_other m c x f cookie (Some u) = λ q. cc

go_on_other : (m : Machine) (c : ConnNo) (x : Connection) (f : Frame) (next : OpenCall → OpenCall) (o : Option OpenCall) → IsOther (go_on m c x f next o).0
go_on_other m c x f next None = λ q. cc
go_on_other m c x f next (Some task) = λ q. cc

frame_closes : (v : Verdict) (m m' : Machine) (c : ConnNo) (x : Connection) (f : Frame) (salt : ℕ) → get m.connections c.0 ≡ Some x → verdict_of (state_after m.journal) m.cookies c x f ≡ v
    → Answers malformed m' (frame_by v m c x f salt) → Closed m c m'
frame_closes verdict.Malformed m m' c x f salt here v e = so_is m m' c malformed _ (drain_closes malformed m c x (last_error f.number (answered_kind f.body)) here) e
frame_closes (verdict.Refused why) m m' c x f salt here v e =
    refused_why m m' c x f why (answered_kind f.body) (tells (state_after m.journal) m.cookies c x f (verdict.Refused why) v).1 e
frame_closes verdict.Closed m m' c x f salt here v e = not_this m' malformed (reply.Closed, m) (λ q. cc) e
frame_closes verdict.Attach m m' c x f salt here v e = not_this m' malformed _ (attach_other m c x f (next_entry m.journal no_process (Request c f.number) op.Attach nothing_read)) e
frame_closes (verdict.Join cookie) m m' c x f salt here v e = not_this m' malformed _ (join_other m c x f cookie (redeemable m.cookies cookie kind.Fork)) e
frame_closes (verdict.Image cookie) m m' c x f salt here v e = not_this m' malformed _ (image_other m c x f cookie (redeemable m.cookies cookie kind.Exec)) e
frame_closes verdict.Fork m m' c x f salt here v e = not_this m' malformed _ (fork_other m c x f salt (process_in x.condition)) e
frame_closes verdict.Ready m m' c x f salt here v e = not_this m' malformed _ (ready_other m c x f salt (process_in x.condition)) e
frame_closes (verdict.Cancel cookie) m m' c x f salt here v e = not_this m' malformed _ (cancel_other m c x f cookie (cancellable m.cookies cookie c)) e
frame_closes (verdict.Task call) m m' c x f salt here v e = absurd (let q = ap (λ (p : Played). p.0) e in cc)
frame_closes verdict.Copy m m' c x f salt here v e = not_this m' malformed _ (go_on_other m c x f (λ task. with_copy task (bytes_in f.body)) (get x.calls f.number.0)) e
frame_closes (verdict.CopyFault why) m m' c x f salt here v e = not_this m' malformed _ (go_on_other m c x f (λ task. with_error task why) (get x.calls f.number.0)) e

frame_at_closes : (m m' : Machine) (c : ConnNo) (f : Frame) (salt : ℕ) (o : Option Connection) → get m.connections c.0 ≡ o → Answers malformed m' (frame_at m c f salt o) → Closed m c m'
frame_at_closes m m' c f salt None here e = not_this m' malformed (reply.Closed, m) (λ q. cc) e
frame_at_closes m m' c f salt (Some x) here e = frame_closes (verdict_of (state_after m.journal) m.cookies c x f) m m' c x f salt here refl e

-- ---- whatever closes

-- while the server hasn't halted
running : (m m' : Machine) (answer : Reply) (halted : Bool) (p : Played) → answer ≢ reply.Closed → Answers answer m' (cond {A = Played} halted (reply.Closed, m) p) → Answers answer m' p
running m m' answer true p other e = not_this m' answer (reply.Closed, m) other e
running m m' answer false p other e = e

wants : {X : Type 0} (answer : Reply) → answer ≢ reply.NoMemory → answer ≡ reply.NoMemory → X
wants answer other e = absurd (other e)

lost_closes : (m m' : Machine) (c : ConnNo) → Plays m (event.Lost c) reply.Nothing m' → Closed m c m'
lost_closes m m' c (inl p) = lose_at_closes m m' c (get m.connections c.0) refl (running m m' reply.Nothing m.halted (lose_at m c (get m.connections c.0)) (λ q. cc) p.1)
lost_closes m m' c (inr stays) = wants reply.Nothing (λ q. cc) stays.answers

ended_closes : (m m' : Machine) (c : ConnNo) (how : Finish) → Plays m (event.Ended c how) reply.Nothing m' → Closed m c m'
ended_closes m m' c how (inl p) = end_at_closes m m' c how (get m.connections c.0) refl (running m m' reply.Nothing m.halted (end_at m c how (get m.connections c.0)) (λ q. cc) p.1)
ended_closes m m' c how (inr stays) = wants reply.Nothing (λ q. cc) stays.answers

malformed_closes : (m m' : Machine) (c : ConnNo) (f : Frame) (salt : ℕ) → Plays m (event.Frame c f salt) malformed m' → Closed m c m'
malformed_closes m m' c f salt (inl p) =
    frame_at_closes m m' c f salt (get m.connections c.0) refl (running m m' malformed m.halted (frame_at m c f salt (get m.connections c.0)) (λ q. cc) p.1)
malformed_closes m m' c f salt (inr stays) = wants malformed (λ q. cc) stays.answers

pub closing_takes_back : ClosingTakesBack
closing_takes_back m m' (event.Lost d) reply.Nothing c plays is = subst (λ (n : ConnNo). Closed m n m') is (lost_closes m m' d plays)
closing_takes_back m m' (event.Ended d how) reply.Nothing c plays is = subst (λ (n : ConnNo). Closed m n m') is (ended_closes m m' d how plays)
closing_takes_back m m' (event.Frame d f salt) (reply.Refused error.Malformed) c plays is = subst (λ (n : ConnNo). Closed m n m') is (malformed_closes m m' d f salt plays)
closing_takes_back m m' _ _ c plays is = absurd is
