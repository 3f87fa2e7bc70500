-- Which calls can be refused for memory: none that was performed. So what is refused later can be put behind what was refused before.
use Rattle.std.proofs.Common.{◌≡◌, ◌≢◌, inl, inr, ℕ, Bool, true, false, cond, List, [], ◌∷◌, ◌++◌, Option, Some, None, refl, sym, ap, subst, ◌∙◌, append_assoc, arith}
use Rattle.std.proofs.lemmas.Bool.{eqb-true}
use Rattle.std.proofs.lemmas.Bool.Decides.{nat_tests}
use Rattle.std.proofs.lemmas.List.{append-nil}
use Rattle.std.specs.Prelude.{◌==◌, not, IfSome}
use Rattle.std.specs.FinMap.{get}
use Rattle.sp_base.specs.declared.names.ConnNo.{ConnNo}
use Rattle.sp_base.specs.declared.names.Cookie.{Cookie}
use Rattle.sp_base.specs.declared.names.Pid.{Pid}
use Rattle.sp_base.specs.declared.names.ReqNo.{ReqNo}
use Rattle.sp_base.specs.declared.names.SpError.TheVariants as error
use Rattle.sp_frames.specs.declared.frame.Frame.{Frame}
use Rattle.kern_model.specs.Journal.{IsNew, next_entry}
use Rattle.kern_model.specs.declared.journal.Entry.{Entry}
use Rattle.kern_model.specs.declared.journal.Who.{Who}
use Rattle.kern_model.specs.declared.journal.Who.TheVariants.{Request, Cancelled, End}
use Rattle.kern_model.specs.declared.operation.Op.TheVariants as op
use Rattle.sp_fork.specs.Jar.{cancellable, made_by, redeemable}
use Rattle.sp_fork.specs.declared.unused.CookieKind.{CookieKind}
use Rattle.sp_fork.specs.declared.unused.CookieKind.TheVariants as kind
use Rattle.sp_fork.specs.declared.unused.Unused.{Unused}
use Rattle.hub_model.specs.Cookies.{Ledger, ledger_of, without_child, take_back, take_back_by, take_back_each, take_all_back}
use Rattle.hub_model.specs.Ends.{gone}
use Rattle.hub_model.specs.Frames.{answered_kind}
use Rattle.hub_model.specs.Journal.{nothing_read, with_entry, exit_of}
use Rattle.hub_model.specs.Machine.{played, played_running, Plays}
use Rattle.hub_model.specs.Requests.{no_process, attach, join, left_at, image_by, image, fork_by, fork, ready, cancel, refuse, go_on, bytes_in, with_copy, with_error, frame_by, frame_at}
use Rattle.hub_model.specs.Sound.{is_waiting, HasDone, IsDone, IsSound}
use Rattle.hub_model.specs.State.{Connection, Machine, Played, process_in}
use Rattle.hub_model.specs.Verdict.{verdict_of}
use Rattle.hub_model.specs.declared.event.Event.TheVariants as event
use Rattle.hub_model.specs.declared.event.Reply.{Reply}
use Rattle.hub_model.specs.declared.event.Reply.TheVariants as reply
use Rattle.hub_model.specs.declared.state.OpenCall.{OpenCall}
use Rattle.hub_model.specs.declared.verdict.Verdict.{Verdict}
use Rattle.hub_model.specs.declared.verdict.Verdict.TheVariants as verdict
use Rattle.hub_model.proofs.Keeps.{all_map}
use Rattle.hub_model.proofs.Sound.{plays_sound}
use Rattle.kern_model.specs.Journal.{state_after}
use Rattle.sp_server.specs.Serving.{server_of, reply_to, after, has_memory, is_refused, refused_behind, work_reply, after_work, HandsOut}
use Rattle.sp_server.specs.Session.{MayRefuse}
use Rattle.sp_server.proofs.Works.{Performs, Stays, work_view}
use Rattle.sp_server.proofs.Shrinking.{take_view}

-- ---- what no entry was made for

new_front : (who : Who) (entries more : List Entry) → IsNew who (entries ++ more) → IsNew who entries
new_front who [] more h = tt
new_front who (e ∷ entries) more h = (h.0, new_front who entries more h.1)

new_last : (who : Who) (entries : List Entry) (e : Entry) → e.who ≡ who → IsNew who (entries ++ e ∷ []) → ⊥
new_last who [] e is h = h.0 is
new_last who (f ∷ entries) e is h = new_last who entries e is h.1

-- for a call that waits, none was made
pub waiting_new : (m : Machine) (c : ConnNo) (r : ReqNo) (x : Connection) (task : OpenCall) → IsSound m → get m.connections c.0 ≡ Some x → get x.calls r.0 ≡ Some task → is_waiting task ≡ true
    → IsNew (Request c r) m.journal
waiting_new m c r x task sound here there waits = all_map (λ e. IsDone m e.who) (λ e. e.who ≡ Request c r → ⊥)
    (λ e done (is : e.who ≡ Request c r).
    let spent : IsDone m (Request c r) = subst (λ (w : Who). IsDone m w) is done in
    let ended : HasDone (Request c r) x = subst (λ (o : Option Connection). IfSome o (HasDone (Request c r))) here spent.1 in
    let answered : is_waiting task ≡ false = subst (λ (o : Option OpenCall). IfSome o (λ t. is_waiting t ≡ false)) there ended.1 in
    let no : true ≡ false = sym waits ∙ answered in
    absurd cc)
    m.journal sound.done

-- ---- journals grow

-- the journal is another one with entries behind it
abbrev pub Grows : Machine → Machine → Type 0
Grows m m' = (more : List Entry) × (m'.journal ≡ m.journal ++ more)

-- calls that can be refused later could be refused before
pub refuse_before : (c : ConnNo) (m m' : Machine) (later : List ReqNo) → Grows m m' → MayRefuse c m' later → MayRefuse c m later
refuse_before c m m' [] grows may = tt
refuse_before c m m' (r ∷ later) grows may = new_front (Request c r) m.journal grows.0 (subst (λ (j : List Entry). IsNew (Request c r) j) grows.1 may)

as_it_was : (m : Machine) → Grows m m
as_it_was m = ([], sym (append-nil m.journal))

one_entry : (journal : List Entry) (next : Option Entry) → (more : List Entry) × (with_entry journal next ≡ journal ++ more)
one_entry journal None = ([], sym (append-nil journal))
one_entry journal (Some e) = (e ∷ [], refl)

exit_grows : (journal : List Entry) (c : ConnNo) (process : Option Pid) → (more : List Entry) × (exit_of journal c process ≡ journal ++ more)
exit_grows journal c None = ([], sym (append-nil journal))
exit_grows journal c (Some pid) = one_entry journal (next_entry journal pid (End c) op.Exit nothing_read)

-- ---- cookies that are taken back

-- the journal of a ledger is another one with entries behind it
abbrev Adds : List Entry → Ledger → Type 0
Adds journal l = (more : List Entry) × (l.journal ≡ journal ++ more)

adds_then : (journal : List Entry) (l l' : Ledger) → Adds journal l → Adds l.journal l' → Adds journal l'
adds_then journal l l' a b = (a.0 ++ b.0, b.1 ∙ ap (λ (j : List Entry). j ++ b.0) a.1 ∙ append_assoc journal a.0 b.0)

child_grows : (journal : List Entry) (number : ℕ) (pid : Pid) (k : CookieKind) → (more : List Entry) × (without_child journal number pid k ≡ journal ++ more)
child_grows journal number pid kind.Fork = one_entry journal (next_entry journal pid (Cancelled number) op.Exit nothing_read)
child_grows journal number pid kind.Exec = ([], sym (append-nil journal))

taken_adds : (l : Ledger) (c : ConnNo) (cookie : Cookie) (u : Option Unused) → Adds l.journal (take_back_by l c cookie u)
taken_adds l c cookie None = ([], sym (append-nil l.journal))
taken_adds l c cookie (Some u) = child_grows l.journal cookie.number u.pid u.kind

each_adds : (cookies : List Cookie) (l : Ledger) (c : ConnNo) → Adds l.journal (take_back_each l c cookies)
each_adds [] l c = ([], sym (append-nil l.journal))
each_adds (cookie ∷ cookies) l c =
    let first = take_back l c cookie in
    adds_then l.journal first (take_back_each first c cookies) (taken_adds l c cookie (cancellable l.cookies cookie c)) (each_adds cookies first c)

-- a connection that goes takes its cookies back, and its process exits
gone_grows : (m : Machine) (c : ConnNo) (x : Connection) → Grows m (gone m c x)
gone_grows m c x =
    let back = take_all_back (ledger_of m) c in
    let taken = each_adds (made_by m.cookies c) (ledger_of m) c in
    let exits = exit_grows back.journal c (process_in x.condition) in
    (taken.0 ++ exits.0, exits.1 ∙ ap (λ (j : List Entry). j ++ exits.0) taken.1 ∙ append_assoc m.journal taken.0 exits.0)

-- ---- a frame

attach_grows : (m : Machine) (c : ConnNo) (x : Connection) (f : Frame) (next : Option Entry) → Grows m (attach m c x f next).1
attach_grows m c x f None = as_it_was m
attach_grows m c x f (Some e) = (e ∷ [], refl)

join_grows : (m : Machine) (c : ConnNo) (x : Connection) (f : Frame) (cookie : Cookie) (u : Option Unused) → Grows m (join m c x f cookie u).1
join_grows m c x f cookie None = as_it_was m
join_grows m c x f cookie (Some u) = as_it_was m

left_journal : (m : Machine) (c : ConnNo) (x : Option Connection) → (left_at m c x).journal ≡ m.journal
left_journal m c None = refl
left_journal m c (Some x) = refl

image_by_grows : (m : Machine) (c : ConnNo) (x : Connection) (f : Frame) (cookie : Cookie) (u : Unused) (next : Option Entry) → Grows m (image_by m c x f cookie u next).1
image_by_grows m c x f cookie u None = as_it_was m
image_by_grows m c x f cookie u (Some e) = (e ∷ [], left_journal _ u.maker (get m.connections u.maker.0))

image_grows : (m : Machine) (c : ConnNo) (x : Connection) (f : Frame) (cookie : Cookie) (u : Option Unused) → Grows m (image m c x f cookie u).1
image_grows m c x f cookie None = as_it_was m
image_grows m c x f cookie (Some u) = image_by_grows m c x f cookie u (next_entry m.journal u.pid (Request c f.number) op.Exec nothing_read)

fork_by_grows : (m : Machine) (c : ConnNo) (x : Connection) (f : Frame) (salt : ℕ) (next : Option Entry) → Grows m (fork_by m c x f salt next).1
fork_by_grows m c x f salt None = as_it_was m
fork_by_grows m c x f salt (Some e) = (e ∷ [], refl)

fork_grows : (m : Machine) (c : ConnNo) (x : Connection) (f : Frame) (salt : ℕ) (process : Option Pid) → Grows m (fork m c x f salt process).1
fork_grows m c x f salt None = as_it_was m
fork_grows m c x f salt (Some pid) = fork_by_grows m c x f salt (next_entry m.journal pid (Request c f.number) op.Fork nothing_read)

ready_grows : (m : Machine) (c : ConnNo) (x : Connection) (f : Frame) (salt : ℕ) (process : Option Pid) → Grows m (ready m c x f salt process).1
ready_grows m c x f salt None = as_it_was m
ready_grows m c x f salt (Some pid) = as_it_was m

cancel_grows : (m : Machine) (c : ConnNo) (x : Connection) (f : Frame) (cookie : Cookie) (u : Option Unused) → Grows m (cancel m c x f cookie u).1
cancel_grows m c x f cookie None = as_it_was m
cancel_grows m c x f cookie (Some u) = child_grows m.journal cookie.number u.pid u.kind

refuse_grows : (m : Machine) (c : ConnNo) (x : Connection) (f : Frame) (why : _) (kind : Option ℕ) → Grows m (refuse m c x f why kind).1
refuse_grows m c x f why None = as_it_was m
refuse_grows m c x f why (Some kind) = as_it_was m

go_on_grows : (m : Machine) (c : ConnNo) (x : Connection) (f : Frame) (next : OpenCall → OpenCall) (task : Option OpenCall) → Grows m (go_on m c x f next task).1
go_on_grows m c x f next None = as_it_was m
go_on_grows m c x f next (Some task) = as_it_was m

verdict_grows : (v : Verdict) (m : Machine) (c : ConnNo) (x : Connection) (f : Frame) (salt : ℕ) → Grows m (frame_by v m c x f salt).1
verdict_grows verdict.Closed m c x f salt = as_it_was m
verdict_grows verdict.Malformed m c x f salt = gone_grows m c x
verdict_grows (verdict.Refused why) m c x f salt = refuse_grows m c x f why (answered_kind f.body)
verdict_grows verdict.Attach m c x f salt = attach_grows m c x f (next_entry m.journal no_process (Request c f.number) op.Attach nothing_read)
verdict_grows (verdict.Join cookie) m c x f salt = join_grows m c x f cookie (redeemable m.cookies cookie kind.Fork)
verdict_grows (verdict.Image cookie) m c x f salt = image_grows m c x f cookie (redeemable m.cookies cookie kind.Exec)
verdict_grows verdict.Fork m c x f salt = fork_grows m c x f salt (process_in x.condition)
verdict_grows verdict.Ready m c x f salt = ready_grows m c x f salt (process_in x.condition)
verdict_grows (verdict.Cancel cookie) m c x f salt = cancel_grows m c x f cookie (cancellable m.cookies cookie c)
verdict_grows (verdict.Task call) m c x f salt = as_it_was m
verdict_grows verdict.Copy m c x f salt = go_on_grows m c x f (λ task. with_copy task (bytes_in f.body)) (get x.calls f.number.0)
verdict_grows (verdict.CopyFault why) m c x f salt = go_on_grows m c x f (λ task. with_error task why) (get x.calls f.number.0)

frame_at_grows : (m : Machine) (c : ConnNo) (f : Frame) (salt : ℕ) (x : Option Connection) → Grows m (frame_at m c f salt x).1
frame_at_grows m c f salt None = as_it_was m
frame_at_grows m c f salt (Some x) = verdict_grows (verdict_of (state_after m.journal) m.cookies c x f) m c x f salt

frame_by_halt : (m : Machine) (c : ConnNo) (f : Frame) (salt : ℕ) (halted : Bool) → Grows m (cond {A = Played} halted (reply.Closed, m) (played_running true m (event.Frame c f salt))).1
frame_by_halt m c f salt true = as_it_was m
frame_by_halt m c f salt false = frame_at_grows m c f salt (get m.connections c.0)

pub frame_grows : (m : Machine) (c : ConnNo) (f : Frame) (salt : ℕ) → Grows m (after m (event.Frame c f salt))
frame_grows m c f salt = frame_by_halt m c f salt m.halted

take_grows : (m : Machine) (c : ConnNo) → Grows m (after m (event.Take c))
take_grows m c = elim (take_view m c) [
  | inl t ↦ ([], ap (λ (p : Played). p.1.journal) t.does ∙ sym (append-nil m.journal))
  | inr n ↦ ([], ap (λ (p : Played). p.1.journal) n.does ∙ sym (append-nil m.journal))
]

take_sound : (m : Machine) (c : ConnNo) → IsSound m → IsSound (after m (event.Take c))
take_sound m c sound = plays_sound m (after m (event.Take c)) (event.Take c) (reply_to m (event.Take c)) sound (inl (true, refl))

then_grows : (m n k : Machine) → Grows m n → Grows n k → Grows m k
then_grows m n k a b = (a.0 ++ b.0, b.1 ∙ ap (λ (j : List Entry). j ++ b.0) a.1 ∙ append_assoc m.journal a.0 b.0)

pub hands_grow : (m : Machine) (c : ConnNo) (frames : List Frame) (m' : Machine) → HandsOut m c frames m' → Grows m m'
hands_grow m c [] m' is = subst (λ (n : Machine). Grows m n) (sym is.1) (take_grows m c)
hands_grow m c (f ∷ frames) m' is = then_grows m (after m (event.Take c)) m' (take_grows m c) (hands_grow (after m (event.Take c)) c frames m' is.1)

pub hands_sound : (m : Machine) (c : ConnNo) (frames : List Frame) (m' : Machine) → HandsOut m c frames m' → IsSound m → IsSound m'
hands_sound m c [] m' is sound = subst (λ (n : Machine). IsSound n) (sym is.1) (take_sound m c sound)
hands_sound m c (f ∷ frames) m' is sound = hands_sound (after m (event.Take c)) c frames m' is.1 (take_sound m c sound)

-- ---- a Work

-- there is memory for a call that was performed, whatever is refused later
had_memory : (c : ConnNo) (r : ReqNo) (m' : Machine) (journal : List Entry) (e : Entry) (later : List ReqNo) → m'.journal ≡ journal ++ e ∷ [] → e.who ≡ Request c r → MayRefuse c m' later
    → has_memory later r ≡ true
had_memory c r m' journal e [] grown who may = refl
had_memory c r m' journal e (next ∷ later) grown who may = by_test (next.0 == r.0) refl
  where
    by_test : (same : Bool) → (next.0 == r.0) ≡ same → not (next.0 == r.0) ≡ true
    by_test false is = ap not is
    by_test true is =
        let number : next.0 ≡ r.0 = eqb-true next.0 r.0 is in
        let call : next ≡ r = ap (λ (n : ℕ). let no : ReqNo = record { 0 = n } in no) number in
        absurd (new_last (Request c next) journal e (who ∙ ap (Request c) (sym call)) (subst (λ (j : List Entry). IsNew (Request c next) j) grown may))

pub keeps_refused : (later : List ReqNo) (answer : Reply) → is_refused answer ≡ false → refused_behind later answer ≡ later
keeps_refused [] answer kept = refl
keeps_refused (next ∷ later) answer kept = rw kept refl

first_refused : (r : ReqNo) (later : List ReqNo) → has_memory (r ∷ later) r ≡ false
first_refused r later = let same : (r.0 == r.0) ≡ true = grind (arith, nat_tests) in ap not same

-- a call is worked, with the calls that are refused, whichever are refused later
pub record Worked (c : ConnNo) (r : ReqNo) (m m' : Machine) (answer : Reply) (later : List ReqNo) : Type 0 where
  pub refused : List ReqNo
  pub may : MayRefuse c m refused
  pub answers : work_reply (server_of m refused) c r ≡ answer
  pub leaves : after_work (server_of m refused) c r ≡ server_of m' later

-- a Work that is played with the memory that the list says
worked_by : (c : ConnNo) (r : ReqNo) (m m' : Machine) (answer : Reply) (refused later : List ReqNo) (memory : Bool) → MayRefuse c m refused → has_memory refused r ≡ memory
    → played memory m (event.Work c r) ≡ (answer, m') → refused_behind refused answer ≡ later → Worked c r m m' answer later
worked_by c r m m' answer refused later memory may has does behind =
    let plays : played (has_memory refused r) m (event.Work c r) ≡ (answer, m') = ap (λ (b : Bool). played b m (event.Work c r)) has ∙ does in
    let answers : work_reply (server_of m refused) c r ≡ answer = ap (λ (p : Played). p.0) plays in
    record {
      refused = refused;
      may = may;
      answers = answers;
      leaves = ap (λ (p : Played). server_of p.1 (refused_behind refused p.0)) plays ∙ ap (λ (l : List ReqNo). server_of m' l) behind;
    }

performs_worked : (c : ConnNo) (r : ReqNo) (m m' : Machine) (answer : Reply) (memory : Bool) (later : List ReqNo) (p : Performs m c r) → IsSound m → (answer, m') ≡ played memory m (event.Work c r)
    → MayRefuse c m' later → Worked c r m m' answer later
performs_worked c r m m' answer true later p sound plays may =
    let does = plays ∙ p.does true in
    let said : answer ≡ reply.Done = ap (λ (q : Played). q.0) does in
    let grown : m'.journal ≡ m.journal ++ p.entry ∷ [] = ap (λ (q : Played). q.1.journal) does in
    worked_by c r m m' answer later later true (refuse_before c m m' later (p.entry ∷ [], grown) may) (had_memory c r m' m.journal p.entry later grown p.who may) (sym plays)
    (keeps_refused later answer (ap is_refused said))
performs_worked c r m m' answer false later p sound plays may =
    let does = plays ∙ p.does false in
    let said : answer ≡ reply.Refused error.Memory = ap (λ (q : Played). q.0) does in
    worked_by c r m m' answer (r ∷ later) later false (waiting_new m c r p.x p.task sound p.here p.there p.waits) (first_refused r later) (sym plays)
    (ap (λ (a : Reply). refused_behind (r ∷ later) a) said)

stays_grows : (m : Machine) (c : ConnNo) (r : ReqNo) (s : Stays m c r) → Grows m s.last
stays_grows m c r s = elim s.same [
  | inl same ↦ ([], ap (λ (n : Machine). n.journal) same ∙ sym (append-nil m.journal))
  | inr a ↦ ([], ap (λ (n : Machine). n.journal) a.is ∙ sym (append-nil m.journal))
]

stays_worked : (c : ConnNo) (r : ReqNo) (m m' : Machine) (answer : Reply) (memory : Bool) (later : List ReqNo) (s : Stays m c r) → (answer, m') ≡ played memory m (event.Work c r)
    → MayRefuse c m' later → Worked c r m m' answer later
stays_worked c r m m' answer memory later s plays may =
    let does = plays ∙ s.does memory in
    let said : answer ≡ s.answer = ap (λ (q : Played). q.0) does in
    let last : m' ≡ s.last = ap (λ (q : Played). q.1) does in
    worked_by c r m m' answer later later (has_memory later r)
    (refuse_before c m m' later (subst (λ (n : Machine). Grows m n) (sym last) (stays_grows m c r s)) may) refl
    (s.does (has_memory later r) ∙ sym does) (keeps_refused later answer (ap is_refused said ∙ s.kept))

-- a Work that doesn't want memory for an ask
pub work_proceeds : (c : ConnNo) (r : ReqNo) (m m' : Machine) (answer : Reply) (later : List ReqNo) → IsSound m → Plays m (event.Work c r) answer m' → answer ≢ reply.NoMemory → MayRefuse c m' later
    → Worked c r m m' answer later
work_proceeds c r m m' answer later sound (inr stays) ne may = absurd (ne stays.answers)
work_proceeds c r m m' answer later sound (inl p) ne may = elim (work_view m c r) [
  | inl performs ↦ performs_worked c r m m' answer p.0 later performs sound p.1 may
  | inr stays ↦ stays_worked c r m m' answer p.0 later stays p.1 may
]

-- ---- events to which memory makes no difference, where they happen

pub frame_is : (m m' : Machine) (c : ConnNo) (f : Frame) (salt : ℕ) (answer : Reply) → Plays m (event.Frame c f salt) answer m' → answer ≢ reply.NoMemory → m' ≡ after m (event.Frame c f salt)
frame_is m m' c f salt answer (inl p) ne = ap (λ (q : Played). q.1) p.1
frame_is m m' c f salt answer (inr stays) ne = absurd (ne stays.answers)

pub opened_is : (m m' : Machine) (c : ConnNo) (answer : Reply) → Plays m (event.Opened c) answer m' → answer ≢ reply.NoMemory → m' ≡ after m (event.Opened c)
opened_is m m' c answer (inl p) ne = ap (λ (q : Played). q.1) p.1
opened_is m m' c answer (inr stays) ne = absurd (ne stays.answers)
