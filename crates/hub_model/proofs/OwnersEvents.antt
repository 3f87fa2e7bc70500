-- Whatever happens, what was handed over explains what connections speak for.
use Rattle.std.proofs.Common.{◌≡◌, ◌≢◌, inl, inr, ℕ, ◌+◌, Bool, true, false, cond, List, [], ◌∷◌, ◌++◌, length, Option, Some, None, refl, sym, ap, subst, ◌∙◌, append-nil, arith}
use Rattle.std.specs.Prelude.{IfSome, option_and_then}
use Rattle.std.specs.Ordering.{nat_cmp}
use Rattle.std.specs.FinMap.{get, insert, remove, get-empty}
use Rattle.sp_base.specs.declared.call.Call.{Call}
use Rattle.sp_base.specs.declared.names.ConnNo.{ConnNo}
use Rattle.sp_base.specs.declared.names.Cookie.{Cookie}
use Rattle.sp_base.specs.declared.names.Pid.{Pid}
use Rattle.sp_base.specs.declared.names.ReqNo.{ReqNo}
use Rattle.sp_base.specs.declared.names.SpError.{SpError}
use Rattle.sp_base.specs.declared.names.SpError.TheVariants as error
use Rattle.sp_frames.specs.declared.frame.Frame.{Frame}
use Rattle.sp_frames.specs.declared.version.Version.{Version}
use Rattle.kern_model.specs.declared.journal.Entry.{Entry}
use Rattle.kern_model.specs.declared.journal.Who.TheVariants.{Request}
use Rattle.kern_model.specs.declared.operation.Ins.{Ins}
use Rattle.kern_model.specs.declared.operation.Ins.TheVariants.{Given, Fault}
use Rattle.kern_model.specs.declared.operation.Op.TheVariants as op
use Rattle.kern_model.specs.Journal.{state_after, next_entry}
use Rattle.sp_fork.specs.Jar.{after, cancellable, redeemable, with_next, without}
use Rattle.sp_fork.specs.Jar.Operation.{Redeem}
use Rattle.sp_fork.specs.declared.unused.CookieKind.{CookieKind}
use Rattle.sp_fork.specs.declared.unused.CookieKind.TheVariants as kind
use Rattle.sp_fork.specs.declared.unused.Unused.{Unused}
use Rattle.hub_model.specs.Cookies.{handing, ledger_of, next_cookie, take_all_back, take_back_by, with_ledger}
use Rattle.hub_model.specs.Ends.{close, drain, draining, gone}
use Rattle.hub_model.specs.Frames.{answered_kind, exec_ready, forked, hello, imaged, joined, last_error}
use Rattle.hub_model.specs.Journal.{nothing_read}
use Rattle.hub_model.specs.Machine.{Plays, is_new}
use Rattle.hub_model.specs.Owners.{IsOwners, fork_of, made_at, maker_of, owner, owner_by}
use Rattle.hub_model.specs.Requests.{after_cancel, answered, attach, bytes_in, cancel, fork, fork_by, frame_by, go_on, image, image_by, join, left_at, left_over, no_process, ready, redeemed, refuse, speaking, with_copy, with_error}
use Rattle.hub_model.specs.Run.{Exchange, Runs}
use Rattle.hub_model.specs.State.{Connection, Machine, fresh_connection, fresh_machine, is_fresh, process_in, with_connection}
use Rattle.hub_model.specs.Verdict.{verdict_of}
use Rattle.hub_model.specs.Work.{perform, performed}
use Rattle.hub_model.specs.declared.event.Event.{Event}
use Rattle.hub_model.specs.declared.event.Reply.{Reply}
use Rattle.hub_model.specs.declared.event.Reply.TheVariants as reply
use Rattle.hub_model.specs.declared.handover.Handover.TheVariants as handover
use Rattle.hub_model.specs.declared.state.Condition.{Condition}
use Rattle.hub_model.specs.declared.state.Condition.TheVariants as condition
use Rattle.hub_model.specs.declared.state.OpenCall.{OpenCall}
use Rattle.hub_model.specs.declared.verdict.Verdict.{Verdict}
use Rattle.hub_model.specs.declared.verdict.Verdict.TheVariants as verdict
use Rattle.hub_model.proofs.Entries.{nexts}
use Rattle.hub_model.proofs.Events.{Leads, below_new, fresh_quiet, plays_leads, runs_keep}
use Rattle.hub_model.proofs.Keeps.{all_map}
use Rattle.hub_model.proofs.Ledgers.{redeemable_is}
use Rattle.hub_model.proofs.Offers.{left}
use Rattle.hub_model.proofs.OwnersStay.{made_last, owner_front, same_number, unowned}
use Rattle.hub_model.proofs.OwnersKept.{IsByOwner, IsHanded, IsMadeAs, IsReceived, IsTraced, OwnersStay, connection_traced, entries_stay, journal_traced, made_stays, nothing_yet, receive_traced, with_handover}
use Rattle.hub_model.proofs.OwnersCookies.{all_traced, back_traced, end_traced, next_traced, owes_nothing, uses}
use Rattle.hub_model.proofs.Verdicts.{tells}
use Rattle.tables.proofs.Maps.{after_change, get_put_other, gone_changes, put_changes}

-- ---- one connection, one entry

-- a connection changes that speaks for the same process or for none, and isn't fresh again
put_traced : (m : Machine) (c : ConnNo) (x x' : Connection) → IsTraced m → get m.connections c.0 ≡ Some x
    → ((p : Pid) → process_in x'.condition ≡ Some p → process_in x.condition ≡ Some p) → (IsHanded x → IsHanded x') → IsTraced (with_connection m c x')
put_traced m c x x' traced here same handed = connection_traced m c.0 x (insert m.connections c.0 x') (Some x') traced here (put_changes m.connections c.0 x')
    (λ y p e s. (let is : x' ≡ y = cc in same p (ap (λ (z : Connection). process_in z.condition) is ∙ s))) handed

-- a connection's condition stays
same_traced : (m : Machine) (c : ConnNo) (x x' : Connection) → IsTraced m → get m.connections c.0 ≡ Some x → x'.condition ≡ x.condition → IsTraced (with_connection m c x')
same_traced m c x x' traced here same = put_traced m c x x' traced here (λ p s. ap process_in (sym same) ∙ s) (λ h. ap is_fresh same ∙ h)

-- an entry of a request is by the owner of its connection
by_entry : (m : Machine) (c : ConnNo) (r : ReqNo) (e : Entry) → e.who ≡ Request c r → IsOwners m c.0 e e.op → IsByOwner m e
by_entry m c r e who is d q of = let same : c ≡ d = (let k : Request c r ≡ Request d q = sym who ∙ of in cc) in subst (λ (n : ConnNo). IsOwners m n.0 e e.op) same is

-- ---- a connection goes

gone_traced : (m : Machine) (c : ConnNo) (x : Connection) → IsTraced m → IsTraced (gone m c x)
gone_traced m c x traced = end_traced (with_ledger m (take_all_back (ledger_of m) c)) c (process_in x.condition) (all_traced m (ledger_of m) c traced)

drain_traced : (answer : Reply) (m : Machine) (c : ConnNo) (x : Connection) (f : Frame) → IsTraced m → get m.connections c.0 ≡ Some x → IsTraced (drain answer m c x f).1
drain_traced answer m c x f traced here = put_traced (gone m c x) c x (draining x f) (gone_traced m c x traced) here (λ p s. absurd (cc)) (λ h. refl)

close_traced : (m : Machine) (c : ConnNo) (x : Connection) → IsTraced m → get m.connections c.0 ≡ Some x → IsTraced (close m c x).1
close_traced m c x traced here = connection_traced (gone m c x) c.0 x (remove m.connections c.0) None (gone_traced m c x traced) here (gone_changes m.connections c.0) (λ y p e s. absurd (cc)) (λ h. tt)

-- ---- requests

refuse_traced : (m : Machine) (c : ConnNo) (x : Connection) (f : Frame) (why : SpError) (o : Option ℕ) → IsTraced m → get m.connections c.0 ≡ Some x → IsTraced (refuse m c x f why o).1
refuse_traced m c x f why None traced here = traced
refuse_traced m c x f why (Some number) traced here = same_traced m c x _ traced here refl

go_on_traced : (m : Machine) (c : ConnNo) (x : Connection) (f : Frame) (next : OpenCall → OpenCall) (o : Option OpenCall) → IsTraced m → get m.connections c.0 ≡ Some x → IsTraced (go_on m c x f next o).1
go_on_traced m c x f next None traced here = traced
go_on_traced m c x f next (Some task) traced here = same_traced m c x _ traced here refl

-- the process that a connection speaks for from then on
speaks_now : (pid p : Pid) (o : Option ℕ) → o ≡ Some pid.0 → process_in (condition.Live pid) ≡ Some p → o ≡ Some p.0
speaks_now pid p o is s = let same : pid ≡ p = cc in is ∙ ap (λ (q : Pid). Some q.0) same

attach_traced : (m : Machine) (c : ConnNo) (x : Connection) (f : Frame) (next : Option Entry) → IsTraced m → get m.connections c.0 ≡ Some x → is_fresh x.condition ≡ true
    → next_entry m.journal no_process (Request c f.number) op.Attach nothing_read ≡ next → IsTraced (attach m c x f next).1
attach_traced m c x f None traced here fresh h = traced
attach_traced m c x f (Some e) traced here fresh h =
    let pid : Pid = record { 0 = e.outcome.ret0 } in
    let x' = speaking x f pid (hello f.number e.outcome.ret0) in
    let journal = m.journal ++ e ∷ [] in
    let hands = handover.Attached c (record { 0 = length m.journal }) in
    let m' = with_handover m (insert m.connections c.0 x') journal m.cookies hands in
    let n = nexts m.journal no_process (Request c f.number) op.Attach nothing_read e h in
    let own : owner m' c.0 ≡ Some e.outcome.ret0 =
    ap (λ b. cond b (made_at journal (length m.journal)) (owner_by journal m.handovers c.0)) (same_number c.0) ∙ made_last m.journal e in
    receive_traced m c.0 x x' journal (e ∷ []) m.cookies hands traced here fresh refl refl refl
    (λ p s. speaks_now pid p (owner m' c.0) own s)
    (by_entry m' c f.number e (ap (λ (g : Entry). g.who) n.is) (subst (λ (g : Entry). IsOwners m' c.0 g g.op) (sym n.is) own), tt)
    (owes_nothing m hands traced refl refl) refl
    (λ i u at. (at, (λ q. absurd (cc))))

join_traced : (m : Machine) (c : ConnNo) (x : Connection) (f : Frame) (cookie : Cookie) (o : Option Unused) → IsTraced m → get m.connections c.0 ≡ Some x → is_fresh x.condition ≡ true
    → redeemable m.cookies cookie kind.Fork ≡ o → IsTraced (join m c x f cookie o).1
join_traced m c x f cookie None traced here fresh is = traced
join_traced m c x f cookie (Some u) traced here fresh is =
    let x' = speaking x f u.pid (joined f.number u.pid) in
    let k = cookie.number in
    let hands = handover.Joined c cookie.number in
    let cookies = without m.cookies k (Some u) in
    let connections = insert m.connections c.0 x' in
    let m' = with_handover m connections m.journal cookies hands in
    let there = redeemable_is m.cookies cookie kind.Fork u is in
    let made : IsMadeAs m k u kind.Fork = subst (λ (i : CookieKind). IsMadeAs m k u i) there.1 (traced.cookies k u there.0).made in
    let own : owner m' c.0 ≡ Some u.pid.0 =
    ap (λ b. cond b (option_and_then (made_at m.journal) (fork_of m.handovers k)) (owner_by m.journal m.handovers c.0)) (same_number c.0)
    ∙ (ap (λ (place : Option ℕ). option_and_then (made_at m.journal) place) made.1 ∙ made.2) in
    subst (λ (o : Option Unused). IsTraced (with_handover m connections m.journal (without m.cookies k o) hands)) (sym is)
    (receive_traced m c.0 x x' m.journal [] cookies hands traced here fresh refl refl (sym (append-nil m.journal))
    (λ p s. speaks_now u.pid p (owner m' c.0) own s)
    tt
    (uses m hands k u traced there.0 refl refl) refl
    (λ i v at. (let was = left m.cookies k i v at in (was.before, (λ q. was.other (let same : k ≡ i = cc in sym same))))))

-- ---- a process goes on as its next program

imaged_traced : (m : Machine) (c : ConnNo) (x : Connection) (f : Frame) (response : Frame) (cookie : Cookie) (u : Unused) (e : Entry) → IsTraced m → get m.connections c.0 ≡ Some x → is_fresh x.condition ≡ true
    → redeemable m.cookies cookie kind.Exec ≡ Some u → next_entry m.journal u.pid (Request c f.number) op.Exec nothing_read ≡ Some e
    → IsTraced (with_handover m (insert m.connections c.0 (speaking x f u.pid response)) (m.journal ++ e ∷ []) (after m.cookies (Redeem cookie kind.Exec)) (handover.Imaged c cookie.number))
imaged_traced m c x f response cookie u e traced here fresh is h =
    let x' = speaking x f u.pid response in
    let k = cookie.number in
    let hands = handover.Imaged c cookie.number in
    let cookies = without m.cookies k (Some u) in
    let connections = insert m.connections c.0 x' in
    let journal = m.journal ++ e ∷ [] in
    let m' = with_handover m connections journal cookies hands in
    let n = nexts m.journal u.pid (Request c f.number) op.Exec nothing_read e h in
    let there = redeemable_is m.cookies cookie kind.Exec u is in
    let made : IsMadeAs m k u kind.Exec = subst (λ (i : CookieKind). IsMadeAs m k u i) there.1 (traced.cookies k u there.0).made in
    let own : owner m' c.0 ≡ Some u.pid.0 =
    ap (λ b. cond b (option_and_then (owner_by journal m.handovers) (maker_of m.handovers k)) (owner_by journal m.handovers c.0)) (same_number c.0)
    ∙ (ap (λ (maker : Option ℕ). option_and_then (owner_by journal m.handovers) maker) made.0 ∙ owner_front m.journal (e ∷ []) m.handovers u.maker.0 u.pid.0 made.1) in
    subst (λ (o : Option Unused). IsTraced (with_handover m connections journal (without m.cookies k o) hands)) (sym is)
    (receive_traced m c.0 x x' journal (e ∷ []) cookies hands traced here fresh refl refl refl
    (λ p s. speaks_now u.pid p (owner m' c.0) own s)
    (by_entry m' c f.number e (ap (λ (g : Entry). g.who) n.is) (subst (λ (g : Entry). IsOwners m' c.0 g g.op) (sym n.is) own), tt)
    (uses m hands k u traced there.0 refl refl) refl
    (λ i v at. (let was = left m.cookies k i v at in (was.before, (λ q. was.other (let same : k ≡ i = cc in sym same))))))

-- a fresh connection made no exec cookie
not_maker : (m : Machine) (c : ℕ) (x : Connection) (k : ℕ) (u : Unused) → IsTraced m → get m.connections c ≡ Some x → is_fresh x.condition ≡ true
    → get m.cookies.unused k ≡ Some u → u.kind ≡ kind.Exec → c ≢ u.maker.0
not_maker m c x k u traced here fresh there is same =
    let made : IsMadeAs m k u kind.Exec = subst (λ (i : CookieKind). IsMadeAs m k u i) is (traced.cookies k u there).made in
    let none : owner m c ≡ None = unowned m.journal m.handovers c (nothing_yet m c x traced here fresh) in
    let has : owner m c ≡ Some u.pid.0 = subst (λ (n : ℕ). owner m n ≡ Some u.pid.0) (sym same) made.1 in
    let clash : None ≡ Some u.pid.0 = sym none ∙ has in cc

image_done : (m : Machine) (c : ConnNo) (x : Connection) (f : Frame) (response : Frame) (cookie : Cookie) (u : Unused) (e : Entry) (maker : Option Connection) → IsTraced m → get m.connections c.0 ≡ Some x
    → is_fresh x.condition ≡ true → redeemable m.cookies cookie kind.Exec ≡ Some u → next_entry m.journal u.pid (Request c f.number) op.Exec nothing_read ≡ Some e
    → get m.connections u.maker.0 ≡ maker
    → IsTraced (with_connection (left_at (record (redeemed m cookie kind.Exec) { journal = m.journal ++ e ∷ []; handovers = handover.Imaged c cookie.number ∷ m.handovers }) u.maker maker) c (speaking x f u.pid response))
image_done m c x f response cookie u e None traced here fresh is h at = imaged_traced m c x f response cookie u e traced here fresh is h
image_done m c x f response cookie u e (Some y) traced here fresh is h at =
    let there = redeemable_is m.cookies cookie kind.Exec u is in
    let left = put_traced m u.maker y (left_over y) traced at (λ p s. absurd (cc)) (λ h. refl) in
    imaged_traced (with_connection m u.maker (left_over y)) c x f response cookie u e left
    (get_put_other m.connections u.maker.0 (left_over y) c.0 (not_maker m c.0 x cookie.number u traced here fresh there.0 there.1) ∙ here) fresh is h

image_by_traced : (m : Machine) (c : ConnNo) (x : Connection) (f : Frame) (cookie : Cookie) (u : Unused) (next : Option Entry) → IsTraced m → get m.connections c.0 ≡ Some x → is_fresh x.condition ≡ true
    → redeemable m.cookies cookie kind.Exec ≡ Some u → next_entry m.journal u.pid (Request c f.number) op.Exec nothing_read ≡ next → IsTraced (image_by m c x f cookie u next).1
image_by_traced m c x f cookie u None traced here fresh is h = traced
image_by_traced m c x f cookie u (Some e) traced here fresh is h =
    image_done m c x f (imaged f.number u.pid (length m.journal)) cookie u e (get m.connections u.maker.0) traced here fresh is h refl

image_traced : (m : Machine) (c : ConnNo) (x : Connection) (f : Frame) (cookie : Cookie) (o : Option Unused) → IsTraced m → get m.connections c.0 ≡ Some x → is_fresh x.condition ≡ true
    → redeemable m.cookies cookie kind.Exec ≡ o → IsTraced (image m c x f cookie o).1
image_traced m c x f cookie None traced here fresh is = traced
image_traced m c x f cookie (Some u) traced here fresh is = image_by_traced m c x f cookie u (next_entry m.journal u.pid (Request c f.number) op.Exec nothing_read) traced here fresh is refl

-- ---- a process forks, is to go on, or goes on after all

-- an operation of a connection's process is an entry by its owner
request_traced : (m : Machine) (c : ConnNo) (x : Connection) (r : ReqNo) (pid : Pid) (e : Entry) → IsTraced m → get m.connections c.0 ≡ Some x → process_in x.condition ≡ Some pid → e.who ≡ Request c r
    → ((m' : Machine) → owner m' c.0 ≡ Some pid.0 → IsOwners m' c.0 e e.op) → IsTraced (record m { journal = m.journal ++ e ∷ [] })
request_traced m c x r pid e traced here own who is =
    let m' = record m { journal = m.journal ++ e ∷ [] } in
    journal_traced m (e ∷ []) traced (by_entry m' c r e who (is m' (owner_front m.journal (e ∷ []) m.handovers c.0 pid.0 (traced.owners.speaks c.0 x pid here own))), tt)

fork_by_traced : (m : Machine) (c : ConnNo) (x : Connection) (f : Frame) (salt : ℕ) (pid : Pid) (next : Option Entry) → IsTraced m → get m.connections c.0 ≡ Some x → process_in x.condition ≡ Some pid
    → next_entry m.journal pid (Request c f.number) op.Fork nothing_read ≡ next → IsTraced (fork_by m c x f salt next).1
fork_by_traced m c x f salt pid None traced here own h = traced
fork_by_traced m c x f salt pid (Some e) traced here own h =
    let n = nexts m.journal pid (Request c f.number) op.Fork nothing_read e h in
    let k = m.cookies.given + 1 in
    let place = length m.journal in
    let m1 = record m { journal = m.journal ++ e ∷ [] } in
    let u = handing (record { 0 = e.outcome.ret0 }) c salt kind.Fork in
    let hands = handover.Forked k (record { 0 = place }) in
    let m2 = with_handover m1 m1.connections m1.journal (with_next m.cookies u) hands in
    let entered = request_traced m c x f.number pid e traced here own (ap (λ (g : Entry). g.who) n.is)
    (λ m' owns. subst (λ (g : Entry). IsOwners m' c.0 g g.op) (sym n.is) owns) in
    let made = next_traced m1 u hands entered refl refl refl
    (place, ap (λ b. cond b (Some place) (fork_of m.handovers k)) (same_number k), made_last m.journal e) in
    same_traced m2 c x (answered x f (forked f.number (next_cookie m.cookies salt) place (record { 0 = e.outcome.ret0 }))) made here refl

fork_traced : (m : Machine) (c : ConnNo) (x : Connection) (f : Frame) (salt : ℕ) (process : Option Pid) → IsTraced m → get m.connections c.0 ≡ Some x → process_in x.condition ≡ process
    → IsTraced (fork m c x f salt process).1
fork_traced m c x f salt None traced here own = traced
fork_traced m c x f salt (Some pid) traced here own = fork_by_traced m c x f salt pid (next_entry m.journal pid (Request c f.number) op.Fork nothing_read) traced here own refl

still_handed : (s : Condition) (pid : Pid) → process_in s ≡ Some pid → is_fresh s ≡ false
still_handed condition.Fresh pid e = absurd (cc)
still_handed _ pid e = refl

ready_traced : (m : Machine) (c : ConnNo) (x : Connection) (f : Frame) (salt : ℕ) (process : Option Pid) → IsTraced m → get m.connections c.0 ≡ Some x → process_in x.condition ≡ process
    → IsTraced (ready m c x f salt process).1
ready_traced m c x f salt None traced here own = traced
ready_traced m c x f salt (Some pid) traced here own =
    let k = m.cookies.given + 1 in
    let u = handing pid c salt kind.Exec in
    let hands = handover.Readied k c in
    let m1 = with_handover m m.connections m.journal (with_next m.cookies u) hands in
    let made = next_traced m u hands traced refl refl refl
    (ap (λ b. cond b (Some c.0) (maker_of m.handovers k)) (same_number k), traced.owners.speaks c.0 x pid here own) in
    put_traced m1 c x (record (answered x f (exec_ready f.number (next_cookie m.cookies salt))) { condition = condition.InExec pid }) made here
    (λ p s. own ∙ s) (λ h. refl)

cancel_process : (k : CookieKind) (s : Condition) (p : Pid) → process_in (after_cancel k s) ≡ Some p → process_in s ≡ Some p
cancel_process kind.Exec (condition.InExec pid) p e = e
cancel_process _ _ p e = e

cancel_fresh : (k : CookieKind) (s : Condition) → is_fresh s ≡ false → is_fresh (after_cancel k s) ≡ false
cancel_fresh kind.Exec (condition.InExec pid) e = refl
cancel_fresh _ _ e = e

cancel_traced : (m : Machine) (c : ConnNo) (x : Connection) (f : Frame) (cookie : Cookie) (o : Option Unused) → IsTraced m → get m.connections c.0 ≡ Some x
    → cancellable m.cookies cookie c ≡ o → IsTraced (cancel m c x f cookie o).1
cancel_traced m c x f cookie None traced here is = traced
cancel_traced m c x f cookie (Some u) traced here is =
    put_traced (with_ledger m (take_back_by (ledger_of m) c cookie (Some u))) c x _ (back_traced m (ledger_of m) c cookie (Some u) is traced) here
    (λ p s. cancel_process u.kind x.condition p s) (λ h. cancel_fresh u.kind x.condition h)

-- ---- frames

frame_traced : (v : Verdict) (m : Machine) (c : ConnNo) (x : Connection) (f : Frame) (salt : ℕ) → IsTraced m → get m.connections c.0 ≡ Some x → verdict_of (state_after m.journal) m.cookies c x f ≡ v
    → IsTraced (frame_by v m c x f salt).1
frame_traced verdict.Closed m c x f salt traced here is = traced
frame_traced verdict.Malformed m c x f salt traced here is = drain_traced (reply.Refused error.Malformed) m c x (last_error f.number (answered_kind f.body)) traced here
frame_traced (verdict.Refused why) m c x f salt traced here is = refuse_traced m c x f why (answered_kind f.body) traced here
frame_traced verdict.Attach m c x f salt traced here is = attach_traced m c x f (next_entry m.journal no_process (Request c f.number) op.Attach nothing_read) traced here (ap is_fresh (tells (state_after m.journal) m.cookies c x f verdict.Attach is).fresh) refl
frame_traced (verdict.Join cookie) m c x f salt traced here is = join_traced m c x f cookie (redeemable m.cookies cookie kind.Fork) traced here (ap is_fresh (tells (state_after m.journal) m.cookies c x f (verdict.Join cookie) is).fresh) refl
frame_traced (verdict.Image cookie) m c x f salt traced here is = image_traced m c x f cookie (redeemable m.cookies cookie kind.Exec) traced here (ap is_fresh (tells (state_after m.journal) m.cookies c x f (verdict.Image cookie) is).fresh) refl
frame_traced verdict.Fork m c x f salt traced here is = fork_traced m c x f salt (process_in x.condition) traced here refl
frame_traced verdict.Ready m c x f salt traced here is = ready_traced m c x f salt (process_in x.condition) traced here refl
frame_traced (verdict.Cancel cookie) m c x f salt traced here is = cancel_traced m c x f cookie (cancellable m.cookies cookie c) traced here refl
frame_traced (verdict.Task call) m c x f salt traced here is = same_traced m c x _ traced here refl
frame_traced verdict.Copy m c x f salt traced here is = go_on_traced m c x f (λ task. with_copy task (bytes_in f.body)) (get x.calls f.number.0) traced here
frame_traced (verdict.CopyFault why) m c x f salt traced here is = go_on_traced m c x f (λ task. with_error task why) (get x.calls f.number.0) traced here

-- ---- work

performed_traced : (memory : Bool) (m : Machine) (c : ConnNo) (x : Connection) (r : ReqNo) (call : Call) (ins : Ins) (pid : Pid) (next : Option Entry) → IsTraced m → get m.connections c.0 ≡ Some x
    → process_in x.condition ≡ Some pid → next_entry m.journal pid (Request c r) (op.Sys call) ins ≡ next → IsTraced (performed memory m c x r next).1
performed_traced true m c x r call ins pid None traced here own h = traced
performed_traced false m c x r call ins pid None traced here own h = traced
performed_traced true m c x r call ins pid (Some e) traced here own h =
    let n = nexts m.journal pid (Request c r) (op.Sys call) ins e h in
    same_traced (record m { journal = m.journal ++ e ∷ [] }) c x _ (request_traced m c x r pid e traced here own (ap (λ (g : Entry). g.who) n.is)
    (λ m' owns. subst (λ (g : Entry). IsOwners m' c.0 g g.op) (sym n.is) owns)) here refl
performed_traced false m c x r call ins pid (Some e) traced here own h = same_traced m c x _ traced here refl

perform_traced : (memory : Bool) (m : Machine) (c : ConnNo) (x : Connection) (r : ReqNo) (call : Call) (ins : Ins) (process : Option Pid) → IsTraced m → get m.connections c.0 ≡ Some x
    → process_in x.condition ≡ process → IsTraced (perform memory m c x r call ins process).1
perform_traced memory m c x r call ins None traced here own = traced
perform_traced memory m c x r call ins (Some pid) traced here own = performed_traced memory m c x r call ins pid (next_entry m.journal pid (Request c r) (op.Sys call) ins) traced here own refl

-- ---- opening and halting

opened_traced : (m : Machine) (c : ConnNo) → IsTraced m → is_new m.opened c.0 ≡ true → IsTraced (with_connection (record m { opened = Some c.0 }) c fresh_connection)
opened_traced m c traced new =
    let connections = insert m.connections c.0 fresh_connection in
    let changes = put_changes m.connections c.0 fresh_connection in
    let m' = with_connection (record m { opened = Some c.0 }) c fresh_connection in
    let stay : OwnersStay m m' = λ d p h. h in
    record {
      owners = record {
        speaks = λ d z p h s. elim (after_change m.connections connections c.0 d z (Some fresh_connection) changes h) [
          | inl e ↦ absurd (fresh_quiet z p e.1 s)
          | inr o ↦ traced.owners.speaks d z p o.1 s
        ];
        entries = entries_stay m m' stay m.journal traced.owners.entries;
        once = traced.owners.once;
      };
      opened = λ d z h. elim (after_change m.connections connections c.0 d z (Some fresh_connection) changes h) [
        | inl e ↦ (let same = e.0 in omega (arith, same))
        | inr o ↦ (let lt = below_new m.opened c.0 d new (traced.opened d z o.1) in omega arith)
      ];
      received = all_map (λ h. IsReceived m h) (λ h. IsReceived m' h)
          (λ h is d to. (let was = is d to in let lt = below_new m.opened c.0 d new was.0 in
          (omega arith, subst (λ (o : Option Connection). IfSome o IsHanded) (sym (changes.others d (λ e. omega arith))) was.1))) m.handovers traced.received;
      given = traced.given;
      jar = traced.jar;
      cookies = λ n u at. (let was = traced.cookies n u at in record { made = made_stays m m' [] n u u.kind stay (sym (append-nil m.journal)) refl refl was.made; unused = was.unused });
    }

halted_traced : (m : Machine) → IsTraced m → IsTraced (record m { halted = true })
halted_traced m traced =
    let m' = record m { halted = true } in
    let stay : OwnersStay m m' = λ d p h. h in
    record {
      owners = record { speaks = traced.owners.speaks; entries = entries_stay m m' stay m.journal traced.owners.entries; once = traced.owners.once };
      opened = traced.opened;
      received = all_map (λ h. IsReceived m h) (λ h. IsReceived m' h) (λ h is. is) m.handovers traced.received;
      given = traced.given;
      jar = traced.jar;
      cookies = λ n u at. (let was = traced.cookies n u at in record { made = made_stays m m' [] n u u.kind stay (sym (append-nil m.journal)) refl refl was.made; unused = was.unused });
    }

-- ---- every event, every run

traced_leads : (m : Machine) → IsTraced m → Leads m IsTraced
traced_leads m traced = record {
  same = traced;
  opened = λ c new. opened_traced m c traced new;
  halted = halted_traced m traced;
  framed = λ v c x f salt here is. frame_traced v m c x f salt traced here is;
  asked = λ c x r call got need here there. same_traced m c x _ traced here refl;
  given = λ memory c x r call got here there all. perform_traced memory m c x r call (Given got) (process_in x.condition) traced here refl;
  failed = λ memory c x r call why here there. perform_traced memory m c x r call (Fault why) (process_in x.condition) traced here refl;
  taken = λ c x f queue here. same_traced m c x _ traced here refl;
  drained = λ answer c x f here. drain_traced answer m c x f traced here;
  closed = λ c x here. close_traced m c x traced here;
}

plays_traced : (m m' : Machine) (happens : Event) (answer : Reply) → IsTraced m → Plays m happens answer m' → IsTraced m'
plays_traced m m' happens answer traced plays = plays_leads m IsTraced (traced_leads m traced) m' happens answer plays

fresh_traced : (version : Version) → IsTraced (fresh_machine version)
fresh_traced version = record {
  owners = record { speaks = λ c x p h s. absurd (let k : None ≡ Some x = sym (get-empty nat_cmp c) ∙ h in cc); entries = tt; once = tt };
  opened = λ c x h. absurd (let k : None ≡ Some x = sym (get-empty nat_cmp c) ∙ h in cc);
  received = tt;
  given = tt;
  jar = λ n u h. absurd (let k : None ≡ Some u = sym (get-empty nat_cmp n) ∙ h in cc);
  cookies = λ n u h. absurd (let k : None ≡ Some u = sym (get-empty nat_cmp n) ∙ h in cc);
}

-- every run leaves a machine of which this holds
pub runs_traced : (version : Version) (exchanges : List Exchange) (m : Machine) → Runs (fresh_machine version) exchanges m → IsTraced m
runs_traced version exchanges m run = runs_keep IsTraced plays_traced (fresh_machine version) m exchanges (fresh_traced version) run
