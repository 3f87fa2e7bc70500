-- Each handshake and request that hands a process over keeps the machine sound.
use Rattle.std.proofs.Common.{◌≡◌, ◌≢◌, inl, inr, ℕ, ◌<◌, true, false, List, [], ◌∷◌, ◌++◌, length, Option, Some, None, IsSome, refl, sym, ap, subst, ◌∙◌, arith}
use Rattle.std.specs.Prelude.{IsTrue}
use Rattle.std.specs.FinMap.{get, insert, empty_of_len, get-empty}
use Rattle.std.specs.Ordering.{nat_cmp}
use Rattle.sp_base.specs.declared.names.ConnNo.{ConnNo}
use Rattle.sp_base.specs.declared.names.Cookie.{Cookie}
use Rattle.sp_base.specs.declared.names.Pid.{Pid}
use Rattle.sp_frames.specs.declared.frame.Frame.{Frame}
use Rattle.kern_model.specs.declared.journal.Entry.{Entry}
use Rattle.kern_model.specs.declared.journal.Who.TheVariants.{Request}
use Rattle.kern_model.specs.declared.operation.Op.TheVariants as op
use Rattle.kern_model.specs.Journal.{state_after, next_entry}
use Rattle.sp_fork.specs.Jar.{Jar, after, cancellable, redeemable, with_next, without}
use Rattle.sp_fork.specs.Jar.Operation.{Redeem}
use Rattle.sp_fork.specs.declared.unused.CookieKind.{CookieKind}
use Rattle.sp_fork.specs.declared.unused.CookieKind.TheVariants as kind
use Rattle.sp_fork.specs.declared.unused.Unused.{Unused}
use Rattle.hub_model.specs.Cookies.{handing, ledger_of, next_cookie, take_back_by, with_ledger}
use Rattle.hub_model.specs.Frames as frames
use Rattle.hub_model.specs.Journal.{nothing_read}
use Rattle.hub_model.specs.Requests.{after_cancel, answered, cancel, fork, fork_by, image, image_by, join, left_at, left_over, ready, speaking}
use Rattle.hub_model.specs.Sound.{IsInExec, IsWaitingFor, IsCookie, IsSound}
use Rattle.hub_model.specs.State.{Connection, Machine, process_in, is_draining, is_live, with_connection}
use Rattle.hub_model.specs.declared.handover.Handover.TheVariants as handover
use Rattle.hub_model.specs.declared.state.Condition.{Condition}
use Rattle.hub_model.specs.declared.state.Condition.TheVariants.{Fresh, Live, InExec, Left, Draining}
use Rattle.hub_model.specs.declared.state.OpenCall.{OpenCall}
use Rattle.hub_model.proofs.Entries.{Nexts, Made, nexts, exec_live, forked}
use Rattle.hub_model.proofs.Keeps.{IsFree, IsProcess, Keeps, exec_waits, fork_waits, sound_change, unused_free}
use Rattle.hub_model.proofs.Ledgers.{cancellable_is, cancelled_jar, redeemable_is, taken_back}
use Rattle.hub_model.proofs.Offers.{left, noted_sound, offered_sound, used, used_sound}
use Rattle.hub_model.proofs.Steps.{after_lives, fork_keeps, request_adds, speaks_keeps, turns_keeps}
use Rattle.hub_model.proofs.Verdicts.{Cancels, Forks, Readies, TakesOver}
use Rattle.tables.proofs.Maps.{after_change, get_put, get_put_other, put_changes}

-- a connection changes
pub put_sound : (m : Machine) (c : ConnNo) (x x' : Connection) (journal' : List Entry) → IsSound m → get m.connections c.0 ≡ Some x → Keeps m c.0 x journal' (Some x')
    → IsSound (with_connection (record m { journal = journal' }) c x')
put_sound m c x x' journal' sound here keeps = sound_change m c.0 x journal' (insert m.connections c.0 x') (Some x') sound here (put_changes m.connections c.0 x') keeps

-- ---- a cookie is redeemed

-- no other unused cookie hands a cookie's process over
no_other : (m : Machine) (number : ℕ) (u : Unused) → IsSound m → get m.cookies.unused number ≡ Some u
    → (k : ℕ) (v : Unused) → get (used m.cookies number).unused k ≡ Some v → v.pid ≡ u.pid → ⊥
no_other m number u sound here k v h same = let l = left m.cookies number k v h in l.other (sound.apart k number v u l.before here same)

-- the jar without a cookie that can be redeemed
redeemed_jar : (jar : Jar) (cookie : Cookie) (k : CookieKind) (u : Unused) → redeemable jar cookie k ≡ Some u → after jar (Redeem cookie k) ≡ used jar cookie.number
redeemed_jar jar cookie k u e = ap (λ (o : Option Unused). without jar cookie.number o) e

-- a child's handshake
pub join_sound : (m : Machine) (c : ConnNo) (x : Connection) (f : Frame) (cookie : Cookie) (o : Option Unused) → IsSound m → get m.connections c.0 ≡ Some x
    → redeemable m.cookies cookie kind.Fork ≡ o → TakesOver x f.number.0 o → IsSound (join m c x f cookie o).1
join_sound m c x f cookie None sound here e t = sound
join_sound m c x f cookie (Some u) sound here e t =
    let is = redeemable_is m.cookies cookie kind.Fork u e in
    let cookie_is = sound.cookies cookie.number u is.0 in
    let handovers' = handover.Joined c cookie.number ∷ m.handovers in
    let less = record m { cookies = used m.cookies cookie.number } in
    let noted = record less { handovers = handovers' } in
    let less_sound : IsSound less = used_sound m cookie.number u m.journal sound is.0 (inl refl) in
    let noted_is : IsSound noted = noted_sound less handovers' m.halted less_sound in
    let free : IsFree noted u.pid = record {
      unspoken = fork_waits m u u.kind is.1 cookie_is.waits;
      unoffered = no_other m cookie.number u sound is.0;
    } in
    let response = frames.joined f.number u.pid in
    subst (λ (jar : Jar). IsSound (with_connection (record m { cookies = jar; handovers = handovers' }) c (speaking x f u.pid response))) (sym (redeemed_jar m.cookies cookie kind.Fork u e))
    (put_sound noted c x (speaking x f u.pid response) m.journal noted_is here
    (speaks_keeps noted c.0 f.number.0 x u.pid (x.queue ++ response ∷ []) m.journal (sound.each c.0 x here) t.fresh t.later free cookie_is.process (λ q live. live) (inl refl)))

-- ---- a process goes on as its next program

-- the maker of an exec cookie that was redeemed is left
left_sound : (m : Machine) (d : ConnNo) (y : Connection) (pid : Pid) → IsSound m → get m.connections d.0 ≡ Some y → y.condition ≡ InExec pid
    → ((number : ℕ) (v : Unused) → get m.cookies.unused number ≡ Some v → v.pid ≡ pid → ⊥) → IsSound (with_connection m d (left_over y))
left_sound m d y pid sound there in_exec none =
    let is = sound.each d.0 y there in
    put_sound m d y (left_over y) m.journal sound there (turns_keeps m d.0 y (left_over y) is (omega arith) refl
    (λ p speaks. absurd cc)
    (λ number task h waits. absurd (let live : is_live y.condition ≡ true = (is.calls number task h).live waits in let k : false ≡ true = sym (ap is_live in_exec) ∙ live in cc))
    (λ draining. absurd (let k : false ≡ true = sym (ap is_draining in_exec) ∙ draining in cc))
    (λ number v h by exec was. absurd (none number v h (let same : InExec v.pid ≡ InExec pid = sym was ∙ in_exec in let one : v.pid ≡ pid = cc in one))))

module _ (m : Machine) (c : ConnNo) (x : Connection) (f : Frame) (cookie : Cookie) (u : Unused) (e : Entry) (sound : IsSound m) (here : get m.connections c.0 ≡ Some x)
    (found : redeemable m.cookies cookie kind.Exec ≡ Some u) (t : TakesOver x f.number.0 (Some u))
    (next : next_entry m.journal u.pid (Request c f.number) op.Exec nothing_read ≡ Some e) where
  unused_is : (get m.cookies.unused cookie.number ≡ Some u) × (u.kind ≡ kind.Exec)
  unused_is = redeemable_is m.cookies cookie kind.Exec u found

  maker : IsInExec m u.maker u.pid
  maker = exec_waits m u u.kind unused_is.1 (sound.cookies cookie.number u unused_is.0).waits

  speaks_for : process_in maker.0.condition ≡ Some u.pid
  speaks_for = ap process_in maker.2

  -- the maker is another connection
  other : c.0 ≢ u.maker.0
  other same =
      let one : Some x ≡ Some maker.0 = sym here ∙ (ap (λ (n : ℕ). get m.connections n) same ∙ maker.1) in
      let is : x ≡ maker.0 = cc in
      let clash : Fresh ≡ InExec u.pid = sym t.fresh ∙ (ap (λ (y : Connection). y.condition) is ∙ maker.2) in cc

  abbrev less : Machine
  less = record m { cookies = used m.cookies cookie.number }

  abbrev without_maker : Machine
  without_maker = with_connection less u.maker (left_over maker.0)

  without_maker_sound : IsSound without_maker
  without_maker_sound = left_sound less u.maker maker.0 u.pid (used_sound m cookie.number u m.journal sound unused_is.0 (inl refl)) maker.1 maker.2
      (no_other m cookie.number u sound unused_is.0)

  abbrev noted : Machine
  noted = record without_maker { handovers = handover.Imaged c cookie.number ∷ m.handovers }

  noted_is : IsSound noted
  noted_is = noted_sound without_maker (handover.Imaged c cookie.number ∷ m.handovers) m.halted without_maker_sound

  here_still : get noted.connections c.0 ≡ Some x
  here_still = get_put_other m.connections u.maker.0 (left_over maker.0) c.0 other ∙ here

  -- no connection speaks for the process once its maker is left
  unspoken : (d : ℕ) (z : Connection) → get noted.connections d ≡ Some z → process_in z.condition ≡ Some u.pid → ⊥
  unspoken d z h speaks = elim (after_change m.connections noted.connections u.maker.0 d z (Some (left_over maker.0)) (put_changes m.connections u.maker.0 (left_over maker.0)) h) [
    | inl g ↦ (let is : left_over maker.0 ≡ z = (let q = g.1 in cc) in let clash : None ≡ Some u.pid = ap (λ (y : Connection). process_in y.condition) is ∙ speaks in cc)
    | inr o ↦ o.0 (sound.owners d u.maker.0 z maker.0 u.pid o.1 maker.1 speaks speaks_for)
  ]

  free : IsFree noted u.pid
  free = record { unspoken = unspoken; unoffered = no_other m cookie.number u sound unused_is.0 }

  entry_is : Nexts m.journal u.pid (Request c f.number) op.Exec nothing_read e
  entry_is = nexts m.journal u.pid (Request c f.number) op.Exec nothing_read e next

  lives : (q : Pid) → IsProcess m.journal q → IsProcess (m.journal ++ e ∷ []) q
  lives q live = after_lives m.journal u.pid (Request c f.number) op.Exec nothing_read e entry_is q
      (exec_live (state_after m.journal) u.pid.0 nothing_read e.outcome entry_is.next q.0 entry_is.acts live)

  abbrev next_program : Connection
  next_program = speaking x f u.pid (frames.imaged f.number u.pid (length m.journal))

  process_lives : IsProcess m.journal u.pid
  process_lives = (sound.cookies cookie.number u unused_is.0).process

  next_keeps : Keeps noted c.0 x (m.journal ++ e ∷ []) (Some next_program)
  next_keeps = speaks_keeps noted c.0 f.number.0 x u.pid next_program.queue (m.journal ++ e ∷ []) (sound.each c.0 x here) t.fresh t.later free (lives u.pid process_lives) lives
      (inr (request_adds m.journal c f.number x next_program u.pid op.Exec nothing_read e (sound.each c.0 x here) t.later refl refl entry_is process_lives tt))

  -- the machine once the next program's connection speaks, of a jar and a maker
  abbrev over : Jar → Option Connection → Machine
  over jar o = with_connection (left_at (record m {
    journal = m.journal ++ e ∷ [];
    cookies = jar;
    handovers = handover.Imaged c cookie.number ∷ m.handovers;
  }) u.maker o) c next_program

  next_sound : IsSound (over (used m.cookies cookie.number) (Some maker.0))
  next_sound = put_sound noted c x next_program (m.journal ++ e ∷ []) noted_is here_still next_keeps

  imaged_sound : IsSound (image_by m c x f cookie u (Some e)).1
  imaged_sound =
      subst (λ (jar : Jar). IsSound (over jar (get m.connections u.maker.0))) (sym (redeemed_jar m.cookies cookie kind.Exec u found))
      (subst (λ (o : Option Connection). IsSound (over (used m.cookies cookie.number) o)) (sym maker.1) next_sound)

image_by_sound : (m : Machine) (c : ConnNo) (x : Connection) (f : Frame) (cookie : Cookie) (u : Unused) (next : Option Entry) → IsSound m → get m.connections c.0 ≡ Some x
    → redeemable m.cookies cookie kind.Exec ≡ Some u → TakesOver x f.number.0 (Some u) → next_entry m.journal u.pid (Request c f.number) op.Exec nothing_read ≡ next
    → IsSound (image_by m c x f cookie u next).1
image_by_sound m c x f cookie u None sound here found t next = sound
image_by_sound m c x f cookie u (Some e) sound here found t next = imaged_sound m c x f cookie u e sound here found t next

-- the handshake of a process's next program
pub image_sound : (m : Machine) (c : ConnNo) (x : Connection) (f : Frame) (cookie : Cookie) (o : Option Unused) → IsSound m → get m.connections c.0 ≡ Some x
    → redeemable m.cookies cookie kind.Exec ≡ o → TakesOver x f.number.0 o → IsSound (image m c x f cookie o).1
image_sound m c x f cookie None sound here e t = sound
image_sound m c x f cookie (Some u) sound here e t = image_by_sound m c x f cookie u _ sound here e t refl

-- ---- a cookie is made

module _ (m : Machine) (c : ConnNo) (x : Connection) (f : Frame) (salt : ℕ) (pid : Pid) (e : Entry) (sound : IsSound m) (here : get m.connections c.0 ≡ Some x)
    (k : Forks (state_after m.journal) m.cookies x f.number.0) (own : process_in x.condition ≡ Some pid)
    (next : next_entry m.journal pid (Request c f.number) op.Fork nothing_read ≡ Some e) where
  abbrev child : Pid
  child = record { 0 = e.outcome.ret0 }

  abbrev forks : Connection
  forks = answered x f (frames.forked f.number (next_cookie m.cookies salt) (length m.journal) child)

  abbrev with_child : Machine
  with_child = with_connection (record m { journal = m.journal ++ e ∷ [] }) c forks

  fork_entry : Nexts m.journal pid (Request c f.number) op.Fork nothing_read e
  fork_entry = nexts m.journal pid (Request c f.number) op.Fork nothing_read e next

  made_child : Made (state_after m.journal) e.outcome fork_entry.next
  made_child = forked (state_after m.journal) pid.0 k.pid e.outcome fork_entry.next ((sound.each c.0 x here).process pid own) k.lowest fork_entry.acts

  child_free : IsFree m child
  child_free = unused_free m child sound made_child.unused

  child_sound : IsSound with_child
  child_sound = put_sound m c x forks (m.journal ++ e ∷ []) sound here (fork_keeps m c f.number x pid forks.queue e (sound.each c.0 x here) k.later own fork_entry made_child)

  child_unspoken : (d : ℕ) (z : Connection) → get with_child.connections d ≡ Some z → process_in z.condition ≡ Some child → ⊥
  child_unspoken d z h speaks = elim (after_change m.connections with_child.connections c.0 d z (Some forks) (put_changes m.connections c.0 forks) h) [
    | inl g ↦ (let is : forks ≡ z = (let q = g.1 in cc) in child_free.unspoken c.0 x here (ap (λ (y : Connection). process_in y.condition) is ∙ speaks))
    | inr o ↦ child_free.unspoken d z o.1 speaks
  ]

  fork_cookie : IsCookie with_child (handing child c salt kind.Fork)
  fork_cookie = record {
    maker = subst (λ (o : Option Connection). IsSome o) (sym (get_put m.connections c.0 forks)) refl;
    process = after_lives m.journal pid (Request c f.number) op.Fork nothing_read e fork_entry child made_child.made;
    waits = child_unspoken;
  }

  forked_sound : IsSound (fork_by m c x f salt (Some e)).1
  forked_sound = noted_sound (record with_child { cookies = with_next m.cookies (handing child c salt kind.Fork) })
      (handover.Forked (next_cookie m.cookies salt).number (record { 0 = length m.journal }) ∷ m.handovers) m.halted
      (offered_sound with_child (handing child c salt kind.Fork) child_sound k.room fork_cookie child_free.unoffered)

fork_by_sound : (m : Machine) (c : ConnNo) (x : Connection) (f : Frame) (salt : ℕ) (pid : Pid) (next : Option Entry) → IsSound m → get m.connections c.0 ≡ Some x
    → Forks (state_after m.journal) m.cookies x f.number.0 → process_in x.condition ≡ Some pid → next_entry m.journal pid (Request c f.number) op.Fork nothing_read ≡ next
    → IsSound (fork_by m c x f salt next).1
fork_by_sound m c x f salt pid None sound here k own next = sound
fork_by_sound m c x f salt pid (Some e) sound here k own next = forked_sound m c x f salt pid e sound here k own next

-- the process of a connection forks
pub fork_sound : (m : Machine) (c : ConnNo) (x : Connection) (f : Frame) (salt : ℕ) (process : Option Pid) → IsSound m → get m.connections c.0 ≡ Some x
    → Forks (state_after m.journal) m.cookies x f.number.0 → process_in x.condition ≡ process → IsSound (fork m c x f salt process).1
fork_sound m c x f salt None sound here k own = sound
fork_sound m c x f salt (Some pid) sound here k own = fork_by_sound m c x f salt pid _ sound here k own refl

-- a live connection isn't in exec
not_in_exec : (x : Connection) (pid : Pid) → is_live x.condition ≡ true → x.condition ≡ InExec pid → ⊥
not_in_exec x pid live is = let clash : false ≡ true = sym (ap is_live is) ∙ live in cc

module _ (m : Machine) (c : ConnNo) (x : Connection) (f : Frame) (salt : ℕ) (pid : Pid) (sound : IsSound m) (here : get m.connections c.0 ≡ Some x)
    (k : Readies m.cookies x f.number.0) (own : process_in x.condition ≡ Some pid) where
  abbrev readies : Connection
  readies = record (answered x f (frames.exec_ready f.number (next_cookie m.cookies salt))) { condition = InExec pid }

  abbrev in_exec : Machine
  in_exec = with_connection m c readies

  -- no call is open
  no_call : (number : ℕ) (task : OpenCall) → get x.calls number ≡ Some task → ⊥
  no_call number task h = let clash : None ≡ Some task = sym (ap (λ calls. get calls number) (empty_of_len x.calls k.quiet) ∙ get-empty nat_cmp number) ∙ h in cc

  in_exec_sound : IsSound in_exec
  in_exec_sound = put_sound m c x readies m.journal sound here (turns_keeps m c.0 x readies (sound.each c.0 x here) (let l = k.later in omega arith) refl
      (λ p speaks. own ∙ speaks)
      (λ number task h waits. absurd (no_call number task h))
      (λ draining. absurd (draining_lives x.condition k.live draining))
      (λ number u h by exec is. absurd (not_in_exec x u.pid k.live is))) where
        draining_lives : (condition : Condition) → is_live condition ≡ true → is_draining condition ≡ true → ⊥
        draining_lives (Live p) live draining = cc
        draining_lives Fresh live draining = cc
        draining_lives (InExec p) live draining = cc
        draining_lives Left live draining = cc
        draining_lives Draining live draining = cc

  exec_cookie : IsCookie in_exec (handing pid c salt kind.Exec)
  exec_cookie = record {
    maker = subst (λ (o : Option Connection). IsSome o) (sym (get_put m.connections c.0 readies)) refl;
    process = (sound.each c.0 x here).process pid own;
    waits = (readies, get_put m.connections c.0 readies, refl);
  }

  -- no unused cookie hands the process of a live connection over
  not_offered : (number : ℕ) (v : Unused) → get m.cookies.unused number ≡ Some v → v.pid ≡ pid → ⊥
  not_offered number v h same = by_kind v.kind refl (sound.cookies number v h).waits where
    speaks : process_in x.condition ≡ Some v.pid
    speaks = own ∙ ap (λ (p : Pid). Some p) (sym same)

    by_kind : (j : CookieKind) → v.kind ≡ j → IsWaitingFor m v v.kind → ⊥
    by_kind kind.Fork is waits = fork_waits m v v.kind is waits c.0 x here speaks
    by_kind kind.Exec is waits =
        let w = exec_waits m v v.kind is waits in
        let at_c : v.maker.0 ≡ c.0 = sound.owners v.maker.0 c.0 w.0 x v.pid w.1 here (ap process_in w.2) speaks in
        let one : Some x ≡ Some w.0 = sym here ∙ (ap (λ (n : ℕ). get m.connections n) (sym at_c) ∙ w.1) in
        let it : x ≡ w.0 = cc in not_in_exec x v.pid k.live (ap (λ (y : Connection). y.condition) it ∙ w.2)

  readied_sound : IsSound (ready m c x f salt (Some pid)).1
  readied_sound = noted_sound (record in_exec { cookies = with_next m.cookies (handing pid c salt kind.Exec) })
      (handover.Readied (next_cookie m.cookies salt).number c ∷ m.handovers) m.halted
      (offered_sound in_exec (handing pid c salt kind.Exec) in_exec_sound k.room exec_cookie not_offered)

-- a process is to go on as its next program
pub ready_sound : (m : Machine) (c : ConnNo) (x : Connection) (f : Frame) (salt : ℕ) (process : Option Pid) → IsSound m → get m.connections c.0 ≡ Some x
    → Readies m.cookies x f.number.0 → process_in x.condition ≡ process → IsSound (ready m c x f salt process).1
ready_sound m c x f salt None sound here k own = sound
ready_sound m c x f salt (Some pid) sound here k own = readied_sound m c x f salt pid sound here k own

-- ---- a cookie is cancelled

-- the connection speaks for the same process after one of its cookies was taken back
cancel_speaks : (k : CookieKind) (condition : Condition) → process_in (after_cancel k condition) ≡ process_in condition
cancel_speaks kind.Fork condition = refl
cancel_speaks kind.Exec Fresh = refl
cancel_speaks kind.Exec (Live pid) = refl
cancel_speaks kind.Exec (InExec pid) = refl
cancel_speaks kind.Exec Left = refl
cancel_speaks kind.Exec Draining = refl

cancel_lives : (k : CookieKind) (condition : Condition) → IsTrue (is_live condition) → IsTrue (is_live (after_cancel k condition))
cancel_lives kind.Fork condition live = live
cancel_lives kind.Exec (Live pid) live = live
cancel_lives kind.Exec (InExec pid) live = refl
cancel_lives kind.Exec Fresh live = live
cancel_lives kind.Exec Left live = live
cancel_lives kind.Exec Draining live = live

cancel_drains : (k : CookieKind) (condition : Condition) → IsTrue (is_draining condition) → IsTrue (is_draining (after_cancel k condition))
cancel_drains kind.Fork condition draining = draining
cancel_drains kind.Exec (Live pid) draining = draining
cancel_drains kind.Exec (InExec pid) draining = absurd cc
cancel_drains kind.Exec Fresh draining = draining
cancel_drains kind.Exec Left draining = draining
cancel_drains kind.Exec Draining draining = draining

module _ (m : Machine) (c : ConnNo) (x : Connection) (f : Frame) (cookie : Cookie) (u : Unused) (sound : IsSound m) (here : get m.connections c.0 ≡ Some x)
    (found : cancellable m.cookies cookie c ≡ Some u) (later : x.last < f.number.0) where
  abbrev without_cookie : Machine
  without_cookie = with_ledger m (take_back_by (ledger_of m) c cookie (Some u))

  abbrev goes : Connection
  goes = record (answered x f (frames.cancelled f.number)) { condition = after_cancel u.kind x.condition }

  without_cookie_sound : IsSound without_cookie
  without_cookie_sound = taken_back m c cookie (Some u) sound found

  made_it : (get m.cookies.unused cookie.number ≡ Some u) × (u.maker.0 ≡ c.0)
  made_it = cancellable_is m.cookies cookie c u found

  -- where the cookie is an exec cookie, the connection waits for its process
  waits_for_it : u.kind ≡ kind.Exec → x.condition ≡ InExec u.pid
  waits_for_it is =
      let w = exec_waits m u u.kind is (sound.cookies cookie.number u made_it.0).waits in
      let one : Some x ≡ Some w.0 = sym here ∙ (ap (λ (n : ℕ). get m.connections n) (sym made_it.1) ∙ w.1) in
      let it : x ≡ w.0 = cc in ap (λ (y : Connection). y.condition) it ∙ w.2

  -- no other exec cookie is for its process
  no_second : (number : ℕ) (v : Unused) → get without_cookie.cookies.unused number ≡ Some v → u.kind ≡ kind.Exec → x.condition ≡ InExec v.pid → ⊥
  no_second number v h is waits =
      let there : get (used m.cookies cookie.number).unused number ≡ Some v = subst (λ (jar : Jar). get jar.unused number ≡ Some v) (cancelled_jar m.cookies cookie c u found) h in
      let same : InExec v.pid ≡ InExec u.pid = sym waits ∙ waits_for_it is in
      no_other m cookie.number u sound made_it.0 number v there (let one : v.pid ≡ u.pid = cc in one)

  waits_on : (j : CookieKind) → u.kind ≡ j → (number : ℕ) (v : Unused) → get without_cookie.cookies.unused number ≡ Some v → x.condition ≡ InExec v.pid
      → after_cancel j x.condition ≡ InExec v.pid
  waits_on kind.Fork is number v h waits = waits
  waits_on kind.Exec is number v h waits = absurd (no_second number v h is waits)

  cancelled_sound : IsSound (cancel m c x f cookie (Some u)).1
  cancelled_sound =
      let live = (without_cookie_sound.each c.0 x here) in
      put_sound without_cookie c x goes without_cookie.journal without_cookie_sound here
      (turns_keeps without_cookie c.0 x goes live (let l = later in omega arith) refl
      (λ p speaks. sym (cancel_speaks u.kind x.condition) ∙ speaks)
      (λ number task h waits. cancel_lives u.kind x.condition ((live.calls number task h).live waits))
      (cancel_drains u.kind x.condition)
      (λ number v h by exec waits. waits_on u.kind refl number v h waits))

-- a cookie is taken back
pub cancel_sound : (m : Machine) (c : ConnNo) (x : Connection) (f : Frame) (cookie : Cookie) (o : Option Unused) → IsSound m → get m.connections c.0 ≡ Some x
    → cancellable m.cookies cookie c ≡ o → Cancels x f.number.0 o → IsSound (cancel m c x f cookie o).1
cancel_sound m c x f cookie None sound here e k = sound
cancel_sound m c x f cookie (Some u) sound here e k = cancelled_sound m c x f cookie u sound here e k.later
