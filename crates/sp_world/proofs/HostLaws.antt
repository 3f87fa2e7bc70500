-- What the host's kernel reads, tells apart and performs.
use Rattle.std.specs.Prelude.{IsSome, IsTrue, IfSome, OnOk, is_err, is_some, ◌↔◌, ◌≤◌}
use Rattle.std.specs.Ordering.{nat_cmp, eq_by_cmp}
use Rattle.std.specs.Cmp.{nat_cmp_total}
use Rattle.std.specs.FinMap.{FinMap, get, insert, remove, get-insert, get-remove, same_map, nat_cmp-IsAntisymmetric}
use Rattle.std.proofs.Common.{◌≡◌, ◌⊎◌, inl, inr, ℕ, ◌+◌, ◌<◌, ◌&&◌, ◌==◌, nat_eq, cond, Bool, true, false, List, [], ◌∷◌, ◌++◌, length, Option, Some, None, Result, Ok, Err, refl, sym, ap, subst, ◌∙◌, arith}
use Rattle.std.proofs.lemmas.Bool.Decides.{nat_tests}
use Rattle.std.proofs.lemmas.Grind.{common_steps}
use Rattle.std.proofs.lemmas.List.{length_push}
use Rattle.tables.proofs.Entries.{back}
use lib.Pointwise.{pointwise}
use Rattle.sp_base.specs.Kept.{Room}
use Rattle.sp_base.specs.declared.call.Call.{Call}
use Rattle.sp_base.specs.declared.errno.Errno.{Errno}
use Rattle.sp_base.specs.declared.errno.Errno.TheVariants.{Efault, Enametoolong}
use Rattle.sp_base.specs.declared.names.Caller.{Caller}
use Rattle.sp_base.specs.declared.names.Pid.{Pid}
use Rattle.sp_copy.specs.Gathering.{fault_errno, gather}
use Rattle.sp_copy.specs.declared.fault.CopyFault.{CopyFault}
use Rattle.sp_copy.specs.declared.fault.CopyFault.TheVariants as copy_fault
use Rattle.sp_copy.specs.declared.part.Part.{Part}
use Rattle.kern_model.specs.Act.{act}
use Rattle.kern_model.specs.Journal.{entry_of_step, next_entry, state_after}
use Rattle.kern_model.specs.Needs.{FitsIns}
use Rattle.kern_model.specs.Step.{Step}
use Rattle.kern_model.specs.declared.journal.Entry.{Entry}
use Rattle.kern_model.specs.declared.journal.Who.{Who}
use Rattle.kern_model.specs.declared.journal.Who.TheVariants.{Host}
use Rattle.kern_model.specs.declared.operation.Ins.{Ins}
use Rattle.kern_model.specs.declared.operation.Ins.TheVariants as ins
use Rattle.kern_model.specs.declared.operation.Op.{Op}
use Rattle.kern_model.specs.declared.operation.Op.TheVariants.{Sys, Attach, Fork, Exec, Exit}
use Rattle.kern_calls.specs.Kernel as kernel
use Rattle.kern_calls.specs.Kernel.{process_of}
use Rattle.link_model.specs.Direct.{ins_of, reads}
use Rattle.world_model.specs.Host.{count_in, host_by, host_entry, host_if, is_ready, may_ask, next_host, performer, read_for, same_words}
use Rattle.world_model.specs.State.{World}
use Rattle.world_model.specs.declared.event.Event.TheVariants as event
use Rattle.world_model.specs.declared.event.Reply.{Reply}
use Rattle.world_model.specs.declared.event.Reply.TheVariants as reply
use Rattle.world_model.specs.declared.host.HostCall.{HostCall}
use Rattle.world_model.proofs.HostReads.{read_fits_op}
use Rattle.sp_world.specs.Happens.{Gives, Happens}
use Rattle.sp_world.specs.Hosting.{Performs, Sees, Waits}

-- ---- what is read

-- what is read of the caller's memory fits
pub fits_read : (op : Op) (mem : List Part) (i : Ins) → i ≡ read_for op mem → FitsIns op i
fits_read op mem i is = subst (λ (j : Ins). FitsIns op j) (sym is) (read_fits_op op mem)

fault_of : (why : CopyFault) (error : Errno) → Some error ≡ fault_errno why → ins_of (Err why) ≡ ins.Fault error
fault_of copy_fault.Fault error is = let same : error ≡ Efault = cc in ap ins.Fault (sym same)
fault_of copy_fault.NoEnd error is = let same : error ≡ Enametoolong = cc in ap ins.Fault (sym same)
fault_of copy_fault.NoMemory error is = absurd (cc)

-- a fault that isn't want of memory is what the call reads
pub fault_read : (call : Call) (mem : List Part) (why : CopyFault) (error : Errno) → (why ≡ copy_fault.NoMemory) ⊎ (gather call mem ≡ Err why)
    → Some error ≡ fault_errno why → ins.Fault error ≡ reads call mem
fault_read call mem why error (inl none) is = absurd (let e : Some error ≡ None = is ∙ ap fault_errno none in cc)
fault_read call mem why error (inr e) is = sym (ap ins_of e ∙ fault_of why error is)

-- ---- what is told apart

-- the slices of words are compared as the definition does
pub words_same : (xs ys : List ℕ) → pointwise nat_eq xs ys ≡ same_words xs ys
words_same [] [] = refl
words_same [] (y ∷ ys) = refl
words_same (x ∷ xs) [] = refl
words_same (x ∷ xs) (y ∷ ys) = ap (λ b. (x == y) && b) (words_same xs ys)

-- ---- who performs

same_bool : (a b : Bool) → (IsTrue a ↔ IsTrue b) → a ≡ b
same_bool true true same = refl
same_bool true false same = sym (same.0 refl)
same_bool false true same = same.1 refl
same_bool false false same = refl

-- the kernel and the definition have the same process perform an operation
pub performer_is : (op : Op) (pid : Pid) → process_of op pid ≡ performer pid op
performer_is (Sys call) pid = refl
performer_is Attach pid = refl
performer_is Fork pid = refl
performer_is Exec pid = refl
performer_is Exit pid = refl

-- ---- which operations are ready

step_entry : (pid : Pid) (who : Who) (op : Op) (i : Ins) (step : Step) → is_some (entry_of_step pid who op i step) ≡ is_some step
step_entry pid who op i None = refl
step_entry pid who op i (Some step) = refl

-- an operation is ready where it gets an entry
pub ready_entry : (journal : List Entry) (pid : Pid) (who : Who) (op : Op) (i : Ins)
    → is_some (next_entry journal (performer pid op) who op i) ≡ is_some (act (state_after journal) (process_of op pid).0 op i)
ready_entry journal pid who op i =
    step_entry (performer pid op) who op i (act (state_after journal) (performer pid op).0 op i)
    ∙ ap (λ (p : Pid). is_some (act (state_after journal) p.0 op i)) (sym (performer_is op pid))

-- a host call could be performed where its process may ask, and the kernel is ready
pub ready_is : (w : World) (call : HostCall) (asks ready : Bool) → asks ≡ may_ask w call.pid call.op
    → (IsTrue ready ↔ IsSome (act (state_after w.host) (process_of call.op call.pid).0 call.op call.ins)) → (asks && ready) ≡ is_ready w call
ready_is w call asks ready may same =
    ap (λ b. b && ready) may
    ∙ ap (λ b. may_ask w call.pid call.op && b) (same_bool ready (is_some (act (state_after w.host) (process_of call.op call.pid).0 call.op call.ins)) same
    ∙ sym (ready_entry w.host call.pid (next_host w call.guest) call.op call.ins))

-- ---- counts

-- the count that a guest had is within what all have
pub count_within : (most guest : ℕ) (counts : FinMap nat_cmp ℕ) (last : Option ℕ) → last ≡ get counts guest
    → ((g count : ℕ) → get counts g ≡ Some count → count ≤ most) → IfSome last (λ count. count ≤ most)
count_within most guest counts None is within = tt
count_within most guest counts (Some count) is within = within guest count (sym is)

-- the count that a guest had before stands again
pub count_back : (counts now : FinMap nat_cmp ℕ) (guest count before : ℕ) → get counts guest ≡ Some before → now ≡ insert counts guest count
    → insert now guest before ≡ counts
count_back counts now guest count before had is = back counts now guest count before is had

equal_by_cmp : (q k : ℕ) → eq_by_cmp nat_cmp q k ≡ true → q ≡ k
equal_by_cmp q k e = grind (arith, nat_tests, common_steps)

none_again : (b : Bool) (v : ℕ) (o : Option ℕ) → (b ≡ true → o ≡ None) → cond b None (cond b (Some v) o) ≡ o
none_again true v o h = sym (h refl)
none_again false v o h = refl

-- a guest that had no count has none again
pub count_gone : (counts now : FinMap nat_cmp ℕ) (guest count : ℕ) → get counts guest ≡ None → now ≡ insert counts guest count → remove now guest ≡ counts
count_gone counts now guest count none is = same_map nat_cmp_total nat_cmp-IsAntisymmetric _ _ (λ q.
    get-remove nat_cmp_total now guest q
    ∙ ap (λ (m : FinMap nat_cmp ℕ). cond (eq_by_cmp nat_cmp q guest) None (get m q)) is
    ∙ ap (λ (o : Option ℕ). cond (eq_by_cmp nat_cmp q guest) None o) (get-insert nat_cmp_total counts guest count q)
    ∙ none_again (eq_by_cmp nat_cmp q guest) count (get counts q) (λ t. ap (λ (x : ℕ). get counts x) (equal_by_cmp q guest t) ∙ none))

-- ---- what is performed

-- what holds where a change was made holds, as no memory was refused
pub done : {T E : Type 0} {P : Type 0} (r : Result T E) → OnOk r P → is_err r ≡ false → P
done (Ok x) holds made = holds
done (Err e) holds made = absurd (cc)

-- a journal that grew by an entry has one
pub some_entry : (journal old : List Entry) (e : Entry) → journal ≡ old ++ e ∷ [] → 0 < length journal
some_entry journal old e is = omega (arith, ap (λ (es : List Entry). length es) is, length_push old e)

entry_by : (pid : Pid) (who : Who) (op : Op) (i : Ins) (step : Step) → is_some step ≡ true → (e : Entry) × (entry_of_step pid who op i step ≡ Some e)
entry_by pid who op i None some = absurd (let f : false ≡ true = some in cc)
entry_by pid who op i (Some step) some = (record { pid = pid; who = who; op = op; ins = i; outcome = step.0 }, refl)

none_by : (pid : Pid) (who : Who) (op : Op) (i : Ins) (step : Step) → is_some step ≡ false → entry_of_step pid who op i step ≡ None
none_by pid who op i None none = refl
none_by pid who op i (Some step) none = absurd (let f : true ≡ false = none in cc)

op_by : (pid : Pid) (who : Who) (op : Op) (i : Ins) (step : Step) (e : Entry) → entry_of_step pid who op i step ≡ Some e → e.op ≡ op
op_by pid who op i None e is = absurd (cc)
op_by pid who op i (Some step) e is =
    let same : record { pid = pid; who = who; op = op; ins = i; outcome = step.0 } ≡ e = cc in ap (λ (x : Entry). x.op) (sym same)

-- an entry is of the operation that was performed
pub op_of : (journal : List Entry) (pid : Pid) (who : Who) (op : Op) (i : Ins) (e : Entry) → next_entry journal pid who op i ≡ Some e → e.op ≡ op
op_of journal pid who op i e is = op_by pid who op i (act (state_after journal) pid.0 op i) e is

-- what the kernel performed is the entry that the definition gives
pub performed_is : (w : World) (old new : Room Entry) (call : HostCall) (count place : ℕ) (e : Entry) → w.host ≡ old.items → count ≡ count_in (get w.counts call.guest) + 1
    → kernel.Performs old call.pid (Host call.guest count) call.op call.ins place new
    → next_entry w.host (performer call.pid call.op) (next_host w call.guest) call.op call.ins ≡ Some e
    → new.items ≡ w.host ++ e ∷ []
performed_is w old new call count place e same counted performs is =
    let first : next_entry old.items (process_of call.op call.pid) (Host call.guest count) call.op call.ins
    ≡ next_entry w.host (performer call.pid call.op) (next_host w call.guest) call.op call.ins =
    ap (λ (es : List Entry). next_entry es (process_of call.op call.pid) (Host call.guest count) call.op call.ins) (sym same)
    ∙ ap (λ (p : Pid). next_entry w.host p (Host call.guest count) call.op call.ins) (performer_is call.op call.pid)
    ∙ ap (λ n. next_entry w.host (performer call.pid call.op) (Host call.guest n) call.op call.ins) counted in
    let both : Some performs.entry ≡ Some e = sym performs.is ∙ first ∙ is in
    let one : performs.entry ≡ e = cc in
    performs.items ∙ ap (λ (es : List Entry). es ++ performs.entry ∷ []) (sym same) ∙ ap (λ (x : Entry). w.host ++ x ∷ []) one

-- an entry was put in the world, and is seen: so the call was performed
pub seen_performed : (old mid new : World) (call : HostCall) (count place : ℕ) (e : Entry) (mem : List Part) (answer : Reply)
    → count ≡ count_in (get old.counts call.guest) + 1
    → mid ≡ record old { host = old.host ++ e ∷ []; counts = insert old.counts call.guest count }
    → place ≡ length old.host → e.op ≡ call.op
    → Sees mid call.guest call.caller place e mem answer new → Performs old call e mem answer new
seen_performed old mid new call count place e mem answer counted is last same sees = inl (sees ∙ rw (is, last, same, counted) refl)

-- what the kernel performed for a guest, with its count put, is seen: so the call was performed
pub all_performed : (old mid new : World) (room room' : Room Entry) (call : HostCall) (count place : ℕ) (mem : List Part) (answer : Reply)
    → old.host ≡ room.items → count ≡ count_in (get old.counts call.guest) + 1
    → kernel.Performs room call.pid (Host call.guest count) call.op call.ins place room'
    → mid ≡ record old { host = room'.items; counts = insert old.counts call.guest count }
    → ((entries : List Entry) (e : Entry) → mid.host ≡ entries ++ e ∷ [] → Sees mid call.guest call.caller place e mem answer new)
    → (e : Entry) → next_entry old.host (performer call.pid call.op) (next_host old call.guest) call.op call.ins ≡ Some e
    → Performs old call e mem answer new
all_performed old mid new room room' call count place mem answer same counted performs put sees e is =
    let items : room'.items ≡ old.host ++ e ∷ [] = performed_is old room room' call count place e same counted performs is in
    let here : mid ≡ record old { host = old.host ++ e ∷ []; counts = insert old.counts call.guest count } =
    put ∙ ap (λ (es : List Entry). record old { host = es; counts = insert old.counts call.guest count }) items in
    let last : place ≡ length old.host = performs.last ∙ ap (λ (es : List Entry). length es) (sym same) in
    seen_performed old mid new call count place e mem answer counted here last
    (op_of old.host (performer call.pid call.op) (next_host old call.guest) call.op call.ins e is)
    (sees old.host e (ap (λ (w : World). w.host) here))

-- ---- the event

-- a process that isn't live isn't performed for
pub host_closed : (w : World) (guest : ℕ) (caller : Caller) (pid : Pid) (op : Op) (mem : List Part) → may_ask w pid op ≡ false
    → Happens w (event.Host guest caller pid op mem) reply.Closed w
host_closed w guest caller pid op mem not_live =
    subst (λ (b : Bool). Gives w (host_if w guest caller pid op mem b) reply.Closed w) (sym not_live) (inl refl)

-- an operation for which the kernel is ready is performed
pub host_performs : (w w' : World) (guest : ℕ) (caller : Caller) (pid : Pid) (op : Op) (i : Ins) (mem : List Part) (answer : Reply)
    → may_ask w pid op ≡ true → i ≡ read_for op mem → IsSome (act (state_after w.host) (process_of op pid).0 op i)
    → ((e : Entry) → next_entry w.host (performer pid op) (next_host w guest) op i ≡ Some e
    → Performs w (record { guest = guest; caller = caller; pid = pid; op = op; ins = i }) e mem answer w')
    → Happens w (event.Host guest caller pid op mem) answer w'
host_performs w w' guest caller pid op i mem answer asks read ready performs =
    let step = act (state_after w.host) (performer pid op).0 op i in
    let some : is_some step ≡ true = subst (λ (p : Pid). is_some (act (state_after w.host) p.0 op i) ≡ true) (performer_is op pid) ready in
    let entry = entry_by (performer pid op) (next_host w guest) op i step some in
    let found : host_entry w guest pid op (read_for op mem) ≡ Some entry.0 = ap (λ (j : Ins). host_entry w guest pid op j) (sym read) ∙ entry.1 in
    subst (λ (b : Bool). Gives w (host_if w guest caller pid op mem b) answer w') (sym asks)
    (subst (λ (o : Option Entry). Gives w (host_by w guest caller pid op mem o) answer w') (sym found) (performs entry.0 entry.1))

-- an operation for which the kernel isn't ready waits
pub host_waits : (w w' : World) (guest : ℕ) (caller : Caller) (pid : Pid) (op : Op) (i : Ins) (mem : List Part) (answer : Reply) (ready : Bool)
    → may_ask w pid op ≡ true → i ≡ read_for op mem → (IsTrue ready ↔ IsSome (act (state_after w.host) (process_of op pid).0 op i)) → ready ≡ false
    → Waits w (record { guest = guest; caller = caller; pid = pid; op = op; ins = i }) mem answer w'
    → Happens w (event.Host guest caller pid op mem) answer w'
host_waits w w' guest caller pid op i mem answer ready asks read same fails waits =
    let step = act (state_after w.host) (performer pid op).0 op i in
    let none : is_some step ≡ false =
    ap (λ (p : Pid). is_some (act (state_after w.host) p.0 op i)) (sym (performer_is op pid))
    ∙ sym (same_bool ready (is_some (act (state_after w.host) (process_of op pid).0 op i)) same) ∙ fails in
    let found : host_entry w guest pid op (read_for op mem) ≡ None =
    ap (λ (j : Ins). host_entry w guest pid op j) (sym read) ∙ none_by (performer pid op) (next_host w guest) op i step none in
    subst (λ (b : Bool). Gives w (host_if w guest caller pid op mem b) answer w') (sym asks)
    (subst (λ (o : Option Entry). Gives w (host_by w guest caller pid op mem o) answer w') (sym found)
    (subst (λ (j : Ins). Waits w (record { guest = guest; caller = caller; pid = pid; op = op; ins = j }) mem answer w') read waits))
