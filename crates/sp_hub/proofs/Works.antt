-- The laws of a call that has all that it reads.
use Rattle.std.specs.Prelude.{◌↔◌, IsTrue, is_some, count_by, map, slice_get, if◌then◌else◌}
use Rattle.std.specs.Ordering.{nat_cmp}
use Rattle.std.specs.FinMap.{FinMap, get, insert}
use Rattle.std.proofs.Common.{◌≡◌, ℕ, ◌+◌, ◌-◌, ◌≤◌, Bool, true, false, List, length, Option, Some, None, IsSome, refl, sym, ap, subst, ◌∙◌, arith}
use Rattle.sp_base.specs.Kept.{Room}
use Rattle.sp_base.specs.Table.{at}
use Rattle.sp_base.specs.declared.call.Call.{Call}
use Rattle.sp_base.specs.declared.names.ConnNo.{ConnNo}
use Rattle.sp_base.specs.declared.names.Pid.{Pid}
use Rattle.sp_base.specs.declared.names.ReqNo.{ReqNo}
use Rattle.sp_base.proofs.CountLaws.{one_if}
use Rattle.kern_model.specs.Act.{act}
use Rattle.kern_model.specs.Journal.{state_after, next_entry, entry_of_step}
use Rattle.kern_model.specs.State.{State}
use Rattle.kern_model.specs.Step.{Step}
use Rattle.kern_model.specs.declared.journal.Entry.{Entry}
use Rattle.kern_model.specs.declared.journal.Who.{Who}
use Rattle.kern_model.specs.declared.journal.Who.TheVariants.{Request}
use Rattle.kern_model.specs.declared.operation.Ins.{Ins}
use Rattle.kern_model.specs.declared.operation.Ins.TheVariants.{Given, Fault}
use Rattle.kern_model.specs.declared.operation.Op.{Op}
use Rattle.kern_model.specs.declared.operation.Op.TheVariants.{Sys}
use Rattle.kern_model.proofs.Lemmas.{call_keeps}
use Rattle.kern_calls.specs.Kernel as kernel
use Rattle.kern_calls.specs.Kernel.{process_of, spare_after, is_steady}
use Rattle.hub_model.specs.Sound.{is_waiting}
use Rattle.hub_model.specs.State.{Connection}
use Rattle.hub_model.specs.declared.state.OpenCall.TheVariants.{Answers}
use Rattle.hub_model.specs.declared.state.OpenCall.{OpenCall}
use Rattle.hub_model.proofs.Entries.{nexts, count_changed}
use Rattle.sp_hub.specs.declared.gathered.Gathered.{Gathered}
use Rattle.sp_hub.specs.Outs.{HaveRooms}
use Rattle.sp_hub.specs.Room.{HasErrorRoom, HasExitRoom}
use Rattle.sp_hub.specs.Work.{waiting, HasAll, IsGathered, outs, next_of, FitsEnd, Appends}
use Rattle.sp_hub.proofs.Handshakes.{get_last}
use Rattle.sp_hub.proofs.RoomLaws.{room_answered, room_more}
use Rattle.sp_hub.proofs.Outs.{outs_have_rooms}

-- a step gives an entry
step_entry : (pid : Pid) (who : Who) (op : Op) (ins : Ins) (step : Step) → is_some step ≡ is_some (entry_of_step pid who op ins step)
step_entry pid who op ins None = refl
step_entry pid who op ins (Some step) = refl

-- a call is performed for the process that asks
same_process : (op : Op) (pid : Pid) (call : Call) → op ≡ Sys call → process_of op pid ≡ pid
same_process op pid call e = ap (λ (o : Op). process_of o pid) e

-- a gathered call is ready exactly where it gets an entry
pub ready : (journal : List Entry) (g : Gathered) → FitsEnd journal g → is_some (act (state_after journal) (process_of g.op g.pid).0 g.op g.ins) ≡ is_some (next_of journal g)
ready journal g fits =
    ap (λ (p : Pid). is_some (act (state_after journal) p.0 g.op g.ins)) (same_process g.op g.pid fits.call fits.is)
    ∙ step_entry g.pid (Request g.no g.number) g.op g.ins (act (state_after journal) g.pid.0 g.op g.ins)

-- an open call that has all it reads fits the end of a journal once it is gathered
pub fits_end : (journal : List Entry) (task : OpenCall) (pid : Pid) (c : ConnNo) (r : ReqNo) (g : Gathered) → HasAll task → IsSome (at (state_after journal).processes pid.0) → IsGathered task pid c r g → FitsEnd journal g
fits_end journal task pid c r g all live is = rw (is all.call all.ins all.is) (record { call = all.call; is = refl; live = live; ins = all.fits })

-- a call that waits to be performed waits
pub waiting_waits : (call : Call) (ins : Ins) → IsTrue (is_waiting (waiting call ins))
waiting_waits call (Given got) = refl
waiting_waits call (Fault why) = refl

-- the call of a number is the one that was taken out of its table
pub taken : (x y : Connection) (n : ℕ) (task : OpenCall) → y ≡ x → Some task ≡ get y.calls n → get x.calls n ≡ Some task
taken x y n task same e = ap (λ (z : Connection). get z.calls n) (sym same) ∙ sym e

-- a gathered call that isn't ready gets no entry
pub no_entry : {X : Type 0} (ready : Bool) (next : Option X) → (IsTrue ready ↔ IsSome next) → ready ≡ false → next ≡ None
no_entry ready None is not = refl
no_entry ready (Some e) is not = absurd (let f : false ≡ true = sym not ∙ is.1 refl in cc)

-- a call that is performed, or refused, gives back the room for its error
pub room_after : (calls : FinMap nat_cmp OpenCall) (n spare left : ℕ) (task : OpenCall) → HasAll task → Some task ≡ get calls n → HasErrorRoom calls spare → left + 1 ≡ spare → HasErrorRoom (insert calls n Answers) left
room_after calls n spare left task all there room less =
    let waits = subst (λ (t : OpenCall). IsTrue (is_waiting t)) (sym all.is) (waiting_waits all.call all.ins) in
    let answered = room_answered calls n task Answers spare (sym there) waits refl room in
    room_more (insert calls n Answers) (spare - 1) left answered.1 (omega arith)

-- what the kernel performs is the entry that the gathered call gets
own_entry : (old new : Room Entry) (g : Gathered) (place : ℕ) → FitsEnd old.items g → (does : kernel.Performs old g.pid (Request g.no g.number) g.op g.ins place new) → next_of old.items g ≡ Some does.entry
own_entry old new g place fits does = subst (λ (p : Pid). next_entry old.items p (Request g.no g.number) g.op g.ins ≡ Some does.entry) (same_process g.op g.pid fits.call fits.is) does.is

pub appends : (old new : Room Entry) (g : Gathered) (place : ℕ) → FitsEnd old.items g → kernel.Performs old g.pid (Request g.no g.number) g.op g.ins place new → Appends old.items (next_of old.items g) place new.items
appends old new g place fits does = record {
  entry = does.entry;
  is = own_entry old new g place fits does;
  items = does.items;
  last = does.last;
}

-- one entry's room is used up at the most
one_less : (steady : Bool) (spare : ℕ) → spare ≤ (if steady then spare - 1 else spare) + 1
one_less true spare = omega arith
one_less false spare = omega arith

-- a call leaves the room for exits, where there was room for one entry more
pub call_room : (old new : Room Entry) (g : Gathered) (place : ℕ) → FitsEnd old.items g → count_by is_some (state_after old.items).processes + 1 ≤ old.spare
    → kernel.Performs old g.pid (Request g.no g.number) g.op g.ins place new → HasExitRoom new
call_room old new g place fits room does =
    let s : State = state_after old.items in
    let n = nexts old.items g.pid (Request g.no g.number) g.op g.ins does.entry (own_entry old new g place fits does) in
    let acts = subst (λ (o : Op). act s g.pid.0 o g.ins ≡ Some (does.entry.outcome, n.next)) fits.is n.acts in
    let keeps = (call_keeps s g.pid.0 fits.call g.ins does.entry.outcome n.next acts).1 in
    let counts = count_changed s.processes n.next.processes 0 keeps.numbers (λ q ne. keeps.live q) in
    let same : one_if (is_some (at n.next.processes 0)) ≡ one_if (is_some (at s.processes 0)) = ap one_if (keeps.live 0) in
    let less = one_less (is_steady g.op) old.spare in
    let spare = does.spare in
    rw (does.items, n.state) (omega (arith, counts, same, room, less, spare))

-- there is room for what the entry of a gathered call writes
pub rooms_at : (journal : List Entry) (g : Gathered) (e : Entry) → FitsEnd journal g → next_of journal g ≡ Some e → HaveRooms (map (λ r. r.len) (outs g.op)) e.outcome.outs
rooms_at journal g e fits is =
    let n = nexts journal g.pid (Request g.no g.number) g.op g.ins e is in
    let acts = subst (λ (o : Op). act (state_after journal) g.pid.0 o g.ins ≡ Some (e.outcome, n.next)) fits.is n.acts in
    subst (λ (o : Op). HaveRooms (map (λ r. r.len) (outs o)) e.outcome.outs) (sym fits.is) (outs_have_rooms (state_after journal) g.pid.0 fits.call g.ins e.outcome n.next acts)

-- the last entry of a journal is the one that was appended
pub last_is : (old new : List Entry) (next : Option Entry) (place : ℕ) (last : Option Entry) → (adds : Appends old next place new) → last ≡ slice_get new (length new - 1) → last ≡ Some adds.entry
last_is old new next place last adds is = is ∙ (ap (λ (xs : List Entry). slice_get xs (length xs - 1)) adds.items ∙ get_last old adds.entry)

-- so there is room for what the last entry writes
pub rooms_for : (old new : List Entry) (g : Gathered) (place : ℕ) (last : Entry) → FitsEnd old g → Appends old (next_of old g) place new → Some last ≡ slice_get new (length new - 1)
    → HaveRooms (map (λ r. r.len) (outs g.op)) last.outcome.outs
rooms_for old new g place last fits adds is =
    let there = last_is old new (next_of old g) place (Some last) adds is in
    let same : last ≡ adds.entry = cc in
    subst (λ (e : Entry). HaveRooms (map (λ r. r.len) (outs g.op)) e.outcome.outs) (sym same) (rooms_at old g adds.entry fits adds.is)
