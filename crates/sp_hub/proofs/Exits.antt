-- The room for exits, when processes come and go.
use Rattle.std.specs.Prelude.{is_some, count_by}
use Rattle.std.proofs.Common.{◌≡◌, ℕ, ◌+◌, ◌≤◌, Bool, true, false, List, [], ◌∷◌, length, Option, IsSome, sym, ap, ◌∙◌, arith}
use Rattle.std.proofs.lemmas.List.Sums.{sum_by-cons}
use Rattle.sp_base.specs.Kept.{Room}
use Rattle.sp_base.specs.Table.{at}
use Rattle.sp_base.specs.declared.names.ConnNo.{ConnNo}
use Rattle.sp_base.specs.declared.names.Pid.{Pid}
use Rattle.sp_base.specs.declared.names.ReqNo.{ReqNo}
use Rattle.sp_base.proofs.CountLaws.{one_if}
use Rattle.kern_model.specs.Journal.{next_entry, state_after}
use Rattle.kern_model.specs.State.{State, Process}
use Rattle.kern_model.specs.declared.journal.Entry.{Entry}
use Rattle.kern_model.specs.declared.journal.Who.{Who}
use Rattle.kern_model.specs.declared.journal.Who.TheVariants.{Request}
use Rattle.kern_model.specs.declared.operation.Op.TheVariants.{Attach, Fork, Exec, Exit}
use Rattle.kern_model.proofs.Lemmas.{attach_makes, exec_keeps, exit_ends, fork_makes}
use Rattle.kern_calls.specs.Kernel.{Performs}
use Rattle.hub_model.specs.Journal.{nothing_read, with_entry}
use Rattle.hub_model.specs.Requests.{no_process}
use Rattle.hub_model.proofs.Entries.{nexts, count_changed, process_numbers}
use Rattle.sp_hub.specs.Room.{HasExitRoom}

pub exit_journal : (old new : Room Entry) (pid : Pid) (who : Who) (place : ℕ) → Performs old pid who Exit nothing_read place new → new.items ≡ with_entry old.items (next_entry old.items pid who Exit nothing_read)
exit_journal old new pid who place does = does.items ∙ sym (ap (with_entry old.items) does.is)

pub exit_room : (old new : Room Entry) (pid : Pid) (who : Who) (place : ℕ) → IsSome (at (state_after old.items).processes pid.0) → HasExitRoom old → Performs old pid who Exit nothing_read place new → HasExitRoom new
exit_room old new pid who place live room does =
    let s : State = state_after old.items in
    let n = nexts old.items pid who Exit nothing_read does.entry does.is in
    let ends = exit_ends s pid.0 does.entry.outcome n.next n.acts in
    let counts = count_changed s.processes n.next.processes pid.0 ends.numbers (λ q ne. ap (λ (o : Option Process). is_some o) (ends.others q ne)) in
    let was : one_if (is_some (at s.processes pid.0)) ≡ 1 = ap one_if live in
    let is : one_if (is_some (at n.next.processes pid.0)) ≡ 0 = ap (λ (o : Option Process). one_if (is_some o)) ends.gone in
    let less = does.spare in
    rw (does.items, n.state, less) (omega (arith, counts, was, is, room))

one_at_most : (b : Bool) → one_if b ≤ 1
one_at_most true = omega arith
one_at_most false = omega arith

pub attach_room : (old new : Room Entry) (c : ConnNo) (number : ReqNo) (place : ℕ) → count_by is_some (state_after old.items).processes + 1 ≤ old.spare → Performs old no_process (Request c number) Attach nothing_read place new → HasExitRoom new
attach_room old new c number place room does =
    let s : State = state_after old.items in
    let n = nexts old.items no_process (Request c number) Attach nothing_read does.entry does.is in
    let makes = attach_makes s does.entry.outcome n.next n.acts in
    let at_new = does.entry.outcome.ret0 in
    let counts = count_changed s.processes n.next.processes at_new makes.numbers (λ q ne. ap (λ (o : Option Process). is_some o) (makes.others q ne)) in
    let is = one_at_most (is_some (at n.next.processes at_new)) in
    let same = does.spare in
    rw (does.items, n.state, same) (omega (arith, counts, is, room))

pub fork_room : (old new : Room Entry) (pid : Pid) (who : Who) (place : ℕ) → count_by is_some (state_after old.items).processes + 1 ≤ old.spare → Performs old pid who Fork nothing_read place new → HasExitRoom new
fork_room old new pid who place room does =
    let s : State = state_after old.items in
    let n = nexts old.items pid who Fork nothing_read does.entry does.is in
    let makes = fork_makes s pid.0 does.entry.outcome n.next n.acts in
    let at_new = does.entry.outcome.ret0 in
    let counts = count_changed s.processes n.next.processes at_new makes.numbers (λ q ne. ap (λ (o : Option Process). is_some o) (makes.others q ne)) in
    let is = one_at_most (is_some (at n.next.processes at_new)) in
    let same = does.spare in
    rw (does.items, n.state, same) (omega (arith, counts, is, room))

pub exec_room : (old new : Room Entry) (pid : Pid) (who : Who) (place : ℕ) → count_by is_some (state_after old.items).processes + 1 ≤ old.spare → Performs old pid who Exec nothing_read place new → HasExitRoom new
exec_room old new pid who place room does =
    let s : State = state_after old.items in
    let n = nexts old.items pid who Exec nothing_read does.entry does.is in
    let keeps = (exec_keeps s pid.0 nothing_read does.entry.outcome n.next n.acts).1 in
    let counts = count_changed s.processes n.next.processes 0 keeps.numbers (λ q ne. keeps.live q) in
    let same : one_if (is_some (at n.next.processes 0)) ≡ one_if (is_some (at s.processes 0)) = ap one_if (keeps.live 0) in
    let less = does.spare in
    rw (does.items, n.state, less) (omega (arith, counts, same, room))

pub count_below : (table : List (Option Process)) → count_by is_some table ≤ length table
count_below [] = omega arith
count_below (x ∷ table) =
    let rest = count_below table in
    let one = one_at_most (is_some x) in
    let was = sum_by-cons (λ o. one_if (is_some o)) x table in
    omega (arith, rest, one, was)

-- there are few processes
pub few_processes : (journal : List Entry) → count_by is_some (state_after journal).processes ≤ 258
few_processes journal = let e = process_numbers journal in let le = count_below (state_after journal).processes in omega (arith, e, le)
