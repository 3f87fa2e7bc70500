-- A handshake in the kernel.
use Rattle.std.specs.Prelude.{slice_get}
use Rattle.std.proofs.Common.{◌≡◌, ℕ, ◌-◌, ◌<◌, List, [], ◌∷◌, ◌++◌, length, Option, Some, None, IsSome, refl, sym, ap, subst, ◌∙◌, arith}
use Rattle.std.proofs.lemmas.List.{length_push}
use Rattle.sp_base.specs.Kept.{Room}
use Rattle.sp_base.specs.Table.{lowest_unused}
use Rattle.sp_base.specs.declared.errno.Errno.TheVariants.{Eagain}
use Rattle.sp_base.specs.declared.limits.TheConstants.{FIRST_PROCESS}
use Rattle.sp_base.specs.declared.names.ConnNo.{ConnNo}
use Rattle.sp_base.specs.declared.names.ReqNo.{ReqNo}
use Rattle.kern_model.specs.Descriptors.{act_attach}
use Rattle.kern_model.specs.Journal.{state_after, entry_of_step, next_entry}
use Rattle.kern_model.specs.State.{State, fresh_process, with_process}
use Rattle.kern_model.specs.Step.{Step, answered, or_fail}
use Rattle.kern_model.specs.declared.journal.Entry.{Entry}
use Rattle.kern_model.specs.declared.journal.Who.TheVariants.{Request}
use Rattle.kern_model.specs.declared.operation.Op.TheVariants.{Attach}
use Rattle.kern_calls.specs.Kernel.{Performs}
use Rattle.hub_model.specs.Journal.{nothing_read}
use Rattle.hub_model.specs.Requests.{no_process}
use Rattle.hub_model.proofs.Entries.{nexts, process_numbers, attach_below}
use Rattle.sp_hub.specs.Kernel.{Attaches}

get_at_end : (xs : List Entry) (x : Entry) → slice_get (xs ++ x ∷ []) (length xs) ≡ Some x
get_at_end [] x = refl
get_at_end (y ∷ xs) x = get_at_end xs x

shorter_by_one : (xs : List Entry) (x : Entry) → length (xs ++ x ∷ []) - 1 ≡ length xs
shorter_by_one xs x = omega (arith, length_push xs x)

-- the last entry of a journal with one entry more
pub get_last : (xs : List Entry) (x : Entry) → slice_get (xs ++ x ∷ []) (length (xs ++ x ∷ []) - 1) ≡ Some x
get_last xs x = ap (slice_get (xs ++ x ∷ [])) (shorter_by_one xs x) ∙ get_at_end xs x

-- the entry of an attach is the last one
pub last_is : (old new : Room Entry) (c : ConnNo) (number : ReqNo) (place : ℕ) (last : Option Entry) → (does : Performs old no_process (Request c number) Attach nothing_read place new) → last ≡ slice_get new.items (length new.items - 1) → last ≡ Some does.entry
last_is old new c number place last does is = is ∙ (ap (λ (xs : List Entry). slice_get xs (length xs - 1)) does.items ∙ get_last old.items does.entry)

pub last_below : (old new : Room Entry) (c : ConnNo) (number : ReqNo) (place : ℕ) (last : Entry) → Performs old no_process (Request c number) Attach nothing_read place new → Some last ≡ slice_get new.items (length new.items - 1) → last.outcome.ret0 < 258
last_below old new c number place last does is =
    let n = nexts old.items no_process (Request c number) Attach nothing_read does.entry does.is in
    let below = attach_below (state_after old.items) does.entry.outcome n.next n.acts (process_numbers old.items) in
    let there = last_is old new c number place (Some last) does is in
    let same : last ≡ does.entry = cc in
    subst (λ (e : Entry). e.outcome.ret0 < 258) (sym same) below

pub attached : (old new : Room Entry) (c : ConnNo) (number : ReqNo) (place : ℕ) (last : Entry) → Performs old no_process (Request c number) Attach nothing_read place new → Some last ≡ slice_get new.items (length new.items - 1)
    → Attaches old.items (next_entry old.items no_process (Request c number) Attach nothing_read) (record { 0 = last.outcome.ret0 }) new.items
attached old new c number place last does is =
    let there = last_is old new c number place (Some last) does is in
    let same : last ≡ does.entry = cc in
    rw (does.is, same) (refl, does.items)

-- ---- an attach never waits

attach_by : (s : State) (number : Option ℕ) → IsSome (or_fail number Eagain s (λ pid. answered pid (with_process s pid (Some fresh_process))))
attach_by s None = refl
attach_by s (Some n) = refl

pub attach_acts : (s : State) → IsSome (act_attach s)
attach_acts s = attach_by s (lowest_unused s.processes FIRST_PROCESS)

enters_by : (c : ConnNo) (number : ReqNo) (step : Step) → IsSome step → IsSome (entry_of_step no_process (Request c number) Attach nothing_read step)
enters_by c number None h = absurd cc
enters_by c number (Some step) h = refl

-- a handshake has its entry
pub attach_enters : (journal : List Entry) (c : ConnNo) (number : ReqNo) → IsSome (next_entry journal no_process (Request c number) Attach nothing_read)
attach_enters journal c number = enters_by c number (act_attach (state_after journal)) (attach_acts (state_after journal))
