-- The entries of a request in a journal that grows.
use Rattle.std.proofs.Common.{◌≡◌, inl, inr, ℕ, List, [], ◌∷◌, ◌++◌, length, Option, Some, None, slice_get, refl, sym, ap, ◌∙◌, subst}
use Rattle.sp_base.specs.Table.{lowest_unused}
use Rattle.sp_base.specs.declared.errno.Errno.TheVariants.{Eagain}
use Rattle.sp_base.specs.declared.limits.TheConstants.{FIRST_PROCESS}
use Rattle.sp_base.specs.declared.names.ConnNo.{ConnNo}
use Rattle.sp_base.specs.declared.names.Pid.{Pid}
use Rattle.sp_base.specs.declared.names.ReqNo.{ReqNo}
use Rattle.kern_model.specs.Act.{act}
use Rattle.kern_model.specs.Journal.{entry_of_step, next_entry, state_after}
use Rattle.kern_model.specs.State.{State, fresh_process, with_process}
use Rattle.kern_model.specs.Step.{Step, answered, or_fail}
use Rattle.sp_base.specs.Table.{at}
use Rattle.kern_model.specs.declared.journal.Entry.{Entry}
use Rattle.kern_model.specs.declared.journal.Who.{Who}
use Rattle.kern_model.specs.declared.journal.Who.TheVariants.{Request}
use Rattle.kern_model.specs.declared.operation.Ins.{Ins}
use Rattle.kern_model.specs.declared.operation.Op.{Op}
use Rattle.kern_model.specs.declared.operation.Op.TheVariants as op
use Rattle.hub_model.specs.Journal.{nothing_read, with_entry}
use Rattle.hub_law.specs.Serves.{IsForked, StandsAt}
use Rattle.hub_law.proofs.Lists.{get_grows, get_push}

-- a request has no entry
abbrev pub HasNone : List Entry → ConnNo → ReqNo → Type 0
HasNone journal c r = (place : ℕ) (e : Entry) → StandsAt journal c r place e → ⊥

-- a request has no entry at another place
abbrev pub IsOnly : List Entry → ConnNo → ReqNo → ℕ → Type 0
IsOnly journal c r place = (q : ℕ) (e : Entry) → StandsAt journal c r q e → q ≡ place

-- every entry stays at its place
abbrev pub Stays : List Entry → List Entry → Type 0
Stays old new = (p : ℕ) (e : Entry) → slice_get old p ≡ Some e → slice_get new p ≡ Some e

-- every entry stays at its place, and no entry of this request is new
pub record Grows (c : ConnNo) (r : ReqNo) (old new : List Entry) : Type 0 where
  pub stays : Stays old new
  pub back : (p : ℕ) (e : Entry) → StandsAt new c r p e → StandsAt old c r p e

pub grows_same : (c : ConnNo) (r : ReqNo) (journal : List Entry) → Grows c r journal journal
grows_same c r journal = record { stays = λ p e h. h; back = λ p e h. h }

pub grows_then : (c : ConnNo) (r : ReqNo) (a b d : List Entry) → Grows c r a b → Grows c r b d → Grows c r a d
grows_then c r a b d g h = record { stays = λ p e s. h.stays p e (g.stays p e s); back = λ p e s. g.back p e (h.back p e s) }

pub grows_push : (c : ConnNo) (r : ReqNo) (journal : List Entry) (e : Entry) → (e.who ≡ Request c r → ⊥) → Grows c r journal (journal ++ e ∷ [])
grows_push c r journal e other = record {
  stays = λ p f h. get_grows journal (e ∷ []) p f h;
  back = λ p f s. elim (get_push journal e p f s.0) [
    | inl before ↦ (before, s.1)
    | inr new ↦ absurd (other (ap (λ (f : Entry). f.who) new.1 ∙ s.1))
  ];
}

-- the entry of a request that had none
pub only_push : (c : ConnNo) (r : ReqNo) (journal : List Entry) (e : Entry) → HasNone journal c r → IsOnly (journal ++ e ∷ []) c r (length journal)
only_push c r journal e none p f s = elim (get_push journal e p f s.0) [
  | inl before ↦ absurd (none p f (before, s.1))
  | inr new ↦ new.0
]

pub stays_push : (journal : List Entry) (e : Entry) → Stays journal (journal ++ e ∷ [])
stays_push journal e p f h = get_grows journal (e ∷ []) p f h

pub forked_stays : (old new : List Entry) (pid : Pid) → Stays old new → IsForked old pid → IsForked new pid
forked_stays old new pid stays h = (h.0, h.1, stays h.0 h.1 h.2, h.3, h.4)

-- ---- the next entry

-- an entry is by this, of this operation, and has these ins
pub record IsBy (pid : Pid) (who : Who) (operation : Op) (ins : Ins) (e : Entry) : Type 0 where
  pub pid_is : e.pid ≡ pid
  pub who_is : e.who ≡ who
  pub op_is : e.op ≡ operation
  pub ins_are : e.ins ≡ ins

by_step : (pid : Pid) (who : Who) (operation : Op) (ins : Ins) (e : Entry) (step : Step) → entry_of_step pid who operation ins step ≡ Some e → IsBy pid who operation ins e
by_step pid who operation ins e None h = absurd (cc)
by_step pid who operation ins e (Some step) h =
    let same : record { pid = pid; who = who; op = operation; ins = ins; outcome = step.0 } ≡ e = cc in
    subst (λ (e : Entry). IsBy pid who operation ins e) same (record { pid_is = refl; who_is = refl; op_is = refl; ins_are = refl })

pub next_is : (journal : List Entry) (pid : Pid) (who : Who) (operation : Op) (ins : Ins) (e : Entry) → next_entry journal pid who operation ins ≡ Some e → IsBy pid who operation ins e
next_is journal pid who operation ins e h = by_step pid who operation ins e (act (state_after journal) pid.0 operation ins) h

-- an entry of something else than a request, where there is one
pub with_grows : (c : ConnNo) (r : ReqNo) (journal : List Entry) (pid : Pid) (who : Who) (operation : Op) (ins : Ins) (next : Option Entry)
    → next_entry journal pid who operation ins ≡ next → (who ≡ Request c r → ⊥) → Grows c r journal (with_entry journal next)
with_grows c r journal pid who operation ins None h other = grows_same c r journal
with_grows c r journal pid who operation ins (Some e) h other =
    grows_push c r journal e (λ (k : e.who ≡ Request c r). other (sym (next_is journal pid who operation ins e h).who_is ∙ k))

-- ---- operations that never wait

attach_steps : (pid : Pid) (who : Who) (s : State) (number : Option ℕ)
    → entry_of_step pid who op.Attach nothing_read (or_fail number Eagain s (λ n. answered n (with_process s n (Some fresh_process)))) ≡ None → ⊥
attach_steps pid who s None h = cc
attach_steps pid who s (Some n) h = cc

pub attach_nexts : (journal : List Entry) (pid : Pid) (who : Who) → next_entry journal pid who op.Attach nothing_read ≡ None → ⊥
attach_nexts journal pid who h = attach_steps pid who (state_after journal) (lowest_unused (state_after journal).processes FIRST_PROCESS) h

fork_steps : (pid : Pid) (who : Who) (s : State) (number : Option ℕ)
    → entry_of_step pid who op.Fork nothing_read (or_fail number Eagain s (λ n. answered n (with_process s n (at s.processes pid.0)))) ≡ None → ⊥
fork_steps pid who s None h = cc
fork_steps pid who s (Some n) h = cc

pub fork_nexts : (journal : List Entry) (pid : Pid) (who : Who) → next_entry journal pid who op.Fork nothing_read ≡ None → ⊥
fork_nexts journal pid who h = fork_steps pid who (state_after journal) (lowest_unused (state_after journal).processes FIRST_PROCESS) h

pub exec_nexts : (journal : List Entry) (pid : Pid) (who : Who) → next_entry journal pid who op.Exec nothing_read ≡ None → ⊥
exec_nexts journal pid who h = cc
