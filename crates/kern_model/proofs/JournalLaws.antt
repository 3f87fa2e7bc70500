-- The tables have their lengths in every state that operations lead to.
use Rattle.std.specs.Prelude.{IsSome, slice_get}
use Rattle.std.proofs.Common.{◌≡◌, ℕ, zero, suc, List, [], ◌∷◌, length, take, replicate, Option, Some, None, refl, sym, ap, subst, ◌∙◌, add-one}
use Rattle.kern_model.specs.declared.journal.Entry.{Entry}
use Rattle.kern_model.specs.declared.operation.Op.{Op}
use Rattle.kern_model.specs.declared.operation.Op.TheVariants.{Sys, Attach, Fork, Exec, Exit}
use Rattle.kern_model.specs.declared.operation.Ins.{Ins}
use Rattle.kern_model.specs.declared.operation.Ins.TheVariants.{Given, Fault}
use Rattle.kern_model.specs.declared.outcome.Outcome.{Outcome}
use Rattle.sp_base.specs.Table.{at}
use Rattle.kern_model.specs.Outcome.{failure}
use Rattle.kern_model.specs.State.{State, Process, opening, rows_in}
use Rattle.kern_model.specs.Step.{Step}
use Rattle.kern_model.specs.Act.{act, act_op}
use Rattle.kern_model.specs.Journal.{FitsPid, CanAsk, state_of_step, after_entry, state_from, state_after, state_before, Follows, FollowsAt, IsLegalFrom, IsLegal}
use Rattle.kern_model.specs.Sound.{HasTables}
use Rattle.sp_base.proofs.TableLaws.{at_blank}
use Rattle.kern_model.proofs.Holds.{each_is}
use Rattle.kern_model.proofs.ProcessLaws.{keeps_tables, attach_makes, fork_makes, exit_ends, call_keeps, exec_keeps}

op_tables : (s : State) (pid : ℕ) (op : Op) (pieces : List (List ℕ)) (outcome : Outcome) (t : State) → act_op s pid op pieces ≡ Some (outcome, t) → HasTables s → HasTables t
op_tables s pid (Sys c) pieces outcome t e h = keeps_tables pid s t (call_keeps s pid c (Given pieces) outcome t e).1 h
op_tables s pid Attach pieces outcome t e h = (attach_makes s outcome t e).tables (λ live. refl) h
op_tables s pid Fork pieces outcome t e h = (fork_makes s pid outcome t e).tables (h.descriptors pid) h
op_tables s pid Exec pieces outcome t e h = keeps_tables pid s t (exec_keeps s pid (Given pieces) outcome t e).1 h
op_tables s pid Exit pieces outcome t e h = (exit_ends s pid outcome t e).tables h

-- every operation keeps the lengths of the tables
pub act_tables : (s : State) (pid : ℕ) (op : Op) (ins : Ins) (outcome : Outcome) (t : State) → act s pid op ins ≡ Some (outcome, t) → HasTables s → HasTables t
act_tables s pid op (Given pieces) outcome t e h = op_tables s pid op pieces outcome t e h
act_tables s pid op (Fault error) outcome t e h = each_is (λ o t. HasTables t) (Some (failure error, s)) outcome t h e

step_tables : (s : State) (step : Step) → ((outcome : Outcome) (t : State) → step ≡ Some (outcome, t) → HasTables t) → HasTables s → HasTables (state_of_step s step)
step_tables s None h tables = tables
step_tables s (Some step) h tables = h step.0 step.1 refl

from_tables : (s : State) (journal : List Entry) → HasTables s → HasTables (state_from s journal)
from_tables s [] h = h
from_tables s (e ∷ journal) h =
    from_tables (after_entry s e) journal (step_tables s (act s e.pid.0 e.op e.ins) (λ outcome t acts. act_tables s e.pid.0 e.op e.ins outcome t acts h) h)

opening_rows : (p : Option Process) → p ≡ None → IsSome p → length (rows_in p) ≡ 128
opening_rows None e live = absurd cc
opening_rows (Some p) e live = absurd cc

pub opening_tables : HasTables opening
opening_tables = record { numbers = refl; descriptors = λ pid live. opening_rows (at (replicate 258 None) pid) (at_blank 258 pid) live }

-- the tables have their lengths after every journal
pub journal_tables : (journal : List Entry) → HasTables (state_after journal)
journal_tables journal = from_tables opening journal opening_tables

-- ---- places

-- the entry at a place follows the ones before it
follows_from : (s : State) (journal : List Entry) (place : ℕ) (e : Entry) → IsLegalFrom s journal → slice_get journal place ≡ Some e → Follows (state_from s (take place journal)) e
follows_from s [] place e legal h = absurd cc
follows_from s (first ∷ journal) zero e legal h = let is : first ≡ e = cc in subst (λ (e : Entry). Follows s e) is legal.0
follows_from s (first ∷ journal) (suc place) e legal h = follows_from (after_entry s first) journal place e legal.1 h

-- and leaves the state before the next place
next_from : (s : State) (journal : List Entry) (place : ℕ) (e : Entry) → slice_get journal place ≡ Some e → state_from s (take (suc place) journal) ≡ after_entry (state_from s (take place journal)) e
next_from s [] place e h = absurd cc
next_from s (first ∷ journal) zero e h = let is : first ≡ e = cc in ap (λ (e : Entry). after_entry s e) is
next_from s (first ∷ journal) (suc place) e h = next_from (after_entry s first) journal place e h

pub replays : (journal : List Entry) (place : ℕ) (e : Entry) → IsLegal journal → slice_get journal place ≡ Some e → FollowsAt journal place e
replays journal place e legal h =
    let follows = follows_from opening journal place e legal h in
    record {
      follows = follows;
      acts = follows.acts ∙ ap (λ (t : State). Some (e.outcome, t))
          (sym (next_from opening journal place e h) ∙ ap (λ (n : ℕ). state_before journal n) (sym (add-one place)));
    }

-- a process that fits an entry may ask
pub fits_can_ask : (s : State) (pid : ℕ) (op : Op) → FitsPid s pid op → CanAsk s pid op
fits_can_ask s pid (Sys c) fits = fits
fits_can_ask s pid Attach fits = tt
fits_can_ask s pid Fork fits = fits
fits_can_ask s pid Exec fits = fits
fits_can_ask s pid Exit fits = fits
