-- One entry more in a journal.
use Rattle.std.proofs.Common.{◌≡◌, List, [], ◌∷◌, ◌++◌, Some, refl, sym, ap, ◌∙◌}
use Rattle.sp_base.specs.declared.names.Pid.{Pid}
use Rattle.kern_model.specs.declared.journal.Entry.{Entry}
use Rattle.kern_model.specs.declared.journal.Who.{Who}
use Rattle.kern_model.specs.declared.operation.Ins.{Ins}
use Rattle.kern_model.specs.declared.operation.Op.{Op}
use Rattle.kern_model.specs.declared.outcome.Outcome.{Outcome}
use Rattle.kern_model.specs.State.{State, opening}
use Rattle.kern_model.specs.Act.{act}
use Rattle.kern_model.specs.Journal.{FitsPid, Follows, IsLegal, IsLegalFrom, after_entry, state_after, state_from, state_of_step}
use Rattle.kern_model.specs.Needs.{FitsIns}

pub state_from-push : (s : State) (entries : List Entry) (e : Entry) → state_from s (entries ++ e ∷ []) ≡ after_entry (state_from s entries) e
state_from-push s [] e = refl
state_from-push s (x ∷ entries) e = state_from-push (after_entry s x) entries e

pub state_after-push : (journal : List Entry) (e : Entry) → state_after (journal ++ e ∷ []) ≡ after_entry (state_after journal) e
state_after-push journal e = state_from-push opening journal e

pub legal_from_push : (s : State) (entries : List Entry) (e : Entry) → IsLegalFrom s entries → Follows (state_from s entries) e → IsLegalFrom s (entries ++ e ∷ [])
legal_from_push s [] e legal follows = (follows, tt)
legal_from_push s (x ∷ entries) e legal follows = (legal.0, legal_from_push (after_entry s x) entries e legal.1 follows)

pub legal_push : (journal : List Entry) (e : Entry) → IsLegal journal → Follows (state_after journal) e → IsLegal (journal ++ e ∷ [])
legal_push journal e legal follows = legal_from_push opening journal e legal follows

-- the entry of what an operation does
abbrev pub entry : Pid → Who → Op → Ins → Outcome → Entry
entry pid who op ins outcome = record { pid = pid; who = who; op = op; ins = ins; outcome = outcome }

pub after_entry-entry : (s next : State) (pid : Pid) (who : Who) (op : Op) (ins : Ins) (outcome : Outcome) → act s pid.0 op ins ≡ Some (outcome, next) → after_entry s (entry pid who op ins outcome) ≡ next
after_entry-entry s next pid who op ins outcome acts = ap (state_of_step s) acts

pub follows_by : (s next : State) (pid : Pid) (who : Who) (op : Op) (ins : Ins) (outcome : Outcome) → FitsPid s pid.0 op → FitsIns op ins → act s pid.0 op ins ≡ Some (outcome, next) → Follows s (entry pid who op ins outcome)
follows_by s next pid who op ins outcome process given acts = record {
  process = process;
  ins = given;
  acts = acts ∙ sym (ap (λ (t : State). Some (outcome, t)) (after_entry-entry s next pid who op ins outcome acts));
}
