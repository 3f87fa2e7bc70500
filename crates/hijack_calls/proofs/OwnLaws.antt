-- What the splitter answers by itself leaves both sides.
use Rattle.std.proofs.Common.{◌≡◌, ◌≢◌, List, Option, None, Some, Result, Ok, Err, ap, refl, sym, subst, ◌∙◌}
use Rattle.sp_base.specs.Errno.{errno_number}
use Rattle.sp_base.specs.declared.call.Call.{Call}
use Rattle.sp_base.specs.declared.errno.Errno.TheVariants.{Emfile}
use Rattle.sp_base.specs.declared.names.Answer.{Answer}
use Rattle.sp_copy.specs.declared.part.Part.{Part}
use Rattle.hijack_rules.specs.declared.names.SideName.{SideName}
use Rattle.hijack_rules.specs.declared.rules.Rules.{Rules}
use Rattle.hijack_split.specs.Laws.{Always, AnswersItself, Anyhow, IsEmfile}
use Rattle.hijack_split.specs.Split.{steps_of}
use Rattle.hijack_split.specs.Steps.{Asks, Gives, Polls, Steps}
use Rattle.hijack_split.specs.View.{Naming, changed}
use Rattle.hijack_split.specs.declared.change.Change.{Change}
use Rattle.hijack_split.proofs.ChangeLaws.{all_lawful}
use Rattle.hijack_calls.specs.Laws.{IsUntouched}
use Rattle.hijack_calls.specs.Runs.{Given, Runs, Splits}
use Rattle.hijack_calls.specs.declared.splitter.Done.{Done}
use Rattle.hijack_calls.specs.declared.splitter.Replied.{Replied}

module _ {R H : Type 0} (rump : R → Call → List Part → Given → R → Type 0) (host : H → Call → List Part → Given → H → Type 0) where
  -- what always holds of a reply holds of the one that a run comes to
  holds_then : (holds_of : Option SideName → Answer → Change → Type 0) (steps : Steps) (r : R) (h : H) (mem : List Part) (done : Done) (r' : R) (h' : H)
      → Always Anyhow holds_of steps → Runs rump host steps r h mem (Ok done) r' h' → holds_of done.replied.by done.replied.answer done.change
  holds_then holds_of (Asks side call stage follow) r h mem done r' h' all (Ok given, (r₁, (h₁, (asked, run)))) = holds_then holds_of (follow given.0) r₁ h₁ given.1 done r' h' (all given.0 tt) run
  holds_then holds_of (Asks side call stage follow) r h mem done r' h' all (Err why, (r₁, (h₁, (asked, run)))) = absurd (let e = run.0 in cc)
  holds_then holds_of (Gives by answer change) r h mem done r' h' all run =
      let e = run.0 in
      let same : done ≡ record { replied = record { answer = answer; by = by; mem = mem }; change = change } = cc in
      subst (λ (d : Done). holds_of d.replied.by d.replied.answer d.change) (sym same) all
  holds_then holds_of Polls r h mem done r' h' all run = absurd run

  -- a run whose reply is the splitter's own, and not EMFILE, called neither side
  own_stays : (steps : Steps) (r : R) (h : H) (mem : List Part) (v : Naming) (done : Done) (r' : R) (h' : H)
      → AnswersItself steps → Runs rump host steps r h mem (Ok done) r' h' → done.replied.by ≡ None → done.replied.answer.err ≢ errno_number Emfile
      → IsUntouched r h mem v r' h' done.replied.mem (changed v done.change)
  own_stays (Asks side call stage follow) r h mem v done r' h' own (Ok given, (r₁, (h₁, (asked, run)))) none other =
      let emfile = holds_then IsEmfile (follow given.0) r₁ h₁ given.1 done r' h' (own given.0) run in
      absurd (other (subst (λ (by : Option SideName). IsEmfile by done.replied.answer done.change) none emfile))
  own_stays (Asks side call stage follow) r h mem v done r' h' own (Err why, (r₁, (h₁, (asked, run)))) none other = absurd (let e = run.0 in cc)
  own_stays (Gives by answer change) r h mem v done r' h' own run none other =
      let e = run.0 in
      let same : done ≡ record { replied = record { answer = answer; by = by; mem = mem }; change = change } = cc in
      record {
        rump = run.1;
        host = run.2;
        memory = ap (λ (d : Done). d.replied.mem) same;
        view = ap (λ (d : Done). changed v d.change) same ∙ ap (changed v) own.1;
      }
  own_stays Polls r h mem v done r' h' own run none other = absurd run

  pub own_leaves : (rules : Rules) (v v' : Naming) (call : Call) (mem : List Part) (r r' : R) (h h' : H) (told : Replied)
      → Splits rump host (steps_of rules v mem call) r h mem v (Ok told) r' h' v' → told.by ≡ None → told.answer.err ≢ errno_number Emfile
      → IsUntouched r h mem v r' h' told.mem v'
  own_leaves rules v v' call mem r r' h h' told splits none other =
      let left = own_stays (steps_of rules v mem call) r h mem v (record { replied = told; change = splits.0 }) r' h' (all_lawful rules v mem call).own splits.1.0 none other in
      record { rump = left.rump; host = left.host; memory = left.memory; view = splits.1.1 ∙ left.view }
