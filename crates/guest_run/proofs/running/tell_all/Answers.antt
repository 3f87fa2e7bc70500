use Rattle.std.proofs.Common.{◌≡◌, None, ℕ, ◌+◌, List, drop, refl, subst, sym}
use Rattle.std.proofs.lemmas.List.{drop_all}
use Rattle.std.specs.List.{AllByRecursion}
use Rattle.guest_language.specs.Facts.{HasProperCall}
use Rattle.guest_language.specs.declared.script.Line.{Line}
use Rattle.guest_run.specs.Outside.{first_outside}
use Rattle.guest_run.specs.UnderWay.{IsToldTo, IsUnderWay}
use Rattle.guest_run.specs.declared.running.RunEnd.TheVariants as end
use Rattle.guest_run.proofs.RunLaws.{cause_from, cut_as, ends, goes_on, inside_behind, is_cut, left_at, no_cause, told_as}
use Rattle.guest_run.proofs.running.tell_all.Goals as goal

pub tell-requires-clause-rest : goal.tell-requires-clause-rest
tell-requires-clause-rest g c = (c.requires.rest.0, (c.loop-i.invariant.way c.requires.rest.0 c.requires.rest.1).rest)

pub returns-in_default-clause-told : goal.returns-in_default-clause-told
returns-in_default-clause-told g c = λ pid at.
    let section = c.args.section.now in
    let start = c.args.joined.now in
    let i = c.loop-i.i in
    let line = c.line-item.result in
    let left = left_at c.slice-line-items.result.now i line c.loop-i-test.true c.line-item.is in
    let way = subst (λ (l : List Line). IsUnderWay section start c.loop-i.joined c.loop-i.rows i l pid) left (c.loop-i.invariant.way pid at) in
    let row = c.in_ok-end.ensures.told.0 in
    let how = c.in_ok-end.end in
    let told = told_as c.slice-name.result.now section.name pid (i + 1) c.loop-i.joined line row how how c.tell.new.joined c.slice-name.ensures.value refl
    (c.in_ok-end.ensures.told.2 pid way.rest) in
    subst (λ (r : List ℕ). IsToldTo section start c.tell.new.joined r how pid) (sym c.in_ok-end.ensures.told.1)
    (is_cut section start c.loop-i.joined c.tell.new.joined c.loop-i.rows row how i line _ pid c.in_default.not-Whole way
    (cut_as section.name pid (i + 1) c.loop-i.joined line row how c.tell.new.joined c.in_default.not-Whole told))

pub loop-i-preserved : goal.loop-i-preserved
loop-i-preserved g c =
    let section = c.args.section.now in
    let start = c.args.joined.now in
    let i = c.loop-i.i in
    let line = c.line-item.result in
    let left = left_at c.slice-line-items.result.now i line c.loop-i-test.true c.line-item.is in
    let row = c.in_ok-end.ensures.told.0 in
    record {
      way = λ pid at.
          let way = subst (λ (l : List Line). IsUnderWay section start c.loop-i.joined c.loop-i.rows i l pid) left (c.loop-i.invariant.way pid at) in
          let told = told_as c.slice-name.result.now section.name pid (i + 1) c.loop-i.joined line row c.in_ok-end.end end.Whole c.tell.new.joined c.slice-name.ensures.value
          c.in-Whole.is (c.in_ok-end.ensures.told.2 pid way.rest) in
          subst (λ (r : List ℕ). IsUnderWay section start c.tell.new.joined r (i + 1) (drop (i + 1) c.slice-line-items.result.now) pid) (sym c.in_ok-end.ensures.told.1)
          (goes_on section start c.loop-i.joined c.tell.new.joined c.loop-i.rows row i line _ pid way told);
      proper = (subst (AllByRecursion HasProperCall) left c.loop-i.invariant.proper).1;
      inside = inside_behind line (drop (i + 1) c.slice-line-items.result.now) (subst (λ (l : List Line). first_outside l ≡ None) left c.loop-i.invariant.inside);
      cause = (cause_from _ _ _ c.in_ok-end.end c.loop-i.invariant.cause c.in_ok-end.ensures.salt).later;
    }

pub returns-in_default-clause-salt : goal.returns-in_default-clause-salt
returns-in_default-clause-salt g c = cause_from _ _ _ c.in_ok-end.end c.loop-i.invariant.cause c.in_ok-end.ensures.salt

pub returns-clause-told : goal.returns-clause-told
returns-clause-told g c = λ pid at. ends _ _ _ _ _ _ pid (drop_all c.loop-i.i c.slice-line-items.result.now c.loop-i-test.false) (c.loop-i.invariant.way pid at)

pub returns-clause-rest : goal.returns-clause-rest
returns-clause-rest g c = λ whole pid at. (_, (c.loop-i.invariant.way pid at).rest)

pub returns-clause-salt : goal.returns-clause-salt
returns-clause-salt g c = record { later = c.loop-i.invariant.cause; failed = λ e. absurd cc }
