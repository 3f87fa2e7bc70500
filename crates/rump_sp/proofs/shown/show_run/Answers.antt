use Rattle.std.proofs.Common.{refl, rules}
use Rattle.rump_sp.proofs.shown.show_run.Goals as goal
use Rattle.rump_sp.proofs.shown.show_run.Goals.{then-journals, else-journals}

pub returns-clause-shows : goal.returns-clause-shows
returns-clause-shows g c = record {
  ran = c.in_ok-rows.field-0;
  run = c.in_ok-rows.ensures.run;
  legal = c.journal.ensures.legal;
  keys = c.journal.ensures.keys;
  whole = refl;
  shown = elim c.if-journals.branch [
    | then-journals w ↦ search rules
    | else-journals w ↦ search rules
  ];
}
