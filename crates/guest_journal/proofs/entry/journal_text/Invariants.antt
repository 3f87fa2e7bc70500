use Rattle.std.proofs.Common.{◌≡◌, ◌++◌, drop}
use Rattle.guest_journal.specs.Entries.{entries_text, journal_text}
use Rattle.guest_journal.proofs.entry.journal_text.Given as goal

abbrev pub invariant-loop-place : goal.invariant-loop-place
invariant-loop-place l = l.text ++ entries_text l.place (drop l.place l.journal) ≡ journal_text l.fn.name l.journal
