-- The lemmas that other crates cite.

-- what holds of a step
pub use Rattle.kern_model.proofs.Holds.{Holds, HoldsOf, holds_is, each_is}
-- what each operation does
pub use Rattle.kern_model.proofs.Does.{FailsClean, Does}
pub use Rattle.kern_model.proofs.KeepLaws.{Keeps}
pub use Rattle.kern_model.proofs.ProcessLaws.{Makes, Ends, attach_makes, fork_makes, exit_ends, call_does, call_keeps, exec_keeps, call_acts, clean}
pub use Rattle.kern_model.proofs.OperationLaws.{others_stay, exec_shares, exit_shares}
-- what every journal leaves
pub use Rattle.kern_model.proofs.SoundLaws.{act_sound, entries_sound, journal_sound}
pub use Rattle.kern_model.proofs.JournalLaws.{act_tables, journal_tables, replays, fits_can_ask}
-- who holds an open file and a node
pub use Rattle.kern_model.proofs.HolderLaws.{there_below, HasRow, held_row, row_held, HasFile, stays_by, stays_named, stays_open}
pub use Rattle.kern_model.proofs.NameLaws.{HasName}
