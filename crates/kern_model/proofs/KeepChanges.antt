-- Every change of a call keeps all other processes, and how many rows each has.
use Rattle.std.proofs.Common.{ℕ, Some, refl}
use Rattle.std.specs.FinMap.{remove}
use Rattle.kern_model.specs.State.{State, with_file}
use Rattle.kern_model.proofs.Changes.{Changes, Stays, Then, Closes, Shares, Marks, Refiles, Opens, Writes, Makes, Links, Unlinks, Moves, Replaces, Enters}
use Rattle.kern_model.proofs.KeepLaws.{Keeps, keeps_same, keeps_both, keeps_row, keeps_row_of, keeps_directory, keeps_close, unused_processes}

pub keeps_changed : {pid : ℕ} {s t : State} → Changes pid s t → Keeps pid s t
keeps_changed {pid = pid} {s = s} Stays = keeps_same pid s s refl
keeps_changed {pid = pid} {s = s} {t = u} (Then {t = t} first next) = keeps_both pid s t u (keeps_changed first) (keeps_changed next)
keeps_changed {pid = pid} {s = s} (Closes fd) = keeps_close pid s fd
keeps_changed {pid = pid} {s = s} (Shares fd row unused there) = keeps_row pid s fd (Some row)
keeps_changed {pid = pid} {s = s} (Marks fd row flag e) = keeps_row pid s fd _
keeps_changed {pid = pid} {s = s} (Refiles number old file e same) = keeps_same pid s _ refl
keeps_changed {pid = pid} {s = s} (Opens fd node file flag low of there) = keeps_row_of pid s (with_file s file) fd _ refl
keeps_changed {pid = pid} {s = s} (Writes node bytes fits) = keeps_same pid s _ refl
keeps_changed {pid = pid} {s = s} (Makes path node free room none) = keeps_same pid s _ refl
keeps_changed {pid = pid} {s = s} (Links old path node e file free low) = keeps_same pid s _ refl
keeps_changed {pid = pid} {s = s} (Unlinks path node spare) = keeps_same pid s _ (unused_processes (record s { names = remove s.names path }) node)
keeps_changed {pid = pid} {s = s} (Moves old node new can) = keeps_same pid s _ refl
keeps_changed {pid = pid} {s = s} (Replaces old node new replaced can) = keeps_same pid s _ (unused_processes (record s { names = remove s.names new }) replaced)
keeps_changed {pid = pid} {s = s} (Enters path node e directory) = keeps_directory pid s node
