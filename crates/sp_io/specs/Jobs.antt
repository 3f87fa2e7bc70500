-- Why a job runs nowhere.
use Rattle.std.specs.Prelude.{◌≡◌, ℕ, ◌≤◌}
use Rattle.sp_io.specs.Causes.{Rose}
use Rattle.sp_io.specs.declared.spawn.JobPlace.{JobPlace}
use Rattle.sp_io.specs.declared.spawn.JobPlace.TheVariants.{Nowhere}

-- the count never falls, and a job runs nowhere only where it rose
pub record HasPlaceCause {R : Type 0} (before now : ℕ) (place : JobPlace R) : Type 0 where
  pub later : before ≤ now
  pub refused : place ≡ Nowhere → Rose before now
