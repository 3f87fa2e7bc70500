-- Words for the laws of a guest's calls over two sides.
use Rattle.std.specs.Prelude.{◌≡◌, List}
use Rattle.sp_copy.specs.declared.part.Part.{Part}
use Rattle.hijack_split.specs.View.{Naming}

-- nothing was done: both sides, the guest's memory and its view are as they were
pub record IsUntouched {R H : Type 0} (r : R) (h : H) (mem : List Part) (v : Naming) (r' : R) (h' : H) (mem' : List Part) (v' : Naming) : Type 0 where
  pub rump : r' ≡ r
  pub host : h' ≡ h
  pub memory : mem' ≡ mem
  pub view : v' ≡ v
