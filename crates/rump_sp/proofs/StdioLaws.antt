-- A run of stdio that does nothing.
use Rattle.std.proofs.Common.{ℕ, List, [], Option, Some, None, refl}
use Rattle.std.specs.Io.KnownBytes.{Consumes}
use Rattle.sp_server.specs.Stdio.{IsServed}
use Rattle.sp_server.proofs.Outs.{nothing_cut}
use Rattle.sp_server.specs.declared.stdio.StdioEnd.TheVariants.{NoMemory}
use Rattle.rump_sp.proofs.TopLaws.{appends_nothing}

takes_nothing : (left : Option (List ℕ)) → Consumes left left []
takes_nothing None = tt
takes_nothing (Some xs) = refl

-- want of memory before anything is read or written
pub nothing_served : (left passed held drawn : Option (List ℕ))
    → IsServed (record { left = left; passed = passed; held = held; drawn = drawn }) (record { left = left; passed = passed; held = held; drawn = drawn }) NoMemory
nothing_served left passed held drawn = record {
  taken = [];
  salts = [];
  refused = nothing_cut.0;
  text = [];
  source = takes_nothing left;
  counted = appends_nothing passed;
  sink = appends_nothing held;
  salt = appends_nothing drawn;
  serves = nothing_cut.1;
  all = λ e. absurd cc;
}
