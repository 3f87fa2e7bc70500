-- The root of fresh files.
use Rattle.std.proofs.Common.{cond, [], Some, refl, ap, ◌∙◌}
use Rattle.std.specs.FinMap.{get, empty, get-insert}
use Rattle.kern_model.specs.Name.{path_cmp}
use Rattle.kern_model.specs.State.{root}
use Rattle.kern_model.proofs.NamesLaws.{paths_total}
use Rattle.kern_model.proofs.BelowLaws.{same_test}
use Rattle.kern_files.specs.Files.{fresh_files}
use Rattle.kern_files.specs.Requests.{IsDirectory}

-- the root is a directory
pub fresh_root : IsDirectory fresh_files 1
fresh_root = record {
  path = [];
  stands = get-insert paths_total empty [] root [] ∙ ap (λ b. cond b (Some root) (get {R = path_cmp} empty [])) (same_test []);
  directory = refl;
}
