use Rattle.std.proofs.Common.{◌≡◌, ℕ, ◌∷◌, Ok, sym, ap, subst, ◌∙◌}
use Rattle.kern_nodes.specs.TreeFault.{error_in}
use Rattle.kern_files.specs.Files.{Files, with_new}
use Rattle.kern_files.specs.Requests.{IsDirectory}
use Rattle.kern_files.proofs.GrowthLaws.{free_to_make, directory_made, new_directory}
use Rattle.kern_files.proofs.tests.make.Goals as goal

pub returns-in-Ok-clause-stays : goal.returns-in-Ok-clause-stays
returns-in-Ok-clause-stays c n d =
    let path = c.as_bytes.result.now ∷ c.requires.path in
    let free = free_to_make c.args.tree.now path (sym (ap error_in c.in-Ok.is) ∙ c.create.ensures.error c.requires.path c.requires.stands) in
    subst (λ (f : Files). IsDirectory f n) (sym (c.in-Ok.ensures.ok c.requires.path c.requires.stands)) (directory_made c.args.tree.now path c.args.kind n free d)

pub returns-in-Ok-clause-within : goal.returns-in-Ok-clause-within
returns-in-Ok-clause-within c is =
    let path = c.as_bytes.result.now ∷ c.requires.path in
    let made : c.create.new.self ≡ with_new c.args.tree.now path c.args.kind = c.in-Ok.ensures.ok c.requires.path c.requires.stands in
    subst (λ (f : Files). IsDirectory f c.in-Ok.node.0) (sym made) (subst (λ (m : ℕ). IsDirectory (with_new c.args.tree.now path c.args.kind) m) (sym c.in-Ok.ensures.number) (new_directory c.args.tree.now path c.args.kind is))
