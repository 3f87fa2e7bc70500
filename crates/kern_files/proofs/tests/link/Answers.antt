use Rattle.std.specs.Prelude.{Result, OnOk, OnErr}
use Rattle.std.specs.declared.result.Result.TheVariants.{Ok, Err}
use Rattle.std.proofs.Common.{◌≡◌, ℕ, ◌∷◌, sym, subst}
use Rattle.kern_model.specs.Name.{Path}
use Rattle.kern_nodes.specs.declared.fault.TreeFault.{TreeFault}
use Rattle.kern_nodes.specs.TreeFault.{error_in}
use Rattle.kern_files.specs.Files.{Files, link_error, with_name}
use Rattle.kern_files.specs.Requests.{IsDirectory}
use Rattle.kern_files.proofs.GrowthLaws.{free_to_link, directory_linked}
use Rattle.kern_files.proofs.tests.link.Goals as goal

stays : {T : Type 0} (f g : Files) (r : Result T TreeFault) (path : Path) (node n : ℕ) → error_in r ≡ link_error f node path → OnOk r (g ≡ with_name f path node) → OnErr r (g ≡ f) → IsDirectory f n → IsDirectory g n
stays f g (Ok v) path node n e ok err d = subst (λ k. IsDirectory k n) (sym ok) (directory_linked f path node n (free_to_link f node path e) d)
stays f g (Err x) path node n e ok err d = subst (λ k. IsDirectory k n) (sym err) d

pub returns-clause-stays : goal.returns-clause-stays
returns-clause-stays c n d =
    stays c.args.tree.now c.link.new.self c.link.result (c.as_bytes.result.now ∷ c.requires.within.path) c.args.file.0 n (c.link.ensures.error c.requires.within.path c.requires.within.stands)
    (c.link.ensures.ok c.requires.within.path c.requires.within.stands) c.link.ensures.err d
