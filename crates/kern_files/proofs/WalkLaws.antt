-- What a walk over the directories says of the files.
use Rattle.std.proofs.Common.{◌≡◌, ℕ, Bool, true, false, List, get_or, Option, None, Some, refl, sym, ap, subst, ◌∙◌}
use Rattle.kern_model.specs.declared.node.Node.{Node}
use Rattle.kern_model.specs.declared.walk.Walked.{Walked as Way}
use Rattle.kern_model.specs.Name.{Path}
use Rattle.kern_model.specs.State.{State, is_directory, is_directory_kind, kind_in}
use Rattle.kern_names.specs.declared.walk.Last.{Last}
use Rattle.kern_names.specs.declared.walk.Walked.{Walked}
use Rattle.kern_names.specs.declared.walk.Walked.TheVariants.{Found, Missing, Fault}
use Rattle.kern_names.specs.Tree.{Tree, has_directory}
use Rattle.kern_names.specs.Reach as tree_walk
use Rattle.kern_nodes.specs.NodeTable.{NodeTable, state_of}
use Rattle.kern_files.specs.Files.{Files}
use Rattle.kern_files.specs.Parts.{Agree, files_of}
use Rattle.kern_files.specs.Reach.{IsLast, Reaches}
use Rattle.kern_files.proofs.AgreeLaws.{named}
use Rattle.kern_files.proofs.FilesLaws.{Shows}

same_test : (a b : Bool) → (a ≡ true → b ≡ true) → (b ≡ true → a ≡ true) → a ≡ b
same_test true b f g = sym (f refl)
same_test false true f g = g refl
same_test false false f g = refl

-- a state with the names and the nodes of the files has the names of the tree
pub has_names : {tree : Tree} {table : NodeTable} {f : Files} (s : State) → Shows tree table f → s.names ≡ f.names → s.nodes ≡ f.nodes → tree_walk.HasNames s tree
has_names {tree} {table} {f} s shows names nodes =
    let same : (node : ℕ) → is_directory s node ≡ is_directory (state_of table) node = λ node. ap (λ (ns : List (Option Node)). is_directory_kind (kind_in (get_or ns node None))) (nodes ∙ sym (ap (λ g. g.nodes) shows.view)) in
    record {
      names = names ∙ sym (ap (λ g. g.names) shows.view);
      directories = λ path node there. same node ∙ same_test (is_directory (state_of table) node) (has_directory tree node) (shows.agree.placed node (named tree.names path node there)) (shows.agree.kind node);
    }

last_of : (tree : Tree) (table : NodeTable) (text : List ℕ) (path : Path) (last : Last) → Agree tree table → tree_walk.IsLast tree text path last → IsLast (files_of tree table) text path last
last_of tree table text path last a is = record {
  above = is.above;
  spelled = is.spelled;
  stands = is.stands;
  within = record { path = is.above; stands = is.stands; directory = a.kind last.directory.0 is.within };
  fits = is.fits;
  slash = is.slash;
}

reached_by : (tree : Tree) (table : NodeTable) (text : List ℕ) (way : Way) (walked : Walked) → Agree tree table → tree_walk.Reaches tree text way walked → Reaches (files_of tree table) text way walked
reached_by tree table text way (Found node None) a r = (r.0, r.1, r.2, tt)
reached_by tree table text way (Found node (Some last)) a r = (r.0, r.1, r.2, last_of tree table text r.0 last a r.3)
reached_by tree table text way (Missing last) a r = (r.0, r.1, r.2, last_of tree table text r.0 last a r.3)
reached_by tree table text way (Fault error) a r = r

-- what the directories reach, the files do
pub reached : {tree : Tree} {table : NodeTable} {f : Files} (text : List ℕ) (way : Way) (walked : Walked) → Shows tree table f → tree_walk.Reaches tree text way walked → Reaches f text way walked
reached {tree} {table} text way walked shows r = subst (λ g. Reaches g text way walked) shows.view (reached_by tree table text way walked shows.agree r)
