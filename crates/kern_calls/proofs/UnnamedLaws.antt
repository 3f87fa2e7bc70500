-- What was found without a name is a directory.
use Rattle.std.specs.Prelude.{is_some}
use Rattle.std.proofs.Common.{◌≡◌, ℕ, List, Option, None, true, ap, subst, ◌∙◌}
use Rattle.kern_model.specs.declared.walk.Walked.{Walked}
use Rattle.kern_model.specs.declared.walk.Walked.TheVariants.{Found}
use Rattle.kern_model.specs.State.{State, is_directory}
use Rattle.kern_model.specs.Sound.{HasTree}
use Rattle.kern_model.specs.Walk.{walk}
use Rattle.kern_model.proofs.UnnamedLaws.{Leads, leads}
use Rattle.kern_names.specs.declared.walk.Last.{Last}
use Rattle.kern_calls.specs.Reached.{IsFound}

pub unnamed : (s : State) (pid node : ℕ) (text : List ℕ) (last : Option Last) → HasTree s → IsFound s text (walk s pid text) node last → last ≡ None → is_directory s node ≡ true
unnamed s pid node text last h m e = subst (λ (w : Walked). Leads s w) (m.walks ∙ ap (λ (l : Option Last). Found m.path node (is_some l)) e) (leads s pid text h)
