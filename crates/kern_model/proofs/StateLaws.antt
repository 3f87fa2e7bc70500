-- Facts about states.
use Rattle.std.specs.Prelude.{slice_set}
use Rattle.std.proofs.Common.{◌≡◌, ℕ, List, Option, None, sym, ap, ◌∙◌}
use Rattle.kern_model.specs.State.{State, Process, with_process}

-- a state without a process, by its table
pub gone : (s t : State) (pid : ℕ) (processes : List (Option Process)) → s ≡ t → slice_set s.processes pid None ≡ processes → with_process t pid None ≡ record s { processes = processes }
gone s t pid processes same is = ap (λ (u : State). with_process u pid None) (sym same) ∙ ap (λ (l : List (Option Process)). record s { processes = l }) is
