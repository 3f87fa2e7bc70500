use Rattle.kern_model.proofs.ProcessLaws.{clean}
use Rattle.kern_model.proofs.laws.error_gives_nothing.Goals as goal

pub returns : goal.returns
returns c = λ s pid op ins outcome t e ne. (let nothing = clean s pid op ins outcome t e in
    record { first = nothing.first ne; second = nothing.second ne; pieces = nothing.pieces ne; state = nothing.state ne })
