-- What a handshake does to the kernel.
use Rattle.std.specs.Prelude.{◌≡◌, List, [], ◌∷◌, ◌++◌, Option, None, Some}
use Rattle.sp_base.specs.declared.names.Pid.{Pid}
use Rattle.kern_model.specs.declared.journal.Entry.{Entry}

-- a handshake was performed as this entry: its process, and the journal after it
abbrev pub Attaches : List Entry → Option Entry → Pid → List Entry → Type 0
Attaches old None pid new = ⊥
Attaches old (Some e) pid new = (pid ≡ record { 0 = e.outcome.ret0 }) × (new ≡ old ++ e ∷ [])
