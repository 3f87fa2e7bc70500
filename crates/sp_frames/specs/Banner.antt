-- What a server sends before its first frame.
use Rattle.std.specs.Prelude.{ℕ, List, ◌∷◌, [], ◌++◌, codes}

-- the protocol's name and version, and a line end
abbrev pub banner : List ℕ
banner = codes "RUMPSP-0.4" ++ 10 ∷ []
