-- The state that open files and a tree of files make together.
use Rattle.std.specs.Prelude.{◌≡◌, ℕ, count_by}
use Rattle.kern_model.specs.State.{State, is_of_node}
use Rattle.kern_open.specs.OpenTables.{OpenTables}
use Rattle.kern_files.specs.Files.{Files, holders_of}

-- the state with these processes, open files, names and nodes
abbrev pub joined : OpenTables → Files → State
joined o f = record { names = f.names; nodes = f.nodes; processes = o.processes; files = o.files }

-- each node has as many holders as open files
abbrev pub AreHolders : OpenTables → Files → Type 0
AreHolders o f = (node : ℕ) → holders_of f node ≡ count_by (is_of_node node) o.files
