-- How a system call of a process changes the state: what each of its parts does, and what is known where it is done.
use Rattle.std.specs.Prelude.{IsSome}
use Rattle.std.proofs.Common.{◌≡◌, ◌≢◌, ℕ, ◌+◌, ◌-◌, ◌<◌, ◌≤◌, Bool, true, false, List, [], ◌∷◌, length, Some, None}
use Rattle.std.specs.FinMap.{get, insert}
use Rattle.sp_base.specs.Table.{at, lowest_unused}
use Rattle.kern_model.specs.declared.node.Node.{Node}
use Rattle.kern_model.specs.declared.node.Object.TheVariants as object
use Rattle.kern_model.specs.declared.node.OpenFile.{OpenFile}
use Rattle.kern_model.specs.declared.node.Row.{Row}
use Rattle.kern_model.specs.Name.{Path, name_count}
use Rattle.kern_model.specs.State.{State, rows_of, with_row, with_process, replace_directory, close_row, replace_file, with_file, with_bytes, bytes_of, with_node, total_size, has_room, is_directory, is_working_directory}
use Rattle.kern_model.specs.Files.{file_limit, total_limit}
use Rattle.kern_model.specs.Links.{link_limit, without_name, moved, is_below}
use Rattle.kern_model.specs.Sound.{IsPlace, HasTree, IsHeld}

-- nothing stands under a path, and it would stand in a directory
abbrev pub IsFree : State → Path → Type 0
IsFree s [] = ⊥
IsFree s (component ∷ path) = (get s.names (component ∷ path) ≡ None) × IsPlace s.names s.nodes path

-- a path's node may lose it: it isn't the root's, nothing stands below it, and no process works there
pub record IsSpare (s : State) (path : Path) (node : ℕ) : Type 0 where
  pub named : get s.names path ≡ Some node
  pub apart : path ≢ []
  pub empty : (component : List ℕ) → get s.names (component ∷ path) ≡ None
  pub idle : is_directory s node ≡ true → is_working_directory s node ≡ false

-- an object may go to where nothing is
pub record CanMove (s : State) (old : Path) (node : ℕ) (new : Path) : Type 0 where
  pub named : get s.names old ≡ Some node
  pub free : IsFree s new
  pub apart : is_below new old ≡ false

-- an object may take the place of another one
pub record CanReplace (s : State) (old : Path) (node : ℕ) (new : Path) (replaced : ℕ) : Type 0 where
  pub named : get s.names old ≡ Some node
  pub other : new ≢ old
  pub apart : is_below new old ≡ false
  pub spare : IsSpare s new replaced

-- other bytes are within the limits
pub record AreFitting (s : State) (node : ℕ) (bytes : List ℕ) : Type 0 where
  pub file : length (bytes_of s node) ≤ file_limit → length bytes ≤ file_limit
  pub total : total_size s ≤ total_limit → (total_size s - length (bytes_of s node)) + length bytes ≤ total_limit

-- the ways in which a call of a process changes the state
pub data Changes (pid : ℕ) : State → State → Type 0 where
  -- nothing changes
  Stays : {s : State} → Changes pid s s
  -- one change after another
  Then : {s t u : State} → Changes pid s t → Changes pid t u → Changes pid s u
  -- a descriptor is closed
  Closes : {s : State} (fd : ℕ) → Changes pid s (close_row s pid fd)
  -- a descriptor that was unused gets an open file
  Shares : {s : State} (fd : ℕ) (row : Row) → at (rows_of s pid) fd ≡ None → (IsHeld s → IsSome (at s.files row.file))
      → Changes pid s (with_row s pid fd (Some row))
  -- a descriptor's flag is set or cleared
  Marks : {s : State} (fd : ℕ) (row : Row) (flag : Bool) → at (rows_of s pid) fd ≡ Some row
      → Changes pid s (with_row s pid fd (Some (record row { close_on_exec = flag })))
  -- an open file gets another status or offset
  Refiles : {s : State} (number : ℕ) (old file : OpenFile) → at s.files number ≡ Some old → file.object ≡ old.object
      → Changes pid s (replace_file s number file)
  -- a descriptor gets a new open file of a node
  Opens : {s : State} (fd node : ℕ) (file : OpenFile) (flag : Bool) → lowest_unused (rows_of s pid) 0 ≡ Some fd
      → file.object ≡ object.Node node → (IsHeld s → IsSome (at s.nodes node))
      → Changes pid s (with_row (with_file s file) pid fd (Some (record { file = length s.files; close_on_exec = flag })))
  -- a node gets other bytes
  Writes : {s : State} (node : ℕ) (bytes : List ℕ) → AreFitting s node bytes → Changes pid s (with_bytes s node bytes)
  -- a node without bytes is made under a path
  Makes : {s : State} (path : Path) (node : Node) → (HasTree s → IsFree s path) → has_room s ≡ true → node.bytes ≡ []
      → Changes pid s (record (with_node s node) { names = insert s.names path (length s.nodes) })
  -- a node that is no directory gets another name
  Links : {s : State} (old path : Path) (node : ℕ) → get s.names old ≡ Some node → is_directory s node ≡ false
      → (HasTree s → IsFree s path) → name_count s.names node < link_limit
      → Changes pid s (record s { names = insert s.names path node })
  -- a node loses a name
  Unlinks : {s : State} (path : Path) (node : ℕ) → (HasTree s → IsSpare s path node) → Changes pid s (without_name s path node)
  -- an object goes to where nothing is
  Moves : {s : State} (old : Path) (node : ℕ) (new : Path) → (HasTree s → CanMove s old node new) → Changes pid s (moved s old new)
  -- an object takes the place of another one
  Replaces : {s : State} (old : Path) (node : ℕ) (new : Path) (replaced : ℕ) → (HasTree s → CanReplace s old node new replaced)
      → Changes pid s (moved (without_name s new replaced) old new)
  -- the process works in another directory
  Enters : {s : State} (path : Path) (node : ℕ) → get s.names path ≡ Some node → is_directory s node ≡ true
      → Changes pid s (with_process s pid (replace_directory (at s.processes pid) node))
