-- What a kernel holds.
use Rattle.std.specs.Prelude.{ℕ, zero, suc, ◌+◌, ◌^◌, ◌==◌, nat_lt, Bool, true, false, not, ◌&&◌, ◌||◌, List, [], ◌∷◌, ◌++◌, length, sum_by, count_by, Option, None, Some, is_some, replicate, slice_set, if◌then◌else◌}
use Rattle.std.specs.List.{list_any}
use Rattle.std.specs.FinMap.{empty, insert}
use Rattle.sp_base.specs.declared.limits.TheConstants.{DESCRIPTORS, PROCESSES, FIRST_PROCESS}
use Rattle.kern_model.specs.declared.node.Node.{Node}
use Rattle.kern_model.specs.declared.node.NodeKind.{NodeKind}
use Rattle.kern_model.specs.declared.node.NodeKind.TheVariants.{File, Directory, Socket}
use Rattle.kern_model.specs.declared.node.Object.{Object}
use Rattle.kern_model.specs.declared.node.Object.TheVariants as object
use Rattle.kern_model.specs.declared.node.OpenFile.{OpenFile}
use Rattle.kern_model.specs.declared.node.Row.{Row}
use Rattle.sp_base.specs.Table.{at}
use Rattle.kern_model.specs.Name.{Names, name_count}

-- a process: its working directory, a node, and its rows by descriptor
pub record Process : Type 0 where
  pub directory : ℕ
  pub rows : List (Option Row)

-- the nodes by absolute path; the nodes, the processes and the open files by number. A node's or an open file's
-- number is how many were made before it, so that no number comes again: the next one is the length of the table
pub record State : Type 0 where
  pub names : Names
  pub nodes : List (Option Node)
  pub processes : List (Option Process)
  pub files : List (Option OpenFile)

-- the number of the root directory; no node has the number 0
abbrev pub root : ℕ
root = 1

-- an empty directory
abbrev pub new_directory : Node
new_directory = record { kind = Directory; bytes = [] }

-- an empty file
abbrev pub new_file : Node
new_file = record { kind = File; bytes = [] }

-- a process with no descriptors in the root directory
abbrev pub fresh_process : Process
fresh_process = record { directory = root; rows = replicate DESCRIPTORS None }

-- how many numbers of processes there are, with those that no process has
abbrev pub process_numbers : ℕ
process_numbers = FIRST_PROCESS + PROCESSES

-- the state before any operation: the root directory, and no process
abbrev pub opening : State
opening = record { names = insert empty [] root; nodes = None ∷ Some new_directory ∷ []; processes = replicate process_numbers None; files = [] }

-- ---- processes and descriptors

-- the rows of a process, none where there is no process
abbrev pub rows_in : Option Process → List (Option Row)
rows_in None = []
rows_in (Some process) = process.rows

-- the rows of the process of a number
abbrev pub rows_of : State → ℕ → List (Option Row)
rows_of s pid = rows_in (at s.processes pid)

-- the working directory of a process, the root where there is no process
abbrev pub directory_in : Option Process → ℕ
directory_in None = root
directory_in (Some process) = process.directory

-- the working directory of the process of a number
abbrev pub directory_of : State → ℕ → ℕ
directory_of s pid = directory_in (at s.processes pid)

-- the state with another process, or none, at a number
abbrev pub with_process : State → ℕ → Option Process → State
with_process s pid process = record s { processes = slice_set s.processes pid process }

-- a process with other rows, where there is a process
abbrev pub replace_rows : Option Process → List (Option Row) → Option Process
replace_rows None rows = None
replace_rows (Some process) rows = Some (record process { rows = rows })

-- a process in another working directory, where there is a process
abbrev pub replace_directory : Option Process → ℕ → Option Process
replace_directory None node = None
replace_directory (Some process) node = Some (record process { directory = node })

-- the state with another row, or none, at a descriptor of a process
abbrev pub with_row : State → ℕ → ℕ → Option Row → State
with_row s pid fd row = with_process s pid (replace_rows (at s.processes pid) (slice_set (rows_of s pid) fd row))

-- a row is of an open file
abbrev pub is_row_of : ℕ → Option Row → Bool
is_row_of file None = false
is_row_of file (Some row) = row.file == file

-- some row of some process is of an open file
abbrev pub is_held : State → ℕ → Bool
is_held s file = list_any (λ process. list_any (is_row_of file) (rows_in process)) s.processes

-- a process's working directory is this node
abbrev pub is_directory_of : ℕ → Option Process → Bool
is_directory_of node None = false
is_directory_of node (Some process) = process.directory == node

-- some process's working directory is this node
abbrev pub is_working_directory : State → ℕ → Bool
is_working_directory s node = list_any (is_directory_of node) s.processes

-- ---- nodes

-- the kind of a node
abbrev pub kind_in : Option Node → NodeKind
kind_in None = File
kind_in (Some node) = node.kind

-- the bytes of a node, none where there is no node
abbrev pub bytes_in : Option Node → List ℕ
bytes_in None = []
bytes_in (Some node) = node.bytes

-- the bytes of the node of a number
abbrev pub bytes_of : State → ℕ → List ℕ
bytes_of s node = bytes_in (at s.nodes node)

-- a kind is a directory's
abbrev pub is_directory_kind : NodeKind → Bool
is_directory_kind Directory = true
is_directory_kind _ = false

-- a kind is a socket's
abbrev pub is_socket_kind : NodeKind → Bool
is_socket_kind Socket = true
is_socket_kind _ = false

-- the node of a number is a directory
abbrev pub is_directory : State → ℕ → Bool
is_directory s node = is_directory_kind (kind_in (at s.nodes node))

-- the node of a number is a socket
abbrev pub is_socket : State → ℕ → Bool
is_socket s node = is_socket_kind (kind_in (at s.nodes node))

-- how many bytes all files have together
abbrev pub total_size : State → ℕ
total_size s = sum_by (λ node. length (bytes_in node)) s.nodes

-- how many nodes there are
abbrev pub node_count : State → ℕ
node_count s = count_by is_some s.nodes

-- there are at most 65,536 nodes
abbrev pub node_limit : ℕ
node_limit = 65536

-- another node can be made: there are fewer than the limit, and the number 2^64 - 1 wasn't given
abbrev pub has_room : State → Bool
has_room s = nat_lt (node_count s) node_limit && nat_lt (length s.nodes) (2 ^ 64)

-- a node with other bytes, where there is a node
abbrev pub replace_bytes : Option Node → List ℕ → Option Node
replace_bytes None bytes = None
replace_bytes (Some node) bytes = Some (record node { bytes = bytes })

-- the state with other bytes in a node
abbrev pub with_bytes : State → ℕ → List ℕ → State
with_bytes s node bytes = record s { nodes = slice_set s.nodes node (replace_bytes (at s.nodes node) bytes) }

-- the state with one node more, whose number is the length of the table before
abbrev pub with_node : State → Node → State
with_node s node = record s { nodes = s.nodes ++ Some node ∷ [] }

-- an object is this node
abbrev pub is_node : ℕ → Object → Bool
is_node node (object.Node number) = number == node

-- an open file is of a node
abbrev pub is_of_node : ℕ → Option OpenFile → Bool
is_of_node node None = false
is_of_node node (Some file) = is_node node file.object

-- a node stays while it has a name or an open file
abbrev pub stays : State → ℕ → Bool
stays s node = nat_lt 0 (name_count s.names node) || list_any (is_of_node node) s.files

-- the state without a node that neither a name nor an open file keeps
abbrev pub without_unused : State → ℕ → State
without_unused s node = if stays s node then s else record s { nodes = slice_set s.nodes node None }

-- ---- open files

-- the state with one open file more, whose number is the length of the table before
abbrev pub with_file : State → OpenFile → State
with_file s file = record s { files = s.files ++ Some file ∷ [] }

-- the state with another open file of the same number
abbrev pub replace_file : State → ℕ → OpenFile → State
replace_file s number file = record s { files = slice_set s.files number (Some file) }

-- the state after an object lost an open file
abbrev pub let_go_of : State → Object → State
let_go_of s (object.Node node) = without_unused s node

-- the state after an open file is gone: its node goes with it where nothing keeps it
abbrev pub let_go_object : State → Option OpenFile → State
let_go_object s None = s
let_go_object s (Some file) = let_go_of s file.object

-- the state without an open file that no row is of
abbrev pub let_go : State → ℕ → State
let_go s file = if is_held s file then s else let_go_object (record s { files = slice_set s.files file None }) (at s.files file)

-- the state without a row, and without what only that row kept
abbrev pub close_row_by : State → ℕ → ℕ → Option Row → State
close_row_by s pid fd None = s
close_row_by s pid fd (Some row) = let_go (with_row s pid fd None) row.file

-- the state without the row of a descriptor
abbrev pub close_row : State → ℕ → ℕ → State
close_row s pid fd = close_row_by s pid fd (at (rows_of s pid) fd)

-- an exec closes the row
abbrev pub closes : Option Row → Bool
closes None = false
closes (Some row) = row.close_on_exec

-- the state without the rows below a descriptor that an exit, or an exec, closes
abbrev pub close_rows : Bool → State → ℕ → ℕ → State
close_rows only_marked s pid zero = s
close_rows only_marked s pid (suc fd) =
    let before = close_rows only_marked s pid fd in
    if not only_marked || closes (at (rows_of before pid) fd) then close_row before pid fd else before
