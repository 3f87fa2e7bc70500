-- What a tree of files is to its callers.
use Rattle.std.specs.Prelude.{ℕ, ◌+◌, ◌==◌, max, Result, Ok, Err, nat_lt, nat_le, Bool, not, ◌||◌, ◌&&◌, List, [], ◌∷◌, ◌++◌, length, Option, None, Some, is_some, slice_index, slice_set, refl, if◌then◌else◌}
use Rattle.std.specs.Coded.{Coded, code_by, coded×, coded_ℕ, coded_list, coded_option}
use Rattle.std.specs.FinMap.{get, insert, remove}
use Rattle.sp_base.specs.Table.{at}
use Rattle.sp_base.specs.declared.errno.Errno.{Errno}
use Rattle.sp_base.specs.declared.errno.Errno.TheVariants.{Eperm, Enoent, Eexist, Enotdir, Eisdir, Einval, Enospc, Emlink, Enotempty, Efbig}
use Rattle.kern_model.specs.declared.node.Node.{Node}
use Rattle.kern_model.specs.contracts.node.Node as node
use Rattle.kern_model.specs.declared.node.NodeKind.{NodeKind}
use Rattle.kern_model.specs.Name.{Path, Names, name_count, has_entries, renamed, is_same_path}
use Rattle.kern_model.specs.NameMap.{names_code}
use Rattle.kern_model.specs.State.{State, opening, is_directory, has_room, bytes_of, replace_bytes}
use Rattle.kern_model.specs.Files.{file_limit, is_above_total, fitting, put_over}
use Rattle.kern_model.specs.Links.{is_below, link_limit}
use Rattle.kern_nodes.specs.NodeTable as table

-- the nodes by absolute path, the nodes by number, and how many holders each number has
pub record Files : Type 0 where
  pub names : Names
  pub nodes : List (Option Node)
  pub holders : List ℕ

-- the code of the files
abbrev pub files_code : Coded Files
files_code = code_by (Names × (List (Option Node) × List ℕ)) (coded× names_code (coded× (coded_list (coded_option node.the_row.coded)) (coded_list coded_ℕ)))
    (λ f. (f.names, (f.nodes, f.holders))) (λ p. record { names = p.0; nodes = p.1.0; holders = p.1.1 }) (λ _. refl)

-- the root directory alone
abbrev pub fresh_files : Files
fresh_files = record { names = opening.names; nodes = opening.nodes; holders = table.fresh_nodes.holders }

-- a kernel's state that has these files, and is else the opening one
abbrev pub state_of : Files → State
state_of f = record opening { names = f.names; nodes = f.nodes }

-- how many holders the node of a number has
abbrev pub holders_of : Files → ℕ → ℕ
holders_of f node = slice_index f.holders node

-- a node stays while it has a name or a holder
abbrev pub is_kept : Files → ℕ → Bool
is_kept f node = nat_lt 0 (name_count f.names node) || nat_lt 0 (holders_of f node)

-- the files without a node that neither a name nor a holder keeps
abbrev pub without_unkept : Files → ℕ → Files
without_unkept f node = if is_kept f node then f else record f { nodes = slice_set f.nodes node None }

-- the files with another count of holders of a node
abbrev pub with_holders : Files → ℕ → ℕ → Files
with_holders f node holders = record f { holders = slice_set f.holders node holders }

-- the files with an empty node more, under a path
abbrev pub with_new : Files → Path → NodeKind → Files
with_new f path kind = record {
  names = insert f.names path (length f.nodes);
  nodes = f.nodes ++ Some (record { kind = kind; bytes = [] }) ∷ [];
  holders = f.holders ++ 0 ∷ [];
}

-- the files with one name more for a node
abbrev pub with_name : Files → Path → ℕ → Files
with_name f path node = record f { names = insert f.names path node }

-- the files without a path, and without its node where nothing else keeps it
abbrev pub without_name : Files → Path → ℕ → Files
without_name f path node = without_unkept (record f { names = remove f.names path }) node

-- the files after what was `old`, and each path below it, is `new`
abbrev pub moved : Files → Path → Path → Files
moved f old new = record f { names = renamed f.names old new }

-- the files with other bytes in a node
abbrev pub with_bytes : Files → ℕ → List ℕ → Files
with_bytes f node bytes = record f { nodes = slice_set f.nodes node (replace_bytes (at f.nodes node) bytes) }

-- ---- the errors: the first case that applies, in the order written

-- a node can't be made under a path: EEXIST where something is there, ENOSPC where there is no room for a node
abbrev pub create_error : Files → Path → Option Errno
create_error f path =
    if is_some (get f.names path) then Some Eexist
    else if not (has_room (state_of f)) then Some Enospc
    else None

-- a node can't have a path as one name more: EPERM of a directory, EEXIST where something is there, EMLINK at 32,767 names
abbrev pub link_error : Files → ℕ → Path → Option Errno
link_error f node path =
    if is_directory (state_of f) node then Some Eperm
    else if is_some (get f.names path) then Some Eexist
    else if nat_le link_limit (name_count f.names node) then Some Emlink
    else None

-- what is found can't be unlinked: EPERM of a directory
abbrev pub unlink_error_of : Files → Option ℕ → Option Errno
unlink_error_of f None = Some Enoent
unlink_error_of f (Some node) = if is_directory (state_of f) node then Some Eperm else None

-- a path can't be unlinked: ENOENT where nothing is there; EPERM of a directory
abbrev pub unlink_error : Files → Path → Option Errno
unlink_error f path = unlink_error_of f (get f.names path)

-- what is found can't be removed as a directory: ENOTDIR where it is none, ENOTEMPTY where it has entries
abbrev pub rmdir_error_of : Files → Path → Option ℕ → Option Errno
rmdir_error_of f path None = Some Enoent
rmdir_error_of f path (Some node) =
    if not (is_directory (state_of f) node) then Some Enotdir
    else if has_entries f.names path then Some Enotempty
    else None

-- a path can't be removed as a directory: ENOENT where nothing is there; ENOTDIR; ENOTEMPTY
abbrev pub rmdir_error : Files → Path → Option Errno
rmdir_error f path = rmdir_error_of f path (get f.names path)

-- a node can't take the place of what is there: EISDIR of another object for a directory; ENOTDIR of a directory for another
-- object; ENOTEMPTY for a directory with entries
abbrev pub replace_error : Files → ℕ → Path → ℕ → Option Errno
replace_error f node new replaced =
    if not (is_directory (state_of f) node) && is_directory (state_of f) replaced then Some Eisdir
    else if is_directory (state_of f) node && not (is_directory (state_of f) replaced) then Some Enotdir
    else if is_directory (state_of f) replaced && has_entries f.names new then Some Enotempty
    else None

-- a node can't have another path: one object under two names can; EINVAL of a place inside itself; then by what is there
abbrev pub move_error : Files → Path → ℕ → Path → Option ℕ → Option Errno
move_error f old node new None = if is_below new old then Some Einval else None
move_error f old node new (Some replaced) =
    if node == replaced then None
    else if is_below new old then Some Einval
    else replace_error f node new replaced

-- what is found can't be renamed: ENOENT where nothing is; then by what the new path has
abbrev pub rename_error_of : Files → Path → Option ℕ → Path → Option Errno
rename_error_of f old None new = Some Enoent
rename_error_of f old (Some node) new = move_error f old node new (get f.names new)

-- a path can't be renamed: ENOENT, EINVAL, EISDIR, ENOTDIR, ENOTEMPTY
abbrev pub rename_error : Files → Path → Path → Option Errno
rename_error f old new = rename_error_of f old (get f.names old) new

-- the files after a node has another path: one object under two names loses the old one; what else was there is gone
abbrev pub renamed_to : Files → Path → ℕ → Path → Option ℕ → Files
renamed_to f old node new None = moved f old new
renamed_to f old node new (Some replaced) =
    if is_same_path old new then f
    else if node == replaced then without_name f old node
    else moved (without_name f new replaced) old new

-- the error of a result, none for a success
abbrev pub errno_in : {T : Type 0} → Result T Errno → Option Errno
errno_in (Ok _) = None
errno_in (Err error) = Some error

-- how long a node is after a write from a start on
abbrev pub length_after : Files → ℕ → ℕ → List ℕ → ℕ
length_after f node start bytes = max (length (bytes_of (state_of f) node)) (start + length (fitting start bytes))

-- the error of a write to a node from a start on: none where there is nothing to write; at a start of 16 MiB or more EFBIG;
-- where all files would be above 256 MiB ENOSPC
abbrev pub write_error : Files → ℕ → ℕ → List ℕ → Option Errno
write_error f node start bytes =
    if length bytes == 0 then None
    else if nat_le file_limit start then Some Efbig
    else if is_above_total (state_of f) node (length_after f node start bytes) then Some Enospc
    else None

-- the files after a write: the bytes that fit are put over those of the node; where there is nothing to write, the same
abbrev pub written : Files → ℕ → ℕ → List ℕ → Files
written f node start bytes =
    if length bytes == 0 then f
    else with_bytes f node (put_over (bytes_of (state_of f) node) start (fitting start bytes))

-- the error of a cut of a node to a length: above 16 MiB EFBIG; where all files would be above 256 MiB ENOSPC
abbrev pub cut_error : Files → ℕ → ℕ → Option Errno
cut_error f node len =
    if nat_lt file_limit len then Some Efbig
    else if is_above_total (state_of f) node (max (length (bytes_of (state_of f) node)) len) then Some Enospc
    else None
