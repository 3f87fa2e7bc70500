-- What a write to a node and a cut of it do: the first case that applies, in the order written.
use Rattle.std.specs.Prelude.{ℕ, ◌+◌, ◌==◌, nat_lt, nat_le, List, length, max, Option, None, Some, if◌then◌else◌}
use Rattle.sp_base.specs.declared.errno.Errno.{Errno}
use Rattle.sp_base.specs.declared.errno.Errno.TheVariants.{Enospc, Efbig}
use Rattle.sp_base.specs.Table.{at}
use Rattle.kern_model.specs.State.{bytes_of, replace_bytes}
use Rattle.kern_model.specs.Files.{file_limit, is_above_total, fitting, put_over}
use Rattle.kern_nodes.specs.NodeTable.{NodeTable, state_of, with_node}

-- the bytes of the node of a number
abbrev pub contents_of : NodeTable → ℕ → List ℕ
contents_of table node = bytes_of (state_of table) node

-- the table with other bytes in a node
abbrev pub with_contents : NodeTable → ℕ → List ℕ → NodeTable
with_contents table node bytes = with_node table node (replace_bytes (at table.nodes node) bytes)

-- how long a node is after a write from a start on
abbrev pub length_after : NodeTable → ℕ → ℕ → List ℕ → ℕ
length_after table node start bytes = max (length (contents_of table node)) (start + length (fitting start bytes))

-- the error of a write to a node from a start on: none where there is nothing to write; at a start of 16 MiB or more EFBIG;
-- where all files would be above 256 MiB ENOSPC
abbrev pub write_error : NodeTable → ℕ → ℕ → List ℕ → Option Errno
write_error table node start bytes =
    if length bytes == 0 then None
    else if nat_le file_limit start then Some Efbig
    else if is_above_total (state_of table) node (length_after table node start bytes) then Some Enospc
    else None

-- the table after a write: the bytes that fit are put over those of the node; where there is nothing to write, the same
abbrev pub written : NodeTable → ℕ → ℕ → List ℕ → NodeTable
written table node start bytes =
    if length bytes == 0 then table
    else with_contents table node (put_over (contents_of table node) start (fitting start bytes))

-- the error of a cut of a node to a length: above 16 MiB EFBIG; where all files would be above 256 MiB ENOSPC
abbrev pub cut_error : NodeTable → ℕ → ℕ → Option Errno
cut_error table node len =
    if nat_lt file_limit len then Some Efbig
    else if is_above_total (state_of table) node (max (length (contents_of table node)) len) then Some Enospc
    else None
