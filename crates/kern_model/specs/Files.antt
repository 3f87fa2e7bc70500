-- What the calls on open files do: the first case that applies, in the order written.
use Rattle.std.specs.Prelude.{ℕ, ◌+◌, ◌-◌, ◌^◌, ◌==◌, nat_lt, nat_le, Bool, true, false, not, ◌&&◌, ◌||◌, List, [], ◌++◌, length, take, drop, max, replicate, Option, None, Some, bit_and, if◌then◌else◌}
use Rattle.sp_base.specs.declared.errno.Errno.TheVariants.{Ebadf, Emfile, Einval, Eisdir, Eexist, Enoent, Enospc, Efbig, Eopnotsupp}
use Rattle.kern_model.specs.declared.node.Access.{Access}
use Rattle.kern_model.specs.declared.node.Access.TheVariants.{Reading, Writing, Both}
use Rattle.kern_model.specs.declared.node.NodeKind.{NodeKind}
use Rattle.kern_model.specs.declared.node.NodeKind.TheVariants.{File, Directory, Socket}
use Rattle.kern_model.specs.declared.node.Object.{Object}
use Rattle.kern_model.specs.declared.node.Object.TheVariants as object
use Rattle.kern_model.specs.declared.node.OpenFile.{OpenFile}
use Rattle.std.specs.FinMap.{insert}
use Rattle.std.specs.Int.{w32, w64, to_le_bytes}
use Rattle.sp_base.specs.Needs.{transfer_of}
use Rattle.sp_base.specs.Table.{at, lowest_unused}
use Rattle.kern_model.specs.Name.{Path, name_count}
use Rattle.kern_model.specs.State.{State, new_file, rows_of, with_row, with_file, replace_file, with_node, with_bytes, bytes_of, kind_in, is_directory, is_socket, total_size, has_room}
use Rattle.kern_model.specs.declared.walk.Walked.{Walked}
use Rattle.kern_model.specs.declared.walk.Walked.TheVariants.{Found, Missing, Faulty}
use Rattle.kern_model.specs.Walk.{walk}
use Rattle.kern_model.specs.Step.{Step, failed, answered, wrote, or_fail, fail_if, with_found}
use Rattle.kern_model.specs.Descriptors.{with_open_file, has_bit}

-- ---- open

-- the access that open's flags ask for, none for 3
abbrev pub access_of : ℕ → Option Access
access_of flags = if bit_and flags 3 == 0 then Some Reading else if bit_and flags 3 == 1 then Some Writing else if bit_and flags 3 == 2 then Some Both else None

-- an access allows reading
abbrev pub may_read : Access → Bool
may_read Writing = false
may_read _ = true

-- an access allows writing
abbrev pub may_write : Access → Bool
may_write Reading = false
may_write _ = true

-- O_CREAT
abbrev pub creates : ℕ → Bool
creates flags = has_bit flags 512

-- O_TRUNC
abbrev pub truncates : ℕ → Bool
truncates flags = has_bit flags 1024

-- flags are known: no other bit than those of the access, O_NONBLOCK, O_APPEND, O_CREAT, O_TRUNC, O_EXCL and O_CLOEXEC
abbrev pub is_known : ℕ → Bool
is_known flags = bit_and flags 4197903 == flags

-- a descriptor gets a new open file of a node, at offset 0, with the status and the close-on-exec flag that the flags ask for
abbrev pub opened : State → ℕ → ℕ → ℕ → ℕ → Access → Step
opened s pid fd node flags access = answered fd (with_row
    (with_file s (record { object = object.Node node; access = access; append = has_bit flags 8; nonblock = has_bit flags 4; offset = 0 }))
    pid fd (Some (record { file = length s.files; close_on_exec = has_bit flags 4194304 })))

-- open of an object that is there: O_CREAT with O_EXCL EEXIST; a directory with write access or O_CREAT EISDIR; a socket EOPNOTSUPP; O_TRUNC empties
abbrev pub open_found : State → ℕ → ℕ → ℕ → ℕ → Access → Step
open_found s pid fd node flags access =
    fail_if (creates flags && has_bit flags 2048) Eexist s
    (fail_if (is_directory s node && (may_write access || creates flags)) Eisdir s
    (fail_if (is_socket s node) Eopnotsupp s
    (opened (if truncates flags then with_bytes s node [] else s) pid fd node flags access)))

-- the state with an empty file under a path
abbrev pub with_new_file : State → Path → State
with_new_file s path = record (with_node s new_file) { names = insert s.names path (length s.nodes) }

-- open of what is missing: without O_CREAT, or behind a slash, ENOENT; ENOSPC; an empty file is made
abbrev pub open_missing : State → ℕ → ℕ → Path → Bool → ℕ → Access → Step
open_missing s pid fd path slash flags access =
    fail_if (not (creates flags) || slash) Enoent s
    (fail_if (not (has_room s)) Enospc s
    (opened (with_new_file s path) pid fd (length s.nodes) flags access))

-- open of what a path leads to
abbrev pub open_walked : State → ℕ → ℕ → Walked → ℕ → Access → Step
open_walked s pid fd (Found path node named) flags access = open_found s pid fd node flags access
open_walked s pid fd (Missing path slash) flags access = open_missing s pid fd path slash flags access
open_walked s pid fd (Faulty error) flags access = failed error s

-- open: unknown flags, access 3, or O_TRUNC without write access EINVAL; EMFILE; then by the path
abbrev pub act_open : State → ℕ → List ℕ → ℕ → Step
act_open s pid path flags = or_fail (access_of flags) Einval s (λ access.
    fail_if (not (is_known flags) || truncates flags && not (may_write access)) Einval s
    (or_fail (lowest_unused (rows_of s pid) 0) Emfile s (λ fd. open_walked s pid fd (walk s pid path) flags access)))

-- ---- reading and writing

-- a word that is negative as two's complement
abbrev pub is_negative : ℕ → Bool
is_negative word = nat_le (2 ^ 63) word

-- the bytes of a file from an offset on, as many as one call moves
abbrev pub bytes_from : State → ℕ → ℕ → ℕ → List ℕ
bytes_from s node offset len = take (transfer_of len) (drop offset (bytes_of s node))

-- read of a node: not open for reading EBADF; a directory EISDIR; else its bytes from an offset on, and the state after it
abbrev pub read_node : State → ℕ → OpenFile → ℕ → ℕ → ℕ → (ℕ → State) → Step
read_node s node file offset addr len after =
    fail_if (not (may_read file.access)) Ebadf s
    (fail_if (is_directory s node) Eisdir s
    (wrote (length (bytes_from s node offset len)) addr (bytes_from s node offset len) (after (length (bytes_from s node offset len)))))

-- read of an open file: the offset moves by what was read
abbrev pub read_file : State → ℕ → OpenFile → Object → ℕ → ℕ → Step
read_file s number file (object.Node node) addr len = read_node s node file file.offset addr len (λ count. replace_file s number (record file { offset = file.offset + count }))

-- read
abbrev pub act_read : State → ℕ → ℕ → ℕ → ℕ → Step
act_read s pid fd addr len = with_open_file s pid fd (λ number file. read_file s number file file.object addr len)

-- pread of an open file: a negative offset EINVAL; the offset of the open file stays
abbrev pub pread_file : State → OpenFile → Object → ℕ → ℕ → ℕ → Step
pread_file s file (object.Node node) addr len offset = fail_if (is_negative offset) Einval s (read_node s node file offset addr len (λ count. s))

-- pread
abbrev pub act_pread : State → ℕ → ℕ → ℕ → ℕ → ℕ → Step
act_pread s pid fd addr len offset = with_open_file s pid fd (λ number file. pread_file s file file.object addr len offset)

-- a file has at most 16 MiB
abbrev pub file_limit : ℕ
file_limit = 2 ^ 24

-- all files together have at most 256 MiB
abbrev pub total_limit : ℕ
total_limit = 2 ^ 28

-- bytes that are put over others from an offset on; a gap before them is zeros
abbrev pub put_over : List ℕ → ℕ → List ℕ → List ℕ
put_over old offset new = take offset (old ++ replicate (offset - length old) 0) ++ new ++ drop (offset + length new) old

-- with a file of another length, all files together would be above their limit
abbrev pub is_above_total : State → ℕ → ℕ → Bool
is_above_total s node len = nat_lt total_limit ((total_size s - length (bytes_of s node)) + len)

-- what of the bytes fits below a file's limit
abbrev pub fitting : ℕ → List ℕ → List ℕ
fitting start bytes = take (file_limit - start) bytes

-- write to a node from a start on: not open for writing EBADF; nothing to write answers 0; a start of 16 MiB or more EFBIG; bytes past
-- 16 MiB are cut off; ENOSPC; the bytes are put, and the state after it
abbrev pub write_node : State → ℕ → OpenFile → ℕ → List ℕ → (State → ℕ → State) → Step
write_node s node file start bytes after =
    fail_if (not (may_write file.access)) Ebadf s
    (if length bytes == 0 then answered 0 s
    else fail_if (nat_le file_limit start) Efbig s
    (fail_if (is_above_total s node (max (length (bytes_of s node)) (start + length (fitting start bytes)))) Enospc s
    (answered (length (fitting start bytes)) (after (with_bytes s node (put_over (bytes_of s node) start (fitting start bytes))) (start + length (fitting start bytes))))))

-- where a write of an open file starts: at its offset, with O_APPEND at the end
abbrev pub write_start : State → ℕ → OpenFile → ℕ
write_start s node file = if file.append then length (bytes_of s node) else file.offset

-- write of an open file: the offset is then the end of what was written
abbrev pub write_file : State → ℕ → OpenFile → Object → List ℕ → Step
write_file s number file (object.Node node) bytes = write_node s node file (write_start s node file) bytes (λ next end. replace_file next number (record file { offset = end }))

-- write
abbrev pub act_write : State → ℕ → ℕ → List ℕ → Step
act_write s pid fd bytes = with_open_file s pid fd (λ number file. write_file s number file file.object bytes)

-- pwrite of an open file: a negative offset EINVAL; it writes there also with O_APPEND, and the offset of the open file stays
abbrev pub pwrite_file : State → OpenFile → Object → List ℕ → ℕ → Step
pwrite_file s file (object.Node node) bytes offset = fail_if (is_negative offset) Einval s (write_node s node file offset bytes (λ next end. next))

-- pwrite
abbrev pub act_pwrite : State → ℕ → ℕ → List ℕ → ℕ → Step
act_pwrite s pid fd bytes offset = with_open_file s pid fd (λ number file. pwrite_file s file file.object bytes offset)

-- ---- offset and length

-- a sum that is not above 2^63 - 1
abbrev pub within : ℕ → Option ℕ
within sum = if is_negative sum then None else Some sum

-- the sum of a base and a word read as two's complement, where it is from 0 to 2^63 - 1
abbrev pub seek_sum : ℕ → ℕ → Option ℕ
seek_sum base word =
    if is_negative word then (if nat_lt base (2 ^ 64 - word) then None else within (base - (2 ^ 64 - word))) else within (base + word)

-- the base of an lseek: the start, the offset or the end; a directory's end is 0
abbrev pub seek_base : State → ℕ → OpenFile → ℕ → Option ℕ
seek_base s node file whence = if whence == 0 then Some 0 else if whence == 1 then Some file.offset else if whence == 2 then Some (length (bytes_of s node)) else None

-- lseek of an open file: another whence EINVAL; a sum below 0 or above 2^63 - 1 EINVAL; it is set and answered
abbrev pub seek_file : State → ℕ → OpenFile → Object → ℕ → ℕ → Step
seek_file s number file (object.Node node) offset whence = or_fail (seek_base s node file whence) Einval s (λ base.
    or_fail (seek_sum base offset) Einval s (λ sum. answered sum (replace_file s number (record file { offset = sum }))))

-- lseek
abbrev pub act_lseek : State → ℕ → ℕ → ℕ → ℕ → Step
act_lseek s pid fd offset whence = with_open_file s pid fd (λ number file. seek_file s number file file.object offset whence)

-- bytes cut to a length, or filled with zeros
abbrev pub resized : List ℕ → ℕ → List ℕ
resized bytes len = take len (bytes ++ replicate (len - length bytes) 0)

-- a kind is a file's
abbrev pub is_file_kind : NodeKind → Bool
is_file_kind File = true
is_file_kind _ = false

-- ftruncate of an open file: not open for writing, or no file, EINVAL; above 16 MiB EFBIG; ENOSPC; cut or filled with zeros
abbrev pub truncate_file : State → OpenFile → Object → ℕ → Step
truncate_file s file (object.Node node) len =
    fail_if (not (may_write file.access && is_file_kind (kind_in (at s.nodes node)))) Einval s
    (fail_if (nat_lt file_limit len) Efbig s
    (fail_if (is_above_total s node (max (length (bytes_of s node)) len)) Enospc s
    (answered 0 (with_bytes s node (resized (bytes_of s node) len)))))

-- ftruncate
abbrev pub act_ftruncate : State → ℕ → ℕ → ℕ → Step
act_ftruncate s pid fd len = with_open_file s pid fd (λ number file. truncate_file s file file.object len)

-- ---- stat

-- the number of a kind: 1 a file, 2 a directory, 4 a socket
abbrev pub kind_number : NodeKind → ℕ
kind_number File = 1
kind_number Directory = 2
kind_number Socket = 4

-- how many links a node has: a directory has 1, any other as many as it has names
abbrev pub link_count : State → ℕ → ℕ
link_count s node = if is_directory s node then 1 else name_count s.names node

-- what fstat and stat write of a node: kind, links, size and node number
abbrev pub stat_bytes : State → ℕ → List ℕ
stat_bytes s node =
    to_le_bytes w32 (kind_number (kind_in (at s.nodes node))) ++ to_le_bytes w32 (link_count s node) ++ to_le_bytes w64 (length (bytes_of s node)) ++ to_le_bytes w64 node

-- fstat of an open file
abbrev pub stat_file : State → Object → ℕ → Step
stat_file s (object.Node node) addr = wrote 0 addr (stat_bytes s node) s

-- fstat: EBADF; else what the descriptor's node is
abbrev pub act_fstat : State → ℕ → ℕ → ℕ → Step
act_fstat s pid fd addr = with_open_file s pid fd (λ number file. stat_file s file.object addr)

-- stat: the path's faults; ENOENT; else what the node is
abbrev pub act_stat : State → ℕ → List ℕ → ℕ → Step
act_stat s pid path addr = with_found (walk s pid path) s (λ found node named. wrote 0 addr (stat_bytes s node) s)
