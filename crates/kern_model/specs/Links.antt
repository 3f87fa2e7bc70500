-- What the calls on names do: the first case that applies, in the order written.
use Rattle.std.specs.Prelude.{ℕ, ◌==◌, nat_le, Bool, not, ◌&&◌, ◌||◌, List, [], length, is_some, if◌then◌else◌}
use Rattle.std.specs.FinMap.{insert, remove}
use Rattle.sp_base.specs.declared.errno.Errno.TheVariants.{Eperm, Enoent, Ebusy, Eexist, Enotdir, Eisdir, Einval, Enospc, Emlink, Enotempty}
use Rattle.sp_base.specs.Table.{at}
use Rattle.kern_model.specs.Name.{Path, is_same_path, name_count, has_entries, below, renamed}
use Rattle.kern_model.specs.State.{State, new_directory, with_process, replace_directory, with_node, is_directory, is_working_directory, without_unused, has_room}
use Rattle.kern_model.specs.declared.walk.Walked.{Walked}
use Rattle.kern_model.specs.declared.walk.Walked.TheVariants.{Found, Missing, Faulty}
use Rattle.kern_model.specs.Walk.{walk}
use Rattle.kern_model.specs.Step.{Step, failed, answered, fail_if, with_found, with_missing}

-- the path is the root's
abbrev pub is_root : Path → Bool
is_root path = is_same_path path []

-- the state without a path, and without its node where nothing else keeps it
abbrev pub without_name : State → Path → ℕ → State
without_name s path node = without_unused (record s { names = remove s.names path }) node

-- a node has at most 32,767 names
abbrev pub link_limit : ℕ
link_limit = 32767

-- link: the old path's faults and ENOENT; a directory EPERM; the new path's faults; found EEXIST; 32,767 links EMLINK; the node has one name more
abbrev pub act_link : State → ℕ → List ℕ → List ℕ → Step
act_link s pid old new = with_found (walk s pid old) s (λ old_path node named.
    fail_if (is_directory s node) Eperm s
    (with_missing (walk s pid new) Eexist s (λ path slash.
    fail_if slash Enoent s
    (fail_if (nat_le link_limit (name_count s.names node)) Emlink s
    (answered 0 (record s { names = insert s.names path node }))))))

-- unlink: the path's faults; ENOENT; a directory EPERM; the name is gone
abbrev pub act_unlink : State → ℕ → List ℕ → Step
act_unlink s pid text = with_found (walk s pid text) s (λ path node named.
    fail_if (is_directory s node) Eperm s (answered 0 (without_name s path node)))

-- mkdir: the path's faults; found EEXIST; ENOSPC; an empty directory is made
abbrev pub act_mkdir : State → ℕ → List ℕ → Step
act_mkdir s pid text = with_missing (walk s pid text) Eexist s (λ path slash.
    fail_if (not (has_room s)) Enospc s
    (answered 0 (record (with_node s new_directory) { names = insert s.names path (length s.nodes) })))

-- rmdir: the path's faults; ENOENT; no directory ENOTDIR; the root EBUSY; a last `.` or `..` EINVAL; entries ENOTEMPTY; some process's
-- working directory EBUSY; the name and the directory are gone
abbrev pub act_rmdir : State → ℕ → List ℕ → Step
act_rmdir s pid text = with_found (walk s pid text) s (λ path node named.
    fail_if (not (is_directory s node)) Enotdir s
    (fail_if (is_root path) Ebusy s
    (fail_if (not named) Einval s
    (fail_if (has_entries s.names path) Enotempty s
    (fail_if (is_working_directory s node) Ebusy s
    (answered 0 (without_name s path node)))))))

-- chdir: the path's faults; ENOENT; no directory ENOTDIR; the node is the process's working directory
abbrev pub act_chdir : State → ℕ → List ℕ → Step
act_chdir s pid text = with_found (walk s pid text) s (λ path node named.
    fail_if (not (is_directory s node)) Enotdir s
    (answered 0 (with_process s pid (replace_directory (at s.processes pid) node))))

-- ---- rename

-- a path is below another
abbrev pub is_below : Path → Path → Bool
is_below path top = is_some (below path top) && not (is_same_path path top)

-- the state after the old path, and each path below it, is below the new one
abbrev pub moved : State → Path → Path → State
moved s old new = record s { names = renamed s.names old new }

-- rename onto a missing object: the root EBUSY; a last `.` or `..` EINVAL; a directory to a place inside itself EINVAL; it is moved
abbrev pub rename_to_missing : State → Path → ℕ → Bool → Path → Step
rename_to_missing s old node named new =
    fail_if (is_root old) Ebusy s
    (fail_if (not named) Einval s
    (fail_if (is_below new old) Einval s
    (answered 0 (moved s old new))))

-- rename onto an object by its kind: a file onto a directory EISDIR; a directory onto another kind ENOTDIR, onto one with entries ENOTEMPTY,
-- onto some process's working directory EBUSY; else the old object takes its place
abbrev pub rename_over : State → Path → ℕ → Path → ℕ → Step
rename_over s old node new replaced =
    fail_if (not (is_directory s node) && is_directory s replaced) Eisdir s
    (fail_if (is_directory s node && not (is_directory s replaced)) Enotdir s
    (fail_if (is_directory s replaced && has_entries s.names new) Enotempty s
    (fail_if (is_working_directory s replaced) Ebusy s
    (answered 0 (moved (without_name s new replaced) old new)))))

-- rename onto an object that is there: the same path under its name is done already; the root EBUSY; a last `.` or `..` EINVAL; one object under
-- two names loses the old one; a directory to a place inside itself EINVAL; then by the kinds
abbrev pub rename_to_found : State → Path → ℕ → Bool → Path → ℕ → Bool → Step
rename_to_found s old node named new replaced new_named =
    if named && new_named && is_same_path old new then answered 0 s
    else fail_if (is_root old || is_root new) Ebusy s
    (fail_if (not (named && new_named)) Einval s
    (if node == replaced then answered 0 (without_name s old node)
    else fail_if (is_below new old) Einval s (rename_over s old node new replaced)))

-- rename by what the new path leads to; behind a slash only a directory may come to a missing place
abbrev pub rename_to : State → Path → ℕ → Bool → Walked → Step
rename_to s old node named (Found new replaced new_named) = rename_to_found s old node named new replaced new_named
rename_to s old node named (Missing new slash) = fail_if (slash && not (is_directory s node)) Enoent s (rename_to_missing s old node named new)
rename_to s old node named (Faulty error) = failed error s

-- rename: the old path's faults and ENOENT; the new path's faults; then by what the new path leads to
abbrev pub act_rename : State → ℕ → List ℕ → List ℕ → Step
act_rename s pid old new = with_found (walk s pid old) s (λ path node named. rename_to s path node named (walk s pid new))
