-- What a call writes has room at the places where it may write.
use Rattle.std.specs.Prelude.{if◌then◌else◌}
use Rattle.std.proofs.Common.{◌≡◌, ℕ, ◌≤◌, Bool, true, false, ◌==◌, List, [], ◌∷◌, length, drop, Some, None, refl, arith, length-take}
use Rattle.std.proofs.lemmas.Bool.{eqb-true, eqb-false}
use Rattle.sp_base.specs.Needs.{range_of, transfer_of, transfer_range, stat_range}
use Rattle.sp_base.specs.declared.limits.TheConstants.{TRANSFER}
use Rattle.sp_base.specs.declared.call.Call.{Call}
use Rattle.sp_base.specs.declared.call.Call.TheVariants as call
use Rattle.sp_base.specs.declared.errno.Errno.TheVariants.{Enosys}
use Rattle.kern_model.specs.declared.node.Object.{Object}
use Rattle.kern_model.specs.declared.node.Object.TheVariants as object
use Rattle.kern_model.specs.declared.node.OpenFile.{OpenFile}
use Rattle.kern_model.specs.declared.node.Access.{Access}
use Rattle.kern_model.specs.declared.operation.Ins.{Ins}
use Rattle.kern_model.specs.declared.operation.Ins.TheVariants.{Given, Fault}
use Rattle.kern_model.specs.declared.operation.Op.TheVariants.{Sys}
use Rattle.kern_model.specs.declared.outcome.Outcome.{Outcome}
use Rattle.kern_model.specs.declared.walk.Walked.{Walked}
use Rattle.kern_model.specs.declared.walk.Walked.TheVariants.{Found, Missing, Faulty}
use Rattle.kern_model.specs.Act.{first, act, act_call}
use Rattle.kern_model.specs.Files.{open_walked, bytes_from, read_file, pread_file, write_file, pwrite_file, seek_file, truncate_file, stat_bytes, stat_file}
use Rattle.kern_model.specs.Links.{rename_to}
use Rattle.kern_model.specs.Name.{Path}
use Rattle.kern_model.specs.Outcome.{failure}
use Rattle.kern_model.specs.State.{State, bytes_of}
use Rattle.kern_model.specs.Step.{Step, answered, piece_at}
use Rattle.kern_model.specs.Walk.{walk}
use Rattle.kern_model.proofs.Holds.{Holds, HoldsOfErrors, holds_is, each_is, holds_failed, holds_answered, holds_wrote, holds_if, holds_fail_if, holds_or_fail, holds_found, holds_missing}
use Rattle.sp_hub.specs.Outs.{HaveRooms, lens_of, rooms_of}

-- what a step writes has these rooms
abbrev pub Writes : List ℕ → Step → Type 0
Writes rooms step = Holds Unit (λ outcome t. HaveRooms rooms outcome.outs) step

-- ---- the steps that write nothing

module _ (rooms : List ℕ) (s : State) where
  no_error : HoldsOfErrors (λ outcome t. HaveRooms rooms outcome.outs) s
  no_error error = tt

  says : (value : ℕ) (t : State) → Writes rooms (answered value t)
  says value t = holds_answered value t tt

  opens : (pid fd : ℕ) (w : Walked) (flags : ℕ) (access : Access) → Writes rooms (open_walked s pid fd w flags access)
  opens pid fd (Found path node named) flags access = search (holds_fail_if, says, no_error)
  opens pid fd (Missing path slash) flags access = search (holds_fail_if, says, no_error)
  opens pid fd (Faulty error) flags access = search (holds_failed, no_error)

  writes : (number : ℕ) (file : OpenFile) (o : Object) (bytes : List ℕ) → Writes rooms (write_file s number file o bytes)
  writes number file (object.Node node) bytes = search (holds_if, holds_fail_if, says, no_error) depth 9

  pwrites : (file : OpenFile) (o : Object) (bytes : List ℕ) (offset : ℕ) → Writes rooms (pwrite_file s file o bytes offset)
  pwrites file (object.Node node) bytes offset = search (holds_if, holds_fail_if, says, no_error) depth 9

  seeks : (number : ℕ) (file : OpenFile) (o : Object) (offset whence : ℕ) → Writes rooms (seek_file s number file o offset whence)
  seeks number file (object.Node node) offset whence = search (holds_or_fail, says, no_error)

  truncates : (file : OpenFile) (o : Object) (len : ℕ) → Writes rooms (truncate_file s file o len)
  truncates file (object.Node node) len = search (holds_fail_if, says, no_error)

  renames : (old : Path) (node : ℕ) (named : Bool) (w : Walked) → Writes rooms (rename_to s old node named w)
  renames old node named (Found new replaced new_named) = search (holds_if, holds_fail_if, says, no_error) depth 12
  renames old node named (Missing new slash) = search (holds_fail_if, says, no_error) depth 9
  renames old node named (Faulty error) = search (holds_failed, no_error)

-- ---- the steps that write

-- a piece of at most so many bytes has room where a range has so many
piece_fits : (addr place n : ℕ) (bytes : List ℕ) → length bytes ≤ n → n ≤ TRANSFER → HaveRooms (lens_of (range_of place n, None)) (piece_at addr bytes)
piece_fits addr place n bytes fits few = by_tests (n == 0) (length bytes == 0) refl refl where
  by_tests : (none empty : Bool) → (n == 0) ≡ none → (length bytes == 0) ≡ empty
      → HaveRooms (lens_of (if none then None else Some (record { addr = place; len = n }), None)) (if empty then [] else record { addr = addr; bytes = bytes } ∷ [])
  by_tests none true e f = tt
  by_tests true false e f = absurd (let zero = eqb-true n 0 e in let some = eqb-false (length bytes) 0 f in some (omega arith))
  by_tests false false e f = (let some = eqb-false (length bytes) 0 f in record { some = omega arith; fits = fits; few = omega arith }, tt)

-- what is read is no more than one call moves
read_few : (s : State) (node offset len : ℕ) → length (bytes_from s node offset len) ≤ transfer_of len
read_few s node offset len = let cut = length-take (transfer_of len) (drop offset (bytes_of s node)) in omega arith

moved_few : (len : ℕ) → transfer_of len ≤ TRANSFER
moved_few len = omega arith

module _ (s : State) where
  reads : (number : ℕ) (file : OpenFile) (o : Object) (addr len : ℕ) → Writes (lens_of (transfer_range addr len, None)) (read_file s number file o addr len)
  reads number file (object.Node node) addr len =
      let fits = piece_fits addr addr (transfer_of len) (bytes_from s node file.offset len) (read_few s node file.offset len) (moved_few len) in
      search (holds_fail_if, holds_wrote, no_error)

  preads : (file : OpenFile) (o : Object) (addr len offset : ℕ) → Writes (lens_of (transfer_range addr len, None)) (pread_file s file o addr len offset)
  preads file (object.Node node) addr len offset =
      let fits = piece_fits addr addr (transfer_of len) (bytes_from s node offset len) (read_few s node offset len) (moved_few len) in
      search (holds_fail_if, holds_wrote, no_error)

  stat_fits : (node addr : ℕ) → HaveRooms (lens_of (stat_range addr, None)) (piece_at addr (stat_bytes s node))
  stat_fits node addr = (record { some = omega arith; fits = omega arith; few = omega arith }, tt)

  stats : (o : Object) (addr : ℕ) → Writes (lens_of (stat_range addr, None)) (stat_file s o addr)
  stats (object.Node node) addr = holds_wrote 0 addr (stat_bytes s node) s (stat_fits node addr)

-- what each call writes has room at the places where it may write
call_writes : (s : State) (pid : ℕ) (c : Call) (pieces : List (List ℕ)) → Writes (rooms_of c) (act_call s pid c pieces)
call_writes s pid call.Getpid pieces = holds_answered pid s tt
call_writes s pid (call.Open path flags) pieces = search (holds_fail_if, holds_or_fail, opens, no_error)
call_writes s pid (call.Close fd) pieces = search (holds_or_fail, says, no_error)
call_writes s pid (call.Read fd out len) pieces = search (holds_or_fail, reads, no_error)
call_writes s pid (call.Write fd input len) pieces = search (holds_or_fail, writes, no_error)
call_writes s pid (call.Pread fd out len offset) pieces = search (holds_or_fail, preads, no_error)
call_writes s pid (call.Pwrite fd input len offset) pieces = search (holds_or_fail, pwrites, no_error)
call_writes s pid (call.Lseek fd offset whence) pieces = search (holds_or_fail, seeks, no_error)
call_writes s pid (call.Ftruncate fd len) pieces = search (holds_or_fail, truncates, no_error)
call_writes s pid (call.Fstat fd out) pieces = search (holds_or_fail, stats, no_error)
call_writes s pid (call.Stat path out) pieces = holds_found s (walk s pid (first pieces)) _ (λ error. tt) (λ found node named e. holds_wrote 0 out (stat_bytes s node) s (stat_fits s node out))
call_writes s pid (call.Link path new_path) pieces = search (holds_fail_if, holds_found, holds_missing, says, no_error) depth 9
call_writes s pid (call.Unlink path) pieces = search (holds_fail_if, holds_found, says, no_error)
call_writes s pid (call.Rename path new_path) pieces = search (holds_found, renames, no_error)
call_writes s pid (call.Mkdir path) pieces = search (holds_fail_if, holds_missing, says, no_error)
call_writes s pid (call.Rmdir path) pieces = search (holds_fail_if, holds_found, says, no_error) depth 9
call_writes s pid (call.Chdir path) pieces = search (holds_fail_if, holds_found, says, no_error)
call_writes s pid (call.Dup fd) pieces = search (holds_or_fail, says, no_error)
call_writes s pid (call.Dup2 fd new_fd) pieces = search (holds_failed, holds_if, holds_or_fail, says, no_error)
call_writes s pid (call.Fcntl fd command argument) pieces = search (holds_failed, holds_if, holds_fail_if, holds_or_fail, says, no_error) depth 12
call_writes s pid (call.Unknown num words) pieces = holds_failed s Enosys (λ error. tt)
call_writes s pid _ pieces = record { is = tt }

-- the outcome of a call has room for all that it writes
pub outs_have_rooms : (s : State) (pid : ℕ) (c : Call) (ins : Ins) (outcome : Outcome) (t : State) → act s pid (Sys c) ins ≡ Some (outcome, t) → HaveRooms (rooms_of c) outcome.outs
outs_have_rooms s pid c (Given pieces) outcome t e = holds_is outcome t (call_writes s pid c pieces) e
outs_have_rooms s pid c (Fault error) outcome t e = each_is (λ o t. HaveRooms (rooms_of c) o.outs) (Some (failure error, s)) outcome t tt e
