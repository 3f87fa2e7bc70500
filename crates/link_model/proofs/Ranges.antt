-- What a call writes lies inside its ranges.
use Rattle.std.specs.Prelude.{if◌then◌else◌}
use Rattle.std.specs.List.{AllByRecursion, list_any}
use Rattle.std.specs.Option.{option_to_list}
use Rattle.std.proofs.Common.{◌≡◌, ℕ, ◌≤◌, Bool, true, false, ◌||◌, ◌==◌, List, [], ◌∷◌, ◌++◌, length, Some, None, refl, arith}
use Rattle.std.proofs.lemmas.Bool.Decides.{nat_tests}
use Rattle.std.proofs.lemmas.List.{places}
use Rattle.sp_base.specs.Needs.{outs_of, range_of, transfer_of}
use Rattle.sp_base.specs.declared.call.Call.{Call}
use Rattle.sp_base.specs.declared.call.Call.TheVariants as call
use Rattle.sp_base.specs.declared.limits.TheConstants.{STAT}
use Rattle.sp_base.specs.declared.need.Range.{Range}
use Rattle.kern_model.specs.Act.{act, act_call}
use Rattle.kern_model.specs.Files.{open_walked, bytes_from, read_file, pread_file, write_file, pwrite_file, seek_file, truncate_file, stat_bytes, stat_file}
use Rattle.kern_model.specs.Links.{rename_to}
use Rattle.kern_model.specs.Outcome.{failure}
use Rattle.kern_model.specs.State.{State}
use Rattle.kern_model.specs.Step.{Step, answered, piece_at, wrote}
use Rattle.kern_model.specs.declared.node.Access.{Access}
use Rattle.kern_model.specs.declared.node.Object.{Object}
use Rattle.kern_model.specs.declared.node.Object.TheVariants as object
use Rattle.kern_model.specs.declared.node.OpenFile.{OpenFile}
use Rattle.kern_model.specs.declared.operation.Ins.{Ins}
use Rattle.kern_model.specs.declared.operation.Ins.TheVariants.{Given, Fault}
use Rattle.kern_model.specs.declared.operation.Op.TheVariants.{Sys}
use Rattle.kern_model.specs.declared.outcome.OutPiece.{OutPiece}
use Rattle.kern_model.specs.declared.outcome.Outcome.{Outcome}
use Rattle.kern_model.specs.declared.walk.Walked.{Walked}
use Rattle.kern_model.specs.declared.walk.Walked.TheVariants.{Found, Missing, Faulty}
use Rattle.kern_model.specs.Name.{Path}
use Rattle.kern_model.proofs.Holds.{Holds, HoldsOfErrors, holds_is, each_is, holds_failed, holds_answered, holds_wrote, holds_if, holds_fail_if, holds_or_fail, holds_found, holds_missing}
use Rattle.client_model.specs.Fitness.{lies_inside}

-- a piece lies inside one of some ranges
abbrev pub IsInside : List Range → OutPiece → Type 0
IsInside ranges out = list_any (lies_inside out.addr (length out.bytes)) ranges ≡ true

-- an outcome writes inside some ranges alone
abbrev pub WritesInside : List Range → Outcome → Type 0
WritesInside ranges outcome = AllByRecursion (IsInside ranges) outcome.outs

-- a step does so, or waits
abbrev Writes : List Range → Step → Type 0
Writes ranges step = Holds Unit (λ outcome t. WritesInside ranges outcome) step

inside : (addr len most : ℕ) → len ≤ most → (lies_inside addr len (record { addr = addr; len = most }) || false) ≡ true
inside addr len most le = grind (arith, nat_tests)

-- bytes at the head of a range
at_head : (addr most : ℕ) (bytes : List ℕ) → length bytes ≤ most → AllByRecursion (IsInside (option_to_list (range_of addr most) ++ [])) (piece_at addr bytes)
at_head addr most bytes le = by_tests (length bytes == 0) (most == 0) refl refl where
  by_tests : (a b : Bool) → (length bytes == 0) ≡ a → (most == 0) ≡ b
      → AllByRecursion (IsInside (option_to_list (if b then None else Some (record { addr = addr; len = most })) ++ [])) (if a then [] else record { addr = addr; bytes = bytes } ∷ [])
  by_tests true b e f = tt
  by_tests false false e f = (inside addr (length bytes) most le, tt)
  by_tests false true e f = absurd (grind (arith, nat_tests))

-- ---- the steps that write nothing

module _ (ranges : List Range) (s : State) where
  no_error : HoldsOfErrors (λ outcome t. WritesInside ranges outcome) s
  no_error error = tt

  says : (value : ℕ) (t : State) → Writes ranges (answered value t)
  says value t = holds_answered value t tt

  opens : (pid fd : ℕ) (w : Walked) (flags : ℕ) (access : Access) → Writes ranges (open_walked s pid fd w flags access)
  opens pid fd (Found path node named) flags access = search (holds_fail_if, says, no_error)
  opens pid fd (Missing path slash) flags access = search (holds_fail_if, says, no_error)
  opens pid fd (Faulty error) flags access = search (holds_failed, no_error)

  writes : (number : ℕ) (file : OpenFile) (o : Object) (bytes : List ℕ) → Writes ranges (write_file s number file o bytes)
  writes number file (object.Node node) bytes = search (holds_if, holds_fail_if, says, no_error) depth 9

  pwrites : (file : OpenFile) (o : Object) (bytes : List ℕ) (offset : ℕ) → Writes ranges (pwrite_file s file o bytes offset)
  pwrites file (object.Node node) bytes offset = search (holds_if, holds_fail_if, says, no_error) depth 9

  seeks : (number : ℕ) (file : OpenFile) (o : Object) (offset whence : ℕ) → Writes ranges (seek_file s number file o offset whence)
  seeks number file (object.Node node) offset whence = search (holds_or_fail, says, no_error)

  truncates : (file : OpenFile) (o : Object) (len : ℕ) → Writes ranges (truncate_file s file o len)
  truncates file (object.Node node) len = search (holds_fail_if, says, no_error)

  renames : (old : Path) (node : ℕ) (named : Bool) (w : Walked) → Writes ranges (rename_to s old node named w)
  renames old node named (Found new replaced new_named) = search (holds_if, holds_fail_if, says, no_error) depth 12
  renames old node named (Missing new slash) = search (holds_fail_if, says, no_error) depth 9
  renames old node named (Faulty error) = search (holds_failed, no_error)

-- ---- the steps that write

-- the range of so many bytes at an address
abbrev span : ℕ → ℕ → List Range
span addr most = option_to_list (range_of addr most) ++ []

few : (s : State) (node offset len : ℕ) → length (bytes_from s node offset len) ≤ transfer_of len
few s node offset len = grind (arith, places)

module _ (s : State) where
  gives : (value addr most : ℕ) (bytes : List ℕ) (t : State) → length bytes ≤ most → Writes (span addr most) (wrote value addr bytes t)
  gives value addr most bytes t le = holds_wrote value addr bytes t (at_head addr most bytes le)

  reads : (number : ℕ) (file : OpenFile) (o : Object) (addr len : ℕ) → Writes (span addr (transfer_of len)) (read_file s number file o addr len)
  reads number file (object.Node node) addr len = search (holds_fail_if, gives, few, no_error)

  preads : (file : OpenFile) (o : Object) (addr len offset : ℕ) → Writes (span addr (transfer_of len)) (pread_file s file o addr len offset)
  preads file (object.Node node) addr len offset = search (holds_fail_if, gives, few, no_error)

  stats : (node addr : ℕ) → Writes (span addr STAT) (wrote 0 addr (stat_bytes s node) s)
  stats node addr = gives 0 addr STAT (stat_bytes s node) s (omega arith)

  stats_file : (o : Object) (addr : ℕ) → Writes (span addr STAT) (stat_file s o addr)
  stats_file (object.Node node) addr = stats node addr

-- ---- every call

call_writes : (s : State) (pid : ℕ) (c : Call) (pieces : List (List ℕ)) → Writes (outs_of c) (act_call s pid c pieces)
call_writes s pid call.Getpid pieces = says [] s pid s
call_writes s pid (call.Open path flags) pieces = search (holds_fail_if, holds_or_fail, opens, no_error)
call_writes s pid (call.Close fd) pieces = search (holds_or_fail, says, no_error)
call_writes s pid (call.Read fd out len) pieces = search (holds_or_fail, reads, no_error)
call_writes s pid (call.Write fd input len) pieces = search (holds_or_fail, writes, no_error)
call_writes s pid (call.Pread fd out len offset) pieces = search (holds_or_fail, preads, no_error)
call_writes s pid (call.Pwrite fd input len offset) pieces = search (holds_or_fail, pwrites, no_error)
call_writes s pid (call.Lseek fd offset whence) pieces = search (holds_or_fail, seeks, no_error)
call_writes s pid (call.Ftruncate fd len) pieces = search (holds_or_fail, truncates, no_error)
call_writes s pid (call.Fstat fd out) pieces = search (holds_or_fail, stats_file, no_error)
call_writes s pid (call.Stat path out) pieces = search (holds_found, stats, no_error)
call_writes s pid (call.Link path new_path) pieces = search (holds_fail_if, holds_found, holds_missing, says, no_error) depth 9
call_writes s pid (call.Unlink path) pieces = search (holds_fail_if, holds_found, says, no_error)
call_writes s pid (call.Rename path new_path) pieces = search (holds_found, renames, no_error)
call_writes s pid (call.Mkdir path) pieces = search (holds_fail_if, holds_missing, says, no_error)
call_writes s pid (call.Rmdir path) pieces = search (holds_fail_if, holds_found, says, no_error) depth 9
call_writes s pid (call.Chdir path) pieces = search (holds_fail_if, holds_found, says, no_error)
call_writes s pid (call.Dup fd) pieces = search (holds_or_fail, says, no_error)
call_writes s pid (call.Dup2 fd new_fd) pieces = search (holds_failed, holds_if, holds_or_fail, says, no_error)
call_writes s pid (call.Fcntl fd command argument) pieces = search (holds_failed, holds_if, holds_fail_if, holds_or_fail, says, no_error) depth 12
call_writes s pid (call.Unknown num words) pieces = search (holds_failed, no_error)
call_writes s pid _ pieces = record { is = tt }

-- whatever a call writes lies inside its ranges
pub writes_inside : (s : State) (pid : ℕ) (c : Call) (ins : Ins) (outcome : Outcome) (t : State) → act s pid (Sys c) ins ≡ Some (outcome, t) → WritesInside (outs_of c) outcome
writes_inside s pid c (Given pieces) outcome t e = holds_is outcome t (call_writes s pid c pieces) e
writes_inside s pid c (Fault error) outcome t e = each_is (λ o t. WritesInside (outs_of c) o) (Some (failure error, s)) outcome t tt e
