-- What the calls on open files do.
use Rattle.std.specs.Prelude.{nat_lt, nat_le, not, max, IsSome, is_some, if◌then◌else◌}
use Rattle.std.specs.FinMap.{get}
use Rattle.std.proofs.lemmas.Bool.{not-false}
use Rattle.kern_model.specs.declared.node.Node.{Node}
use Rattle.std.proofs.Common.{◌≡◌, ℕ, ◌+◌, Bool, true, false, ◌&&◌, ◌||◌, ◌==◌, List, [], length, Option, Some, refl, ap}
use Rattle.sp_base.specs.Table.{at, lowest_unused}
use Rattle.sp_base.specs.declared.errno.Errno.TheVariants.{Ebadf, Emfile, Einval, Eisdir, Eexist, Enoent, Enospc, Efbig, Eopnotsupp}
use Rattle.kern_model.specs.declared.node.Access.{Access}
use Rattle.kern_model.specs.declared.node.Object.{Object}
use Rattle.kern_model.specs.declared.node.Object.TheVariants as object
use Rattle.kern_model.specs.declared.node.OpenFile.{OpenFile}
use Rattle.kern_model.specs.declared.walk.Walked.{Walked}
use Rattle.kern_model.specs.declared.walk.Walked.TheVariants.{Found, Missing, Faulty}
use Rattle.kern_model.specs.Name.{Path}
use Rattle.kern_model.specs.State.{State, new_file, rows_of, replace_file, with_bytes, bytes_of, kind_in, is_directory, is_socket, has_room}
use Rattle.kern_model.specs.Walk.{walk}
use Rattle.kern_model.specs.Descriptors.{has_bit}
use Rattle.kern_model.specs.Files.{access_of, may_read, may_write, creates, truncates, is_known, opened, open_found, with_new_file, open_missing, open_walked, act_open, is_negative, bytes_from, read_node, read_file, act_read, pread_file, act_pread, file_limit, put_over, is_above_total, fitting, write_node, write_start, write_file, act_write, pwrite_file, act_pwrite, seek_base, seek_sum, seek_file, act_lseek, resized, is_file_kind, truncate_file, act_ftruncate, stat_bytes, stat_file, act_fstat, act_stat}
use Rattle.kern_model.specs.Sound.{HasTree, IsHeld}
use Rattle.kern_model.proofs.WalkLaws.{walk_found}
use Rattle.kern_model.proofs.LeadLaws.{walk_free}
use Rattle.kern_model.proofs.LengthLaws.{none_fit, put_fit, resized_fit, at_end}
use Rattle.kern_model.proofs.Holds.{holds_failed, holds_if, holds_fail_if, holds_or_fail, holds_found}
use Rattle.kern_model.proofs.Changes.{Changes, IsFree, Stays, Then, Refiles, Opens, Writes, Makes}
use Rattle.kern_model.proofs.Does.{DoesStep, fails, does_answered, does_wrote, does_file}

module _ (waits : Type 0) (pid : ℕ) (s : State) where
  -- ---- open

  does_opened : (before : State) (fd node flags : ℕ) (access : Access) → Changes pid s before → lowest_unused (rows_of before pid) 0 ≡ Some fd
      → (IsHeld before → IsSome (at before.nodes node)) → DoesStep waits pid s (opened before pid fd node flags access)
  does_opened before fd node flags access change low there = does_answered pid s fd _ (Then change (Opens fd node _ (has_bit flags 4194304) low refl there))

  does_cut : (cut : Bool) (fd : ℕ) (path : Path) (node flags : ℕ) (access : Access) → lowest_unused (rows_of s pid) 0 ≡ Some fd → get s.names path ≡ Some node
      → DoesStep waits pid s (opened (if cut then with_bytes s node [] else s) pid fd node flags access)
  does_cut true fd path node flags access low e = does_opened (with_bytes s node []) fd node flags access (Writes node [] (none_fit s node)) low (λ held. held.names path node e)
  does_cut false fd path node flags access low e = does_opened s fd node flags access Stays low (λ held. held.names path node e)

  does_open_found : (fd : ℕ) (path : Path) (node flags : ℕ) (access : Access) → lowest_unused (rows_of s pid) 0 ≡ Some fd → get s.names path ≡ Some node
      → DoesStep waits pid s (open_found s pid fd node flags access)
  does_open_found fd path node flags access low e =
      holds_fail_if s (creates flags && has_bit flags 2048) Eexist _ (fails pid s) (λ _.
      holds_fail_if s (is_directory s node && (may_write access || creates flags)) Eisdir _ (fails pid s) (λ _.
      holds_fail_if s (is_socket s node) Eopnotsupp _ (fails pid s) (λ _.
      does_cut (truncates flags) fd path node flags access low e)))

  does_open_missing : (fd : ℕ) (path : Path) (slash : Bool) (flags : ℕ) (access : Access) → lowest_unused (rows_of s pid) 0 ≡ Some fd → (HasTree s → IsFree s path)
      → DoesStep waits pid s (open_missing s pid fd path slash flags access)
  does_open_missing fd path slash flags access low free =
      holds_fail_if s (not (creates flags) || slash) Enoent _ (fails pid s) (λ _.
      holds_fail_if s (not (has_room s)) Enospc _ (fails pid s) (λ room.
      does_opened (with_new_file s path) fd (length s.nodes) flags access (Makes path new_file free (not-false (has_room s) room) refl) low
      (λ held. ap (λ (o : Option Node). is_some o) (at_end s.nodes (Some new_file)))))

  does_walked : (fd : ℕ) (w : Walked) (text : List ℕ) (flags : ℕ) (access : Access) → lowest_unused (rows_of s pid) 0 ≡ Some fd → walk s pid text ≡ w
      → DoesStep waits pid s (open_walked s pid fd w flags access)
  does_walked fd (Found path node named) text flags access low e = does_open_found fd path node flags access low (walk_found s pid text path node named e)
  does_walked fd (Missing path slash) text flags access low e = does_open_missing fd path slash flags access low (walk_free s pid text path slash e)
  does_walked fd (Faulty error) text flags access low e = holds_failed s error (fails pid s)

  pub does_open_call : (text : List ℕ) (flags : ℕ) → DoesStep waits pid s (act_open s pid text flags)
  does_open_call text flags =
      holds_or_fail s (access_of flags) Einval _ (fails pid s) (λ access _.
      holds_fail_if s (not (is_known flags) || truncates flags && not (may_write access)) Einval _ (fails pid s) (λ _.
      holds_or_fail s (lowest_unused (rows_of s pid) 0) Emfile _ (fails pid s) (λ fd low.
      does_walked fd (walk s pid text) text flags access low refl)))

  -- ---- reading and writing

  does_read_node : (node : ℕ) (file : OpenFile) (offset addr len : ℕ) (after : ℕ → State) → ((count : ℕ) → Changes pid s (after count))
      → DoesStep waits pid s (read_node s node file offset addr len after)
  does_read_node node file offset addr len after change =
      holds_fail_if s (not (may_read file.access)) Ebadf _ (fails pid s) (λ _.
      holds_fail_if s (is_directory s node) Eisdir _ (fails pid s) (λ _.
      does_wrote pid s _ addr (bytes_from s node offset len) _ (change (length (bytes_from s node offset len)))))

  does_read_file : (number : ℕ) (file : OpenFile) (o : Object) (addr len : ℕ) → at s.files number ≡ Some file → DoesStep waits pid s (read_file s number file o addr len)
  does_read_file number file (object.Node node) addr len e =
      does_read_node node file file.offset addr len _ (λ count. Refiles number file (record file { offset = file.offset + count }) e refl)

  pub does_read : (fd addr len : ℕ) → DoesStep waits pid s (act_read s pid fd addr len)
  does_read fd addr len = does_file pid s fd _ (λ number file e. does_read_file number file file.object addr len e)

  does_pread_file : (file : OpenFile) (o : Object) (addr len offset : ℕ) → DoesStep waits pid s (pread_file s file o addr len offset)
  does_pread_file file (object.Node node) addr len offset =
      holds_fail_if s (is_negative offset) Einval _ (fails pid s) (λ _. does_read_node node file offset addr len _ (λ count. Stays))

  pub does_pread : (fd addr len offset : ℕ) → DoesStep waits pid s (act_pread s pid fd addr len offset)
  does_pread fd addr len offset = does_file pid s fd _ (λ number file e. does_pread_file file file.object addr len offset)

  does_write_node : (node : ℕ) (file : OpenFile) (start : ℕ) (bytes : List ℕ) (after : State → ℕ → State)
      → ((put : List ℕ) (end : ℕ) → Changes pid (with_bytes s node put) (after (with_bytes s node put) end)) → DoesStep waits pid s (write_node s node file start bytes after)
  does_write_node node file start bytes after change =
      let new = fitting start bytes in
      holds_fail_if s (not (may_write file.access)) Ebadf _ (fails pid s) (λ _.
      holds_if (length bytes == 0) _ _ (λ _. does_answered pid s 0 s Stays) (λ _.
      holds_fail_if s (nat_le file_limit start) Efbig _ (fails pid s) (λ low.
      holds_fail_if s (is_above_total s node (max (length (bytes_of s node)) (start + length new))) Enospc _ (fails pid s) (λ room.
      does_answered pid s (length new) _ (Then (Writes node (put_over (bytes_of s node) start new) (put_fit s node start bytes low room)) (change _ (start + length new)))))))

  does_write_file : (number : ℕ) (file : OpenFile) (o : Object) (bytes : List ℕ) → at s.files number ≡ Some file → DoesStep waits pid s (write_file s number file o bytes)
  does_write_file number file (object.Node node) bytes e =
      does_write_node node file (write_start s node file) bytes (λ next end. replace_file next number (record file { offset = end })) (λ put end. Refiles number file (record file { offset = end }) e refl)

  pub does_write : (fd : ℕ) (bytes : List ℕ) → DoesStep waits pid s (act_write s pid fd bytes)
  does_write fd bytes = does_file pid s fd _ (λ number file e. does_write_file number file file.object bytes e)

  does_pwrite_file : (file : OpenFile) (o : Object) (bytes : List ℕ) (offset : ℕ) → DoesStep waits pid s (pwrite_file s file o bytes offset)
  does_pwrite_file file (object.Node node) bytes offset =
      holds_fail_if s (is_negative offset) Einval _ (fails pid s) (λ _. does_write_node node file offset bytes (λ next end. next) (λ put end. Stays))

  pub does_pwrite : (fd : ℕ) (bytes : List ℕ) (offset : ℕ) → DoesStep waits pid s (act_pwrite s pid fd bytes offset)
  does_pwrite fd bytes offset = does_file pid s fd _ (λ number file e. does_pwrite_file file file.object bytes offset)

  -- ---- offset, length and stat

  does_seek_file : (number : ℕ) (file : OpenFile) (o : Object) (offset whence : ℕ) → at s.files number ≡ Some file → DoesStep waits pid s (seek_file s number file o offset whence)
  does_seek_file number file (object.Node node) offset whence e =
      holds_or_fail s (seek_base s node file whence) Einval _ (fails pid s) (λ base _.
      holds_or_fail s (seek_sum base offset) Einval _ (fails pid s) (λ sum _.
      does_answered pid s sum _ (Refiles number file (record file { offset = sum }) e refl)))

  pub does_lseek : (fd offset whence : ℕ) → DoesStep waits pid s (act_lseek s pid fd offset whence)
  does_lseek fd offset whence = does_file pid s fd _ (λ number file e. does_seek_file number file file.object offset whence e)

  does_truncate_file : (file : OpenFile) (o : Object) (len : ℕ) → DoesStep waits pid s (truncate_file s file o len)
  does_truncate_file file (object.Node node) len =
      holds_fail_if s (not (may_write file.access && is_file_kind (kind_in (at s.nodes node)))) Einval _ (fails pid s) (λ _.
      holds_fail_if s (nat_lt file_limit len) Efbig _ (fails pid s) (λ low.
      holds_fail_if s (is_above_total s node (max (length (bytes_of s node)) len)) Enospc _ (fails pid s) (λ room.
      does_answered pid s 0 _ (Writes node (resized (bytes_of s node) len) (resized_fit s node len low room)))))

  pub does_ftruncate : (fd len : ℕ) → DoesStep waits pid s (act_ftruncate s pid fd len)
  does_ftruncate fd len = does_file pid s fd _ (λ number file e. does_truncate_file file file.object len)

  does_stat_file : (o : Object) (addr : ℕ) → DoesStep waits pid s (stat_file s o addr)
  does_stat_file (object.Node node) addr = does_wrote pid s 0 addr (stat_bytes s node) s Stays

  pub does_fstat : (fd addr : ℕ) → DoesStep waits pid s (act_fstat s pid fd addr)
  does_fstat fd addr = does_file pid s fd _ (λ number file e. does_stat_file file.object addr)

  pub does_stat : (text : List ℕ) (addr : ℕ) → DoesStep waits pid s (act_stat s pid text addr)
  does_stat text addr = holds_found s (walk s pid text) _ (fails pid s) (λ path node named e. does_wrote pid s 0 addr (stat_bytes s node) s Stays)
