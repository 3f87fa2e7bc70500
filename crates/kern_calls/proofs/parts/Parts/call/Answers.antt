use Rattle.std.proofs.Common.{◌≡◌, ℕ, List, None, refl}
use Rattle.sp_base.specs.declared.call.Call.{Call}
use Rattle.sp_base.specs.declared.call.Call.TheVariants as call
use Rattle.kern_model.specs.State.{State}
use Rattle.kern_model.specs.Act.{act_call}
use Rattle.kern_calls.proofs.parts.Parts.call.Goals as goal

-- a call that is not built has no step
waits : (s : State) (pid : ℕ) (c : Call) (pieces : List (List ℕ)) → (c ≡ call.Getpid → ⊥)
    → ((path : _) (flags : _) → c ≡ call.Open path flags → ⊥)
    → ((fd : _) → c ≡ call.Close fd → ⊥)
    → ((fd : _) (out : _) (len : _) → c ≡ call.Read fd out len → ⊥)
    → ((fd : _) (input : _) (len : _) → c ≡ call.Write fd input len → ⊥)
    → ((fd : _) (out : _) (len : _) (offset : _) → c ≡ call.Pread fd out len offset → ⊥)
    → ((fd : _) (input : _) (len : _) (offset : _) → c ≡ call.Pwrite fd input len offset → ⊥)
    → ((fd : _) (offset : _) (whence : _) → c ≡ call.Lseek fd offset whence → ⊥)
    → ((fd : _) (len : _) → c ≡ call.Ftruncate fd len → ⊥)
    → ((fd : _) (out : _) → c ≡ call.Fstat fd out → ⊥)
    → ((path : _) (out : _) → c ≡ call.Stat path out → ⊥)
    → ((path : _) (new_path : _) → c ≡ call.Link path new_path → ⊥)
    → ((path : _) → c ≡ call.Unlink path → ⊥)
    → ((path : _) (new_path : _) → c ≡ call.Rename path new_path → ⊥)
    → ((path : _) → c ≡ call.Mkdir path → ⊥)
    → ((path : _) → c ≡ call.Rmdir path → ⊥)
    → ((path : _) → c ≡ call.Chdir path → ⊥)
    → ((fd : _) → c ≡ call.Dup fd → ⊥)
    → ((fd : _) (new_fd : _) → c ≡ call.Dup2 fd new_fd → ⊥)
    → ((fd : _) (command : _) (argument : _) → c ≡ call.Fcntl fd command argument → ⊥)
    → ((num : _) (words : _) → c ≡ call.Unknown num words → ⊥)
    → act_call s pid c pieces ≡ None
waits s pid call.Getpid pieces n0 n1 n2 n3 n4 n5 n6 n7 n8 n9 n10 n11 n12 n13 n14 n15 n16 n17 n18 n19 n20 = absurd (n0 refl)
waits s pid (call.Open path flags) pieces n0 n1 n2 n3 n4 n5 n6 n7 n8 n9 n10 n11 n12 n13 n14 n15 n16 n17 n18 n19 n20 = absurd (n1 path flags refl)
waits s pid (call.Close fd) pieces n0 n1 n2 n3 n4 n5 n6 n7 n8 n9 n10 n11 n12 n13 n14 n15 n16 n17 n18 n19 n20 = absurd (n2 fd refl)
waits s pid (call.Read fd out len) pieces n0 n1 n2 n3 n4 n5 n6 n7 n8 n9 n10 n11 n12 n13 n14 n15 n16 n17 n18 n19 n20 = absurd (n3 fd out len refl)
waits s pid (call.Write fd input len) pieces n0 n1 n2 n3 n4 n5 n6 n7 n8 n9 n10 n11 n12 n13 n14 n15 n16 n17 n18 n19 n20 = absurd (n4 fd input len refl)
waits s pid (call.Pread fd out len offset) pieces n0 n1 n2 n3 n4 n5 n6 n7 n8 n9 n10 n11 n12 n13 n14 n15 n16 n17 n18 n19 n20 = absurd (n5 fd out len offset refl)
waits s pid (call.Pwrite fd input len offset) pieces n0 n1 n2 n3 n4 n5 n6 n7 n8 n9 n10 n11 n12 n13 n14 n15 n16 n17 n18 n19 n20 = absurd (n6 fd input len offset refl)
waits s pid (call.Lseek fd offset whence) pieces n0 n1 n2 n3 n4 n5 n6 n7 n8 n9 n10 n11 n12 n13 n14 n15 n16 n17 n18 n19 n20 = absurd (n7 fd offset whence refl)
waits s pid (call.Ftruncate fd len) pieces n0 n1 n2 n3 n4 n5 n6 n7 n8 n9 n10 n11 n12 n13 n14 n15 n16 n17 n18 n19 n20 = absurd (n8 fd len refl)
waits s pid (call.Fstat fd out) pieces n0 n1 n2 n3 n4 n5 n6 n7 n8 n9 n10 n11 n12 n13 n14 n15 n16 n17 n18 n19 n20 = absurd (n9 fd out refl)
waits s pid (call.Stat path out) pieces n0 n1 n2 n3 n4 n5 n6 n7 n8 n9 n10 n11 n12 n13 n14 n15 n16 n17 n18 n19 n20 = absurd (n10 path out refl)
waits s pid (call.Link path new_path) pieces n0 n1 n2 n3 n4 n5 n6 n7 n8 n9 n10 n11 n12 n13 n14 n15 n16 n17 n18 n19 n20 = absurd (n11 path new_path refl)
waits s pid (call.Unlink path) pieces n0 n1 n2 n3 n4 n5 n6 n7 n8 n9 n10 n11 n12 n13 n14 n15 n16 n17 n18 n19 n20 = absurd (n12 path refl)
waits s pid (call.Rename path new_path) pieces n0 n1 n2 n3 n4 n5 n6 n7 n8 n9 n10 n11 n12 n13 n14 n15 n16 n17 n18 n19 n20 = absurd (n13 path new_path refl)
waits s pid (call.Mkdir path) pieces n0 n1 n2 n3 n4 n5 n6 n7 n8 n9 n10 n11 n12 n13 n14 n15 n16 n17 n18 n19 n20 = absurd (n14 path refl)
waits s pid (call.Rmdir path) pieces n0 n1 n2 n3 n4 n5 n6 n7 n8 n9 n10 n11 n12 n13 n14 n15 n16 n17 n18 n19 n20 = absurd (n15 path refl)
waits s pid (call.Chdir path) pieces n0 n1 n2 n3 n4 n5 n6 n7 n8 n9 n10 n11 n12 n13 n14 n15 n16 n17 n18 n19 n20 = absurd (n16 path refl)
waits s pid (call.Dup fd) pieces n0 n1 n2 n3 n4 n5 n6 n7 n8 n9 n10 n11 n12 n13 n14 n15 n16 n17 n18 n19 n20 = absurd (n17 fd refl)
waits s pid (call.Dup2 fd new_fd) pieces n0 n1 n2 n3 n4 n5 n6 n7 n8 n9 n10 n11 n12 n13 n14 n15 n16 n17 n18 n19 n20 = absurd (n18 fd new_fd refl)
waits s pid (call.Fcntl fd command argument) pieces n0 n1 n2 n3 n4 n5 n6 n7 n8 n9 n10 n11 n12 n13 n14 n15 n16 n17 n18 n19 n20 = absurd (n19 fd command argument refl)
waits s pid call.Pipe pieces n0 n1 n2 n3 n4 n5 n6 n7 n8 n9 n10 n11 n12 n13 n14 n15 n16 n17 n18 n19 n20 = refl
waits s pid (call.Socket family kind) pieces n0 n1 n2 n3 n4 n5 n6 n7 n8 n9 n10 n11 n12 n13 n14 n15 n16 n17 n18 n19 n20 = refl
waits s pid (call.Socketpair family kind) pieces n0 n1 n2 n3 n4 n5 n6 n7 n8 n9 n10 n11 n12 n13 n14 n15 n16 n17 n18 n19 n20 = refl
waits s pid (call.Bind fd address address_len) pieces n0 n1 n2 n3 n4 n5 n6 n7 n8 n9 n10 n11 n12 n13 n14 n15 n16 n17 n18 n19 n20 = refl
waits s pid (call.Listen fd backlog) pieces n0 n1 n2 n3 n4 n5 n6 n7 n8 n9 n10 n11 n12 n13 n14 n15 n16 n17 n18 n19 n20 = refl
waits s pid (call.Accept fd) pieces n0 n1 n2 n3 n4 n5 n6 n7 n8 n9 n10 n11 n12 n13 n14 n15 n16 n17 n18 n19 n20 = refl
waits s pid (call.Connect fd address address_len) pieces n0 n1 n2 n3 n4 n5 n6 n7 n8 n9 n10 n11 n12 n13 n14 n15 n16 n17 n18 n19 n20 = refl
waits s pid (call.Sendto fd input len address address_len) pieces n0 n1 n2 n3 n4 n5 n6 n7 n8 n9 n10 n11 n12 n13 n14 n15 n16 n17 n18 n19 n20 = refl
waits s pid (call.Recvfrom fd out len address address_max) pieces n0 n1 n2 n3 n4 n5 n6 n7 n8 n9 n10 n11 n12 n13 n14 n15 n16 n17 n18 n19 n20 = refl
waits s pid (call.Shutdown fd how) pieces n0 n1 n2 n3 n4 n5 n6 n7 n8 n9 n10 n11 n12 n13 n14 n15 n16 n17 n18 n19 n20 = refl
waits s pid (call.Getsockname fd out max) pieces n0 n1 n2 n3 n4 n5 n6 n7 n8 n9 n10 n11 n12 n13 n14 n15 n16 n17 n18 n19 n20 = refl
waits s pid (call.Getpeername fd out max) pieces n0 n1 n2 n3 n4 n5 n6 n7 n8 n9 n10 n11 n12 n13 n14 n15 n16 n17 n18 n19 n20 = refl
waits s pid (call.Poll entries count timeout) pieces n0 n1 n2 n3 n4 n5 n6 n7 n8 n9 n10 n11 n12 n13 n14 n15 n16 n17 n18 n19 n20 = refl
waits s pid (call.Unknown num words) pieces n0 n1 n2 n3 n4 n5 n6 n7 n8 n9 n10 n11 n12 n13 n14 n15 n16 n17 n18 n19 n20 = absurd (n20 num words refl)

pub returns-in_default-clause-ok : goal.returns-in_default-clause-ok
returns-in_default-clause-ok c =
    waits c.args.self.now c.args.pid.0 c.args.call.now c.args.pieces.now c.in_default.not-Getpid c.in_default.not-Open c.in_default.not-Close c.in_default.not-Read c.in_default.not-Write c.in_default.not-Pread c.in_default.not-Pwrite c.in_default.not-Lseek c.in_default.not-Ftruncate c.in_default.not-Fstat c.in_default.not-Stat c.in_default.not-Link c.in_default.not-Unlink c.in_default.not-Rename c.in_default.not-Mkdir c.in_default.not-Rmdir c.in_default.not-Chdir c.in_default.not-Dup c.in_default.not-Dup2 c.in_default.not-Fcntl c.in_default.not-Unknown
