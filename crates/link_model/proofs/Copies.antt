-- The copy that answers an ask is one that the server takes.
use Rattle.std.proofs.Common.{◌≡◌, ℕ, zero, suc, ◌<◌, ◌==◌, Bool, true, false, List, [], ◌∷◌, ◌++◌, length, Option, Some, None, Result, Ok, Err, refl, subst, arith, cond}
use Rattle.std.specs.Prelude.{slice_get, nat_lt}
use Rattle.std.specs.List.{AllByRecursion, list_any}
use Rattle.std.specs.FinMap.{get}
use Rattle.std.proofs.lemmas.Bool.Decides.{nat_tests}
use Rattle.sp_base.specs.Needs.{needs_of, asks_of, bytes_need, pieces_of, IsPiece}
use Rattle.sp_base.specs.declared.call.Call.{Call}
use Rattle.sp_base.specs.declared.call.Call.TheVariants as call
use Rattle.sp_base.specs.declared.errno.Errno.{Errno}
use Rattle.sp_base.specs.declared.errno.Errno.TheVariants.{Efault, Enametoolong}
use Rattle.sp_base.specs.declared.need.Need.{Need}
use Rattle.sp_base.specs.declared.need.Need.TheVariants.{Bytes, Text}
use Rattle.sp_base.specs.declared.need.Range.{Range}
use Rattle.sp_copy.specs.Parts.{root_part}
use Rattle.sp_copy.specs.Reading.{gives, given, read_from, read_of}
use Rattle.sp_copy.specs.declared.fault.CopyFault.{CopyFault}
use Rattle.sp_copy.specs.declared.fault.CopyFault.TheVariants.{Fault, NoEnd, NoMemory}
use Rattle.sp_copy.specs.declared.part.Part.{Part}
use Rattle.sp_base.specs.declared.names.ConnNo.{ConnNo}
use Rattle.sp_fork.specs.Jar.{Jar}
use Rattle.sp_frames.specs.declared.frame.Body.{Body}
use Rattle.kern_model.specs.State.{State}
use Rattle.kern_model.specs.declared.operation.Ins.TheVariants as ins
use Rattle.hub_model.specs.Frames.{ask_body}
use Rattle.hub_model.specs.Requests.{bytes_in}
use Rattle.hub_model.specs.State.{Connection}
use Rattle.hub_model.specs.Verdict.{need_verdict, copy_verdict, body_verdict}
use Rattle.hub_model.specs.declared.verdict.Verdict.TheVariants as verdict
use Rattle.client_model.specs.Asks.{got_bytes, got_text, copy_of}
use Rattle.link_model.specs.Direct.{ins_of}

-- the copy of a need, by what was read of it
abbrev pub copy_by : Need → ℕ → Result (List ℕ) CopyFault → Body
copy_by (Bytes addr len) index read = got_bytes index read
copy_by (Text addr limit) index read = got_text index read

-- what answers an ask is the copy of its need
pub copy_is : (mem : List Part) (index : ℕ) (need : Need) → copy_of mem (ask_body index need) ≡ copy_by need index (read_of mem need)
copy_is mem index (Bytes addr len) = refl
copy_is mem index (Text addr limit) = refl

-- it is looked at as a copy for its call
pub copy_looked_at : (s : State) (jar : Jar) (c : ConnNo) (x : Connection) (n index : ℕ) (need : Need) (read : Result (List ℕ) CopyFault)
    → body_verdict s jar c x n (copy_by need index read) ≡ copy_verdict (get x.calls n) (copy_by need index read)
copy_looked_at s jar c x n index (Bytes addr len) (Ok bytes) = refl
copy_looked_at s jar c x n index (Bytes addr len) (Err why) = refl
copy_looked_at s jar c x n index (Text addr limit) (Ok bytes) = refl
copy_looked_at s jar c x n index (Text addr limit) (Err why) = refl

-- ---- bytes

same_index : (n : ℕ) → (n == n) ≡ true
same_index n = grind (arith, nat_tests)

no_zero : (bytes : List ℕ) → AllByRecursion (λ b. b ≡ 0 → ⊥) bytes → list_any (λ b. b == 0) bytes ≡ false
no_zero [] h = refl
no_zero (b ∷ bytes) h = let other : (b == 0) ≡ false = not_zero b h.0 in rw other (no_zero bytes h.1) where
  not_zero : (b : ℕ) → (b ≡ 0 → ⊥) → (b == 0) ≡ false
  not_zero b ne = grind (arith, nat_tests)

-- what was read of a need is taken
pub copy_taken : (index : ℕ) (need : Need) (bytes : List ℕ) → IsPiece need bytes → need_verdict (Some need) index (copy_by need index (Ok bytes)) ≡ verdict.Copy
copy_taken index (Bytes addr len) bytes h = let e : (length bytes == len) ≡ true = grind (arith, nat_tests) in rw (same_index index, e) refl
copy_taken index (Text addr limit) bytes h =
    let e : nat_lt (length bytes) limit ≡ true = (let lt = h.0 in grind (arith, nat_tests)) in
    rw (same_index index, no_zero bytes h.1, e) refl

pub copy_bytes : (index : ℕ) (need : Need) (bytes : List ℕ) → bytes_in (copy_by need index (Ok bytes)) ≡ bytes
copy_bytes index (Bytes addr len) bytes = refl
copy_bytes index (Text addr limit) bytes = refl

-- ---- faults

-- the error of a fault
abbrev pub errno_of : CopyFault → Errno
errno_of NoEnd = Enametoolong
errno_of _ = Efault

pub fault_is : (why : CopyFault) → ins_of (Err why) ≡ ins.Fault (errno_of why)
fault_is Fault = refl
fault_is NoEnd = refl
fault_is NoMemory = refl

-- a text of a need may have a byte
abbrev HasLimit : Need → Type 0
HasLimit (Bytes addr len) = Unit {0}
HasLimit (Text addr limit) = 0 < limit

abbrev HasLimits : Option Need → Type 0
HasLimits None = Unit {0}
HasLimits (Some need) = HasLimit need

bytes_limit : (range : Option Range) → HasLimits (bytes_need range)
bytes_limit None = tt
bytes_limit (Some range) = tt

asks_limit : (c : Call) → HasLimits (asks_of c).0 × HasLimits (asks_of c).1
asks_limit (call.Open path flags) = (omega arith, tt)
asks_limit (call.Write fd input len) = (bytes_limit _, tt)
asks_limit (call.Pwrite fd input len offset) = (bytes_limit _, tt)
asks_limit (call.Stat path out) = (omega arith, tt)
asks_limit (call.Link path new_path) = (omega arith, omega arith)
asks_limit (call.Unlink path) = (omega arith, tt)
asks_limit (call.Rename path new_path) = (omega arith, omega arith)
asks_limit (call.Mkdir path) = (omega arith, tt)
asks_limit (call.Rmdir path) = (omega arith, tt)
asks_limit (call.Chdir path) = (omega arith, tt)
asks_limit (call.Bind fd address address_len) = (bytes_limit _, tt)
asks_limit (call.Connect fd address address_len) = (bytes_limit _, tt)
asks_limit (call.Sendto fd input len address address_len) = (bytes_limit _, bytes_limit _)
asks_limit (call.Poll entries count timeout) = (bytes_limit _, tt)
asks_limit _ = (tt, tt)

both_limit : (x y : Option Need) → HasLimits x → HasLimits y → AllByRecursion HasLimit (pieces_of x ++ pieces_of y)
both_limit None None h k = tt
both_limit None (Some need) h k = (k, tt)
both_limit (Some need) None h k = (h, tt)
both_limit (Some need) (Some other) h k = (h, (k, tt))

at_index : (needs : List Need) (i : ℕ) (need : Need) → AllByRecursion HasLimit needs → slice_get needs i ≡ Some need → HasLimit need
at_index [] i need h e = absurd cc
at_index (first ∷ needs) zero need h e = let same : first ≡ need = cc in subst HasLimit same h.0
at_index (first ∷ needs) (suc i) need h e = at_index needs i need h.1 e

need_limit : (c : Call) (i : ℕ) (need : Need) → slice_get (needs_of c) i ≡ Some need → HasLimit need
need_limit c i need e = at_index (needs_of c) i need (both_limit (asks_of c).0 (asks_of c).1 (asks_limit c).0 (asks_limit c).1) e

-- only a text can be without end
abbrev pub CanFail : Need → CopyFault → Type 0
CanFail (Bytes addr len) NoEnd = ⊥
CanFail need why = Unit {0}

pub read_fails : (parts : List Part) (need : Need) (why : CopyFault) → read_from parts need ≡ Err why → CanFail need why
read_fails [] (Bytes addr len) NoEnd e = cc
read_fails (p ∷ parts) (Bytes addr len) NoEnd e = by_test (gives (Bytes addr len) p) e (read_fails parts (Bytes addr len) NoEnd) where
  by_test : (b : Bool) → cond b (given (Bytes addr len) p) (read_from parts (Bytes addr len)) ≡ Err NoEnd → (read_from parts (Bytes addr len) ≡ Err NoEnd → ⊥) → ⊥
  by_test true e h = cc
  by_test false e h = h e
read_fails parts (Bytes addr len) Fault e = tt
read_fails parts (Bytes addr len) NoMemory e = tt
read_fails parts (Text addr limit) why e = tt

fault_taken_by : (index : ℕ) (need : Need) (why : CopyFault) → HasLimit need → CanFail need why → need_verdict (Some need) index (copy_by need index (Err why)) ≡ verdict.CopyFault (errno_of why)
fault_taken_by index (Bytes addr len) Fault h k = rw (same_index index) refl
fault_taken_by index (Bytes addr len) NoMemory h k = rw (same_index index) refl
fault_taken_by index (Bytes addr len) NoEnd h k = absurd k
fault_taken_by index (Text addr limit) why h k = let e : nat_lt 0 limit ≡ true = grind (arith, nat_tests) in text why e where
  text : (why : CopyFault) → nat_lt 0 limit ≡ true → need_verdict (Some (Text addr limit)) index (copy_by (Text addr limit) index (Err why)) ≡ verdict.CopyFault (errno_of why)
  text Fault e = rw (same_index index, e) refl
  text NoEnd e = rw (same_index index, e) refl
  text NoMemory e = rw (same_index index, e) refl

-- a fault of a need of the call is taken
pub fault_taken : (c : Call) (index : ℕ) (need : Need) (mem : List Part) (why : CopyFault) → slice_get (needs_of c) index ≡ Some need → read_of mem need ≡ Err why
    → need_verdict (Some need) index (copy_by need index (Err why)) ≡ verdict.CopyFault (errno_of why)
fault_taken c index need mem why next e = fault_taken_by index need why (need_limit c index need next) (read_fails (root_part ∷ mem) need why e)
