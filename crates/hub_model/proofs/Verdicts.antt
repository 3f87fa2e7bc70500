-- What a verdict tells of the frame and the connection.
use Rattle.std.proofs.Common.{◌≡◌, ℕ, ◌<◌, Bool, true, false, List, [], ◌∷◌, length, Option, Some, None, refl, subst, arith, cond}
use Rattle.std.specs.Prelude.{◌==◌, ◌&&◌, ◌||◌, nat_le, nat_lt, not, is_none, slice_get, IsTrue}
use Rattle.std.specs.List.{AllByRecursion, list_any}
use Rattle.std.specs.FinMap.{get, len}
use Rattle.std.proofs.lemmas.Bool.Decides.{nat_tests}
use Rattle.sp_base.specs.Call.{wanted_words, call_of}
use Rattle.sp_base.specs.Needs.{needs_of, IsPiece}
use Rattle.sp_base.specs.Table.{lowest_unused}
use Rattle.sp_base.specs.declared.call.Call.{Call}
use Rattle.sp_base.specs.declared.errno.Errno.{Errno}
use Rattle.sp_base.specs.declared.errno.Errno.TheVariants.{Efault, Enametoolong}
use Rattle.sp_base.specs.declared.limits.TheConstants.{FIRST_PROCESS}
use Rattle.sp_base.specs.declared.names.ConnNo.{ConnNo}
use Rattle.sp_base.specs.declared.names.SpError.{SpError}
use Rattle.sp_base.specs.declared.names.SpError.TheVariants.{TryAgain, BadCookie, ProcFull, InExec}
use Rattle.sp_base.specs.declared.need.Need.{Need}
use Rattle.sp_base.specs.declared.need.Need.TheVariants.{Bytes, Text}
use Rattle.sp_frames.specs.Grammar.{is_answer, is_text_answer}
use Rattle.sp_frames.specs.declared.frame.Body.{Body}
use Rattle.sp_frames.specs.declared.frame.Body.TheVariants as body
use Rattle.sp_frames.specs.declared.frame.Body.TheVariants.{GotBytes, GotText}
use Rattle.sp_frames.specs.declared.frame.Frame.{Frame}
use Rattle.sp_fork.specs.Jar.{Jar, cancellable, is_full, redeemable}
use Rattle.sp_fork.specs.declared.unused.CookieKind.TheVariants as kind
use Rattle.sp_fork.specs.declared.unused.Unused.{Unused}
use Rattle.kern_model.specs.State.{State}
use Rattle.hub_model.specs.Machine.{refusal_takes}
use Rattle.hub_model.specs.Requests.{bytes_in}
use Rattle.hub_model.specs.State.{Connection, is_live, is_fresh, is_draining}
use Rattle.hub_model.specs.Verdict.{is_other_count, is_later_call, call_verdict, guest_verdict, takeover_verdict, fork_verdict, ready_verdict, cancel_verdict, request_verdict, is_copy_of, index_in, error_in, copy_by_error, is_index, need_verdict, copy_verdict, body_verdict, verdict_of}
use Rattle.hub_model.specs.declared.state.Condition.{Condition}
use Rattle.hub_model.specs.declared.state.Condition.TheVariants as condition
use Rattle.hub_model.specs.declared.state.OpenCall.{OpenCall}
use Rattle.hub_model.specs.declared.state.OpenCall.TheVariants.{Gathers, Fails, Answers}
use Rattle.hub_model.specs.declared.state.TheConstants.{OPEN_CALLS}
use Rattle.hub_model.specs.declared.verdict.Verdict.{Verdict}
use Rattle.hub_model.specs.declared.verdict.Verdict.TheVariants.{Closed, Malformed, Refused, Attach, Join, Image, Fork, Ready, Cancel, Task, Copy, CopyFault}

-- what is so where a test passes and where it fails is so of the verdict that it leads to
by_test : (P : Verdict → Type 0) (b : Bool) (u v : Verdict) → (b ≡ true → P u) → (b ≡ false → P v) → P (cond b u v)
by_test P true u v passes fails = passes refl
by_test P false u v passes fails = fails refl

is_later : (a b : ℕ) → nat_le a b ≡ false → b < a
is_later a b e = grind (arith, nat_tests)

is_equal : (a b : ℕ) → (a == b) ≡ true → a ≡ b
is_equal a b e = grind (arith, nat_tests)

is_less : (a b : ℕ) → nat_lt a b ≡ true → a < b
is_less a b e = grind (arith, nat_tests)

other_than : (a b : ℕ) → (a == b) ≡ false → a ≡ b → ⊥
other_than a b e q = grind (arith, nat_tests)

fresh_is : (c : Condition) → not (is_fresh c) ≡ false → c ≡ condition.Fresh
fresh_is condition.Fresh e = refl
fresh_is _ e = absurd cc

some_is : {X : Type 0} (o : Option X) → is_none o ≡ false → (x : X) × (o ≡ Some x)
some_is None e = absurd cc
some_is (Some x) e = (x, refl)

holds : (b : Bool) → not b ≡ false → b ≡ true
holds true e = refl
holds false e = absurd cc

both_first : (a b : Bool) → (a && b) ≡ true → a ≡ true
both_first true b e = refl
both_first false b e = absurd cc

both_second : (a b : Bool) → (a && b) ≡ true → b ≡ true
both_second true b e = e
both_second false b e = absurd cc

neither : (a b : Bool) → (a || b) ≡ false → (a ≡ false) × (b ≡ false)
neither true b e = absurd cc
neither false b e = (refl, e)

-- ---- what is told

-- a guest's handshake that is taken
pub record Attaches (s : State) (x : Connection) (n : ℕ) : Type 0 where
  pub fresh : x.condition ≡ condition.Fresh
  pub later : x.last < n
  pub pid : ℕ
  pub lowest : lowest_unused s.processes FIRST_PROCESS ≡ Some pid

-- a handshake by a cookie that is taken
pub record TakesOver (x : Connection) (n : ℕ) (cookie : Option Unused) : Type 0 where
  pub fresh : x.condition ≡ condition.Fresh
  pub later : x.last < n
  pub unused : Unused
  pub there : cookie ≡ Some unused

-- a fork that is taken
pub record Forks (s : State) (jar : Jar) (x : Connection) (n : ℕ) : Type 0 where
  pub later : x.last < n
  pub live : is_live x.condition ≡ true
  pub room : is_full jar ≡ false
  pub pid : ℕ
  pub lowest : lowest_unused s.processes FIRST_PROCESS ≡ Some pid

-- a process that is to go on as its next program
pub record Readies (jar : Jar) (x : Connection) (n : ℕ) : Type 0 where
  pub later : x.last < n
  pub live : is_live x.condition ≡ true
  pub quiet : len x.calls ≡ 0
  pub room : is_full jar ≡ false

-- a cookie that is taken back
pub record Cancels (x : Connection) (n : ℕ) (cookie : Option Unused) : Type 0 where
  pub later : x.last < n
  pub unused : Unused
  pub there : cookie ≡ Some unused

-- a call that is taken
pub record Opens (x : Connection) (n : ℕ) : Type 0 where
  pub later : x.last < n
  pub live : IsTrue (is_live x.condition)

-- what an open call of a number waits for
pub record Waits (x : Connection) (n : ℕ) : Type 0 where
  pub call : Call
  pub got : List (List ℕ)
  pub task : get x.calls n ≡ Some (Gathers call got true)
  pub need : Need
  pub next : slice_get (needs_of call) (length got) ≡ Some need

-- a copy that is taken: it is what an open call waits for
pub record Copies (x : Connection) (n : ℕ) (bytes : List ℕ) : Type 0 where
  pub waits : Waits x n
  pub piece : IsPiece waits.need bytes

-- the error of a copy fits the need: a text alone has no end
abbrev pub FaultFits : Need → Errno → Type 0
FaultFits need Efault = Unit {0}
FaultFits (Text addr limit) Enametoolong = Unit {0}
FaultFits _ _ = ⊥

-- a copy that is taken as a fault of what an open call waits for
pub record CopyFails (x : Connection) (n : ℕ) (why : Errno) : Type 0 where
  pub waits : Waits x n
  pub fits : FaultFits waits.need why

-- what a verdict on a frame of this number and body tells
abbrev pub Tells : State → Jar → ConnNo → Connection → ℕ → Body → Verdict → Type 0
Tells s jar c x n body Closed = Unit {0}
Tells s jar c x n body Malformed = Unit {0}
Tells s jar c x n body (Refused why) = (x.last < n) × IsTrue (refusal_takes why)
Tells s jar c x n body Attach = Attaches s x n
Tells s jar c x n body (Join cookie) = TakesOver x n (redeemable jar cookie kind.Fork)
Tells s jar c x n body (Image cookie) = TakesOver x n (redeemable jar cookie kind.Exec)
Tells s jar c x n body Fork = Forks s jar x n
Tells s jar c x n body Ready = Readies jar x n
Tells s jar c x n body (Cancel cookie) = Cancels x n (cancellable jar cookie c)
Tells s jar c x n body (Task call) = Opens x n
Tells s jar c x n body Copy = Copies x n (bytes_in body)
Tells s jar c x n body (CopyFault why) = CopyFails x n why

-- ---- copies

no_zero : (bytes : List ℕ) → list_any (λ b. b == 0) bytes ≡ false → AllByRecursion (λ b. b ≡ 0 → ⊥) bytes
no_zero [] e = tt
no_zero (b ∷ bytes) e = let n = neither (b == 0) (list_any (λ b. b == 0) bytes) e in (other_than b 0 n.0, no_zero bytes n.1)

not_true : (b : Bool) → not b ≡ true → b ≡ false
not_true true e = absurd cc
not_true false e = refl

or_right : (a b : Bool) → a ≡ true → (not a || b) ≡ true → b ≡ true
or_right true b e h = h
or_right false b e h = absurd cc

-- a copy without an error is a piece of what was asked for
copy_piece : (need : Need) (body : Body) → is_copy_of need body ≡ true → (error_in body == 0) ≡ true → IsPiece need (bytes_in body)
copy_piece (Bytes addr bytes_len) (GotBytes index err bytes) e zero_is =
    is_equal (length bytes) bytes_len (or_right (err == 0) (length bytes == bytes_len) zero_is (both_second (is_answer err bytes) _ e))
copy_piece (Text addr limit) (GotText index err bytes) e zero_is =
    (is_less (length bytes) limit (both_second (is_text_answer err bytes) _ e), no_zero bytes (not_true _ (both_second _ (not (list_any (λ b. b == 0) bytes)) (both_first (is_text_answer err bytes) _ e))))
copy_piece (Bytes addr bytes_len) _ e zero_is = absurd cc
copy_piece (Text addr limit) _ e zero_is = absurd cc

bytes_error : (a b c : Bool) → (a || (b && c)) ≡ true → a ≡ false → b ≡ false → ⊥
bytes_error true b c e h k = absurd cc
bytes_error false true c e h k = absurd cc
bytes_error false false c e h k = absurd cc

-- a copy with another error than 14 is of a text
text_fault : (need : Need) (body : Body) → is_copy_of need body ≡ true → (error_in body == 0) ≡ false → (error_in body == 14) ≡ false → FaultFits need Enametoolong
text_fault (Text addr limit) body e some other = tt
text_fault (Bytes addr bytes_len) (GotBytes index err bytes) e some other = absurd (bytes_error (err == 0) (err == 14) _ (both_first (is_answer err bytes) _ e) some other)
text_fault (Bytes addr bytes_len) _ e some other = absurd cc

need_tells : (s : State) (jar : Jar) (c : ConnNo) (x : Connection) (n : ℕ) (call : Call) (got : List (List ℕ)) (need : Option Need) (body : Body)
    → get x.calls n ≡ Some (Gathers call got true) → slice_get (needs_of call) (length got) ≡ need → Tells s jar c x n body (need_verdict need (length got) body)
need_tells s jar c x n call got None body task next = tt
need_tells s jar c x n call got (Some need) body task next =
    let waits : Waits x n = record { call = call; got = got; task = task; need = need; next = next } in
    by_test (Tells s jar c x n body) (is_index (index_in body) (length got) && is_copy_of need body) (copy_by_error (error_in body)) Malformed
    (λ passes. let copy = both_second (is_index (index_in body) (length got)) (is_copy_of need body) passes in
    by_test (Tells s jar c x n body) (error_in body == 0) Copy _
    (λ zero_is. record { waits = waits; piece = copy_piece need body copy zero_is })
    (λ some. by_test (Tells s jar c x n body) (error_in body == 14) (CopyFault Efault) (CopyFault Enametoolong)
    (λ fault. record { waits = waits; fits = tt })
    (λ other. record { waits = waits; fits = text_fault need body copy some other })))
    (λ fails. tt)

copy_tells : (s : State) (jar : Jar) (c : ConnNo) (x : Connection) (n : ℕ) (task : Option OpenCall) (body : Body) → get x.calls n ≡ task → Tells s jar c x n body (copy_verdict task body)
copy_tells s jar c x n (Some (Gathers call got true)) body is = need_tells s jar c x n call got (slice_get (needs_of call) (length got)) body is refl
copy_tells s jar c x n None body is = tt
copy_tells s jar c x n (Some (Gathers call got false)) body is = tt
copy_tells s jar c x n (Some (Fails call why)) body is = tt
copy_tells s jar c x n (Some Answers) body is = tt

-- ---- requests

module _ (s : State) (jar : Jar) (c : ConnNo) (x : Connection) (n : ℕ) (body : Body) where
  abbrev Told : Verdict → Type 0
  Told v = Tells s jar c x n body v

  -- a request's number is above the last one, where it isn't malformed
  numbered : (v : Verdict) → (x.last < n → Told v) → Told (request_verdict x n v)
  numbered v told = by_test Told (nat_le n x.last) Malformed v (λ old. tt) (λ above. told (is_later n x.last above))

  call_tells : (num : ℕ) (words : List ℕ) → x.last < n → Told (call_verdict x num words)
  call_tells num words later =
      by_test Told (is_fresh x.condition) Malformed _ (λ e. tt) (λ a.
      by_test Told (is_other_count (wanted_words num) (length words)) Malformed _ (λ e. tt) (λ b.
      by_test Told (is_later_call num) Malformed _ (λ e. tt) (λ d.
      by_test Told (not (is_live x.condition)) (Refused InExec) _ (λ e. (later, refl)) (λ live.
      by_test Told (nat_le OPEN_CALLS (len x.calls)) (Refused TryAgain) (Task (call_of num words)) (λ e. (later, refl)) (λ f.
      record { later = later; live = holds (is_live x.condition) live })))))

  guest_tells : x.last < n → Told (guest_verdict s x)
  guest_tells later =
      by_test Told (not (is_fresh x.condition)) Malformed _ (λ e. tt) (λ fresh.
      by_test Told (is_none (lowest_unused s.processes FIRST_PROCESS)) (Refused ProcFull) Attach (λ e. (later, refl)) (λ some.
      let low = some_is (lowest_unused s.processes FIRST_PROCESS) some in
      record { fresh = fresh_is x.condition fresh; later = later; pid = low.0; lowest = low.1 }))

  takeover_tells : (cookie : Option Unused) (v : Verdict) → (TakesOver x n cookie → Told v) → x.last < n → Told (takeover_verdict x cookie v)
  takeover_tells cookie v told later =
      by_test Told (not (is_fresh x.condition)) Malformed _ (λ e. tt) (λ fresh.
      by_test Told (is_none cookie) (Refused BadCookie) v (λ e. (later, refl)) (λ some.
      let there = some_is cookie some in
      told (record { fresh = fresh_is x.condition fresh; later = later; unused = there.0; there = there.1 })))

  fork_tells : x.last < n → Told (fork_verdict s jar x)
  fork_tells later =
      by_test Told (is_fresh x.condition) Malformed _ (λ e. tt) (λ a.
      by_test Told (not (is_live x.condition)) (Refused InExec) _ (λ e. (later, refl)) (λ live.
      by_test Told (is_full jar) (Refused TryAgain) _ (λ e. (later, refl)) (λ room.
      by_test Told (is_none (lowest_unused s.processes FIRST_PROCESS)) (Refused ProcFull) Fork (λ e. (later, refl)) (λ some.
      let low = some_is (lowest_unused s.processes FIRST_PROCESS) some in
      record { later = later; live = holds (is_live x.condition) live; room = room; pid = low.0; lowest = low.1 }))))

  ready_tells : x.last < n → Told (ready_verdict jar x)
  ready_tells later =
      by_test Told (is_fresh x.condition) Malformed _ (λ e. tt) (λ a.
      by_test Told (not (is_live x.condition)) (Refused InExec) _ (λ e. (later, refl)) (λ live.
      by_test Told (not (len x.calls == 0) || is_full jar) (Refused TryAgain) Ready (λ e. (later, refl)) (λ quiet.
      let both = neither (not (len x.calls == 0)) (is_full jar) quiet in
      record { later = later; live = holds (is_live x.condition) live; quiet = is_equal (len x.calls) 0 (holds (len x.calls == 0) both.0); room = both.1 })))

  cancel_tells : (cookie : Option Unused) (v : Verdict) → (Cancels x n cookie → Told v) → x.last < n → Told (cancel_verdict x cookie v)
  cancel_tells cookie v told later =
      by_test Told (is_fresh x.condition) Malformed _ (λ e. tt) (λ a.
      by_test Told (is_none cookie) (Refused BadCookie) v (λ e. (later, refl)) (λ some.
      let there = some_is cookie some in told (record { later = later; unused = there.0; there = there.1 })))

body_tells : (s : State) (jar : Jar) (c : ConnNo) (x : Connection) (n : ℕ) (body : Body) → Tells s jar c x n body (body_verdict s jar c x n body)
body_tells s jar c x n (body.Guest name) = numbered s jar c x n (body.Guest name) _ (guest_tells s jar c x n (body.Guest name))
body_tells s jar c x n (body.Join cookie name) =
    numbered s jar c x n (body.Join cookie name) _ (takeover_tells s jar c x n (body.Join cookie name) (redeemable jar cookie kind.Fork) (Join cookie) (λ t. t))
body_tells s jar c x n (body.Image cookie name) =
    numbered s jar c x n (body.Image cookie name) _ (takeover_tells s jar c x n (body.Image cookie name) (redeemable jar cookie kind.Exec) (Image cookie) (λ t. t))
body_tells s jar c x n (body.Sys num words) = numbered s jar c x n (body.Sys num words) _ (call_tells s jar c x n (body.Sys num words) num words)
body_tells s jar c x n body.Prefork = numbered s jar c x n body.Prefork _ (fork_tells s jar c x n body.Prefork)
body_tells s jar c x n (body.Cancel cookie) =
    numbered s jar c x n (body.Cancel cookie) _ (cancel_tells s jar c x n (body.Cancel cookie) (cancellable jar cookie c) (Cancel cookie) (λ t. t))
body_tells s jar c x n body.Preexec = numbered s jar c x n body.Preexec _ (ready_tells s jar c x n body.Preexec)
body_tells s jar c x n (GotBytes index err bytes) = copy_tells s jar c x n (get x.calls n) (GotBytes index err bytes) refl
body_tells s jar c x n (GotText index err bytes) = copy_tells s jar c x n (get x.calls n) (GotText index err bytes) refl
body_tells s jar c x n _ = tt

-- what the verdict on a frame tells
pub tells : (s : State) (jar : Jar) (c : ConnNo) (x : Connection) (f : Frame) (v : Verdict) → verdict_of s jar c x f ≡ v → Tells s jar c x f.number.0 f.body v
tells s jar c x f v e = subst (λ (w : Verdict). Tells s jar c x f.number.0 f.body w) e
    (by_test (Tells s jar c x f.number.0 f.body) (is_draining x.condition) Closed _ (λ closed. tt) (λ takes. body_tells s jar c x f.number.0 f.body))

pub refuses_takes : (s : State) (jar : Jar) (c : ConnNo) (x : Connection) (f : Frame) (why : SpError) → verdict_of s jar c x f ≡ Refused why → IsTrue (refusal_takes why)
refuses_takes s jar c x f why e = (tells s jar c x f (Refused why) e).1

pub copies : (s : State) (jar : Jar) (c : ConnNo) (x : Connection) (f : Frame) → verdict_of s jar c x f ≡ Copy → Copies x f.number.0 (bytes_in f.body)
copies s jar c x f e = tells s jar c x f Copy e

pub fails : (s : State) (jar : Jar) (c : ConnNo) (x : Connection) (f : Frame) (why : Errno) → verdict_of s jar c x f ≡ CopyFault why → CopyFails x f.number.0 why
fails s jar c x f why e = tells s jar c x f (CopyFault why) e
