-- What a verdict says of the frame that it was given on.
use Rattle.std.proofs.Common.{◌≡◌, ℕ, ◌<◌, ◌==◌, ◌&&◌, ◌||◌, nat_le, Bool, true, false, not, cond, List, length, Option, None, Some, is_none, slice_get, refl, ap, ◌∙◌}
use Rattle.std.specs.FinMap.{get, len}
use Rattle.std.proofs.lemmas.Bool.{and_parts, cond_both, eqb-true, leb-false, not-false}
use Rattle.sp_base.specs.Call.{wanted_words, call_of}
use Rattle.sp_base.specs.Needs.{needs_of}
use Rattle.sp_base.specs.Table.{lowest_unused}
use Rattle.sp_base.specs.declared.errno.Errno.TheVariants.{Efault, Enametoolong}
use Rattle.sp_base.specs.declared.call.Call.{Call}
use Rattle.sp_base.specs.declared.limits.TheConstants.{FIRST_PROCESS}
use Rattle.sp_base.specs.declared.names.ConnNo.{ConnNo}
use Rattle.sp_base.specs.declared.names.Cookie.{Cookie}
use Rattle.sp_base.specs.declared.names.SpError.{SpError}
use Rattle.sp_base.specs.declared.names.SpError.TheVariants as error
use Rattle.sp_base.specs.declared.need.Need.{Need}
use Rattle.sp_frames.specs.declared.frame.Body.{Body}
use Rattle.sp_frames.specs.declared.frame.Body.TheVariants as body
use Rattle.kern_model.specs.State.{State}
use Rattle.kern_model.specs.declared.operation.Op.TheVariants as op
use Rattle.sp_fork.specs.Jar.{Jar, cancellable, is_full, redeemable}
use Rattle.sp_fork.specs.declared.unused.CookieKind.TheVariants as kind
use Rattle.sp_fork.specs.declared.unused.Unused.{Unused}
use Rattle.hub_model.specs.Frames.{answered_kind}
use Rattle.hub_model.specs.State.{Connection, is_live, is_fresh}
use Rattle.hub_model.specs.Verdict.{body_verdict, call_verdict, cancel_verdict, copy_by_error, copy_verdict, error_in, fork_verdict, guest_verdict, index_in, is_copy_of, is_index, is_later_call, is_other_count, need_verdict, ready_verdict, request_verdict, takeover_verdict}
use Rattle.hub_model.specs.declared.state.OpenCall.{OpenCall}
use Rattle.hub_model.specs.declared.state.OpenCall.TheVariants.{Gathers, Fails, Answers}
use Rattle.hub_model.specs.declared.state.TheConstants.{OPEN_CALLS}
use Rattle.hub_model.specs.declared.verdict.Verdict.{Verdict}
use Rattle.hub_model.specs.declared.verdict.Verdict.TheVariants as verdict
use Rattle.hub_law.specs.Serves.{AsksFor}

-- a request takes a process over by a fork cookie
abbrev pub IsJoin : Body → Type 0
IsJoin (body.Join cookie name) = Unit {0}
IsJoin _ = ⊥

-- a request asks for a cookie that hands its process over to the next program
abbrev pub IsPreexec : Body → Type 0
IsPreexec body.Preexec = Unit {0}
IsPreexec _ = ⊥

-- a request takes a cookie back
abbrev pub IsCancel : Body → Type 0
IsCancel (body.Cancel cookie) = Unit {0}
IsCancel _ = ⊥

-- a request is refused with an error
pub record IsRefused (b : Body) (why : SpError) : Type 0 where
  pub type : ℕ
  pub kind : answered_kind b ≡ Some type
  pub plain : why ≡ error.Malformed → ⊥

-- a copy comes for what an open call asked for, with this error number
pub record IsCopy (x : Connection) (n : ℕ) (b : Body) : Type 0 where
  pub call : Call
  pub got : List (List ℕ)
  pub task : get x.calls n ≡ Some (Gathers call got true)
  pub index : index_in b ≡ Some (length got)

-- what a verdict says of a frame of a connection
abbrev pub Means : Jar → ConnNo → Connection → ℕ → Body → Verdict → Type 0
Means jar c x n b verdict.Closed = ⊥
Means jar c x n b verdict.Malformed = Unit {0}
Means jar c x n b (verdict.Refused why) = (x.last < n) × IsRefused b why
Means jar c x n b verdict.Attach = (x.last < n) × AsksFor b op.Attach
Means jar c x n b (verdict.Join cookie) = (x.last < n) × IsJoin b × (redeemable jar cookie kind.Fork ≡ None → ⊥)
Means jar c x n b (verdict.Image cookie) = (x.last < n) × AsksFor b op.Exec × (redeemable jar cookie kind.Exec ≡ None → ⊥)
Means jar c x n b verdict.Fork = (x.last < n) × AsksFor b op.Fork × (is_live x.condition ≡ true)
Means jar c x n b verdict.Ready = (x.last < n) × IsPreexec b × (is_live x.condition ≡ true)
Means jar c x n b (verdict.Cancel cookie) = (x.last < n) × IsCancel b × (cancellable jar cookie c ≡ None → ⊥)
Means jar c x n b (verdict.Task call) = (x.last < n) × AsksFor b (op.Sys call)
Means jar c x n b verdict.Copy = IsCopy x n b × (error_in b ≡ 0)
Means jar c x n b (verdict.CopyFault why) = IsCopy x n b × (copy_by_error (error_in b) ≡ verdict.CopyFault why)

there : (o : Option Unused) → is_none o ≡ false → o ≡ None → ⊥
there None e h = let k : true ≡ false = e in cc
there (Some u) e h = cc

module _ (s : State) (jar : Jar) (c : ConnNo) (x : Connection) (n : ℕ) where
  -- a request's number is above the last one, or the frame is malformed
  requested : (b : Body) (v : Verdict) → (x.last < n → Means jar c x n b v) → Means jar c x n b (request_verdict x n v)
  requested b v means = cond_both (nat_le n x.last) verdict.Malformed v (Means jar c x n b) (λ e. tt) (λ e. means (leb-false n x.last e))

  -- a test, by which a request is malformed
  malformed_if : (b : Body) (test : Bool) (v : Verdict) → (test ≡ false → Means jar c x n b v) → Means jar c x n b (cond test verdict.Malformed v)
  malformed_if b test v means = cond_both test verdict.Malformed v (Means jar c x n b) (λ e. tt) means

  -- a test, by which a request is refused
  refused_if : (b : Body) (test : Bool) (why : SpError) (v : Verdict) → x.last < n → IsRefused b why → (test ≡ false → Means jar c x n b v)
      → Means jar c x n b (cond test (verdict.Refused why) v)
  refused_if b test why v later refused means = cond_both test (verdict.Refused why) v (Means jar c x n b) (λ e. (later, refused)) means

  guest_means : (b : Body) → answered_kind b ≡ Some 0 → AsksFor b op.Attach → Means jar c x n b (request_verdict x n (guest_verdict s x))
  guest_means b kind asks =
      let full = is_none (lowest_unused s.processes FIRST_PROCESS) in
      let last : Verdict = cond full (verdict.Refused error.ProcFull) verdict.Attach in
      requested b (guest_verdict s x) (λ later. malformed_if b (not (is_fresh x.condition)) last (λ fresh.
      refused_if b full error.ProcFull verdict.Attach later (record { type = 0; kind = kind; plain = λ e. cc }) (λ free. (later, asks))))

  takeover_means : (b : Body) (cookie : Option Unused) (v : Verdict) → answered_kind b ≡ Some 0 → (x.last < n → (cookie ≡ None → ⊥) → Means jar c x n b v)
      → Means jar c x n b (request_verdict x n (takeover_verdict x cookie v))
  takeover_means b cookie v kind means =
      let last : Verdict = cond (is_none cookie) (verdict.Refused error.BadCookie) v in
      requested b (takeover_verdict x cookie v) (λ later. malformed_if b (not (is_fresh x.condition)) last (λ fresh.
      refused_if b (is_none cookie) error.BadCookie v later (record { type = 0; kind = kind; plain = λ e. cc }) (λ e. means later (there cookie e))))

  fork_means : (b : Body) → answered_kind b ≡ Some 5 → AsksFor b op.Fork → Means jar c x n b (request_verdict x n (fork_verdict s jar x))
  fork_means b kind asks =
      let full = is_none (lowest_unused s.processes FIRST_PROCESS) in
      let last : Verdict = cond full (verdict.Refused error.ProcFull) verdict.Fork in
      let third : Verdict = cond (is_full jar) (verdict.Refused error.TryAgain) last in
      let second : Verdict = cond (not (is_live x.condition)) (verdict.Refused error.InExec) third in
      requested b (fork_verdict s jar x) (λ later. malformed_if b (is_fresh x.condition) second (λ fresh.
      refused_if b (not (is_live x.condition)) error.InExec third later (record { type = 5; kind = kind; plain = λ e. cc }) (λ live.
      refused_if b (is_full jar) error.TryAgain last later (record { type = 5; kind = kind; plain = λ e. cc }) (λ room.
      refused_if b full error.ProcFull verdict.Fork later (record { type = 5; kind = kind; plain = λ e. cc }) (λ free.
      (later, asks, not-false (is_live x.condition) live))))))

  ready_means : (b : Body) → answered_kind b ≡ Some 6 → IsPreexec b → Means jar c x n b (request_verdict x n (ready_verdict jar x))
  ready_means b kind asks =
      let busy = not (len x.calls == 0) || is_full jar in
      let last : Verdict = cond busy (verdict.Refused error.TryAgain) verdict.Ready in
      let second : Verdict = cond (not (is_live x.condition)) (verdict.Refused error.InExec) last in
      requested b (ready_verdict jar x) (λ later. malformed_if b (is_fresh x.condition) second (λ fresh.
      refused_if b (not (is_live x.condition)) error.InExec last later (record { type = 6; kind = kind; plain = λ e. cc }) (λ live.
      refused_if b busy error.TryAgain verdict.Ready later (record { type = 6; kind = kind; plain = λ e. cc }) (λ room.
      (later, asks, not-false (is_live x.condition) live)))))

  cancel_means : (b : Body) (cookie : Cookie) → answered_kind b ≡ Some 5 → IsCancel b
      → Means jar c x n b (request_verdict x n (cancel_verdict x (cancellable jar cookie c) (verdict.Cancel cookie)))
  cancel_means b cookie kind asks =
      let unused = cancellable jar cookie c in
      let last : Verdict = cond (is_none unused) (verdict.Refused error.BadCookie) (verdict.Cancel cookie) in
      requested b (cancel_verdict x unused (verdict.Cancel cookie)) (λ later. malformed_if b (is_fresh x.condition) last (λ fresh.
      refused_if b (is_none unused) error.BadCookie (verdict.Cancel cookie) later (record { type = 5; kind = kind; plain = λ e. cc }) (λ e.
      (later, asks, there unused e))))

  call_means : (num : ℕ) (words : List ℕ) → Means jar c x n (body.Sys num words) (request_verdict x n (call_verdict x num words))
  call_means num words =
      let b = body.Sys num words in
      let busy = nat_le OPEN_CALLS (len x.calls) in
      let last : Verdict = cond busy (verdict.Refused error.TryAgain) (verdict.Task (call_of num words)) in
      let fourth : Verdict = cond (not (is_live x.condition)) (verdict.Refused error.InExec) last in
      let third : Verdict = cond (is_later_call num) verdict.Malformed fourth in
      let second : Verdict = cond (is_other_count (wanted_words num) (length words)) verdict.Malformed third in
      requested b (call_verdict x num words) (λ later. malformed_if b (is_fresh x.condition) second (λ fresh.
      malformed_if b (is_other_count (wanted_words num) (length words)) third (λ count. malformed_if b (is_later_call num) fourth (λ known.
      refused_if b (not (is_live x.condition)) error.InExec last later (record { type = 1; kind = refl; plain = λ e. cc }) (λ live.
      refused_if b busy error.TryAgain (verdict.Task (call_of num words)) later (record { type = 1; kind = refl; plain = λ e. cc }) (λ room.
      (later, refl)))))))

  -- an error number of a copy
  error_means : (b : Body) → IsCopy x n b → Means jar c x n b (copy_by_error (error_in b))
  error_means b copy = by_number (error_in b) refl
    where
      by_fault : (err : ℕ) → error_in b ≡ err → (test : Bool) → copy_by_error err ≡ cond test (verdict.CopyFault Efault) (verdict.CopyFault Enametoolong)
          → Means jar c x n b (cond test (verdict.CopyFault Efault) (verdict.CopyFault Enametoolong))
      by_fault err e true by = (copy, ap copy_by_error e ∙ by)
      by_fault err e false by = (copy, ap copy_by_error e ∙ by)

      by_zero : (err : ℕ) → error_in b ≡ err → (test : Bool) → (err == 0) ≡ test
          → Means jar c x n b (cond test verdict.Copy (cond (err == 14) (verdict.CopyFault Efault) (verdict.CopyFault Enametoolong)))
      by_zero err e true zero = (copy, e ∙ eqb-true err 0 zero)
      by_zero err e false some = by_fault err e (err == 14)
          (ap (λ t. cond t verdict.Copy (cond (err == 14) (verdict.CopyFault Efault) (verdict.CopyFault Enametoolong))) some)

      by_number : (err : ℕ) → error_in b ≡ err → Means jar c x n b (copy_by_error err)
      by_number err e = by_zero err e (err == 0) refl

  index_means : (index : Option ℕ) (count : ℕ) → is_index index count ≡ true → index ≡ Some count
  index_means None count e = absurd (let k : false ≡ true = e in cc)
  index_means (Some index) count e = ap Some (eqb-true index count e)

  need_means : (b : Body) (call : Call) (got : List (List ℕ)) (need : Option Need) → get x.calls n ≡ Some (Gathers call got true)
      → Means jar c x n b (need_verdict need (length got) b)
  need_means b call got None task = tt
  need_means b call got (Some need) task =
      cond_both (is_index (index_in b) (length got) && is_copy_of need b) (copy_by_error (error_in b)) verdict.Malformed (Means jar c x n b)
      (λ e. error_means b (record { call = call; got = got; task = task; index = index_means (index_in b) (length got) (and_parts _ _ e).0 }))
      (λ e. tt)

  copy_means : (b : Body) (task : Option OpenCall) → get x.calls n ≡ task → Means jar c x n b (copy_verdict task b)
  copy_means b None e = tt
  copy_means b (Some (Gathers call got true)) e = need_means b call got (slice_get (needs_of call) (length got)) e
  copy_means b (Some (Gathers call got false)) e = tt
  copy_means b (Some (Fails call why)) e = tt
  copy_means b (Some Answers) e = tt

  -- what the verdict on a frame says of it
  pub body_means : (b : Body) → Means jar c x n b (body_verdict s jar c x n b)
  body_means (body.Guest name) = guest_means (body.Guest name) refl tt
  body_means (body.Join cookie name) = takeover_means (body.Join cookie name) _ (verdict.Join cookie) refl (λ later there. (later, tt, there))
  body_means (body.Image cookie name) = takeover_means (body.Image cookie name) _ (verdict.Image cookie) refl (λ later there. (later, tt, there))
  body_means (body.Sys num words) = call_means num words
  body_means body.Prefork = fork_means body.Prefork refl tt
  body_means (body.Cancel cookie) = cancel_means (body.Cancel cookie) cookie refl tt
  body_means body.Preexec = ready_means body.Preexec refl tt
  body_means (body.GotBytes index err bytes) = copy_means (body.GotBytes index err bytes) _ refl
  body_means (body.GotText index err bytes) = copy_means (body.GotText index err bytes) _ refl
  body_means _ = tt
