-- A request that a client sends isn't malformed.
use Rattle.std.proofs.Common.{◌≡◌, ℕ, ◌<◌, Bool, true, false, cond, not, ◌||◌, ◌==◌, nat_le, length, Option, None, Some, is_none, refl, sym, ap, subst, arith}
use Rattle.std.specs.Prelude.{⊤, IfSome}
use Rattle.std.specs.FinMap.{len}
use Rattle.std.proofs.lemmas.Bool.{lt-leb}
use Rattle.std.proofs.lemmas.Bool.Decides.{nat_tests}
use Rattle.sp_base.specs.Call.{call_number, call_words, wanted_words, call_of, IsProper}
use Rattle.sp_base.proofs.CallRows.{call-count}
use Rattle.sp_base.specs.Table.{lowest_unused}
use Rattle.sp_base.specs.declared.call.Call.{Call}
use Rattle.sp_base.specs.declared.limits.TheConstants.{FIRST_PROCESS}
use Rattle.sp_base.specs.declared.names.ConnNo.{ConnNo}
use Rattle.sp_base.specs.declared.names.SpError.{SpError}
use Rattle.sp_base.specs.declared.names.SpError.TheVariants as error
use Rattle.sp_frames.specs.declared.frame.Body.{Body}
use Rattle.sp_frames.specs.declared.frame.Body.TheVariants as body
use Rattle.kern_model.specs.State.{State}
use Rattle.sp_fork.specs.Jar.{Jar, cancellable, is_full, redeemable}
use Rattle.sp_fork.specs.declared.unused.CookieKind.TheVariants as kind
use Rattle.sp_fork.specs.declared.unused.Unused.{Unused}
use Rattle.hub_model.specs.State.{Connection, is_live, is_fresh}
use Rattle.hub_model.specs.Verdict.{body_verdict, call_verdict, cancel_verdict, fork_verdict, guest_verdict, is_later_call, is_other_count, ready_verdict}
use Rattle.hub_model.specs.Verdict.{request_verdict, takeover_verdict}
use Rattle.hub_model.specs.declared.state.TheConstants.{OPEN_CALLS}
use Rattle.hub_model.specs.declared.verdict.Verdict.{Verdict}
use Rattle.hub_model.specs.declared.verdict.Verdict.TheVariants as verdict
use Rattle.client_model.specs.Requests.{call_body}
use Rattle.client_model.specs.declared.request.Request.{Request}
use Rattle.client_model.specs.declared.request.Request.TheVariants as request
use Rattle.world_model.proofs.Stage.{IsBodyOf, IsNumberOf}

-- a verdict isn't that a frame is malformed
abbrev pub IsTaken : Verdict → Type 0
IsTaken verdict.Malformed = ⊥
IsTaken _ = ⊤

-- a test that a frame passes
passes : (test : Bool) (v : Verdict) → test ≡ false → IsTaken v → IsTaken (cond test verdict.Malformed v)
passes test v e h = subst (λ (b : Bool). IsTaken (cond b verdict.Malformed v)) (sym e) h

-- a test by which it may be refused
refused_or : (test : Bool) (why : SpError) (v : Verdict) → IsTaken v → IsTaken (cond test (verdict.Refused why) v)
refused_or true why v h = tt
refused_or false why v h = h

same_count : (o : Option ℕ) (n : ℕ) → IfSome o (λ want. want ≡ n) → is_other_count o n ≡ false
same_count None n h = refl
same_count (Some want) n h = grind (arith, nat_tests)

module _ (s : State) (jar : Jar) (c : ConnNo) (x : Connection) (n : ℕ) (later : x.last < n) where
  above : (v : Verdict) → IsTaken v → IsTaken (request_verdict x n v)
  above v h = passes (nat_le n x.last) v (lt-leb n x.last later) h

  guest_fits : is_fresh x.condition ≡ true → IsTaken (request_verdict x n (guest_verdict s x))
  guest_fits fresh =
      let full = is_none (lowest_unused s.processes FIRST_PROCESS) in
      above (guest_verdict s x) (passes (not (is_fresh x.condition)) (cond full (verdict.Refused error.ProcFull) verdict.Attach) (ap not fresh)
      (refused_or full error.ProcFull verdict.Attach tt))

  takeover_fits : (cookie : Option Unused) (v : Verdict) → is_fresh x.condition ≡ true → IsTaken v
      → IsTaken (request_verdict x n (takeover_verdict x cookie v))
  takeover_fits cookie v fresh h =
      above (takeover_verdict x cookie v) (passes (not (is_fresh x.condition)) (cond (is_none cookie) (verdict.Refused error.BadCookie) v) (ap not fresh)
      (refused_or (is_none cookie) error.BadCookie v h))

  fork_fits : is_fresh x.condition ≡ false → IsTaken (request_verdict x n (fork_verdict s jar x))
  fork_fits spoke =
      let full = is_none (lowest_unused s.processes FIRST_PROCESS) in
      let last : Verdict = cond full (verdict.Refused error.ProcFull) verdict.Fork in
      let third : Verdict = cond (is_full jar) (verdict.Refused error.TryAgain) last in
      above (fork_verdict s jar x) (passes (is_fresh x.condition) (cond (not (is_live x.condition)) (verdict.Refused error.InExec) third) spoke
      (refused_or (not (is_live x.condition)) error.InExec third
      (refused_or (is_full jar) error.TryAgain last (refused_or full error.ProcFull verdict.Fork tt))))

  ready_fits : is_fresh x.condition ≡ false → IsTaken (request_verdict x n (ready_verdict jar x))
  ready_fits spoke =
      let busy = not (len x.calls == 0) || is_full jar in
      let last : Verdict = cond busy (verdict.Refused error.TryAgain) verdict.Ready in
      above (ready_verdict jar x) (passes (is_fresh x.condition) (cond (not (is_live x.condition)) (verdict.Refused error.InExec) last) spoke
      (refused_or (not (is_live x.condition)) error.InExec last (refused_or busy error.TryAgain verdict.Ready tt)))

  cancel_fits : (cookie : Option Unused) (v : Verdict) → is_fresh x.condition ≡ false → IsTaken v → IsTaken (request_verdict x n (cancel_verdict x cookie v))
  cancel_fits cookie v spoke h =
      above (cancel_verdict x cookie v) (passes (is_fresh x.condition) (cond (is_none cookie) (verdict.Refused error.BadCookie) v) spoke
      (refused_or (is_none cookie) error.BadCookie v h))

  call_fits : (call : Call) → is_fresh x.condition ≡ false → IsProper call → is_later_call (call_number call) ≡ false
      → IsTaken (body_verdict s jar c x n (call_body call))
  call_fits call spoke proper now =
      let num = call_number call in
      let words = call_words call in
      let busy = nat_le OPEN_CALLS (len x.calls) in
      let last : Verdict = cond busy (verdict.Refused error.TryAgain) (verdict.Task (call_of num words)) in
      let fourth : Verdict = cond (not (is_live x.condition)) (verdict.Refused error.InExec) last in
      let third : Verdict = cond (is_later_call num) verdict.Malformed fourth in
      let other = is_other_count (wanted_words num) (length words) in
      above (call_verdict x num words) (passes (is_fresh x.condition) (cond other verdict.Malformed third) spoke
      (passes other third (same_count (wanted_words num) (length words) (call-count call proper)) (passes (is_later_call num) fourth now
      (refused_or (not (is_live x.condition)) error.InExec last (refused_or busy error.TryAgain (verdict.Task (call_of num words)) tt)))))

  -- a request isn't malformed: a handshake comes first, and others once the connection speaks for a process
  pub request_fits : (what : Request) (b : Body) → IsBodyOf what b → IsNumberOf what n → (n ≡ 1 → is_fresh x.condition ≡ true)
      → (1 < n → is_fresh x.condition ≡ false)
      → IsTaken (body_verdict s jar c x n b)
  request_fits request.Attach (body.Guest name) is number first more = guest_fits (first number)
  request_fits request.Join (body.Join cookie name) is number first more = takeover_fits (redeemable jar cookie kind.Fork) (verdict.Join cookie)
      (first number) tt
  request_fits request.Image (body.Image cookie name) is number first more = takeover_fits (redeemable jar cookie kind.Exec) (verdict.Image cookie)
      (first number) tt
  request_fits (request.Call call) (body.Sys num words) is number first more =
      subst (λ (b : Body). IsTaken (body_verdict s jar c x n b)) (sym is.0) (call_fits call (more number) is.1 is.2)
  request_fits request.Prefork body.Prefork is number first more = fork_fits (more number)
  request_fits request.Cancel (body.Cancel cookie) is number first more = cancel_fits (cancellable jar cookie c) (verdict.Cancel cookie) (more number) tt
  request_fits request.Preexec body.Preexec is number first more = ready_fits (more number)
  request_fits _ _ is number first more = absurd is
