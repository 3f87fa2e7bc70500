-- What becomes of a frame: the first case that applies, in the order written.
use Rattle.std.specs.Prelude.{ℕ, ◌==◌, nat_le, nat_lt, not, ◌&&◌, ◌||◌, Bool, true, false, List, length, Option, None, Some, is_none, slice_get, if◌then◌else◌}
use Rattle.std.specs.FinMap.{get, len}
use Rattle.sp_base.specs.Call.{wanted_words, call_of}
use Rattle.sp_base.specs.Needs.{needs_of}
use Rattle.sp_base.specs.Table.{lowest_unused}
use Rattle.sp_base.specs.declared.errno.Errno.TheVariants.{Efault, Enametoolong}
use Rattle.sp_base.specs.declared.limits.TheConstants.{FIRST_PROCESS}
use Rattle.sp_base.specs.declared.names.ConnNo.{ConnNo}
use Rattle.sp_base.specs.declared.names.SpError.TheVariants.{TryAgain, BadCookie, ProcFull, InExec}
use Rattle.sp_base.specs.declared.need.Need.{Need}
use Rattle.sp_base.specs.declared.need.Need.TheVariants.{Bytes, Text}
use Rattle.sp_frames.specs.Grammar.{is_answer, is_text_answer}
use Rattle.sp_frames.specs.declared.frame.Body.{Body}
use Rattle.sp_frames.specs.declared.frame.Body.TheVariants as body
use Rattle.sp_frames.specs.declared.frame.Frame.{Frame}
use Rattle.kern_model.specs.State.{State}
use Rattle.sp_fork.specs.Jar.{Jar, cancellable, is_full, redeemable}
use Rattle.sp_fork.specs.declared.unused.CookieKind.TheVariants as kind
use Rattle.sp_fork.specs.declared.unused.Unused.{Unused}
use Rattle.hub_model.specs.State.{Connection, is_live, is_fresh, is_draining}
use Rattle.hub_model.specs.declared.state.OpenCall.{OpenCall}
use Rattle.hub_model.specs.declared.state.OpenCall.TheVariants.{Gathers}
use Rattle.hub_model.specs.declared.state.TheConstants.{OPEN_CALLS}
use Rattle.hub_model.specs.declared.verdict.Verdict.{Verdict}
use Rattle.hub_model.specs.declared.verdict.Verdict.TheVariants.{Closed, Malformed, Refused, Attach, Join, Image, Fork, Ready, Cancel, Task, Copy, CopyFault}

-- the number takes a count of words that isn't this one
abbrev pub is_other_count : Option ℕ → ℕ → Bool
is_other_count None count = false
is_other_count (Some want) count = not (want == count)

-- the calls of pipes, sockets and poll, which the server doesn't take by now
abbrev pub is_later_call : ℕ → Bool
is_later_call num = nat_le 21 num && nat_le num 33

-- a system call
abbrev pub call_verdict : Connection → ℕ → List ℕ → Verdict
call_verdict x num words =
    if is_fresh x.condition then Malformed
    else if is_other_count (wanted_words num) (length words) then Malformed
    else if is_later_call num then Malformed
    else if not (is_live x.condition) then Refused InExec
    else if nat_le OPEN_CALLS (len x.calls) then Refused TryAgain
    else Task (call_of num words)

-- a guest's handshake
abbrev pub guest_verdict : State → Connection → Verdict
guest_verdict s x =
    if not (is_fresh x.condition) then Malformed
    else if is_none (lowest_unused s.processes FIRST_PROCESS) then Refused ProcFull
    else Attach

-- a handshake by a cookie, which must be an unused one
abbrev pub takeover_verdict : Connection → Option Unused → Verdict → Verdict
takeover_verdict x cookie verdict =
    if not (is_fresh x.condition) then Malformed
    else if is_none cookie then Refused BadCookie
    else verdict

-- a fork
abbrev pub fork_verdict : State → Jar → Connection → Verdict
fork_verdict s jar x =
    if is_fresh x.condition then Malformed
    else if not (is_live x.condition) then Refused InExec
    else if is_full jar then Refused TryAgain
    else if is_none (lowest_unused s.processes FIRST_PROCESS) then Refused ProcFull
    else Fork

-- a process is to go on as its next program, where no call is open
abbrev pub ready_verdict : Jar → Connection → Verdict
ready_verdict jar x =
    if is_fresh x.condition then Malformed
    else if not (is_live x.condition) then Refused InExec
    else if not (len x.calls == 0) || is_full jar then Refused TryAgain
    else Ready

-- a cookie is to be taken back, which must be an unused one that the connection made
abbrev pub cancel_verdict : Connection → Option Unused → Verdict → Verdict
cancel_verdict x cookie verdict =
    if is_fresh x.condition then Malformed
    else if is_none cookie then Refused BadCookie
    else verdict

-- a request, whose number must be above the last one
abbrev pub request_verdict : Connection → ℕ → Verdict → Verdict
request_verdict x n verdict = if nat_le n x.last then Malformed else verdict

-- a copy is of what was asked for, and within its row: all of the bytes, or a text below its limit; or none, with an error
abbrev pub is_copy_of : Need → Body → Bool
is_copy_of (Bytes addr bytes_len) (body.GotBytes index err bytes) = is_answer err bytes && (not (err == 0) || (length bytes == bytes_len))
is_copy_of (Text addr limit) (body.GotText index err bytes) = is_text_answer err bytes && nat_lt (length bytes) limit
is_copy_of need body = false

-- the index that a copy names
abbrev pub index_in : Body → Option ℕ
index_in (body.GotBytes index err bytes) = Some index
index_in (body.GotText index err bytes) = Some index
index_in _ = None

-- the error number that a copy carries, 0 for none
abbrev pub error_in : Body → ℕ
error_in (body.GotBytes index err bytes) = err
error_in (body.GotText index err bytes) = err
error_in _ = 0

-- a copy, by its error number
abbrev pub copy_by_error : ℕ → Verdict
copy_by_error err = if err == 0 then Copy else if err == 14 then CopyFault Efault else CopyFault Enametoolong

-- an index is this one
abbrev pub is_index : Option ℕ → ℕ → Bool
is_index None count = false
is_index (Some index) count = index == count

-- a copy of what a call reads, where the need of its index was asked for
abbrev pub need_verdict : Option Need → ℕ → Body → Verdict
need_verdict None index body = Malformed
need_verdict (Some need) index body =
    if is_index (index_in body) index && is_copy_of need body then copy_by_error (error_in body) else Malformed

-- a copy for a call, which must have an ask that is out
abbrev pub copy_verdict : Option OpenCall → Body → Verdict
copy_verdict (Some (Gathers call got true)) body = need_verdict (slice_get (needs_of call) (length got)) (length got) body
copy_verdict _ body = Malformed

-- a frame of a connection by its body; a client sends no other type
abbrev pub body_verdict : State → Jar → ConnNo → Connection → ℕ → Body → Verdict
body_verdict s jar c x n (body.Guest name) = request_verdict x n (guest_verdict s x)
body_verdict s jar c x n (body.Join cookie name) = request_verdict x n (takeover_verdict x (redeemable jar cookie kind.Fork) (Join cookie))
body_verdict s jar c x n (body.Image cookie name) = request_verdict x n (takeover_verdict x (redeemable jar cookie kind.Exec) (Image cookie))
body_verdict s jar c x n (body.Sys num words) = request_verdict x n (call_verdict x num words)
body_verdict s jar c x n body.Prefork = request_verdict x n (fork_verdict s jar x)
body_verdict s jar c x n (body.Cancel cookie) = request_verdict x n (cancel_verdict x (cancellable jar cookie c) (Cancel cookie))
body_verdict s jar c x n body.Preexec = request_verdict x n (ready_verdict jar x)
body_verdict s jar c x n (body.GotBytes index err bytes) = copy_verdict (get x.calls n) (body.GotBytes index err bytes)
body_verdict s jar c x n (body.GotText index err bytes) = copy_verdict (get x.calls n) (body.GotText index err bytes)
body_verdict s jar c x n _ = Malformed

-- a frame of a connection
abbrev pub verdict_of : State → Jar → ConnNo → Connection → Frame → Verdict
verdict_of s jar c x f = if is_draining x.condition then Closed else body_verdict s jar c x f.number.0 f.body
