-- The frames that the server sends.
use Rattle.std.specs.Prelude.{ℕ, ◌+◌, Bool, true, false, List, [], ◌∷◌, ◌++◌, Option, None, Some}
use Rattle.sp_base.specs.declared.names.Answer.{Answer}
use Rattle.sp_base.specs.declared.names.Cookie.{Cookie}
use Rattle.sp_base.specs.declared.names.Pid.{Pid}
use Rattle.sp_base.specs.declared.names.ReqNo.{ReqNo}
use Rattle.sp_base.specs.declared.names.SpError.{SpError}
use Rattle.sp_base.specs.declared.names.SpError.TheVariants.{Malformed}
use Rattle.sp_base.specs.declared.need.Need.{Need}
use Rattle.sp_base.specs.declared.need.Need.TheVariants.{Bytes, Text}
use Rattle.sp_frames.specs.declared.frame.Body.{Body}
use Rattle.sp_frames.specs.declared.frame.Body.TheVariants as body
use Rattle.sp_frames.specs.declared.frame.Frame.{Frame}
use Rattle.kern_model.specs.declared.outcome.OutPiece.{OutPiece}
use Rattle.kern_model.specs.declared.outcome.Outcome.{Outcome}

-- the response of a guest's handshake
abbrev pub hello : ReqNo → ℕ → Frame
hello r pid = record { number = r; body = body.Hello (record { 0 = pid }) }

-- the response of a child's handshake
abbrev pub joined : ReqNo → Pid → Frame
joined r pid = record { number = r; body = body.Joined pid }

-- the response of the handshake of a process's next program, with the place of its exec
abbrev pub imaged : ReqNo → Pid → ℕ → Frame
imaged r pid place = record { number = r; body = body.Imaged pid (record { 0 = place }) }

-- the response of a fork: the cookie that hands the child over, the place of the fork, and the child
abbrev pub forked : ReqNo → Cookie → ℕ → Pid → Frame
forked r cookie place child = record { number = r; body = body.Forked cookie (record { 0 = place }) child }

-- the response of what takes a cookie back
abbrev pub cancelled : ReqNo → Frame
cancelled r = record { number = r; body = body.Cancelled }

-- the response of a process that is to go on as its next program: the cookie that hands it over
abbrev pub exec_ready : ReqNo → Cookie → Frame
exec_ready r cookie = record { number = r; body = body.ExecReady cookie }

-- an ask for what a call reads, by its index
abbrev pub ask_body : ℕ → Need → Body
ask_body index (Bytes addr bytes_len) = body.AskBytes index addr bytes_len
ask_body index (Text addr limit) = body.AskText index addr limit

-- an ask for what a call reads, under the call's number
abbrev pub ask : ReqNo → ℕ → Need → Frame
ask r index need = record { number = r; body = ask_body index need }

-- an outcome's numbers, and the place of its entry
abbrev pub answer_at : Outcome → ℕ → Answer
answer_at outcome place = record { err = outcome.err; ret0 = outcome.ret0; ret1 = outcome.ret1; place = record { 0 = place } }

-- the bytes to write, one Put for each piece, counted from an index on
abbrev pub puts_from : ReqNo → ℕ → List OutPiece → List Frame
puts_from r index [] = []
puts_from r index (piece ∷ pieces) = record { number = r; body = body.Put index piece.addr piece.bytes } ∷ puts_from r (index + 1) pieces

-- what tells a call's outcome: the bytes to write, and then the response
abbrev pub told : ReqNo → Outcome → ℕ → List Frame
told r outcome place = puts_from r 0 outcome.outs ++ record { number = r; body = body.Answered (answer_at outcome place) } ∷ []

-- the type of a request to which an error frame may answer
abbrev pub answered_kind : Body → Option ℕ
answered_kind (body.Guest name) = Some 0
answered_kind (body.Join cookie name) = Some 0
answered_kind (body.Image cookie name) = Some 0
answered_kind (body.Sys num words) = Some 1
answered_kind body.Prefork = Some 5
answered_kind (body.Cancel cookie) = Some 5
answered_kind body.Preexec = Some 6
answered_kind _ = None

-- an error frame
abbrev pub refusal : ReqNo → ℕ → SpError → Frame
refusal r kind why = record { number = r; body = body.Refused kind why }

-- the last error of a connection: it answers the request that is malformed, or nothing by name
abbrev pub last_error : ReqNo → Option ℕ → Frame
last_error r (Some kind) = refusal r kind Malformed
last_error r None = refusal (record { 0 = 0 }) 0 Malformed

-- a frame ends its request: it is the response of a call, or an error
abbrev pub is_end : Body → Bool
is_end (body.Answered answer) = true
is_end (body.Refused kind why) = true
is_end _ = false
