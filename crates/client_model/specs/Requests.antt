-- How a request starts, and how its answer is collected.
use Rattle.std.specs.Prelude.{ℕ, ◌+◌, ◌^◌, ◌-◌, ◌==◌, ◌||◌, nat_le, not, Bool, List, [], ◌∷◌, ◌++◌, Option, None, Some, if◌then◌else◌}
use Rattle.std.specs.FinMap.{len, insert, remove}
use Rattle.sp_base.specs.Call.{call_number, call_words}
use Rattle.sp_base.specs.declared.call.Call.{Call}
use Rattle.sp_base.specs.declared.names.ReqNo.{ReqNo}
use Rattle.sp_copy.specs.Delivering.{answer_after}
use Rattle.sp_copy.specs.declared.delivery.Delivery.{Delivery}
use Rattle.sp_copy.specs.declared.part.Part.{Part}
use Rattle.sp_frames.specs.declared.frame.Body.{Body}
use Rattle.sp_frames.specs.declared.frame.Body.TheVariants as body
use Rattle.client_model.specs.State.{Open, Client, Played, fresh_request, request_frame}
use Rattle.client_model.specs.declared.event.Reply.{Reply}
use Rattle.client_model.specs.declared.event.Reply.TheVariants as reply
use Rattle.client_model.specs.declared.event.Want.{Want}
use Rattle.client_model.specs.declared.event.Want.TheVariants.{Make, Cancel}
use Rattle.client_model.specs.declared.request.Ending.{Ending}
use Rattle.client_model.specs.declared.request.Ending.TheVariants.{Gone, Broken}
use Rattle.client_model.specs.declared.request.Request.{Request}
use Rattle.client_model.specs.declared.request.Request.TheVariants as request
use Rattle.client_model.specs.declared.request.Response.{Response}
use Rattle.client_model.specs.declared.request.Response.TheVariants as response
use Rattle.client_model.specs.declared.request.TheConstants.{OPEN_REQUESTS}

-- the highest number that a request can have
abbrev pub highest_number : ℕ
highest_number = 2 ^ 64 - 1

-- no request can start: as many are open as can be, or the highest number was given
abbrev pub is_busy : Client → Bool
is_busy k = nat_le OPEN_REQUESTS (len k.requests) || (k.last == highest_number)

-- what the frame of a system call says
abbrev pub call_body : Call → Body
call_body call = body.Sys (call_number call) (call_words call)

-- what is asked by a want
abbrev pub wanted : Want → Request
wanted Make = request.Prefork
wanted (Cancel cookie) = request.Cancel

-- what the frame of a want says
abbrev pub want_body : Want → Body
want_body Make = body.Prefork
want_body (Cancel cookie) = body.Cancel cookie

-- a request starts under the next number: a frame that says it is queued, and it is open with the caller's memory
abbrev pub start_now : Client → Request → Body → List Part → Played
start_now k asks says mem = (
  reply.Started (record { 0 = k.last + 1 }),
  record k {
    last = k.last + 1;
    requests = insert k.requests (k.last + 1) (fresh_request asks mem);
    queue = k.queue ++ request_frame (k.last + 1) says ∷ [];
  },
)

-- what a request is answered once the talk with the server is over
abbrev pub over : Ending → List Part → Reply
over Gone mem = reply.Lost mem
over Broken mem = reply.Broken mem

-- a request starts, where the talk with the server goes on
abbrev pub start_by : Client → Request → Body → List Part → Option Ending → Played
start_by k asks says mem (Some ending) = (over ending mem, k)
start_by k asks says mem None =
    if not k.ready then (reply.NotYet mem, k)
    else if is_busy k then (reply.Busy mem, k)
    else start_now k asks says mem

-- what is collected of a request with its response, and with what was delivered for it
abbrev pub collected : Response → Delivery → Reply
collected (response.Joined pid) d = reply.Joined pid None
collected (response.Imaged pid place) d = reply.Joined pid (Some place)
collected (response.Answered answer) d = reply.Got (answer_after d.whole answer) d.mem
collected (response.Forked cookie place pid) d = reply.Forked cookie place pid
collected response.Cancelled d = reply.Cancelled
collected (response.ExecReady cookie) d = reply.ExecReady cookie
collected (response.Refused why) d = reply.Refused why d.mem

-- the client after a request is collected
abbrev pub closed : Client → ReqNo → Client
closed k r = record k { requests = remove k.requests r.0 }

-- a request without a response is collected only where the talk with the server is over
abbrev pub collect_unanswered : Client → ReqNo → Open → Option Ending → Played
collect_unanswered k r x None = (reply.NotYet [], k)
collect_unanswered k r x (Some ending) = (over ending x.delivery.mem, closed k r)

-- an open request is collected, by its response
abbrev pub collect_by : Client → ReqNo → Open → Option Response → Played
collect_by k r x None = collect_unanswered k r x k.ending
collect_by k r x (Some what) = (collected what x.delivery, closed k r)

-- the request of a number is collected, where one is open
abbrev pub collect_at : Client → ReqNo → Option Open → Played
collect_at k r None = (reply.Unknown, k)
collect_at k r (Some x) = collect_by k r x x.response
