-- What a frame of the server does to the request that it names.
use Rattle.std.specs.Prelude.{ℕ, true, List, [], ◌∷◌, ◌++◌, Some, Result, Ok, Err}
use Rattle.sp_base.specs.declared.names.ReqNo.{ReqNo}
use Rattle.sp_base.specs.declared.need.Need.TheVariants.{Bytes, Text}
use Rattle.sp_copy.specs.Delivering.{put_piece}
use Rattle.sp_copy.specs.Reading.{read_of}
use Rattle.sp_copy.specs.declared.fault.CopyFault.{CopyFault}
use Rattle.sp_copy.specs.declared.fault.CopyFault.TheVariants as fault
use Rattle.sp_copy.specs.declared.part.Part.{Part}
use Rattle.sp_frames.specs.declared.frame.Body.{Body}
use Rattle.sp_frames.specs.declared.frame.Body.TheVariants as body
use Rattle.client_model.specs.State.{Open, Client, with_request}
use Rattle.client_model.specs.declared.request.Response.{Response}
use Rattle.client_model.specs.declared.request.Response.TheVariants as response

-- the number of the error that a copy carries: 14, EFAULT, or 63, ENAMETOOLONG, of a text without end
abbrev pub error_of : CopyFault → ℕ
error_of fault.NoEnd = 63
error_of _ = 14

-- bytes that were read, or the error for which they weren't, as a copy of an index
abbrev pub got_bytes : ℕ → Result (List ℕ) CopyFault → Body
got_bytes index (Ok bytes) = body.GotBytes index 0 bytes
got_bytes index (Err why) = body.GotBytes index (error_of why) []

-- the same of a text
abbrev pub got_text : ℕ → Result (List ℕ) CopyFault → Body
got_text index (Ok bytes) = body.GotText index 0 bytes
got_text index (Err why) = body.GotText index (error_of why) []

-- the copy that answers an ask, read from a memory at once
abbrev pub copy_of : List Part → Body → Body
copy_of mem (body.AskBytes index addr len) = got_bytes index (read_of mem (Bytes addr len))
copy_of mem (body.AskText index addr most) = got_text index (read_of mem (Text addr most))
copy_of mem other = other

-- the client answers an ask of an index: it is noted, and the copy is queued
abbrev pub answer_ask : Client → ReqNo → Open → ℕ → Body → Client
answer_ask k r x index ask = record (with_request k r.0 (record x { asked = x.asked ++ index ∷ [] })) {
  queue = k.queue ++ record { number = r; body = copy_of x.delivery.mem ask } ∷ [];
}

-- a request has its response
abbrev pub respond : Client → ReqNo → Open → Response → Client
respond k r x what = with_request k r.0 (record x { response = Some what })

-- a request has its response, with which the client speaks for a process
abbrev pub welcome : Client → ReqNo → Open → Response → Client
welcome k r x what = record (respond k r x what) { ready = true }

-- what a frame does that the server may send: an ask is answered, bytes are written into the caller's memory, and a response is kept
abbrev pub goes_on : Client → ReqNo → Open → Body → Client
goes_on k r x (body.AskBytes index addr len) = answer_ask k r x index (body.AskBytes index addr len)
goes_on k r x (body.AskText index addr most) = answer_ask k r x index (body.AskText index addr most)
goes_on k r x (body.Put index addr bytes) =
    with_request k r.0 (record x { delivery = put_piece x.delivery (record { addr = addr; bytes = bytes }) })
goes_on k r x (body.Answered answer) = respond k r x (response.Answered answer)
goes_on k r x (body.Refused kind why) = respond k r x (response.Refused why)
goes_on k r x (body.Hello pid) = welcome k r x (response.Joined pid)
goes_on k r x (body.Joined pid) = welcome k r x (response.Joined pid)
goes_on k r x (body.Imaged pid place) = welcome k r x (response.Imaged pid place)
goes_on k r x (body.Forked cookie place pid) = respond k r x (response.Forked cookie place pid)
goes_on k r x body.Cancelled = respond k r x response.Cancelled
goes_on k r x (body.ExecReady cookie) = respond k r x (response.ExecReady cookie)
goes_on k r x _ = k
