-- Which frames a server may send for a request that is open and unanswered: one table, by the request and the frame.
use Rattle.std.specs.Prelude.{ℕ, ◌+◌, ◌==◌, ◌&&◌, ◌||◌, nat_le, not, Bool, true, false, List, length, Option, None, Some, is_some, slice_get}
use Rattle.std.specs.List.{list_any}
use Rattle.sp_base.specs.Needs.{needs_of, outs_of}
use Rattle.sp_base.specs.declared.call.Call.{Call}
use Rattle.sp_base.specs.declared.need.Need.{Need}
use Rattle.sp_base.specs.declared.need.Need.TheVariants.{Bytes, Text}
use Rattle.sp_base.specs.declared.need.Range.{Range}
use Rattle.sp_frames.specs.declared.frame.Body.{Body}
use Rattle.sp_frames.specs.declared.frame.Body.TheVariants as body
use Rattle.client_model.specs.State.{Open}
use Rattle.client_model.specs.declared.request.Request.{Request}
use Rattle.client_model.specs.declared.request.Request.TheVariants as request

-- a range lies wholly inside another
abbrev pub lies_inside : ℕ → ℕ → Range → Bool
lies_inside addr len range = nat_le range.addr addr && nat_le (addr + len) (range.addr + range.len)

-- a call may write these bytes: they lie wholly inside one of its ranges
abbrev pub may_write : Call → ℕ → ℕ → Bool
may_write call addr len = list_any (lies_inside addr len) (outs_of call)

-- the server asks for this need
abbrev pub is_ask_for : Option Need → Body → Bool
is_ask_for (Some (Bytes addr len)) (body.AskBytes index a l) = (a == addr) && (l == len)
is_ask_for (Some (Text addr limit)) (body.AskText index a most) = (a == addr) && (most == limit)
is_ask_for _ _ = false

-- an ask for the need of its index, which wasn't asked for before
abbrev pub may_ask : Call → List ℕ → ℕ → Body → Bool
may_ask call asked index ask = is_ask_for (slice_get (needs_of call) index) ask && not (list_any (λ i. i == index) asked)

-- the server may send this for a call
abbrev pub fits_call : Call → List ℕ → Body → Bool
fits_call call asked (body.AskBytes index addr len) = may_ask call asked index (body.AskBytes index addr len)
fits_call call asked (body.AskText index addr most) = may_ask call asked index (body.AskText index addr most)
fits_call call asked (body.Put index addr bytes) = may_write call addr (length bytes)
fits_call call asked (body.Answered answer) = true
fits_call call asked (body.Refused kind why) = kind == 1
fits_call call asked _ = false

-- the server answers this to a request that isn't a call
abbrev pub is_response : Request → Body → Bool
is_response request.Attach (body.Hello pid) = true
is_response request.Join (body.Joined pid) = true
is_response request.Image (body.Imaged pid place) = true
is_response request.Prefork (body.Forked cookie place pid) = true
is_response request.Cancel body.Cancelled = true
is_response request.Preexec (body.ExecReady cookie) = true
is_response _ _ = false

-- the type of a request that isn't a call, as its error names it
abbrev pub kind_of : Request → ℕ
kind_of request.Prefork = 5
kind_of request.Cancel = 5
kind_of request.Preexec = 6
kind_of _ = 0

-- an error of this type
abbrev pub is_error : ℕ → Body → Bool
is_error kind (body.Refused k why) = k == kind
is_error kind _ = false

-- the server may send this for a request, by what was asked
abbrev pub fits_request : Request → List ℕ → Body → Bool
fits_request (request.Call call) asked what = fits_call call asked what
fits_request asks asked what = is_response asks what || is_error (kind_of asks) what

-- no response came yet
abbrev pub is_unanswered : Open → Bool
is_unanswered x = not (is_some x.response)

-- the server may send this for an open request, if there is one
abbrev pub may_come : Option Open → Body → Bool
may_come None what = false
may_come (Some x) what = is_unanswered x && fits_request x.request x.asked what
