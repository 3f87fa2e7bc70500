-- What the client's machine holds.
use Rattle.std.specs.Prelude.{ℕ, Bool, true, false, List, [], ◌∷◌, Option, None, Some}
use Rattle.std.specs.Ordering.{nat_cmp}
use Rattle.std.specs.FinMap.{FinMap, empty, insert}
use Rattle.sp_copy.specs.declared.delivery.Delivery.{Delivery}
use Rattle.sp_copy.specs.declared.part.Part.{Part}
use Rattle.sp_frames.specs.Grammar.{IsName}
use Rattle.sp_frames.specs.declared.frame.Body.{Body}
use Rattle.sp_frames.specs.declared.frame.Body.TheVariants as body
use Rattle.sp_frames.specs.declared.frame.Frame.{Frame}
use Rattle.sp_frames.specs.declared.version.Version.{Version}
use Rattle.client_model.specs.declared.event.Hello.{Hello}
use Rattle.client_model.specs.declared.event.Hello.TheVariants as hello
use Rattle.client_model.specs.declared.event.Reply.{Reply}
use Rattle.client_model.specs.declared.request.Ending.{Ending}
use Rattle.client_model.specs.declared.request.Ending.TheVariants as ending
use Rattle.client_model.specs.declared.request.Request.{Request}
use Rattle.client_model.specs.declared.request.Request.TheVariants as request
use Rattle.client_model.specs.declared.request.Response.{Response}

-- a request that isn't collected yet: what was asked; the caller's memory as it is, and whether all of the bytes that came were
-- written into it; the indexes that the server asked for; and the response, once it came
pub record Open : Type 0 where
  pub request : Request
  pub delivery : Delivery
  pub asked : List ℕ
  pub response : Option Response

-- the version that is spoken; whether the handshake was answered with a process; the highest number that was given to a request; the
-- requests that aren't collected yet, by number; the frames to hand out, the oldest first; and what ended the talk with the server
pub record Client : Type 0 where
  pub version : Version
  pub ready : Bool
  pub last : ℕ
  pub requests : FinMap nat_cmp Open
  pub queue : List Frame
  pub ending : Option Ending

-- what the machine answers, and the machine after it
abbrev pub Played : Type 0
Played = Reply × Client

-- a request that was just sent, with this memory
abbrev pub fresh_request : Request → List Part → Open
fresh_request request mem = record {
  request = request;
  delivery = record { mem = mem; whole = true };
  asked = [];
  response = None;
}

-- the frame of a request, by its number and what it says
abbrev pub request_frame : ℕ → Body → Frame
request_frame n says = record { number = record { 0 = n }; body = says }

-- the hello has a name as a frame can carry it
abbrev pub HasName : Hello → Type 0
HasName (hello.Guest name) = IsName name
HasName (hello.Join cookie name) = IsName name
HasName (hello.Image cookie name) = IsName name

-- what a handshake asks
abbrev pub asked_by : Hello → Request
asked_by (hello.Guest name) = request.Attach
asked_by (hello.Join cookie name) = request.Join
asked_by (hello.Image cookie name) = request.Image

-- what the frame of a handshake says
abbrev pub said_by : Hello → Body
said_by (hello.Guest name) = body.Guest name
said_by (hello.Join cookie name) = body.Join cookie name
said_by (hello.Image cookie name) = body.Image cookie name

-- the frame of a handshake
abbrev pub hello_frame : Hello → Frame
hello_frame hello = request_frame 1 (said_by hello)

-- a client that begins: its handshake, which is request 1, is queued
abbrev pub fresh_client : Version → Hello → Client
fresh_client version hello = record {
  version = version;
  ready = false;
  last = 1;
  requests = insert empty 1 (fresh_request (asked_by hello) []);
  queue = hello_frame hello ∷ [];
  ending = None;
}

-- a client without requests, whose link is gone
abbrev pub over_client : Version → Client
over_client version = record {
  version = version;
  ready = false;
  last = 0;
  requests = empty;
  queue = [];
  ending = Some ending.Gone;
}

-- the client with another request of a number
abbrev pub with_request : Client → ℕ → Open → Client
with_request k n x = record k { requests = insert k.requests n x }
