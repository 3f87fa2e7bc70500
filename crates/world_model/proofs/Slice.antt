-- What there is of one request: in the log, at its client, on the link and at the server.
use Rattle.std.proofs.Common.{◌≡◌, ℕ, List, [], ◌∷◌, ◌++◌, Option, Some, None}
use Rattle.std.specs.Ordering.{nat_cmp}
use Rattle.std.specs.FinMap.{FinMap, get}
use Rattle.sp_base.specs.declared.names.ConnNo.{ConnNo}
use Rattle.sp_base.specs.declared.names.ReqNo.{ReqNo}
use Rattle.sp_frames.specs.declared.frame.Body.{Body}
use Rattle.sp_frames.specs.declared.frame.Frame.{Frame}
use Rattle.hub_model.specs.declared.state.OpenCall.{OpenCall}
use Rattle.hub_model.specs.declared.state.OpenCall.TheVariants.{Gathers, Fails, Answers}
use Rattle.hub_law.specs.Frames.{numbered}
use Rattle.client_model.specs.State.{Open}
use Rattle.client_model.specs.declared.event.Reply.{Reply as ClientReply}
use Rattle.world_model.specs.Log.{Ask, asked, told}
use Rattle.world_model.specs.Run.{Item}

-- what was asked for under the number; what who collected was told; the open request at the client; the frames of the number under way to the
-- server or queued at the client; the call at the server while it isn't performed; and the frames of the number under way to the client or queued at
-- the server
pub record Slice : Type 0 where
  pub asked : List Ask
  pub told : List ClientReply
  pub request : Option Open
  pub up : List Frame
  pub task : Option OpenCall
  pub down : List Frame

-- the call of a number, while it isn't performed
abbrev pub unperformed : Option OpenCall → Option OpenCall
unperformed None = None
unperformed (Some Answers) = None
unperformed (Some (Gathers call got out)) = Some (Gathers call got out)
unperformed (Some (Fails call why)) = Some (Fails call why)

-- the request of a number
abbrev pub number : ℕ → ReqNo
number n = record { 0 = n }

-- a frame of a number
abbrev pub frame_of : ℕ → Body → Frame
frame_of n b = record { number = number n; body = b }

-- all of it
abbrev pub slice : ConnNo → ℕ → FinMap nat_cmp Open → FinMap nat_cmp OpenCall → List Frame → List Frame → List Item → Slice
slice c n requests calls up down log = record {
  asked = asked c n log;
  told = told c n log;
  request = get requests n;
  up = numbered n up;
  task = unperformed (get calls n);
  down = numbered n down;
}
