-- The frames that come over a connection in a run of the server's machine, and those that are sent.
use Rattle.std.specs.Prelude.{ℕ, ◌==◌, ◌&&◌, not, Bool, true, false, List, [], ◌∷◌, filter, if◌then◌else◌}
use Rattle.std.specs.List.{flat_map}
use Rattle.sp_base.specs.declared.names.ConnNo.{ConnNo}
use Rattle.sp_base.specs.declared.names.SpError.TheVariants as error
use Rattle.sp_frames.specs.declared.frame.Body.{Body}
use Rattle.sp_frames.specs.declared.frame.Body.TheVariants as body
use Rattle.sp_frames.specs.declared.frame.Frame.{Frame}
use Rattle.hub_model.specs.Run.{Exchange}
use Rattle.hub_model.specs.declared.event.Event.{Event}
use Rattle.hub_model.specs.declared.event.Event.TheVariants as event
use Rattle.hub_model.specs.declared.event.Reply.{Reply}
use Rattle.hub_model.specs.declared.event.Reply.TheVariants as reply

-- a frame is taken: the server doesn't answer that the connection takes none, nor that memory is wanted
abbrev pub is_taken : Reply → Bool
is_taken reply.Closed = false
is_taken reply.NoMemory = false
is_taken _ = true

-- the frame that an event brings over a connection, where it is taken
abbrev pub frame_in : ConnNo → Event → Reply → List Frame
frame_in c (event.Frame d f salt) answer = if (d.0 == c.0) && is_taken answer then f ∷ [] else []
frame_in c _ answer = []

-- the frame that is handed out to a connection
abbrev pub frame_out : ConnNo → Event → Reply → List Frame
frame_out c (event.Take d) (reply.Out f) = if d.0 == c.0 then f ∷ [] else []
frame_out c _ answer = []

-- the frames that came over a connection and were taken, in order
abbrev pub came : ConnNo → List Exchange → List Frame
came c exchanges = flat_map (λ x. frame_in c x.event x.reply) exchanges

-- the frames that were sent over a connection, in order
abbrev pub sent : ConnNo → List Exchange → List Frame
sent c exchanges = flat_map (λ x. frame_out c x.event x.reply) exchanges

-- the error Malformed, which is a connection's last frame
abbrev pub is_last_error : Body → Bool
is_last_error (body.Refused kind error.Malformed) = true
is_last_error _ = false

-- the frames of a number, in order
abbrev pub numbered : ℕ → List Frame → List Frame
numbered n frames = filter (λ f. f.number.0 == n) frames

-- the frames of a number, a connection's last error aside, in order
abbrev pub answers_to : ℕ → List Frame → List Frame
answers_to n frames = filter (λ f. (f.number.0 == n) && not (is_last_error f.body)) frames
