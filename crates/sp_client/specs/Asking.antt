-- What becomes of a request that is asked for.
use Rattle.std.specs.Prelude.{◌≡◌, ◌⊎◌, IsTrue, List}
use Rattle.sp_copy.specs.declared.part.Part.{Part}
use Rattle.sp_frames.specs.declared.frame.Body.{Body}
use Rattle.client_model.specs.Machine.{start_takes}
use Rattle.client_model.specs.Requests.{start_by}
use Rattle.client_model.specs.State.{Client}
use Rattle.client_model.specs.declared.event.Reply.{Reply}
use Rattle.client_model.specs.declared.event.Reply.TheVariants as reply
use Rattle.client_model.specs.declared.request.Request.{Request}

-- memory is wanted for a request that would start, and the client stays as it was
pub record IsWanting (old : Client) (asks : Request) (says : Body) (mem : List Part) (answer : Reply) (new : Client) : Type 0 where
  pub starts : IsTrue (start_takes (start_by old asks says mem old.ending).0)
  pub answers : answer ≡ reply.NoMemory mem
  pub keeps : new ≡ old

-- a request is asked for, or memory is wanted for it
abbrev pub IsAsked : Client → Request → Body → List Part → Reply → Client → Type 0
IsAsked old asks says mem answer new = ((answer, new) ≡ start_by old asks says mem old.ending) ⊎ IsWanting old asks says mem answer new
