-- A request that is asked for is an event of the client's machine.
use Rattle.std.proofs.Common.{inl, inr, List, []}
use Rattle.sp_base.specs.declared.call.Call.{Call}
use Rattle.sp_base.specs.declared.names.Caller.{Caller}
use Rattle.sp_copy.specs.declared.part.Part.{Part}
use Rattle.sp_frames.specs.declared.frame.Body.TheVariants as body
use Rattle.client_model.specs.Machine.{Plays}
use Rattle.client_model.specs.Requests.{call_body, want_body, wanted}
use Rattle.client_model.specs.State.{Client}
use Rattle.client_model.specs.declared.event.Event.TheVariants as event
use Rattle.client_model.specs.declared.event.Reply.{Reply}
use Rattle.client_model.specs.declared.event.Want.{Want}
use Rattle.client_model.specs.declared.request.Request.TheVariants as request
use Rattle.sp_client.specs.Asking.{IsAsked}

pub start_plays : (old new : Client) (caller : Caller) (call : Call) (mem : List Part) (answer : Reply)
    → IsAsked old (request.Call call) (call_body call) mem answer new → Plays old (event.Start caller call mem) answer new
start_plays old new caller call mem answer (inl same) = inl same
start_plays old new caller call mem answer (inr wants) = inr (record { takes_some = wants.starts; answers = wants.answers; keeps = wants.keeps })

pub prefork_plays : (old new : Client) (caller : Caller) (want : Want) (answer : Reply)
    → IsAsked old (wanted want) (want_body want) [] answer new → Plays old (event.Prefork caller want) answer new
prefork_plays old new caller want answer (inl same) = inl same
prefork_plays old new caller want answer (inr wants) = inr (record { takes_some = wants.starts; answers = wants.answers; keeps = wants.keeps })

pub preexec_plays : (old new : Client) (caller : Caller) (answer : Reply)
    → IsAsked old request.Preexec body.Preexec [] answer new → Plays old (event.Preexec caller) answer new
preexec_plays old new caller answer (inl same) = inl same
preexec_plays old new caller answer (inr wants) = inr (record { takes_some = wants.starts; answers = wants.answers; keeps = wants.keeps })
