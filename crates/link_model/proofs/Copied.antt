-- What the server does with the copy that answers its ask.
use Rattle.std.proofs.Common.{◌≡◌, ℕ, ◌+◌, true, false, List, [], ◌∷◌, ◌++◌, length, Option, Some, Result, Ok, Err, refl, ap, ◌∙◌}
use Rattle.std.specs.Prelude.{slice_get}
use Rattle.std.specs.Ordering.{nat_cmp}
use Rattle.std.specs.FinMap.{FinMap, insert}
use Rattle.sp_base.specs.Needs.{needs_of}
use Rattle.sp_base.specs.declared.need.Need.{Need}
use Rattle.sp_copy.specs.Parts.{root_part}
use Rattle.sp_copy.specs.Reading.{read_of}
use Rattle.sp_copy.specs.declared.fault.CopyFault.{CopyFault}
use Rattle.sp_copy.proofs.Pieces.{read_fits}
use Rattle.sp_frames.specs.declared.frame.Body.{Body}
use Rattle.kern_model.specs.Journal.{state_after}
use Rattle.kern_model.specs.State.{State}
use Rattle.kern_model.specs.declared.journal.Entry.{Entry}
use Rattle.hub_model.specs.Machine.{played}
use Rattle.hub_model.specs.Requests.{frame_by, go_on, bytes_in, with_copy, with_error}
use Rattle.hub_model.specs.State.{Connection}
use Rattle.hub_model.specs.Verdict.{verdict_of, body_verdict, copy_verdict, need_verdict}
use Rattle.hub_model.specs.declared.event.Event.TheVariants as event
use Rattle.hub_model.specs.declared.event.Reply.TheVariants as reply
use Rattle.hub_model.specs.declared.state.OpenCall.{OpenCall}
use Rattle.hub_model.specs.declared.state.OpenCall.TheVariants.{Gathers, Fails}
use Rattle.hub_model.specs.declared.verdict.Verdict.{Verdict}
use Rattle.link_model.specs.Asked.{Asked, number_of}
use Rattle.link_model.proofs.Copies.{copy_by, copy_is, copy_looked_at, copy_taken, copy_bytes, errno_of, fault_taken}
use Rattle.link_model.proofs.Server.{frame_comes, moves_to, call_put, call_there}
use Rattle.link_model.proofs.Stage.{server_at, connection_at, copy_frame}

-- the connection while an ask is out
abbrev waiting : Asked → List (List ℕ) → Connection
waiting a got = connection_at a (a.link.client.last + 1) (Some (Gathers a.call got true)) []

-- what is read of a need is what its copy is looked at by
copy_verdict_is : (a : Asked) (s : State) (got : List (List ℕ)) (need : Need) (read : Result (List ℕ) CopyFault) → slice_get (needs_of a.call) (length got) ≡ Some need
    → read_of a.mem need ≡ read → verdict_of s a.link.server.cookies a.link.conn (waiting a got) (copy_frame a (length got) need) ≡ need_verdict (Some need) (length got) (copy_by need (length got) read)
copy_verdict_is a s got need read next e =
    let n = a.link.client.last + 1 in
    let task = Gathers a.call got true in
    ap (λ (b : Body). body_verdict s a.link.server.cookies a.link.conn (waiting a got) n b) (copy_is a.mem (length got) need ∙ ap (λ (r : Result (List ℕ) CopyFault). copy_by need (length got) r) e)
    ∙ copy_looked_at s a.link.server.cookies a.link.conn (waiting a got) n (length got) need read
    ∙ ap (λ (o : Option OpenCall). copy_verdict o (copy_by need (length got) read)) (call_there n task)
    ∙ ap (λ (o : Option Need). need_verdict o (length got) (copy_by need (length got) read)) next

-- the call goes on with what came for it
goes_on : (a : Asked) (journal : List Entry) (got : List (List ℕ)) (need : Need) (next : OpenCall → OpenCall) (task : OpenCall) → next (Gathers a.call got true) ≡ task
    → go_on (server_at a journal (waiting a got)) a.link.conn (waiting a got) (copy_frame a (length got) need) next (Some (Gathers a.call got true))
    ≡ (reply.Task (number_of a), server_at a journal (connection_at a (a.link.client.last + 1) (Some task) []))
goes_on a journal got need next task e =
    let n = a.link.client.last + 1 in
    let x = waiting a got in
    moves_to a journal x (reply.Task (number_of a)) journal _ _
    (ap (λ (t : OpenCall). record x { calls = insert x.calls n t }) e
    ∙ ap (λ (m : FinMap nat_cmp OpenCall). record x { calls = m }) (call_put n (Some (Gathers a.call got true)) task))

-- the copy of what was read is one piece more
pub copy_comes : (a : Asked) (journal : List Entry) (got : List (List ℕ)) (need : Need) (bytes : List ℕ) → slice_get (needs_of a.call) (length got) ≡ Some need → read_of a.mem need ≡ Ok bytes
    → played true (server_at a journal (connection_at a (a.link.client.last + 1) (Some (Gathers a.call got true)) [])) (event.Frame a.link.conn (copy_frame a (length got) need) 0)
    ≡ (reply.Task (number_of a), server_at a journal (connection_at a (a.link.client.last + 1) (Some (Gathers a.call (got ++ bytes ∷ []) false)) []))
copy_comes a journal got need bytes next e =
    let x = waiting a got in
    let m = server_at a journal x in
    let f = copy_frame a (length got) need in
    let brings : bytes_in f.body ≡ bytes
    = ap bytes_in (copy_is a.mem (length got) need ∙ ap (λ (r : Result (List ℕ) CopyFault). copy_by need (length got) r) e) ∙ copy_bytes (length got) need bytes in
    frame_comes a journal x f
    ∙ ap (λ (v : Verdict). frame_by v m a.link.conn x f 0) (copy_verdict_is a (state_after journal) got need (Ok bytes) next e ∙ copy_taken (length got) need bytes (read_fits (root_part ∷ a.mem) need bytes e))
    ∙ ap (λ (o : Option OpenCall). go_on m a.link.conn x f (λ task. with_copy task (bytes_in f.body)) o) (call_there (a.link.client.last + 1) (Gathers a.call got true))
    ∙ goes_on a journal got need (λ task. with_copy task (bytes_in f.body)) _ (ap (λ (bs : List ℕ). Gathers a.call (got ++ bs ∷ []) false) brings)

-- a fault ends the asking
pub fault_comes : (a : Asked) (journal : List Entry) (got : List (List ℕ)) (need : Need) (why : CopyFault) → slice_get (needs_of a.call) (length got) ≡ Some need → read_of a.mem need ≡ Err why
    → played true (server_at a journal (connection_at a (a.link.client.last + 1) (Some (Gathers a.call got true)) [])) (event.Frame a.link.conn (copy_frame a (length got) need) 0)
    ≡ (reply.Task (number_of a), server_at a journal (connection_at a (a.link.client.last + 1) (Some (Fails a.call (errno_of why))) []))
fault_comes a journal got need why next e =
    let x = waiting a got in
    let m = server_at a journal x in
    let f = copy_frame a (length got) need in
    frame_comes a journal x f
    ∙ ap (λ (v : Verdict). frame_by v m a.link.conn x f 0) (copy_verdict_is a (state_after journal) got need (Err why) next e ∙ fault_taken a.call (length got) need a.mem why next e)
    ∙ ap (λ (o : Option OpenCall). go_on m a.link.conn x f (λ task. with_error task (errno_of why)) o) (call_there (a.link.client.last + 1) (Gathers a.call got true))
    ∙ goes_on a journal got need (λ task. with_error task (errno_of why)) (Fails a.call (errno_of why)) refl
