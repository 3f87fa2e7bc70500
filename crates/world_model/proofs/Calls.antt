-- A call comes to the server, or a copy for one.
use Rattle.std.proofs.Common.{◌≡◌, ℕ, ◌+◌, ◌<◌, Bool, true, false, List, [], ◌∷◌, ◌++◌, length, Option, Some, None, Result, Ok, Err, refl, sym, ap, ◌∙◌}
use Rattle.std.proofs.Common.{subst, arith, append-nil}
use Rattle.std.specs.List.{AllByRecursion}
use Rattle.std.specs.FinMap.{get, insert}
use Rattle.sp_base.specs.declared.call.Call.{Call}
use Rattle.sp_base.specs.declared.names.ConnNo.{ConnNo}
use Rattle.sp_base.specs.declared.need.Need.{Need}
use Rattle.sp_base.specs.declared.need.Need.TheVariants.{Bytes, Text}
use Rattle.sp_copy.specs.Parts.{root_part}
use Rattle.sp_copy.specs.Reading.{read_of}
use Rattle.sp_copy.specs.declared.fault.CopyFault.{CopyFault}
use Rattle.sp_copy.proofs.Pieces.{read_fits}
use Rattle.sp_frames.specs.declared.frame.Body.{Body}
use Rattle.sp_frames.specs.declared.frame.Frame.{Frame}
use Rattle.kern_model.specs.Journal.{state_after}
use Rattle.kern_model.specs.declared.operation.Op.TheVariants as op
use Rattle.tables.proofs.Maps.{get_put, get_put_other}
use Rattle.hub_model.specs.Frames.{ask_body}
use Rattle.hub_model.specs.Requests.{bytes_in, frame_by, go_on, open_task, with_copy, with_error}
use Rattle.hub_model.specs.State.{Connection, Machine}
use Rattle.hub_model.specs.Verdict.{body_verdict, copy_verdict, need_verdict}
use Rattle.hub_model.specs.declared.event.Reply.TheVariants as server_reply
use Rattle.hub_model.specs.declared.state.OpenCall.{OpenCall}
use Rattle.hub_model.specs.declared.state.OpenCall.TheVariants.{Gathers, Fails, Answers}
use Rattle.hub_model.specs.declared.verdict.Verdict.{Verdict}
use Rattle.hub_law.specs.Frames.{numbered}
use Rattle.hub_law.specs.Serves.{AsksFor}
use Rattle.hub_law.proofs.Keys.{grows_same}
use Rattle.client_model.specs.Asks.{copy_of}
use Rattle.client_model.specs.State.{Client}
use Rattle.client_model.specs.declared.request.Request.{Request as What}
use Rattle.client_model.specs.declared.request.Request.TheVariants as request
use Rattle.link_model.proofs.Copies.{copy_by, copy_bytes, copy_is, copy_looked_at, copy_taken, errno_of, fault_taken}
use Rattle.link_model.proofs.Transitions.{one_more}
use Rattle.world_model.specs.Log.{Ask}
use Rattle.world_model.specs.Run.{Item}
use Rattle.world_model.specs.State.{Link}
use Rattle.world_model.proofs.Answered.{asks, none, risen}
use Rattle.world_model.proofs.Fronts.{front_fails, front_grows, front_none}
use Rattle.world_model.proofs.Lane.{Rises, RisesBy, Speaks, is_copy, slice_of}
use Rattle.world_model.proofs.Requested.{asked_call}
use Rattle.world_model.proofs.Slice.{frame_of, number, unperformed}
use Rattle.world_model.proofs.Stage.{At, Calling, Copying, Fact, Failing, Held, IsNumberOf, Sent, Stage, ask_of, open_of, shape, untouched}
use Rattle.world_model.proofs.Taken.{Taken, Turns, put_changed, rest_of, rises_is, says_here, speaks_on}

-- ---- a call changes at the server, and nothing is said

module _ (m : Machine) (c : ConnNo) (k : Client) (l : Link) (x : Connection) (f : Frame) (frames : List Frame) (log : List Item) (up : l.up ≡ f ∷ frames)
    (speaks : Speaks c k l x log m.journal) (alone : numbered f.number.0 (frames ++ k.queue) ≡ []) where
  -- the connection then
  abbrev worked : ℕ → OpenCall → Connection
  worked last task = record { condition = x.condition; last = last; calls = insert x.calls f.number.0 task; queue = x.queue }

  works : (last : ℕ) (task : OpenCall) → Rises last (frames ++ k.queue) k.last → (last ≡ 0 → x.last ≡ 0) → Turns c k l x f frames log up (worked last task) []
  works last task rises first = record {
    queue = sym (append-nil x.queue);
    numbers = record { here = refl; other = λ n ne. refl };
    calls = λ q ne. get_put_other x.calls f.number.0 task q ne;
    rises = rises;
    takes = speaks.takes;
    begins = λ e. speaks.begins (first e);
    spoke = λ spoke. spoke;
    welcome = tt;
  }

  -- a call is at a stage while it is gathered: what is different of it
  pub record Gathered (a : Calling) (s : Stage) (task : OpenCall) : Type 0 where
    pub asked : (slice_of c f.number.0 k l x log).asked ≡ (shape f.number.0 s).asked
    pub told : (slice_of c f.number.0 k l x log).told ≡ (shape f.number.0 s).told
    pub request : (slice_of c f.number.0 k l x log).request ≡ (shape f.number.0 s).request
    pub up_none : (shape f.number.0 s).up ≡ []
    pub task_is : (shape f.number.0 s).task ≡ unperformed (Some task)
    pub down : (slice_of c f.number.0 k l x log).down ≡ []
    pub down_none : (shape f.number.0 s).down ≡ []
    pub fact : Fact m.journal c f.number.0 s

  pub work_taken : (last : ℕ) (a : Calling) (s : Stage) (task : OpenCall) → Rises last (frames ++ k.queue) k.last → (last ≡ 0 → x.last ≡ 0)
      → Gathered a s task
      → Taken m c k (rest_of l frames) f log (server_reply.Task f.number, record m { connections = insert m.connections c.0 (worked last task) })
  work_taken last a s task rises first g =
      let x' = worked last task in
      let turn = works last task rises first in
      record {
        now = x';
        changed = put_changed m c x' m.journal m.cookies m.handovers (λ p e s. s) (λ d ne r. grows_same d r m.journal);
        past = λ q ne. grows_same c q m.journal;
        fine = tt;
        speaks = speaks_on c k l x f frames log up x' [] m.journal m.journal turn speaks (λ q ne. grows_same c q m.journal) (
          s,
          record {
            asked = g.asked;
            told = g.told;
            request = g.request;
            up = alone ∙ sym g.up_none;
            task = ap unperformed (get_put x.calls f.number.0 task) ∙ sym g.task_is;
            down = says_here c k l x f frames log up x' [] m.journal m.journal turn speaks (λ q ne. grows_same c q m.journal) g.down ∙ sym g.down_none;
            fact = g.fact;
          },
        );
      }

-- ---- a call comes

module _ (m : Machine) (c : ConnNo) (k : Client) (l : Link) (x : Connection) (f : Frame) (frames : List Frame) (log : List Item) (up : l.up ≡ f ∷ frames)
    (speaks : Speaks c k l x log m.journal) (ask : Ask) (says : Body)
    (at : At m.journal c f.number.0 (slice_of c f.number.0 k l x log) (Sent ask says)) (comes : f ≡ frame_of f.number.0 says)
    (alone : numbered f.number.0 (frames ++ k.queue) ≡ []) where
  -- a call is open from its request on
  pub open_taken : (call : Call) → AsksFor f.body (op.Sys call) → Taken m c k (rest_of l frames) f log (open_task m c x f call)
  open_taken call means =
      let is : ask.what ≡ request.Call call = asked_call ask.what f.body call (asks m c k l x f frames log up speaks ask says at comes alone) means in
      let rise = risen m c k l x f frames log up speaks ask says at comes alone in
      let a : Calling = record { call = call; mem = ask.mem; indexes = [] } in
      let same : ask ≡ ask_of a = ap (λ (w : What). record { what = w; mem = ask.mem }) is in
      work_taken m c k l x f frames log up speaks alone f.number.0 a (Held a []) (Gathers call [] false) rise.1
      (λ e. absurd (let lt = rise.0 in omega (arith, lt, e))) (record {
        asked = at.asked ∙ ap (λ (b : Ask). b ∷ []) same;
        told = at.told;
        request = at.request ∙ ap (λ (b : Ask). Some (open_of b (untouched ask.mem) [] None)) same;
        up_none = refl;
        task_is = refl;
        down = at.down;
        down_none = refl;
        fact = record {
          later = subst (λ (w : What). IsNumberOf w f.number.0) is at.fact.1;
          front = front_none call ask.mem;
          below = tt;
          none = none m c k l x f frames log up speaks ask says at comes alone;
        };
      })

-- ---- a copy comes

unperformed_gathers : (o : Option OpenCall) (call : Call) (got : List (List ℕ)) → unperformed o ≡ Some (Gathers call got true)
    → o ≡ Some (Gathers call got true)
unperformed_gathers None call got e = absurd (cc)
unperformed_gathers (Some Answers) call got e = absurd (cc)
unperformed_gathers (Some (Gathers other had out)) call got e = e
unperformed_gathers (Some (Fails other why)) call got e = e

copy_by_copies : (need : Need) (index : ℕ) (read : Result (List ℕ) CopyFault) → is_copy (copy_by need index read) ≡ true
copy_by_copies (Bytes addr len) index (Ok bytes) = refl
copy_by_copies (Bytes addr len) index (Err why) = refl
copy_by_copies (Text addr limit) index (Ok bytes) = refl
copy_by_copies (Text addr limit) index (Err why) = refl

module _ (m : Machine) (c : ConnNo) (k : Client) (l : Link) (x : Connection) (f : Frame) (frames : List Frame) (log : List Item) (up : l.up ≡ f ∷ frames)
    (speaks : Speaks c k l x log m.journal) (a : Calling) (got : List (List ℕ)) (need : Need)
    (at : At m.journal c f.number.0 (slice_of c f.number.0 k l x log) (Copying a got need))
    (comes : f ≡ frame_of f.number.0 (copy_of a.mem (ask_body (length got) need)))
    (alone : numbered f.number.0 (frames ++ k.queue) ≡ []) where
  -- the frame is the copy of what is read
  brings : (read : Result (List ℕ) CopyFault) → read_of a.mem need ≡ read → f.body ≡ copy_by need (length got) read
  brings read e = ap (λ (f : Frame). f.body) comes ∙ (copy_is a.mem (length got) need ∙ ap (λ (r : Result (List ℕ) CopyFault). copy_by need (length got) r) e)

  copies : Rises x.last (frames ++ k.queue) k.last
  copies =
      let is : is_copy f.body ≡ true = ap is_copy (brings (read_of a.mem need) refl) ∙ copy_by_copies need (length got) (read_of a.mem need) in
      subst (λ (copy : Bool). RisesBy copy x.last f (λ n. Rises n (frames ++ k.queue) k.last)) is (rises_is c k l x f frames log up speaks.rises)

  -- the call waits for it
  waits : get x.calls f.number.0 ≡ Some (Gathers a.call got true)
  waits = unperformed_gathers (get x.calls f.number.0) a.call got at.task

  -- it is looked at as a copy of the need
  looked_at : (read : Result (List ℕ) CopyFault) → read_of a.mem need ≡ read
      → body_verdict (state_after m.journal) m.cookies c x f.number.0 f.body ≡ need_verdict (Some need) (length got) (copy_by need (length got) read)
  looked_at read e =
      ap (λ (b : Body). body_verdict (state_after m.journal) m.cookies c x f.number.0 b) (brings read e)
      ∙ (copy_looked_at (state_after m.journal) m.cookies c x f.number.0 (length got) need read
      ∙ (ap (λ (o : Option OpenCall). copy_verdict o (copy_by need (length got) read)) waits
      ∙ ap (λ (o : Option Need). need_verdict o (length got) (copy_by need (length got) read)) at.fact.next))

  -- the call goes on
  goes : (next : OpenCall → OpenCall) (s : Stage) (task : OpenCall) → next (Gathers a.call got true) ≡ task
      → Gathered m c k l x f frames log up speaks alone a s task
      → Taken m c k (rest_of l frames) f log (go_on m c x f next (get x.calls f.number.0))
  goes next s task is g =
      subst (λ (o : Option OpenCall). Taken m c k (rest_of l frames) f log (go_on m c x f next o)) (sym waits)
      (subst (λ (t : OpenCall). Taken m c k (rest_of l frames) f log
      (server_reply.Task f.number, record m { connections = insert m.connections c.0 (record x { calls = insert x.calls f.number.0 t }) }))
      (sym is) (work_taken m c k l x f frames log up speaks alone x.last a s task copies (λ e. e) g))

  by_read : (salt : ℕ) (read : Result (List ℕ) CopyFault) → read_of a.mem need ≡ read
      → Taken m c k (rest_of l frames) f log (frame_by (need_verdict (Some need) (length got) (copy_by need (length got) read)) m c x f salt)
  by_read salt (Ok bytes) e =
      let bytes_are : bytes_in f.body ≡ bytes = ap bytes_in (brings (Ok bytes) e) ∙ copy_bytes (length got) need bytes in
      subst (λ (v : Verdict). Taken m c k (rest_of l frames) f log (frame_by v m c x f salt))
      (sym (copy_taken (length got) need bytes (read_fits (root_part ∷ a.mem) need bytes e)))
      (goes (λ task. with_copy task (bytes_in f.body)) (Held a (got ++ bytes ∷ [])) (Gathers a.call (got ++ bytes ∷ []) false)
      (ap (λ (bs : List ℕ). Gathers a.call (got ++ bs ∷ []) false) bytes_are) (record {
        asked = at.asked;
        told = at.told;
        request = at.request;
        up_none = refl;
        task_is = refl;
        down = at.down;
        down_none = refl;
        fact = record {
          later = at.fact.gathering.later;
          front = front_grows a.call a.mem got at.fact.gathering.front need bytes at.fact.next e;
          below = subst (λ (n : ℕ). AllByRecursion (λ i. i < n) a.indexes) (sym (one_more got bytes)) at.fact.gathering.below;
          none = at.fact.gathering.none;
        };
      }))
  by_read salt (Err why) e =
      subst (λ (v : Verdict). Taken m c k (rest_of l frames) f log (frame_by v m c x f salt))
      (sym (fault_taken a.call (length got) need a.mem why at.fact.next e))
      (goes (λ task. with_error task (errno_of why)) (Failing a (errno_of why)) (Fails a.call (errno_of why)) refl (record {
        asked = at.asked;
        told = at.told;
        request = at.request;
        up_none = refl;
        task_is = refl;
        down = at.down;
        down_none = refl;
        fact = record {
          later = at.fact.gathering.later;
          fails = front_fails a.call a.mem got at.fact.gathering.front need why at.fact.next e;
          none = at.fact.gathering.none;
        };
      }))

  -- a copy is one piece more, or the error with which the asking ends
  pub copy_goes : (salt : ℕ) → Taken m c k (rest_of l frames) f log
      (frame_by (body_verdict (state_after m.journal) m.cookies c x f.number.0 f.body) m c x f salt)
  copy_goes salt = subst (λ (v : Verdict). Taken m c k (rest_of l frames) f log (frame_by v m c x f salt)) (sym (looked_at (read_of a.mem need) refl))
      (by_read salt (read_of a.mem need) refl)
