-- How the machine performs a call, by what became of it.
use Rattle.std.specs.Prelude.{slice_get, if◌then◌else◌}
use Rattle.std.specs.Option.{option_map}
use Rattle.std.specs.Ordering.{nat_cmp}
use Rattle.std.specs.FinMap.{FinMap, get, insert}
use Rattle.std.proofs.Common.{◌≡◌, inl, inr, ℕ, Bool, true, false, List, [], ◌∷◌, ◌++◌, length, Option, Some, None, IsSome, refl, sym, ap, subst, ◌∙◌}
use Rattle.tables.proofs.Entries.{again, back}
use Rattle.sp_base.specs.Needs.{needs_of}
use Rattle.sp_base.specs.declared.call.Call.{Call}
use Rattle.sp_base.specs.declared.errno.Errno.{Errno}
use Rattle.sp_base.specs.declared.names.ConnNo.{ConnNo}
use Rattle.sp_base.specs.declared.names.ReqNo.{ReqNo}
use Rattle.sp_base.specs.declared.names.SpError.TheVariants.{Memory}
use Rattle.sp_base.specs.declared.need.Need.{Need}
use Rattle.sp_frames.specs.declared.frame.Frame.{Frame}
use Rattle.kern_model.specs.declared.journal.Entry.{Entry}
use Rattle.kern_model.specs.declared.operation.Ins.TheVariants.{Given, Fault}
use Rattle.hub_model.proofs.Steps.{pieces_all}
use Rattle.hub_model.specs.Frames.{refusal, ask}
use Rattle.hub_model.specs.Machine.{Plays, played, played_running}
use Rattle.hub_model.specs.Sound.{IsSound}
use Rattle.hub_model.specs.declared.event.Event.{Event}
use Rattle.hub_model.specs.declared.event.Event.TheVariants.{Work}
use Rattle.hub_model.specs.declared.event.Reply.{Reply}
use Rattle.hub_model.specs.State.{Connection, Machine, with_connection, process_in}
use Rattle.hub_model.specs.Work.{perform}
use Rattle.hub_model.specs.declared.event.Reply.TheVariants as reply
use Rattle.hub_model.specs.declared.state.OpenCall.TheVariants.{Gathers, Fails, Answers}
use Rattle.sp_hub.specs.Work.{HasAll, IsAsked, Performs, Tells}

-- a value that is put where it stands changes nothing
pub put_same : {V : Type 0} (m : FinMap nat_cmp V) (k : ℕ) (v : V) → get m k ≡ Some v → insert m k v ≡ m
put_same m k v there = sym (again m (insert m k v) k v v refl) ∙ back m (insert m k v) k v v refl there

-- a call that gets no entry waits, and nothing changes
pub plays_waiting : (c : ConnNo) (r : ReqNo) (next : Option Entry) (journal : List Entry) (x : Connection) → next ≡ None → Performs c r next journal x reply.NotReady journal x
plays_waiting c r next journal x none m at here =
    let same = put_same m.connections c.0 x here in
    (true, rw (none, sym at, same) refl)

-- a call is performed, and its outcome told
pub plays_done : (c : ConnNo) (r : ReqNo) (next : Option Entry) (journal new : List Entry) (x : Connection) (queue : List Frame) → Tells journal x.queue r next new queue
    → Performs c r next journal x reply.Done new (record x { calls = insert x.calls r.0 Answers; queue = queue })
plays_done c r next journal new x queue tells m at here = (true, rw (tells.is, tells.journal, tells.frames, at) refl)

-- a call that isn't performed for want of memory ends with that error
pub plays_refused : (c : ConnNo) (r : ReqNo) (next : Option Entry) (journal : List Entry) (x : Connection) → IsSome next
    → Performs c r next journal x (reply.Refused Memory) journal (record x { calls = insert x.calls r.0 Answers; queue = x.queue ++ refusal r 1 Memory ∷ [] })
plays_refused c r None journal x some m at here = absurd (let f : false ≡ true = some in cc)
plays_refused c r (Some e) journal x some m at here = (false, rw (sym at) refl)

-- ---- the machine's work of a call

-- a machine that hasn't halted plays each event
pub runs : (memory : Bool) (m : Machine) (event : Event) → m.halted ≡ false → played memory m event ≡ played_running memory m event
runs memory m event running = ap (λ b. if b then (reply.Closed, m) else played_running memory m event) running

module _ (m : Machine) (c : ConnNo) (r : ReqNo) (x : Connection) (running : m.halted ≡ false) (here : get m.connections c.0 ≡ Some x) where
  plays_asked : (m' : Machine) (call : Call) (got : List (List ℕ)) (need : Need) → get x.calls r.0 ≡ Some (Gathers call got false) → slice_get (needs_of call) (length got) ≡ Some need
      → m' ≡ with_connection m c (record x { calls = insert x.calls r.0 (Gathers call got true); queue = x.queue ++ ask r (length got) need ∷ [] }) → Plays m (Work c r) reply.Asked m'
  plays_asked m' call got need there next is = (let does : (reply.Asked, m') ≡ played_running true m (Work c r) = rw (here, there, next, is) refl in inl (true, does ∙ sym (runs true m (Work c r) running)))

  plays_wanting : (m' : Machine) (call : Call) (got : List (List ℕ)) (need : Need) → get x.calls r.0 ≡ Some (Gathers call got false) → slice_get (needs_of call) (length got) ≡ Some need
      → m' ≡ m → Plays m (Work c r) reply.NoMemory m'
  plays_wanting m' call got need there next is = inr (record { takes_some = rw (running, here, there, next) refl; answers = refl; keeps = is })

  -- the next of what a call reads is asked for, or the memory for that is refused
  pub plays_ask : (m' : Machine) (answer : Reply) (call : Call) (got : List (List ℕ)) (frame : Frame) → get x.calls r.0 ≡ Some (Gathers call got false)
      → Some frame ≡ option_map (λ need. ask r (length got) need) (slice_get (needs_of call) (length got)) → IsAsked m c r frame answer m' → Plays m (Work c r) answer m'
  plays_ask m' answer call got frame there next asks = by_need (slice_get (needs_of call) (length got)) refl next where
    by_need : (need : Option Need) → slice_get (needs_of call) (length got) ≡ need → Some frame ≡ option_map (λ need. ask r (length got) need) need → Plays m (Work c r) answer m'
    by_need None at none = absurd cc
    by_need (Some need) at some = (
        let is : frame ≡ ask r (length got) need = cc in
        elim asks [
          | inl asked ↦ rw asked.0 (plays_asked m' call got need there at (asked.1 x (Gathers call got false) here there ∙ ap (λ (f : Frame). with_connection m c (record x { calls = insert x.calls r.0 (Gathers call got true); queue = x.queue ++ f ∷ [] })) is))
          | inr wants ↦ rw wants.0 (plays_wanting m' call got need there at wants.1)
        ])

  -- a call that has all that it reads is performed
  pub plays_given : (m' : Machine) (answer : Reply) (call : Call) (got : List (List ℕ)) → get x.calls r.0 ≡ Some (Gathers call got false) → slice_get (needs_of call) (length got) ≡ None
      → (memory : Bool) × ((answer, m') ≡ perform memory m c x r call (Given got) (process_in x.condition)) → Plays m (Work c r) answer m'
  plays_given m' answer call got there none p = (let does : (answer, m') ≡ played_running p.0 m (Work c r) = rw (here, there, none) p.1 in inl (p.0, does ∙ sym (runs p.0 m (Work c r) running)))

  -- a call whose asking has ended with an error is performed
  pub plays_fault : (m' : Machine) (answer : Reply) (call : Call) (why : Errno) → get x.calls r.0 ≡ Some (Fails call why)
      → (memory : Bool) × ((answer, m') ≡ perform memory m c x r call (Fault why) (process_in x.condition)) → Plays m (Work c r) answer m'
  plays_fault m' answer call why there p = (let does : (answer, m') ≡ played_running p.0 m (Work c r) = rw (here, there) p.1 in inl (p.0, does ∙ sym (runs p.0 m (Work c r) running)))

-- a call that was given all that it asked for has all that it reads
pub all_given : (m : Machine) (c : ConnNo) (r : ReqNo) (x : Connection) (call : Call) (got : List (List ℕ)) → IsSound m → get m.connections c.0 ≡ Some x → get x.calls r.0 ≡ Some (Gathers call got false)
    → slice_get (needs_of call) (length got) ≡ None → HasAll (Gathers call got false)
all_given m c r x call got sound here there none =
    record { call = call; ins = Given got; is = refl; fits = pieces_all (needs_of call) got ((sound.each c.0 x here).calls r.0 (Gathers call got false) there).gathered none }

-- so has one whose asking has ended with an error
pub all_failed : (m : Machine) (c : ConnNo) (r : ReqNo) (x : Connection) (call : Call) (why : Errno) → IsSound m → get m.connections c.0 ≡ Some x → get x.calls r.0 ≡ Some (Fails call why) → HasAll (Fails call why)
all_failed m c r x call why sound here there = record { call = call; ins = Fault why; is = refl; fits = ((sound.each c.0 x here).calls r.0 (Fails call why) there).gathered }

-- ---- what was found in a table

-- the connection of a number
pub found : (m n : Machine) (c : ℕ) (o : Option Connection) (x : Connection) → n ≡ m → o ≡ get n.connections c → o ≡ Some x → get m.connections c ≡ Some x
found m n c o x same at is = ap (λ (m : Machine). get m.connections c) (sym same) ∙ sym at ∙ is

-- what is so of the connection of a number is so of each that is found there
pub each_found : {X : Type 0} (P : X → Type 0) (o : Option X) (x y : X) → o ≡ Some x → o ≡ Some y → P x → P y
each_found P o x y e f h = let same : Some x ≡ Some y = sym e ∙ f in let is : x ≡ y = cc in subst P is h

-- nothing comes of nothing alone
pub none_comes : {X Y : Type 0} (f : X → Y) (o : Option X) → None ≡ option_map f o → o ≡ None
none_comes f None e = refl
none_comes f (Some x) e = absurd cc
