-- What the server played in a history is a run of its machine.
use Rattle.std.proofs.Common.{◌≡◌, inl, ℕ, Bool, true, false, cond, List, [], ◌∷◌, ◌++◌, Option, Some, None, refl, sym, ap, subst, ◌∙◌, append-nil}
use Rattle.std.specs.FinMap.{get}
use Rattle.sp_base.specs.declared.names.ConnNo.{ConnNo}
use Rattle.sp_frames.specs.declared.frame.Frame.{Frame}
use Rattle.sp_frames.specs.declared.version.Version.{Version}
use Rattle.hub_model.specs.Machine as server
use Rattle.hub_model.specs.Run.{Exchange, Runs}
use Rattle.hub_model.specs.State as server_state
use Rattle.hub_model.specs.State.{Connection, Machine, fresh_machine}
use Rattle.hub_model.specs.Work.{take_at, take_from}
use Rattle.hub_model.specs.declared.event.Event.{Event as ServerEvent}
use Rattle.hub_model.specs.declared.event.Event.TheVariants as server_event
use Rattle.hub_model.specs.declared.event.Reply.{Reply as ServerReply}
use Rattle.hub_model.specs.declared.event.Reply.TheVariants as server_reply
use Rattle.hub_model.specs.declared.state.Condition.{Condition}
use Rattle.hub_model.specs.declared.state.Condition.TheVariants as condition
use Rattle.client_model.specs.Machine as client
use Rattle.client_model.specs.State.{Client}
use Rattle.client_model.specs.declared.event.Event.TheVariants as client_event
use Rattle.client_model.specs.declared.event.Hello.{Hello}
use Rattle.client_model.specs.declared.event.Reply.{Reply as ClientReply}
use Rattle.client_model.specs.declared.event.Reply.TheVariants as client_reply
use Rattle.kern_model.specs.declared.journal.Entry.{Entry}
use Rattle.kern_model.specs.declared.operation.Op.{Op}
use Rattle.sp_base.specs.declared.names.Caller.{Caller}
use Rattle.sp_base.specs.declared.names.Pid.{Pid}
use Rattle.sp_copy.specs.declared.part.Part.{Part}
use Rattle.world_model.specs.Host.{host_by, host_entry, host_if, may_ask, read_for}
use Rattle.world_model.specs.Machine.{connect_by, connection_at, connection_plays, from_client_by, from_server, played, to_client, to_server}
use Rattle.world_model.specs.Run.{History, Move, exchanged, fresh_history, memory_for, run, server_part, server_part_at, step, to_be_served}
use Rattle.world_model.specs.State.{Link, World}
use Rattle.world_model.specs.declared.event.Event.{Event}
use Rattle.world_model.specs.declared.event.Event.TheVariants as event

-- the server's machine after what it plays, if it plays anything
abbrev pub after_served : Bool → Machine → Option ServerEvent → Machine
after_served memory m None = m
after_served memory m (Some e) = (server.played (memory_for memory e) m e).1

-- ---- the server's machine after each event

connect_rump : (w : World) (c : ConnNo) (hello : Hello) (answer : ServerReply) → (connect_by w c hello answer).rump ≡ w.rump
connect_rump w c hello server_reply.Nothing = refl
connect_rump w c hello _ = refl

sent_rump : (w : World) (c : ConnNo) (l : Link) (k : Client) (answer : ClientReply) → (from_client_by w c l k answer).1.rump ≡ w.rump
sent_rump w c l k (client_reply.Out f) = refl
sent_rump w c l k _ = refl

arrived_rump : (w : World) (c : ConnNo) (k : Client) (l : Link) (frames : List Frame) → (to_client w c k l frames).1.rump ≡ w.rump
arrived_rump w c k l [] = refl
arrived_rump w c k l (f ∷ frames) = refl

-- where no frame is handed out, nothing changes
taken_rump : (w : World) (c : ConnNo) (l : Link) (x : Connection) (how : Condition) (queue : List Frame)
    → (from_server w c l (take_from w.rump c x how queue)).1.rump ≡ (take_from w.rump c x how queue).1
taken_rump w c l x condition.Draining [] = refl
taken_rump w c l x condition.Draining (f ∷ queue) = refl
taken_rump w c l x _ [] = refl
taken_rump w c l x _ (f ∷ queue) = refl

take_rump : (w : World) (c : ConnNo) (l : Link) (halted : Bool) (now : Option Connection)
    → (from_server w c l (cond {A = server_state.Played} halted (server_reply.Closed, w.rump) (take_at w.rump c now))).1.rump
    ≡ (cond {A = server_state.Played} halted (server_reply.Closed, w.rump) (take_at w.rump c now)).1
take_rump w c l true now = refl
take_rump w c l false None = refl
take_rump w c l false (Some x) = taken_rump w c l x x.condition x.queue

-- an event of a connection that is there: what the server plays of it is all that changes the server's machine
link_rump : (memory : Bool) (w : World) (c : ConnNo) (k : Client) (l : Link) (happens : Event)
    → (connection_plays memory w c k l happens).1.rump ≡ after_served memory w.rump (server_part c l happens)
link_rump memory w c k l (event.ToServer d salt) = by_frames l.up where
  by_frames : (frames : List Frame) → (to_server w c salt l frames).1.rump
      ≡ after_served memory w.rump (server_part c (record l { up = frames }) (event.ToServer d salt))
  by_frames [] = refl
  by_frames (f ∷ frames) = refl
link_rump memory w c k l (event.FromServer d) = take_rump w c l w.rump.halted (get w.rump.connections c.0)
link_rump memory w c k l (event.FromClient d) = sent_rump w c l (client.played k client_event.Take).1 (client.played k client_event.Take).0
link_rump memory w c k l (event.ToClient d) = arrived_rump w c k l l.down
link_rump memory w c k l (event.Work d r) = refl
link_rump memory w c k l (event.Cut d) = refl
link_rump memory w c k l (event.Ends d) = refl
link_rump memory w c k l _ = refl

at_rump : (memory : Bool) (w : World) (c : ConnNo) (happens : Event) (k : Option Client) (l : Option Link)
    → (connection_at memory w c happens k l).1.rump ≡ after_served memory w.rump (server_part_at c happens k l)
at_rump memory w c happens (Some k) (Some l) = link_rump memory w c k l happens
at_rump memory w c happens (Some k) None = refl
at_rump memory w c happens None l = refl

-- an event of which the server plays nothing where its connection is there leaves the server's machine as it is
stays_rump : (memory : Bool) (w : World) (c : ConnNo) (happens : Event) (k : Option Client) (l : Option Link) → ((m : Link) → server_part c m happens ≡ None)
    → (connection_at memory w c happens k l).1.rump ≡ w.rump
stays_rump memory w c happens (Some k) (Some l) none = link_rump memory w c k l happens ∙ ap (after_served memory w.rump) (none l)
stays_rump memory w c happens (Some k) None none = refl
stays_rump memory w c happens None l none = refl

hosts_rump : (w : World) (guest : ℕ) (caller : Caller) (pid : Pid) (operation : Op) (mem : List Part) (next : Option Entry)
    → (host_by w guest caller pid operation mem next).1.rump ≡ w.rump
hosts_rump w guest caller pid operation mem None = refl
hosts_rump w guest caller pid operation mem (Some e) = refl

host_rump : (w : World) (guest : ℕ) (caller : Caller) (pid : Pid) (operation : Op) (mem : List Part) (may : Bool)
    → (host_if w guest caller pid operation mem may).1.rump ≡ w.rump
host_rump w guest caller pid operation mem false = refl
host_rump w guest caller pid operation mem true = hosts_rump w guest caller pid operation mem (host_entry w guest pid operation (read_for operation mem))

-- what the server plays of an event is all that changes its machine
pub rump_is : (memory : Bool) (w : World) (happens : Event) → (played memory w happens).1.rump ≡ after_served memory w.rump (to_be_served w happens)
rump_is memory w (event.Connect c hello) =
    let p = server.played true w.rump (server_event.Opened c) in connect_rump (record w { rump = p.1 }) c hello p.0
rump_is memory w (event.ToServer c salt) = at_rump memory w c (event.ToServer c salt) (get w.clients c.0) (get w.links c.0)
rump_is memory w (event.FromServer c) = at_rump memory w c (event.FromServer c) (get w.clients c.0) (get w.links c.0)
rump_is memory w (event.Work c r) = at_rump memory w c (event.Work c r) (get w.clients c.0) (get w.links c.0)
rump_is memory w (event.Cut c) = at_rump memory w c (event.Cut c) (get w.clients c.0) (get w.links c.0)
rump_is memory w (event.Ends c) = at_rump memory w c (event.Ends c) (get w.clients c.0) (get w.links c.0)
rump_is memory w (event.Start c caller call mem) = stays_rump memory w c (event.Start c caller call mem) (get w.clients c.0) (get w.links c.0) (λ l. refl)
rump_is memory w (event.Prefork c caller want) = stays_rump memory w c (event.Prefork c caller want) (get w.clients c.0) (get w.links c.0) (λ l. refl)
rump_is memory w (event.Preexec c caller) = stays_rump memory w c (event.Preexec c caller) (get w.clients c.0) (get w.links c.0) (λ l. refl)
rump_is memory w (event.Collect c r) = stays_rump memory w c (event.Collect c r) (get w.clients c.0) (get w.links c.0) (λ l. refl)
rump_is memory w (event.ToClient c) = stays_rump memory w c (event.ToClient c) (get w.clients c.0) (get w.links c.0) (λ l. refl)
rump_is memory w (event.FromClient c) = stays_rump memory w c (event.FromClient c) (get w.clients c.0) (get w.links c.0) (λ l. refl)
rump_is memory w (event.Host guest caller pid operation mem) = host_rump w guest caller pid operation mem (may_ask w pid operation)
rump_is memory w event.GiveUp = refl
rump_is memory w event.Halt = refl

-- ---- runs

-- a run, and one event more that is played
runs_push : (exchanges : List Exchange) (old m new : Machine) (e : ServerEvent) (answer : ServerReply) → Runs old exchanges m → server.Plays m e answer new
    → Runs old (exchanges ++ record { event = e; reply = answer } ∷ []) new
runs_push [] old m new e answer same plays = (new, subst (λ (n : Machine). server.Plays n e answer new) same plays, refl)
runs_push (x ∷ exchanges) old m new e answer h plays = (h.0, h.1, runs_push exchanges h.0 m new e answer h.2 plays)

runs_on : (memory : Bool) (w : World) (exchanges : List Exchange) (old : Machine) (part : Option ServerEvent) → Runs old exchanges w.rump
    → Runs old (exchanges ++ exchanged memory w part) (after_served memory w.rump part)
runs_on memory w exchanges old None h = subst (λ (l : List Exchange). Runs old l w.rump) (sym (append-nil exchanges)) h
runs_on memory w exchanges old (Some e) h =
    let p = server.played (memory_for memory e) w.rump e in runs_push exchanges old w.rump p.1 e p.0 h (inl (memory_for memory e, refl))

-- a run of the server's machine, and what it plays of one move more
step_served : (old : Machine) (h : History) (move : Move) → Runs old h.exchanges h.world.rump → Runs old (step h move).exchanges (step h move).world.rump
step_served old h move served =
    subst (λ (m : Machine). Runs old (step h move).exchanges m) (sym (rump_is move.memory h.world move.happens))
    (runs_on move.memory h.world h.exchanges old (to_be_served h.world move.happens) served)

run_served : (old : Machine) (h : History) (moves : List Move) → Runs old h.exchanges h.world.rump → Runs old (run h moves).exchanges (run h moves).world.rump
run_served old h [] served = served
run_served old h (move ∷ moves) served = run_served old (step h move) moves (step_served old h move served)

-- what the server played in a history is a run of its machine from the start
pub served : (version : Version) (moves : List Move)
    → Runs (fresh_machine version) (run (fresh_history version) moves).exchanges (run (fresh_history version) moves).world.rump
served version moves = run_served (fresh_machine version) (fresh_history version) moves refl
