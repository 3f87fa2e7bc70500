-- From wherever a call is, there are moves after which it is answered, where the kernel is ready.
use Rattle.std.proofs.Common.{◌≡◌, ℕ, ◌+◌, true, false, List, [], ◌∷◌, ◌++◌, length, drop, Option, Some, None, Result, Ok, Err, refl, sym, ap, subst, ◌∙◌}
use Rattle.std.specs.Prelude.{slice_get, IsSome}
use Rattle.sp_base.specs.Needs.{needs_of}
use Rattle.sp_base.specs.declared.errno.Errno.{Errno}
use Rattle.sp_base.specs.declared.names.Pid.{Pid}
use Rattle.sp_base.specs.declared.need.Need.{Need}
use Rattle.sp_copy.specs.Delivering.{put_piece}
use Rattle.sp_copy.specs.Reading.{read_of}
use Rattle.sp_copy.specs.declared.delivery.Delivery.{Delivery}
use Rattle.sp_copy.specs.declared.fault.CopyFault.{CopyFault}
use Rattle.sp_copy.proofs.Pieces.{need_there, need_gone}
use Rattle.kern_model.specs.Act.{act}
use Rattle.kern_model.specs.Journal.{state_after, next_entry, entry_of_step}
use Rattle.kern_model.specs.Step.{Step}
use Rattle.kern_model.specs.declared.journal.Entry.{Entry}
use Rattle.kern_model.specs.declared.journal.Who.{Who}
use Rattle.kern_model.specs.declared.journal.Who.TheVariants.{Request}
use Rattle.kern_model.specs.declared.operation.Ins.{Ins}
use Rattle.kern_model.specs.declared.operation.Ins.TheVariants.{Fault}
use Rattle.kern_model.specs.declared.operation.Op.{Op}
use Rattle.kern_model.specs.declared.operation.Op.TheVariants.{Sys}
use Rattle.kern_model.specs.declared.outcome.OutPiece.{OutPiece}
use Rattle.link_model.specs.Asked.{Asked, IsAnswered, number_of, after, journal_before, entry_of, direct_of}
use Rattle.link_model.specs.Direct.{reads, seen}
use Rattle.link_model.specs.Link.{Link, made, carried}
use Rattle.link_model.specs.Route.{rounds, returns, route}
use Rattle.link_model.specs.declared.moves.Move.{Move}
use Rattle.link_model.specs.declared.moves.Move.TheVariants.{ToServer, ToClient, Work}
use Rattle.link_model.proofs.Copies.{errno_of}
use Rattle.link_model.proofs.Law.{begins, stands, told_answered}
use Rattle.link_model.proofs.Leads.{Leads, telling, call_leads, copy_leads, fault_leads, ask_leads, put_leads, answer_leads, next_leads, failing_leads, held_leads, told_leads}
use Rattle.link_model.proofs.Stage.{Stage, Sent, Held, Asking, Copying, Failing, Telling, Told, Fact, shape}
use Rattle.link_model.proofs.Transitions.{held_none, held_more, asking, copying, telling_all, front_ends, front_fails, one_more}

-- the call is answered after these moves
abbrev Arrives : Asked → Stage → List Move → Type 0
Arrives a s moves = IsAnswered a (carried (shape a s) moves)

-- one move before others
before : (a : Asked) (s next : Stage) (move : Move) (moves : List Move) → Leads a s (made (shape a s) move) next → Arrives a next moves → Arrives a s (move ∷ moves)
before a s next move moves leads arrives = subst (λ (l : Link). IsAnswered a (carried l moves)) (sym leads.is) arrives

-- ---- the outcome is told

told_arrives : (a : Asked) (indexes : List ℕ) (e : Entry) (now : Delivery) (moves : List Move) → Fact a (Told indexes e now) → Arrives a (Told indexes e now) moves
told_arrives a indexes e now [] fact = told_answered a indexes e now fact
told_arrives a indexes e now (move ∷ moves) fact =
    before a (Told indexes e now) (Told indexes e now) move moves (told_leads a indexes e now move) (told_arrives a indexes e now moves fact)

last_arrives : (a : Asked) (indexes : List ℕ) (e : Entry) (now : Delivery) (index : ℕ) (todo : List OutPiece) (moves : List Move) → todo ≡ [] → Fact a (Telling indexes e now index todo)
    → Arrives a (Telling indexes e now index todo) (ToClient ∷ moves)
last_arrives a indexes e now index [] moves none fact =
    before a (Telling indexes e now index []) (Told indexes e now) ToClient moves (answer_leads a indexes e now index) (told_arrives a indexes e now moves (record { entry = fact.entry; whole = fact.rest }))
last_arrives a indexes e now index (piece ∷ todo) moves none fact = absurd cc

telling_arrives : (a : Asked) (indexes : List ℕ) (e : Entry) (now : Delivery) (index : ℕ) (todo : List OutPiece) → Fact a (Telling indexes e now index todo)
    → Arrives a (Telling indexes e now index todo) (returns todo)
telling_arrives a indexes e now index [] fact = last_arrives a indexes e now index [] [] refl fact
telling_arrives a indexes e now index (piece ∷ todo) fact =
    let then = put_piece now (record { addr = piece.addr; bytes = piece.bytes }) in
    before a (Telling indexes e now index (piece ∷ todo)) (Telling indexes e then (index + 1) todo) ToClient (returns todo) (put_leads a indexes e now index piece todo fact.inside.0)
    (telling_arrives a indexes e then (index + 1) todo (record { entry = fact.entry; rest = fact.rest; inside = fact.inside.1 }))

-- ---- what the call reads is gathered

-- the need at an index is the first of those from it on
first_left : (needs : List Need) (i : ℕ) (need : Need) (rest : List Need) → drop i needs ≡ need ∷ rest → (slice_get needs i ≡ Some need) × (drop (i + 1) needs ≡ rest)
first_left needs i need rest is = by_next (slice_get needs i) refl where
  by_next : (next : Option Need) → slice_get needs i ≡ next → (next ≡ Some need) × (drop (i + 1) needs ≡ rest)
  by_next None none = absurd (let k = sym (need_gone needs i (sym none)) ∙ is in cc)
  by_next (Some other) next = let k = sym (need_there needs i other (sym next)).1 ∙ is in (cc, cc)

none_left : (needs : List Need) (i : ℕ) → drop i needs ≡ [] → slice_get needs i ≡ None
none_left needs i is = by_next (slice_get needs i) refl where
  by_next : (next : Option Need) → slice_get needs i ≡ next → next ≡ None
  by_next None none = refl
  by_next (Some need) next = absurd (let k = sym (need_there needs i need (sym next)).1 ∙ is in cc)

-- what an entry writes
abbrev outs_in : Option Entry → List OutPiece
outs_in None = []
outs_in (Some e) = e.outcome.outs

module _ (a : Asked) (e : Entry) (entry : entry_of a ≡ Some e) where
  -- what is left of the route where so much is still to be read
  abbrev left : List Need → List Move
  left rest = rounds (number_of a) rest ++ Work (number_of a) ∷ returns e.outcome.outs

  -- a fault writes nothing
  fault_quiet : (why : Errno) → reads a.call a.mem ≡ Fault why → e.outcome.outs ≡ []
  fault_quiet why is =
      let who = Request a.link.conn (number_of a) in
      sym (ap outs_in (sym (ap (λ (i : Ins). next_entry (journal_before a) a.whole.pid who (Sys a.call) i) is) ∙ entry))

  failing_arrives : (rest : List Need) (indexes : List ℕ) (why : Errno) → Fact a (Failing indexes why) → Arrives a (Failing indexes why) (left rest)
  failing_arrives [] indexes why fact =
      before a (Failing indexes why) (telling a indexes e) (Work (number_of a)) (returns e.outcome.outs) (failing_leads a indexes why e fact entry)
      (telling_arrives a indexes e _ 0 e.outcome.outs (telling_all a indexes e entry))
  failing_arrives (need ∷ rest) indexes why fact =
      before a (Failing indexes why) (telling a indexes e) (Work (number_of a)) (ToClient ∷ ToServer ∷ left rest) (failing_leads a indexes why e fact entry)
      (last_arrives a indexes e _ 0 e.outcome.outs (ToServer ∷ left rest) (fault_quiet why fact) (telling_all a indexes e entry))

  -- what has one piece more arrives
  abbrev MoreArrives : List Need → List (List ℕ) → Type 0
  MoreArrives rest got = (bytes : List ℕ) (indexes : List ℕ) → Fact a (Held (got ++ bytes ∷ []) indexes) → Arrives a (Held (got ++ bytes ∷ []) indexes) (left rest)

  copying_by : (rest : List Need) (got : List (List ℕ)) (indexes : List ℕ) (need : Need) (read : Result (List ℕ) CopyFault) → read_of a.mem need ≡ read → Fact a (Copying got indexes need) → MoreArrives rest got
      → Arrives a (Copying got indexes need) (ToServer ∷ left rest)
  copying_by rest got indexes need (Ok bytes) is fact more =
      before a (Copying got indexes need) (Held (got ++ bytes ∷ []) indexes) ToServer (left rest) (copy_leads a got indexes need bytes fact.next is) (more bytes indexes (held_more a got indexes need bytes is fact))
  copying_by rest got indexes need (Err why) is fact more =
      before a (Copying got indexes need) (Failing indexes (errno_of why)) ToServer (left rest) (fault_leads a got indexes need why fact.next is)
      (failing_arrives rest indexes (errno_of why) (front_fails a got need why fact.gathering.front fact.next is))

  copying_arrives : (rest : List Need) (got : List (List ℕ)) (indexes : List ℕ) (need : Need) → Fact a (Copying got indexes need) → MoreArrives rest got → Arrives a (Copying got indexes need) (ToServer ∷ left rest)
  copying_arrives rest got indexes need fact more = copying_by rest got indexes need (read_of a.mem need) refl fact more

  asking_arrives : (rest : List Need) (got : List (List ℕ)) (indexes : List ℕ) (need : Need) → Fact a (Asking got indexes need) → MoreArrives rest got
      → Arrives a (Asking got indexes need) (ToClient ∷ ToServer ∷ left rest)
  asking_arrives rest got indexes need fact more =
      before a (Asking got indexes need) (Copying got (indexes ++ length got ∷ []) need) ToClient (ToServer ∷ left rest) (ask_leads a got indexes need fact.next fact.gathering.below)
      (copying_arrives rest got (indexes ++ length got ∷ []) need (copying a got indexes need fact) more)

  held_arrives : (rest : List Need) (got : List (List ℕ)) (indexes : List ℕ) → drop (length got) (needs_of a.call) ≡ rest → Fact a (Held got indexes) → Arrives a (Held got indexes) (left rest)
  held_arrives [] got indexes is fact =
      let none = none_left (needs_of a.call) (length got) is in
      before a (Held got indexes) (telling a indexes e) (Work (number_of a)) (returns e.outcome.outs) (held_leads a got indexes e (front_ends a got fact.front none) none entry)
      (telling_arrives a indexes e _ 0 e.outcome.outs (telling_all a indexes e entry))
  held_arrives (need ∷ rest) got indexes is fact =
      let there = first_left (needs_of a.call) (length got) need rest is in
      before a (Held got indexes) (Asking got indexes need) (Work (number_of a)) (ToClient ∷ ToServer ∷ left rest) (next_leads a got indexes need there.0)
      (asking_arrives rest got indexes need (asking a got indexes need there.0 fact)
      (λ bytes later held. held_arrives rest (got ++ bytes ∷ []) later (ap (λ (n : ℕ). drop n (needs_of a.call)) (one_more got bytes) ∙ there.1) held))

  -- one piece more, and those behind it
  more_arrives : (got : List (List ℕ)) → MoreArrives (drop (length got + 1) (needs_of a.call)) got
  more_arrives got bytes indexes fact = held_arrives _ (got ++ bytes ∷ []) indexes (ap (λ (n : ℕ). drop n (needs_of a.call)) (one_more got bytes)) fact

  -- from the start, by its route
  sent_arrives : Arrives a Sent (route a e)
  sent_arrives = before a Sent (Held [] []) ToServer (left (needs_of a.call)) (call_leads a) (held_arrives (needs_of a.call) [] [] refl (held_none a))

  -- from every stage
  stage_arrives : (s : Stage) → Fact a s → (moves : List Move) × Arrives a s moves
  stage_arrives Sent fact = (route a e, sent_arrives)
  stage_arrives (Held got indexes) fact = let rest = drop (length got) (needs_of a.call) in (left rest, held_arrives rest got indexes refl fact)
  stage_arrives (Asking got indexes need) fact =
      let rest = drop (length got + 1) (needs_of a.call) in
      (ToClient ∷ ToServer ∷ left rest, asking_arrives rest got indexes need fact (more_arrives got))
  stage_arrives (Copying got indexes need) fact = let rest = drop (length got + 1) (needs_of a.call) in (ToServer ∷ left rest, copying_arrives rest got indexes need fact (more_arrives got))
  stage_arrives (Failing indexes why) fact = (left [], failing_arrives [] indexes why fact)
  stage_arrives (Telling indexes d now index todo) fact = (returns todo, telling_arrives a indexes d now index todo fact)
  stage_arrives (Told indexes d now) fact = ([], told_arrives a indexes d now [] fact)

-- ---- after any moves

pub carried_on : (link : Link) (moves more : List Move) → carried link (moves ++ more) ≡ carried (carried link moves) more
carried_on link [] more = refl
carried_on link (move ∷ moves) more = carried_on (made link move).link moves more

no_step : (pid : Pid) (who : Who) (op : Op) (ins : Ins) (step : Step) → entry_of_step pid who op ins step ≡ None → step ≡ None
no_step pid who op ins None h = refl
no_step pid who op ins (Some step) h = absurd cc

-- where something is seen at once, the call has an entry
has_entry : (a : Asked) (entry : Option Entry) → entry_of a ≡ entry → IsSome (direct_of a) → (e : Entry) × (entry_of a ≡ Some e)
has_entry a (Some e) entry ready = (e, entry)
has_entry a None none ready =
    let waits = no_step a.whole.pid (Request a.link.conn (number_of a)) (Sys a.call) (reads a.call a.mem) (act (state_after (journal_before a)) a.whole.pid.0 (Sys a.call) (reads a.call a.mem)) none in
    absurd (let k : direct_of a ≡ None = ap (λ (step : Step). seen step (length (journal_before a)) a.mem) waits in let g : false ≡ true = rw k at ready in cc)

-- whatever was moved, there are moves after which the call is answered
pub moves_end : (a : Asked) (moves : List Move) → IsSome (direct_of a) → (more : List Move) × IsAnswered a (after a (moves ++ more))
moves_end a moves ready =
    let has = has_entry a (entry_of a) refl ready in
    let h = stands a moves in
    let arrives = stage_arrives a has.0 has.1 h.stage h.fact in
    (arrives.0, subst (λ (l : Link). IsAnswered a l) (sym (carried_on (after a []) moves arrives.0)) (subst (λ (l : Link). IsAnswered a (carried l arrives.0)) (sym h.is) arrives.1))

-- the call is answered at the end of its route
pub route_ends : (a : Asked) (e : Entry) → entry_of a ≡ Some e → IsAnswered a (after a (route a e))
route_ends a e entry = subst (λ (l : Link). IsAnswered a (carried l (route a e))) (sym (begins a)) (sent_arrives a e entry)
