-- Whatever is moved at a stage of a call leads to a stage.
use Rattle.std.proofs.Common.{◌≡◌, inl, inr, ℕ, ◌+◌, ◌<◌, true, List, [], ◌∷◌, ◌++◌, length, drop, Option, Some, None, Result, Ok, Err, refl, sym, ap, subst, ◌∙◌, arith}
use Rattle.std.specs.Prelude.{slice_get}
use Rattle.std.specs.Ordering.{nat_cmp}
use Rattle.std.specs.FinMap.{get, get-empty}
use Rattle.std.proofs.lemmas.List.{append-nil}
use Rattle.sp_base.specs.Needs.{needs_of}
use Rattle.sp_base.specs.declared.errno.Errno.{Errno}
use Rattle.sp_base.specs.declared.names.ReqNo.{ReqNo}
use Rattle.sp_base.specs.declared.need.Need.{Need}
use Rattle.sp_copy.specs.Delivering.{put_piece}
use Rattle.sp_copy.specs.Gathering.{gather, gathered, with_first}
use Rattle.sp_copy.specs.Reading.{read_of}
use Rattle.sp_copy.specs.declared.fault.CopyFault.{CopyFault}
use Rattle.sp_copy.proofs.Pieces.{after_pieces, need_there, need_gone, one_gathered}
use Rattle.kern_model.specs.Journal.{state_after}
use Rattle.kern_model.specs.declared.journal.Entry.{Entry}
use Rattle.kern_model.specs.declared.journal.Who.TheVariants.{Request}
use Rattle.kern_model.specs.declared.operation.Ins.TheVariants.{Given, Fault}
use Rattle.kern_model.specs.declared.operation.Op.TheVariants.{Sys}
use Rattle.hub_model.specs.Work.{work_call}
use Rattle.hub_model.specs.declared.event.Reply.{Reply}
use Rattle.hub_model.specs.declared.event.Reply.TheVariants as reply
use Rattle.hub_model.specs.declared.state.OpenCall.{OpenCall}
use Rattle.hub_model.specs.declared.state.OpenCall.TheVariants.{Gathers, Answers}
use Rattle.hub_model.proofs.Entries.{nexts}
use Rattle.hub_model.proofs.Keeps.{all_map, all_push}
use Rattle.tables.proofs.Maps.{same_or_not}
use Rattle.link_model.specs.Asked.{Asked, number_of, journal_before, entry_of}
use Rattle.link_model.specs.Direct.{ins_of, reads}
use Rattle.link_model.specs.Link.{Made, made}
use Rattle.link_model.specs.declared.moves.Move.{Move}
use Rattle.link_model.specs.declared.moves.Move.TheVariants.{ToServer, ToClient, Work}
use Rattle.link_model.proofs.Copies.{errno_of, fault_is}
use Rattle.link_model.proofs.Ranges.{writes_inside}
use Rattle.link_model.proofs.Leads.{Leads, Rests, connection_of, telling, stays, call_leads, copy_leads, fault_leads, ask_leads, put_leads, answer_leads, none_leads, no_call_leads, wait_leads, next_leads, failing_leads, failing_waits, held_leads, held_waits}
use Rattle.link_model.proofs.Server.{no_other}
use Rattle.link_model.proofs.Stage.{Stage, Sent, Held, Asking, Copying, Failing, Telling, Told, Fact, IsFront, AreBelow, look, shape, calls_at}

-- a move leads from a stage to another, and what holds there holds
pub record Goes (a : Asked) (s : Stage) (m : Made) : Type 0 where
  pub stage : Stage
  pub leads : Leads a s m stage
  pub fact : Fact a stage

-- ---- facts of what was gathered

nothing_before : (r : Result (List (List ℕ)) CopyFault) → after_pieces [] r ≡ r
nothing_before (Ok pieces) = refl
nothing_before (Err why) = refl

pub one_more : (got : List (List ℕ)) (bytes : List ℕ) → length (got ++ bytes ∷ []) ≡ length got + 1
one_more [] bytes = omega arith
one_more (g ∷ got) bytes = let e = one_more got bytes in omega (arith, e)

-- a piece more is a front of what the call reads
front_grows : (a : Asked) (got : List (List ℕ)) (need : Need) (bytes : List ℕ) → IsFront a got → slice_get (needs_of a.call) (length got) ≡ Some need → read_of a.mem need ≡ Ok bytes
    → IsFront a (got ++ bytes ∷ [])
front_grows a got need bytes front next e =
    let needs = needs_of a.call in
    let rest = drop (length got + 1) needs in
    ap (λ (n : ℕ). after_pieces (got ++ bytes ∷ []) (gathered a.mem (drop n needs))) (one_more got bytes)
    ∙ one_gathered a.mem got need rest bytes e
    ∙ ap (λ (xs : List Need). after_pieces got (gathered a.mem xs)) (sym (need_there needs (length got) need (sym next)).1)
    ∙ front

-- a fault is what the call reads
pub front_fails : (a : Asked) (got : List (List ℕ)) (need : Need) (why : CopyFault) → IsFront a got → slice_get (needs_of a.call) (length got) ≡ Some need → read_of a.mem need ≡ Err why
    → reads a.call a.mem ≡ Fault (errno_of why)
front_fails a got need why front next e =
    let needs = needs_of a.call in
    let rest = drop (length got + 1) needs in
    ap ins_of (sym front
    ∙ ap (λ (xs : List Need). after_pieces got (gathered a.mem xs)) (need_there needs (length got) need (sym next)).1
    ∙ ap (λ (r : Result (List ℕ) CopyFault). after_pieces got (with_first r (gathered a.mem rest))) e)
    ∙ fault_is why

-- where nothing is left to be read, what was got is what the call reads
pub front_ends : (a : Asked) (got : List (List ℕ)) → IsFront a got → slice_get (needs_of a.call) (length got) ≡ None → reads a.call a.mem ≡ Given got
front_ends a got front next =
    ap ins_of (sym front ∙ ap (λ (xs : List Need). after_pieces got (gathered a.mem xs)) (need_gone (needs_of a.call) (length got) (sym next)))
    ∙ ap (λ (ps : List (List ℕ)). Given ps) (append-nil got)

-- nothing was gathered yet
pub held_none : (a : Asked) → Fact a (Held [] [])
held_none a = record { front = nothing_before (gather a.call a.mem); below = tt }

-- a copy more was gathered
pub held_more : (a : Asked) (got : List (List ℕ)) (indexes : List ℕ) (need : Need) (bytes : List ℕ) → read_of a.mem need ≡ Ok bytes → Fact a (Copying got indexes need) → Fact a (Held (got ++ bytes ∷ []) indexes)
held_more a got indexes need bytes e fact = record {
  front = front_grows a got need bytes fact.gathering.front fact.next e;
  below = subst (λ (n : ℕ). AreBelow n indexes) (sym (one_more got bytes)) fact.gathering.below;
}

-- a need is asked for
pub asking : (a : Asked) (got : List (List ℕ)) (indexes : List ℕ) (need : Need) → slice_get (needs_of a.call) (length got) ≡ Some need → Fact a (Held got indexes) → Fact a (Asking got indexes need)
asking a got indexes need next fact = record { gathering = record { front = fact.front; below = fact.below }; next = next }

-- ---- to the server

pub copy_goes : (a : Asked) (got : List (List ℕ)) (indexes : List ℕ) (need : Need) (read : Result (List ℕ) CopyFault) → read_of a.mem need ≡ read → Fact a (Copying got indexes need)
    → Goes a (Copying got indexes need) (made (shape a (Copying got indexes need)) ToServer)
copy_goes a got indexes need (Ok bytes) e fact = record {
  stage = Held (got ++ bytes ∷ []) indexes;
  leads = copy_leads a got indexes need bytes fact.next e;
  fact = held_more a got indexes need bytes e fact;
}
copy_goes a got indexes need (Err why) e fact = record {
  stage = Failing indexes (errno_of why);
  leads = fault_leads a got indexes need why fact.next e;
  fact = front_fails a got need why fact.gathering.front fact.next e;
}

to_server_goes : (a : Asked) (s : Stage) → Fact a s → Goes a s (made (shape a s) ToServer)
to_server_goes a Sent fact = record { stage = Held [] []; leads = call_leads a; fact = held_none a }
to_server_goes a (Copying got indexes need) fact = copy_goes a got indexes need (read_of a.mem need) refl fact
to_server_goes a s fact = record { stage = s; leads = stays a s; fact = fact }

-- ---- to the client

below_more : (n : ℕ) (indexes : List ℕ) → AreBelow n indexes → AreBelow (n + 1) (indexes ++ n ∷ [])
below_more n indexes h = all_push (λ i. i < n + 1) indexes n (all_map (λ i. i < n) (λ i. i < n + 1) (λ i lt. omega (arith, lt)) indexes h) (omega arith)

-- a copy is under way of what was asked for
pub copying : (a : Asked) (got : List (List ℕ)) (indexes : List ℕ) (need : Need) → Fact a (Asking got indexes need) → Fact a (Copying got (indexes ++ length got ∷ []) need)
copying a got indexes need fact = record { gathering = record { front = fact.gathering.front; below = below_more (length got) indexes fact.gathering.below }; next = fact.next }

to_client_goes : (a : Asked) (s : Stage) → Fact a s → Goes a s (made (shape a s) ToClient)
to_client_goes a (Asking got indexes need) fact = record {
  stage = Copying got (indexes ++ length got ∷ []) need;
  leads = ask_leads a got indexes need fact.next fact.gathering.below;
  fact = copying a got indexes need fact;
}
to_client_goes a (Telling indexes e now index (piece ∷ todo)) fact = record {
  stage = Telling indexes e (put_piece now (record { addr = piece.addr; bytes = piece.bytes })) (index + 1) todo;
  leads = put_leads a indexes e now index piece todo fact.inside.0;
  fact = record { entry = fact.entry; rest = fact.rest; inside = fact.inside.1 };
}
to_client_goes a (Telling indexes e now index []) fact = record {
  stage = Told indexes e now;
  leads = answer_leads a indexes e now index;
  fact = record { entry = fact.entry; whole = fact.rest };
}
to_client_goes a s fact = record { stage = s; leads = none_leads a s refl; fact = fact }

-- ---- the call is worked

-- what the call writes is still to be told, and lies inside its ranges
pub telling_all : (a : Asked) (indexes : List ℕ) (e : Entry) → entry_of a ≡ Some e → Fact a (telling a indexes e)
telling_all a indexes e entry =
    let next = nexts (journal_before a) a.whole.pid (Request a.link.conn (number_of a)) (Sys a.call) (reads a.call a.mem) e entry in
    record {
      entry = entry;
      rest = refl;
      inside = writes_inside (state_after (journal_before a)) a.whole.pid.0 a.call (reads a.call a.mem) e.outcome next.next next.acts;
    }

failing_goes : (a : Asked) (indexes : List ℕ) (why : Errno) (entry : Option Entry) → entry_of a ≡ entry → Fact a (Failing indexes why)
    → Goes a (Failing indexes why) (made (shape a (Failing indexes why)) (Work (number_of a)))
failing_goes a indexes why (Some e) entry fact = record { stage = telling a indexes e; leads = failing_leads a indexes why e fact entry; fact = telling_all a indexes e entry }
failing_goes a indexes why None none fact = record { stage = Failing indexes why; leads = failing_waits a indexes why fact none; fact = fact }

all_goes : (a : Asked) (got : List (List ℕ)) (indexes : List ℕ) (entry : Option Entry) → entry_of a ≡ entry → slice_get (needs_of a.call) (length got) ≡ None → Fact a (Held got indexes)
    → Goes a (Held got indexes) (made (shape a (Held got indexes)) (Work (number_of a)))
all_goes a got indexes (Some e) entry none fact = record {
  stage = telling a indexes e;
  leads = held_leads a got indexes e (front_ends a got fact.front none) none entry;
  fact = telling_all a indexes e entry;
}
all_goes a got indexes None entry none fact = record { stage = Held got indexes; leads = held_waits a got indexes (front_ends a got fact.front none) none entry; fact = fact }

held_goes : (a : Asked) (got : List (List ℕ)) (indexes : List ℕ) (need : Option Need) → slice_get (needs_of a.call) (length got) ≡ need → Fact a (Held got indexes)
    → Goes a (Held got indexes) (made (shape a (Held got indexes)) (Work (number_of a)))
held_goes a got indexes None none fact = all_goes a got indexes (entry_of a) refl none fact
held_goes a got indexes (Some need) next fact = record { stage = Asking got indexes need; leads = next_leads a got indexes need next; fact = asking a got indexes need next fact }

-- the call isn't open
none_open : (a : Asked) (s : Stage) → Fact a s → (look a s).task ≡ None → Goes a s (made (shape a s) (Work (number_of a)))
none_open a s fact none = record {
  stage = s;
  leads = no_call_leads a s (number_of a) (ap (λ (o : Option OpenCall). get (calls_at (a.link.client.last + 1) o) (a.link.client.last + 1)) none ∙ get-empty nat_cmp (a.link.client.last + 1));
  fact = fact;
}

-- the call can't go on by now
waits : (a : Asked) (s : Stage) → Fact a s → (task : OpenCall) (answer : Reply) → Rests a s answer → (look a s).task ≡ Some task
    → work_call true (shape a s).server a.link.conn (connection_of a s) (number_of a) task ≡ (answer, (shape a s).server) → Goes a s (made (shape a s) (Work (number_of a)))
waits a s fact task answer rests has e = record { stage = s; leads = wait_leads a s task answer rests has e; fact = fact }

work_goes : (a : Asked) (s : Stage) → Fact a s → Goes a s (made (shape a s) (Work (number_of a)))
work_goes a (Held got indexes) fact = held_goes a got indexes (slice_get (needs_of a.call) (length got)) refl fact
work_goes a (Failing indexes why) fact = failing_goes a indexes why (entry_of a) refl fact
work_goes a Sent fact = none_open a Sent fact refl
work_goes a (Told indexes e now) fact = none_open a (Told indexes e now) fact refl
work_goes a (Asking got indexes need) fact = waits a (Asking got indexes need) fact (Gathers a.call got true) reply.AwaitsAnswer (record { taken = refl; grows = refl }) refl refl
work_goes a (Copying got indexes need) fact = waits a (Copying got indexes need) fact (Gathers a.call got true) reply.AwaitsAnswer (record { taken = refl; grows = refl }) refl refl
work_goes a (Telling indexes e now index todo) fact = waits a (Telling indexes e now index todo) fact Answers reply.Nothing (record { taken = refl; grows = refl }) refl refl

-- ---- every move

request_is : (r s : ReqNo) → r.0 ≡ s.0 → r ≡ s
request_is r s e = let same : ◌≡◌ {A = ReqNo} (record { 0 = r.0 }) (record { 0 = s.0 }) = ap (λ n. record { 0 = n }) e in same

-- whatever is moved at a stage leads to a stage, and is fine
pub move_goes : (a : Asked) (s : Stage) → Fact a s → (move : Move) → Goes a s (made (shape a s) move)
move_goes a s fact ToServer = to_server_goes a s fact
move_goes a s fact ToClient = to_client_goes a s fact
move_goes a s fact (Work r) = elim (same_or_not r.0 (a.link.client.last + 1)) [
  | inl e ↦ subst (λ (q : ReqNo). Goes a s (made (shape a s) (Work q))) (sym (request_is r (number_of a) e)) (work_goes a s fact)
  | inr ne ↦ record { stage = s; leads = no_call_leads a s r (no_other (a.link.client.last + 1) (look a s).task r.0 ne); fact = fact }
]
