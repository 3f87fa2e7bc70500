-- Sockets that give up their ends keep all sound.
use Rattle.std.proofs.Common.{◌≡◌, ℕ, List, [], ◌∷◌, drop, Option, None, Some, refl, ap, sym, ◌∙◌, subst, ⊎_elim}
use Rattle.std.proofs.Math.ListN.{set}
use Rattle.std.specs.List.{slice_get}
use Rattle.std.proofs.lemmas.Bool.{cases_eq}
use Rattle.sp_base.specs.Table.{at}
use Rattle.socket_model.specs.declared.address.SockKind.{SockKind}
use Rattle.socket_model.specs.declared.address.SockKind.TheVariants.{Stream, Datagram}
use Rattle.socket_model.specs.declared.ruling.How.TheVariants.{Reading, Writing, Both}
use Rattle.socket_model.specs.Channel.{Channel}
use Rattle.socket_model.specs.Socket.{Socket, Sockets, socket_in}
use Rattle.socket_model.specs.Calls.{shut_link, left_channels, without_socket, close_all, close}
use Rattle.socket_model.specs.Sound.{ReadsFrom, WritesTo, Ends, IsLinked, LinkedAt, ends_in, ends_at, reads_of, stream_writes, writes_of, IsSound}
use Rattle.kern_local.proofs.SoundLemmas.{write_is_bytes, writes_through, Moves, IsFree, free_own, free_none, sound_moved, sound_unread, sound_unwritten, sound_letters, moves_set, live}

-- nobody has what the only one that had it gave up
gone : (f : Option Ends → Option ℕ) (old new : ℕ → Option Ends) (i c : ℕ) (ends : Option Ends) → Moves old new i ends → (f ends ≡ Some c → ⊥) → f (old i) ≡ Some c
    → ((j k d : ℕ) → f (old j) ≡ Some d → f (old k) ≡ Some d → j ≡ k) → (j : ℕ) → f (new j) ≡ Some c → ⊥
gone f old new i c ends moves none had one j p =
    ⊎_elim
    (λ e. none (sym (ap f (ap new e ∙ moves.here)) ∙ p))
    (λ ne. ne (one j i c (sym (ap f (moves.others j ne)) ∙ p) had))
    (cases_eq j i)

no_link : (c : ℕ) → None ≡ Some c → ⊥
no_link c e = absurd cc

no_writes : (k : SockKind) (c : ℕ) → stream_writes k None ≡ Some c → ⊥
no_writes Stream c e = absurd cc
no_writes Datagram c e = absurd cc

-- a socket that stopped reading
pub stopped_reading : (old new : ℕ → Option Ends) (cs : List (Option Channel)) (i : ℕ) (k : SockKind) (r w : Option ℕ) → Moves old new i (Some (record { kind = k; reads = None; writes = w }))
    → old i ≡ Some (record { kind = k; reads = r; writes = w }) → IsSound old cs → IsSound new (shut_link cs r Reading)
stopped_reading old new cs i k r w moves had h =
    let linked : IsLinked cs (record { kind = k; reads = r; writes = w }) = subst (LinkedAt cs) had (h.linked i) in
    let own : IsFree old i (Some (record { kind = k; reads = r; writes = w })) = subst (IsFree old i) had (free_own old cs i h) in
    let still : IsSound new cs = sound_moved old new cs i (Some (record { kind = k; reads = None; writes = w })) moves (record { reads = tt; writes = linked.writes })
    (record { reads = λ j c ne p q. no_link c p; writes = own.writes }) h in
    by_link r still (λ c e. gone reads_of old new i c (Some (record { kind = k; reads = None; writes = w })) moves (no_link c) (ap reads_of had ∙ e) h.one_reader)
  where
    by_link : (r : Option ℕ) → IsSound new cs → ((c : ℕ) → r ≡ Some c → (j : ℕ) → reads_of (new j) ≡ Some c → ⊥) → IsSound new (shut_link cs r Reading)
    by_link None still un = still
    by_link (Some c) still un = sound_unread new cs c (un c refl) still

-- a stream that stopped writing
pub stopped_writing : (old new : ℕ → Option Ends) (cs : List (Option Channel)) (i : ℕ) (r w : Option ℕ) → Moves old new i (Some (record { kind = Stream; reads = r; writes = None }))
    → old i ≡ Some (record { kind = Stream; reads = r; writes = w }) → IsSound old cs → IsSound new (shut_link cs w Writing)
stopped_writing old new cs i r w moves had h =
    let linked : IsLinked cs (record { kind = Stream; reads = r; writes = w }) = subst (LinkedAt cs) had (h.linked i) in
    let own : IsFree old i (Some (record { kind = Stream; reads = r; writes = w })) = subst (IsFree old i) had (free_own old cs i h) in
    let still : IsSound new cs = sound_moved old new cs i (Some (record { kind = Stream; reads = r; writes = None })) moves (record { reads = linked.reads; writes = tt })
    (record { reads = own.reads; writes = λ j c ne p q. no_link c p }) h in
    by_link w linked.writes still (λ c e. gone writes_of old new i c (Some (record { kind = Stream; reads = r; writes = None })) moves (no_link c) (ap writes_of had ∙ e) h.one_writer)
  where
    by_link : (w : Option ℕ) → WritesTo cs Stream w → IsSound new cs → ((c : ℕ) → w ≡ Some c → (j : ℕ) → writes_of (new j) ≡ Some c → ⊥) → IsSound new (shut_link cs w Writing)
    by_link None there still un = still
    by_link (Some c) there still un = sound_unwritten new cs c (write_is_bytes _ there) (un c refl) still

-- what a stream writes to after it stopped reading
pub still_writes : (cs : List (Option Channel)) (k : SockKind) (r w : Option ℕ) → WritesTo cs k w → WritesTo (shut_link cs r Reading) k w
still_writes cs k None w h = h
still_writes cs k (Some c) w h = writes_through cs c k w h

-- a socket that is gone
pub closed_sound : (old new : ℕ → Option Ends) (cs : List (Option Channel)) (i : ℕ) (k : SockKind) (r w : Option ℕ) → Moves old new i None
    → old i ≡ Some (record { kind = k; reads = r; writes = w }) → IsSound old cs → IsSound new (left_channels cs k r w)
closed_sound old new cs i k r w moves had h =
    let linked : IsLinked cs (record { kind = k; reads = r; writes = w }) = subst (LinkedAt cs) had (h.linked i) in
    let still : IsSound new cs = sound_moved old new cs i None moves tt (free_none old i) h in
    by_kind k r w linked still
    (λ c e. gone reads_of old new i c None moves (no_link c) (ap reads_of had ∙ e) h.one_reader)
    (λ c e. gone writes_of old new i c None moves (no_link c) (ap writes_of had ∙ e) h.one_writer)
  where
    unreads : (cs : List (Option Channel)) (r : Option ℕ) → IsSound new cs → ((c : ℕ) → r ≡ Some c → (j : ℕ) → reads_of (new j) ≡ Some c → ⊥) → IsSound new (shut_link cs r Reading)
    unreads cs None still un = still
    unreads cs (Some c) still un = sound_unread new cs c (un c refl) still

    unwrites : (cs : List (Option Channel)) (w : Option ℕ) → WritesTo cs Stream w → IsSound new cs → ((c : ℕ) → w ≡ Some c → (j : ℕ) → writes_of (new j) ≡ Some c → ⊥) → IsSound new (shut_link cs w Writing)
    unwrites cs None there still un = still
    unwrites cs (Some c) there still un = sound_unwritten new cs c (write_is_bytes _ there) (un c refl) still

    posts : (cs : List (Option Channel)) (r : Option ℕ) → ReadsFrom cs Datagram r → IsSound new cs → ((c : ℕ) → r ≡ Some c → (j : ℕ) → reads_of (new j) ≡ Some c → ⊥) → IsSound new (shut_link cs r Both)
    posts cs None there still un = still
    posts cs (Some c) there still un = sound_letters new cs c there (un c refl) still

    by_kind : (k : SockKind) (r w : Option ℕ) → IsLinked cs (record { kind = k; reads = r; writes = w }) → IsSound new cs
        → ((c : ℕ) → r ≡ Some c → (j : ℕ) → reads_of (new j) ≡ Some c → ⊥)
        → ((c : ℕ) → stream_writes k w ≡ Some c → (j : ℕ) → writes_of (new j) ≡ Some c → ⊥)
        → IsSound new (left_channels cs k r w)
    by_kind Stream r w linked still ur uw = unwrites (shut_link cs r Reading) w (still_writes cs Stream r w linked.writes) (unreads cs r still ur) uw
    by_kind Datagram r w linked still ur uw = posts cs r linked.reads still ur

-- ---- the same by what each step gives

pub sound_stopped_reading : (ss : List (Option Socket)) (cs ds : List (Option Channel)) (i : ℕ) (x y : Socket) (l : Option ℕ) → at ss i ≡ Some x → y ≡ record x { reads = None } → l ≡ x.reads → ds ≡ shut_link cs l Reading
    → IsSound (ends_at ss) cs → IsSound (ends_at (set ss i (Some y))) ds
sound_stopped_reading ss cs ds i x y l h ey el ed sound =
    let z : Socket = record x { reads = None } in
    rw (ed, el, ey) (stopped_reading (ends_at ss) (ends_at (set ss i (Some z))) cs i x.kind x.reads x.writes (moves_set ss i (Some z) (live _ x h)) (ap ends_in h) sound)

pub sound_stopped_writing : (ss : List (Option Socket)) (cs ds : List (Option Channel)) (i : ℕ) (x y : Socket) (l : Option ℕ) → at ss i ≡ Some x → x.kind ≡ Stream → y ≡ record x { writes = None } → l ≡ x.writes → ds ≡ shut_link cs l Writing
    → IsSound (ends_at ss) cs → IsSound (ends_at (set ss i (Some y))) ds
sound_stopped_writing ss cs ds i x y l h k ey el ed sound =
    let z : Socket = record x { kind = Stream; writes = None } in
    let ez : y ≡ z = rw (ey, ← k) refl in
    rw (ed, el, ez) (stopped_writing (ends_at ss) (ends_at (set ss i (Some z))) cs i x.reads x.writes (moves_set ss i (Some z) (live _ x h)) (rw (← k) (ap ends_in h)) sound)

pub sound_closed : (ss : List (Option Socket)) (cs ds : List (Option Channel)) (i : ℕ) (x : Socket) → Some x ≡ at ss i → ds ≡ left_channels cs x.kind x.reads x.writes
    → IsSound (ends_at ss) cs → IsSound (ends_at (set ss i None)) ds
sound_closed ss cs ds i x h ed sound =
    rw ed (closed_sound (ends_at ss) (ends_at (set ss i None)) cs i x.kind x.reads x.writes (moves_set ss i None (live _ x (sym h))) (ap ends_in (sym h)) sound)

-- ---- closing one after the other

pub close_next : (s : Sockets) (items : List ℕ) (w : ℕ) → slice_get items 0 ≡ Some w → close_all s items ≡ close_all (without_socket s w (at s.sockets w)) (drop 1 items)
unfolding close_all
close_next s [] w e = absurd cc
close_next s (x ∷ xs) w e = let k : x ≡ w = cc in ap (λ (n : ℕ). close_all (without_socket s n (at s.sockets n)) xs) k

pub close_done : (s : Sockets) (items : List ℕ) → slice_get items 0 ≡ None → close_all s items ≡ s
unfolding close_all
close_done s [] e = refl
close_done s (x ∷ xs) e = absurd cc

pub close_first : (s : Sockets) (i : ℕ) (x : Socket) → Some x ≡ at s.sockets i → close s i ≡ close_all (without_socket s i (Some x)) x.queue
unfolding close_all
close_first s i x h = ap (λ (o : Option Socket). close_all (without_socket s i o) (socket_in o).queue) (sym h)

-- a close by its steps
pub close_is : (s : Sockets) (ss : List (Option Socket)) (cs : List (Option Channel)) (new : Sockets) (i : ℕ) (x : Socket) (queue : List ℕ) → Some x ≡ at s.sockets i → ss ≡ set s.sockets i None
    → cs ≡ left_channels s.channels x.kind x.reads x.writes → queue ≡ x.queue → new ≡ close_all (record { sockets = ss; channels = cs }) queue → new ≡ close s i
close_is s ss cs new i x queue h es ec eq e = (rw (es, ec, eq) at e) ∙ sym (close_first s i x h)

pub ruleset close_rules = (close_next, close_done)
