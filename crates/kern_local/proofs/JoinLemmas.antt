-- Sockets that come, and that are connected, keep all sound.
use Rattle.std.proofs.Common.{◌≡◌, ℕ, ◌+◌, ◌≤◌, List, [], ◌∷◌, ◌++◌, length, length-append, Option, None, Some, IsSome, refl, ap, sym, ◌∙◌, subst, arith}
use Rattle.std.proofs.Math.ListN.{set}
use Rattle.sp_base.specs.Table.{at}
use Rattle.socket_model.specs.declared.address.Family.{Family}
use Rattle.socket_model.specs.declared.address.SockKind.{SockKind}
use Rattle.socket_model.specs.declared.address.SockKind.TheVariants.{Stream, Datagram}
use Rattle.socket_model.specs.Channel.{Channel, Bytes, Letters, IsLetters, fresh_track, with_bytes, with_letters}
use Rattle.socket_model.specs.Socket.{Socket, new_socket, socket_in}
use Rattle.socket_model.specs.Sound.{IsOpenToRead, IsOpenToWrite, WritesTo, Ends, IsLinked, LinkedAt, ends_in, ends_at, reads_of, stream_writes, writes_of, IsSound}
use Rattle.socket_model.specs.Calls.{new_channel, two_channels}
use Rattle.kern_local.specs.Keeps.{Keeps}
use Rattle.kern_local.proofs.TableLemmas.{at_more, at_end, at_set_keeps}
use Rattle.kern_local.proofs.SoundLemmas.{keeps_more, keeps_then, sound_kept, Moves, IsFree, IsNew, free_new, free_own, sound_moved, new_moved, new_ends, moves_added, moves_set, live, sound_set, sound_added}

-- a new stream came
pub sound_stream : (ss ts us : List (Option Socket)) (cs : List (Option Channel)) (x : Socket) (family : Family) → ts ≡ ss → us ≡ ts ++ Some x ∷ [] → x ≡ new_socket family Stream
    → IsSound (ends_at ss) cs → IsSound (ends_at us) cs
sound_stream ss ts us cs x family et eu ex h = rw (eu, et, ex) (sound_added ss cs (new_socket family Stream) refl refl h)

-- a number from an end on
from_end : (n c : ℕ) → Some n ≡ Some c → n ≤ c
from_end n c e = let s : n ≡ c = cc in omega (arith, s)

after_end : (n c : ℕ) → Some (n + 1) ≡ Some c → n ≤ c
after_end n c e = let s : n + 1 ≡ c = cc in omega (arith, s)

two_apart : (n c : ℕ) → Some n ≡ Some c → Some (n + 1) ≡ Some c → ⊥
two_apart n c e f = let s : n ≡ c = cc in let t : n + 1 ≡ c = cc in absurd (omega (arith, s, t))

-- a new datagram socket came
pub sound_datagram : (ss ts us : List (Option Socket)) (cs ds : List (Option Channel)) (x y : Socket) (c : ℕ) (family : Family) → ts ≡ ss → us ≡ ts ++ Some y ∷ []
    → y ≡ record x { reads = Some c; writes = None } → x ≡ new_socket family Datagram → c ≡ length cs → ds ≡ with_letters cs
    → IsSound (ends_at ss) cs → IsSound (ends_at us) ds
sound_datagram ss ts us cs ds x y c family et eu ey ex ec ed h =
    let new : Socket = record (new_socket family Datagram) { reads = Some (length cs) } in
    let fresh : IsNew (ends_at ss) (ends_in (Some new)) = new_ends (ends_at ss) cs (ends_in (Some new)) h (λ c p. from_end (length cs) c p) (λ c p. absurd (let k : None ≡ Some c = p in cc)) in
    let all : IsSound (ends_at (ss ++ Some new ∷ [])) (with_letters cs) =
    sound_moved (ends_at ss) (ends_at (ss ++ Some new ∷ [])) (with_letters cs) (length ss) (ends_in (Some new)) (moves_added ss new)
    (record { reads = subst (λ (o : Option Channel). IsLetters o) (sym (at_end cs (Some (Letters fresh_track)))) tt; writes = tt })
    (free_new (ends_at ss) (length ss) (ends_in (Some new)) fresh) (sound_kept (ends_at ss) cs (with_letters cs) (keeps_more cs (Some (Letters fresh_track) ∷ [])) h) in
    rw (eu, et, ey, ex, ec, ed) all

-- two new channels of bytes
first_bytes : (cs : List (Option Channel)) → at (with_bytes (with_bytes cs)) (length cs) ≡ Some (Bytes fresh_track)
first_bytes cs =
    let here : at (with_bytes cs) (length cs) ≡ Some (Bytes fresh_track) = at_end cs (Some (Bytes fresh_track)) in
    at_more (with_bytes cs) (Some (Bytes fresh_track) ∷ []) (length cs) (live _ _ here) ∙ here

second_bytes : (cs : List (Option Channel)) → at (with_bytes (with_bytes cs)) (length cs + 1) ≡ Some (Bytes fresh_track)
second_bytes cs =
    let long : length (with_bytes cs) ≡ length cs + 1 = omega (arith, length-append cs (Some (Bytes fresh_track) ∷ [])) in
    subst (λ (n : ℕ). at (with_bytes (with_bytes cs)) n ≡ Some (Bytes fresh_track)) long (at_end (with_bytes cs) (Some (Bytes fresh_track)))

keeps_two : (cs : List (Option Channel)) → Keeps cs (with_bytes (with_bytes cs))
keeps_two cs = keeps_then cs (with_bytes cs) (with_bytes (with_bytes cs)) (keeps_more cs (Some (Bytes fresh_track) ∷ [])) (keeps_more (with_bytes cs) (Some (Bytes fresh_track) ∷ []))

linked_two : (ds : List (Option Channel)) (c d : ℕ) → at ds c ≡ Some (Bytes fresh_track) → at ds d ≡ Some (Bytes fresh_track) → IsLinked ds (record { kind = Stream; reads = Some c; writes = Some d })
linked_two ds c d ec ed = record {
  reads = subst (λ (o : Option Channel). IsOpenToRead o) (sym ec) refl;
  writes = subst (λ (o : Option Channel). IsOpenToWrite o) (sym ed) refl;
}

-- a stream was connected: the socket that waits came, the listener's queue grew, and the stream has its ends
pub sound_connected : (ss : List (Option Socket)) (cs : List (Option Channel)) (i j : ℕ) (x y a y₂ x₂ : Socket)
    → ends_in (Some a) ≡ Some (record { kind = Stream; reads = Some (length cs); writes = Some (length cs + 1) })
    → ends_in (Some x₂) ≡ Some (record { kind = Stream; reads = Some (length cs + 1); writes = Some (length cs) })
    → ends_in (Some y₂) ≡ ends_in (Some y)
    → at (ss ++ Some a ∷ []) j ≡ Some y → at (set (ss ++ Some a ∷ []) j (Some y₂)) i ≡ Some x
    → IsSound (ends_at ss) cs → IsSound (ends_at (set (set (ss ++ Some a ∷ []) j (Some y₂)) i (Some x₂))) (with_bytes (with_bytes cs))
sound_connected ss cs i j x y a y₂ x₂ ea ex ey hj hi h =
    let c = length cs in
    let ds = with_bytes (with_bytes cs) in
    let ts = ss ++ Some a ∷ [] in
    let us = set ts j (Some y₂) in
    let A : Option Ends = Some (record { kind = Stream; reads = Some c; writes = Some (c + 1) }) in
    let X : Option Ends = Some (record { kind = Stream; reads = Some (c + 1); writes = Some c }) in
    let newA : IsNew (ends_at ss) A = new_ends (ends_at ss) cs A h (λ n p. from_end c n p) (λ n p. after_end c n p) in
    let newX : IsNew (ends_at ss) X = new_ends (ends_at ss) cs X h (λ n p. after_end c n p) (λ n p. from_end c n p) in
    let moved : Moves (ends_at ss) (ends_at ts) (length ss) A = subst (Moves (ends_at ss) (ends_at ts) (length ss)) ea (moves_added ss a) in
    let one : IsSound (ends_at ts) ds = sound_moved (ends_at ss) (ends_at ts) ds (length ss) A moved (linked_two ds c (c + 1) (first_bytes cs) (second_bytes cs)) (free_new (ends_at ss) (length ss) A newA) (sound_kept (ends_at ss) cs ds (keeps_two cs) h) in
    let two : IsSound (ends_at us) ds = sound_set ts ds j y y₂ hj ey one in
    let newX₁ : IsNew (ends_at ts) X = new_moved (ends_at ss) (ends_at ts) (length ss) A X moved (λ n p q. two_apart c n q p) (λ n p q. two_apart c n p q) newX in
    let own : ends_at ts j ≡ ends_in (Some y₂) = ap ends_in hj ∙ sym ey in
    let newX₂ : IsNew (ends_at us) X = new_moved (ends_at ts) (ends_at us) j (ends_in (Some y₂)) X (moves_set ts j (Some y₂) (live _ _ hj))
    (λ n p q. newX₁.reads j n p (ap reads_of own ∙ q)) (λ n p q. newX₁.writes j n p (ap writes_of own ∙ q)) newX₁ in
    sound_moved (ends_at us) (ends_at (set us i (Some x₂))) ds i X (subst (Moves (ends_at us) (ends_at (set us i (Some x₂))) i) ex (moves_set us i (Some x₂) (live _ _ hi)))
    (linked_two ds (c + 1) c (second_bytes cs) (first_bytes cs)) (free_new (ends_at us) i X newX₂) two

-- a datagram socket writes elsewhere
pub sound_writes : (ss : List (Option Socket)) (cs : List (Option Channel)) (i : ℕ) (x y : Socket) → at ss i ≡ Some x → x.kind ≡ Datagram → y.kind ≡ Datagram → y.reads ≡ x.reads
    → IsSound (ends_at ss) cs → IsSound (ends_at (set ss i (Some y))) cs
sound_writes ss cs i x y h k l r sound =
    let linked : IsLinked cs (record { kind = x.kind; reads = x.reads; writes = x.writes }) = subst (LinkedAt cs) (ap ends_in h) (sound.linked i) in
    let own : IsFree (ends_at ss) i (ends_in (Some x)) = subst (IsFree (ends_at ss) i) (ap ends_in h) (free_own (ends_at ss) cs i sound) in
    sound_moved (ends_at ss) (ends_at (set ss i (Some y))) cs i (ends_in (Some y)) (moves_set ss i (Some y) (live _ _ h))
    (record { reads = rw (l, r, ← k) linked.reads; writes = rw l (any y.writes) })
    (record {
      reads = λ j c ne p q. own.reads j c ne (sym r ∙ p) q;
      writes = λ j c ne p q. none y.kind y.writes c l p;
    }) sound
  where
    any : (w : Option ℕ) → WritesTo cs Datagram w
    any None = tt
    any (Some c) = tt

    none : (kind : SockKind) (w : Option ℕ) (c : ℕ) → kind ≡ Datagram → stream_writes kind w ≡ Some c → ⊥
    none Stream w c e p = absurd cc
    none Datagram w c e p = absurd cc

-- the kind of a socket
pub kind_here : (ss : List (Option Socket)) (i : ℕ) (x : Socket) (k : SockKind) → at ss i ≡ Some x → (socket_in (at ss i)).kind ≡ k → x.kind ≡ k
kind_here ss i x k h e = sym (ap (λ (o : Option Socket). (socket_in o).kind) h) ∙ e

-- the same by what each step gives
pub sound_connected_at : (ss ts us : List (Option Socket)) (cs ds : List (Option Channel)) (i j : ℕ) (x y a y₂ x₂ : Socket) (c d : ℕ) {k : SockKind}
    → ts ≡ ss → us ≡ ts ++ Some a ∷ [] → ds ≡ with_bytes (with_bytes cs) → c ≡ length cs → d ≡ length cs + 1
    → ends_in (Some a) ≡ Some (record { kind = k; reads = Some c; writes = Some d }) → k ≡ Stream
    → ends_in (Some y₂) ≡ ends_in (Some y) → ends_in (Some x₂) ≡ Some (record { kind = x.kind; reads = Some d; writes = Some c })
    → IsSome (at ss i) → (socket_in (at ss i)).kind ≡ Stream
    → at us j ≡ Some y → at (set us j (Some y₂)) i ≡ Some x
    → IsSound (ends_at ss) cs → IsSound (ends_at (set (set us j (Some y₂)) i (Some x₂))) ds
sound_connected_at ss ts us cs ds i j x y a y₂ x₂ c d {k} et eu ed ec edd ea ek ey ex live₀ kind hj hi h =
    let ux : us ≡ ss ++ Some a ∷ [] = rw (eu, et) refl in
    let kindU : (socket_in (at us i)).kind ≡ Stream = rw (ux, at_more ss (Some a ∷ []) i live₀) kind in
    let kindY : y₂.kind ≡ y.kind = ap kind_of ey in
    let kindX : (socket_in (at (set us j (Some y₂)) i)).kind ≡ Stream =
    at_set_keeps (λ o. (socket_in o).kind ≡ Stream) us j (Some y₂) i
    (λ e. kindY ∙ (sym (ap (λ (o : Option Socket). (socket_in o).kind) hj) ∙ (ap (λ (n : ℕ). (socket_in (at us n)).kind) e ∙ kindU))) kindU in
    let xs : x.kind ≡ Stream = kind_here (set us j (Some y₂)) i x Stream hi kindX in
    let ea₂ : ends_in (Some a) ≡ Some (record { kind = Stream; reads = Some (length cs); writes = Some (length cs + 1) }) = rw (← edd, ← ec, ← ek) ea in
    let ex₂ : ends_in (Some x₂) ≡ Some (record { kind = Stream; reads = Some (length cs + 1); writes = Some (length cs) }) = rw (← edd, ← ec, ← xs) ex in
    let hj₂ = subst (λ (t : List (Option Socket)). at t j ≡ Some y) ux hj in
    let hi₂ = subst (λ (t : List (Option Socket)). at (set t j (Some y₂)) i ≡ Some x) ux hi in
    rw (ux, ed) (sound_connected ss cs i j x y a y₂ x₂ ea₂ ex₂ ey hj₂ hi₂ h)
  where
    kind_of : Option Ends → SockKind
    kind_of None = Stream
    kind_of (Some e) = e.kind

-- ---- pairs

first_new : (cs : List (Option Channel)) (k : SockKind) → at (two_channels k cs) (length cs) ≡ Some (new_channel k)
first_new cs k =
    let here : at (cs ++ Some (new_channel k) ∷ []) (length cs) ≡ Some (new_channel k) = at_end cs (Some (new_channel k)) in
    at_more (cs ++ Some (new_channel k) ∷ []) (Some (new_channel k) ∷ []) (length cs) (live _ _ here) ∙ here

second_new : (cs : List (Option Channel)) (k : SockKind) → at (two_channels k cs) (length cs + 1) ≡ Some (new_channel k)
second_new cs k =
    let long : length (cs ++ Some (new_channel k) ∷ []) ≡ length cs + 1 = omega (arith, length-append cs (Some (new_channel k) ∷ [])) in
    subst (λ (n : ℕ). at (two_channels k cs) n ≡ Some (new_channel k)) long (at_end (cs ++ Some (new_channel k) ∷ []) (Some (new_channel k)))

keeps_pair : (cs : List (Option Channel)) (k : SockKind) → Keeps cs (two_channels k cs)
keeps_pair cs k = keeps_then cs (cs ++ Some (new_channel k) ∷ []) (two_channels k cs) (keeps_more cs (Some (new_channel k) ∷ [])) (keeps_more (cs ++ Some (new_channel k) ∷ []) (Some (new_channel k) ∷ []))

linked_pair : (ds : List (Option Channel)) (k : SockKind) (c d : ℕ) → at ds c ≡ Some (new_channel k) → at ds d ≡ Some (new_channel k) → IsLinked ds (record { kind = k; reads = Some c; writes = Some d })
linked_pair ds Stream c d ec ed = linked_two ds c d ec ed
linked_pair ds Datagram c d ec ed = record { reads = subst (λ (o : Option Channel). IsLetters o) (sym ec) tt; writes = tt }

writes_is : (k : SockKind) (w n : ℕ) → stream_writes k (Some w) ≡ Some n → w ≡ n
writes_is Stream w n e = cc
writes_is Datagram w n e = absurd cc

-- two sockets came that are connected to each other
pub sound_pair : (ss : List (Option Socket)) (cs : List (Option Channel)) (k : SockKind) (a b : Socket)
    → ends_in (Some a) ≡ Some (record { kind = k; reads = Some (length cs); writes = Some (length cs + 1) })
    → ends_in (Some b) ≡ Some (record { kind = k; reads = Some (length cs + 1); writes = Some (length cs) })
    → IsSound (ends_at ss) cs → IsSound (ends_at ((ss ++ Some a ∷ []) ++ Some b ∷ [])) (two_channels k cs)
sound_pair ss cs k a b ea eb h =
    let c = length cs in
    let ds = two_channels k cs in
    let ts = ss ++ Some a ∷ [] in
    let A : Option Ends = Some (record { kind = k; reads = Some c; writes = Some (c + 1) }) in
    let B : Option Ends = Some (record { kind = k; reads = Some (c + 1); writes = Some c }) in
    let newA : IsNew (ends_at ss) A = new_ends (ends_at ss) cs A h (λ n p. from_end c n p) (λ n p. let e = writes_is k (c + 1) n p in omega (arith, e)) in
    let newB : IsNew (ends_at ss) B = new_ends (ends_at ss) cs B h (λ n p. after_end c n p) (λ n p. let e = writes_is k c n p in omega (arith, e)) in
    let moved : Moves (ends_at ss) (ends_at ts) (length ss) A = subst (Moves (ends_at ss) (ends_at ts) (length ss)) ea (moves_added ss a) in
    let one : IsSound (ends_at ts) ds = sound_moved (ends_at ss) (ends_at ts) ds (length ss) A moved (linked_pair ds k c (c + 1) (first_new cs k) (second_new cs k)) (free_new (ends_at ss) (length ss) A newA) (sound_kept (ends_at ss) cs ds (keeps_pair cs k) h) in
    let newB₁ : IsNew (ends_at ts) B = new_moved (ends_at ss) (ends_at ts) (length ss) A B moved (λ n p q. two_apart c n q p)
    (λ n p q. let e = writes_is k c n p in let f = writes_is k (c + 1) n q in absurd (omega (arith, e, f))) newB in
    sound_moved (ends_at ts) (ends_at (ts ++ Some b ∷ [])) ds (length ts) B (subst (Moves (ends_at ts) (ends_at (ts ++ Some b ∷ [])) (length ts)) eb (moves_added ts b))
    (linked_pair ds k (c + 1) c (second_new cs k) (first_new cs k)) (free_new (ends_at ts) (length ts) B newB₁) one

-- the same by what each step gives
pub sound_pair_at : (ss ts us vs : List (Option Socket)) (cs ds : List (Option Channel)) (k : SockKind) (a b : Socket) (c d : ℕ) {l m : SockKind}
    → ts ≡ ss → us ≡ ts ++ Some a ∷ [] → vs ≡ us ++ Some b ∷ [] → ds ≡ two_channels k cs → c ≡ length cs → d ≡ length cs + 1
    → ends_in (Some a) ≡ Some (record { kind = l; reads = Some c; writes = Some d }) → l ≡ k
    → ends_in (Some b) ≡ Some (record { kind = m; reads = Some d; writes = Some c }) → m ≡ k
    → IsSound (ends_at ss) cs → IsSound (ends_at vs) ds
sound_pair_at ss ts us vs cs ds k a b c d et eu ev ed ec edd ea ek eb em h =
    let ea₂ : ends_in (Some a) ≡ Some (record { kind = k; reads = Some (length cs); writes = Some (length cs + 1) }) = rw (← edd, ← ec, ← ek) ea in
    let eb₂ : ends_in (Some b) ≡ Some (record { kind = k; reads = Some (length cs + 1); writes = Some (length cs) }) = rw (← edd, ← ec, ← em) eb in
    rw (ev, eu, et, ed) (sound_pair ss cs k a b ea₂ eb₂ h)
