-- Calls wait exactly where their rulings say so.
use Rattle.std.proofs.Common.{◌≡◌, ◌≢◌, ℕ, zero, suc, Bool, true, false, List, [], ◌∷◌, Option, None, Some, refl, sym, ap, subst, ◌∙◌, arith, length, take}
use Rattle.std.specs.Prelude.{◌↔◌, ◌==◌, if◌then◌else◌}
use Rattle.sp_base.specs.Table.{at}
use Rattle.sp_base.specs.declared.errno.Errno.{Errno}
use Rattle.socket_model.specs.declared.address.SockKind.{SockKind}
use Rattle.socket_model.specs.declared.address.SockKind.TheVariants.{Stream, Datagram}
use Rattle.socket_model.specs.declared.letter.Letter.{Letter}
use Rattle.socket_model.specs.declared.ruling.Ruling.{Ruling}
use Rattle.socket_model.specs.declared.ruling.Ruling.TheVariants.{Refused, Waits, Goes}
use Rattle.socket_model.specs.Channel.{held, letters_in}
use Rattle.socket_model.specs.Rulings.{fetch_ruling}
use Rattle.socket_model.specs.Socket.{Socket, Sockets, socket_of, is_stream}
use Rattle.socket_model.specs.SocketRulings.{send_ruling, letter_channel, receive_ruling, letters_ruling, accept_ruling}
use Rattle.socket_model.specs.Does.{Does, Fails, Waiting, Answers, by_ruling}
use Rattle.socket_model.specs.Calls.{send, sent, sent_bytes, sent_letter, receive, received, received_bytes, received_letter, fetched, accept, accepted}

module _ {X : Type 0} where
  -- a call waits where its ruling says so, if it doesn't wait where the ruling lets it go
  by : (r : Ruling) (go : ℕ → Does X) → ((n : ℕ) → r ≡ Goes n → go n ≡ Waiting → ⊥) → (by_ruling r go ≡ Waiting) ↔ (r ≡ Waits)
  by (Refused e) go never = (λ k. absurd (let j : Fails e ≡ Waiting = k in cc), λ k. absurd (let j : Refused e ≡ Waits = k in cc))
  by Waits go never = (λ k. refl, λ k. refl)
  by (Goes n) go never = (λ k. absurd (never n refl k), λ k. absurd (let j : Goes n ≡ Waits = k in cc))

answers : {X : Type 0} (x : X) (s : Sockets) → Answers x s ≡ Waiting → ⊥
answers x s e = cc

sent_goes : (s : Sockets) (x : Socket) (kind : SockKind) (to : Option ℕ) (bytes : List ℕ) (n : ℕ) → sent s x kind to bytes n ≡ Waiting → ⊥
sent_goes s x Stream to bytes n e = by_link x.writes e
  where
    by_link : (o : Option ℕ) → sent_bytes s o bytes n ≡ Waiting → ⊥
    by_link None k = answers n _ k
    by_link (Some c) k = answers n _ k
sent_goes s x Datagram to bytes n e = by_link (letter_channel s.sockets x to) e
  where
    by_link : (o : Option ℕ) → sent_letter s o (record { sender = x.address; bytes = bytes }) n ≡ Waiting → ⊥
    by_link None k = answers n _ k
    by_link (Some c) k = answers n _ k

-- a send waits exactly where its ruling says so
pub send_waits_where : (s : Sockets) (i : ℕ) (bytes : List ℕ) (to : Option ℕ) (may_wait : Bool)
    → (send s i bytes to may_wait ≡ Waiting) ↔ (send_ruling s (socket_of s i) to may_wait (length bytes) ≡ Waits)
send_waits_where s i bytes to may_wait = by _ _ (λ n g e. sent_goes s (socket_of s i) (socket_of s i).kind to bytes n e)

accepted_goes : (s : Sockets) (i : ℕ) (x : Socket) (queue : List ℕ) → (length queue ≡ 0 → ⊥) → accepted s i x queue ≡ Waiting → ⊥
accepted_goes s i x [] some e = some refl
accepted_goes s i x (j ∷ queue) some e = answers j _ e

queued : (x : Socket) (n : ℕ) → accept_ruling x ≡ Goes n → length x.queue ≡ 0 → ⊥
unfolding accept_ruling
queued x n g none = grind (arith, g, none)

-- an accept waits exactly where its ruling says so
pub accept_waits_where : (s : Sockets) (i : ℕ) → (accept s i ≡ Waiting) ↔ (accept_ruling (socket_of s i) ≡ Waits)
accept_waits_where s i = by _ _ (λ n g e. accepted_goes s i (socket_of s i) (socket_of s i).queue (queued (socket_of s i) n g) e)

fetched_goes : (s : Sockets) (c most : ℕ) (letters : List Letter) → (length letters ≡ 0 → ⊥) → fetched s c most (take 1 letters) ≡ Waiting → ⊥
fetched_goes s c most [] some e = some refl
fetched_goes s c most (letter ∷ letters) some e = answers _ _ e

fetches : (count n : ℕ) → fetch_ruling count ≡ Goes n → count ≡ 0 → ⊥
unfolding fetch_ruling
fetches count n g none = grind (arith, g, none)

received_goes : (s : Sockets) (x : Socket) (kind : SockKind) (most n : ℕ) → x.kind ≡ kind → receive_ruling s.channels x most ≡ Goes n → received s x kind most n ≡ Waiting → ⊥
received_goes s x Stream most n k g e = by_link x.reads e
  where
    by_link : (o : Option ℕ) → received_bytes s o n ≡ Waiting → ⊥
    by_link None k = answers _ _ k
    by_link (Some c) k = answers _ _ k
received_goes s x Datagram most n k g e = by_link x.reads (rw k at g) e
  where
    by_link : (o : Option ℕ) → letters_ruling s.channels o ≡ Goes n → received_letter s o most ≡ Waiting → ⊥
    by_link None g k = answers _ _ k
    by_link (Some c) g k = fetched_goes s c most (held (letters_in (at s.channels c))) (fetches _ n g) k

-- a receive waits exactly where its ruling says so
pub receive_waits_where : (s : Sockets) (i most : ℕ) → (receive s i most ≡ Waiting) ↔ (receive_ruling s.channels (socket_of s i) most ≡ Waits)
receive_waits_where s i most = by _ _ (λ n g e. received_goes s (socket_of s i) (socket_of s i).kind most n refl g e)
