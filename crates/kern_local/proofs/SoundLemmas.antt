-- What changes keep sockets sound.
use Rattle.std.proofs.Common.{◌≡◌, ◌≢◌, ℕ, ◌<◌, ◌≤◌, List, [], ◌∷◌, ◌++◌, length, Option, None, Some, IsSome, false, refl, ap, sym, ◌∙◌, subst, arith, ⊎_elim}
use Rattle.std.proofs.Math.ListN.{set}
use Rattle.std.proofs.lemmas.Bool.{cases_eq}
use Rattle.sp_base.specs.Table.{at}
use Rattle.socket_model.specs.declared.address.SockKind.{SockKind}
use Rattle.socket_model.specs.declared.address.SockKind.TheVariants.{Stream, Datagram}
use Rattle.socket_model.specs.declared.letter.Letter.{Letter}
use Rattle.socket_model.specs.declared.ruling.How.TheVariants.{Reading, Writing, Both}
use Rattle.socket_model.specs.Channel.{Track, Channel, Bytes, Letters, IsBytes, IsLetters, bytes_in, set_bytes, set_letters, shut_end, shut_channel, while_open}
use Rattle.socket_model.specs.Sound.{IsOpenToRead, IsOpenToWrite, ReadsFrom, WritesTo, Ends, LinkedAt, ends_in, ends_at, reads_of, stream_writes, writes_of, IsSound}
use Rattle.socket_model.specs.Socket.{Socket}
use Rattle.kern_local.specs.Keeps.{Keeps}
use Rattle.kern_local.proofs.TableLemmas.{at_set_keeps, at_set_here, at_set_other, at_more, at_end, at_before, below_end}

pub keeps_same : (cs : List (Option Channel)) → Keeps cs cs
keeps_same cs = record { reads = λ c h. h; writes = λ c h. h; letters = λ c h. h }

pub keeps_then : (cs ds es : List (Option Channel)) → Keeps cs ds → Keeps ds es → Keeps cs es
keeps_then cs ds es f g = record { reads = λ c h. g.reads c (f.reads c h); writes = λ c h. g.writes c (f.writes c h); letters = λ c h. g.letters c (f.letters c h) }

read_bytes : (o : Option Channel) → IsOpenToRead o → (bytes_in o).reading_shut ≡ false
read_bytes None h = absurd h
read_bytes (Some (Bytes t)) h = h
read_bytes (Some (Letters t)) h = absurd h

write_bytes : (o : Option Channel) → IsOpenToWrite o → (bytes_in o).writing_shut ≡ false
write_bytes None h = absurd h
write_bytes (Some (Bytes t)) h = h
write_bytes (Some (Letters t)) h = absurd h

not_both : (o : Option Channel) → IsBytes o → IsLetters o → ⊥
not_both None b l = b
not_both (Some (Bytes t)) b l = l
not_both (Some (Letters t)) b l = b

pub read_is_bytes : (o : Option Channel) → IsOpenToRead o → IsBytes o
read_is_bytes None h = absurd h
read_is_bytes (Some (Bytes t)) h = tt
read_is_bytes (Some (Letters t)) h = absurd h

pub write_is_bytes : (o : Option Channel) → IsOpenToWrite o → IsBytes o
write_is_bytes None h = absurd h
write_is_bytes (Some (Bytes t)) h = tt
write_is_bytes (Some (Letters t)) h = absurd h

pub is_some_bytes : (o : Option Channel) → IsBytes o → IsSome o
is_some_bytes None h = absurd h
is_some_bytes (Some x) h = refl

is_some_letters : (o : Option Channel) → IsLetters o → IsSome o
is_some_letters None h = absurd h
is_some_letters (Some x) h = refl

here : (P : Option Channel → Type 0) (cs : List (Option Channel)) (c d : ℕ) → c ≡ d → P (at cs d) → P (at cs c)
here P cs c d e h = subst (λ (i : ℕ). P (at cs i)) (sym e) h

-- bytes were put or taken
pub keeps_bytes : (cs : List (Option Channel)) (c : ℕ) (t : Track ℕ) → IsBytes (at cs c) → t.reading_shut ≡ (bytes_in (at cs c)).reading_shut → t.writing_shut ≡ (bytes_in (at cs c)).writing_shut → Keeps cs (set_bytes cs c t)
keeps_bytes cs c t b r w = record {
  reads = λ d h. at_set_keeps IsOpenToRead cs c (Some (Bytes t)) d (λ e. r ∙ read_bytes (at cs c) (here IsOpenToRead cs c d e h)) h;
  writes = λ d h. at_set_keeps IsOpenToWrite cs c (Some (Bytes t)) d (λ e. w ∙ write_bytes (at cs c) (here IsOpenToWrite cs c d e h)) h;
  letters = λ d h. at_set_keeps IsLetters cs c (Some (Bytes t)) d (λ e. absurd (not_both (at cs c) b (here IsLetters cs c d e h))) h;
}

-- letters were put or taken
pub keeps_letters : (cs : List (Option Channel)) (c : ℕ) (t : Track Letter) → IsLetters (at cs c) → Keeps cs (set_letters cs c t)
keeps_letters cs c t l = record {
  reads = λ d h. at_set_keeps IsOpenToRead cs c (Some (Letters t)) d (λ e. absurd (not_both (at cs c) (read_is_bytes _ (here IsOpenToRead cs c d e h)) l)) h;
  writes = λ d h. at_set_keeps IsOpenToWrite cs c (Some (Letters t)) d (λ e. absurd (not_both (at cs c) (write_is_bytes _ (here IsOpenToWrite cs c d e h)) l)) h;
  letters = λ d h. at_set_keeps IsLetters cs c (Some (Letters t)) d (λ e. tt) h;
}

-- there are more channels
pub keeps_more : (cs more : List (Option Channel)) → Keeps cs (cs ++ more)
keeps_more cs more = record {
  reads = λ c h. subst IsOpenToRead (sym (at_more cs more c (is_some_bytes _ (read_is_bytes _ h)))) h;
  writes = λ c h. subst IsOpenToWrite (sym (at_more cs more c (is_some_bytes _ (write_is_bytes _ h)))) h;
  letters = λ c h. subst IsLetters (sym (at_more cs more c (is_some_letters _ h))) h;
}

pub ruleset keeps = (keeps_same, keeps_bytes, keeps_letters, keeps_more)

reads_kept : (cs ds : List (Option Channel)) → Keeps cs ds → (k : SockKind) (o : Option ℕ) → ReadsFrom cs k o → ReadsFrom ds k o
reads_kept cs ds f k None h = tt
reads_kept cs ds f Stream (Some c) h = f.reads c h
reads_kept cs ds f Datagram (Some c) h = f.letters c h

writes_kept : (cs ds : List (Option Channel)) → Keeps cs ds → (k : SockKind) (o : Option ℕ) → WritesTo cs k o → WritesTo ds k o
writes_kept cs ds f k None h = tt
writes_kept cs ds f Stream (Some c) h = f.writes c h
writes_kept cs ds f Datagram (Some c) h = tt

linked_kept : (cs ds : List (Option Channel)) → Keeps cs ds → (o : Option Ends) → LinkedAt cs o → LinkedAt ds o
linked_kept cs ds f None h = tt
linked_kept cs ds f (Some e) h = record { reads = reads_kept cs ds f e.kind e.reads h.reads; writes = writes_kept cs ds f e.kind e.writes h.writes }

-- sockets stay sound where open ends and letters stay
pub sound_kept : (e : ℕ → Option Ends) (cs ds : List (Option Channel)) → Keeps cs ds → IsSound e cs → IsSound e ds
sound_kept e cs ds f h = record { linked = λ i. linked_kept cs ds f (e i) (h.linked i); one_reader = h.one_reader; one_writer = h.one_writer }

-- the ends of one socket are others
pub record Moves (old new : ℕ → Option Ends) (i : ℕ) (ends : Option Ends) : Type 0 where
  pub here : new i ≡ ends
  pub others : (j : ℕ) → j ≢ i → new j ≡ old j

-- no other socket has an end
pub record IsFree (e : ℕ → Option Ends) (i : ℕ) (ends : Option Ends) : Type 0 where
  pub reads : (j c : ℕ) → j ≢ i → reads_of ends ≡ Some c → reads_of (e j) ≡ Some c → ⊥
  pub writes : (j c : ℕ) → j ≢ i → writes_of ends ≡ Some c → writes_of (e j) ≡ Some c → ⊥

-- no socket has an end
pub record IsNew (e : ℕ → Option Ends) (ends : Option Ends) : Type 0 where
  pub reads : (j c : ℕ) → reads_of ends ≡ Some c → reads_of (e j) ≡ Some c → ⊥
  pub writes : (j c : ℕ) → writes_of ends ≡ Some c → writes_of (e j) ≡ Some c → ⊥

pub free_new : (e : ℕ → Option Ends) (i : ℕ) (ends : Option Ends) → IsNew e ends → IsFree e i ends
free_new e i ends h = record { reads = λ j c ne. h.reads j c; writes = λ j c ne. h.writes j c }

-- nobody has the ends of no socket
pub free_none : (e : ℕ → Option Ends) (i : ℕ) → IsFree e i None
free_none e i = record {
  reads = λ j c ne p q. absurd (let k : None ≡ Some c = p in cc);
  writes = λ j c ne p q. absurd (let k : None ≡ Some c = p in cc);
}

-- what is one's only
one_only : (f : Option Ends → Option ℕ) (old new : ℕ → Option Ends) (i : ℕ) (ends : Option Ends) → Moves old new i ends
    → ((j c : ℕ) → j ≢ i → f ends ≡ Some c → f (old j) ≡ Some c → ⊥)
    → ((j k c : ℕ) → f (old j) ≡ Some c → f (old k) ≡ Some c → j ≡ k)
    → (j k c : ℕ) → f (new j) ≡ Some c → f (new k) ≡ Some c → j ≡ k
one_only f old new i ends moves free one j k c p q =
    ⊎_elim
    (λ ji. ⊎_elim
    (λ ki. ji ∙ sym ki)
    (λ ki. absurd (free k c ki (sym (ap f (ap new ji ∙ moves.here)) ∙ p) (sym (ap f (moves.others k ki)) ∙ q)))
    (cases_eq k i))
    (λ ji. ⊎_elim
    (λ ki. absurd (free j c ji (sym (ap f (ap new ki ∙ moves.here)) ∙ q) (sym (ap f (moves.others j ji)) ∙ p)))
    (λ ki. one j k c (sym (ap f (moves.others j ji)) ∙ p) (sym (ap f (moves.others k ki)) ∙ q))
    (cases_eq k i))
    (cases_eq j i)

-- sockets stay sound where one's ends are others, which are there and which no other socket has
pub sound_moved : (old new : ℕ → Option Ends) (cs : List (Option Channel)) (i : ℕ) (ends : Option Ends) → Moves old new i ends → LinkedAt cs ends → IsFree old i ends → IsSound old cs → IsSound new cs
sound_moved old new cs i ends moves linked free h = record {
  linked = λ j. ⊎_elim
      (λ e. subst (LinkedAt cs) (sym (ap new e ∙ moves.here)) linked)
      (λ ne. subst (LinkedAt cs) (sym (moves.others j ne)) (h.linked j))
      (cases_eq j i);
  one_reader = one_only reads_of old new i ends moves free.reads h.one_reader;
  one_writer = one_only writes_of old new i ends moves free.writes h.one_writer;
}

-- a socket's own ends
pub free_own : (e : ℕ → Option Ends) (cs : List (Option Channel)) (i : ℕ) → IsSound e cs → IsFree e i (e i)
free_own e cs i h = record {
  reads = λ j c ne p q. ne (h.one_reader j i c q p);
  writes = λ j c ne p q. ne (h.one_writer j i c q p);
}

-- another socket's ends are others
pub new_moved : (old new : ℕ → Option Ends) (i : ℕ) (moved ends : Option Ends) → Moves old new i moved
    → ((c : ℕ) → reads_of ends ≡ Some c → reads_of moved ≡ Some c → ⊥) → ((c : ℕ) → writes_of ends ≡ Some c → writes_of moved ≡ Some c → ⊥)
    → IsNew old ends → IsNew new ends
new_moved old new i moved ends moves r w h = record {
  reads = λ j c p q. ⊎_elim
      (λ e. r c p (sym (ap reads_of (ap new e ∙ moves.here)) ∙ q))
      (λ ne. h.reads j c p (sym (ap reads_of (moves.others j ne)) ∙ q))
      (cases_eq j i);
  writes = λ j c p q. ⊎_elim
      (λ e. w c p (sym (ap writes_of (ap new e ∙ moves.here)) ∙ q))
      (λ ne. h.writes j c p (sym (ap writes_of (moves.others j ne)) ∙ q))
      (cases_eq j i);
}

pub reads_live : (cs : List (Option Channel)) (k : SockKind) (o : Option ℕ) (c : ℕ) → ReadsFrom cs k o → o ≡ Some c → IsSome (at cs c)
reads_live cs k None c h e = absurd cc
reads_live cs Stream (Some d) c h e = let s : d ≡ c = cc in subst (λ (n : ℕ). IsSome (at cs n)) s (is_some_bytes _ (read_is_bytes _ h))
reads_live cs Datagram (Some d) c h e = let s : d ≡ c = cc in subst (λ (n : ℕ). IsSome (at cs n)) s (is_some_letters _ h)

pub writes_live : (cs : List (Option Channel)) (k : SockKind) (o : Option ℕ) (c : ℕ) → WritesTo cs k o → stream_writes k o ≡ Some c → IsSome (at cs c)
writes_live cs Stream None c h e = absurd cc
writes_live cs Stream (Some d) c h e = let s : d ≡ c = cc in subst (λ (n : ℕ). IsSome (at cs n)) s (is_some_bytes _ (write_is_bytes _ h))
writes_live cs Datagram o c h e = absurd cc

reads_below : (cs : List (Option Channel)) (o : Option Ends) (c : ℕ) → LinkedAt cs o → reads_of o ≡ Some c → c < length cs
reads_below cs None c h e = absurd cc
reads_below cs (Some x) c h e = below_end cs c (reads_live cs x.kind x.reads c h.reads e)

writes_below : (cs : List (Option Channel)) (o : Option Ends) (c : ℕ) → LinkedAt cs o → writes_of o ≡ Some c → c < length cs
writes_below cs None c h e = absurd cc
writes_below cs (Some x) c h e = below_end cs c (writes_live cs x.kind x.writes c h.writes e)

-- no socket has an end of a channel that is to come
pub new_ends : (e : ℕ → Option Ends) (cs : List (Option Channel)) (ends : Option Ends) → IsSound e cs
    → ((c : ℕ) → reads_of ends ≡ Some c → length cs ≤ c) → ((c : ℕ) → writes_of ends ≡ Some c → length cs ≤ c) → IsNew e ends
new_ends e cs ends h r w = record {
  reads = λ j c p q. let below = reads_below cs (e j) c (h.linked j) q in let above = r c p in absurd (omega arith);
  writes = λ j c p q. let below = writes_below cs (e j) c (h.linked j) q in let above = w c p in absurd (omega arith);
}

-- ---- tables of sockets

-- a socket came
pub moves_added : (ss : List (Option Socket)) (x : Socket) → Moves (ends_at ss) (ends_at (ss ++ Some x ∷ [])) (length ss) (ends_in (Some x))
moves_added ss x = record { here = ap ends_in (at_end ss (Some x)); others = λ j ne. ap ends_in (at_before ss (Some x) j ne) }

-- a socket was changed, or went
pub moves_set : (ss : List (Option Socket)) (i : ℕ) (x : Option Socket) → IsSome (at ss i) → Moves (ends_at ss) (ends_at (set ss i x)) i (ends_in x)
moves_set ss i x h = record { here = ap ends_in (at_set_here ss i x h); others = λ j ne. ap ends_in (at_set_other ss i j x ne) }

pub live : {X : Type 0} (o : Option X) (x : X) → o ≡ Some x → IsSome o
live o x e = rw e refl

-- a socket was changed, but not its ends
pub sound_set : (ss : List (Option Socket)) (cs : List (Option Channel)) (i : ℕ) (x y : Socket) → at ss i ≡ Some x → ends_in (Some y) ≡ ends_in (Some x) → IsSound (ends_at ss) cs → IsSound (ends_at (set ss i (Some y))) cs
sound_set ss cs i x y h same sound =
    let own : ends_at ss i ≡ ends_in (Some y) = ap ends_in h ∙ sym same in
    sound_moved (ends_at ss) (ends_at (set ss i (Some y))) cs i (ends_in (Some y)) (moves_set ss i (Some y) (live _ x h))
    (subst (LinkedAt cs) own (sound.linked i)) (subst (IsFree (ends_at ss) i) own (free_own (ends_at ss) cs i sound)) sound

-- a socket without ends came
pub sound_added : (ss : List (Option Socket)) (cs : List (Option Channel)) (x : Socket) → x.reads ≡ None → x.writes ≡ None → IsSound (ends_at ss) cs → IsSound (ends_at (ss ++ Some x ∷ [])) cs
sound_added ss cs x r w sound =
    sound_moved (ends_at ss) (ends_at (ss ++ Some x ∷ [])) cs (length ss) (ends_in (Some x)) (moves_added ss x)
    (rw (r, w) (record { reads = tt; writes = tt }))
    (free_new (ends_at ss) (length ss) (ends_in (Some x)) (record {
      reads = λ j c p q. let k : None ≡ Some c = sym r ∙ p in absurd cc;
      writes = λ j c p q. let k : stream_writes x.kind None ≡ Some c = ap (stream_writes x.kind) (sym w) ∙ p in no_writes x.kind c k;
    })) sound
  where
    no_writes : (k : SockKind) (c : ℕ) → stream_writes k None ≡ Some c → ⊥
    no_writes Stream c e = absurd cc
    no_writes Datagram c e = absurd cc

-- ---- shutting

open_written : (o : Option Channel) → IsOpenToWrite o → IsOpenToWrite (while_open (shut_channel o Reading))
open_written None h = h
open_written (Some (Bytes t)) h = rw h refl
open_written (Some (Letters t)) h = absurd h

open_read : (o : Option Channel) → IsOpenToRead o → IsOpenToRead (while_open (shut_channel o Writing))
open_read None h = h
open_read (Some (Bytes t)) h = rw h refl
open_read (Some (Letters t)) h = absurd h

-- nobody reads from a channel
abbrev pub Unread : (ℕ → Option Ends) → ℕ → Type 0
Unread e c = (j : ℕ) → reads_of (e j) ≡ Some c → ⊥

-- no stream writes to a channel
abbrev pub Unwritten : (ℕ → Option Ends) → ℕ → Type 0
Unwritten e c = (j : ℕ) → writes_of (e j) ≡ Some c → ⊥

-- the channel of another number stays
other_stays : (P : Option Channel → Type 0) (cs : List (Option Channel)) (c d : ℕ) (o : Option Channel) → (c ≡ d → ⊥) → P (at cs d) → P (at (set cs c o) d)
other_stays P cs c d o apart h = at_set_keeps P cs c o d (λ e. absurd (apart e)) h

reads_shut : (cs : List (Option Channel)) (c : ℕ) (o : Option Channel) (k : SockKind) (r : Option ℕ) → (r ≡ Some c → ⊥) → ReadsFrom cs k r → ReadsFrom (set cs c o) k r
reads_shut cs c o k None apart h = tt
reads_shut cs c o Stream (Some d) apart h = other_stays IsOpenToRead cs c d o (λ e. apart (ap (λ (n : ℕ). Some n) (sym e))) h
reads_shut cs c o Datagram (Some d) apart h = other_stays IsLetters cs c d o (λ e. apart (ap (λ (n : ℕ). Some n) (sym e))) h

writes_shut : (cs : List (Option Channel)) (c : ℕ) (o : Option Channel) (k : SockKind) (w : Option ℕ) → (stream_writes k w ≡ Some c → ⊥) → WritesTo cs k w → WritesTo (set cs c o) k w
writes_shut cs c o k None apart h = tt
writes_shut cs c o Stream (Some d) apart h = other_stays IsOpenToWrite cs c d o (λ e. apart (ap (λ (n : ℕ). Some n) (sym e))) h
writes_shut cs c o Datagram (Some d) apart h = tt

pub writes_through : (cs : List (Option Channel)) (c : ℕ) (k : SockKind) (w : Option ℕ) → WritesTo cs k w → WritesTo (shut_end cs c Reading) k w
writes_through cs c k None h = tt
writes_through cs c Stream (Some d) h = at_set_keeps IsOpenToWrite cs c (while_open (shut_channel (at cs c) Reading)) d (λ e. open_written (at cs c) (here IsOpenToWrite cs c d e h)) h
writes_through cs c Datagram (Some d) h = tt

reads_through : (cs : List (Option Channel)) (c : ℕ) → IsBytes (at cs c) → (k : SockKind) (r : Option ℕ) → ReadsFrom cs k r → ReadsFrom (shut_end cs c Writing) k r
reads_through cs c b k None h = tt
reads_through cs c b Stream (Some d) h = at_set_keeps IsOpenToRead cs c (while_open (shut_channel (at cs c) Writing)) d (λ e. open_read (at cs c) (here IsOpenToRead cs c d e h)) h
reads_through cs c b Datagram (Some d) h = at_set_keeps IsLetters cs c (while_open (shut_channel (at cs c) Writing)) d (λ e. absurd (not_both (at cs c) b (here IsLetters cs c d e h))) h

linked_unread : (cs : List (Option Channel)) (c : ℕ) (o : Option Ends) → (reads_of o ≡ Some c → ⊥) → LinkedAt cs o → LinkedAt (shut_end cs c Reading) o
linked_unread cs c None apart h = tt
linked_unread cs c (Some e) apart h = record { reads = reads_shut cs c _ e.kind e.reads apart h.reads; writes = writes_through cs c e.kind e.writes h.writes }

linked_unwritten : (cs : List (Option Channel)) (c : ℕ) → IsBytes (at cs c) → (o : Option Ends) → (writes_of o ≡ Some c → ⊥) → LinkedAt cs o → LinkedAt (shut_end cs c Writing) o
linked_unwritten cs c b None apart h = tt
linked_unwritten cs c b (Some e) apart h = record { reads = reads_through cs c b e.kind e.reads h.reads; writes = writes_shut cs c _ e.kind e.writes apart h.writes }

-- a reading end that nobody has is shut
pub sound_unread : (e : ℕ → Option Ends) (cs : List (Option Channel)) (c : ℕ) → Unread e c → IsSound e cs → IsSound e (shut_end cs c Reading)
sound_unread e cs c un h = record { linked = λ j. linked_unread cs c (e j) (un j) (h.linked j); one_reader = h.one_reader; one_writer = h.one_writer }

-- a writing end that no stream has is shut
pub sound_unwritten : (e : ℕ → Option Ends) (cs : List (Option Channel)) (c : ℕ) → IsBytes (at cs c) → Unwritten e c → IsSound e cs → IsSound e (shut_end cs c Writing)
sound_unwritten e cs c b un h = record { linked = λ j. linked_unwritten cs c b (e j) (un j) (h.linked j); one_reader = h.one_reader; one_writer = h.one_writer }

letters_unwritten : (cs : List (Option Channel)) (c : ℕ) → IsLetters (at cs c) → (o : Option Ends) → LinkedAt cs o → writes_of o ≡ Some c → ⊥
letters_unwritten cs c l None h e = absurd cc
letters_unwritten cs c l (Some x) h e = unwritten x.kind x.writes h.writes e
  where
    unwritten : (k : SockKind) (w : Option ℕ) → WritesTo cs k w → stream_writes k w ≡ Some c → ⊥
    unwritten Stream None g e = absurd cc
    unwritten Stream (Some d) g e = let s : d ≡ c = cc in not_both (at cs c) (write_is_bytes _ (here IsOpenToWrite cs c d (sym s) g)) l
    unwritten Datagram w g e = absurd cc

linked_letters : (cs : List (Option Channel)) (c : ℕ) → IsLetters (at cs c) → (o : Option Ends) → (reads_of o ≡ Some c → ⊥) → LinkedAt cs o → LinkedAt (shut_end cs c Both) o
linked_letters cs c l None apart h = tt
linked_letters cs c l (Some e) apart h = record {
  reads = reads_shut cs c _ e.kind e.reads apart h.reads;
  writes = writes_shut cs c _ e.kind e.writes (letters_unwritten cs c l (Some e) h) h.writes;
}

-- letters that nobody reads are taken away
pub sound_letters : (e : ℕ → Option Ends) (cs : List (Option Channel)) (c : ℕ) → IsLetters (at cs c) → Unread e c → IsSound e cs → IsSound e (shut_end cs c Both)
sound_letters e cs c l un h = record { linked = λ j. linked_letters cs c l (e j) (un j) (h.linked j); one_reader = h.one_reader; one_writer = h.one_writer }
