-- Changes of the unused cookies keep the machine sound.
use Rattle.std.proofs.Common.{◌≡◌, ◌≢◌, ◌⊎◌, inl, inr, ℕ, ◌+◌, Bool, false, List, [], ◌∷◌, ◌++◌, Option, Some, None, IsSome, refl, sym, ap, subst, ◌∙◌, arith}
use Rattle.std.specs.FinMap.{get, insert, remove}
use Rattle.std.specs.List.{AllByRecursion}
use Rattle.sp_base.specs.declared.names.Pid.{Pid}
use Rattle.kern_model.specs.declared.journal.Entry.{Entry}
use Rattle.kern_model.specs.declared.journal.Who.{Who}
use Rattle.kern_model.specs.declared.journal.Who.TheVariants.{Request, End, Cancelled, Host}
use Rattle.kern_model.specs.Journal.{Follows, IsLegal, IsNew, HasOwnKeys, state_after}
use Rattle.kern_model.proofs.Journals.{legal_push}
use Rattle.sp_fork.specs.Jar.{Jar, is_full, with_next}
use Rattle.sp_fork.specs.declared.unused.CookieKind.TheVariants as kind
use Rattle.sp_fork.specs.declared.unused.Unused.{Unused}
use Rattle.sp_fork.proofs.Jars.{next_is_jar, one_less_unused}
use Rattle.hub_model.specs.declared.handover.Handover.{Handover}
use Rattle.hub_model.specs.State.{Connection, Machine}
use Rattle.hub_model.specs.Sound.{IsConnection, IsDone, IsUsedUp, IsCookie, IsSound}
use Rattle.hub_model.proofs.Keeps.{IsProcess, all_map, all_push, keys_push, waits_on, fork_waits}
use Rattle.tables.proofs.Maps.{after_change, put_changes, gone_changes, get_put_other, get_gone, get_gone_other, same_or_not}

-- ---- notes

module _ (m : Machine) (handovers : List Handover) (halted : Bool) (sound : IsSound m) where
  abbrev noted : Machine
  noted = record m { handovers = handovers; halted = halted }

  same_done : (who : Who) → IsDone m who → IsDone noted who
  same_done (Request d r) h = h
  same_done (End d) h = h
  same_done (Cancelled number) h = h
  same_done (Host guest count) h = h

  same_cookie : (u : Unused) → IsCookie m u → IsCookie noted u
  same_cookie u is = record { maker = is.maker; process = is.process; waits = waits_on m noted u u.kind (λ fork w. w) (λ exec w. w) is.waits }

  -- of what was handed over, and of whether the server has halted, soundness doesn't speak
  pub noted_sound : IsSound (record m { handovers = handovers; halted = halted })
  noted_sound = record {
    legal = sound.legal;
    keys = sound.keys;
    done = all_map (λ e. IsDone m e.who) (λ e. IsDone noted e.who) (λ e h. same_done e.who h) m.journal sound.done;
    opened = sound.opened;
    each = sound.each;
    owners = sound.owners;
    jar = sound.jar;
    cookies = λ number u h. same_cookie u (sound.cookies number u h);
    apart = sound.apart;
  }

-- ---- a cookie less

-- the jar without the cookie of a number
abbrev pub used : Jar → ℕ → Jar
used jar number = record jar { unused = remove jar.unused number }

-- a cookie that is left had another number, and was there
pub record IsLeft (jar : Jar) (number k : ℕ) (u : Unused) : Type 0 where
  pub other : k ≢ number
  pub before : get jar.unused k ≡ Some u

pub left : (jar : Jar) (number k : ℕ) (u : Unused) → get (used jar number).unused k ≡ Some u → IsLeft jar number k u
left jar number k u h = elim (after_change jar.unused (remove jar.unused number) number k u None (gone_changes jar.unused number) h) [
  | inl e ↦ absurd (let q = e.1 in cc)
  | inr o ↦ record { other = o.0; before = o.1 }
]

-- what is used up stays so
used_up : (jar : Jar) (number k : ℕ) → IsUsedUp jar k → IsUsedUp (used jar number) k
used_up jar number k is = record {
  given = is.given;
  used = elim (same_or_not k number) [
    | inl same ↦ subst (λ (n : ℕ). get (remove jar.unused number) n ≡ None) (sym same) (get_gone jar.unused number)
    | inr ne ↦ get_gone_other jar.unused number k ne ∙ is.used
  ];
}

-- the child that a fork cookie would have handed over exits, by the cookie's number
pub record EndsChild (journal : List Entry) (number : ℕ) (u : Unused) (journal' : List Entry) : Type 0 where
  pub entry : Entry
  pub grown : journal' ≡ journal ++ entry ∷ []
  pub follows : Follows (state_after journal) entry
  pub who : entry.who ≡ Cancelled number
  pub fork : u.kind ≡ kind.Fork
  pub others : (q : Pid) → IsProcess journal q → q ≢ u.pid → IsProcess journal' q

module _ (m : Machine) (number : ℕ) (u : Unused) (journal' : List Entry) (sound : IsSound m) (here : get m.cookies.unused number ≡ Some u)
    (grows : (journal' ≡ m.journal) ⊎ EndsChild m.journal number u journal') where
  abbrev without_it : Machine
  without_it = record m { journal = journal'; cookies = used m.cookies number }

  lives : (q : Pid) → IsProcess m.journal q → (u.kind ≡ kind.Fork → q ≢ u.pid) → IsProcess journal' q
  lives q live other = elim grows [
    | inl same ↦ subst (λ (j : List Entry). IsProcess j q) (sym same) live
    | inr ends ↦ ends.others q live (other ends.fork)
  ]

  still_done : (who : Who) → IsDone m who → IsDone without_it who
  still_done (Request d r) h = h
  still_done (End d) h = h
  still_done (Cancelled k) h = used_up m.cookies number k h
  still_done (Host guest count) h = h

  -- the cookie's number wasn't used up
  not_used_up : IsUsedUp m.cookies number → ⊥
  not_used_up is = let clash : Some u ≡ None = sym here ∙ is.used in cc

  key_is_new : IsNew (Cancelled number) m.journal
  key_is_new = all_map (λ e. IsDone m e.who) (λ e. e.who ≡ Cancelled number → ⊥)
      (λ e done (q : e.who ≡ Cancelled number). not_used_up (subst (λ (w : Who). IsDone m w) q done)) m.journal sound.done

  now_used_up : IsUsedUp (used m.cookies number) number
  now_used_up = record { given = sound.jar.most number (subst (λ (o : Option Unused). IsSome o) (sym here) refl); used = get_gone m.cookies.unused number }

  still : AllByRecursion (λ e. IsDone without_it e.who) m.journal
  still = all_map (λ e. IsDone m e.who) (λ e. IsDone without_it e.who) (λ e h. still_done e.who h) m.journal sound.done

  -- no process of a connection is that of the fork cookie
  connection_lives : (d : ℕ) (z : Connection) → get m.connections d ≡ Some z → IsConnection journal' z
  connection_lives d z h =
      let old = sound.each d z h in record {
        process = λ p speaks. lives p (old.process p speaks) (λ fork same. fork_waits m u u.kind fork (sound.cookies number u here).waits d z h (speaks ∙ ap (λ (q : Pid). Some q) same));
        calls = old.calls;
      }

  cookie_left : (k : ℕ) (v : Unused) → get (used m.cookies number).unused k ≡ Some v → IsCookie without_it v
  cookie_left k v h =
      let l = left m.cookies number k v h in
      let is = sound.cookies k v l.before in record {
        maker = is.maker;
        process = lives v.pid is.process (λ fork same. l.other (sound.apart k number v u l.before here same));
        waits = waits_on m without_it v v.kind (λ fork w. w) (λ exec w. w) is.waits;
      }

  -- the machine is sound once a cookie was used, or taken back
  pub used_sound : IsSound (record m { journal = journal'; cookies = used m.cookies number })
  used_sound = record {
    legal = elim grows [
      | inl same ↦ subst IsLegal (sym same) sound.legal
      | inr ends ↦ subst IsLegal (sym ends.grown) (legal_push m.journal ends.entry sound.legal ends.follows)
    ];
    keys = elim grows [
      | inl same ↦ subst HasOwnKeys (sym same) sound.keys
      | inr ends ↦ subst HasOwnKeys (sym ends.grown) (keys_push m.journal ends.entry sound.keys (subst (λ (w : Who). IsNew w m.journal) (sym ends.who) key_is_new))
    ];
    done = elim grows [
      | inl same ↦ subst (λ (j : List Entry). AllByRecursion (λ e. IsDone without_it e.who) j) (sym same) still
      | inr ends ↦ subst (λ (j : List Entry). AllByRecursion (λ e. IsDone without_it e.who) j) (sym ends.grown)
          (all_push (λ e. IsDone without_it e.who) m.journal ends.entry still (subst (λ (w : Who). IsDone without_it w) (sym ends.who) now_used_up))
    ];
    opened = sound.opened;
    each = connection_lives;
    owners = sound.owners;
    jar = one_less_unused m.cookies.unused (remove m.cookies.unused number) number m.cookies.given refl sound.jar;
    cookies = cookie_left;
    apart = λ a b v w h g same. sound.apart a b v w (left m.cookies number a v h).before (left m.cookies number b w g).before same;
  }

-- ---- a cookie more

module _ (m : Machine) (u : Unused) (sound : IsSound m) (room : is_full m.cookies ≡ false) (is : IsCookie m u)
    (unoffered : (number : ℕ) (v : Unused) → get m.cookies.unused number ≡ Some v → v.pid ≡ u.pid → ⊥) where
  abbrev next : ℕ
  next = m.cookies.given + 1

  abbrev with_it : Machine
  with_it = record m { cookies = with_next m.cookies u }

  done_with : (who : Who) → IsDone m who → IsDone with_it who
  done_with (Request d r) h = h
  done_with (End d) h = h
  done_with (Cancelled k) h = record {
    given = let le = h.given in omega arith;
    used = get_put_other m.cookies.unused next u k (λ e. let le = h.given in omega arith) ∙ h.used;
  }
  done_with (Host guest count) h = h

  same_waits : (v : Unused) → IsCookie m v → IsCookie with_it v
  same_waits v was = record { maker = was.maker; process = was.process; waits = waits_on m with_it v v.kind (λ fork w. w) (λ exec w. w) was.waits }

  each_cookie : (k : ℕ) (v : Unused) → get (with_next m.cookies u).unused k ≡ Some v → IsCookie with_it v
  each_cookie k v h = elim (after_change m.cookies.unused (insert m.cookies.unused next u) next k v (Some u) (put_changes m.cookies.unused next u) h) [
    | inl e ↦ (let same : u ≡ v = (let q = e.1 in cc) in subst (λ (w : Unused). IsCookie with_it w) same (same_waits u is))
    | inr o ↦ same_waits v (sound.cookies k v o.1)
  ]

  new_apart : (k : ℕ) (v w : Unused) → Some u ≡ Some v → get m.cookies.unused k ≡ Some w → v.pid ≡ w.pid → ⊥
  new_apart k v w e h same = let one : u ≡ v = cc in unoffered k w h (sym (ap (λ (x : Unused). x.pid) one ∙ same))

  each_apart : (a b : ℕ) (v w : Unused) → get (with_next m.cookies u).unused a ≡ Some v → get (with_next m.cookies u).unused b ≡ Some w → v.pid ≡ w.pid → a ≡ b
  each_apart a b v w h g same =
      let changes = put_changes m.cookies.unused next u in
      elim (after_change m.cookies.unused (insert m.cookies.unused next u) next a v (Some u) changes h) [
        | inl e ↦ elim (after_change m.cookies.unused (insert m.cookies.unused next u) next b w (Some u) changes g) [
          | inl f ↦ e.0 ∙ sym f.0
          | inr r ↦ absurd (new_apart b v w e.1 r.1 same)
        ]
        | inr o ↦ elim (after_change m.cookies.unused (insert m.cookies.unused next u) next b w (Some u) changes g) [
          | inl f ↦ absurd (new_apart a w v f.1 o.1 (sym same))
          | inr r ↦ sound.apart a b v w o.1 r.1 same
        ]
      ]

  -- the machine is sound once a cookie was made, for a process that waits for it and that no other one hands over
  pub offered_sound : IsSound (record m { cookies = with_next m.cookies u })
  offered_sound = record {
    legal = sound.legal;
    keys = sound.keys;
    done = all_map (λ e. IsDone m e.who) (λ e. IsDone with_it e.who) (λ e h. done_with e.who h) m.journal sound.done;
    opened = sound.opened;
    each = sound.each;
    owners = sound.owners;
    jar = next_is_jar m.cookies u sound.jar room;
    cookies = each_cookie;
    apart = each_apart;
  }
