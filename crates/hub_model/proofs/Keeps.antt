-- A change of one connection keeps the machine sound.
use Rattle.std.proofs.Common.{◌≡◌, ◌≢◌, ◌⊎◌, inl, inr, ℕ, true, false, List, [], ◌∷◌, ◌++◌, Option, Some, None, IsSome, refl, sym, ap, subst, ◌∙◌}
use Rattle.std.specs.Prelude.{IfSome}
use Rattle.std.specs.List.{AllByRecursion}
use Rattle.std.specs.Ordering.{nat_cmp}
use Rattle.std.specs.FinMap.{FinMap, get}
use Rattle.sp_base.specs.Table.{at}
use Rattle.sp_base.specs.declared.names.Pid.{Pid}
use Rattle.kern_model.specs.declared.journal.Entry.{Entry}
use Rattle.kern_model.specs.declared.journal.Who.{Who}
use Rattle.kern_model.specs.declared.journal.Who.TheVariants.{Request, End, Cancelled, Host}
use Rattle.kern_model.specs.Journal.{Follows, IsLegal, IsNew, HasOwnKeys, state_after}
use Rattle.kern_model.proofs.Journals.{legal_push}
use Rattle.hub_model.specs.State.{Connection, Machine, process_in}
use Rattle.sp_fork.specs.declared.unused.CookieKind.{CookieKind}
use Rattle.sp_fork.specs.declared.unused.CookieKind.TheVariants as kind
use Rattle.sp_fork.specs.declared.unused.Unused.{Unused}
use Rattle.hub_model.specs.declared.state.Condition.TheVariants.{InExec}
use Rattle.hub_model.specs.Sound.{IsOpened, IsConnection, HasDone, IsDone, IsUnspoken, IsInExec, IsWaitingFor, IsCookie, IsSound}
use Rattle.tables.proofs.Maps.{Changes, after_change, same_or_not}

-- the process of this number is live
abbrev pub IsProcess : List Entry → Pid → Type 0
IsProcess journal pid = IsSome (at (state_after journal).processes pid.0)

-- the key is one of this connection
abbrev pub IsAbout : ℕ → Who → Type 0
IsAbout c (Request d r) = d.0 ≡ c
IsAbout c (End d) = d.0 ≡ c
IsAbout c (Cancelled cookie) = ⊥
IsAbout c (Host guest count) = ⊥

-- one entry more, by a key of this connection, with which it has done now and hadn't before
pub record Adds (journal : List Entry) (c : ℕ) (x : Connection) (journal' : List Entry) (now : Option Connection) : Type 0 where
  pub entry : Entry
  pub grown : journal' ≡ journal ++ entry ∷ []
  pub follows : Follows (state_after journal) entry
  pub about : IsAbout c entry.who
  pub done : IfSome now (HasDone entry.who)
  pub before : HasDone entry.who x → ⊥

-- no connection speaks for a process, and no unused cookie hands it over
pub record IsFree (m : Machine) (p : Pid) : Type 0 where
  pub unspoken : IsUnspoken m p
  pub unoffered : (number : ℕ) (u : Unused) → get m.cookies.unused number ≡ Some u → u.pid ≡ p → ⊥

-- a connection still waits for its process to go on as its next program
pub record WaitsStill (journal' : List Entry) (pid : Pid) (now : Option Connection) : Type 0 where
  pub there : Connection
  pub is : now ≡ Some there
  pub waits : there.condition ≡ InExec pid
  pub live : IsProcess journal' pid

-- what a change of a connection owes to the machine
pub record Keeps (m : Machine) (c : ℕ) (x : Connection) (journal' : List Entry) (now : Option Connection) : Type 0 where
  pub connection : (x' : Connection) → now ≡ Some x' → IsConnection journal' x'
  pub done : (who : Who) → HasDone who x → IfSome now (HasDone who)
  pub grows : (journal' ≡ m.journal) ⊎ Adds m.journal c x journal' now
  pub others : (q : Pid) → IsProcess m.journal q → (process_in x.condition ≡ Some q → ⊥) → IsProcess journal' q
  pub fresh : (x' : Connection) (p : Pid) → now ≡ Some x' → process_in x'.condition ≡ Some p
      → (process_in x.condition ≡ Some p) ⊎ IsFree m p
  -- it is there as long as it has made an unused cookie
  pub made : (number : ℕ) (u : Unused) → get m.cookies.unused number ≡ Some u → u.maker.0 ≡ c → IsSome now
  -- and waits as long as one of those is for its process
  pub waits : (number : ℕ) (u : Unused) → get m.cookies.unused number ≡ Some u → u.maker.0 ≡ c → u.kind ≡ kind.Exec
      → x.condition ≡ InExec u.pid → WaitsStill journal' u.pid now

-- ---- what holds of all entries

pub all_map : {A : Type 0} (P Q : A → Type 0) → ((a : A) → P a → Q a) → (xs : List A) → AllByRecursion P xs → AllByRecursion Q xs
all_map P Q f [] h = tt
all_map P Q f (x ∷ xs) h = (f x h.0, all_map P Q f xs h.1)

pub all_push : {A : Type 0} (P : A → Type 0) (xs : List A) (x : A) → AllByRecursion P xs → P x → AllByRecursion P (xs ++ x ∷ [])
all_push P [] x h p = (p, tt)
all_push P (y ∷ xs) x h p = (h.0, all_push P xs x h.1 p)

pub keys_push : (entries : List Entry) (e : Entry) → HasOwnKeys entries → IsNew e.who entries → HasOwnKeys (entries ++ e ∷ [])
keys_push [] e h new = (tt, tt)
keys_push (f ∷ entries) e h new = (all_push (λ g. g.who ≡ f.who → ⊥) entries e h.0 (λ (q : e.who ≡ f.who). new.0 (sym q)), keys_push entries e h.1 new.1)

-- ---- keys

-- what is so of the connection of a number
abbrev pub IfThere : FinMap nat_cmp Connection → ℕ → (Connection → Type 0) → Type 0
IfThere connections c P = IfSome (get connections c) P

there : (connections : FinMap nat_cmp Connection) (c : ℕ) (x : Connection) (P : Connection → Type 0) → get connections c ≡ Some x → IfThere connections c P → P x
there connections c x P e h = subst (λ (o : Option Connection). IfSome o P) e h

-- a connection that is there has done with a key of its own that was spent
about_done : (m : Machine) (c : ℕ) (x : Connection) (who : Who) → get m.connections c ≡ Some x → IsAbout c who → IsDone m who → HasDone who x
about_done m c x (Request d r) e about done = there m.connections c x (HasDone (Request d r)) e (subst (λ n. IfThere m.connections n (HasDone (Request d r))) about done.1)
about_done m c x (End d) e about done = there m.connections c x (HasDone (End d)) e (subst (λ n. IfThere m.connections n (HasDone (End d))) about done.1)
about_done m c x (Cancelled cookie) e about done = absurd about
about_done m c x (Host guest count) e about done = absurd about

-- a key of a connection that it hasn't done with is new
new_key : (m : Machine) (c : ℕ) (x : Connection) (who : Who) → IsSound m → get m.connections c ≡ Some x → IsAbout c who → (HasDone who x → ⊥) → IsNew who m.journal
new_key m c x who sound e about not = all_map (λ e. IsDone m e.who) (λ e. e.who ≡ who → ⊥)
    (λ entry done (q : entry.who ≡ who). not (about_done m c x who e about (subst (λ (w : Who). IsDone m w) q done))) m.journal sound.done

-- what is so of the connection of each number is so after a change of one
pub moved : (old new : FinMap nat_cmp Connection) (c d : ℕ) (x : Connection) (now : Option Connection) (P : Connection → Type 0)
    → get old c ≡ Some x → Changes old new c now → (P x → IfSome now P) → IfThere old d P → IfThere new d P
moved old new c d x now P e changes goes h =
    elim (same_or_not d c) [
      | inl same ↦ subst (λ n. IfThere new n P) (sym same) (subst (λ (o : Option Connection). IfSome o P) (sym changes.here)
          (goes (there old c x P e (subst (λ n. IfThere old n P) same h))))
      | inr ne ↦ subst (λ (o : Option Connection). IfSome o P) (sym (changes.others d ne)) h
    ]

-- a key that was spent is spent after a change of one connection
still_done : (m : Machine) (c : ℕ) (x : Connection) (journal' : List Entry) (connections : FinMap nat_cmp Connection) (now : Option Connection)
    → get m.connections c ≡ Some x → Changes m.connections connections c now → ((who : Who) → HasDone who x → IfSome now (HasDone who))
    → (who : Who) → IsDone m who → IsDone (record m { journal = journal'; connections = connections }) who
still_done m c x journal' connections now e changes goes (Request d r) h = (h.0, moved m.connections connections c d.0 x now (HasDone (Request d r)) e changes (goes (Request d r)) h.1)
still_done m c x journal' connections now e changes goes (End d) h = (h.0, moved m.connections connections c d.0 x now (HasDone (End d)) e changes (goes (End d)) h.1)
still_done m c x journal' connections now e changes goes (Cancelled cookie) h = h
still_done m c x journal' connections now e changes goes (Host guest count) h = h

-- the key of the entry that is added is spent
now_done : (m : Machine) (c : ℕ) (journal' : List Entry) (connections : FinMap nat_cmp Connection) (now : Option Connection) (who : Who)
    → IsOpened m.opened c → get connections c ≡ now → IsAbout c who → IfSome now (HasDone who) → IsDone (record m { journal = journal'; connections = connections }) who
now_done m c journal' connections now (Request d r) opened here about done =
    (subst (λ n. IsOpened m.opened n) (sym about) opened, subst (λ n. IfThere connections n (HasDone (Request d r))) (sym about) (subst (λ (o : Option Connection). IfSome o (HasDone (Request d r))) (sym here) done))
now_done m c journal' connections now (End d) opened here about done =
    (subst (λ n. IsOpened m.opened n) (sym about) opened, subst (λ n. IfThere connections n (HasDone (End d))) (sym about) (subst (λ (o : Option Connection). IfSome o (HasDone (End d))) (sym here) done))
now_done m c journal' connections now (Cancelled cookie) opened here about done = absurd about
now_done m c journal' connections now (Host guest count) opened here about done = absurd about

pub clash : (journal : List Entry) (p : Pid) → IsProcess journal p → at (state_after journal).processes p.0 ≡ None → ⊥
clash journal p live none = let h : IsSome (at (state_after journal).processes p.0) = live in let g : false ≡ true = rw none at h in cc

-- no connection and no cookie has a process that isn't live
pub unused_free : (m : Machine) (p : Pid) → IsSound m → at (state_after m.journal).processes p.0 ≡ None → IsFree m p
unused_free m p sound none = record {
  unspoken = λ c x here own. clash m.journal p ((sound.each c x here).process p own) none;
  unoffered = λ number u there same. clash m.journal p (subst (λ (q : Pid). IsProcess m.journal q) same (sound.cookies number u there).process) none;
}

-- ---- unused cookies

-- the process of a cookie waits for it after a change, where either kind of waiting goes on
pub waits_on : (m m' : Machine) (u : Unused) (k : CookieKind) → (k ≡ kind.Fork → IsUnspoken m u.pid → IsUnspoken m' u.pid)
    → (k ≡ kind.Exec → IsInExec m u.maker u.pid → IsInExec m' u.maker u.pid) → IsWaitingFor m u k → IsWaitingFor m' u k
waits_on m m' u kind.Fork fork exec h = fork refl h
waits_on m m' u kind.Exec fork exec h = exec refl h

-- no connection speaks for the child that a fork cookie hands over
pub fork_waits : (m : Machine) (u : Unused) (k : CookieKind) → k ≡ kind.Fork → IsWaitingFor m u k → IsUnspoken m u.pid
fork_waits m u kind.Fork e h = h
fork_waits m u kind.Exec e h = absurd cc

-- the maker of an exec cookie waits
pub exec_waits : (m : Machine) (u : Unused) (k : CookieKind) → k ≡ kind.Exec → IsWaitingFor m u k → IsInExec m u.maker u.pid
exec_waits m u kind.Fork e h = absurd cc
exec_waits m u kind.Exec e h = h

fork_or_exec : (k : CookieKind) → (k ≡ kind.Fork) ⊎ (k ≡ kind.Exec)
fork_or_exec kind.Fork = inl refl
fork_or_exec kind.Exec = inr refl

module _ (m : Machine) (c : ℕ) (x : Connection) (journal' : List Entry) (connections : FinMap nat_cmp Connection) (now : Option Connection)
    (sound : IsSound m) (here : get m.connections c ≡ Some x) (changes : Changes m.connections connections c now) (keeps : Keeps m c x journal' now) where
  abbrev after : Machine
  after = record m { journal = journal'; connections = connections }

  -- no connection speaks for the child of a fork cookie after the change of one
  child_waits : (number : ℕ) (u : Unused) → get m.cookies.unused number ≡ Some u → IsUnspoken m u.pid → IsUnspoken after u.pid
  child_waits number u there unspoken d z h speaks =
      elim (after_change m.connections connections c d z now changes h) [
        | inl e ↦ elim (keeps.fresh z u.pid e.1 speaks) [
          | inl own ↦ unspoken c x here own
          | inr free ↦ free.unoffered number u there refl
        ]
        | inr o ↦ unspoken d z o.1 speaks
      ]

  -- the maker of an exec cookie that isn't the connection that changes
  other_maker : (u : Unused) → u.maker.0 ≢ c → IsInExec m u.maker u.pid → IsInExec after u.maker u.pid
  other_maker u ne w = (w.0, changes.others u.maker.0 ne ∙ w.1, w.2)

  -- the maker that changes waits still
  waits_still : (number : ℕ) (u : Unused) → get m.cookies.unused number ≡ Some u → u.maker.0 ≡ c → u.kind ≡ kind.Exec → IsInExec m u.maker u.pid → WaitsStill journal' u.pid now
  waits_still number u there same is w =
      let at_c : get m.connections c ≡ Some w.0 = subst (λ (n : ℕ). get m.connections n ≡ Some w.0) same w.1 in
      let one : Some x ≡ Some w.0 = sym here ∙ at_c in
      let it : x ≡ w.0 = cc in
      keeps.waits number u there same is (ap (λ (y : Connection). y.condition) it ∙ w.2)

  maker_waits : (number : ℕ) (u : Unused) → get m.cookies.unused number ≡ Some u → u.kind ≡ kind.Exec → IsInExec m u.maker u.pid → IsInExec after u.maker u.pid
  maker_waits number u there is w =
      elim (same_or_not u.maker.0 c) [
        | inl same ↦ (let s = waits_still number u there same is w in
            (s.there, subst (λ (n : ℕ). get connections n ≡ Some s.there) (sym same) (changes.here ∙ s.is), s.waits))
        | inr ne ↦ other_maker u ne w
      ]

  -- a connection in exec speaks for its process
  in_exec : (y : Connection) (pid : Pid) → y.condition ≡ InExec pid → process_in y.condition ≡ Some pid
  in_exec y pid e = ap process_in e

  maker_lives : (number : ℕ) (u : Unused) → get m.cookies.unused number ≡ Some u → u.kind ≡ kind.Exec → IsProcess m.journal u.pid → IsInExec m u.maker u.pid → IsProcess journal' u.pid
  maker_lives number u there is live w =
      elim (same_or_not u.maker.0 c) [
        | inl same ↦ (waits_still number u there same is w).live
        | inr ne ↦ keeps.others u.pid live (λ own. ne (sound.owners u.maker.0 c w.0 x u.pid w.1 here (in_exec w.0 u.pid w.2) own))
      ]

  cookie_lives : (number : ℕ) (u : Unused) → get m.cookies.unused number ≡ Some u → IsCookie m u → IsProcess journal' u.pid
  cookie_lives number u there is =
      elim (fork_or_exec u.kind) [
        | inl fork ↦ keeps.others u.pid is.process (λ own. fork_waits m u u.kind fork is.waits c x here own)
        | inr exec ↦ maker_lives number u there exec is.process (exec_waits m u u.kind exec is.waits)
      ]

  -- each unused cookie is as it was after the change of one connection
  pub cookie_keeps : (number : ℕ) (u : Unused) → get m.cookies.unused number ≡ Some u → IsCookie after u
  cookie_keeps number u there =
      let is = sound.cookies number u there in
      record {
        maker = elim (same_or_not u.maker.0 c) [
          | inl same ↦ subst (λ (n : ℕ). IsSome (get connections n)) (sym same) (subst (λ (o : Option Connection). IsSome o) (sym changes.here) (keeps.made number u there same))
          | inr ne ↦ subst (λ (o : Option Connection). IsSome o) (sym (changes.others u.maker.0 ne)) is.maker
        ];
        process = cookie_lives number u there is;
        waits = waits_on m after u u.kind (λ fork w. child_waits number u there w) (λ exec w. maker_waits number u there exec w) is.waits;
      }

-- ---- the machine

pub sound_change : (m : Machine) (c : ℕ) (x : Connection) (journal' : List Entry) (connections : FinMap nat_cmp Connection) (now : Option Connection)
    → IsSound m → get m.connections c ≡ Some x → Changes m.connections connections c now → Keeps m c x journal' now
    → IsSound (record m { journal = journal'; connections = connections })
sound_change m c x journal' connections now sound here changes keeps =
    let m' = record m { journal = journal'; connections = connections } in
    let still : AllByRecursion (λ e. IsDone m' e.who) m.journal = all_map (λ e. IsDone m e.who) (λ e. IsDone m' e.who)
    (λ e h. still_done m c x journal' connections now here changes keeps.done e.who h) m.journal sound.done in
    record {
      legal = elim keeps.grows [
        | inl e ↦ subst IsLegal (sym e) sound.legal
        | inr a ↦ subst IsLegal (sym a.grown) (legal_push m.journal a.entry sound.legal a.follows)
      ];
      keys = elim keeps.grows [
        | inl e ↦ subst HasOwnKeys (sym e) sound.keys
        | inr a ↦ subst HasOwnKeys (sym a.grown) (keys_push m.journal a.entry sound.keys (new_key m c x a.entry.who sound here a.about a.before))
      ];
      done = elim keeps.grows [
        | inl e ↦ subst (λ (j : List Entry). AllByRecursion (λ e. IsDone m' e.who) j) (sym e) still
        | inr a ↦ subst (λ (j : List Entry). AllByRecursion (λ e. IsDone m' e.who) j) (sym a.grown) (all_push (λ e. IsDone m' e.who) m.journal a.entry still
            (now_done m c journal' connections now a.entry.who (sound.opened c x here) changes.here a.about a.done))
      ];
      opened = λ d z h. elim (after_change m.connections connections c d z now changes h) [
        | inl e ↦ subst (λ n. IsOpened m.opened n) (sym e.0) (sound.opened c x here)
        | inr o ↦ sound.opened d z o.1
      ];
      each = λ d z h. elim (after_change m.connections connections c d z now changes h) [
        | inl e ↦ keeps.connection z e.1
        | inr o ↦ let old = sound.each d z o.1 in record {
          process = λ p s. keeps.others p (old.process p s) (λ own. o.0 (sound.owners d c z x p o.1 here s own));
          calls = old.calls;
        }
      ];
      owners = λ d l y z p h g s t. elim (after_change m.connections connections c d y now changes h) [
        | inl e ↦ elim (after_change m.connections connections c l z now changes g) [
          | inl f ↦ e.0 ∙ sym f.0
          | inr o ↦ elim (keeps.fresh y p e.1 s) [
            | inl own ↦ e.0 ∙ sound.owners c l x z p here o.1 own t
            | inr free ↦ absurd (free.unspoken l z o.1 t)
          ]
        ]
        | inr o ↦ elim (after_change m.connections connections c l z now changes g) [
          | inl f ↦ elim (keeps.fresh z p f.1 t) [
            | inl own ↦ sound.owners d c y x p o.1 here s own ∙ sym f.0
            | inr free ↦ absurd (free.unspoken d y o.1 s)
          ]
          | inr r ↦ sound.owners d l y z p o.1 r.1 s t
        ]
      ];
      jar = sound.jar;
      cookies = λ number u there. cookie_keeps m c x journal' connections now sound here changes keeps number u there;
      apart = sound.apart;
    }
