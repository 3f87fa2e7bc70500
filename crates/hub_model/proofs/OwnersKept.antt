-- What explains whose process a connection speaks for, and how a change keeps it.
use Rattle.std.proofs.Common.{◌≡◌, inl, inr, ℕ, ◌≤◌, false, true, List, [], ◌∷◌, ◌++◌, Option, Some, None, refl, sym, ap, subst, ◌∙◌, append-nil, arith}
use Rattle.std.specs.Prelude.{IfSome}
use Rattle.std.specs.List.{AllByRecursion}
use Rattle.std.specs.Ordering.{nat_cmp}
use Rattle.std.specs.FinMap.{FinMap, get, insert}
use Rattle.sp_base.specs.declared.names.ConnNo.{ConnNo}
use Rattle.sp_base.specs.declared.names.Pid.{Pid}
use Rattle.sp_base.specs.declared.names.ReqNo.{ReqNo}
use Rattle.kern_model.specs.declared.journal.Entry.{Entry}
use Rattle.kern_model.specs.declared.journal.Who.TheVariants.{Request}
use Rattle.kern_model.specs.declared.operation.Op.{Op}
use Rattle.kern_model.specs.declared.operation.Op.TheVariants.{Sys, Attach, Fork, Exec, Exit}
use Rattle.sp_fork.specs.Jar.{Jar}
use Rattle.sp_fork.specs.declared.unused.CookieKind.{CookieKind}
use Rattle.sp_fork.specs.declared.unused.CookieKind.TheVariants as kind
use Rattle.sp_fork.specs.declared.unused.Unused.{Unused}
use Rattle.hub_model.specs.Owners.{HasNewNumber, HasOwners, IsFirstUse, IsOwners, fork_of, made_at, maker_of, number_made, number_used, owner, owner_by}
use Rattle.hub_model.specs.Sound.{IsOpened}
use Rattle.hub_model.specs.State.{Connection, Machine, is_fresh, process_in}
use Rattle.hub_model.specs.declared.handover.Handover.{Handover}
use Rattle.hub_model.specs.declared.handover.Handover.TheVariants.{Attached, Forked, Readied, Joined, Imaged, Cancelled}
use Rattle.hub_model.proofs.Keeps.{all_map, moved}
use Rattle.hub_model.proofs.OwnersStay.{HasNothing, made_front, owner_after, owner_front, receiver, skipped}
use Rattle.tables.proofs.Maps.{Changes, after_change, put_changes}

-- ---- lists

each_append : {A : Type 0} (P : A → Type 0) (xs ys : List A) → AllByRecursion P xs → AllByRecursion P ys → AllByRecursion P (xs ++ ys)
each_append P [] ys h g = g
each_append P (x ∷ xs) ys h g = (h.0, each_append P xs ys h.1 g)

-- ---- the invariant

-- a connection's handshake was taken
abbrev pub IsHanded : Connection → Type 0
IsHanded x = is_fresh x.condition ≡ false

-- a handover is to a connection that was opened, and whose handshake was taken or that is over
abbrev pub IsReceived : Machine → Handover → Type 0
IsReceived m h = (c : ℕ) → receiver h ≡ Some c → IsOpened m.opened c × IfSome (get m.connections c) IsHanded

-- the cookie's number in a handover was given
pub record IsGiven (given : ℕ) (h : Handover) : Type 0 where
  pub made : (n : ℕ) → number_made h ≡ Some n → n ≤ given
  pub used : (n : ℕ) → number_used h ≡ Some n → n ≤ given

-- each unused cookie has a number that was given
abbrev pub HasGiven : Jar → Type 0
HasGiven jar = (n : ℕ) (u : Unused) → get jar.unused n ≡ Some u → n ≤ jar.given

-- no handover used up the cookie of this number
abbrev pub IsLeftUnused : ℕ → List Handover → Type 0
IsLeftUnused n handovers = AllByRecursion (λ g. number_used g ≡ Some n → ⊥) handovers

-- how a cookie of a kind was made: by the fork that made its process, or by a connection whose process it is
abbrev pub IsMadeAs : Machine → ℕ → Unused → CookieKind → Type 0
IsMadeAs m n u kind.Fork = (place : ℕ) × (fork_of m.handovers n ≡ Some place) × (made_at m.journal place ≡ Some u.pid.0)
IsMadeAs m n u kind.Exec = (maker_of m.handovers n ≡ Some u.maker.0) × (owner m u.maker.0 ≡ Some u.pid.0)

-- an unused cookie was made, and wasn't used up
pub record IsTracedCookie (m : Machine) (n : ℕ) (u : Unused) : Type 0 where
  pub made : IsMadeAs m n u u.kind
  pub unused : IsLeftUnused n m.handovers

-- what was handed over explains what the connections speak for and what the cookies hand over
pub record IsTraced (m : Machine) : Type 0 where
  pub owners : HasOwners m
  pub opened : (c : ℕ) (x : Connection) → get m.connections c ≡ Some x → IsOpened m.opened c
  pub received : AllByRecursion (λ h. IsReceived m h) m.handovers
  pub given : AllByRecursion (λ h. IsGiven m.cookies.given h) m.handovers
  pub jar : HasGiven m.cookies
  pub cookies : (n : ℕ) (u : Unused) → get m.cookies.unused n ≡ Some u → IsTracedCookie m n u

-- ---- what stays

-- an entry of a request is by the owner of its connection
abbrev pub IsByOwner : Machine → Entry → Type 0
IsByOwner m e = (c : ConnNo) (r : ReqNo) → e.who ≡ Request c r → IsOwners m c.0 e e.op

-- each owner is the same after a change
abbrev pub OwnersStay : Machine → Machine → Type 0
OwnersStay m m' = (c p : ℕ) → owner m c ≡ Some p → owner m' c ≡ Some p

still_owners : (m m' : Machine) → OwnersStay m m' → (c : ℕ) (e : Entry) (op : Op) → IsOwners m c e op → IsOwners m' c e op
still_owners m m' stay c e Attach h = stay c e.outcome.ret0 h
still_owners m m' stay c e Fork h = stay c e.pid.0 h
still_owners m m' stay c e Exec h = stay c e.pid.0 h
still_owners m m' stay c e Exit h = stay c e.pid.0 h
still_owners m m' stay c e (Sys call) h = stay c e.pid.0 h

pub entries_stay : (m m' : Machine) → OwnersStay m m' → (entries : List Entry) → AllByRecursion (λ e. IsByOwner m e) entries → AllByRecursion (λ e. IsByOwner m' e) entries
entries_stay m m' stay entries h = all_map (λ e. IsByOwner m e) (λ e. IsByOwner m' e) (λ e by c r who. still_owners m m' stay c.0 e e.op (by c r who)) entries h

-- a cookie's making stays where owners do, and where the handovers tell the same of its number
pub made_stays : (m m' : Machine) (more : List Entry) (n : ℕ) (u : Unused) (k : CookieKind) → OwnersStay m m' → m'.journal ≡ m.journal ++ more
    → fork_of m'.handovers n ≡ fork_of m.handovers n → maker_of m'.handovers n ≡ maker_of m.handovers n → IsMadeAs m n u k → IsMadeAs m' n u k
made_stays m m' more n u kind.Fork stay grown forks makers h =
    (h.0, forks ∙ h.1, subst (λ (j : List Entry). made_at j h.0 ≡ Some u.pid.0) (sym grown) (made_front m.journal more h.0 u.pid.0 h.2))
made_stays m m' more n u kind.Exec stay grown forks makers h = (makers ∙ h.0, stay u.maker.0 u.pid.0 h.1)

-- ---- one connection changes

-- a connection that speaks for the same process as before or for none, and that isn't fresh again
pub connection_traced : (m : Machine) (c : ℕ) (x : Connection) (connections : FinMap nat_cmp Connection) (now : Option Connection)
    → IsTraced m → get m.connections c ≡ Some x → Changes m.connections connections c now
    → ((x' : Connection) (p : Pid) → now ≡ Some x' → process_in x'.condition ≡ Some p → process_in x.condition ≡ Some p)
    → (IsHanded x → IfSome now IsHanded) → IsTraced (record m { connections = connections })
connection_traced m c x connections now traced here changes same handed =
    let m' = record m { connections = connections } in
    let stay : OwnersStay m m' = λ d p h. h in
    record {
      owners = record {
        speaks = λ d z p h s. elim (after_change m.connections connections c d z now changes h) [
          | inl e ↦ subst (λ n. owner m n ≡ Some p.0) (sym e.0) (traced.owners.speaks c x p here (same z p e.1 s))
          | inr o ↦ traced.owners.speaks d z p o.1 s
        ];
        entries = entries_stay m m' stay m.journal traced.owners.entries;
        once = traced.owners.once;
      };
      opened = λ d z h. elim (after_change m.connections connections c d z now changes h) [
        | inl e ↦ subst (λ n. IsOpened m.opened n) (sym e.0) (traced.opened c x here)
        | inr o ↦ traced.opened d z o.1
      ];
      received = all_map (λ h. IsReceived m h) (λ h. IsReceived m' h)
          (λ h is d to. (let was = is d to in (was.0, moved m.connections connections c d x now IsHanded here changes handed was.1))) m.handovers traced.received;
      given = traced.given;
      jar = traced.jar;
      cookies = λ n u at. (let was = traced.cookies n u at in record { made = made_stays m m' [] n u u.kind stay (sym (append-nil m.journal)) refl refl was.made; unused = was.unused });
    }

-- ---- the journal grows

-- entries are added, each by the owner of its connection where it is of a request
pub journal_traced : (m : Machine) (more : List Entry) → IsTraced m → AllByRecursion (λ e. IsByOwner (record m { journal = m.journal ++ more }) e) more
    → IsTraced (record m { journal = m.journal ++ more })
journal_traced m more traced by =
    let m' = record m { journal = m.journal ++ more } in
    let stay : OwnersStay m m' = λ d p h. owner_front m.journal more m.handovers d p h in
    record {
      owners = record {
        speaks = λ d z p h s. stay d p.0 (traced.owners.speaks d z p h s);
        entries = each_append (λ e. IsByOwner m' e) m.journal more (entries_stay m m' stay m.journal traced.owners.entries) by;
        once = traced.owners.once;
      };
      opened = traced.opened;
      received = all_map (λ h. IsReceived m h) (λ h. IsReceived m' h) (λ h is. is) m.handovers traced.received;
      given = traced.given;
      jar = traced.jar;
      cookies = λ n u at. (let was = traced.cookies n u at in record { made = made_stays m m' more n u u.kind stay refl refl refl was.made; unused = was.unused });
    }

-- ---- something is handed over, or a cookie is made or taken back

-- what a new handover owes, with the cookies after it
pub record Hands (m : Machine) (h : Handover) (cookies : Jar) : Type 0 where
  pub rises : HasNewNumber h m.handovers
  pub first : IsFirstUse h m.handovers
  pub given : IsGiven cookies.given h
  pub grows : m.cookies.given ≤ cookies.given
  pub jar : HasGiven cookies

-- the machine with other connections, another journal, other cookies, and a handover more
abbrev pub with_handover : Machine → FinMap nat_cmp Connection → List Entry → Jar → Handover → Machine
with_handover m connections journal cookies h = record m { connections = connections; journal = journal; cookies = cookies; handovers = h ∷ m.handovers }

given_grows : (given given' : ℕ) → given ≤ given' → (h : Handover) → IsGiven given h → IsGiven given' h
given_grows given given' le h g = record {
  made = λ n e. (let l = g.made n e in omega arith);
  used = λ n e. (let l = g.used n e in omega arith);
}

-- what was handed over tells the same of the numbers that a further handover doesn't make
told_same : (h : Handover) (handovers : List Handover) (n : ℕ) → (number_made h ≡ Some n → ⊥)
    → (fork_of (h ∷ handovers) n ≡ fork_of handovers n) × (maker_of (h ∷ handovers) n ≡ maker_of handovers n)
told_same (Forked k place) handovers n not = (skipped k n (Some place.0) (fork_of handovers n) not, refl)
told_same (Readied k c) handovers n not = (refl, skipped k n (Some c.0) (maker_of handovers n) not)
told_same (Attached c place) handovers n not = (refl, refl)
told_same (Joined c k) handovers n not = (refl, refl)
told_same (Imaged c k) handovers n not = (refl, refl)
told_same (Cancelled k) handovers n not = (refl, refl)

-- a further handover, where owners stay
record Going (m m' : Machine) (more : List Entry) (h : Handover) : Type 0 where
  stay : OwnersStay m m'
  grown : m'.journal ≡ m.journal ++ more
  by : AllByRecursion (λ e. IsByOwner m' e) more
  hands : Hands m h m'.cookies

handed : (m : Machine) (connections : FinMap nat_cmp Connection) (journal more : List Entry) (cookies : Jar) (h : Handover) → IsTraced m
    → Going m (with_handover m connections journal cookies h) more h
    → ((c : ℕ) (x : Connection) (p : Pid) → get connections c ≡ Some x → process_in x.condition ≡ Some p → owner (with_handover m connections journal cookies h) c ≡ Some p.0)
    → ((c : ℕ) (x : Connection) → get connections c ≡ Some x → IsOpened m.opened c)
    → AllByRecursion (λ g. IsReceived (with_handover m connections journal cookies h) g) (h ∷ m.handovers)
    → ((n : ℕ) (u : Unused) → get cookies.unused n ≡ Some u → IsTracedCookie (with_handover m connections journal cookies h) n u)
    → IsTraced (with_handover m connections journal cookies h)
handed m connections journal more cookies h traced is speaks opened received made =
    let m' = with_handover m connections journal cookies h in
    record {
      owners = record {
        speaks = speaks;
        entries = subst (λ (j : List Entry). AllByRecursion (λ e. IsByOwner m' e) j) (sym is.grown)
            (each_append (λ e. IsByOwner m' e) m.journal more (entries_stay m m' is.stay m.journal traced.owners.entries) is.by);
        once = (is.hands.rises, is.hands.first, traced.owners.once);
      };
      opened = opened;
      received = received;
      given = (is.hands.given, all_map (λ g. IsGiven m.cookies.given g) (λ g. IsGiven cookies.given g) (given_grows m.cookies.given cookies.given is.hands.grows) m.handovers traced.given);
      jar = is.hands.jar;
      cookies = made;
    }

-- a cookie that a handover neither makes nor uses up
pub cookie_stays : (m m' : Machine) (more : List Entry) (h : Handover) (n : ℕ) (u : Unused) → OwnersStay m m' → m'.journal ≡ m.journal ++ more → m'.handovers ≡ h ∷ m.handovers
    → IsTracedCookie m n u → (number_made h ≡ Some n → ⊥) → (number_used h ≡ Some n → ⊥) → IsTracedCookie m' n u
cookie_stays m m' more h n u stay grown hands was made used = record {
  made = made_stays m m' more n u u.kind stay grown
      (ap (λ (hs : List Handover). fork_of hs n) hands ∙ (told_same h m.handovers n made).0) (ap (λ (hs : List Handover). maker_of hs n) hands ∙ (told_same h m.handovers n made).1) was.made;
  unused = subst (λ (hs : List Handover). IsLeftUnused n hs) (sym hands) (used, was.unused);
}

-- owners stay where a handover is to no connection
pub owners_beside : (m : Machine) (cookies : Jar) (h : Handover) → receiver h ≡ None → OwnersStay m (with_handover m m.connections m.journal cookies h)
owners_beside m cookies h nobody d p is = owner_after m.journal h m.handovers d p (λ e. absurd (let k : None ≡ Some d = sym nobody ∙ e in cc)) is

-- a handover that is to no connection
pub cookie_traced : (m : Machine) (cookies : Jar) (h : Handover) → IsTraced m → receiver h ≡ None → Hands m h cookies
    → ((n : ℕ) (u : Unused) → get cookies.unused n ≡ Some u → IsTracedCookie (with_handover m m.connections m.journal cookies h) n u)
    → IsTraced (with_handover m m.connections m.journal cookies h)
cookie_traced m cookies h traced nobody hands made =
    let m' = with_handover m m.connections m.journal cookies h in
    let stay = owners_beside m cookies h nobody in
    handed m m.connections m.journal [] cookies h traced (record { stay = stay; grown = sym (append-nil m.journal); by = tt; hands = hands })
    (λ d z p at s. stay d p.0 (traced.owners.speaks d z p at s))
    traced.opened
    ((λ d e. absurd (let k : None ≡ Some d = sym nobody ∙ e in cc)), all_map (λ g. IsReceived m g) (λ g. IsReceived m' g) (λ g is. is) m.handovers traced.received)
    made

-- nothing was handed to a fresh connection
pub nothing_yet : (m : Machine) (c : ℕ) (x : Connection) → IsTraced m → get m.connections c ≡ Some x → is_fresh x.condition ≡ true → HasNothing c m.handovers
nothing_yet m c x traced here fresh = all_map (λ h. IsReceived m h) (λ h. receiver h ≡ Some c → ⊥)
    (λ h is to. (let handed : IsHanded x = subst (λ (o : Option Connection). IfSome o IsHanded) here (is c to).1 in
    let k : true ≡ false = sym fresh ∙ handed in cc)) m.handovers traced.received

-- owners stay where a handover is to a fresh connection
pub owners_receive : (m : Machine) (c : ℕ) (x : Connection) (connections : FinMap nat_cmp Connection) (journal more : List Entry) (cookies : Jar) (h : Handover)
    → IsTraced m → get m.connections c ≡ Some x → is_fresh x.condition ≡ true → receiver h ≡ Some c → journal ≡ m.journal ++ more
    → OwnersStay m (with_handover m connections journal cookies h)
owners_receive m c x connections journal more cookies h traced here fresh to grown d p is =
    subst (λ (j : List Entry). owner_by j (h ∷ m.handovers) d ≡ Some p) (sym grown)
    (owner_after (m.journal ++ more) h m.handovers d p
    (λ e. (let same : c ≡ d = (let q = sym to ∙ e in cc) in subst (λ n. HasNothing n m.handovers) same (nothing_yet m c x traced here fresh)))
    (owner_front m.journal more m.handovers d p is))

-- a handover to a fresh connection, which speaks for its owner from then on
pub receive_traced : (m : Machine) (c : ℕ) (x x' : Connection) (journal more : List Entry) (cookies : Jar) (h : Handover) → IsTraced m → get m.connections c ≡ Some x → is_fresh x.condition ≡ true
    → receiver h ≡ Some c → IsHanded x' → journal ≡ m.journal ++ more
    → ((p : Pid) → process_in x'.condition ≡ Some p → owner (with_handover m (insert m.connections c x') journal cookies h) c ≡ Some p.0)
    → AllByRecursion (λ e. IsByOwner (with_handover m (insert m.connections c x') journal cookies h) e) more
    → Hands m h cookies → number_made h ≡ None
    → ((n : ℕ) (u : Unused) → get cookies.unused n ≡ Some u → (get m.cookies.unused n ≡ Some u) × (number_used h ≡ Some n → ⊥))
    → IsTraced (with_handover m (insert m.connections c x') journal cookies h)
receive_traced m c x x' journal more cookies h traced here fresh to handed_now grown owns by hands makes left =
    let connections = insert m.connections c x' in
    let m' = with_handover m connections journal cookies h in
    let changes = put_changes m.connections c x' in
    let stay = owners_receive m c x connections journal more cookies h traced here fresh to grown in
    handed m connections journal more cookies h traced (record { stay = stay; grown = grown; by = by; hands = hands })
    (λ d z p at s. elim (after_change m.connections connections c d z (Some x') changes at) [
      | inl e ↦ (let same : x' ≡ z = (let q = e.1 in cc) in subst (λ n. owner m' n ≡ Some p.0) (sym e.0) (owns p (ap (λ (y : Connection). process_in y.condition) same ∙ s)))
      | inr o ↦ stay d p.0 (traced.owners.speaks d z p o.1 s)
    ])
    (λ d z at. elim (after_change m.connections connections c d z (Some x') changes at) [
      | inl e ↦ subst (λ n. IsOpened m.opened n) (sym e.0) (traced.opened c x here)
      | inr o ↦ traced.opened d z o.1
    ]) (
      (λ d e. (let same : c ≡ d = (let q = sym to ∙ e in cc) in subst (λ n. IsOpened m.opened n × IfSome (get connections n) IsHanded) same
          (traced.opened c x here, subst (λ (o : Option Connection). IfSome o IsHanded) (sym changes.here) handed_now))),
      all_map (λ g. IsReceived m g) (λ g. IsReceived m' g) (λ g is d e. (let was = is d e in
          (was.0, moved m.connections connections c d x (Some x') IsHanded here changes (λ _. handed_now) was.1))) m.handovers traced.received,
    )
    (λ n u at. (let was = left n u at in
    cookie_stays m m' more h n u stay grown refl (traced.cookies n u was.0) (λ e. absurd (let k : None ≡ Some n = sym makes ∙ e in cc)) was.1))
