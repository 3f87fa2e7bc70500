-- What becomes of new host descriptors.
use Rattle.std.proofs.Common.{◌≡◌, ℕ, ◌<◌, ◌≤◌, Bool, true, false, cond, List, [], ◌∷◌, None, Option, Some, refl, ap, ◌∙◌, arith}
use Rattle.std.specs.Prelude.{◌||◌, is_none, nat_le}
use Rattle.std.proofs.lemmas.Bool.Decides.{nat_tests}
use Rattle.sp_base.specs.Table.{at}
use Rattle.sp_base.specs.declared.call.Call.TheVariants as call
use Rattle.sp_base.specs.declared.names.Answer.{Answer}
use Rattle.hijack_rules.specs.declared.names.SideName.{SideName}
use Rattle.hijack_rules.specs.declared.names.SideName.TheVariants as side
use Rattle.hijack_split.proofs.Above.{no_alias_above}
use Rattle.hijack_split.proofs.NamingLaws.{low}
use Rattle.hijack_split.specs.Laws.{Always, IsFair, NamesHost, NamesHosts}
use Rattle.hijack_split.specs.NewDescriptors.{gives_up, moved, replaces, settles, settles_one, settles_second, settles_two}
use Rattle.hijack_split.specs.Steps.{Asks, Gives, Steps, is_error}
use Rattle.hijack_split.specs.View.{Naming, above_all, named, named_by}
use Rattle.hijack_split.specs.declared.change.Alias.{Alias}
use Rattle.hijack_split.specs.declared.change.Change.{Change}
use Rattle.hijack_split.specs.declared.change.Change.TheVariants.{Stays}
use Rattle.hijack_split.specs.declared.change.Named.TheVariants.{Host}
use Rattle.hijack_split.specs.declared.commands.TheConstants.{F_DUPFD}
use Rattle.hijack_split.specs.declared.turn.Stage.TheVariants.{Raise}

-- from the lowest number above all aliases on and below the offset a number names the host's
above_names_host : (v : Naming) (d : ℕ) → above_all v.aliases ≤ d → d < v.offset → named v d ≡ Host d
unfolding named
above_names_host v d high small = ap (named_by v d) (no_alias_above v.aliases d high) ∙ low v d small

-- a number below the offset without an alias names the host's
unaliased_names_host : (v : Naming) (d : ℕ) → is_none (at v.aliases d) ≡ true → d < v.offset → named v d ≡ Host d
unfolding named
unaliased_names_host v d e small = by (at v.aliases d) e
  where
    by : (o : Option Alias) → is_none o ≡ true → named_by v d o ≡ Host d
    by None e = low v d small
    by (Some a) e = absurd (cc)

-- what is said of a reply that isn't given out
record IsGivenUp (P : Option SideName → Answer → Change → Type 0) : Type 0 where
  all : (ds : List ℕ) → Always IsFair P (gives_up ds)

-- a new descriptor below the offset is given out under a number that names the host's
settled : {P : Option SideName → Answer → Change → Type 0} → IsGivenUp P → (v : Naming) (flag : Bool) (d : ℕ) (ds : List ℕ) (keep : ℕ → Steps)
    → ((e : ℕ) → named v e ≡ Host e → Always IsFair P (keep e)) → d < v.offset → Always IsFair P (settles v flag d ds keep)
settled {P = P} up v flag d ds keep h small = first (is_none (at v.aliases d)) refl
  where
    flagged : (b : Bool) (e : ℕ) → named v e ≡ Host e → Always IsFair P (replaces b d e keep)
    flagged true e is = λ a f b g. h e is
    flagged false e is = λ a f. h e is

    second : (a : Answer) → IsFair side.Host (call.Fcntl d F_DUPFD (above_all v.aliases)) a → (b : Bool) → is_error a ≡ b → (c : Bool) → nat_le v.offset a.ret0 ≡ c
        → Always IsFair P (cond b (gives_up ds) (cond c (gives_up (a.ret0 ∷ ds)) (replaces flag d a.ret0 keep)))
    second a fair true e c f = up.all ds
    second a fair false e true f = up.all (a.ret0 ∷ ds)
    second a fair false e false f =
        let fine : a.err ≡ 0 = grind (arith, nat_tests) in
        let below : a.ret0 < v.offset = grind (arith, nat_tests) in
        flagged flag a.ret0 (above_names_host v a.ret0 (fair refl fine) below)

    first : (b : Bool) → is_none (at v.aliases d) ≡ b
        → Always IsFair P (cond b (keep d) (Asks side.Host (call.Fcntl d F_DUPFD (above_all v.aliases)) Raise (moved v flag d ds keep)))
    first true e = h d (unaliased_names_host v d e small)
    first false e = λ a fair. second a fair (is_error a) refl (nat_le v.offset a.ret0) refl

one_up : (v : Naming) → IsGivenUp (NamesHost v)
one_up v = record { all = given }
  where
    given : (ds : List ℕ) → Always IsFair (NamesHost v) (gives_up ds)
    given [] = tt
    given (d ∷ ds) = λ a f. given ds

pub one_names_host : (v : Naming) (flag : Bool) (answer : Answer) → Always IsFair (NamesHost v) (settles_one v flag answer)
one_names_host v flag answer = by (nat_le v.offset answer.ret0) refl
  where
    keep : ℕ → Steps
    keep d = Gives (Some side.Host) (record answer { ret0 = d }) Stays

    by : (b : Bool) → nat_le v.offset answer.ret0 ≡ b → Always IsFair (NamesHost v) (cond b (gives_up (answer.ret0 ∷ [])) (settles v flag answer.ret0 (answer.ret0 ∷ []) keep))
    by true e = (one_up v).all (answer.ret0 ∷ [])
    by false e = settled (one_up v) v flag answer.ret0 (answer.ret0 ∷ []) keep (λ d is. is) (grind (arith, nat_tests))

two_up : (v : Naming) → IsGivenUp (NamesHosts v)
two_up v = record { all = given }
  where
    given : (ds : List ℕ) → Always IsFair (NamesHosts v) (gives_up ds)
    given [] = tt
    given (d ∷ ds) = λ a f. given ds

pub two_name_hosts : (v : Naming) (answer : Answer) → Always IsFair (NamesHosts v) (settles_two v answer)
two_name_hosts v answer = first (nat_le v.offset answer.ret0) refl (nat_le v.offset answer.ret1) refl
  where
    ds : List ℕ
    ds = answer.ret0 ∷ answer.ret1 ∷ []

    keep : ℕ → ℕ → Steps
    keep d e = Gives (Some side.Host) (record answer { ret0 = d; ret1 = e }) Stays

    second : (d : ℕ) → named v d ≡ Host d → answer.ret1 < v.offset → Always IsFair (NamesHosts v) (settles_second v answer d)
    second d is small = settled (two_up v) v false answer.ret1 (d ∷ answer.ret1 ∷ []) (keep d) (λ e names. (is, names)) small

    first : (b : Bool) → nat_le v.offset answer.ret0 ≡ b → (c : Bool) → nat_le v.offset answer.ret1 ≡ c
        → Always IsFair (NamesHosts v) (cond (b || c) (gives_up ds) (settles v false answer.ret0 ds (settles_second v answer)))
    first true e c f = (two_up v).all ds
    first false e true f = (two_up v).all ds
    first false e false f =
        let small : answer.ret0 < v.offset = grind (arith, nat_tests) in
        let next : answer.ret1 < v.offset = grind (arith, nat_tests) in
        settled (two_up v) v false answer.ret0 ds (settles_second v answer) (λ d is. second d is next) small
