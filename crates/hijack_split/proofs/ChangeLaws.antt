-- How calls change a view, and what the splitter answers by itself.
use Rattle.std.proofs.Common.{◌≡◌, ℕ, Bool, true, false, nat_lt, cond, List, None, Option, Some, refl, arith}
use Rattle.std.proofs.lemmas.Bool.Decides.{nat_tests}
use Rattle.std.specs.Prelude.{◌==◌, ◌-◌, bit_and, nat_le, not}
use Rattle.sp_base.specs.Table.{at}
use Rattle.sp_base.specs.declared.call.Call.{Call}
use Rattle.sp_base.specs.declared.call.Call.TheVariants as call
use Rattle.sp_base.specs.declared.errno.Errno.TheVariants.{Ebadf, Eopnotsupp, Exdev}
use Rattle.sp_base.specs.declared.names.Answer.{Answer}
use Rattle.sp_copy.specs.declared.part.Part.{Part}
use Rattle.hijack_rules.specs.Sides.{socket_side}
use Rattle.hijack_rules.specs.declared.names.SideName.{SideName}
use Rattle.hijack_rules.specs.declared.names.SideName.TheVariants.{Host, Rump}
use Rattle.hijack_rules.specs.declared.rules.Rules.{Rules}
use Rattle.hijack_rules.specs.declared.rules.Rules.TheVariants as rules_are
use Rattle.hijack_split.proofs.Everywhere.{IsMild, asks_all, old_all, side_all}
use Rattle.hijack_split.specs.Calls.{below_offset, change_by, kind_of, with_first, with_paths}
use Rattle.hijack_split.specs.Dup2.{closes_old, host_dup2, onto_alias, onto_itself, onto_rump, other_dup2, rump_dup2, same_dup2}
use Rattle.hijack_split.specs.Laws.{Always, AnswersItself, Anyhow, IsChangeOf, IsEmfile, IsRenamed}
use Rattle.hijack_split.specs.Split.{is_divided, on_descriptor, on_path, on_paths, on_side, path_of, route_by, route_of, same_side, steps_by, steps_of}
use Rattle.hijack_split.specs.Steps.{Gives, Steps, asks, raised, refuses}
use Rattle.hijack_split.specs.View.{Naming, holds, named}
use Rattle.hijack_split.specs.declared.change.Alias.{Alias}
use Rattle.hijack_split.specs.declared.change.Change.TheVariants.{Drops, Marks, Sets, Stays}
use Rattle.hijack_split.specs.declared.change.Named.{Named}
use Rattle.hijack_split.specs.declared.change.Named.TheVariants as named_as
use Rattle.hijack_split.specs.declared.commands.TheConstants.{F_GETFD, F_SETFD, FD_CLOEXEC}
use Rattle.hijack_split.specs.declared.kind.Kind.{Kind}
use Rattle.hijack_split.specs.declared.kind.Kind.TheVariants as kind
use Rattle.hijack_split.specs.declared.turn.Route.TheVariants as route

-- ---- steps in two readings

-- whatever the answers, the replies bring a change that the call may bring; and the splitter answers by itself as it may
pub record IsLawful (c : Call) (steps : Steps) : Type 0 where
  pub changes : Always Anyhow (IsChangeOf c) steps
  pub own : AnswersItself steps

changes_mild : (c : Call) → IsMild (IsChangeOf c)
changes_mild c = record { own = tt; kernel = λ side answer. tt }

errors_mild : IsMild IsEmfile
errors_mild = record { own = refl; kernel = λ side answer. tt }

both : (c : Call) (b : Bool) (x y : Steps) → IsLawful c x → IsLawful c y → IsLawful c (cond b x y)
both c true x y e f = e
both c false x y e f = f

-- ---- a call on one kernel

-- a call that succeeds changes the view as it may
fits : (c : Call) (side : SideName) (answer : Answer) → IsChangeOf c (Some side) answer (change_by side c)
fits (call.Chdir path) side answer = refl
fits (call.Close fd) side answer = refl
fits (call.Fcntl fd command argument) side answer = marks (command == F_SETFD) refl
  where
    marks : (b : Bool) → (command == F_SETFD) ≡ b → IsChangeOf (call.Fcntl fd command argument) (Some side) answer (cond b (Marks fd (not (bit_and argument FD_CLOEXEC == 0))) Stays)
    marks true e = (grind (arith, nat_tests), refl)
    marks false e = tt
fits c side answer = tt

-- no change is an own error
any_is_fine : (side : SideName) (c : Call) (answer : Answer) → IsEmfile (Some side) answer (change_by side c)
any_is_fine side c answer = tt

asked : (c : Call) (side : SideName) (d : Call) (follow : Answer → Steps)
    → ((answer : Answer) → Always Anyhow (IsChangeOf c) (follow answer)) → ((answer : Answer) → Always Anyhow IsEmfile (follow answer)) → IsLawful c (asks side d follow)
asked c side d follow h k = record { changes = asks_all (changes_mild c) side d follow h; own = λ answer. asks_all errors_mild side d follow k answer tt }

on_side_lawful : (v : Naming) (c : Call) (side : SideName) (renamed : Call) → IsLawful c (on_side v c side renamed)
unfolding on_side
on_side_lawful v c side renamed = record {
  changes = side_all (changes_mild c) v c side renamed (fits c side);
  own = λ answer. side_all errors_mild v c side renamed (any_is_fine side c) answer tt;
}

on_path_lawful : (v : Naming) (c : Call) (to : SideName × ℕ) → IsLawful c (on_path v c to)
unfolding on_path
on_path_lawful v c to = on_side_lawful v c to.0 (with_first c to.1)

on_paths_lawful : (v : Naming) (c : Call) (to new_to : SideName × ℕ) → IsLawful c (on_paths v c to new_to)
unfolding on_paths
on_paths_lawful v c to new_to = both c (same_side to.0 new_to.0) (on_side v c to.0 (with_paths c to.1 new_to.1)) (refuses Exdev)
    (on_side_lawful v c to.0 (with_paths c to.1 new_to.1)) (record { changes = tt; own = (refl, refl) })

on_descriptor_lawful : (v : Naming) (c : Call) (name : Named) → IsLawful c (on_descriptor v c name)
on_descriptor_lawful v c (named_as.Rump r) = on_side_lawful v c Rump (below_offset v.offset (with_first c r))
on_descriptor_lawful v c (named_as.Host h) = on_side_lawful v c Host (with_first c h)
on_descriptor_lawful v c named_as.Nothing = record { changes = tt; own = (refl, refl) }

-- ---- dup2

onto_alias_lawful : (v : Naming) (o r n : ℕ) → IsLawful (call.Dup2 o n) (onto_alias v r n)
onto_alias_lawful v o r n = asked (call.Dup2 o n) Rump (call.Dup r) (λ answer. closes_old n (at v.aliases n) (Gives (Some Rump) (record answer { ret0 = n }) (Sets n answer.ret0)))
    (λ answer. old_all (IsChangeOf (call.Dup2 o n)) n (at v.aliases n) (Some Rump) (record answer { ret0 = n }) (Sets n answer.ret0) refl)
    (λ answer. old_all IsEmfile n (at v.aliases n) (Some Rump) (record answer { ret0 = n }) (Sets n answer.ret0) tt)

over : Naming → ℕ → ℕ → Steps
over v r n = asks Rump (call.Dup2 r (n - v.offset)) (λ answer. Gives (Some Rump) (record answer { ret0 = raised v answer.ret0 }) Stays)

over_lawful : (v : Naming) (o r n : ℕ) → IsLawful (call.Dup2 o n) (over v r n)
unfolding over
over_lawful v o r n = asked (call.Dup2 o n) Rump (call.Dup2 r (n - v.offset)) (λ answer. Gives (Some Rump) (record answer { ret0 = raised v answer.ret0 }) Stays) (λ answer. tt) (λ answer. tt)

onto_rump_lawful : (v : Naming) (o r n : ℕ) → IsLawful (call.Dup2 o n) (onto_rump v r n)
unfolding over
onto_rump_lawful v o r n = both (call.Dup2 o n) (holds v.aliases (n - v.offset)) (refuses Ebadf) (over v r n) (record { changes = tt; own = (refl, refl) }) (over_lawful v o r n)

rump_lawful : (v : Naming) (o r n : ℕ) → IsLawful (call.Dup2 o n) (rump_dup2 v r n)
rump_lawful v o r n =
    both (call.Dup2 o n) (nat_le v.offset n) (onto_rump v r n) (cond (nat_lt n 32) (onto_alias v r n) (refuses Eopnotsupp)) (onto_rump_lawful v o r n)
    (both (call.Dup2 o n) (nat_lt n 32) (onto_alias v r n) (refuses Eopnotsupp) (onto_alias_lawful v o r n) (record { changes = tt; own = (refl, refl) }))

host_lawful : (v : Naming) (o h n : ℕ) (alias : Option Alias) → IsLawful (call.Dup2 o n) (host_dup2 v h n alias)
host_lawful v o h n (Some alias) = asked (call.Dup2 o n) Host (call.Dup2 h n) (λ answer. closes_old n (Some alias) (Gives (Some Host) answer (Drops n)))
    (λ answer. old_all (IsChangeOf (call.Dup2 o n)) n (Some alias) (Some Host) answer (Drops n) refl)
    (λ answer. old_all IsEmfile n (Some alias) (Some Host) answer (Drops n) tt)
host_lawful v o h n None = both (call.Dup2 o n) (nat_lt n v.offset) (asks Host (call.Dup2 h n) (λ answer. Gives (Some Host) answer Stays)) (refuses Eopnotsupp)
    (asked (call.Dup2 o n) Host (call.Dup2 h n) (λ answer. Gives (Some Host) answer Stays) (λ answer. tt) (λ answer. tt)) (record { changes = tt; own = (refl, refl) })

other_lawful : (v : Naming) (o n : ℕ) (name : Named) → IsLawful (call.Dup2 o n) (other_dup2 v n name)
other_lawful v o n (named_as.Rump r) = rump_lawful v o r n
other_lawful v o n (named_as.Host h) = host_lawful v o h n (at v.aliases n)
other_lawful v o n named_as.Nothing = record { changes = tt; own = (refl, refl) }

onto_itself_lawful : (o n : ℕ) (side : SideName) (number : ℕ) → IsLawful (call.Dup2 o n) (onto_itself side number n)
onto_itself_lawful o n side number = asked (call.Dup2 o n) side (call.Fcntl number F_GETFD 0) (λ answer. Gives (Some side) (record answer { ret0 = n }) Stays) (λ answer. tt) (λ answer. tt)

same_lawful : (o n : ℕ) (name : Named) → IsLawful (call.Dup2 o n) (same_dup2 n name)
same_lawful o n (named_as.Rump r) = onto_itself_lawful o n Rump r
same_lawful o n (named_as.Host h) = onto_itself_lawful o n Host h
same_lawful o n named_as.Nothing = record { changes = tt; own = (refl, refl) }

-- ---- all calls

-- what decides where a call goes isn't dup2
abbrev IsOther : Kind → Type 0
IsOther (kind.Dup2 fd new_fd) = ⊥
IsOther _ = Unit {0}

by_kind : (rules : Rules) (v : Naming) (mem : List Part) (c : Call) (k : Kind) → IsOther k → IsLawful c (steps_by v c (route_by rules v mem k))
by_kind rules v mem c kind.Host h = on_side_lawful v c Host c
by_kind rules v mem c (kind.Descriptor fd) h = on_descriptor_lawful v c (named v fd)
by_kind rules v mem c (kind.Path path) h = on_path_lawful v c (path_of rules v mem path)
by_kind rules v mem c (kind.Paths path new_path) h = on_paths_lawful v c (path_of rules v mem path) (path_of rules v mem new_path)
by_kind rules v mem c (kind.Family family) h = on_side_lawful v c (socket_side rules family) c
by_kind rules v mem c (kind.Dup2 fd new_fd) h = absurd h
by_kind rules v mem c (kind.Poll entries count timeout) h = divided (is_divided mem entries count timeout)
  where
    divided : (b : Bool) → IsLawful c (steps_by v c (cond b route.Divided (route.Whole Host)))
    divided true = record { changes = tt; own = tt }
    divided false = on_side_lawful v c Host c

by_call : (rules : Rules) (v : Naming) (mem : List Part) (c : Call) → IsLawful c (steps_by v c (route_by rules v mem (kind_of c)))
by_call rules v mem (call.Dup2 o n) = both (call.Dup2 o n) (o == n) (same_dup2 n (named v o)) (other_dup2 v n (named v o)) (same_lawful o n (named v o)) (other_lawful v o n (named v o))
by_call rules v mem c = by_kind rules v mem c (kind_of c) tt

pub all_lawful : (rules : Rules) (v : Naming) (mem : List Part) (c : Call) → IsLawful c (steps_of rules v mem c)
unfolding route_of
all_lawful rules_are.Raw v mem c = record { changes = λ a f. tt; own = λ a. tt }
all_lawful (rules_are.Divided division) v mem c = by_call (rules_are.Divided division) v mem c

-- ---- renamed calls

pub first_renamed : (c : Call) (word : ℕ) → IsRenamed c (with_first c word) 1
first_renamed call.Getpid word = record { number = refl; words = refl }
first_renamed c word = record { number = refl; words = refl }

pub paths_renamed : (c : Call) (path new_path : ℕ) → IsRenamed c (with_paths c path new_path) 2
paths_renamed (call.Link p q) path new_path = record { number = refl; words = refl }
paths_renamed (call.Rename p q) path new_path = record { number = refl; words = refl }
paths_renamed c path new_path = record { number = refl; words = refl }
