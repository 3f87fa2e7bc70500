-- A call has eight steps at the most.
use Rattle.std.proofs.Common.{ℕ, zero, suc, ◌-◌, Bool, true, false, List, [], ◌∷◌, Option, None, Some, cond, nat_lt}
use Rattle.std.specs.Prelude.{nat_le, ◌||◌, ◌==◌, is_none}
use Rattle.sp_base.specs.Table.{at}
use Rattle.sp_base.specs.declared.call.Call.{Call}
use Rattle.sp_base.specs.declared.call.Call.TheVariants as call
use Rattle.sp_base.specs.declared.errno.Errno.TheVariants.{Ebadf, Eopnotsupp, Exdev}
use Rattle.sp_base.specs.declared.names.Answer.{Answer}
use Rattle.hijack_rules.specs.declared.names.SideName.{SideName}
use Rattle.hijack_rules.specs.declared.names.SideName.TheVariants.{Host, Rump}
use Rattle.hijack_split.specs.Calls.{below_offset, change_by, made_by, sets_flag, with_first, with_paths}
use Rattle.hijack_split.specs.Dup2.{closes_old, host_dup2, onto_alias, onto_itself, onto_rump, other_dup2, rump_dup2, same_dup2}
use Rattle.hijack_split.specs.NewDescriptors.{closes, gives_up, moved, replaces, settles, settles_one, settles_second, settles_two, succeeds}
use Rattle.hijack_split.specs.Split.{on_path, on_paths, on_side, same_side, steps_by}
use Rattle.hijack_split.specs.Steps.{Asks, Gives, Polls, Steps, asks, is_error, raised, refuses}
use Rattle.hijack_split.specs.View.{Naming, above_all, holds, named}
use Rattle.hijack_split.specs.declared.change.Alias.{Alias}
use Rattle.hijack_split.specs.declared.change.Change.{Change}
use Rattle.hijack_split.specs.declared.change.Change.TheVariants.{Drops, Sets, Stays}
use Rattle.hijack_split.specs.declared.change.Named.{Named}
use Rattle.hijack_split.specs.declared.change.Named.TheVariants as named_as
use Rattle.hijack_split.specs.declared.commands.TheConstants.{F_DUPFD, F_GETFD}
use Rattle.hijack_split.specs.declared.turn.Made.{Made}
use Rattle.hijack_split.specs.declared.turn.Made.TheVariants as made_as
use Rattle.hijack_split.specs.declared.turn.Route.{Route}
use Rattle.hijack_split.specs.declared.turn.Route.TheVariants as route
use Rattle.hijack_split.specs.declared.turn.Stage.TheVariants.{Raise}
use Rattle.hijack_calls.specs.Turns.{Ends, IsWhole}

-- what ends with so many turns ends with one more
pub ends_later : (n : ℕ) (steps : Steps) → Ends n steps → Ends (suc n) steps
ends_later zero steps e = absurd e
ends_later (suc n) (Asks side call stage follow) e = λ answer. ends_later n (follow answer) (e answer)
ends_later (suc n) (Gives by answer change) e = tt
ends_later (suc n) Polls e = absurd e

-- either way of a test ends
either : (n : ℕ) (b : Bool) (x y : Steps) → Ends n x → Ends n y → Ends n (cond b x y)
either n true x y e f = e
either n false x y e f = f

-- a duplicate takes the place of what was made
replaced : (n : ℕ) (flag : Bool) (d e : ℕ) (keep : ℕ → Steps) → Ends n (keep e) → Ends (suc (suc n)) (replaces flag d e keep)
replaced n true d e keep h = λ a b. h
replaced n false d e keep h = ends_later (suc n) (closes d (keep e)) (λ a. h)

-- one new descriptor: it is kept as it is, or it is moved, or what was made is closed
settled : (n : ℕ) (v : Naming) (flag : Bool) (d : ℕ) (made : List ℕ) (keep : ℕ → Steps)
    → ((e : ℕ) → Ends n (keep e)) → Ends (suc (suc n)) (gives_up made) → ((e : ℕ) → Ends (suc (suc n)) (gives_up (e ∷ made)))
    → Ends (suc (suc (suc n))) (settles v flag d made keep)
settled n v flag d made keep kept up more =
    either (suc (suc (suc n))) (is_none (at v.aliases d)) (keep d) (Asks Host (call.Fcntl d F_DUPFD (above_all v.aliases)) Raise (moved v flag d made keep))
    (ends_later (suc (suc n)) (keep d) (ends_later (suc n) (keep d) (ends_later n (keep d) (kept d))))
    (λ answer. moves answer)
  where
    moves : (answer : Answer) → Ends (suc (suc n)) (moved v flag d made keep answer)
    moves answer =
        either (suc (suc n)) (is_error answer) (gives_up made) (cond (nat_le v.offset answer.ret0) (gives_up (answer.ret0 ∷ made)) (replaces flag d answer.ret0 keep)) up
        (either (suc (suc n)) (nat_le v.offset answer.ret0) (gives_up (answer.ret0 ∷ made)) (replaces flag d answer.ret0 keep) (more answer.ret0)
        (replaced n flag d answer.ret0 keep (kept answer.ret0)))

one_ends : (v : Naming) (flag : Bool) (answer : Answer) → Ends 8 (settles_one v flag answer)
one_ends v flag answer =
    either 8 (nat_le v.offset answer.ret0) (gives_up (answer.ret0 ∷ [])) (settles v flag answer.ret0 (answer.ret0 ∷ []) (λ d. Gives (Some Host) (record answer { ret0 = d }) Stays))
    (λ a. tt)
    (settled 5 v flag answer.ret0 (answer.ret0 ∷ []) (λ d. Gives (Some Host) (record answer { ret0 = d }) Stays) (λ e. tt) (λ a. tt) (λ e a b. tt))

second_ends : (v : Naming) (answer : Answer) (d : ℕ) → Ends 5 (settles_second v answer d)
second_ends v answer d =
    settled 2 v false answer.ret1 (d ∷ answer.ret1 ∷ []) (λ e. Gives (Some Host) (record answer { ret0 = d; ret1 = e }) Stays) (λ e. tt) (λ a b. tt) (λ e a b c. tt)

two_end : (v : Naming) (answer : Answer) → Ends 8 (settles_two v answer)
two_end v answer =
    either 8 (nat_le v.offset answer.ret0 || nat_le v.offset answer.ret1) (gives_up (answer.ret0 ∷ answer.ret1 ∷ [])) (settles v false answer.ret0 (answer.ret0 ∷ answer.ret1 ∷ []) (settles_second v answer))
    (λ a b. tt)
    (settled 5 v false answer.ret0 (answer.ret0 ∷ answer.ret1 ∷ []) (settles_second v answer) (second_ends v answer) (λ a b. tt) (λ e a b c. tt))

success_ends : (v : Naming) (side : SideName) (m : Made) (flag : Bool) (change : Change) (answer : Answer) → Ends 8 (succeeds v side m flag change answer)
success_ends v Rump made_as.Nothing flag change answer = tt
success_ends v Host made_as.Nothing flag change answer = tt
success_ends v Rump made_as.One flag change answer = tt
success_ends v Rump made_as.Two flag change answer = tt
success_ends v Host made_as.One flag change answer = one_ends v flag answer
success_ends v Host made_as.Two flag change answer = two_end v answer

asks_end : (side : SideName) (c : Call) (follow : Answer → Steps) → ((answer : Answer) → Ends 8 (follow answer)) → Ends 9 (asks side c follow)
asks_end side c follow h = λ answer. either 8 (is_error answer) (Gives (Some side) answer Stays) (follow answer) tt (h answer)

side_ends : (v : Naming) (c : Call) (side : SideName) (renamed : Call) → Ends 9 (on_side v c side renamed)
unfolding on_side
side_ends v c side renamed = asks_end side renamed (succeeds v side (made_by c) (sets_flag c) (change_by side c)) (success_ends v side (made_by c) (sets_flag c) (change_by side c))

old_ends : (n : ℕ) (alias : Option Alias) (by : Option SideName) (answer : Answer) (change : Change) → Ends 8 (closes_old n alias (Gives by answer change))
old_ends n (Some alias) by answer change = λ a. tt
old_ends n None by answer change = λ a. tt

host_dup2_ends : (v : Naming) (h n : ℕ) (alias : Option Alias) → Ends 9 (host_dup2 v h n alias)
host_dup2_ends v h n (Some alias) = asks_end Host (call.Dup2 h n) (λ answer. closes_old n (Some alias) (Gives (Some Host) answer (Drops n))) (λ answer. old_ends n (Some alias) (Some Host) answer (Drops n))
host_dup2_ends v h n None =
    either 9 (nat_lt n v.offset) (asks Host (call.Dup2 h n) (λ answer. Gives (Some Host) answer Stays)) (refuses Eopnotsupp)
    (asks_end Host (call.Dup2 h n) (λ answer. Gives (Some Host) answer Stays) (λ answer. tt)) tt

onto_rump_ends : (v : Naming) (r n : ℕ) → Ends 9 (onto_rump v r n)
onto_rump_ends v r n =
    either 9 (holds v.aliases (n - v.offset)) (refuses Ebadf) (asks Rump (call.Dup2 r (n - v.offset)) (λ answer. Gives (Some Rump) (record answer { ret0 = raised v answer.ret0 }) Stays)) tt
    (asks_end Rump (call.Dup2 r (n - v.offset)) (λ answer. Gives (Some Rump) (record answer { ret0 = raised v answer.ret0 }) Stays) (λ answer. tt))

onto_alias_ends : (v : Naming) (r n : ℕ) → Ends 9 (onto_alias v r n)
onto_alias_ends v r n =
    asks_end Rump (call.Dup r) (λ answer. closes_old n (at v.aliases n) (Gives (Some Rump) (record answer { ret0 = n }) (Sets n answer.ret0)))
    (λ answer. old_ends n (at v.aliases n) (Some Rump) (record answer { ret0 = n }) (Sets n answer.ret0))

rump_dup2_ends : (v : Naming) (r n : ℕ) → Ends 9 (rump_dup2 v r n)
rump_dup2_ends v r n =
    either 9 (nat_le v.offset n) (onto_rump v r n) (cond (nat_lt n 32) (onto_alias v r n) (refuses Eopnotsupp)) (onto_rump_ends v r n)
    (either 9 (nat_lt n 32) (onto_alias v r n) (refuses Eopnotsupp) (onto_alias_ends v r n) tt)

itself_ends : (side : SideName) (number n : ℕ) → Ends 9 (onto_itself side number n)
itself_ends side number n = asks_end side (call.Fcntl number F_GETFD 0) (λ answer. Gives (Some side) (record answer { ret0 = n }) Stays) (λ answer. tt)

same_ends : (n : ℕ) (name : Named) → Ends 9 (same_dup2 n name)
same_ends n (named_as.Rump r) = itself_ends Rump r n
same_ends n (named_as.Host h) = itself_ends Host h n
same_ends n named_as.Nothing = tt

other_ends : (v : Naming) (n : ℕ) (name : Named) → Ends 9 (other_dup2 v n name)
other_ends v n (named_as.Rump r) = rump_dup2_ends v r n
other_ends v n (named_as.Host h) = host_dup2_ends v h n (at v.aliases n)
other_ends v n named_as.Nothing = tt

path_ends : (v : Naming) (c : Call) (to : SideName × ℕ) → Ends 9 (on_path v c to)
unfolding on_path
path_ends v c to = side_ends v c to.0 (with_first c to.1)

paths_end : (v : Naming) (c : Call) (to new_to : SideName × ℕ) → Ends 9 (on_paths v c to new_to)
unfolding on_paths
paths_end v c to new_to = either 9 (same_side to.0 new_to.0) (on_side v c to.0 (with_paths c to.1 new_to.1)) (refuses Exdev) (side_ends v c to.0 (with_paths c to.1 new_to.1)) tt

-- the call itself and eight turns more, the reply counted
pub steps_end : (v : Naming) (c : Call) (to : Route) → IsWhole to → Ends 9 (steps_by v c to)
steps_end v c route.Raw h = λ answer. tt
steps_end v c (route.Whole side) h = side_ends v c side c
steps_end v c (route.Descriptor (named_as.Rump r)) h = side_ends v c Rump (below_offset v.offset (with_first c r))
steps_end v c (route.Descriptor (named_as.Host g)) h = side_ends v c Host (with_first c g)
steps_end v c (route.Descriptor named_as.Nothing) h = tt
steps_end v c (route.Path to) h = path_ends v c to
steps_end v c (route.Paths to new_to) h = paths_end v c to new_to
steps_end v c (route.Dup2 o n) h = either 9 (o == n) (same_dup2 n (named v o)) (other_dup2 v n (named v o)) (same_ends n (named v o)) (other_ends v n (named v o))
steps_end v c route.Divided h = absurd h
