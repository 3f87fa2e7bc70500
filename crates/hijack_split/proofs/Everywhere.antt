-- What holds at the end of all steps.
use Rattle.std.proofs.Common.{ℕ, Bool, true, false, cond, List, [], ◌∷◌, None, Option, Some}
use Rattle.std.specs.Prelude.{◌||◌, is_none, nat_le}
use Rattle.sp_base.specs.Table.{at}
use Rattle.sp_base.specs.declared.call.Call.{Call}
use Rattle.sp_base.specs.declared.call.Call.TheVariants as call
use Rattle.sp_base.specs.declared.errno.Errno.TheVariants.{Emfile}
use Rattle.sp_base.specs.declared.names.Answer.{Answer}
use Rattle.hijack_rules.specs.declared.names.SideName.{SideName}
use Rattle.hijack_rules.specs.declared.names.SideName.TheVariants.{Host, Rump}
use Rattle.hijack_split.specs.Calls.{change_by, made_by, sets_flag}
use Rattle.hijack_split.specs.Dup2.{closes_old}
use Rattle.hijack_split.specs.Laws.{Always, Anyhow}
use Rattle.hijack_split.specs.NewDescriptors.{gives_up, moved, replaces, settles, settles_one, settles_second, settles_two, succeeds}
use Rattle.hijack_split.specs.Split.{on_side}
use Rattle.hijack_split.specs.Steps.{Asks, Gives, Steps, asks, is_error, refuses}
use Rattle.hijack_split.specs.View.{Naming, above_all}
use Rattle.hijack_split.specs.declared.change.Alias.{Alias}
use Rattle.hijack_split.specs.declared.change.Change.{Change}
use Rattle.hijack_split.specs.declared.change.Change.TheVariants.{Stays}
use Rattle.hijack_split.specs.declared.commands.TheConstants.{F_DUPFD}
use Rattle.hijack_split.specs.declared.turn.Made.{Made}
use Rattle.hijack_split.specs.declared.turn.Made.TheVariants as made
use Rattle.hijack_split.specs.declared.turn.Stage.TheVariants.{Raise}

-- it may be said of an EMFILE of the splitter's own, and of each kernel's answer that leaves the view
pub record IsMild (P : Option SideName → Answer → Change → Type 0) : Type 0 where
  pub own : Always Anyhow P (refuses Emfile)
  pub kernel : (side : SideName) (answer : Answer) → P (Some side) answer Stays

pub either : (P : Option SideName → Answer → Change → Type 0) (b : Bool) (x y : Steps) → Always Anyhow P x → Always Anyhow P y → Always Anyhow P (cond b x y)
either P true x y e f = e
either P false x y e f = f

pub gives_up_all : {P : Option SideName → Answer → Change → Type 0} → IsMild P → (ds : List ℕ) → Always Anyhow P (gives_up ds)
gives_up_all mild [] = mild.own
gives_up_all mild (d ∷ ds) = λ a f. gives_up_all mild ds

replaces_all : (P : Option SideName → Answer → Change → Type 0) (flag : Bool) (d e : ℕ) (keep : ℕ → Steps) → Always Anyhow P (keep e) → Always Anyhow P (replaces flag d e keep)
replaces_all P true d e keep h = λ a f b g. h
replaces_all P false d e keep h = λ a f. h

moved_all : {P : Option SideName → Answer → Change → Type 0} → IsMild P → (v : Naming) (flag : Bool) (d : ℕ) (ds : List ℕ) (keep : ℕ → Steps) (answer : Answer)
    → ((e : ℕ) → Always Anyhow P (keep e)) → Always Anyhow P (moved v flag d ds keep answer)
moved_all {P = P} mild v flag d ds keep answer h =
    either P (is_error answer) (gives_up ds) (cond (nat_le v.offset answer.ret0) (gives_up (answer.ret0 ∷ ds)) (replaces flag d answer.ret0 keep)) (gives_up_all mild ds)
    (either P (nat_le v.offset answer.ret0) (gives_up (answer.ret0 ∷ ds)) (replaces flag d answer.ret0 keep) (gives_up_all mild (answer.ret0 ∷ ds)) (replaces_all P flag d answer.ret0 keep (h answer.ret0)))

raises : Naming → Bool → ℕ → List ℕ → (ℕ → Steps) → Steps
raises v flag d ds keep = Asks Host (call.Fcntl d F_DUPFD (above_all v.aliases)) Raise (moved v flag d ds keep)

settles_all : {P : Option SideName → Answer → Change → Type 0} → IsMild P → (v : Naming) (flag : Bool) (d : ℕ) (ds : List ℕ) (keep : ℕ → Steps)
    → ((e : ℕ) → Always Anyhow P (keep e)) → Always Anyhow P (settles v flag d ds keep)
unfolding raises
settles_all {P = P} mild v flag d ds keep h = either P (is_none (at v.aliases d)) (keep d) (raises v flag d ds keep) (h d) (λ a f. moved_all mild v flag d ds keep a h)

as_one : Answer → ℕ → Steps
as_one answer d = Gives (Some Host) (record answer { ret0 = d }) Stays

one_all : {P : Option SideName → Answer → Change → Type 0} → IsMild P → (v : Naming) (flag : Bool) (answer : Answer) → Always Anyhow P (settles_one v flag answer)
unfolding as_one
one_all {P = P} mild v flag answer =
    either P (nat_le v.offset answer.ret0) (gives_up (answer.ret0 ∷ [])) (settles v flag answer.ret0 (answer.ret0 ∷ []) (as_one answer)) (gives_up_all mild (answer.ret0 ∷ []))
    (settles_all mild v flag answer.ret0 (answer.ret0 ∷ []) (as_one answer) (λ d. mild.kernel Host (record answer { ret0 = d })))

as_two : Answer → ℕ → ℕ → Steps
as_two answer d e = Gives (Some Host) (record answer { ret0 = d; ret1 = e }) Stays

second_all : {P : Option SideName → Answer → Change → Type 0} → IsMild P → (v : Naming) (answer : Answer) (d : ℕ) → Always Anyhow P (settles_second v answer d)
unfolding as_two
second_all mild v answer d = settles_all mild v false answer.ret1 (d ∷ answer.ret1 ∷ []) (as_two answer d) (λ e. mild.kernel Host (record answer { ret0 = d; ret1 = e }))

two_all : {P : Option SideName → Answer → Change → Type 0} → IsMild P → (v : Naming) (answer : Answer) → Always Anyhow P (settles_two v answer)
two_all {P = P} mild v answer =
    let ds : List ℕ = answer.ret0 ∷ answer.ret1 ∷ [] in
    either P (nat_le v.offset answer.ret0 || nat_le v.offset answer.ret1) (gives_up ds) (settles v false answer.ret0 ds (settles_second v answer)) (gives_up_all mild ds)
    (settles_all mild v false answer.ret0 ds (settles_second v answer) (second_all mild v answer))

succeeds_all : {P : Option SideName → Answer → Change → Type 0} → IsMild P → (v : Naming) (side : SideName) (m : Made) (flag : Bool) (change : Change) (answer : Answer)
    → P (Some side) answer change → Always Anyhow P (succeeds v side m flag change answer)
succeeds_all mild v Rump made.Nothing flag change answer h = h
succeeds_all mild v Host made.Nothing flag change answer h = h
succeeds_all mild v Rump made.One flag change answer h = mild.kernel Rump _
succeeds_all mild v Rump made.Two flag change answer h = mild.kernel Rump _
succeeds_all mild v Host made.One flag change answer h = one_all mild v flag answer
succeeds_all mild v Host made.Two flag change answer h = two_all mild v answer

pub asks_all : {P : Option SideName → Answer → Change → Type 0} → IsMild P → (side : SideName) (c : Call) (follow : Answer → Steps)
    → ((answer : Answer) → Always Anyhow P (follow answer)) → Always Anyhow P (asks side c follow)
asks_all {P = P} mild side c follow h = λ answer f. either P (is_error answer) (Gives (Some side) answer Stays) (follow answer) (mild.kernel side answer) (h answer)

-- the guest's call on one kernel, where it may be said of the change that its success brings
pub side_all : {P : Option SideName → Answer → Change → Type 0} → IsMild P → (v : Naming) (c : Call) (side : SideName) (renamed : Call)
    → ((answer : Answer) → P (Some side) answer (change_by side c)) → Always Anyhow P (on_side v c side renamed)
unfolding on_side
side_all mild v c side renamed h = asks_all mild side renamed (succeeds v side (made_by c) (sets_flag c) (change_by side c))
    (λ answer. succeeds_all mild v side (made_by c) (sets_flag c) (change_by side c) answer (h answer))

pub old_all : (P : Option SideName → Answer → Change → Type 0) (n : ℕ) (alias : Option Alias) (by : Option SideName) (answer : Answer) (change : Change)
    → P by answer change → Always Anyhow P (closes_old n alias (Gives by answer change))
old_all P n (Some alias) by answer change h = λ a f. h
old_all P n None by answer change h = λ a f. h
