-- The table of dup2.
use Rattle.std.specs.Prelude.{ℕ, ◌-◌, ◌==◌, None, Option, Some, if◌then◌else◌, nat_le, nat_lt}
use Rattle.sp_base.specs.Table.{at}
use Rattle.sp_base.specs.declared.call.Call.TheVariants as call
use Rattle.sp_base.specs.declared.errno.Errno.TheVariants.{Ebadf, Eopnotsupp}
use Rattle.hijack_rules.specs.declared.names.SideName.{SideName}
use Rattle.hijack_rules.specs.declared.names.SideName.TheVariants.{Host, Rump}
use Rattle.hijack_split.specs.Steps.{Asks, Gives, Steps, asks, raised, refuses}
use Rattle.hijack_split.specs.View.{Naming, holds, named}
use Rattle.hijack_split.specs.declared.change.Alias.{Alias}
use Rattle.hijack_split.specs.declared.change.Change.TheVariants.{Drops, Sets, Stays}
use Rattle.hijack_split.specs.declared.change.Named.{Named}
use Rattle.hijack_split.specs.declared.change.Named.TheVariants as named_as
use Rattle.hijack_split.specs.declared.commands.TheConstants.{F_GETFD}
use Rattle.hijack_split.specs.declared.turn.Stage.TheVariants.{ShedOld}

-- what n named before is closed, whatever that answers: the rump descriptor of its alias, or else the host's n
abbrev pub closes_old : ℕ → Option Alias → Steps → Steps
closes_old n (Some alias) follow = Asks Rump (call.Close alias.rump) ShedOld (λ _. follow)
closes_old n None follow = Asks Host (call.Close n) ShedOld (λ _. follow)

-- a descriptor onto itself: its kernel is asked for its flag, and n is answered
abbrev pub onto_itself : SideName → ℕ → ℕ → Steps
onto_itself side number n = asks side (call.Fcntl number F_GETFD 0) (λ answer. Gives (Some side) (record answer { ret0 = n }) Stays)

-- a host descriptor onto n, with this alias: the host's dup2, and then the alias goes; from the offset on it isn't supported
abbrev pub host_dup2 : Naming → ℕ → ℕ → Option Alias → Steps
host_dup2 v h n (Some alias) = asks Host (call.Dup2 h n) (λ answer. closes_old n (Some alias) (Gives (Some Host) answer (Drops n)))
host_dup2 v h n None =
    if nat_lt n v.offset then asks Host (call.Dup2 h n) (λ answer. Gives (Some Host) answer Stays)
    else refuses Eopnotsupp

-- a rump descriptor onto n from the offset on: the rump kernel's dup2, unless an alias holds that descriptor
abbrev pub onto_rump : Naming → ℕ → ℕ → Steps
onto_rump v r n =
    if holds v.aliases (n - v.offset) then refuses Ebadf
    else asks Rump (call.Dup2 r (n - v.offset)) (λ answer. Gives (Some Rump) (record answer { ret0 = raised v answer.ret0 }) Stays)

-- a rump descriptor onto n below 32: the rump kernel's dup, and n becomes an alias of the duplicate
abbrev pub onto_alias : Naming → ℕ → ℕ → Steps
onto_alias v r n = asks Rump (call.Dup r) (λ answer. closes_old n (at v.aliases n) (Gives (Some Rump) (record answer { ret0 = n }) (Sets n answer.ret0)))

-- a rump descriptor onto n: between these it isn't supported
abbrev pub rump_dup2 : Naming → ℕ → ℕ → Steps
rump_dup2 v r n =
    if nat_le v.offset n then onto_rump v r n
    else if nat_lt n 32 then onto_alias v r n
    else refuses Eopnotsupp

-- equal numbers, by what they name
abbrev pub same_dup2 : ℕ → Named → Steps
same_dup2 n (named_as.Rump r) = onto_itself Rump r n
same_dup2 n (named_as.Host h) = onto_itself Host h n
same_dup2 n named_as.Nothing = refuses Ebadf

-- two numbers, by what the first names
abbrev pub other_dup2 : Naming → ℕ → Named → Steps
other_dup2 v n (named_as.Rump r) = rump_dup2 v r n
other_dup2 v n (named_as.Host h) = host_dup2 v h n (at v.aliases n)
other_dup2 v n named_as.Nothing = refuses Ebadf

-- dup2 of o onto n
abbrev pub dup2_steps : Naming → ℕ → ℕ → Steps
dup2_steps v o n = if o == n then same_dup2 n (named v o) else other_dup2 v n (named v o)
