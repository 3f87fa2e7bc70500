-- The table of new descriptors: under which number the guest has what a kernel made.
use Rattle.std.specs.Prelude.{Bool, false, ℕ, ◌||◌, List, [], ◌∷◌, Some, if◌then◌else◌, is_none, nat_le}
use Rattle.sp_base.specs.Table.{at}
use Rattle.sp_base.specs.declared.call.Call.TheVariants as call
use Rattle.sp_base.specs.declared.errno.Errno.TheVariants.{Emfile}
use Rattle.sp_base.specs.declared.names.Answer.{Answer}
use Rattle.hijack_rules.specs.declared.names.SideName.{SideName}
use Rattle.hijack_rules.specs.declared.names.SideName.TheVariants.{Host, Rump}
use Rattle.hijack_split.specs.Steps.{Asks, Gives, Steps, is_error, next, raised, refuses}
use Rattle.hijack_split.specs.View.{Naming, above_all}
use Rattle.hijack_split.specs.declared.change.Change.{Change}
use Rattle.hijack_split.specs.declared.change.Change.TheVariants.{Stays}
use Rattle.hijack_split.specs.declared.commands.TheConstants.{FD_CLOEXEC, F_DUPFD, F_SETFD}
use Rattle.hijack_split.specs.declared.new_descriptors.Settled.{Settled}
use Rattle.hijack_split.specs.declared.new_descriptors.Settled.TheVariants as settled
use Rattle.hijack_split.specs.declared.turn.Made.{Made}
use Rattle.hijack_split.specs.declared.turn.Made.TheVariants as made
use Rattle.hijack_split.specs.declared.turn.Stage.TheVariants.{Flag, Raise, Shed}
use Rattle.hijack_split.specs.declared.turn.Turn.{Turn}

-- a host descriptor is closed, whatever that answers
abbrev pub closes : ℕ → Steps → Steps
closes d follow = Asks Host (call.Close d) Shed (λ _. follow)

-- what was made is closed, one after another, and EMFILE is answered
abbrev pub gives_up : List ℕ → Steps
gives_up [] = refuses Emfile
gives_up (d ∷ ds) = closes d (gives_up ds)

-- the duplicate e gets close-on-exec, if it is to have it, and d is closed
abbrev pub replaces : Bool → ℕ → ℕ → (ℕ → Steps) → Steps
replaces flag d e keep =
    if flag then Asks Host (call.Fcntl e F_SETFD FD_CLOEXEC) Flag (λ _. closes d (keep e))
    else closes d (keep e)

-- d was to be duplicated above all aliases, with this answer: the duplicate takes its place, or, where there is none or it isn't below the offset, all that was made is closed
abbrev pub moved : Naming → Bool → ℕ → List ℕ → (ℕ → Steps) → Answer → Steps
moved v flag d made keep answer =
    if is_error answer then gives_up made
    else if nat_le v.offset answer.ret0 then gives_up (answer.ret0 ∷ made)
    else replaces flag d answer.ret0 keep

-- a new host descriptor below the offset: the guest has it as it is, unless it is an alias's number
abbrev pub settles : Naming → Bool → ℕ → List ℕ → (ℕ → Steps) → Steps
settles v flag d made keep =
    if is_none (at v.aliases d) then keep d
    else Asks Host (call.Fcntl d F_DUPFD (above_all v.aliases)) Raise (moved v flag d made keep)

-- one new host descriptor: at or above the offset it is closed
abbrev pub settles_one : Naming → Bool → Answer → Steps
settles_one v flag answer =
    if nat_le v.offset answer.ret0 then gives_up (answer.ret0 ∷ [])
    else settles v flag answer.ret0 (answer.ret0 ∷ []) (λ d. Gives (Some Host) (record answer { ret0 = d }) Stays)

-- the second of two, where the guest has the first as d
abbrev pub settles_second : Naming → Answer → ℕ → Steps
settles_second v answer d = settles v false answer.ret1 (d ∷ answer.ret1 ∷ []) (λ e. Gives (Some Host) (record answer { ret0 = d; ret1 = e }) Stays)

-- two new host descriptors: where one is at or above the offset both are closed
abbrev pub settles_two : Naming → Answer → Steps
settles_two v answer =
    if nat_le v.offset answer.ret0 || nat_le v.offset answer.ret1 then gives_up (answer.ret0 ∷ answer.ret1 ∷ [])
    else settles v false answer.ret0 (answer.ret0 ∷ answer.ret1 ∷ []) (settles_second v answer)

-- what a success of the guest's call on a kernel gives
abbrev pub succeeds : Naming → SideName → Made → Bool → Change → Answer → Steps
succeeds v side made.Nothing flag change answer = Gives (Some side) answer change
succeeds v Rump made.One flag change answer = Gives (Some Rump) (record answer { ret0 = raised v answer.ret0 }) Stays
succeeds v Rump made.Two flag change answer = Gives (Some Rump) (record answer { ret0 = raised v answer.ret0; ret1 = raised v answer.ret1 }) Stays
succeeds v Host made.One flag change answer = settles_one v flag answer
succeeds v Host made.Two flag change answer = settles_two v answer

-- the turn behind a new host descriptor that has come so far
abbrev pub resumed : (ℕ → Steps) → Settled → Turn
resumed keep (settled.Asks turn) = turn
resumed keep (settled.Kept d answers) = next (keep d) answers.now
