-- Words for the laws of views and splits.
use Rattle.std.specs.Prelude.{◌≡◌, ℕ, ◌≤◌, None, Option, Some, drop}
use Rattle.sp_base.specs.Call.{call_number, call_words}
use Rattle.sp_base.specs.Table.{at}
use Rattle.sp_base.specs.declared.call.Call.{Call}
use Rattle.sp_base.specs.declared.call.Call.TheVariants as call
use Rattle.sp_base.specs.declared.names.Answer.{Answer}
use Rattle.sp_base.specs.Errno.{errno_number}
use Rattle.sp_base.specs.declared.errno.Errno.TheVariants.{Emfile}
use Rattle.hijack_rules.specs.declared.names.SideName.{SideName}
use Rattle.hijack_rules.specs.declared.names.SideName.TheVariants as side
use Rattle.hijack_split.specs.Steps.{Asks, Gives, Polls, Steps}
use Rattle.hijack_split.specs.View.{Naming, named}
use Rattle.hijack_split.specs.declared.change.Alias.{Alias}
use Rattle.hijack_split.specs.declared.change.Change.{Change}
use Rattle.hijack_split.specs.declared.change.Change.TheVariants.{Drops, Marks, Sets, Sits, Stays}
use Rattle.hijack_split.specs.declared.change.Named.TheVariants.{Host}
use Rattle.hijack_split.specs.declared.commands.TheConstants.{F_DUPFD, F_SETFD}

-- no two aliases hold one rump descriptor
abbrev pub IsDistinct : Naming → Type 0
IsDistinct v = (g h : ℕ) (a b : Alias) → at v.aliases g ≡ Some a → at v.aliases h ≡ Some b → a.rump ≡ b.rump → g ≡ h

-- however the calls are answered, as far as they may be answered so, what is given in the end is such
abbrev pub Always : (SideName → Call → Answer → Type 0) → (Option SideName → Answer → Change → Type 0) → Steps → Type 0
Always may holds_of (Asks side call stage follow) = (answer : Answer) → may side call answer → Always may holds_of (follow answer)
Always may holds_of (Gives by answer change) = holds_of by answer change
Always may holds_of Polls = Unit {0}

-- a call may be answered anyhow
abbrev pub Anyhow : SideName → Call → Answer → Type 0
Anyhow side c answer = Unit {0}

-- F_DUPFD gives a number from the one asked for on
abbrev pub IsFair : SideName → Call → Answer → Type 0
IsFair side (call.Fcntl fd command argument) answer = command ≡ F_DUPFD → answer.err ≡ 0 → argument ≤ answer.ret0
IsFair side _ answer = Unit {0}

-- a descriptor that the host's answer gives is the host's of that number
abbrev pub NamesHost : Naming → Option SideName → Answer → Change → Type 0
NamesHost v (Some side.Host) answer change = named v answer.ret0 ≡ Host answer.ret0
NamesHost v (Some side.Rump) answer change = Unit {0}
NamesHost v None answer change = Unit {0}

-- two descriptors that the host's answer gives are the host's of these numbers
abbrev pub NamesHosts : Naming → Option SideName → Answer → Change → Type 0
NamesHosts v (Some side.Host) answer change = (named v answer.ret0 ≡ Host answer.ret0) × (named v answer.ret1 ≡ Host answer.ret1)
NamesHosts v (Some side.Rump) answer change = Unit {0}
NamesHosts v None answer change = Unit {0}

-- a change that a call may bring: chdir moves the working directory; F_SETFD sets the flag of its descriptor; close and dup2 take the alias of the descriptor away that they close; dup2 makes one of its second
abbrev pub IsChangeOf : Call → Option SideName → Answer → Change → Type 0
IsChangeOf c by answer Stays = Unit {0}
IsChangeOf (call.Chdir path) by answer (Sits side) = by ≡ Some side
IsChangeOf (call.Close fd) by answer (Drops g) = g ≡ fd
IsChangeOf (call.Fcntl fd command argument) by answer (Marks g on) = (command ≡ F_SETFD) × (g ≡ fd)
IsChangeOf (call.Dup2 fd new_fd) by answer (Drops g) = g ≡ new_fd
IsChangeOf (call.Dup2 fd new_fd) by answer (Sets g r) = g ≡ new_fd
IsChangeOf c by answer change = ⊥

-- the same call with so many other words in front
pub record IsRenamed (c d : Call) (count : ℕ) : Type 0 where
  pub number : call_number d ≡ call_number c
  pub words : drop count (call_words d) ≡ drop count (call_words c)

-- an error of the splitter's own that comes after a call is EMFILE
abbrev pub IsEmfile : Option SideName → Answer → Change → Type 0
IsEmfile None answer change = answer.err ≡ errno_number Emfile
IsEmfile (Some side) answer change = Unit {0}

-- the splitter answers by itself, and nothing changes
abbrev pub IsOwn : Option SideName → Change → Type 0
IsOwn by change = (by ≡ None) × (change ≡ Stays)

-- either no call is made and the splitter answers by itself, or each own error that comes after a call is EMFILE
abbrev pub AnswersItself : Steps → Type 0
AnswersItself (Asks side call stage follow) = (answer : Answer) → Always Anyhow IsEmfile (follow answer)
AnswersItself (Gives by answer change) = IsOwn by change
AnswersItself Polls = Unit {0}
