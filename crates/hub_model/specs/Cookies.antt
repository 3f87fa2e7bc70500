-- How cookies are made and taken back.
use Rattle.std.specs.Prelude.{ℕ, ◌+◌, List, [], ◌∷◌, Option, None, Some}
use Rattle.sp_base.specs.declared.names.ConnNo.{ConnNo}
use Rattle.sp_base.specs.declared.names.Cookie.{Cookie}
use Rattle.sp_base.specs.declared.names.Pid.{Pid}
use Rattle.sp_fork.specs.Jar.{Jar, after, cancellable, made_by}
use Rattle.sp_fork.specs.Jar.Operation.{Cancel}
use Rattle.sp_fork.specs.declared.unused.CookieKind.{CookieKind}
use Rattle.sp_fork.specs.declared.unused.CookieKind.TheVariants as kind
use Rattle.sp_fork.specs.declared.unused.Unused.{Unused}
use Rattle.kern_model.specs.Journal.{next_entry}
use Rattle.kern_model.specs.declared.journal.Entry.{Entry}
use Rattle.kern_model.specs.declared.journal.Who.TheVariants.{Cancelled}
use Rattle.kern_model.specs.declared.operation.Op.TheVariants.{Exit}
use Rattle.hub_model.specs.Journal.{nothing_read, with_entry}
use Rattle.hub_model.specs.State.{Machine}
use Rattle.hub_model.specs.declared.handover.Handover.{Handover}
use Rattle.hub_model.specs.declared.handover.Handover.TheVariants as handover

-- the cookie that is made next, with a salt
abbrev pub next_cookie : Jar → ℕ → Cookie
next_cookie jar salt = record { number = jar.given + 1; salt = salt }

-- a cookie that hands a process over, made by a connection
abbrev pub handing : Pid → ConnNo → ℕ → CookieKind → Unused
handing pid c salt kind = record { pid = pid; maker = c; salt = salt; kind = kind }

-- the journal once a cookie was taken back: the child that a fork cookie would have handed over exits
abbrev pub without_child : List Entry → ℕ → Pid → CookieKind → List Entry
without_child journal number child kind.Fork = with_entry journal (next_entry journal child (Cancelled number) Exit nothing_read)
without_child journal number pid kind.Exec = journal

-- the journal, the unused cookies, and all that was done to hand processes over, the newest first
pub record Ledger : Type 0 where
  pub journal : List Entry
  pub cookies : Jar
  pub handovers : List Handover

-- the ledger of a machine
abbrev pub ledger_of : Machine → Ledger
ledger_of m = record { journal = m.journal; cookies = m.cookies; handovers = m.handovers }

-- the machine with another ledger
abbrev pub with_ledger : Machine → Ledger → Machine
with_ledger m l = record m { journal = l.journal; cookies = l.cookies; handovers = l.handovers }

-- a connection takes one of its cookies back, where it is unused
abbrev pub take_back_by : Ledger → ConnNo → Cookie → Option Unused → Ledger
take_back_by l c cookie None = l
take_back_by l c cookie (Some u) = record {
  journal = without_child l.journal cookie.number u.pid u.kind;
  cookies = after l.cookies (Cancel cookie c);
  handovers = handover.Cancelled cookie.number ∷ l.handovers;
}

-- a connection takes one of its cookies back
abbrev pub take_back : Ledger → ConnNo → Cookie → Ledger
take_back l c cookie = take_back_by l c cookie (cancellable l.cookies cookie c)

-- a connection takes cookies back, in order
abbrev pub take_back_each : Ledger → ConnNo → List Cookie → Ledger
take_back_each l c [] = l
take_back_each l c (cookie ∷ cookies) = take_back_each (take_back l c cookie) c cookies

-- a connection takes all its unused cookies back, in rising order of their numbers
abbrev pub take_all_back : Ledger → ConnNo → Ledger
take_all_back l c = take_back_each l c (made_by l.cookies c)
