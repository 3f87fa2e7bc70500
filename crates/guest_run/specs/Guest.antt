-- A guest of a server of its own, between two of its lines.
use Rattle.std.specs.Prelude.{◌≡◌, ◌<◌, ◌≤◌, ℕ, ◌+◌, [], ◌∷◌, ◌++◌, length, Some}
use Rattle.std.specs.FinMap.{empty}
use Rattle.sp_base.specs.declared.names.ConnNo.{ConnNo}
use Rattle.sp_base.specs.declared.names.Pid.{Pid}
use Rattle.sp_base.specs.declared.names.Place.{Place}
use Rattle.sp_base.specs.declared.names.ReqNo.{ReqNo}
use Rattle.kern_model.specs.Journal.{next_entry}
use Rattle.kern_model.specs.declared.journal.Entry.{Entry}
use Rattle.kern_model.specs.declared.journal.Who.{Who}
use Rattle.kern_model.specs.declared.journal.Who.TheVariants.{Request}
use Rattle.kern_model.specs.declared.operation.Op.TheVariants.{Attach, Exec}
use Rattle.hub_model.specs.Journal.{nothing_read}
use Rattle.hub_model.specs.Requests.{no_process}
use Rattle.link_model.specs.Asked.{IsWhole}
use Rattle.guest_run.specs.Joined.{first_connection, link_of, next_connection}
use Rattle.guest_run.specs.declared.joined.Joined.{Joined}

-- a request, by the connection that it came over and its number there
pub record Key : Type 0 where
  pub conn : ConnNo
  pub number : ReqNo

-- for whom the entry of a request is made
abbrev pub request : Key → Who
request key = Request key.conn key.number

-- the first request of a guest, its handshake
abbrev pub first_key : Key
first_key = record { conn = first_connection; number = record { 0 = 1 } }

-- the request behind another over the same connection
abbrev pub key_behind : Key → Key
key_behind key = record { conn = key.conn; number = record { 0 = key.number.0 + 1 } }

-- the first request over the next connection, the handshake of a next program
abbrev pub key_beyond : Key → Key
key_beyond key = record { conn = next_connection key.conn; number = record { 0 = 1 } }

-- the request that a guest's client sent last over its connection
abbrev pub last_key : Joined → Key
last_key joined = record { conn = joined.conn; number = record { 0 = joined.client.last } }

-- the process that an attach makes
abbrev pub process_of : Entry → Pid
process_of attach = record { 0 = attach.outcome.ret0 }

-- the guest may call: its link is whole for its process, its connection is the last one that opened, no cookie is unused, and one was
-- given for each connection behind the first; with a bound of the numbers that it has used
pub record IsAtRest (joined : Joined) (pid : Pid) (bound : ℕ) : Type 0 where
  pub whole : IsWhole (link_of joined)
  pub process : whole.pid ≡ pid
  pub opened : joined.hub.opened ≡ Some joined.conn.0
  pub unused : joined.hub.cookies.unused ≡ empty
  pub given : joined.hub.cookies.given ≡ joined.conn.0
  pub few : joined.conn.0 < bound
  pub low : joined.client.last ≤ bound

-- the entry is the attach of the first guest of a fresh kernel, for its first request
abbrev pub IsAttach : Entry → Type 0
IsAttach attach = next_entry [] no_process (request first_key) Attach nothing_read ≡ Some attach

-- the guest's process is made, and nothing else
pub record IsGreeted (joined : Joined) : Type 0 where
  pub attach : Entry
  pub made : IsAttach attach
  pub journal : joined.hub.journal ≡ attach ∷ []
  pub rest : IsAtRest joined (process_of attach) 1
  pub first : last_key joined ≡ first_key

-- the guest's process went on as its next program, over the next connection: the journal has its exec more, for the handshake, at
-- this place; and the guest may call
pub record HasExeced (old : Joined) (pid : Pid) (bound : ℕ) (place : Place) (new : Joined) : Type 0 where
  pub entry : Entry
  pub next : next_entry old.hub.journal pid (request (key_beyond (last_key old))) Exec nothing_read ≡ Some entry
  pub grown : new.hub.journal ≡ old.hub.journal ++ entry ∷ []
  pub at : place.0 ≡ length old.hub.journal
  pub rest : IsAtRest new pid (bound + 1)
  pub key : last_key new ≡ key_beyond (last_key old)
