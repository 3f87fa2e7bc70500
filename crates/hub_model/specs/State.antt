-- What the server's machine holds.
use Rattle.std.specs.Prelude.{ℕ, Bool, true, false, not, List, [], Option, None, Some}
use Rattle.std.specs.Ordering.{nat_cmp}
use Rattle.std.specs.FinMap.{FinMap, empty, insert}
use Rattle.sp_base.specs.declared.names.ConnNo.{ConnNo}
use Rattle.sp_base.specs.declared.names.Pid.{Pid}
use Rattle.sp_frames.specs.declared.frame.Frame.{Frame}
use Rattle.kern_model.specs.declared.journal.Entry.{Entry}
use Rattle.sp_fork.specs.Jar.{Jar, empty_jar}
use Rattle.hub_model.specs.declared.handover.Handover.{Handover}
use Rattle.hub_model.specs.declared.state.Condition.{Condition}
use Rattle.hub_model.specs.declared.state.Condition.TheVariants.{Fresh, Live, InExec, Draining}
use Rattle.hub_model.specs.declared.state.OpenCall.{OpenCall}
use Rattle.sp_frames.specs.declared.version.Version.{Version}
use Rattle.hub_model.specs.declared.event.Reply.{Reply}

-- a connection that isn't over: how far it is; the highest number of a request that was taken, 0 before the first one; its open
-- calls, by the number of their request; and the frames to hand out, the oldest first
pub record Connection : Type 0 where
  pub condition : Condition
  pub last : ℕ
  pub calls : FinMap nat_cmp OpenCall
  pub queue : List Frame

-- the version that is spoken; the journal of the kernel, whose state is the one that the journal leaves; the connections that
-- aren't over, by number; the unused cookies; all that was ever done to hand processes over, the newest first; the highest number
-- that was ever opened; and whether the server has halted
pub record Machine : Type 0 where
  pub version : Version
  pub journal : List Entry
  pub connections : FinMap nat_cmp Connection
  pub cookies : Jar
  pub handovers : List Handover
  pub opened : Option ℕ
  pub halted : Bool

-- a machine to which nothing happened yet
abbrev pub fresh_machine : Version → Machine
fresh_machine version = record {
  version = version;
  journal = [];
  connections = empty;
  cookies = empty_jar;
  handovers = [];
  opened = None;
  halted = false;
}

-- a connection that was just opened
abbrev pub fresh_connection : Connection
fresh_connection = record { condition = Fresh; last = 0; calls = empty; queue = [] }

-- what the machine answers, and the machine after it
abbrev pub Played : Type 0
Played = Reply × Machine

-- the machine with another connection of a number
abbrev pub with_connection : Machine → ConnNo → Connection → Machine
with_connection m c x = record m { connections = insert m.connections c.0 x }

-- the process that a connection speaks for, if it speaks for one
abbrev pub process_in : Condition → Option Pid
process_in (Live pid) = Some pid
process_in (InExec pid) = Some pid
process_in _ = None

-- the connection speaks for a process that goes on as it is
abbrev pub is_live : Condition → Bool
is_live (Live pid) = true
is_live _ = false

-- no handshake was taken yet
abbrev pub is_fresh : Condition → Bool
is_fresh Fresh = true
is_fresh _ = false

-- the connection takes no frame any more
abbrev pub is_draining : Condition → Bool
is_draining Draining = true
is_draining _ = false

-- the client may still send something
abbrev pub speaks : Condition → Bool
speaks condition = not (is_draining condition)
