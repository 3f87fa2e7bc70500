-- What a world holds.
use Rattle.std.specs.Prelude.{ℕ, List, [], Option, None, Some}
use Rattle.std.specs.Ordering.{nat_cmp}
use Rattle.std.specs.FinMap.{FinMap, empty, insert}
use Rattle.sp_base.specs.declared.names.ConnNo.{ConnNo}
use Rattle.sp_frames.specs.declared.frame.Frame.{Frame}
use Rattle.sp_frames.specs.declared.version.Version.{Version}
use Rattle.kern_model.specs.declared.journal.Entry.{Entry}
use Rattle.hub_model.specs.State.{Machine, fresh_machine}
use Rattle.client_model.specs.State.{Client}
use Rattle.world_model.specs.declared.event.Reply.{Reply}
use Rattle.world_model.specs.declared.host.HostCall.{HostCall}

-- what is between a client and the server: the frames under way to the server, and to the client, the oldest first; and how often the
-- link broke
pub record Link : Type 0 where
  pub up : List Frame
  pub down : List Frame
  pub faults : ℕ

-- a link over which nothing went yet
abbrev pub fresh_link : Link
fresh_link = record { up = []; down = []; faults = 0 }

-- the server with the rump kernel's journal; the clients of the connections that are there, by number; the links of all that ever opened,
-- by number; the journal of the host's kernel; how many entries of it each guest has; and the host calls that wait, the oldest first
pub record World : Type 0 where
  pub rump : Machine
  pub clients : FinMap nat_cmp Client
  pub links : FinMap nat_cmp Link
  pub host : List Entry
  pub counts : FinMap nat_cmp ℕ
  pub waiting : List HostCall

-- a world in which nothing happened yet
abbrev pub fresh_world : Version → World
fresh_world version = record {
  rump = fresh_machine version;
  clients = empty;
  links = empty;
  host = [];
  counts = empty;
  waiting = [];
}

-- what is answered, and the world then
abbrev pub Played : Type 0
Played = Reply × World

-- the world with another client of a connection
abbrev pub with_client : World → ConnNo → Client → World
with_client w c k = record w { clients = insert w.clients c.0 k }

-- the world with another link of a connection
abbrev pub with_link : World → ConnNo → Link → World
with_link w c l = record w { links = insert w.links c.0 l }

-- how often a link broke; never, where there is none
abbrev pub faults_of : Option Link → ℕ
faults_of None = 0
faults_of (Some l) = l.faults
