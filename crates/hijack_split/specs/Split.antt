-- How a guest's call is split between the two kernels.
use Rattle.std.specs.Prelude.{Bool, true, false, ℕ, ◌*◌, ◌+◌, ◌-◌, ◌%◌, ◌^◌, ◌==◌, ◌&&◌, ◌||◌, Err, List, Ok, Result, Some, if◌then◌else◌, nat_le, not}
use Rattle.sp_base.specs.declared.call.Call.{Call}
use Rattle.sp_base.specs.declared.errno.Errno.TheVariants.{Ebadf, Exdev}
use Rattle.sp_base.specs.declared.limits.TheConstants.{PATH_TEXT, POLL_ENTRIES, POLL_ENTRY}
use Rattle.sp_base.specs.declared.names.Answer.{Answer}
use Rattle.sp_base.specs.declared.need.Need.TheVariants.{Bytes, Text}
use Rattle.sp_copy.specs.Reading.{read_of}
use Rattle.sp_copy.specs.declared.fault.CopyFault.{CopyFault}
use Rattle.sp_copy.specs.declared.part.Part.{Part}
use Rattle.sp_copy.specs.declared.part.TheConstants.{ROOT_BASE}
use Rattle.hijack_rules.specs.Sides.{path_side, socket_side}
use Rattle.hijack_rules.specs.declared.names.Routed.{Routed}
use Rattle.hijack_rules.specs.declared.names.Routed.TheVariants as routed
use Rattle.hijack_rules.specs.declared.names.SideName.{SideName}
use Rattle.hijack_rules.specs.declared.names.SideName.TheVariants.{Host, Rump}
use Rattle.hijack_rules.specs.declared.rules.Rules.{Rules}
use Rattle.hijack_rules.specs.declared.rules.Rules.TheVariants as rules_are
use Rattle.hijack_split.specs.Calls.{below_offset, change_by, kind_of, made_by, sets_flag, with_first, with_paths}
use Rattle.hijack_split.specs.Dup2.{dup2_steps}
use Rattle.hijack_split.specs.NewDescriptors.{succeeds}
use Rattle.hijack_split.specs.Steps.{Asks, Gives, Polls, Steps, asks, next, plan_of, refuses, view_by}
use Rattle.hijack_split.specs.View.{Naming, named}
use Rattle.hijack_split.specs.declared.change.Change.TheVariants.{Stays}
use Rattle.hijack_split.specs.declared.change.Named.{Named}
use Rattle.hijack_split.specs.declared.change.Named.TheVariants as named_as
use Rattle.hijack_split.specs.declared.kind.Kind.{Kind}
use Rattle.hijack_split.specs.declared.kind.Kind.TheVariants as kind
use Rattle.hijack_split.specs.declared.turn.Plan.{Plan}
use Rattle.hijack_split.specs.declared.turn.Route.{Route}
use Rattle.hijack_split.specs.declared.turn.Route.TheVariants as route
use Rattle.hijack_split.specs.declared.turn.Stage.TheVariants.{Main}

-- ---- where a call goes

-- where a path at this address goes, and its address there: a cut moves the address forward, and the text `/` lies where every memory has it
abbrev pub by_routed : ℕ → Routed → SideName × ℕ
by_routed path (routed.Rump n) = (Rump, (path + n) % 2 ^ 64)
by_routed path routed.RumpRoot = (Rump, ROOT_BASE)
by_routed path routed.Host = (Host, path)

-- the same, by what is read there; what can't be read goes to the host
abbrev pub by_text : Rules → Naming → ℕ → Result (List ℕ) CopyFault → SideName × ℕ
by_text rules v path (Ok text) = by_routed path (path_side rules v.cwd text)
by_text rules v path (Err why) = (Host, path)

-- where a path goes, and its address there
unfoldable pub path_of : Rules → Naming → List Part → ℕ → SideName × ℕ
path_of rules v mem path = by_text rules v path (read_of mem (Text path PATH_TEXT))

-- a need can be read
abbrev pub is_readable : Result (List ℕ) CopyFault → Bool
is_readable (Ok bytes) = true
is_readable (Err why) = false

-- the kernel would not refuse a poll: its count and its timeout, 0 or -1, are sound, and its array, if it has entries, can be read
unfoldable pub is_divided : List Part → ℕ → ℕ → ℕ → Bool
is_divided mem entries count timeout =
    nat_le count POLL_ENTRIES && ((timeout == 0) || (timeout == 2 ^ 64 - 1))
    && ((count == 0) || is_readable (read_of mem (Bytes entries (POLL_ENTRY * count))))

-- where a call goes: by its descriptor, its path, its two paths or its family; dup2 by its table; a sound poll to both kernels; all else to the host
abbrev pub route_by : Rules → Naming → List Part → Kind → Route
route_by rules v mem (kind.Descriptor fd) = route.Descriptor (named v fd)
route_by rules v mem (kind.Path path) = route.Path (path_of rules v mem path)
route_by rules v mem (kind.Paths path new_path) = route.Paths (path_of rules v mem path) (path_of rules v mem new_path)
route_by rules v mem (kind.Family family) = route.Whole (socket_side rules family)
route_by rules v mem (kind.Dup2 fd new_fd) = route.Dup2 fd new_fd
route_by rules v mem (kind.Poll entries count timeout) = if is_divided mem entries count timeout then route.Divided else route.Whole Host
route_by rules v mem kind.Host = route.Whole Host

-- under raw rules each call goes to the rump kernel
abbrev pub route_under : Rules → Naming → List Part → Call → Route
route_under rules_are.Raw v mem call = route.Raw
route_under (rules_are.Divided division) v mem call = route_by (rules_are.Divided division) v mem (kind_of call)

-- where a call goes, decided once, from the memory before its first step
unfoldable pub route_of : Rules → Naming → List Part → Call → Route
route_of rules v mem call = route_under rules v mem call

-- ---- what is done for a call that goes there

-- the guest's call on one kernel, with that kernel's names; what it makes gets the guest's numbers
unfoldable pub on_side : Naming → Call → SideName → Call → Steps
on_side v call side renamed = asks side renamed (succeeds v side (made_by call) (sets_flag call) (change_by side call))

-- a call with one descriptor goes to its kernel with its number there; one that names nothing is EBADF
abbrev pub on_descriptor : Naming → Call → Named → Steps
on_descriptor v call (named_as.Rump r) = on_side v call Rump (below_offset v.offset (with_first call r))
on_descriptor v call (named_as.Host h) = on_side v call Host (with_first call h)
on_descriptor v call named_as.Nothing = refuses Ebadf

-- a call with one path goes to its kernel with its address there
unfoldable pub on_path : Naming → Call → SideName × ℕ → Steps
on_path v call to = on_side v call to.0 (with_first call to.1)

-- a side is the rump kernel's
abbrev pub is_rump : SideName → Bool
is_rump Rump = true
is_rump Host = false

-- two sides are one
abbrev pub same_side : SideName → SideName → Bool
same_side Rump side = is_rump side
same_side Host side = not (is_rump side)

-- a call with two paths goes to their kernel; where they have two, it is EXDEV, and no kernel is called
unfoldable pub on_paths : Naming → Call → SideName × ℕ → SideName × ℕ → Steps
on_paths v call to new_to =
    if same_side to.0 new_to.0 then on_side v call to.0 (with_paths call to.1 new_to.1)
    else refuses Exdev

-- all that is done for a guest's call that goes this way; under raw rules the answer too is handed on unchanged
abbrev pub steps_by : Naming → Call → Route → Steps
steps_by v call route.Raw = Asks Rump call Main (λ answer. Gives (Some Rump) answer Stays)
steps_by v call (route.Whole side) = on_side v call side call
steps_by v call (route.Descriptor name) = on_descriptor v call name
steps_by v call (route.Path to) = on_path v call to
steps_by v call (route.Paths to new_to) = on_paths v call to new_to
steps_by v call (route.Dup2 fd new_fd) = dup2_steps v fd new_fd
steps_by v call route.Divided = Polls

-- ---- the whole

-- all that is done for a guest's call
abbrev pub steps_of : Rules → Naming → List Part → Call → Steps
steps_of rules v mem call = steps_by v call (route_of rules v mem call)

-- the next step of a guest's call, or its reply, once the first steps have these answers
abbrev pub next_step : Rules → Naming → Call → List Part → List Answer → Plan
next_step rules v call mem answers = plan_of (next (steps_of rules v mem call) answers)

-- the view then: changed only with the reply
abbrev pub view_after : Rules → Naming → Call → List Part → List Answer → Naming
view_after rules v call mem answers = view_by v (next (steps_of rules v mem call) answers)
