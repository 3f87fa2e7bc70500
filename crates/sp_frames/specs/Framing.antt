-- What a framer holds, and what a feed makes of it.
use Rattle.std.specs.Prelude.{ℕ, List, ◌++◌, Option, Some, None}
use Rattle.std.specs.List.{AllByRecursion}
use Rattle.sp_frames.specs.declared.fault.FrameFault.{FrameFault}
use Rattle.sp_frames.specs.declared.frame.Frame.{Frame}
use Rattle.sp_frames.specs.Grammar.{Fits}
use Rattle.sp_frames.specs.Stream.{stream_of, NoFront, IsWhole}
use Rattle.sp_frames.specs.Faults.{HasFault, NoFault}

-- the frames not yet handed out, the bytes after them, and the fault that was met there
pub record Held : Type 0 where
  pub ready : List Frame
  pub rest : List ℕ
  pub stop : Option FrameFault

-- the bytes that are held, as they were fed
abbrev pub bytes_of : Held → List ℕ
bytes_of held = stream_of held.ready held.rest

-- the frames of all bytes fed are those handed out and then those that are ready
abbrev pub Follows : List ℕ → List Frame → Held → Type 0
Follows fed handed held = IsWhole fed (handed ++ held.ready) held.rest

-- a fault was met exactly if the bytes begin with it
abbrev pub IsStop : Option FrameFault → List ℕ → Type 0
IsStop None rest = NoFault rest
IsStop (Some fault) rest = HasFault rest fault

-- ready frames are within their rows, no frame follows them, and the fault after them is the one that was met
pub record IsFramed (held : Held) : Type 0 where
  pub each : AllByRecursion Fits held.ready
  pub none : NoFront held.rest
  pub stopped : IsStop held.stop held.rest
