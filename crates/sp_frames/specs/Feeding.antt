-- The steps of a feed: an aid of the proofs, which no public clause cites.
use Rattle.std.specs.Prelude.{◌≡◌, ◌⊎◌, ℕ, ◌≤◌, List, ◌++◌, length, drop, Option, Some, None, Result, Ok, Err}
use Rattle.std.specs.List.{AllByRecursion}
use Rattle.sp_frames.specs.declared.fault.FrameFault.{FrameFault}
use Rattle.sp_frames.specs.declared.fault.FrameFault.TheVariants as fault
use Rattle.sp_frames.specs.declared.frame.Frame.{Frame}
use Rattle.sp_frames.specs.declared.reading.Step.{Step}
use Rattle.sp_frames.specs.declared.reading.Step.TheVariants.{Whole, Partial, Fault}
use Rattle.sp_frames.specs.Grammar.{spelling, Fits}
use Rattle.sp_frames.specs.Stream.{stream_of, NoFront}
use Rattle.sp_frames.specs.Faults.{HasFault, NoFault}
use Rattle.sp_frames.specs.Framing.{Held, bytes_of, IsStop}

-- a frame of this length stands at the front of the bytes
pub record IsFront (bytes : List ℕ) (f : Frame) (n : ℕ) : Type 0 where
  pub text : bytes ≡ spelling f ++ drop n bytes
  pub fits : Fits f
  pub least : 24 ≤ n
  pub most : n ≤ length bytes

-- what stands at the front of the bytes
abbrev pub FrontIs : List ℕ → Step → Type 0
FrontIs bytes (Whole f n) = IsFront bytes f n
FrontIs bytes Partial = NoFront bytes × NoFault bytes
FrontIs bytes (Fault e) = NoFront bytes × HasFault bytes e

-- the frames of the bytes have joined the queue, and these bytes are left
pub record Joins (ready : List Frame) (bytes : List ℕ) (ready' : List Frame) (rest : List ℕ) (stop : Option FrameFault) : Type 0 where
  pub whole : stream_of ready' rest ≡ stream_of ready bytes
  pub each : AllByRecursion Fits ready → AllByRecursion Fits ready'
  pub none : NoFront rest
  pub stopped : IsStop stop rest

-- the piece is added, and nothing is lost
abbrev pub Adds : Held → List ℕ → Held → Type 0
Adds old piece new = bytes_of new ≡ bytes_of old ++ piece

-- what feeding a piece answers and leaves, by the fault that was met before
abbrev pub Feeds : Option FrameFault → Held → List ℕ → Result (Unit {0}) FrameFault → Held → Type 0
Feeds None old piece (Ok u) new = Adds old piece new × (new.stop ≡ None)
Feeds None old piece (Err e) new = ((e ≡ fault.NoMemory) × (new ≡ old)) ⊎ (Adds old piece new × (new.stop ≡ Some e))
Feeds (Some e) old piece result new = (result ≡ Err e) × (new ≡ old)
