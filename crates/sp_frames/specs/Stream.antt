-- A stream of bytes as the frames that it spells.
use Rattle.std.specs.Prelude.{◌≡◌, ℕ, List, ◌++◌}
use Rattle.std.specs.List.{flat_map, AllByRecursion}
use Rattle.sp_frames.specs.declared.frame.Frame.{Frame}
use Rattle.sp_frames.specs.Grammar.{spelling, Fits}

-- the spellings of frames, and then the bytes after them
abbrev pub stream_of : List Frame → List ℕ → List ℕ
stream_of frames rest = flat_map spelling frames ++ rest

-- no frame's spelling begins the bytes
abbrev pub NoFront : List ℕ → Type 0
NoFront bytes = (frame : Frame) (more : List ℕ) → Fits frame → bytes ≡ spelling frame ++ more → ⊥

-- the longest front that is made of spellings spells these frames, and these bytes are left after it
pub record IsWhole (bytes : List ℕ) (frames : List Frame) (rest : List ℕ) : Type 0 where
  pub whole : bytes ≡ stream_of frames rest
  pub each : AllByRecursion Fits frames
  pub none : NoFront rest
