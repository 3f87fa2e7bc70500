-- What comes out of the bytes of one frame.
use Rattle.std.proofs.Common.{◌≡◌, ℕ, List, [], ◌∷◌, ◌++◌, Result, Ok, Err, refl, sym, ap, ◌∙◌}
use Rattle.std.proofs.lemmas.List.{append-nil}
use Rattle.sp_frames.specs.declared.frame.Frame.{Frame}
use Rattle.sp_frames.specs.Faults.{HasFault}
use Rattle.sp_frames.specs.Framing.{Held, Follows}
use Rattle.sp_frames.specs.Grammar.{spelling, Fits}
use Rattle.sp_frames.specs.Stream.{IsWhole}
use Rattle.sp_frames.specs.declared.fault.FrameFault.{FrameFault}
use Rattle.sp_frames.proofs.FeedLaws.{nothing}
use Rattle.sp_frames.proofs.StreamLaws.{one_whole}
use Rattle.guest_run.specs.Wire.{IsIdle}

-- one frame's bytes are whole
whole : (frame : Frame) → Fits frame → IsWhole (spelling frame) (frame ∷ []) []
whole frame fits = record {
  whole = sym (append-nil (spelling frame ++ []) ∙ append-nil (spelling frame));
  each = (fits, tt);
  none = nothing.none;
}

-- fed with the bytes of a frame, an idle framer has that frame ready and nothing behind it
pub fed : (frame : Frame) (before text piece : List ℕ) (old new : Held) → Fits frame → before ≡ [] → text ≡ before ++ spelling frame → piece ≡ text → IsIdle old
    → ((fed : List ℕ) (handed : List Frame) → Follows fed handed old → Follows (fed ++ piece) handed new)
    → (new.ready ≡ frame ∷ []) × (new.rest ≡ [])
fed frame before text piece old new fits empty spelled same idle follows =
    let is : piece ≡ spelling frame = same ∙ spelled ∙ ap (λ (x : List ℕ). x ++ spelling frame) empty in
    let start : Follows [] [] old = rw (idle.ready, idle.rest) (record { whole = refl; each = tt; none = nothing.none }) in
    let after = follows [] [] start in
    one_whole (spelling frame) new.ready (frame ∷ []) new.rest [] (rw is at after) (whole frame fits)

-- the empty text begins with no fault
pub no_fault : (rest : List ℕ) (fault : FrameFault) → rest ≡ [] → HasFault rest fault → ⊥
no_fault rest fault empty has = nothing.stopped fault (rw empty at has)

pub same_error : (r : Result (Unit {0}) FrameFault) (a b : FrameFault) → r ≡ Err a → r ≡ Err b → a ≡ b
same_error r a b p q = cc

pub no_error : (r : Result (Unit {0}) FrameFault) (u : Unit {0}) (a : FrameFault) → r ≡ Ok u → r ≡ Err a → ⊥
no_error r u a p q = cc

-- the one frame that is ready is the one that comes, and no other is ready then
pub came : (frame passed : Frame) (ready more : List Frame) → ready ≡ frame ∷ [] → ready ≡ passed ∷ more → (passed ≡ frame) × (more ≡ [])
came frame passed ready more one next = (cc, cc)

pub comes : (frame : Frame) (ready : List Frame) → ready ≡ frame ∷ [] → ready ≡ [] → ⊥
comes frame ready one none = cc
