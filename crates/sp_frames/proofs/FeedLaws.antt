-- What a feed leaves, in words of all bytes fed.
use Rattle.std.proofs.Common.{◌≡◌, ◌≢◌, ◌⊎◌, inl, inr, ℕ, List, [], ◌++◌, None, Result, Ok, Err, refl, sym, ap, subst, ◌∙◌, append_assoc, arith}
use Rattle.std.specs.List.{flat_map}
use Rattle.sp_frames.specs.declared.fault.FrameFault.{FrameFault}
use Rattle.sp_frames.specs.declared.fault.FrameFault.TheVariants as fault
use Rattle.sp_frames.specs.declared.frame.Frame.{Frame}
use Rattle.sp_frames.specs.Grammar.{spelling}
use Rattle.sp_frames.specs.Stream.{stream_of, IsWhole}
use Rattle.sp_frames.specs.Faults.{HasFault, NoFault}
use Rattle.sp_frames.specs.Framing.{Held, bytes_of, Follows, IsStop, IsFramed}
use Rattle.sp_frames.specs.declared.reading.Step.TheVariants.{Partial}
use Rattle.sp_frames.specs.Reading.{step_of}
use Rattle.sp_frames.specs.Feeding.{Joins, Adds, Feeds}
use Rattle.sp_frames.proofs.FaultLaws.{one_fault}
use Rattle.sp_frames.proofs.StreamLaws.{front, stream-append, each-append, each-front, one_whole}

-- what joined is what is held now, with the piece behind it
pub adds : (old : Held) (piece : List ℕ) (new : Held) → Joins old.ready (old.rest ++ piece) new.ready new.rest new.stop → Adds old piece new
adds old piece new is = is.whole ∙ sym (append_assoc (flat_map spelling old.ready) old.rest piece)

pub framed : (old : Held) (bytes : List ℕ) (new : Held) → Joins old.ready bytes new.ready new.rest new.stop → IsFramed old → IsFramed new
framed old bytes new is was = record { each = is.each was.each; none = is.none; stopped = is.stopped }

-- the frames handed out, and then those that are ready, are the frames of all bytes fed, also with the piece
pub follows : (old : Held) (piece : List ℕ) (new : Held) (fed : List ℕ) (handed : List Frame) → Adds old piece new → IsFramed new → Follows fed handed old → Follows (fed ++ piece) handed new
follows old piece new fed handed adds is was = record {
  whole = ap (λ (x : List ℕ). x ++ piece) (was.whole ∙ stream-append handed old.ready old.rest)
      ∙ append_assoc (flat_map spelling handed) (bytes_of old) piece
      ∙ ap (stream_of handed) (sym adds) ∙ sym (stream-append handed new.ready new.rest);
  each = each-append handed new.ready (each-front handed old.ready was.each) is.each;
  none = is.none;
}

-- the frames of what is held
pub whole : (held : Held) → IsFramed held → IsWhole (bytes_of held) held.ready held.rest
whole held is = record { whole = refl; each = is.each; none = is.none }

partial : Partial ≡ step_of []
unfolding step_of
partial = refl

-- a framer that holds nothing
pub nothing : IsFramed (record { ready = []; rest = []; stop = None })
nothing = record { each = tt; none = (front [] Partial (λ i. omega arith) partial).0; stopped = (front [] Partial (λ i. omega arith) partial).1 }

-- the fault of the stream with the piece is the answer, but for want of memory
pub exact : (old : Held) (piece : List ℕ) (result : Result (Unit {0}) FrameFault) (new : Held) → Feeds None old piece result new → IsFramed new
    → (frames : List Frame) (rest : List ℕ) (e : FrameFault) → IsWhole (bytes_of old ++ piece) frames rest → HasFault rest e → (result ≡ Err e) ⊎ (result ≡ Err fault.NoMemory)
exact old piece (Ok u) new feeds is frames rest e of has =
    let same : new.rest ≡ rest = (one_whole (bytes_of old ++ piece) new.ready frames new.rest rest (subst (λ bytes. IsWhole bytes new.ready new.rest) feeds.0 (whole new is)) of).1 in
    let none : NoFault new.rest = subst (λ stop. IsStop stop new.rest) feeds.1 is.stopped in
    absurd (none e (subst (λ rest. HasFault rest e) (sym same) has))
exact old piece (Err x) new feeds is frames rest e of has =
    elim feeds [
      | inl refused ↦ inr (ap Err refused.0)
      | inr taken ↦
          let same : new.rest ≡ rest = (one_whole (bytes_of old ++ piece) new.ready frames new.rest rest (subst (λ bytes. IsWhole bytes new.ready new.rest) taken.0 (whole new is)) of).1 in
          let there : HasFault new.rest x = subst (λ stop. IsStop stop new.rest) taken.1 is.stopped in
          inl (ap Err (one_fault rest x e (subst (λ rest. HasFault rest x) same there) has))
    ]

-- a feed that was not refused added the piece
pub added : (old : Held) (piece : List ℕ) (result : Result (Unit {0}) FrameFault) (new : Held) → Feeds None old piece result new → result ≢ Err fault.NoMemory → Adds old piece new
added old piece (Ok u) new feeds not = feeds.0
added old piece (Err x) new feeds not = elim feeds [ inl refused ↦ absurd (not (ap Err refused.0)) | inr taken ↦ taken.0 ]
