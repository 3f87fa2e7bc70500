-- A stream is its frames and no others.
use Rattle.std.proofs.Common.{◌≡◌, ℕ, List, [], ◌∷◌, ◌++◌, length, drop, refl, sym, ap, ◌∙◌, append_assoc}
use Rattle.std.specs.List.{flat_map, AllByRecursion}
use Rattle.std.proofs.lemmas.List.{append-nil, drop_at}
use Rattle.sp_frames.specs.declared.fault.FrameFault.{FrameFault}
use Rattle.sp_frames.specs.declared.frame.Frame.{Frame}
use Rattle.sp_frames.specs.declared.reading.Step.{Step}
use Rattle.sp_frames.specs.declared.reading.Step.TheVariants.{Whole, Partial, Fault}
use Rattle.sp_frames.specs.Fields.{IsBytes}
use Rattle.sp_frames.specs.Grammar.{spelling, Fits}
use Rattle.sp_frames.specs.Stream.{stream_of, NoFront, IsWhole}
use Rattle.sp_frames.specs.Faults.{HasFault}
use Rattle.sp_frames.specs.Feeding.{FrontIs}
use Rattle.sp_frames.specs.Reading.{step_of}
use Rattle.sp_frames.proofs.StepLaws.{spelled, found}
use Rattle.sp_frames.proofs.FaultLaws.{step_fault, fault_step, has_fault_stays, partial_none}

-- ---- what stands at the front of bytes

no_front : (s : Step) (bytes : List ℕ) → ((f : Frame) (n : ℕ) → s ≡ Whole f n → ⊥) → s ≡ step_of bytes → NoFront bytes
no_front s bytes not is f more fits e = not f (length (spelling f)) (is ∙ ap step_of e ∙ spelled f more fits)

pub front : (bytes : List ℕ) (s : Step) → IsBytes bytes → s ≡ step_of bytes → FrontIs bytes s
front bytes (Whole f n) all e = found bytes f n all (sym e)
front bytes Partial all e = (no_front Partial bytes (λ f n is. absurd cc) e, partial_none bytes (sym e))
front bytes (Fault x) all e = (no_front (Fault x) bytes (λ f n is. absurd cc) e, step_fault bytes x all (sym e))

-- ---- spellings

-- frames whose spellings begin the same bytes are the same
pub same_front : (f g : Frame) (x y : List ℕ) → Fits f → Fits g → spelling f ++ x ≡ spelling g ++ y → f ≡ g
same_front f g x y ff fg e = let w : Whole f (length (spelling f)) ≡ Whole g (length (spelling g)) = sym (spelled f x ff) ∙ ap step_of e ∙ spelled g y fg in cc

-- and so is what follows them
pub same_rest : (f g : Frame) (x y : List ℕ) → f ≡ g → spelling f ++ x ≡ spelling g ++ y → x ≡ y
same_rest f g x y q e =
    let e2 : spelling f ++ x ≡ spelling f ++ y = e ∙ ap (λ (h : Frame). spelling h ++ y) (sym q) in
    sym (drop_at (spelling f) x (length (spelling f)) refl) ∙ ap (λ (l : List ℕ). drop (length (spelling f)) l) e2 ∙ drop_at (spelling f) y (length (spelling f)) refl

pub one_spelling : (f g : Frame) → Fits f → Fits g → spelling f ≡ spelling g → f ≡ g
one_spelling f g ff fg e = same_front f g [] [] ff fg (ap (λ (l : List ℕ). l ++ []) e)

pub no_prefix : (f g : Frame) (more : List ℕ) → Fits f → Fits g → spelling g ≡ spelling f ++ more → more ≡ []
no_prefix f g more ff fg e =
    let e2 : spelling f ++ more ≡ spelling g ++ [] = sym e ∙ sym (append-nil (spelling g)) in
    same_rest f g more [] (same_front f g more [] ff fg e2) e2

-- ---- streams

pub stream-append : (fs gs : List Frame) (rest : List ℕ) → stream_of (fs ++ gs) rest ≡ stream_of fs (stream_of gs rest)
stream-append [] gs rest = refl
stream-append (f ∷ fs) gs rest =
    append_assoc (spelling f) (flat_map spelling (fs ++ gs)) rest ∙ ap (λ (x : List ℕ). spelling f ++ x) (stream-append fs gs rest)
    ∙ sym (append_assoc (spelling f) (flat_map spelling fs) (stream_of gs rest))

pub each-append : (fs gs : List Frame) → AllByRecursion Fits fs → AllByRecursion Fits gs → AllByRecursion Fits (fs ++ gs)
each-append [] gs hf hg = hg
each-append (f ∷ fs) gs hf hg = (hf.0, each-append fs gs hf.1 hg)

pub each-front : (fs gs : List Frame) → AllByRecursion Fits (fs ++ gs) → AllByRecursion Fits fs
each-front [] gs h = tt
each-front (f ∷ fs) gs h = (h.0, each-front fs gs h.1)

streams : (fs gs : List Frame) (r s : List ℕ) → AllByRecursion Fits fs → AllByRecursion Fits gs → NoFront r → NoFront s → stream_of fs r ≡ stream_of gs s → (fs ≡ gs) × (r ≡ s)
streams [] [] r s hf hg nr ns e = (refl, e)
streams [] (g ∷ gs) r s hf hg nr ns e = absurd (nr g (stream_of gs s) hg.0 (e ∙ append_assoc (spelling g) (flat_map spelling gs) s))
streams (f ∷ fs) [] r s hf hg nr ns e = absurd (ns f (stream_of fs r) hf.0 (sym e ∙ append_assoc (spelling f) (flat_map spelling fs) r))
streams (f ∷ fs) (g ∷ gs) r s hf hg nr ns e =
    let e2 : spelling f ++ stream_of fs r ≡ spelling g ++ stream_of gs s = sym (append_assoc (spelling f) (flat_map spelling fs) r) ∙ e ∙ append_assoc (spelling g) (flat_map spelling gs) s in
    let q : f ≡ g = same_front f g _ _ hf.0 hg.0 e2 in
    let p = streams fs gs r s hf.1 hg.1 nr ns (same_rest f g _ _ q e2) in
    (ap (λ (h : Frame). h ∷ fs) q ∙ ap (λ (l : List Frame). g ∷ l) p.0, p.1)

pub one_whole : (bytes : List ℕ) (fs gs : List Frame) (r s : List ℕ) → IsWhole bytes fs r → IsWhole bytes gs s → (fs ≡ gs) × (r ≡ s)
one_whole bytes fs gs r s a b = streams fs gs r s a.each b.each a.none b.none (sym a.whole ∙ b.whole)

-- ---- what follows a fault

-- bytes that begin with a fault still do whatever bytes come behind them, and no frame begins them
pub fault_stays : (bytes more : List ℕ) (e : FrameFault) → IsBytes more → HasFault bytes e → HasFault (bytes ++ more) e × NoFront (bytes ++ more)
fault_stays bytes more e all has =
    let there = has_fault_stays bytes more e all has in
    (there, no_front (Fault e) (bytes ++ more) (λ f n is. absurd cc) (sym (fault_step (bytes ++ more) e there)))

-- the frames before a fault are the frames of the whole, whatever bytes come behind
pub fault_ends_the_frames : (bytes more : List ℕ) (frames : List Frame) (rest : List ℕ) (e : FrameFault) → IsBytes more → IsWhole bytes frames rest → HasFault rest e → IsWhole (bytes ++ more) frames (rest ++ more)
fault_ends_the_frames bytes more frames rest e all is has = record {
  whole = ap (λ (x : List ℕ). x ++ more) is.whole ∙ append_assoc (flat_map spelling frames) rest more;
  each = is.each;
  none = (fault_stays rest more e all has).1;
}
