-- The frames that a client sends are within their rows.
use Rattle.std.proofs.Common.{◌≡◌, ℕ, ◌^◌, ◌<◌, ◌≤◌, ◌⊎◌, inl, inr, Bool, cond, List, [], ◌∷◌, ◌++◌, length, refl, ap, ◌∙◌, true, false, arith}
use Rattle.std.specs.List.{AllByRecursion, list_any}
use Rattle.std.specs.Prelude.{◌==◌, not, Result, Err}
use Rattle.std.proofs.lemmas.Grind.{common_steps}
use Rattle.std.proofs.lemmas.Bool.Decides.{nat_tests}
use Rattle.sp_base.specs.Needs.{IsPiece}
use Rattle.sp_base.specs.declared.need.Need.TheVariants.{Bytes, Text}
use Rattle.sp_copy.specs.Parts.{root_part}
use Rattle.sp_copy.specs.Reading.{gives, given, read_from, read_of}
use Rattle.sp_copy.specs.declared.fault.CopyFault.{CopyFault}
use Rattle.sp_copy.specs.declared.fault.CopyFault.TheVariants.{Fault, NoMemory}
use Rattle.sp_copy.specs.declared.part.Part.{Part}
use Rattle.client_model.specs.Asks.{error_of}
use Rattle.sp_base.specs.Call.{call_number, call_words}
use Rattle.sp_base.specs.declared.call.Call.{Call}
use Rattle.sp_base.specs.declared.names.Cookie.{Cookie}
use Rattle.sp_frames.specs.Fields.{IsBytes}
use Rattle.sp_frames.specs.Grammar.{AreWords, BodyFits, Fits, IsName}
use Rattle.sp_frames.specs.declared.frame.Body.{Body}
use Rattle.sp_frames.specs.declared.frame.Body.TheVariants as body
use Rattle.sp_frames.specs.declared.frame.Frame.{Frame}
use Rattle.sp_frames.proofs.StreamLaws.{each-append}
use Rattle.client_model.specs.Requests.{call_body}
use Rattle.client_model.specs.State.{request_frame}

pub guest_fits : (name : List ℕ) → IsName name → BodyFits (body.Guest name)
guest_fits name h = record { word = omega arith; front = tt; row = h }

pub join_fits : (cookie : Cookie) (name : List ℕ) → cookie.number < 2 ^ 64 → cookie.salt < 2 ^ 64 → IsName name → BodyFits (body.Join cookie name)
join_fits cookie name n s h = record { word = omega arith; front = (n, (s, tt)); row = h }

pub image_fits : (cookie : Cookie) (name : List ℕ) → cookie.number < 2 ^ 64 → cookie.salt < 2 ^ 64 → IsName name → BodyFits (body.Image cookie name)
image_fits cookie name n s h = record { word = omega arith; front = (n, (s, tt)); row = h }

pub call_fits : (call : Call) → call_number call < 2 ^ 32 → AreWords (call_words call) → BodyFits (call_body call)
call_fits call w a = record { word = w; front = tt; row = a }

pub prefork_fits : BodyFits body.Prefork
prefork_fits = record { word = omega arith; front = tt; row = tt }

pub cancel_fits : (cookie : Cookie) → cookie.number < 2 ^ 64 → cookie.salt < 2 ^ 64 → BodyFits (body.Cancel cookie)
cancel_fits cookie n s = record { word = omega arith; front = (n, (s, tt)); row = tt }

pub preexec_fits : BodyFits body.Preexec
preexec_fits = record { word = omega arith; front = tt; row = tt }

pub frame_fits : (n : ℕ) (says : Body) → n < 2 ^ 64 → BodyFits says → Fits (request_frame n says)
frame_fits n says l fits = record { number = l; body = fits }

-- bytes that were read
pub bytes_fit : (index len : ℕ) (bytes : List ℕ) → index < 2 → length bytes ≡ len → len ≤ 131044 → IsBytes bytes → BodyFits (body.GotBytes index 0 bytes)
bytes_fit index len bytes i is few all = record { word = omega arith; front = (omega arith, tt); row = (omega arith, (omega arith, all), refl) }

no_zero : (bytes : List ℕ) → AllByRecursion (λ b. b ≡ 0 → ⊥) bytes → list_any (λ b. b == 0) bytes ≡ false
no_zero [] all = refl
no_zero (b ∷ bytes) all = rw (not_zero b all.0, no_zero bytes all.1) refl
  where
    not_zero : (b : ℕ) → (b ≡ 0 → ⊥) → (b == 0) ≡ false
    not_zero b ne = grind (arith, nat_tests, common_steps)

-- a text that was read
pub text_fits : (index addr most : ℕ) (bytes : List ℕ) → index < 2 → IsPiece (Text addr most) bytes → most ≤ 1024 → IsBytes bytes → BodyFits (body.GotText index 0 bytes)
text_fits index addr most bytes i piece few all = record {
  word = omega arith;
  front = (omega arith, tt);
  row = (omega arith, (let below = piece.0 in omega arith, all), ap not (no_zero bytes piece.1));
}

in_part : (p : Part) (addr len : ℕ) (rest : Result (List ℕ) CopyFault) (why : CopyFault) → (rest ≡ Err why → why ≡ Fault) → (b : Bool) → cond b (given (Bytes addr len) p) rest ≡ Err why → why ≡ Fault
in_part p addr len rest why later true e = absurd cc
in_part p addr len rest why later false e = later e

only_fault : (parts : List Part) (addr len : ℕ) (why : CopyFault) → read_from parts (Bytes addr len) ≡ Err why → why ≡ Fault
only_fault [] addr len why e = cc
only_fault (p ∷ ps) addr len why e = in_part p addr len (read_from ps (Bytes addr len)) why (only_fault ps addr len why) (gives (Bytes addr len) p) e

-- bytes that can't be read have the error of a bad address
pub no_bytes_fit : (parts : List Part) (index addr len err : ℕ) (bytes : List ℕ) (why : CopyFault) → index < 2 → (why ≡ NoMemory) ⊎ (read_of parts (Bytes addr len) ≡ Err why) → (why ≡ NoMemory → ⊥) → err ≡ error_of why → bytes ≡ [] → BodyFits (body.GotBytes index err bytes)
no_bytes_fit parts index addr len err bytes why i (inl e) known is none = absurd (known e)
no_bytes_fit parts index addr len err bytes why i (inr e) known is none =
    rw (is ∙ ap error_of (only_fault (root_part ∷ parts) addr len why e), none) (record { word = omega arith; front = (omega arith, tt); row = (omega arith, (omega arith, λ i. omega arith), refl) })

-- one more frame is queued
pub queue_fits : (queue : List Frame) (f : Frame) → AllByRecursion Fits queue → Fits f → AllByRecursion Fits (queue ++ f ∷ [])
queue_fits queue f all fits = each-append queue (f ∷ []) all (fits, tt)
