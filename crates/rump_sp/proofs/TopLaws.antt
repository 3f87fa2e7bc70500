-- What the program reads, shows and writes.
use Rattle.std.proofs.Common.{◌≡◌, ◌⊎◌, inl, inr, ℕ, ◌≤◌, ◌^◌, Bool, true, List, [], ◌∷◌, Option, Some, None, Ok, Err, get_or, length, take, refl, sym, ap, subst}
use Rattle.std.proofs.Common.{◌∙◌, arith}
use Rattle.std.proofs.lemmas.Bool.Decides.{nat_tests}
use Rattle.std.proofs.lemmas.List.{append-nil, take_all}
use Rattle.std.specs.List.{AllByRecursion}
use Rattle.std.specs.Io.KnownBytes.{Keeps, Appends}
use Rattle.std.specs.Prelude.{nat_lt, option_map, Contains}
use Rattle.sp_io.specs.Whole.{IsAll, IsLonger, AppendsFirst}
use Rattle.guest_language.specs.Facts.{IsSoundSection}
use Rattle.guest_language.specs.Script.{script_of, whole_fault}
use Rattle.guest_language.specs.declared.fault.ScriptFault.{ScriptFault}
use Rattle.guest_language.specs.declared.fault.ScriptKind.{ScriptKind}
use Rattle.guest_language.specs.declared.fault.ScriptKind.TheVariants as kind
use Rattle.guest_language.specs.declared.script.Section.{Section}
use Rattle.guest_run.specs.Outside.{outside_line}
use Rattle.rump_sp.specs.declared.failure.Failure.{Failure}
use Rattle.rump_sp.specs.declared.failure.Failure.TheVariants.{Usage, Script, Outside, Input, Output, BadFrame, Inside, TooMuch, Salt, NoMemory}
use Rattle.rump_sp.specs.Failure.{statuses, status_of, message_of}
use Rattle.rump_sp.specs.Top.{failure_by, failure_of, read_failure, first_failure, Shows, Prints, PrintsFront, TellsFault, IsScriptFailure}

-- ---- a script and what it shows

-- a reader's fault is want of memory, or the script's
pub script_failed : (text : List ℕ) (fault : ScriptFault) → (fault.kind ≡ kind.NoMemory) ⊎ (script_of text ≡ Err fault)
    → IsScriptFailure text (failure_of fault)
script_failed text fault (inl e) = inl (ap (λ (k : ScriptKind). failure_by k fault) e)
script_failed text fault (inr e) = inr (ap read_failure e)

-- a line that doesn't run is the fault of a script that reads well
pub line_failed : (text : List ℕ) (sections : List Section) (line : ℕ) → script_of text ≡ Ok sections → outside_line sections ≡ Some line
    → IsScriptFailure text (Outside line)
line_failed text sections line read outside = inr (ap read_failure read ∙ ap (option_map Outside) outside)

-- the first section of sound ones is sound
pub first_sound : (sections : List Section) (section : Section) → AllByRecursion IsSoundSection sections → 1 ≤ length sections
    → section ≡ get_or sections 0 section → IsSoundSection section
first_sound [] section all some is = absurd (omega (arith, some))
first_sound (first ∷ sections) section all some is = subst IsSoundSection (sym is) all.0

-- ---- what is read

-- the fault of all that is read is told
pub tells_fault : (left : Option (List ℕ)) (text : List ℕ) (failure : Failure) (tells : List ℕ → Type 0) → IsAll left text
    → IsScriptFailure text failure → status_of failure ≡ 65 → tells (message_of failure) → TellsFault left tells
tells_fault None text failure tells all why is told = tt
tells_fault (Some t) text failure tells all (inl e) is told = absurd (let never : 75 ≡ 65 = sym (ap status_of e) ∙ is in omega arith)
tells_fault (Some t) text failure tells all (inr why) is told = (failure, subst (λ (l : List ℕ). first_failure l ≡ Some failure) all why, told)

-- what is too long to be read is no script
pub tells_long : (left : Option (List ℕ)) (tells : List ℕ → Type 0) → IsLonger left (2 ^ 24)
    → tells (message_of (Script (whole_fault kind.TooLong))) → TellsFault left tells
tells_long None tells longer told = tt
tells_long (Some t) tells longer told =
    let long : nat_lt (2 ^ 24) (length t) ≡ true = grind (arith, nat_tests) in
    (Script (whole_fault kind.TooLong), rw long refl, told)

-- ---- what is written

pub prints : (journals : Bool) (left held held' : Option (List ℕ)) (text shown : List ℕ) → IsAll left text → Shows text journals true shown
    → Appends held held' shown → Prints journals left held held'
prints journals None held held' text shown all shows appends = tt
prints journals (Some t) held held' text shown all shows appends = (shown, rw all at shows, appends)

pub prints_front : (journals whole : Bool) (left held held' : Option (List ℕ)) (text shown : List ℕ) → IsAll left text
    → Shows text journals whole shown → AppendsFirst held held' shown → PrintsFront journals left held held'
prints_front journals whole None held held' text shown all shows front = tt
prints_front journals whole (Some t) held held' text shown all shows front =
    (take front.0 shown, inr (record { whole = whole; shown = shown; shows = rw all at shows; count = front.0; first = refl }), front.1)

-- what is written whole is a beginning too
pub prints_whole : (journals whole : Bool) (left held held' : Option (List ℕ)) (text shown : List ℕ) → IsAll left text
    → Shows text journals whole shown → Appends held held' shown → PrintsFront journals left held held'
prints_whole journals whole None held held' text shown all shows appends = tt
prints_whole journals whole (Some t) held held' text shown all shows appends =
    let first : shown ≡ take (length shown) shown = sym (take_all (length shown) shown (omega arith)) in
    (shown, inr (record { whole = whole; shown = shown; shows = rw all at shows; count = length shown; first = first }), appends)

pub appends_nothing : (held : Option (List ℕ)) → Appends held held []
appends_nothing None = tt
appends_nothing (Some xs) = sym (append-nil xs)

-- where nothing is written, it is the beginning of what is shown
pub prints_nothing : (journals : Bool) (left held : Option (List ℕ)) → PrintsFront journals left held held
prints_nothing journals None held = tt
prints_nothing journals (Some t) held = ([], inl refl, appends_nothing held)

pub keeps_same : (held : Option (List ℕ)) → Keeps held held
keeps_same None = tt
keeps_same (Some xs) = refl

-- the status of a failure is one of the six
pub status_in : (failure : Failure) (n : ℕ) → n ≡ status_of failure → Contains statuses n
status_in Usage n e = (1, omega arith, sym e)
status_in (Script fault) n e = (2, omega arith, sym e)
status_in (Outside line) n e = (2, omega arith, sym e)
status_in (BadFrame offset) n e = (2, omega arith, sym e)
status_in (Inside offset) n e = (2, omega arith, sym e)
status_in TooMuch n e = (2, omega arith, sym e)
status_in Salt n e = (3, omega arith, sym e)
status_in Input n e = (4, omega arith, sym e)
status_in Output n e = (4, omega arith, sym e)
status_in NoMemory n e = (5, omega arith, sym e)
