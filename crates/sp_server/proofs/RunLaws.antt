-- A whole run, from the source to the sink.
use Rattle.std.proofs.Common.{◌≡◌, ◌≢◌, ℕ, ◌+◌, ◌-◌, ◌≤◌, ◌<◌, Bool, true, false, List, [], ◌∷◌, ◌++◌, length, take, Option, Some, None, Result, Ok, Err, IsErrAnd, IfOk, IfErr, OnErr, IfSome, IfNone, refl, sym, ap, subst, ◌∙◌, length-append, arith}
use Rattle.std.proofs.lemmas.List.{append-nil}
use Rattle.std.specs.Prelude.{IsTrue, ◌↔◌}
use Rattle.std.specs.Io.KnownBytes.{Keeps, Appends, Consumes, IsAtEnd}
use Rattle.sp_io.specs.Whole.{IsAll}
use Rattle.sp_io.proofs.Known.{appends_then, consumes_then, appends_keeps}
use Rattle.sp_base.specs.declared.names.ReqNo.{ReqNo}
use Rattle.sp_server.specs.declared.session.Session.{Session}
use Rattle.sp_server.specs.declared.session.Stop.{Stop}
use Rattle.sp_server.specs.declared.session.Stop.TheVariants as stop
use Rattle.sp_server.specs.declared.stdio.StdioEnd.{StdioEnd}
use Rattle.sp_server.specs.declared.stdio.StdioEnd.TheVariants as end
use Rattle.sp_frames.specs.Fields.{IsBytes}
use Rattle.sp_frames.specs.Banner.{banner}
use Rattle.sp_server.specs.Stdio.{most_input, Told, IsServed, Serves, is_read, is_decided}
use Rattle.sp_server.specs.Session.{end_of, outcome, Moves, IsAt, IsStopText, IsPart, IsPartBehind, IsServedBy}
use Rattle.sp_server.proofs.EndLaws.{all_looked_at}
use Rattle.sp_server.proofs.Octets.{bytes-append, bytes-take}
use Rattle.sp_server.proofs.Outs.{part_cut}
use Rattle.sp_server.proofs.Moves.{appends_nothing}
use Rattle.sp_server.proofs.SessionLaws.{answered_last, part_answered, stop_part}

-- ---- known bytes

consumes_nothing : (left : Option (List ℕ)) → Consumes left left []
consumes_nothing None = tt
consumes_nothing (Some xs) = refl

consumes_keeps : (a b c : Option (List ℕ)) (xs : List ℕ) → Consumes a b xs → Keeps b c → Consumes a c xs
consumes_keeps None b c xs first second = tt
consumes_keeps (Some xs0) None c xs first second = absurd first
consumes_keeps (Some xs0) (Some ys0) None xs first second = absurd second
consumes_keeps (Some xs0) (Some ys0) (Some zs0) xs first second = first ∙ ap (λ t. xs ++ t) (sym second)

-- all was taken, where nothing is left then
all_taken : (a b : Option (List ℕ)) (xs : List ℕ) → Consumes a b xs → IsAtEnd b → IsAll a xs
all_taken None b xs takes at = tt
all_taken (Some xs0) None xs takes at = absurd takes
all_taken (Some xs0) (Some ys0) xs takes at = sym (takes ∙ (ap (λ t. xs ++ t) at ∙ append-nil xs))

-- ---- what holds of a result

-- what holds of a stop's end holds of the end that its error is
pub at_stop : (X : StdioEnd → Type 0) (r : Result StdioEnd Stop) (why : Stop) → IsErrAnd r (λ x. x ≡ why) → X (end_of why) → X (outcome r)
at_stop X (Ok e) why is x = absurd is
at_stop X (Err s) why is x = subst (λ (w : Stop). X (end_of w)) (sym is) x

-- an end that the bytes decide, and a stop for another cause, are no fault of the salt
pub never_salt : (r : Result StdioEnd Stop) → IfOk r (λ end. is_decided end ≡ true) → IfErr r (λ why. why ≢ stop.Salt) → outcome r ≡ end.SaltFault → ⊥
never_salt (Ok e) decided other same = let no : false ≡ true = sym (ap is_decided same) ∙ decided in absurd cc
never_salt (Err stop.Output) decided other same = absurd cc
never_salt (Err stop.Salt) decided other same = other refl
never_salt (Err stop.NoMemory) decided other same = absurd cc

pub at_some : {T : Type 0} (P : T → Type 0) (o : Option T) (t : T) → o ≡ Some t → IfSome o P → P t
at_some P None t e holds = absurd cc
at_some P (Some u) t e holds = let same : u ≡ t = cc in subst P same holds

pub at_none : {T : Type 0} {X : Type 0} (o : Option T) → ((t : T) → o ≡ Some t → ⊥) → IfNone o X → X
at_none None not holds = holds
at_none (Some t) not holds = absurd (not t refl)

-- ---- how far a run is

-- what the source, the sink and the salt tell
abbrev pub told : Option (List ℕ) → Option (List ℕ) → Option (List ℕ) → Option (List ℕ) → Told
told left passed held drawn = record { left = left; passed = passed; held = held; drawn = drawn }

-- what the source gave was fed, and the salts for it were drawn and what was written for it is in the sink
pub record IsRunning (s : Session) (old new : Told) : Type 0 where
  pub taken : List ℕ
  pub salts : List ℕ
  pub text : List ℕ
  pub reached : IsAt s None taken salts text
  pub source : Consumes old.left new.left taken
  pub counted : Appends old.passed new.passed taken
  pub sink : Appends old.held new.held text
  pub salt : Appends old.drawn new.drawn salts

-- a run begins: the banner is written
pub start : (s : Session) (left passed held held' drawn : Option (List ℕ)) → IsAt s None [] [] banner → Appends held held' banner → IsRunning s (told left passed held drawn) (told left passed held' drawn)
start s left passed held held' drawn is puts = record {
  taken = [];
  salts = [];
  text = banner;
  reached = is;
  source = consumes_nothing left;
  counted = appends_nothing passed;
  sink = puts;
  salt = appends_nothing drawn;
}

-- how a run that stops is served
stopped : (s : Stop) (taken salts text : List ℕ) → IsBytes (take most_input taken) → IsStopText s (take most_input taken) salts text → IsServedBy (end_of s) taken salts text
stopped stop.Output taken salts text all part = part_cut (take most_input taken) salts text all part
stopped stop.Salt taken salts text all part = part
stopped stop.NoMemory taken salts text all part = part_cut (take most_input taken) salts text all part

never_read : (s : Stop) → is_read (end_of s) ≡ false
never_read stop.Output = refl
never_read stop.Salt = refl
never_read stop.NoMemory = refl

not_read : (e : StdioEnd) → is_read e ≡ false → is_read e ≡ true → ⊥
not_read e unread reads = let never : false ≡ true = sym unread ∙ reads in absurd cc

-- the run that stops before it takes anything
pub begun : (s : Stop) (left passed held held' drawn : Option (List ℕ)) → s ≢ stop.Salt → IsPartBehind [] [] [] held held' → IsServed (told left passed held drawn) (told left passed held' drawn) (end_of s)
begun s left passed held held' drawn other is =
    let stops = stopped s [] [] is.0 (λ i. omega arith) (stop_part s [] [] is.0 other is.2) in
    record {
      taken = [];
      salts = [];
      refused = stops.0;
      text = is.0;
      source = consumes_nothing left;
      counted = appends_nothing passed;
      sink = is.1;
      salt = appends_nothing drawn;
      serves = stops.1;
      all = λ e. absurd (not_read (end_of s) (never_read s) e);
    }

-- the source gives nothing more, and fails
unfed : (s : Session) (end : StdioEnd) (old mid : Told) (left passed : Option (List ℕ)) (so : IsRunning s old mid) → Keeps mid.left left → Keeps mid.passed passed → is_read end ≡ false
    → IsServedBy end so.taken so.salts so.text → IsServed old (told left passed mid.held mid.drawn) end
unfed s end old mid left passed so kept counted unread serves = record {
  taken = so.taken;
  salts = so.salts;
  refused = serves.0;
  text = so.text;
  source = consumes_keeps old.left mid.left left so.taken so.source kept;
  counted = appends_keeps old.passed mid.passed passed so.taken so.counted counted;
  sink = so.sink;
  salt = so.salt;
  serves = serves.1;
  all = λ e. absurd (not_read end unread e);
}

pub input_failed : (s : Session) (old mid : Told) (left passed : Option (List ℕ)) → IsRunning s old mid → Keeps mid.left left → Keeps mid.passed passed → IsServed old (told left passed mid.held mid.drawn) end.InputFault
input_failed s old mid left passed so kept counted =
    let is = so.reached in
    let answered = answered_last so.taken so.salts so.text s.framer.rest s.hub is.answered in
    unfed s end.InputFault old mid left passed so kept counted refl (answered.0, (is.within, (s.framer.rest, s.hub, answered.1, is.met)))

-- the source wants memory
pub input_unread : (s : Session) (old mid : Told) (left passed : Option (List ℕ)) → IsRunning s old mid → Keeps mid.left left → Keeps mid.passed passed → IsServed old (told left passed mid.held mid.drawn) end.NoMemory
input_unread s old mid left passed so kept counted =
    let is = so.reached in
    let same = all_looked_at so.taken is.within in
    let part = part_answered so.taken so.salts so.text s.framer.rest s.hub is.answered in
    unfed s end.NoMemory old mid left passed so kept counted refl (stopped stop.NoMemory so.taken so.salts so.text (subst IsBytes same is.octets) (subst (λ (l : List ℕ). IsPart l so.salts so.text) same part))

-- the input ended
finished_by : (s : Session) (end : StdioEnd) (piece text : List ℕ) (old mid : Told) (left passed held : Option (List ℕ)) (so : IsRunning s old mid)
    → piece ≡ [] → Consumes mid.left left piece → Appends mid.passed passed piece → IsAtEnd mid.left → Appends mid.held held text → IsServedBy end so.taken so.salts (so.text ++ text)
    → IsServed old (told left passed held mid.drawn) end
finished_by s end piece text old mid left passed held so none takes counts at puts serves =
    let whole : so.taken ++ piece ≡ so.taken = ap (λ t. so.taken ++ t) none ∙ append-nil so.taken in
    record {
      taken = so.taken;
      salts = so.salts;
      refused = serves.0;
      text = so.text ++ text;
      source = subst (Consumes old.left left) whole (consumes_then old.left mid.left left so.taken piece so.source takes);
      counted = subst (Appends old.passed passed) whole (appends_then old.passed mid.passed passed so.taken piece so.counted counts);
      sink = appends_then old.held mid.held held so.text text so.sink puts;
      salt = so.salt;
      serves = serves.1;
      all = λ e. all_taken old.left mid.left so.taken so.source at;
    }

pub finished : (s : Session) (result : Result StdioEnd Stop) (piece : List ℕ) (old mid : Told) (left passed held : Option (List ℕ)) (so : IsRunning s old mid)
    → piece ≡ [] → Consumes mid.left left piece → Appends mid.passed passed piece → IsAtEnd mid.left
    → IfOk result (λ end. (input salts before : List ℕ) → IsAt s None input salts before → (text : List ℕ) × Appends mid.held held text × IsServedBy end input salts (before ++ text))
    → OnErr result ((input salts before : List ℕ) → IsAt s None input salts before → IsPartBehind input salts before mid.held held)
    → IfErr result (λ why. why ≢ stop.Salt)
    → IsServed old (told left passed held mid.drawn) (outcome result)
finished s (Ok end) piece old mid left passed held so none takes counts at ends parts other =
    let out = ends so.taken so.salts so.text so.reached in
    finished_by s end piece out.0 old mid left passed held so none takes counts at out.1 out.2
finished s (Err why) piece old mid left passed held so none takes counts at ends parts other =
    let part = parts so.taken so.salts so.text so.reached in
    let same = all_looked_at so.taken so.reached.within in
    let cut = stop_part why so.taken so.salts (so.text ++ part.0) other part.2 in
    finished_by s (end_of why) piece part.0 old mid left passed held so none takes counts at part.1
    (stopped why so.taken so.salts (so.text ++ part.0) (subst IsBytes same so.reached.octets) (subst (λ (l : List ℕ). IsStopText why l so.salts (so.text ++ part.0)) same cut))

-- a piece ends the run before the input ends
pub broken : (s : Session) (end : StdioEnd) (piece : List ℕ) (old mid new : Told) (so : IsRunning s old mid)
    → Consumes mid.left new.left piece → Appends mid.passed new.passed piece → is_read end ≡ false
    → Moves mid.drawn new.drawn mid.held new.held (λ salts text. IsServedBy end (so.taken ++ piece) (so.salts ++ salts) (so.text ++ text))
    → IsServed old new end
broken s end piece old mid new so takes counts unread ends = record {
  taken = so.taken ++ piece;
  salts = so.salts ++ ends.0;
  refused = ends.4.0;
  text = so.text ++ ends.1;
  source = consumes_then old.left mid.left new.left so.taken piece so.source takes;
  counted = appends_then old.passed mid.passed new.passed so.taken piece so.counted counts;
  sink = appends_then old.held mid.held new.held so.text ends.1 so.sink ends.3;
  salt = appends_then old.drawn mid.drawn new.drawn so.salts ends.0 so.salt ends.2;
  serves = ends.4.1;
  all = λ e. absurd (not_read end unread e);
}

-- and so does a stop
pub cut : (s : Session) (why : Stop) (piece : List ℕ) (old mid new : Told) (so : IsRunning s old mid)
    → Consumes mid.left new.left piece → Appends mid.passed new.passed piece → IsBytes piece
    → Moves mid.drawn new.drawn mid.held new.held (λ salts text. IsStopText why (take most_input (so.taken ++ piece)) (so.salts ++ salts) (so.text ++ text))
    → IsServed old new (end_of why)
cut s why piece old mid new so takes counts all part =
    let octets = bytes-take most_input (so.taken ++ piece) (bytes-append so.taken piece so.reached.octets all) in
    let stops = stopped why (so.taken ++ piece) (so.salts ++ part.0) (so.text ++ part.1) octets part.4 in
    broken s (end_of why) piece old mid new so takes counts (never_read why) (part.0, part.1, part.2, part.3, stops)

-- a piece was fed, and the run goes on
pub goes_on : (s t : Session) (piece : List ℕ) (old mid new : Told) (so : IsRunning s old mid)
    → Consumes mid.left new.left piece → Appends mid.passed new.passed piece
    → Moves mid.drawn new.drawn mid.held new.held (λ salts text. IsAt t None (so.taken ++ piece) (so.salts ++ salts) (so.text ++ text)) → IsRunning t old new
goes_on s t piece old mid new so takes counts on = record {
  taken = so.taken ++ piece;
  salts = so.salts ++ on.0;
  text = so.text ++ on.1;
  reached = on.4;
  source = consumes_then old.left mid.left new.left so.taken piece so.source takes;
  counted = appends_then old.passed mid.passed new.passed so.taken piece so.counted counts;
  sink = appends_then old.held mid.held new.held so.text on.1 so.sink on.3;
  salt = appends_then old.drawn mid.drawn new.drawn so.salts on.0 so.salt on.2;
}

-- and there is less to come
pub less_to_come : (s t : Session) (taken piece salts text later more : List ℕ) → IsAt s None taken salts text → IsAt t None (taken ++ piece) later more → 0 < length piece → most_input - t.fed < most_input - s.fed
less_to_come s t taken piece salts text later more is now some =
    let a = is.fed in
    let b : t.fed ≡ length taken + length piece = now.fed ∙ length-append taken piece in
    let c : length taken + length piece ≤ most_input = subst (λ n. n ≤ most_input) (length-append taken piece) now.within in
    omega arith

pub some_piece : (piece : List ℕ) (empty : Bool) → IsTrue empty ↔ (piece ≡ []) → empty ≡ false → 0 < length piece
some_piece [] empty both not = let holds : empty ≡ true = both.1 refl in let never : true ≡ false = sym holds ∙ not in absurd cc
some_piece (b ∷ piece) empty both not = omega arith
