-- What is told of the lines of a guest, one after another.
use Rattle.std.proofs.Common.{◌≡◌, ◌≢◌, ℕ, zero, suc, drop, get_or, ◌+◌, ◌<◌, ◌≤◌, ◌^◌, Bool, true, false, List, [], ◌∷◌, ◌++◌, length, None, Some, Result, Ok, Err, inl, inr, refl, sym, ap, subst, ◌∙◌, arith}
use Rattle.std.proofs.lemmas.Bool.Decides.{nat_tests}
use Rattle.std.proofs.lemmas.Grind.{common_steps}
use Rattle.std.proofs.lemmas.List.{append_assoc, append-nil}
use Rattle.std.specs.FinMap.{len}
use Rattle.std.specs.Prelude.{◌&&◌, not, if◌then◌else◌, IfOk}
use Rattle.sp_base.specs.Call.{IsProper, call_number}
use Rattle.sp_base.specs.declared.call.Call.{Call}
use Rattle.sp_base.specs.declared.names.Answer.{Answer}
use Rattle.sp_base.specs.declared.names.ConnNo.{ConnNo}
use Rattle.sp_base.specs.declared.memory.NoMemory.{NoMemory}
use Rattle.sp_base.specs.declared.names.Pid.{Pid}
use Rattle.sp_base.specs.declared.names.Place.{Place}
use Rattle.sp_fork.specs.Jar.{Jar}
use Rattle.sp_io.specs.Causes.{Rose}
use Rattle.sp_copy.specs.declared.part.Part.{Part}
use Rattle.kern_model.specs.Journal.{next_entry, state_after}
use Rattle.kern_model.specs.declared.journal.Entry.{Entry}
use Rattle.kern_model.specs.declared.operation.Op.TheVariants.{Sys}
use Rattle.hub_model.specs.Verdict.{is_later_call}
use Rattle.client_model.specs.Requests.{is_busy}
use Rattle.client_model.specs.State.{Client}
use Rattle.link_model.specs.Asked.{Asked}
use Rattle.link_model.specs.Direct.{direct, reads}
use Rattle.guest_language.specs.Facts.{HasProperCall, IsProperWhat}
use Rattle.guest_language.specs.Memory.{memory_of}
use Rattle.guest_language.specs.declared.script.Line.{Line}
use Rattle.guest_language.specs.declared.script.Section.{Section}
use Rattle.guest_language.specs.declared.script.What.{What}
use Rattle.guest_language.specs.declared.script.What.TheVariants.{Exec, Run}
use Rattle.guest_rows.specs.Rows.{row_text}
use Rattle.guest_run.specs.Called.{Becomes, IsAskedOver, IsAnsweredOver}
use Rattle.guest_run.specs.Guest.{HasExeced, IsAtRest, Key, key_behind, key_beyond, last_key, request}
use Rattle.guest_run.specs.Joined.{link_of}
use Rattle.guest_run.specs.Outside.{first_outside, is_inside, is_taken}
use Rattle.guest_run.specs.Run.{AreTold, HasExited, HasSaltCause, IsCalledAs, IsEnded, IsExecedAs, IsToldBy, all_told, answered_row, behind, cut_end, cut_row, exec_answer, key_of, refused_row}
use Rattle.guest_run.specs.UnderWay.{HasTold, IsAnsweredAs, IsCutAs, IsToldTo, IsUnderWay}
use Rattle.guest_run.specs.declared.calling.Called.{Called}
use Rattle.guest_run.specs.declared.calling.Called.TheVariants.{Answered, Refused}
use Rattle.guest_run.specs.declared.running.RunEnd.{RunEnd}
use Rattle.guest_run.specs.declared.running.RunEnd.TheVariants as end
use Rattle.guest_run.specs.declared.joined.Joined.{Joined}

both_second : (a b : Bool) → (a && b) ≡ true → b ≡ true
both_second true b e = e
both_second false b e = absurd cc

not_true : (b : Bool) → not b ≡ true → b ≡ false
not_true true e = absurd cc
not_true false e = refl

-- a client whose request is closed may give another number
may_go_on : (old new : Client) (n : ℕ) → is_busy old ≡ false → len new.requests ≤ len old.requests → new.last ≡ old.last + 1 → old.last ≤ n → n < 2 ^ 32 → is_busy new ≡ false
may_go_on old new n free fewer gave low small = grind (arith, nat_tests, common_steps)

-- a call that is asked over the link of a guest at rest
abbrev pub asked_of : (joined : Joined) (pid : Pid) (n : ℕ) (call : Call) (mem : List Part) → IsAtRest joined pid n → IsProper call → is_later_call (call_number call) ≡ false → Asked
asked_of joined pid n call mem rest proper now = record {
  link = link_of joined;
  whole = rest.whole;
  caller = record { 0 = 0 };
  call = call;
  proper = proper;
  now = now;
  mem = mem;
}

-- the call of a line is proper
pub proper_call : (line : Line) (call : Call) → line.what ≡ Run call → HasProperCall line → IsProper call
proper_call line call runs proper = subst IsProperWhat runs proper

-- the call of a line that runs by now is one that the server takes
pub taken_call : (line : Line) (call : Call) → line.what ≡ Run call → is_inside line ≡ true → is_later_call (call_number call) ≡ false
taken_call line call runs inside =
    not_true (is_later_call (call_number call)) (subst (λ what. is_taken what ≡ true) runs (both_second (not line.background) (is_taken line.what) inside))

-- what becomes of a call that is a line's, with that line's memory
pub becomes_of_line : (old new : Joined) (line : Line) (call copy : Call) (mem : List Part) (called how : Called) → copy ≡ call → mem ≡ memory_of line.text → called ≡ how
    → ((asked : Asked) → IsAskedOver old copy mem asked → Becomes asked called (link_of new))
    → (asked : Asked) → IsAskedOver old call (memory_of line.text) asked → Becomes asked how (link_of new)
becomes_of_line old new line call copy mem called how same lent is becomes asked over =
    subst (λ (c : Called). Becomes asked c (link_of new)) is
    (becomes asked (record { over = over.over; makes = over.makes ∙ sym same; lends = over.lends ∙ sym lent }))

-- the last request of a guest, by its connection and its client's last number
key_is : (joined : Joined) (conn : ConnNo) (n : ℕ) → joined.conn ≡ conn → joined.client.last ≡ n → last_key joined ≡ record { conn = conn; number = record { 0 = n } }
key_is joined conn n over gave =
    ap (λ (c : ConnNo). record { conn = c; number = record { 0 = joined.client.last } }) over
    ∙ ap (λ (k : ℕ). record { conn = conn; number = record { 0 = k } }) gave

-- a line whose call is answered is told as answered
pub answered : (guest : List ℕ) (pid : Pid) (n : ℕ) (old new : Joined) (line : Line) (call : Call) (mem : List Part) (answer : Answer) (row : List ℕ)
    → n < 2 ^ 32 → IsProper call → is_later_call (call_number call) ≡ false → line.what ≡ Run call
    → ((asked : Asked) → IsAskedOver old call (memory_of line.text) asked → Becomes asked (Answered answer mem) (link_of new))
    → row ≡ row_text (answered_row guest n line answer mem) → IsAtRest old pid n → IsAnsweredAs guest pid n old line row new
answered guest pid n old new line call mem answer row small proper now runs becomes text rest =
    let asked = asked_of old pid n call (memory_of line.text) rest proper now in
    let is : IsAnsweredOver asked answer mem (link_of new) = becomes asked (record { over = refl; makes = refl; lends = refl }) in
    let gave : new.client.last ≡ old.client.last + 1 = is.closed.last in
    let again = is.whole (may_go_on old.client new.client n rest.whole.free is.closed.requests gave rest.low small) in
    let same : new.conn ≡ old.conn = is.stays.conn in
    let number : new.conn.0 ≡ old.conn.0 = ap (λ (c : ConnNo). c.0) same in
    let few = rest.few in
    let low = rest.low in
    let key = key_behind (last_key old) in
    let told : IsCalledAs guest pid n key old.hub.journal line call row is.performed.entry = record {
      answer = answer;
      mem = mem;
      next = subst (λ (p : Pid). next_entry old.hub.journal p (request key) (Sys call) (reads call (memory_of line.text)) ≡ Some is.performed.entry) rest.process
          is.performed.next;
      direct = subst (λ (p : Pid). direct (state_after old.hub.journal) (length old.hub.journal) p.0 call (memory_of line.text) ≡ Some (answer, mem)) rest.process
          is.direct;
      text = text;
    } in
    record {
      entry = is.performed.entry;
      told = subst (λ (w : What). IsToldBy w guest pid n (key_of w (last_key old)) old.hub.journal line row is.performed.entry) (sym runs) told;
      grown = is.performed.grown;
      rest = record {
        whole = again.0;
        process = again.1 ∙ rest.process;
        opened = is.stays.opened ∙ rest.opened ∙ ap (λ (c : ℕ). Some c) (sym number);
        unused = ap (λ (jar : Jar). jar.unused) is.cookies ∙ rest.unused;
        given = ap (λ (jar : Jar). jar.given) is.cookies ∙ rest.given ∙ sym number;
        few = omega (arith, number, few);
        low = omega (arith, gave, low);
      };
      key = subst (λ (w : What). last_key new ≡ key_of w (last_key old)) (sym runs) (key_is new old.conn (old.client.last + 1) same gave);
    }

-- a line whose call is refused is cut short
pub refused : (guest : List ℕ) (pid : Pid) (n : ℕ) (old new : Joined) (line : Line) (call : Call) (row : List ℕ)
    → IsProper call → is_later_call (call_number call) ≡ false → line.what ≡ Run call
    → ((asked : Asked) → IsAskedOver old call (memory_of line.text) asked → Becomes asked Refused (link_of new))
    → row ≡ row_text (refused_row guest n line) → IsAtRest old pid n → IsCutAs guest n old line row end.Refused new
refused guest pid n old new line call row proper now runs becomes text rest = record {
  text = text ∙ sym (ap (λ (w : What). cut_row w guest n line) runs);
  ends = sym (ap cut_end runs);
  kept = becomes (asked_of old pid n call (memory_of line.text) rest proper now) (record { over = refl; makes = refl; lends = refl });
}

-- an exec line without a salt is cut short
pub no_salt : (guest : List ℕ) (n : ℕ) (old : Joined) (line : Line) → line.what ≡ Exec → IsCutAs guest n old line [] end.NoSalt old
no_salt guest n old line execs = record { text = sym (ap (λ (w : What). cut_row w guest n line) execs); ends = sym (ap cut_end execs); kept = refl }

-- an exec line is told as answered
pub execed : (guest : List ℕ) (pid : Pid) (n : ℕ) (old new : Joined) (line : Line) (place : Place) (answer : Answer) (mem : List Part) (row : List ℕ)
    → line.what ≡ Exec → HasExeced old pid n place new → answer ≡ record { err = 0; ret0 = 0; ret1 = 0; place = place } → mem ≡ []
    → row ≡ row_text (answered_row guest n line answer mem) → IsAnsweredAs guest pid n old line row new
execed guest pid n old new line place answer mem row execs is gave none text =
    let at : answer ≡ exec_answer (length old.hub.journal) = gave ∙ ap (λ (p : ℕ). exec_answer p) is.at in
    let told : IsExecedAs guest pid n (key_beyond (last_key old)) old.hub.journal line row is.entry = record {
      next = is.next;
      text = text ∙ ap (λ (m : List Part). row_text (answered_row guest n line answer m)) none
          ∙ ap (λ (a : Answer). row_text (answered_row guest n line a [])) at;
    } in
    record {
      entry = is.entry;
      told = subst (λ (w : What). IsToldBy w guest pid n (key_of w (last_key old)) old.hub.journal line row is.entry) (sym execs) told;
      grown = is.grown;
      rest = is.rest;
      key = subst (λ (w : What). last_key new ≡ key_of w (last_key old)) (sym execs) is.key;
    }

-- ---- the lines

-- what is left from a place on begins with what is there
pub left_at : {X : Type 0} (xs : List X) (i : ℕ) (x : X) → i < length xs → x ≡ get_or xs i x → drop i xs ≡ x ∷ drop (i + 1) xs
left_at [] i x inside is = absurd (omega (arith, inside))
left_at (y ∷ xs) zero x inside is = ap (λ z. z ∷ xs) (sym is)
left_at (y ∷ xs) (suc i) x inside is =
    let more : suc (i + 1) ≡ suc i + 1 = omega arith in
    subst (λ k. drop i xs ≡ x ∷ drop k (y ∷ xs)) more (left_at xs i x (omega arith) is)

-- lines behind one that runs by now run by now too
pub inside_behind : (line : Line) (lines : List Line) → first_outside (line ∷ lines) ≡ None → first_outside lines ≡ None
inside_behind line lines = behind_it (is_inside line)
  where
    behind_it : (inside : Bool) → (if inside then first_outside lines else Some line.at) ≡ None → first_outside lines ≡ None
    behind_it true e = e
    behind_it false e = absurd cc

-- what is told of a line, under the guest's name and with what became of it
pub told_as : (guest name : List ℕ) (pid : Pid) (n : ℕ) (old : Joined) (line : Line) (row : List ℕ) (ends how : RunEnd) (new : Joined)
    → guest ≡ name → ends ≡ how → HasTold guest pid n old line row ends new → HasTold name pid n old line row how new
told_as guest name pid n old line row ends how new named is told =
    subst (λ (w : RunEnd). HasTold name pid n old line row w new) is (subst (λ (g : List ℕ). HasTold g pid n old line row ends new) named told)

-- a line that wasn't answered was cut short
pub cut_as : (guest : List ℕ) (pid : Pid) (n : ℕ) (old : Joined) (line : Line) (row : List ℕ) (ends : RunEnd) (new : Joined)
    → ends ≢ end.Whole → HasTold guest pid n old line row ends new → IsCutAs guest n old line row ends new
cut_as guest pid n old line row end.Whole new not told = absurd (not refl)
cut_as guest pid n old line row end.Refused new not told = told
cut_as guest pid n old line row end.NoSalt new not told = told

-- nothing is told yet
pub begins : (section : Section) (joined : Joined) (rows : List ℕ) (pid : Pid) → rows ≡ [] → IsAtRest joined pid 1 → IsUnderWay section joined joined rows 0 section.lines pid
begins section joined rows pid none rest = record {
  rest = rest;
  more = λ told at. subst (λ (r : List ℕ). AreTold section.name pid 1 (last_key joined) joined.hub.journal section.lines (behind r told)) (sym none) at;
}

-- a line more is told
pub goes_on : (section : Section) (start now new : Joined) (rows row : List ℕ) (i : ℕ) (line : Line) (left : List Line) (pid : Pid)
    → IsUnderWay section start now rows i (line ∷ left) pid → IsAnsweredAs section.name pid (i + 1) now line row new → IsUnderWay section start new (rows ++ row) (i + 1) left pid
goes_on section start now new rows row i line left pid way is = record {
  rest = is.rest;
  more = λ told at.
      let after = subst (λ (j : List Entry). AreTold section.name pid (i + 1 + 1) (last_key new) j left told) is.grown at in
      let later = subst (λ (k : Key). AreTold section.name pid (i + 1 + 1) k (now.hub.journal ++ is.entry ∷ []) left told) is.key after in
      subst (λ (r : List ℕ). AreTold section.name pid 1 (last_key start) start.hub.journal section.lines (record told { rows = r })) (sym (append_assoc rows row told.rows))
      (way.more (behind row told) (inr (row, is.entry, told, is.told, later, refl)));
}

-- a line is cut short, and no other is told
pub is_cut : (section : Section) (start now new : Joined) (rows row : List ℕ) (ends : RunEnd) (i : ℕ) (line : Line) (left : List Line) (pid : Pid) → ends ≢ end.Whole
    → IsUnderWay section start now rows i (line ∷ left) pid → IsCutAs section.name (i + 1) now line row ends new
    → IsToldTo section start new (rows ++ row) ends pid
is_cut section start now new rows row ends i line left pid not way is = record {
  conn = now.conn;
  told = subst (λ (j : List Entry). AreTold section.name pid 1 (last_key start) start.hub.journal section.lines (record { rows = rows ++ row; end = ends; conn = now.conn; journal = j })) (sym is.kept)
      (way.more (record { rows = row; end = ends; conn = now.conn; journal = now.hub.journal }) (inl (
      ap (λ (r : List ℕ). record { rows = r; end = ends; conn = now.conn; journal = now.hub.journal }) is.text
      ∙ ap (λ (e : RunEnd). record { rows = cut_row line.what section.name (i + 1) line; end = e; conn = now.conn; journal = now.hub.journal }) is.ends
      )));
  last = λ e. absurd (not e);
}

-- no line is left
pub ends : (section : Section) (start now : Joined) (rows : List ℕ) (i : ℕ) (left : List Line) (pid : Pid) → left ≡ [] → IsUnderWay section start now rows i left pid
    → IsToldTo section start now rows end.Whole pid
ends section start now rows i left pid none way = record {
  conn = now.conn;
  told = subst (λ (r : List ℕ). AreTold section.name pid 1 (last_key start) start.hub.journal section.lines (record { rows = r; end = end.Whole; conn = now.conn; journal = now.hub.journal }))
      (append-nil rows)
      (way.more (all_told now.conn now.hub.journal)
      (subst (λ (l : List Line). AreTold section.name pid (i + 1) (last_key now) now.hub.journal l (all_told now.conn now.hub.journal)) (sym none) refl));
  last = λ e. refl;
}

-- ---- the end

-- where all lines were answered, the process exits as the last connection ends; else all is left as it is
pub is_over : (how : RunEnd) (conn last : ConnNo) (pid : Pid) (before after : List Entry) → (how ≡ end.Whole → conn ≡ last) → IsEnded how last pid before after → IsEnded how conn pid before after
is_over end.Whole conn last pid before after same over = subst (λ (c : ConnNo). HasExited c pid before after) (sym (same refl)) over
is_over end.Refused conn last pid before after same over = over
is_over end.NoSalt conn last pid before after same over = over

-- where some line was not answered, nothing more is done
pub is_left : (how : RunEnd) (conn : ConnNo) (pid : Pid) (before after : List Entry) → how ≢ end.Whole → after ≡ before → IsEnded how conn pid before after
is_left end.Whole conn pid before after not same = absurd (not refl)
is_left end.Refused conn pid before after not same = same
is_left end.NoSalt conn pid before after not same = same

-- ---- why it ends

-- a salt that stays has no cause to tell
pub no_cause : (faults : ℕ) (how : RunEnd) → how ≢ end.NoSalt → HasSaltCause faults faults how
no_cause faults how not = record { later = omega arith; failed = λ e. absurd (not e) }

-- a call wants no salt
pub call_end : (guest : List ℕ) (pid : Pid) (n : ℕ) (old new : Joined) (line : Line) (call : Call) (row : List ℕ) (ends : RunEnd) → line.what ≡ Run call
    → HasTold guest pid n old line row ends new → ends ≢ end.NoSalt
call_end guest pid n old new line call row end.Whole runs told e = cc
call_end guest pid n old new line call row end.Refused runs told e = cc
call_end guest pid n old new line call row end.NoSalt runs told e =
    let other : end.NoSalt ≡ end.Refused = told.ends ∙ ap cut_end runs in cc

-- a call that was told leaves the salt as it is, and wants none
pub calls_cause : (faults : ℕ) (result : Result RunEnd NoMemory) (guest : List ℕ) (n : ℕ) (old new : Joined) (line : Line) (call : Call) (before after : List ℕ) → line.what ≡ Run call
    → ((pid : Pid) × IsAtRest old pid n)
    → IfOk result (λ ends. (row : List ℕ) × (after ≡ before ++ row) × ((pid : Pid) → IsAtRest old pid n → HasTold guest pid n old line row ends new))
    → IfOk result (HasSaltCause faults faults)
calls_cause faults (Ok ends) guest n old new line call before after runs rest told =
    no_cause faults ends (call_end guest rest.0 n old new line call told.0 ends runs (told.2 rest.0 rest.1))
calls_cause faults (Err e) guest n old new line call before after runs rest told = tt

-- what came of a salt later came of it from the start
pub cause_from : (start mid now : ℕ) (how : RunEnd) → start ≤ mid → HasSaltCause mid now how → HasSaltCause start now how
cause_from start mid now how up cause = record {
  later = let later = cause.later in omega (arith, up, later);
  failed = λ e. rises start mid now up (cause.failed e);
}
  where
    rises : (a b c : ℕ) → a ≤ b → Rose b c → Rose a c
    rises a b c up rose = grind (arith, nat_tests, common_steps)
