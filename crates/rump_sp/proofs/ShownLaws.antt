-- What a script shows whole is one text: the kernel's answers decide the rows, and the entries of the journal.
use Rattle.std.proofs.Common.{◌≡◌, inl, inr, ℕ, ◌+◌, ◌&&◌, Bool, true, List, [], ◌∷◌, ◌++◌, Option, Some, Ok, refl, sym, ap, ap₂}
use Rattle.std.proofs.Common.{subst, ◌∙◌}
use Rattle.sp_base.specs.declared.names.Answer.{Answer}
use Rattle.sp_base.specs.declared.names.ConnNo.{ConnNo}
use Rattle.sp_base.specs.declared.names.Pid.{Pid}
use Rattle.sp_copy.specs.declared.part.Part.{Part}
use Rattle.kern_model.specs.declared.journal.Entry.{Entry}
use Rattle.guest_language.specs.declared.script.Line.{Line}
use Rattle.guest_language.specs.declared.script.Section.{Section}
use Rattle.guest_language.specs.declared.script.What.{What}
use Rattle.guest_language.specs.declared.script.What.TheVariants.{Exec, Fork, Join, Run}
use Rattle.guest_rows.specs.Rows.{row_text}
use Rattle.guest_run.specs.Guest.{Key, first_key, process_of}
use Rattle.guest_run.specs.Run.{AreTold, HasExited, IsToldBy, Told, answered_row, behind, cut_end, key_of}
use Rattle.guest_run.specs.declared.running.RunEnd.{RunEnd}
use Rattle.guest_run.specs.declared.running.RunEnd.TheVariants.{Whole, Refused, NoSalt}
use Rattle.rump_sp.specs.Top.{Shows, ShowsRun, ShowsSections, is_whole, journals_text}

one_value : {A : Type 0} (o : Option A) (x y : A) → o ≡ Some x → o ≡ Some y → x ≡ y
one_value {A} o x y a b =
    let both : Some x ≡ Some y = sym a ∙ b in
    cc

-- what a line asks for has one entry at the end of a journal, and one row
one_of : (what : What) (guest : List ℕ) (pid : Pid) (n : ℕ) (key : Key) (before : List Entry) (line : Line) (r s : List ℕ) (e f : Entry)
    → IsToldBy what guest pid n key before line r e → IsToldBy what guest pid n key before line s f → (e ≡ f) × (r ≡ s)
one_of (Run call) guest pid n key before line r s e f a b =
    let pair : (a.answer, a.mem) ≡ (b.answer, b.mem) = one_value _ (a.answer, a.mem) (b.answer, b.mem) a.direct b.direct in
    (one_value _ e f a.next b.next, a.text ∙ ap (λ (p : Answer × List Part). row_text (answered_row guest n line p.0 p.1)) pair ∙ sym b.text)
one_of Exec guest pid n key before line r s e f a b = (one_value _ e f a.next b.next, a.text ∙ sym b.text)
one_of (Fork child) guest pid n key before line r s e f a b = absurd a
one_of Join guest pid n key before line r s e f a b = absurd a

-- a run that is cut short isn't whole
never_whole : (what : What) → cut_end what ≡ Whole → ⊥
never_whole (Run call) e = cc
never_whole Exec e = cc
never_whole (Fork child) e = cc
never_whole Join e = cc

-- the lines of a guest are told in one way, where all are answered
one_told : (guest : List ℕ) (pid : Pid) (n : ℕ) (last : Key) (before : List Entry) (lines : List Line) (a b : Told) → a.end ≡ Whole → b.end ≡ Whole
    → AreTold guest pid n last before lines a → AreTold guest pid n last before lines b → a ≡ b
one_told guest pid n last before [] a b wa wb ta tb = ta ∙ sym tb
one_told guest pid n last before (line ∷ lines) a b wa wb (inl cut) tb =
    absurd (never_whole line.what (sym (ap (λ (t : Told). t.end) cut) ∙ wa))
one_told guest pid n last before (line ∷ lines) a b wa wb (inr x) (inl cut) =
    absurd (never_whole line.what (sym (ap (λ (t : Told). t.end) cut) ∙ wb))
one_told guest pid n last before (line ∷ lines) a b wa wb (inr (r, e, ra, ia, la, ea)) (inr (s, f, rb, ib, lb, eb)) =
    let key = key_of line.what last in
    let one = one_of line.what guest pid n key before line r s e f ia ib in
    let later = subst (λ (g : Entry). AreTold guest pid (n + 1) key (before ++ g ∷ []) lines rb) (sym one.0) lb in
    let whole_a : ra.end ≡ Whole = sym (ap (λ (t : Told). t.end) ea) ∙ wa in
    let whole_b : rb.end ≡ Whole = sym (ap (λ (t : Told). t.end) eb) ∙ wb in
    let rest : ra ≡ rb = one_told guest pid (n + 1) key (before ++ e ∷ []) lines ra rb whole_a whole_b la later in
    ea ∙ ap₂ behind one.1 rest ∙ sym eb

-- a process exits with one journal
one_exit : (conn : ConnNo) (pid : Pid) (before xs ys : List Entry) → HasExited conn pid before xs → HasExited conn pid before ys → xs ≡ ys
one_exit conn pid before xs ys a b =
    let exit : a.0 ≡ b.0 = one_value _ a.0 b.0 a.1 b.1 in
    a.2 ∙ ap (λ (e : Entry). before ++ e ∷ []) exit ∙ sym b.2

whole_is : (ends : RunEnd) → true ≡ is_whole ends → ends ≡ Whole
whole_is Whole e = refl
whole_is Refused e = cc
whole_is NoSalt e = cc

-- a run of a section to its end shows one text
one_run : (section : Section) (journals : Bool) (xs ys : List ℕ) → ShowsRun section journals true xs → ShowsRun section journals true ys → xs ≡ ys
one_run section journals xs ys a b =
    let attach : a.run.attach ≡ b.run.attach = one_value _ a.run.attach b.run.attach a.run.attached b.run.attached in
    let told_b : Told = record { rows = b.ran.rows; end = b.ran.end; conn = b.run.conn; journal = b.run.journal } in
    let told = subst (λ (e : Entry). AreTold section.name (process_of e) 1 first_key (e ∷ []) section.lines told_b) (sym attach) b.run.told in
    let whole_a : a.ran.end ≡ Whole = whole_is a.ran.end a.whole in
    let whole_b : b.ran.end ≡ Whole = whole_is b.ran.end b.whole in
    let same = one_told section.name (process_of a.run.attach) 1 first_key (a.run.attach ∷ []) section.lines _ _ whole_a whole_b a.run.told told in
    let rows : a.ran.rows ≡ b.ran.rows = ap (λ (t : Told). t.rows) same in
    let conn : a.run.conn ≡ b.run.conn = ap (λ (t : Told). t.conn) same in
    let before : a.run.journal ≡ b.run.journal = ap (λ (t : Told). t.journal) same in
    let ended : HasExited a.run.conn (process_of a.run.attach) a.run.journal a.ran.hub.journal = rw whole_a at a.run.ended in
    let ended' : HasExited b.run.conn (process_of b.run.attach) b.run.journal b.ran.hub.journal = rw whole_b at b.run.ended in
    let journal : a.ran.hub.journal ≡ b.ran.hub.journal =
    one_exit a.run.conn (process_of a.run.attach) a.run.journal a.ran.hub.journal b.ran.hub.journal ended (rw (attach, before, conn) ended') in
    a.shown ∙ ap₂ (λ (r : List ℕ) (j : List Entry). r ++ journals_text (journals && is_whole a.ran.end) j) rows journal
    ∙ ap (λ (w : Bool). b.ran.rows ++ journals_text (journals && w) b.ran.hub.journal) (sym a.whole ∙ b.whole) ∙ sym b.shown

one_of_sections : (sections : List Section) (journals : Bool) (xs ys : List ℕ) → ShowsSections sections journals true xs
    → ShowsSections sections journals true ys → xs ≡ ys
one_of_sections [] journals xs ys a b = a.1 ∙ sym b.1
one_of_sections (section ∷ []) journals xs ys a b = one_run section journals xs ys a b
one_of_sections (section ∷ next ∷ sections) journals xs ys a b = absurd a

-- what a script shows whole is one text
pub one_shown : (text : List ℕ) (journals : Bool) (xs ys : List ℕ) → Shows text journals true xs → Shows text journals true ys → xs ≡ ys
one_shown text journals xs ys a b =
    let both : Ok a.sections ≡ Ok b.sections = sym a.read ∙ b.read in
    let same : a.sections ≡ b.sections = cc in
    let shows = subst (λ (sections : List Section). ShowsSections sections journals true ys) (sym same) b.shows in
    one_of_sections a.sections journals xs ys a.shows shows
