-- The bytes decide how a run ends and what is written: whatever is said of a run is said of one end and one text alone.
use Rattle.std.proofs.Common.{◌≡◌, ◌⊎◌, inl, inr, ℕ, zero, suc, ◌+◌, ◌≤◌, ◌<◌, Bool, true, false, List, [], ◌∷◌, ◌++◌, length, take, Some, None, refl, sym, ap, subst, ◌∙◌, arith, length-append}
use Rattle.std.proofs.lemmas.List.{take_all, append-nil, take-append-le}
use Rattle.std.specs.List.{flat_map}
use Rattle.std.specs.Ordering.{nat_cmp}
use Rattle.std.specs.FinMap.{FinMap}
use Rattle.sp_base.specs.declared.names.ConnNo.{ConnNo}
use Rattle.sp_base.specs.declared.names.ReqNo.{ReqNo}
use Rattle.sp_frames.specs.declared.fault.FrameFault.{FrameFault}
use Rattle.sp_frames.specs.declared.frame.Frame.{Frame}
use Rattle.sp_frames.specs.Faults.{HasFault}
use Rattle.sp_frames.specs.Fields.{IsBytes}
use Rattle.sp_frames.specs.Banner.{banner}
use Rattle.sp_frames.specs.Grammar.{spelling}
use Rattle.sp_frames.specs.Reading.{step_of}
use Rattle.sp_frames.proofs.FaultLaws.{one_fault, partial_none}
use Rattle.sp_frames.proofs.StreamLaws.{one_whole, fault_stays, fault_ends_the_frames}
use Rattle.hub_model.specs.declared.state.OpenCall.{OpenCall}
use Rattle.hub_model.specs.declared.event.Event.TheVariants as event
use Rattle.hub_model.specs.declared.event.Finish.{Finish}
use Rattle.hub_model.specs.declared.event.Finish.TheVariants as finish
use Rattle.hub_model.specs.declared.event.Reply.TheVariants as reply
use Rattle.hub_model.specs.State.{Machine}
use Rattle.hub_model.specs.Task.{IsLowest, open_calls}
use Rattle.sp_server.specs.declared.stdio.StdioEnd.{StdioEnd}
use Rattle.sp_server.specs.declared.stdio.StdioEnd.TheVariants as end
use Rattle.sp_server.proofs.Octets.{bytes-take, bytes-back}
use Rattle.sp_server.specs.Serving.{Server, server_of, after, after_work, is_out, worked, performs, AreOpen, AreRounds, HandsOut}
use Rattle.sp_server.specs.Stdio.{connection, at_start, most_input, salt_for, salts_behind, AnswersFrame, Answers, IsAnswered, EndsAs, IsStdioOut, IsUnended, Serves, is_read, is_decided, Ends}

-- ---- rounds of work

-- no call above a number waits above which none waits
none_above : (calls : FinMap nat_cmp OpenCall) (above r : ReqNo) → IsLowest calls above None → IsLowest calls above (Some r) → ⊥
none_above calls above r none some =
    let few : r.0 ≤ above.0 = none r.0 some.1 in
    let more : above.0 < r.0 = some.0 in
    omega arith

-- a lowest call is no higher than another one
no_lower : (calls : FinMap nat_cmp OpenCall) (above r s : ReqNo) → IsLowest calls above (Some r) → IsLowest calls above (Some s) → r.0 ≤ s.0
no_lower calls above r s one other =
    let more : above.0 < s.0 = other.0 in
    elim (one.2 s.0 other.1) [ inl few ↦ omega arith | inr low ↦ low ]

-- one open call is the lowest above a number
one_lowest : (calls : FinMap nat_cmp OpenCall) (above r s : ReqNo) → IsLowest calls above (Some r) → IsLowest calls above (Some s) → r ≡ s
one_lowest calls above r s one other =
    let low = no_lower calls above r s one other in
    let high = no_lower calls above s r other one in
    let same : r.0 ≡ s.0 = omega arith in
    ap (λ (n : ℕ). let no : ReqNo = record { 0 = n } in no) same

-- one list of numbers is a round
one_round : (s : Server) (c : ConnNo) (above : ReqNo) (ns ks : List ReqNo) → AreOpen s c above ns → AreOpen s c above ks → ns ≡ ks
one_round s c above [] [] a b = refl
one_round s c above [] (k ∷ ks) a b = absurd (none_above (open_calls s.machine c) above k a b.0)
one_round s c above (n ∷ ns) [] a b = absurd (none_above (open_calls s.machine c) above n b a.0)
one_round s c above (n ∷ ns) (k ∷ ks) a b =
    let e : n ≡ k = one_lowest (open_calls s.machine c) above n k a.0 b.0 in
    let rest = one_round (after_work s c n) c n ns ks a.1 (subst (λ (r : ReqNo). AreOpen (after_work s c r) c r ks) (sym e) b.1) in
    ap (λ (r : ReqNo). r ∷ ns) e ∙ ap (λ (l : List ReqNo). k ∷ l) rest

-- one server is left by rounds
one_worked : (s : Server) (c : ConnNo) (again : Bool) (xs ys : List (List ReqNo)) (n k : Server) → AreRounds s c again xs n → AreRounds s c again ys k → n ≡ k
one_worked s c again [] [] n k a b = a.1 ∙ sym b.1
one_worked s c again [] (ks ∷ ys) n k a b = let e : true ≡ false = sym b.0 ∙ a.0 in absurd cc
one_worked s c again (ns ∷ xs) [] n k a b = let e : true ≡ false = sym a.0 ∙ b.0 in absurd cc
one_worked s c again (ns ∷ xs) (ks ∷ ys) n k a b =
    let e : ns ≡ ks = one_round s c (record { 0 = 0 }) ns ks a.1 b.1 in
    one_worked (worked s c ns) c (performs s c ns) xs ys n k a.2 (subst (λ (l : List ReqNo). AreRounds (worked s c l) c (performs s c l) ys k) (sym e) b.2)

-- ---- handing out

-- one list of frames is handed out, and one machine is left
one_handed : (m : Machine) (c : ConnNo) (fs gs : List Frame) (n k : Machine) → HandsOut m c fs n → HandsOut m c gs k → (fs ≡ gs) × (n ≡ k)
one_handed m c [] [] n k a b = (refl, a.1 ∙ sym b.1)
one_handed m c [] (g ∷ gs) n k a b = let e : false ≡ true = sym a.0 ∙ ap is_out b.0 in absurd cc
one_handed m c (f ∷ fs) [] n k a b = let e : false ≡ true = sym b.0 ∙ ap is_out a.0 in absurd cc
one_handed m c (f ∷ fs) (g ∷ gs) n k a b =
    let out : reply.Out f ≡ reply.Out g = sym a.0 ∙ b.0 in
    let e : f ≡ g = cc in
    let rest = one_handed (after m (event.Take c)) c fs gs n k a.1 b.1 in
    (ap (λ (h : Frame). h ∷ fs) e ∙ ap (λ (l : List Frame). g ∷ l) rest.0, rest.1)

-- ---- answers

-- one text is written for a frame, and one server is left
one_answer : (s : Server) (f : Frame) (salt : ℕ) (xs ys : List ℕ) (n k : Server) → AnswersFrame s f salt xs n → AnswersFrame s f salt ys k → (xs ≡ ys) × (n ≡ k)
one_answer s f salt xs ys n k a b =
    let same : a.worked ≡ b.worked = one_worked (record s { machine = after s.machine (event.Frame connection f salt) }) connection true a.rounds b.rounds a.worked b.worked a.works b.works in
    let out = one_handed a.worked.machine connection a.frames b.frames n.machine k.machine a.hands (subst (λ (w : Server). HandsOut w.machine connection b.frames k.machine) (sym same) b.hands) in
    let left : n.refused ≡ k.refused = a.left ∙ ap (λ (w : Server). w.refused) same ∙ sym b.left in
    (a.spelled ∙ ap (flat_map spelling) out.0 ∙ sym b.spelled, ap (λ (m : Machine). server_of m n.refused) out.1 ∙ ap (λ (l : List ReqNo). server_of k.machine l) left)

-- and so for frames
one_text : (frames : List Frame) (s : Server) (salts xs ys : List ℕ) (n k : Server) → Answers s frames salts xs n → Answers s frames salts ys k → (xs ≡ ys) × (n ≡ k)
one_text [] s salts xs ys n k a b = (a.0 ∙ sym b.0, a.1 ∙ sym b.1)
one_text (f ∷ frames) s salts xs ys n k a b =
    let first = one_answer s f (salt_for f salts) a.1 b.1 a.0 b.0 a.3 b.3 in
    let rest = one_text frames a.0 (salts_behind f salts) a.2 b.2 n k a.4 (subst (λ (w : Server). Answers w frames (salts_behind f salts) b.2 k) (sym first.1) b.4) in
    (a.5 ∙ ap (λ (t : List ℕ). t ++ a.2) first.0 ∙ ap (λ (t : List ℕ). b.1 ++ t) rest.0 ∙ sym b.5, rest.1)

-- one text answers the whole frames of input, and one rest and one machine are left
one_answered : (input salts : List ℕ) (refused : List ReqNo) (xs ys r s : List ℕ) (m n : Machine) → IsAnswered input salts refused xs r m → IsAnswered input salts refused ys s n → (xs ≡ ys) × (r ≡ s) × (m ≡ n)
one_answered input salts refused xs ys r s m n a b =
    let split = one_whole input a.frames b.frames r s a.whole b.whole in
    let same = one_text a.frames (server_of at_start refused) salts a.body b.body (server_of m []) (server_of n []) a.answers
    (subst (λ (fs : List Frame). Answers (server_of at_start refused) fs salts b.body (server_of n [])) (sym split.0) b.answers) in
    (a.begins ∙ ap (λ (t : List ℕ). banner ++ t) same.0 ∙ sym b.begins, split.1, ap (λ (w : Server). w.machine) same.1)

-- ---- the end of the input

-- where there are no bytes there is no fault
nothing_faulty : (rest : List ℕ) (fault : FrameFault) → rest ≡ [] → HasFault rest fault → ⊥
unfolding step_of
nothing_faulty rest fault none has = partial_none [] refl fault (subst (λ (l : List ℕ). HasFault l fault) none has)

-- the bytes behind the last whole frame end the input in one way
one_finish : (how other : Finish) (rest : List ℕ) → EndsAs how rest → EndsAs other rest → how ≡ other
one_finish finish.Clean finish.Clean rest a b = refl
one_finish finish.Clean finish.Inside rest a b = absurd (b.0 a)
one_finish finish.Clean (finish.Bad y) rest a b = absurd (nothing_faulty rest y a b)
one_finish finish.Inside finish.Clean rest a b = absurd (a.0 b)
one_finish finish.Inside finish.Inside rest a b = refl
one_finish finish.Inside (finish.Bad y) rest a b = absurd (a.1 y b)
one_finish (finish.Bad x) finish.Clean rest a b = absurd (nothing_faulty rest x b a)
one_finish (finish.Bad x) finish.Inside rest a b = absurd (b.1 x a)
one_finish (finish.Bad x) (finish.Bad y) rest a b = ap finish.Bad (one_fault rest x y a b)

-- input ends in one way and at one place, and one text is written for it
one_out : (input salts : List ℕ) (refused : List ReqNo) (how other : Finish) (offset place : ℕ) (xs ys : List ℕ) → IsStdioOut input salts refused how offset xs → IsStdioOut input salts refused other place ys
    → (how ≡ other) × (offset ≡ place) × (xs ≡ ys)
one_out input salts refused how other offset place xs ys a b =
    let same = one_answered input salts refused a.front b.front a.rest b.rest a.before b.before a.answered b.answered in
    let e : how ≡ other = one_finish how other a.rest a.ends (subst (EndsAs other) (sym same.1) b.ends) in
    let start : after a.before (event.Ended connection how) ≡ after b.before (event.Ended connection other) =
    ap (λ (m : Machine). after m (event.Ended connection how)) same.2 ∙ ap (λ (f : Finish). after b.before (event.Ended connection f)) e in
    let out = one_handed (after a.before (event.Ended connection how)) connection a.frames b.frames a.last b.last a.hands
    (subst (λ (m : Machine). HandsOut m connection b.frames b.last) (sym start) b.hands) in
    let whole : offset + length a.rest ≡ place + length a.rest = a.place ∙ sym b.place ∙ ap (λ (l : List ℕ). place + length l) (sym same.1) in
    (e, omega arith, a.whole ∙ ap (λ (t : List ℕ). t ++ flat_map spelling a.frames) same.0 ∙ ap (λ (fs : List Frame). b.front ++ flat_map spelling fs) out.0 ∙ sym b.whole)

-- ---- the end of a run

-- the end of a run whose input ends like this, or has this fault
abbrev end_as : Finish → ℕ → StdioEnd
end_as finish.Clean offset = end.Clean
end_as finish.Inside offset = end.InsideAt offset
end_as (finish.Bad fault) offset = end.BadAt offset

-- a run in which the bytes that are looked at end like this; where more were taken, they have a fault
record Ended (e : StdioEnd) (taken salts : List ℕ) (refused : List ReqNo) (text : List ℕ) : Type 0 where
  how : Finish
  offset : ℕ
  is : e ≡ end_as how offset
  out : IsStdioOut (take most_input taken) salts refused how offset text
  within : most_input < length taken → (fault : FrameFault) × (how ≡ finish.Bad fault)

-- a run in which more was taken than is looked at, and no fault met
record Unended (e : StdioEnd) (taken salts : List ℕ) (refused : List ReqNo) (text : List ℕ) : Type 0 where
  is : e ≡ end.TooMuch
  beyond : most_input < length taken
  begun : IsUnended (take most_input taken) salts refused text

-- where no more was taken than is looked at, that is all of it
pub all_looked_at : (taken : List ℕ) → length taken ≤ most_input → taken ≡ take most_input taken
all_looked_at taken few = sym (take_all most_input taken few)

-- a run with a decided end is of one kind or the other
decided : (e : StdioEnd) (taken salts : List ℕ) (refused : List ReqNo) (text : List ℕ) → is_decided e ≡ true → Serves e taken salts refused text → Ended e taken salts refused text ⊎ Unended e taken salts refused text
decided end.Clean taken salts refused text is serves =
    inl (record {
      how = finish.Clean;
      offset = length taken;
      is = refl;
      out = subst (λ (l : List ℕ). IsStdioOut l salts refused finish.Clean (length taken) text) (all_looked_at taken serves.0) serves.1;
      within = λ beyond. absurd (omega (arith, serves.0));
    })
decided (end.InsideAt offset) taken salts refused text is serves =
    inl (record {
      how = finish.Inside;
      offset = offset;
      is = refl;
      out = subst (λ (l : List ℕ). IsStdioOut l salts refused finish.Inside offset text) (all_looked_at taken serves.0) serves.1;
      within = λ beyond. absurd (omega (arith, serves.0));
    })
decided (end.BadAt offset) taken salts refused text is serves =
    inl (record { how = finish.Bad serves.0; offset = offset; is = refl; out = serves.1; within = λ beyond. (serves.0, refl) })
decided end.TooMuch taken salts refused text is serves = inr (record { is = refl; beyond = serves.0; begun = serves.1 })
decided end.InputFault taken salts refused text is serves = absurd cc
decided end.OutputFault taken salts refused text is serves = absurd cc
decided end.SaltFault taken salts refused text is serves = absurd cc
decided end.NoMemory taken salts refused text is serves = absurd cc

-- a run is not of both kinds
apart : (a b : StdioEnd) (taken salts : List ℕ) (refused : List ReqNo) (text more : List ℕ) → Ended a taken salts refused text → Unended b taken salts refused more → ⊥
apart a b taken salts refused text more one other =
    let bad = one.within other.beyond in
    let begun = other.begun in
    let same = one_answered (take most_input taken) salts refused one.out.front more one.out.rest begun.0 one.out.before begun.1 one.out.answered begun.2 in
    let fault : HasFault one.out.rest bad.0 = subst (λ (how : Finish). EndsAs how one.out.rest) bad.1 one.out.ends in
    begun.3 bad.0 (subst (λ (l : List ℕ). HasFault l bad.0) same.1 fault)

both_ended : (a b : StdioEnd) (taken salts : List ℕ) (refused : List ReqNo) (text more : List ℕ) → Ended a taken salts refused text → Ended b taken salts refused more → (a ≡ b) × (text ≡ more)
both_ended a b taken salts refused text more one other =
    let same = one_out (take most_input taken) salts refused one.how other.how one.offset other.offset text more one.out other.out in
    (one.is ∙ ap (λ (how : Finish). end_as how one.offset) same.0 ∙ ap (end_as other.how) same.1 ∙ sym other.is, same.2)

both_unended : (a b : StdioEnd) (taken salts : List ℕ) (refused : List ReqNo) (text more : List ℕ) → Unended a taken salts refused text → Unended b taken salts refused more → (a ≡ b) × (text ≡ more)
both_unended a b taken salts refused text more one other =
    let first = one.begun in
    let second = other.begun in
    (one.is ∙ sym other.is, (one_answered (take most_input taken) salts refused text more first.0 second.0 first.1 second.1 first.2 second.2).0)

one_of : (a b : StdioEnd) (taken salts : List ℕ) (refused : List ReqNo) (text more : List ℕ) → Ended a taken salts refused text ⊎ Unended a taken salts refused text → Ended b taken salts refused more ⊎ Unended b taken salts refused more → (a ≡ b) × (text ≡ more)
one_of a b taken salts refused text more (inl one) (inl other) = both_ended a b taken salts refused text more one other
one_of a b taken salts refused text more (inl one) (inr other) = absurd (apart a b taken salts refused text more one other)
one_of a b taken salts refused text more (inr one) (inl other) = absurd (apart b a taken salts refused more text other one)
one_of a b taken salts refused text more (inr one) (inr other) = both_unended a b taken salts refused text more one other

-- the bytes that were taken decide the end and the text
one_taken : (a b : StdioEnd) (taken salts : List ℕ) (refused : List ReqNo) (text more : List ℕ) → is_decided a ≡ true → is_decided b ≡ true → Serves a taken salts refused text → Serves b taken salts refused more → (a ≡ b) × (text ≡ more)
one_taken a b taken salts refused text more da db sa sb = one_of a b taken salts refused text more (decided a taken salts refused text da sa) (decided b taken salts refused more db sb)

-- ---- bytes that come later

-- what is written for input with a fault is written for it with whatever bytes behind it
pub bad_stays : (input later salts : List ℕ) (refused : List ReqNo) (fault : FrameFault) (offset : ℕ) (text : List ℕ) → IsBytes later → IsStdioOut input salts refused (finish.Bad fault) offset text
    → IsStdioOut (input ++ later) salts refused (finish.Bad fault) offset text
bad_stays input later salts refused fault offset text all out =
    let was = out.answered in
    let has = (fault_stays out.rest later fault all out.ends).0 in
    let place = out.place in
    record {
      front = out.front;
      rest = out.rest ++ later;
      before = out.before;
      last = out.last;
      frames = out.frames;
      answered = record {
        frames = was.frames;
        body = was.body;
        whole = fault_ends_the_frames input later was.frames out.rest fault all was.whole out.ends;
        as_many = was.as_many;
        answers = was.answers;
        begins = was.begins;
      };
      ends = has;
      place = rw (length-append out.rest later, length-append input later) (omega arith);
      hands = out.hands;
      whole = out.whole;
    }

-- of more bytes, more is looked at
take_later : (n : ℕ) (taken later : List ℕ) → IsBytes later → (more : List ℕ) × IsBytes more × (take n (taken ++ later) ≡ take n taken ++ more)
take_later zero taken later all = ([], (λ i. omega arith), refl)
take_later (suc n) [] later all = (take (suc n) later, bytes-take (suc n) later all, refl)
take_later (suc n) (x ∷ taken) later all =
    let rest = take_later n taken later all in
    (rest.0, rest.1, ap (λ (t : List ℕ). x ∷ t) rest.2)

pub bad_later : (offset : ℕ) (taken later salts text : List ℕ) (refused : List ReqNo) → IsBytes later → Serves (end.BadAt offset) taken salts refused text → Serves (end.BadAt offset) (taken ++ later) salts refused text
bad_later offset taken later salts text refused all serves =
    let more = take_later most_input taken later all in
    (serves.0, rw (more.2) (bad_stays (take most_input taken) more.0 salts refused serves.0 offset text more.1 serves.1))

pub much_later : (taken later salts text : List ℕ) (refused : List ReqNo) → Serves end.TooMuch taken salts refused text → Serves end.TooMuch (taken ++ later) salts refused text
much_later taken later salts text refused serves =
    let beyond : most_input < length taken = serves.0 in
    (rw (length-append taken later) (omega arith), rw (take-append-le most_input taken later (omega arith)) serves.1)

-- what serves the bytes that were taken serves all of the input
serves_input : (e : StdioEnd) (input salts text : List ℕ) (refused : List ReqNo) → IsBytes input → is_decided e ≡ true → Ends e input salts refused text → Serves e input salts refused text
serves_input e input salts text refused all is ends = by_end e ends.taken ends.later is ends.all ends.serves ends.whole
  where
    at_end : (e : StdioEnd) (taken later : List ℕ) → later ≡ [] → Serves e taken salts refused text → input ≡ taken ++ later → Serves e input salts refused text
    at_end e taken later none serves whole = subst (λ (l : List ℕ). Serves e l salts refused text) (sym (whole ∙ ap (λ (t : List ℕ). taken ++ t) none ∙ append-nil taken)) serves

    by_end : (e : StdioEnd) (taken later : List ℕ) → is_decided e ≡ true → (is_read e ≡ true → later ≡ []) → Serves e taken salts refused text → input ≡ taken ++ later → Serves e input salts refused text
    by_end end.Clean taken later is read serves whole = at_end end.Clean taken later (read refl) serves whole
    by_end (end.InsideAt offset) taken later is read serves whole = at_end (end.InsideAt offset) taken later (read refl) serves whole
    by_end (end.BadAt offset) taken later is read serves whole =
        subst (λ (l : List ℕ). Serves (end.BadAt offset) l salts refused text) (sym whole) (bad_later offset taken later salts text refused (bytes-back taken later (subst IsBytes whole all)) serves)
    by_end end.TooMuch taken later is read serves whole = subst (λ (l : List ℕ). Serves end.TooMuch l salts refused text) (sym whole) (much_later taken later salts text refused serves)
    by_end end.InputFault taken later is read serves whole = absurd cc
    by_end end.OutputFault taken later is read serves whole = absurd cc
    by_end end.SaltFault taken later is read serves whole = absurd cc
    by_end end.NoMemory taken later is read serves whole = absurd cc

-- the input decides the end and the text
pub one_end : (a b : StdioEnd) (input salts text more : List ℕ) (refused : List ReqNo) → IsBytes input → is_decided a ≡ true → is_decided b ≡ true → Ends a input salts refused text → Ends b input salts refused more → (a ≡ b) × (text ≡ more)
one_end a b input salts text more refused all da db ea eb = one_taken a b input salts refused text more da db (serves_input a input salts text refused all da ea) (serves_input b input salts more refused all db eb)
