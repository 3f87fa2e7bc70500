-- Something is to be written for every input, and what is written for its first frames begins it.
use Rattle.std.proofs.Common.{◌≡◌, ◌⊎◌, inl, inr, ℕ, zero, suc, ◌+◌, ◌-◌, ◌≤◌, ◌<◌, Bool, true, false, cond, List, [], ◌∷◌, ◌++◌, length, take, drop, Option, Some, None, refl, sym, ap, subst, ◌∙◌, arith, append_assoc, length-append}
use Rattle.std.proofs.lemmas.Bool.{cases_lt}
use Rattle.std.proofs.lemmas.List.{append-nil, take_min, take-append-le, length-drop}
use Rattle.std.specs.Prelude.{min}
use Rattle.std.specs.List.{flat_map}
use Rattle.std.specs.Ordering.{nat_cmp}
use Rattle.std.specs.FinMap.{FinMap, get}
use Rattle.sp_base.specs.declared.names.ConnNo.{ConnNo}
use Rattle.sp_base.specs.declared.names.ReqNo.{ReqNo}
use Rattle.sp_frames.specs.declared.fault.FrameFault.{FrameFault}
use Rattle.sp_frames.specs.declared.frame.Frame.{Frame}
use Rattle.sp_frames.specs.declared.reading.Step.{Step}
use Rattle.sp_frames.specs.declared.reading.Step.TheVariants.{Whole, Partial, Fault}
use Rattle.sp_frames.specs.Feeding.{FrontIs}
use Rattle.sp_frames.specs.Fields.{IsBytes}
use Rattle.sp_frames.specs.Framing.{IsStop}
use Rattle.sp_frames.specs.Banner.{banner}
use Rattle.sp_frames.specs.Grammar.{spelling}
use Rattle.sp_frames.specs.Reading.{step_of}
use Rattle.sp_frames.specs.Stream.{IsWhole}
use Rattle.sp_frames.proofs.StreamLaws.{front, stream-append, each-append}
use Rattle.hub_model.specs.Sound.{is_waiting}
use Rattle.hub_model.specs.State.{Machine}
use Rattle.hub_model.specs.Task.{Waits, IsLowest, open_calls}
use Rattle.hub_model.specs.declared.event.Event.TheVariants as event
use Rattle.hub_model.specs.declared.event.Finish.{Finish}
use Rattle.hub_model.specs.declared.event.Finish.TheVariants as finish
use Rattle.hub_model.specs.declared.event.Reply.{Reply}
use Rattle.hub_model.specs.declared.event.Reply.TheVariants as reply
use Rattle.hub_model.specs.declared.state.OpenCall.{OpenCall}
use Rattle.tables.proofs.Maps.{same_or_not}
use Rattle.sp_server.specs.Serving.{Server, server_of, reply_to, after, refused_behind, work_reply, after_work, is_out, worked, performs, AreOpen, AreRounds, HandsOut}
use Rattle.sp_server.specs.Session.{IsBegun, IsAllOf, IsPart}
use Rattle.sp_server.specs.Stdio.{connection, at_start, AreSaltsOf, salt_for, salts_behind, AnswersFrame, Answers, IsAnswered, EndsAs, IsStdioOut, IsFirstOf, IsCutOff}
use Rattle.sp_server.specs.Waiting.{waits_at, bound, waiting}
use Rattle.sp_server.proofs.Octets.{bytes-back, bytes-drop}
use Rattle.sp_server.proofs.Salts.{takers, takers-append, salts_append, answers_then}
use Rattle.sp_server.proofs.Shrinking.{queued, taken_less, within, work_waits, round_less}

some_same : (a b : OpenCall) → Some a ≡ Some b → a ≡ b
some_same a b e = let same : a ≡ b = cc in same

-- ---- a round of work

-- a call that waits is above a number, or the number is its own or a higher one
by_number : (calls : FinMap nat_cmp OpenCall) (n : ℕ) (task : Option OpenCall) → get calls n ≡ task → Waits calls n ⊎ (Waits calls n → ⊥)
by_number calls n None h = inr (λ w. let no : None ≡ Some w.0 = sym h ∙ w.1 in cc)
by_number calls n (Some task) h = by_wait (is_waiting task) refl where
  by_wait : (waits : Bool) → is_waiting task ≡ waits → Waits calls n ⊎ (Waits calls n → ⊥)
  by_wait true is = inl (task, h, is)
  by_wait false is = inr (λ w. let same : task ≡ w.0 = some_same task w.0 (sym h ∙ w.1) in let no : false ≡ true = sym is ∙ ap is_waiting same ∙ w.2 in cc)

waits_or_not : (calls : FinMap nat_cmp OpenCall) (n : ℕ) → Waits calls n ⊎ (Waits calls n → ⊥)
waits_or_not calls n = by_number calls n (get calls n) refl

-- a call is the lowest above a number that waits, up to another one
record LowestTo (calls : FinMap nat_cmp OpenCall) (low n : ℕ) : Type 0 where
  number : ℕ
  above : low < number
  within : number ≤ n
  waits : Waits calls number
  least : (k : ℕ) → Waits calls k → k ≤ n → (k ≤ low) ⊎ (number ≤ k)

-- up to a number, there is a lowest call or none
lowest_to : (calls : FinMap nat_cmp OpenCall) (low n : ℕ) → ((k : ℕ) → Waits calls k → k ≤ n → k ≤ low) ⊎ LowestTo calls low n
lowest_to calls low zero = inl (λ k w le. omega arith)
lowest_to calls low (suc n) = with_rest (lowest_to calls low n) (waits_or_not calls (suc n)) (cases_lt low (suc n))
  where
    up_to : (P : ℕ → Type 0) (k : ℕ) → k ≤ suc n → (k ≤ n → P k) → P (suc n) → P k
    up_to P k le few last = elim (same_or_not k (suc n)) [ inl same ↦ subst P (sym same) last | inr ne ↦ few (omega arith) ]

    with_rest : ((k : ℕ) → Waits calls k → k ≤ n → k ≤ low) ⊎ LowestTo calls low n → Waits calls (suc n) ⊎ (Waits calls (suc n) → ⊥) → (low < suc n) ⊎ (suc n ≤ low)
        → ((k : ℕ) → Waits calls k → k ≤ suc n → k ≤ low) ⊎ LowestTo calls low (suc n)
    with_rest (inl none) (inr not) lt = inl (λ k w le. up_to (λ j. Waits calls j → j ≤ low) k le (λ few v. none k v few) (λ v. absurd (not v)) w)
    with_rest (inl none) (inl waits) (inr few) = inl (λ k w le. up_to (λ j. Waits calls j → j ≤ low) k le (λ less v. none k v less) (λ v. few) w)
    with_rest (inl none) (inl waits) (inl more) = inr (record {
      number = suc n;
      above = more;
      within = omega arith;
      waits = waits;
      least = λ k w le. up_to (λ j. Waits calls j → (j ≤ low) ⊎ (suc n ≤ j)) k le (λ less v. inl (none k v less)) (λ v. inr (omega arith)) w;
    })
    with_rest (inr one) waits lt = inr (record {
      number = one.number;
      above = one.above;
      within = (let le = one.within in omega arith);
      waits = one.waits;
      least = λ k w le. up_to (λ j. Waits calls j → (j ≤ low) ⊎ (one.number ≤ j)) k le (λ less v. one.least k v less) (λ v. inr (let few = one.within in omega arith)) w;
    })

-- there is a lowest call above a number, or none
some_lowest : (calls : FinMap nat_cmp OpenCall) (above : ReqNo) → (found : Option ReqNo) × IsLowest calls above found
some_lowest calls above = elim (lowest_to calls above.0 (bound calls)) [
  | inl none ↦ (None, λ k w. none k w (within calls k w.0 w.1))
  | inr one ↦ (Some (record { 0 = one.number }), (one.above, one.waits, λ k w. one.least k w (within calls k w.0 w.1)))
]

-- a call that waits counts one, and no other does
counts_one : (calls : FinMap nat_cmp OpenCall) (q : ℕ) → Waits calls q → waits_at (get calls q) ≡ 1
counts_one calls q w = ap waits_at w.1 ∙ ap (λ b. cond b 1 0) w.2

counted : (calls : FinMap nat_cmp OpenCall) (q : ℕ) (task : Option OpenCall) → get calls q ≡ task → 0 < waits_at task → Waits calls q
counted calls q None is lt = absurd (omega arith)
counted calls q (Some task) is lt = by_wait (is_waiting task) refl lt where
  by_wait : (waits : Bool) → is_waiting task ≡ waits → 0 < cond waits 1 0 → Waits calls q
  by_wait true e lt = (task, is, e)
  by_wait false e lt = absurd (omega arith)

-- a call that waits after a Work waited before it
waited : (m : Machine) (c : ConnNo) (r : ReqNo) (q : ℕ) → Waits (open_calls (after m (event.Work c r)) c) q → Waits (open_calls m c) q
waited m c r q w =
    let now = counts_one (open_calls (after m (event.Work c r)) c) q w in
    let few = work_waits true m c r q in
    counted (open_calls m c) q (get (open_calls m c) q) refl (omega arith)

round_above : (fuel highest : ℕ) (m : Machine) (c : ConnNo) (low : ReqNo) → ((k : ℕ) → Waits (open_calls m c) k → k ≤ highest) → highest ≤ low.0 + fuel
    → (numbers : List ReqNo) × AreOpen (server_of m []) c low numbers
round_above zero highest m c low below le = ([], λ k w. (let few = below k w in omega arith))
round_above (suc fuel) highest m c low below le = by_lowest (some_lowest (open_calls m c) low).0 (some_lowest (open_calls m c) low).1 (λ n r under few. round_above fuel highest n c r under few)
  where
    by_lowest : (found : Option ReqNo) → IsLowest (open_calls m c) low found
        → ((n : Machine) (r : ReqNo) → ((k : ℕ) → Waits (open_calls n c) k → k ≤ highest) → highest ≤ r.0 + fuel → (numbers : List ReqNo) × AreOpen (server_of n []) c r numbers)
        → (numbers : List ReqNo) × AreOpen (server_of m []) c low numbers
    by_lowest None is next = ([], is)
    by_lowest (Some r) is next =
        let more : low.0 < r.0 = is.0 in
        let rest = next (after m (event.Work c r)) r (λ k w. below k (waited m c r k w)) (omega arith) in
        (r ∷ rest.0, (is, rest.1))

some_round : (m : Machine) (c : ConnNo) → (numbers : List ReqNo) × AreOpen (server_of m []) c (record { 0 = 0 }) numbers
some_round m c =
    let highest = bound (open_calls m c) in
    round_above highest highest m c (record { 0 = 0 }) (λ k w. within (open_calls m c) k w.0 w.1) (omega arith)

-- where no call is still to be refused, none is after work
none_refused : (s : Server) (c : ConnNo) (numbers : List ReqNo) → s.refused ≡ [] → (worked s c numbers).refused ≡ []
none_refused s c [] none = none
none_refused s c (r ∷ numbers) none = none_refused (after_work s c r) c numbers (ap (λ (l : List ReqNo). refused_behind l (work_reply s c r)) none)

worked_is : (m : Machine) (c : ConnNo) (numbers : List ReqNo) → worked (server_of m []) c numbers ≡ server_of (worked (server_of m []) c numbers).machine []
worked_is m c numbers = ap (λ (l : List ReqNo). server_of (worked (server_of m []) c numbers).machine l) (none_refused (server_of m []) c numbers refl)

-- ---- rounds, and handing out

rounds_by : (fuel : ℕ) (m : Machine) (c : ConnNo) → waiting m c < fuel → (rounds : List (List ReqNo)) × (last : Machine) × AreRounds (server_of m []) c true rounds (server_of last [])
rounds_by zero m c lt = absurd (omega arith)
rounds_by (suc fuel) m c lt = let round = some_round m c in by_again round.0 round.1 (performs (server_of m []) c round.0) refl (λ n fewer. rounds_by fuel n c fewer)
  where
    by_again : (numbers : List ReqNo) → AreOpen (server_of m []) c (record { 0 = 0 }) numbers → (again : Bool) → performs (server_of m []) c numbers ≡ again
        → ((n : Machine) → waiting n c < fuel → (rounds : List (List ReqNo)) × (last : Machine) × AreRounds (server_of n []) c true rounds (server_of last []))
        → (rounds : List (List ReqNo)) × (last : Machine) × AreRounds (server_of m []) c true rounds (server_of last [])
    by_again numbers are true e next =
        let s = worked (server_of m []) c numbers in
        let less = round_less (server_of m []) c numbers e in
        let rest = next s.machine (omega arith) in
        let on : AreRounds s c true rest.0 (server_of rest.1 []) = subst (λ (t : Server). AreRounds t c true rest.0 (server_of rest.1 [])) (sym (worked_is m c numbers)) rest.2 in
        (numbers ∷ rest.0, rest.1, (refl, are, subst (λ (again : Bool). AreRounds s c again rest.0 (server_of rest.1 [])) (sym e) on))
    by_again numbers are false e next = (numbers ∷ [], (worked (server_of m []) c numbers).machine, (refl, are, (e, sym (worked_is m c numbers))))

some_rounds : (m : Machine) (c : ConnNo) → (rounds : List (List ReqNo)) × (last : Machine) × AreRounds (server_of m []) c true rounds (server_of last [])
some_rounds m c = rounds_by (suc (waiting m c)) m c (omega arith)

hands_by : (fuel : ℕ) (m : Machine) (c : ConnNo) → queued m c < fuel → (frames : List Frame) × (last : Machine) × HandsOut m c frames last
hands_by zero m c lt = absurd (omega arith)
hands_by (suc fuel) m c lt = by_reply (reply_to m (event.Take c)) refl (λ n fewer. hands_by fuel n c fewer)
  where
    by_reply : (r : Reply) → reply_to m (event.Take c) ≡ r → ((n : Machine) → queued n c < fuel → (frames : List Frame) × (last : Machine) × HandsOut n c frames last) → (frames : List Frame) × (last : Machine) × HandsOut m c frames last
    by_reply (reply.Out f) e next =
        let less = taken_less m c (ap is_out e) in
        let rest = next (after m (event.Take c)) (omega arith) in
        (f ∷ rest.0, rest.1, (e, rest.2))
    by_reply (reply.Task r) e next = ([], after m (event.Take c), (ap is_out e, refl))
    by_reply reply.Asked e next = ([], after m (event.Take c), (ap is_out e, refl))
    by_reply reply.AwaitsAnswer e next = ([], after m (event.Take c), (ap is_out e, refl))
    by_reply reply.NotReady e next = ([], after m (event.Take c), (ap is_out e, refl))
    by_reply reply.Done e next = ([], after m (event.Take c), (ap is_out e, refl))
    by_reply reply.Nothing e next = ([], after m (event.Take c), (ap is_out e, refl))
    by_reply reply.NotQuiet e next = ([], after m (event.Take c), (ap is_out e, refl))
    by_reply (reply.Refused why) e next = ([], after m (event.Take c), (ap is_out e, refl))
    by_reply reply.Closed e next = ([], after m (event.Take c), (ap is_out e, refl))
    by_reply reply.NoMemory e next = ([], after m (event.Take c), (ap is_out e, refl))

some_hands : (m : Machine) (c : ConnNo) → (frames : List Frame) × (last : Machine) × HandsOut m c frames last
some_hands m c = hands_by (suc (queued m c)) m c (omega arith)

-- ---- answers

some_answers : (frames : List Frame) (m : Machine) (salts : List ℕ) → (text : List ℕ) × (last : Machine) × Answers (server_of m []) frames salts text (server_of last [])
some_answers [] m salts = ([], m, (refl, refl))
some_answers (f ∷ frames) m salts =
    let rounds = some_rounds (after m (event.Frame connection f (salt_for f salts))) connection in
    let hands = some_hands rounds.1 connection in
    let one : AnswersFrame (server_of m []) f (salt_for f salts) (flat_map spelling hands.0) (server_of hands.1 []) =
    record { rounds = rounds.0; worked = server_of rounds.1 []; frames = hands.0; works = rounds.2; hands = hands.2; left = refl; spelled = refl } in
    let rest = some_answers frames hands.1 (salts_behind f salts) in
    (flat_map spelling hands.0 ++ rest.0, rest.1, (server_of hands.1 [], flat_map spelling hands.0, rest.0, one, rest.2, refl))

-- ---- the whole frames of bytes, and what stands behind them

-- bytes are frames, and behind them stands a fault or none
record Split (bytes : List ℕ) : Type 0 where
  frames : List Frame
  rest : List ℕ
  stop : Option FrameFault
  whole : IsWhole bytes frames rest
  met : IsStop stop rest

split_by : (fuel : ℕ) (bytes : List ℕ) → length bytes < fuel → IsBytes bytes → Split bytes
split_by zero bytes lt all = absurd (omega arith)
split_by (suc fuel) bytes lt all = by_step (step_of bytes) (front bytes (step_of bytes) all refl) (λ rest fewer octets. split_by fuel rest fewer octets)
  where
    by_step : (s : Step) → FrontIs bytes s → ((rest : List ℕ) → length rest < fuel → IsBytes rest → Split rest) → Split bytes
    by_step (Whole f n) is next =
        let least = is.least in
        let most = is.most in
        let fewer : length (drop n bytes) < fuel = omega (arith, length-drop n bytes) in
        let rest = next (drop n bytes) fewer (bytes-drop n bytes all) in
        record {
          frames = f ∷ rest.frames;
          rest = rest.rest;
          stop = rest.stop;
          whole = record {
            whole = is.text ∙ ap (λ (t : List ℕ). spelling f ++ t) rest.whole.whole ∙ sym (append_assoc (spelling f) (flat_map spelling rest.frames) rest.rest);
            each = (is.fits, rest.whole.each);
            none = rest.whole.none;
          };
          met = rest.met;
        }
    by_step Partial is next = record { frames = []; rest = bytes; stop = None; whole = record { whole = refl; each = tt; none = is.0 }; met = is.1 }
    by_step (Fault e) is next = record { frames = []; rest = bytes; stop = Some e; whole = record { whole = refl; each = tt; none = is.0 }; met = is.1 }

some_split : (bytes : List ℕ) → IsBytes bytes → Split bytes
some_split bytes all = split_by (suc (length bytes)) bytes (omega arith) all

-- bytes end in some way
some_finish : (rest : List ℕ) (stop : Option FrameFault) → IsStop stop rest → (how : Finish) × EndsAs how rest
some_finish [] None met = (finish.Clean, refl)
some_finish (b ∷ rest) None met = (finish.Inside, ((λ e. absurd cc), met))
some_finish rest (Some fault) met = (finish.Bad fault, met)

-- something is to be written at the end of input whose whole frames are answered
out_of_front : (input salts rest front : List ℕ) (refused : List ReqNo) (m : Machine) (stop : Option FrameFault) → IsAnswered input salts refused front rest m → IsStop stop rest
    → (how : Finish) × (offset : ℕ) × (whole : List ℕ) × (more : List ℕ) × (whole ≡ front ++ more) × IsStdioOut input salts refused how offset whole
out_of_front input salts rest front refused m stop is met =
    let how = some_finish rest stop met in
    let hands = some_hands (after m (event.Ended connection how.0)) connection in
    let few : length rest ≤ length input = rw (is.whole.whole, length-append (flat_map spelling is.frames) rest) (omega arith) in (
      how.0,
      length input - length rest,
      front ++ flat_map spelling hands.0,
      flat_map spelling hands.0,
      refl,
      record { front = front; rest = rest; before = m; last = hands.1; frames = hands.0; answered = is; ends = how.1; place = omega arith; hands = hands.2; whole = refl },
    )

-- ---- parts

-- the whole frames of the input, of which the first are answered, with salts for all
record Continues (input salts text : List ℕ) (refused : List ReqNo) : Type 0 where
  more : List ℕ
  rest : List ℕ
  last : Machine
  stop : Option FrameFault
  answered : IsAnswered input salts refused (text ++ more) rest last
  met : IsStop stop rest

-- where the frames of a front are known, so are those of the input
whole_split : (input front more rest : List ℕ) (frames : List Frame) → input ≡ front ++ more → IsWhole front frames rest → IsBytes input
    → (split : Split (rest ++ more)) × IsWhole input (frames ++ split.frames) split.rest
whole_split input front more rest frames is whole all =
    let shape : input ≡ flat_map spelling frames ++ (rest ++ more) = is ∙ ap (λ (t : List ℕ). t ++ more) whole.whole ∙ append_assoc (flat_map spelling frames) rest more in
    let split = some_split (rest ++ more) (bytes-back (flat_map spelling frames) (rest ++ more) (subst IsBytes shape all)) in (
      split,
      record {
        whole = shape ∙ ap (λ (t : List ℕ). flat_map spelling frames ++ t) split.whole.whole ∙ sym (stream-append frames split.frames split.rest);
        each = each-append frames split.frames whole.each split.whole.each;
        none = split.whole.none;
      },
    )

-- the texts of first frames and of later ones behind the banner
behind_banner : (text body later : List ℕ) → text ≡ banner ++ body → text ++ later ≡ banner ++ (body ++ later)
behind_banner text body later begins = ap (λ (t : List ℕ). t ++ later) begins ∙ append_assoc banner body later

-- the bytes behind the frames of which first ones are answered
abbrev Behind : (input salts text : List ℕ) → IsBegun input salts text → Type 0
Behind input salts text so = Split (so.rest ++ so.more)

-- the salts that are drawn for later frames, and those that come then, are as many as the later frames that take one
others_salted : (later others : List Frame) (unused more : List ℕ) → length unused ≤ takers later → length more ≡ takers (later ++ others) - length unused → AreSaltsOf (later ++ others) (unused ++ more)
others_salted later others unused more few is =
    let all = takers-append later others in
    rw (length-append unused more) (omega arith)

-- the frames behind the first ones are answered, whichever salts they get
continues : (input salts text more : List ℕ) (so : IsBegun input salts text) (split : Behind input salts text so) → IsWhole input ((so.frames ++ so.later) ++ split.frames) split.rest
    → length more ≡ takers (so.later ++ split.frames) - length so.unused → Continues input (salts ++ more) text so.refused
continues input salts text more so split whole enough =
    let others = so.later ++ split.frames in
    let given = so.unused ++ more in
    let later = some_answers others so.last given in
    let start = server_of at_start so.refused in
    let answers = answers_then so.frames others start (server_of so.last []) (server_of later.1 []) so.used given so.body later.0 so.as_many so.answers later.2 in
    let drawn : so.used ++ given ≡ salts ++ more = sym (append_assoc so.used so.unused more) ∙ ap (λ (l : List ℕ). l ++ more) (sym so.drawn) in
    let frames : so.frames ++ others ≡ (so.frames ++ so.later) ++ split.frames = sym (append_assoc so.frames so.later split.frames) in
    let as_many = salts_append so.frames others so.used given so.as_many (others_salted so.later split.frames so.unused more so.few enough) in
    record {
      more = later.0;
      rest = split.rest;
      last = later.1;
      stop = split.stop;
      answered = record {
        frames = (so.frames ++ so.later) ++ split.frames;
        body = so.body ++ later.0;
        whole = whole;
        as_many = subst (λ (fs : List Frame). AreSaltsOf fs (salts ++ more)) frames (subst (λ (l : List ℕ). AreSaltsOf (so.frames ++ others) l) drawn as_many);
        answers = subst (λ (fs : List Frame). Answers start fs (salts ++ more) (so.body ++ later.0) (server_of later.1 [])) frames
            (subst (λ (l : List ℕ). Answers start (so.frames ++ others) l (so.body ++ later.0) (server_of later.1 [])) drawn answers);
        begins = behind_banner text so.body later.0 so.begins;
      };
      met = split.met;
    }

-- first bytes of what is written for first frames are first bytes of what is written for the input
first_of_begun : (input salts text whole : List ℕ) (refused : List ReqNo) (count : ℕ) → Continues input salts whole refused → text ≡ take count whole → IsFirstOf input salts refused text
first_of_begun input salts text whole refused count on cut =
    let out = out_of_front input salts on.rest (whole ++ on.more) refused on.last on.stop on.answered on.met in
    let all : out.2 ≡ whole ++ (on.more ++ out.3) = out.4 ∙ append_assoc whole on.more out.3 in
    let few : min count (length whole) ≤ length whole = omega arith in
    let front : take (min count (length whole)) (whole ++ (on.more ++ out.3)) ≡ take count whole = take-append-le (min count (length whole)) whole (on.more ++ out.3) few ∙ take_min count whole in
    record { how = out.0; offset = out.1; whole = out.2; count = min count (length whole); out = out.5; cut = cut ∙ sym front ∙ ap (take (min count (length whole))) (sym all) }

-- no salts behind these
none_lacking : (input salts later text : List ℕ) (refused : List ReqNo) → length later ≡ 0 → IsFirstOf input salts refused text → IsFirstOf input (salts ++ later) refused text
none_lacking input salts [] text refused none is = subst (λ (l : List ℕ). IsFirstOf input l refused text) (sym (append-nil salts)) is
none_lacking input salts (x ∷ later) text refused none is = absurd (omega arith)

-- a part of what is to be written for the input is first bytes of it, where some calls are refused for memory
pub part_cut : (input salts text : List ℕ) → IsBytes input → IsPart input salts text → (refused : List ReqNo) × IsCutOff input salts refused text
part_cut input salts text all part = by_part part.whole part.count part.written part.cut
  where
    by_part : (whole : List ℕ) (count : ℕ) → IsBegun input salts whole ⊎ IsAllOf input salts whole → text ≡ take count whole → (refused : List ReqNo) × IsCutOff input salts refused text
    by_part whole count (inr is) cut = (
      is.refused,
      record { lacking = 0; first = λ later none. none_lacking input salts later text is.refused none (record { how = is.how; offset = is.offset; whole = whole; count = count; out = is.out; cut = cut }) },
    )
    by_part whole count (inl so) cut =
        let split = whole_split input so.front so.more so.rest (so.frames ++ so.later) so.is so.whole all in (
          so.refused,
          record {
            lacking = takers (so.later ++ split.0.frames) - length so.unused;
            first = λ later enough. first_of_begun input (salts ++ later) text whole so.refused count (continues input salts whole later so split.0 split.1 enough) cut;
          },
        )

-- where nothing is taken, nothing is a part of what is to be written
pub nothing_cut : (refused : List ReqNo) × IsCutOff [] [] refused []
nothing_cut =
    let none : IsBytes [] = λ i. omega arith in
    let split = some_split [] none in
    let begun : IsBegun [] [] (banner ++ []) = record {
      front = [];
      more = [];
      frames = [];
      later = split.frames;
      rest = split.rest;
      body = [];
      used = [];
      unused = [];
      refused = [];
      last = at_start;
      is = refl;
      whole = split.whole;
      drawn = refl;
      as_many = refl;
      few = omega arith;
      answers = (refl, refl);
      begins = refl;
    } in
    part_cut [] [] [] none (record { whole = banner ++ []; count = 0; written = inl begun; cut = refl })
