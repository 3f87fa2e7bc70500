-- What a session has written, step by step.
use Rattle.std.proofs.Common.{◌≡◌, ◌≢◌, ◌⊎◌, inl, inr, ℕ, ◌+◌, ◌-◌, ◌≤◌, ◌<◌, Bool, true, false, List, [], ◌∷◌, ◌++◌, length, take, drop, Option, Some, None, Result, Ok, Err, OnOk, OnErr, IfOk, IfErr, IsErrAnd, refl, sym, ap, subst, ◌∙◌, append_assoc, length-append, arith}
use Rattle.std.proofs.lemmas.List.{append-nil, take-append-drop, take_min}
use Rattle.std.proofs.lemmas.Bool.Decides.{nat_tests}
use Rattle.std.proofs.Math.Seq.{take-length, take-append-add}
use Rattle.std.specs.Prelude.{◌==◌, min, IsTrue, ◌↔◌}
use Rattle.std.specs.List.{flat_map}
use Rattle.std.specs.Io.KnownBytes.{Appends}
use Rattle.sp_io.specs.Whole.{AppendsFirst}
use Rattle.sp_frames.specs.declared.fault.FrameFault.{FrameFault}
use Rattle.sp_frames.specs.declared.fault.FrameFault.TheVariants as frame_fault
use Rattle.sp_frames.specs.declared.frame.Frame.{Frame}
use Rattle.sp_frames.specs.Fields.{IsBytes}
use Rattle.sp_frames.specs.Banner.{banner}
use Rattle.sp_frames.specs.Grammar.{spelling, Fits}
use Rattle.sp_frames.specs.Stream.{NoFront, IsWhole}
use Rattle.sp_frames.specs.Faults.{HasFault, NoFault}
use Rattle.sp_frames.specs.Framing.{Held, Follows, IsStop}
use Rattle.sp_frames.specs.declared.reading.Step.TheVariants.{Partial}
use Rattle.sp_frames.specs.Reading.{step_of}
use Rattle.sp_frames.proofs.StreamLaws.{front, stream-append, each-front}
use Rattle.sp_base.specs.declared.names.ReqNo.{ReqNo}
use Rattle.sp_frames.specs.declared.version.Version.TheVariants.{Four}
use Rattle.hub_model.proofs.Sound.{plays_sound, fresh_sound}
use Rattle.hub_model.specs.Machine.{Plays}
use Rattle.hub_model.specs.declared.event.Reply.{Reply}
use Rattle.hub_model.specs.declared.event.Reply.TheVariants as reply
use Rattle.hub_model.specs.declared.event.Event.TheVariants as event
use Rattle.hub_model.specs.declared.event.Finish.{Finish}
use Rattle.hub_model.specs.declared.event.Finish.TheVariants as finish
use Rattle.hub_model.specs.Sound.{IsSound}
use Rattle.hub_model.specs.State.{Machine, fresh_machine}
use Rattle.sp_io.proofs.Known.{appends_then}
use Rattle.sp_server.proofs.Octets.{bytes-append}
use Rattle.sp_server.proofs.Moves.{appends_nothing}
use Rattle.sp_server.specs.declared.session.Session.{Session}
use Rattle.sp_server.specs.declared.session.Stop.{Stop}
use Rattle.sp_server.specs.declared.session.Stop.TheVariants as stop
use Rattle.sp_server.specs.declared.stdio.StdioEnd.TheVariants as end
use Rattle.sp_server.specs.Serving.{Server, server_of, reply_to, after, AreRounds, HandsOut}
use Rattle.sp_server.specs.Stdio.{connection, at_start, most_input, takes_salt, AreSaltsOf, salt_for, AnswersFrame, Answers, IsAnswered, EndsAs, IsStdioOut, IsUnended, IsUnsalted, Serves}
use Rattle.sp_server.specs.Session.{Moves, MayRefuse, Proceeds, AreAllRounds, AnswersSoFar, AnswersOne, IsBehind, IsAnsweredSoFar, IsAt, IsMet, IsQueueFront, IsAnswerFront, StopsOne, IsStopText, IsPart, IsPartBehind, IsOutBehind, IsServedBy}
use Rattle.sp_server.proofs.Salts.{takers, salts_append, salt_within, answers_then}
use Rattle.sp_server.proofs.Refusing.{Grows, refuse_before, frame_grows, hands_grow, hands_sound, frame_is}

-- ---- frames and their answers

-- one frame more is answered, whichever calls are refused later
pub push : (m n : Machine) (frames : List Frame) (f : Frame) (salts more body text : List ℕ) → AnswersSoFar frames salts body m → AnswersOne m f more text n → AnswersSoFar (frames ++ f ∷ []) (salts ++ more) (body ++ text) n
push m n frames f salts more body text all one = record {
  as_many = salts_append frames (f ∷ []) salts more all.as_many one.as_many;
  answers = record {
    keeps = λ sound. one.answers.keeps (all.answers.keeps sound);
    steps = λ sound later may.
        let second = one.answers.steps (all.answers.keeps sound) later may in
        let first = all.answers.steps sound second.0 second.1 in
        let last = server_of n later in
        let is : Answers (server_of m second.0) (f ∷ []) more text last = (last, text, [], second.2, (refl, refl), sym (append-nil text)) in
        (first.0, first.1, answers_then frames (f ∷ []) (server_of at_start first.0) (server_of m second.0) last salts more body text all.as_many first.2 is);
  };
}

-- the server at its start is sound
pub start_sound : IsSound at_start
start_sound = plays_sound (fresh_machine Four) at_start (event.Opened connection) (reply_to (fresh_machine Four) (event.Opened connection)) (fresh_sound Four) (inl (true, refl))

-- where no call is refused later, these were
pub at_last : (frames : List Frame) (salts body : List ℕ) (m : Machine) → AnswersSoFar frames salts body m → (refused : List ReqNo) × Answers (server_of at_start refused) frames salts body (server_of m [])
at_last frames salts body m so = let first = so.answers.steps start_sound [] tt in (first.0, first.2)

-- nothing is answered at the start
pub none_yet : (m : Machine) → m ≡ at_start → AnswersSoFar [] [] [] m
none_yet m is = record {
  as_many = refl;
  answers = record {
    keeps = λ sound. subst (λ (n : Machine). IsSound n) (sym is) sound;
    steps = λ sound later may. (later, subst (λ (n : Machine). MayRefuse connection n later) is may, (refl, ap (λ (n : Machine). server_of n later) is));
  };
}

-- what is written for a frame: it happens to the server with its salt, the open calls are worked, and what is queued is handed out
pub one_answered : (m k n l : Machine) (f : Frame) (salts : List ℕ) (salt : ℕ) (answer : Reply) (frames : List Frame) → AreSaltsOf (f ∷ []) salts → salt ≡ salt_for f salts
    → Plays m (event.Frame connection f salt) answer k → answer ≢ reply.NoMemory
    → Proceeds connection (AreAllRounds connection) k n → HandsOut n connection frames l → AnswersOne m f salts (flat_map spelling frames) l
one_answered m k n l f salts salt answer frames as_many given plays ne rounds hands =
    let e = event.Frame connection f salt in
    let is : k ≡ after m e = frame_is m k connection f salt answer plays ne in
    record {
      as_many = as_many;
      answers = subst (λ (s : ℕ). Proceeds connection (λ a b. AnswersFrame a f s (flat_map spelling frames) b) m l) given (record {
        keeps = λ sound. hands_sound n connection frames l hands (rounds.keeps (plays_sound m k e answer sound plays));
        steps = λ sound later may.
            let worked = rounds.steps (plays_sound m k e answer sound plays) later (refuse_before connection n l later (hands_grow n connection frames l hands) may) in
            let grows = subst (λ (j : Machine). Grows m j) (sym is) (frame_grows m connection f salt) in (
              worked.0,
              refuse_before connection m k worked.0 grows worked.1,
              record {
                rounds = worked.2.0;
                worked = server_of n later;
                frames = frames;
                works = subst (λ (j : Machine). AreRounds (server_of j worked.0) connection true worked.2.0 (server_of n later)) is worked.2.1;
                hands = hands;
                left = refl;
                spelled = refl;
              },
            );
      });
    }

-- first bytes of what is queued then are first bytes of what is to be written for the frame
pub answer_front : (m k n : Machine) (f : Frame) (salts : List ℕ) (salt : ℕ) (answer : Reply) (text : List ℕ) → AreSaltsOf (f ∷ []) salts → salt ≡ salt_for f salts
    → Plays m (event.Frame connection f salt) answer k → answer ≢ reply.NoMemory
    → Proceeds connection (AreAllRounds connection) k n → IsQueueFront n text → IsAnswerFront m f salts text
answer_front m k n f salts salt answer text as_many given plays ne rounds (inl none) = record { as_many = as_many; front = inl none }
answer_front m k n f salts salt answer text as_many given plays ne rounds (inr part) = record {
  as_many = as_many;
  front = inr (flat_map spelling part.0, part.1, part.2, one_answered m k n part.1 f salts salt answer part.0 as_many given plays ne rounds part.3, part.4);
}

-- a frame that has its salt isn't answered
pub stops_front : (why : Stop) (m : Machine) (f : Frame) (salts text : List ℕ) → why ≢ stop.Salt → IsAnswerFront m f salts text → StopsOne why m f salts text
stops_front stop.Output m f salts text other is = is
stops_front stop.Salt m f salts text other is = absurd (other refl)
stops_front stop.NoMemory m f salts text other is = is

-- first bytes of what was queued
pub queue_front : (a b : Option (List ℕ)) (m n : Machine) (frames : List Frame) (bytes : List ℕ) → HandsOut m connection frames n → bytes ≡ flat_map spelling frames → AppendsFirst a b bytes
    → (text : List ℕ) × Appends a b text × IsQueueFront m text
queue_front a b m n frames bytes hands is puts = (take puts.0 bytes, puts.1, inr (frames, n, puts.0, hands, ap (take puts.0) is))

-- one frame more is answered
pub one_behind : (old held : Held) (m n : Machine) (input before written salts text : List ℕ) (f : Frame)
    → ((fed : List ℕ) (handed : List Frame) → Follows fed handed old → Follows fed (handed ++ f ∷ []) held)
    → AnswersOne m f salts text n → IsBehind old m input before written → IsBehind held n input (before ++ salts) (written ++ text)
one_behind old held m n input before written salts text f next one so = record {
  handed = so.handed ++ f ∷ [];
  body = so.body ++ text;
  follows = next input so.handed so.follows;
  answers = push m n so.handed f before salts so.body text so.answers one;
  begins = ap (λ t. t ++ text) so.begins ∙ append_assoc banner so.body text;
}

-- all that were ready are answered
pub all_behind : (held : Held) (m : Machine) (input salts text : List ℕ) → held.ready ≡ [] → IsBehind held m input salts text → IsAnsweredSoFar input salts text held.rest m
all_behind held m input salts text none so = record {
  frames = so.handed;
  body = so.body;
  whole = subst (λ frames. IsWhole input frames held.rest) (ap (λ ready. so.handed ++ ready) none ∙ append-nil so.handed) so.follows;
  answers = so.answers;
  begins = so.begins;
}

-- what is answered, once more was fed
pub behind : (old held : Held) (m : Machine) (input piece salts text : List ℕ) → old.ready ≡ []
    → ((fed : List ℕ) (handed : List Frame) → Follows fed handed old → Follows (fed ++ piece) handed held)
    → IsAnsweredSoFar input salts text old.rest m → IsBehind held m (input ++ piece) salts text
behind old held m input piece salts text none feeds is = record {
  handed = is.frames;
  body = is.body;
  follows = feeds input is.frames (subst (λ frames. IsWhole input frames old.rest) (sym (ap (λ ready. is.frames ++ ready) none ∙ append-nil is.frames)) is.whole);
  answers = is.answers;
  begins = is.begins;
}

-- what is answered where no call is refused later
pub answered_last : (input salts text rest : List ℕ) (m : Machine) → IsAnsweredSoFar input salts text rest m → (refused : List ReqNo) × IsAnswered input salts refused text rest m
answered_last input salts text rest m is =
    let all = at_last is.frames salts is.body m is.answers in
    (all.0, record { frames = is.frames; body = is.body; whole = is.whole; as_many = is.answers.as_many; answers = all.1; begins = is.begins })

-- ---- parts of what is to be written

-- what is written for first frames of a front of the input is a part of it, also where salts of later frames are drawn
part_begun : (input front more salts used unused text rest body : List ℕ) (frames later : List Frame) (m : Machine) → input ≡ front ++ more → IsWhole front (frames ++ later) rest → salts ≡ used ++ unused
    → length unused ≤ takers later → AnswersSoFar frames used body m → text ≡ banner ++ body → IsPart input salts text
part_begun input front more salts used unused text rest body frames later m is whole drawn few so begins =
    let all = at_last frames used body m so in
    record {
      whole = text;
      count = length text;
      written = inl (record {
        front = front;
        more = more;
        frames = frames;
        later = later;
        rest = rest;
        body = body;
        used = used;
        unused = unused;
        refused = all.0;
        last = m;
        is = is;
        whole = whole;
        drawn = drawn;
        as_many = so.as_many;
        few = few;
        answers = all.1;
        begins = begins;
      });
      cut = sym (take-length text);
    }

-- what is answered of a front of the input is a part of it
part_front : (input front more salts text rest : List ℕ) (m : Machine) → input ≡ front ++ more → IsAnsweredSoFar front salts text rest m → IsPart input salts text
part_front input front more salts text rest m at is =
    part_begun input front more salts salts [] text rest is.body is.frames [] m at (subst (λ frames. IsWhole front frames rest) (sym (append-nil is.frames)) is.whole) (sym (append-nil salts)) (omega arith) is.answers is.begins

pub part_answered : (input salts text rest : List ℕ) (m : Machine) → IsAnsweredSoFar input salts text rest m → IsPart input salts text
part_answered input salts text rest m is = part_front input input [] salts text rest m (sym (append-nil input)) is

-- first bytes of what is to be written for a frame
part_whole : (m n : Machine) (input before written salts whole text : List ℕ) (f : Frame) (handed later : List Frame) (body rest : List ℕ) (count : ℕ)
    → IsWhole input ((handed ++ f ∷ []) ++ later) rest → AnswersSoFar handed before body m → written ≡ banner ++ body
    → AnswersOne m f salts whole n → text ≡ take count whole → IsPart input (before ++ salts) (written ++ text)
part_whole m n input before written salts whole text f handed later body rest count all answers begins one is =
    let so = push m n handed f before salts body whole answers one in
    let last = at_last (handed ++ f ∷ []) (before ++ salts) (body ++ whole) n so in
    record {
      whole = written ++ whole;
      count = length written + count;
      written = inl (record {
        front = input;
        more = [];
        frames = handed ++ f ∷ [];
        later = later;
        rest = rest;
        body = body ++ whole;
        used = before ++ salts;
        unused = [];
        refused = last.0;
        last = n;
        is = sym (append-nil input);
        whole = all;
        drawn = sym (append-nil (before ++ salts));
        as_many = so.as_many;
        few = omega arith;
        answers = last.1;
        begins = ap (λ t. t ++ whole) begins ∙ append_assoc banner body whole;
      });
      cut = ap (λ t. written ++ t) is ∙ sym (take-append-add written whole count);
    }

part_answer : (old held : Held) (m : Machine) (input before written salts text : List ℕ) (f : Frame)
    → ((fed : List ℕ) (handed : List Frame) → Follows fed handed old → Follows fed (handed ++ f ∷ []) held)
    → AreSaltsOf (f ∷ []) salts → (text ≡ []) ⊎ (whole : List ℕ) × (m' : Machine) × (count : ℕ) × AnswersOne m f salts whole m' × (text ≡ take count whole)
    → IsBehind old m input before written → IsPart input (before ++ salts) (written ++ text)
part_answer old held m input before written salts text f next as_many (inl none) so =
    let whole = subst (λ frames. IsWhole input frames held.rest) (append_assoc so.handed (f ∷ []) held.ready) (next input so.handed so.follows) in
    subst (λ t. IsPart input (before ++ salts) t) (sym (ap (λ t. written ++ t) none ∙ append-nil written))
    (part_begun input input [] (before ++ salts) before salts written held.rest so.body so.handed (f ∷ held.ready) m (sym (append-nil input)) whole refl (salt_within f held.ready salts as_many) so.answers so.begins)
part_answer old held m input before written salts text f next as_many (inr part) so =
    part_whole m part.1 input before written salts part.0 text f so.handed held.ready so.body held.rest part.2 (next input so.handed so.follows) so.answers so.begins part.3 part.4

-- no frame begins no bytes
none_empty : NoFront []
unfolding step_of
none_empty = (front [] Partial (λ i. omega arith) refl).0

-- the salt of a frame isn't drawn
unsalted : (old held : Held) (m : Machine) (input before written : List ℕ) (f : Frame)
    → ((fed : List ℕ) (handed : List Frame) → Follows fed handed old → Follows fed (handed ++ f ∷ []) held)
    → Fits f → takes_salt f.body ≡ true → IsBehind old m input before written → (refused : List ReqNo) × IsUnsalted input before refused written
unsalted old held m input before written f next fits takes so =
    let fed = next input so.handed so.follows in
    let whole = subst (λ frames. IsWhole input frames held.rest) (append_assoc so.handed (f ∷ []) held.ready) fed in
    let front = flat_map spelling so.handed in
    let later = flat_map spelling held.ready ++ held.rest in
    let last = at_last so.handed before so.body m so.answers in (
      last.0,
      record {
        front = front;
        next = f;
        more = later;
        m = m;
        is = whole.whole ∙ stream-append so.handed (f ∷ held.ready) held.rest ∙ ap (λ (t : List ℕ). front ++ t) (append_assoc (spelling f) (flat_map spelling held.ready) held.rest);
        fits = fits;
        takes = takes;
        answered = record {
          frames = so.handed;
          body = so.body;
          whole = record { whole = sym (append-nil front); each = each-front so.handed (f ∷ held.ready) whole.each; none = none_empty };
          as_many = so.answers.as_many;
          answers = last.1;
          begins = so.begins;
        };
      },
    )

-- a frame isn't answered: what is written then
pub stop_answer : (why : Stop) (old held : Held) (m : Machine) (input before written salts text : List ℕ) (f : Frame)
    → ((fed : List ℕ) (handed : List Frame) → Follows fed handed old → Follows fed (handed ++ f ∷ []) held)
    → Fits f → StopsOne why m f salts text → IsBehind old m input before written → IsStopText why input (before ++ salts) (written ++ text)
stop_answer stop.Output old held m input before written salts text f next fits is so = part_answer old held m input before written salts text f next is.as_many is.front so
stop_answer stop.Salt old held m input before written salts text f next fits is so =
    let no_salt = sym (ap (λ (l : List ℕ). before ++ l) is.1 ∙ append-nil before) in
    let no_text = sym (ap (λ (t : List ℕ). written ++ t) is.2 ∙ append-nil written) in
    let stops = unsalted old held m input before written f next fits is.0 so in
    (stops.0, subst (λ (t : List ℕ). IsUnsalted input (before ++ salts) stops.0 t) no_text (subst (λ (l : List ℕ). IsUnsalted input l stops.0 written) no_salt stops.1))
stop_answer stop.NoMemory old held m input before written salts text f next fits is so = part_answer old held m input before written salts text f next is.as_many is.front so

-- any stop but one of the salt leaves a part written
pub stop_part : (why : Stop) (input salts text : List ℕ) → why ≢ stop.Salt → IsPart input salts text → IsStopText why input salts text
stop_part stop.Output input salts text other is = is
stop_part stop.Salt input salts text other is = absurd (other refl)
stop_part stop.NoMemory input salts text other is = is

-- ---- the end

ended : (input salts before rest : List ℕ) (offset : ℕ) (how : Finish) (m last : Machine) (frames : List Frame) → IsAnsweredSoFar input salts before rest m → EndsAs how rest → offset + length rest ≡ length input
    → HandsOut (after m (event.Ended connection how)) connection frames last → (refused : List ReqNo) × IsStdioOut input salts refused how offset (before ++ flat_map spelling frames)
ended input salts before rest offset how m last frames is ends place hands =
    let answered = answered_last input salts before rest m is in (
      answered.0,
      record { front = before; rest = rest; before = m; last = last; frames = frames; answered = answered.1; ends = ends; place = place; hands = hands; whole = refl },
    )

pub out_behind : (input salts before rest : List ℕ) (offset : ℕ) (how : Finish) (m n last : Machine) (frames : List Frame) (a b : Option (List ℕ)) → IsAnsweredSoFar input salts before rest m → EndsAs how rest
    → offset + length rest ≡ length input → n ≡ after m (event.Ended connection how) → HandsOut n connection frames last → Appends a b (flat_map spelling frames) → IsOutBehind input salts how offset before a b
out_behind input salts before rest offset how m n last frames a b is ends place same hands puts =
    let out = ended input salts before rest offset how m last frames is ends place (subst (λ (k : Machine). HandsOut k connection frames last) same hands) in
    (flat_map spelling frames, puts, out.0, out.1)

pub part_end : (input salts before rest text : List ℕ) (offset : ℕ) (how : Finish) (m n : Machine) → IsAnsweredSoFar input salts before rest m → EndsAs how rest → offset + length rest ≡ length input
    → n ≡ after m (event.Ended connection how) → IsQueueFront n text → IsPart input salts (before ++ text)
part_end input salts before rest text offset how m n is ends place same (inl none) = subst (λ t. IsPart input salts t) (sym (ap (λ t. before ++ t) none ∙ append-nil before)) (part_answered input salts before rest m is)
part_end input salts before rest text offset how m n is ends place same (inr part) =
    let out = ended input salts before rest offset how m part.1 part.0 is ends place (subst (λ (k : Machine). HandsOut k connection part.0 part.1) same part.3) in
    record {
      whole = before ++ flat_map spelling part.0;
      count = length before + part.2;
      written = inr (record { how = how; offset = offset; refused = out.0; out = out.1 });
      cut = ap (λ t. before ++ t) part.4 ∙ sym (take-append-add before (flat_map spelling part.0) part.2);
    }

-- ---- offsets

-- what is left is part of the input
pub rest_within : (input salts text rest : List ℕ) (m : Machine) → IsAnsweredSoFar input salts text rest m → length rest ≤ length input
rest_within input salts text rest m is = rw (is.whole.whole, length-append (flat_map spelling is.frames) rest) (omega arith)

pub rest_fed : (s : Session) (fault : Option FrameFault) (input salts text : List ℕ) → IsAt s fault input salts text → length s.framer.rest ≤ s.fed
rest_fed s fault input salts text is = rw (is.fed) (rest_within input salts text s.framer.rest s.hub is.answered)

-- ---- pieces of the input

-- a fault that is met is the one that the framer stopped at
pub met_stop : (held : Held) (fed : Result Unit FrameFault) (fault : Option FrameFault) → IsMet fed fault
    → OnOk fed ((held.stop ≡ None) × NoFault held.rest) → IfErr fed (λ e. e ≢ frame_fault.NoMemory → (held.stop ≡ Some e) × HasFault held.rest e)
    → (held.stop ≡ fault) × IsStop fault held.rest × (fed ≢ Err frame_fault.NoMemory)
met_stop held (Ok u) None met ok err = (ok.0, ok.1, λ e. cc)
met_stop held (Ok u) (Some fault) met ok err = absurd met
met_stop held (Err e) None met ok err = absurd met
met_stop held (Err e) (Some fault) met ok err =
    let stop = err met.1 in
    (stop.0 ∙ ap Some met.0, subst (HasFault held.rest) met.0 stop.1, λ same. met.1 (let k = same in cc))

-- ---- the beginning

-- first bytes of the banner
pub part_in_banner : (held : Held) (a b : Option (List ℕ)) (n : ℕ) → Follows [] [] held → Appends a b (take n banner) → IsPartBehind [] [] [] a b
part_in_banner held a b n follows puts = (
  take n banner,
  puts,
  record {
    whole = banner ++ [];
    count = n;
    written = inl (record {
      front = [];
      more = [];
      frames = [];
      later = held.ready;
      rest = held.rest;
      body = [];
      used = [];
      unused = [];
      refused = [];
      last = at_start;
      is = refl;
      whole = follows;
      drawn = refl;
      as_many = refl;
      few = omega arith;
      answers = (refl, refl);
      begins = refl;
    });
    cut = ap (take n) (sym (append-nil banner));
  },
)

pub part_at_start : (held : Held) (m : Option (List ℕ)) → Follows [] [] held → IsPartBehind [] [] [] m m
part_at_start held m follows = part_in_banner held m m 0 follows (appends_nothing m)

pub at_begin : (s : Session) → s.framer.ready ≡ [] → s.framer.rest ≡ [] → s.framer.stop ≡ None → Follows [] [] s.framer → IsStop s.framer.stop s.framer.rest → s.hub ≡ at_start → s.fed ≡ 0
    → IsAt s None [] [] banner
at_begin s ready rest stop follows met hub fed = record {
  answered = record {
    frames = [];
    body = [];
    whole = subst (λ frames. IsWhole [] frames s.framer.rest) ready follows;
    answers = none_yet s.hub hub;
    begins = sym (append-nil banner);
  };
  ready = ready;
  stopped = stop;
  met = subst (λ stop. IsStop stop s.framer.rest) stop met;
  fed = fed;
  within = omega arith;
  octets = λ i. omega arith;
}

-- the session after more was fed, and answered
pub fed_more : (s t : Session) (mid : Held) (fed : Result Unit FrameFault) (fault : Option FrameFault) (input piece before written salts text : List ℕ) → IsAt s None input before written → IsMet fed fault
    → OnOk fed ((mid.stop ≡ None) × NoFault mid.rest) → IfErr fed (λ e. e ≢ frame_fault.NoMemory → (mid.stop ≡ Some e) × HasFault mid.rest e)
    → t.framer.ready ≡ [] → t.framer.rest ≡ mid.rest → t.framer.stop ≡ mid.stop → t.fed ≡ s.fed + length piece → s.fed + length piece ≤ most_input
    → IsBytes piece → IsAnsweredSoFar (input ++ piece) salts text t.framer.rest t.hub → IsAt t fault (input ++ piece) salts text
fed_more s t mid fed fault input piece before written salts text is met ok err ready rest stop count few octets answered =
    let stopped = met_stop mid fed fault met ok err in
    let same = is.fed in
    record {
      answered = answered;
      ready = ready;
      stopped = stop ∙ stopped.0;
      met = subst (IsStop fault) (sym rest) stopped.1;
      fed = rw (length-append input piece) (omega arith);
      within = rw (length-append input piece) (omega arith);
      octets = bytes-append input piece is.octets octets;
    }

-- what a framer holds that was fed more, while all before was answered
pub fed_behind : (s : Session) (mid : Held) (fed : Result Unit FrameFault) (fault : Option FrameFault) (input piece salts before : List ℕ) → IsAt s None input salts before → IsMet fed fault
    → OnOk fed ((mid.stop ≡ None) × NoFault mid.rest) → IfErr fed (λ e. e ≢ frame_fault.NoMemory → (mid.stop ≡ Some e) × HasFault mid.rest e)
    → (s.framer.stop ≡ None → fed ≢ Err frame_fault.NoMemory → (input : List ℕ) (handed : List Frame) → Follows input handed s.framer → Follows (input ++ piece) handed mid)
    → IsBehind mid s.hub (input ++ piece) salts before
fed_behind s mid fed fault input piece salts before is met ok err feeds =
    behind s.framer mid s.hub input piece salts before is.ready (feeds is.stopped (met_stop mid fed fault met ok err).2) is.answered

-- nothing more is written, though more came
pub part_unread : (s : Session) (input more salts before : List ℕ) → IsAt s None input salts before → IsPart (input ++ more) salts before
part_unread s input more salts before is = part_front (input ++ more) input more salts before s.framer.rest s.hub refl is.answered

-- ---- the first bytes of the input

-- what is looked at of the input is what was fed, and of the piece what there is room for
pub take_most : (input piece : List ℕ) (room : ℕ) → length input ≤ most_input → room ≡ min (most_input - length input) (length piece) → take most_input (input ++ piece) ≡ input ++ take room piece
take_most input piece room within is =
    let sum : most_input ≡ length input + (most_input - length input) = omega arith in
    let front = ap (λ n. take n (input ++ piece)) sum ∙ take-append-add input piece (most_input - length input) in
    front ∙ ap (λ t. input ++ t) (sym (ap (λ n. take n piece) is ∙ take_min (most_input - length input) piece))

-- a piece of which nothing is left was fed whole
pub whole_piece : (piece : List ℕ) (room : ℕ) → drop room piece ≡ [] → take room piece ≡ piece
whole_piece piece room none = sym (append-nil (take room piece)) ∙ (ap (λ t. take room piece ++ t) (sym none) ∙ take-append-drop room piece)

-- more came than is looked at, where something is left of the piece
pub too_much : (input piece : List ℕ) (room : ℕ) → room ≡ min (most_input - length input) (length piece) → room < length piece → most_input < length (input ++ piece)
too_much input piece room is some = rw (length-append input piece) (omega arith)

-- what a fault ended is served
pub broken_serves : (offset : ℕ) (fault : FrameFault) (taken input salts text : List ℕ) → take most_input taken ≡ input
    → (refused : List ReqNo) × IsStdioOut input salts refused (finish.Bad fault) offset text → IsServedBy (end.BadAt offset) taken salts text
broken_serves offset fault taken input salts text front out = (out.0, (fault, rw front out.1))

-- too much came
pub much_serves : (s : Session) (taken input salts text : List ℕ) → take most_input taken ≡ input → most_input < length taken → IsAt s None input salts text → IsServedBy end.TooMuch taken salts text
much_serves s taken input salts text front more is =
    let answered = answered_last input salts text s.framer.rest s.hub is.answered in
    (answered.0, (more, subst (λ t. IsUnended t salts answered.0 text) (sym front) (s.framer.rest, s.hub, answered.1, is.met)))

-- ---- the end between two frames, and inside one

pub is_inside : (inside : Bool) (rest : List ℕ) → IsTrue inside ↔ (rest ≢ []) → inside ≡ true → rest ≢ []
is_inside inside rest both is = both.0 is

pub is_between : (inside : Bool) (rest : List ℕ) → IsTrue inside ↔ (rest ≢ []) → inside ≡ false → rest ≡ []
is_between inside [] both is = refl
is_between inside (b ∷ rest) both is = let some : inside ≡ true = both.1 (λ e. absurd cc) in absurd cc

pub none_left : (input rest : List ℕ) → rest ≡ [] → length input + length rest ≡ length input
none_left input rest none = rw (none) (omega arith)

-- ---- slices

pub empty_slice : (xs : List ℕ) (empty : Bool) → empty ≡ (length xs == 0) → empty ≡ true → xs ≡ []
empty_slice [] empty is holds = refl
empty_slice (x ∷ xs) empty is holds = let none : (length (x ∷ xs) == 0) ≡ true = sym is ∙ holds in absurd (grind (arith, nat_tests))

pub some_slice : (xs : List ℕ) (empty : Bool) → empty ≡ (length xs == 0) → empty ≡ false → 0 < length xs
some_slice [] empty is not = let none : true ≡ false = sym is ∙ not in absurd cc
some_slice (x ∷ xs) empty is not = omega arith
