-- A call that is answered at once is answered as any other: it is opened, worked in a round, and handed out.
use Rattle.std.proofs.Common.{◌≡◌, ◌≢◌, inl, inr, ℕ, ◌<◌, ◌≤◌, Bool, true, false, List, [], ◌∷◌, ◌++◌, Option, Some, None, refl, sym, ap, subst, ◌∙◌, arith}
use Rattle.std.proofs.lemmas.List.{append-nil}
use Rattle.std.specs.Prelude.{◌||◌, take}
use Rattle.std.specs.List.{flat_map}
use Rattle.std.specs.Ordering.{nat_cmp}
use Rattle.std.specs.FinMap.{FinMap}
use Rattle.sp_base.specs.declared.names.ReqNo.{ReqNo}
use Rattle.sp_frames.specs.declared.frame.Frame.{Frame}
use Rattle.sp_frames.specs.Grammar.{spelling}
use Rattle.hub_model.specs.declared.event.Event.TheVariants as event
use Rattle.hub_model.specs.declared.event.Reply.{Reply}
use Rattle.hub_model.specs.declared.event.Reply.TheVariants as reply
use Rattle.hub_model.specs.declared.state.OpenCall.{OpenCall}
use Rattle.hub_model.specs.Machine.{Plays}
use Rattle.hub_model.specs.Sound.{IsSound}
use Rattle.hub_model.specs.State.{Machine, Played}
use Rattle.hub_model.specs.Task.{IsLowest, Waits, open_calls}
use Rattle.hub_model.proofs.Sound.{plays_sound}
use Rattle.sp_hub.specs.AtOnce.{AnswersAtOnce}
use Rattle.sp_server.specs.Serving.{Server, server_of, work_reply, after_work, is_done, is_out, worked, performs, AreOpen, AreRounds, HandsOut}
use Rattle.sp_server.specs.Session.{Proceeds, AreAllRounds, AnswersOne, IsAnswerFront}
use Rattle.sp_server.specs.Stdio.{AreSaltsOf, connection, salt_for}
use Rattle.sp_server.proofs.Refusing.{work_proceeds}
use Rattle.sp_server.proofs.Rounds.{zeroth}
use Rattle.sp_server.proofs.SessionLaws.{one_answered}

-- a frame that isn't answered at once comes to a server that is as it was
pub as_it_was : (m n k : Machine) (f : Frame) (salt : ℕ) (answer : Reply) → n ≡ m → Plays n (event.Frame connection f salt) answer k → Plays m (event.Frame connection f salt) answer k
as_it_was m n k f salt answer same plays = subst (λ (n : Machine). Plays n (event.Frame connection f salt) answer k) same plays

-- no call waits above a number
none_above : (calls : FinMap nat_cmp OpenCall) (above : ReqNo) → ((k : ℕ) → Waits calls k → ⊥) → IsLowest calls above None
none_above calls above none k w = absurd (none k w)

-- the one call that waits is the lowest one
one_lowest : (calls : FinMap nat_cmp OpenCall) (r : ReqNo) → 0 < r.0 → Waits calls r.0 → ((k : ℕ) → Waits calls k → k ≡ r.0) → IsLowest calls zeroth (Some r)
one_lowest calls r positive waits alone = (positive, waits, λ k w. inr (let same = alone k w in omega (arith, same)))

module _ (m : Machine) (f response : Frame) (m' : Machine) (salts : List ℕ) (salt : ℕ) (as_many : AreSaltsOf (f ∷ []) salts) (given : salt ≡ salt_for f salts) (at : AnswersAtOnce m connection f response m') where
  opens_so : Plays m (event.Frame connection f salt) (reply.Task f.number) at.opened
  opens_so = inl (true, sym (at.opens salt))

  works_so : Plays at.opened (event.Work connection f.number) reply.Done at.performed
  works_so = inl (true, sym at.works)

  -- a round works the call, and the next one has nothing to work
  rounds : Proceeds connection (AreAllRounds connection) at.opened at.performed
  rounds = record {
    keeps = λ sound. plays_sound at.opened at.performed (event.Work connection f.number) reply.Done sound works_so;
    steps = λ sound later may.
        let one = work_proceeds connection f.number at.opened at.performed reply.Done later sound works_so (λ e. cc) may in
        let s = server_of at.opened one.refused in
        let last = server_of at.performed later in
        let first : AreOpen s connection zeroth (f.number ∷ []) = (
          one_lowest (open_calls at.opened connection) f.number at.number at.waits at.alone,
          subst (λ (t : Server). IsLowest (open_calls t.machine connection) f.number None) (sym one.leaves) (none_above (open_calls at.performed connection) f.number at.done),
        ) in
        let did : performs s connection (f.number ∷ []) ≡ true = ap (λ b. b || performs (after_work s connection f.number) connection []) (ap is_done one.answers) in
        let second : AreRounds last connection true ([] ∷ []) last = (refl, none_above (open_calls at.performed connection) zeroth at.done, (refl, refl)) in
        let rest : AreRounds (worked s connection (f.number ∷ [])) connection (performs s connection (f.number ∷ [])) ([] ∷ []) last =
        subst (λ (b : Bool). AreRounds (worked s connection (f.number ∷ [])) connection b ([] ∷ []) last) (sym did) (subst (λ (t : Server). AreRounds t connection true ([] ∷ []) last) (sym one.leaves) second) in
        (one.refused, one.may, ((f.number ∷ []) ∷ [] ∷ [], (refl, first, rest)));
  }

  hands : HandsOut at.performed connection (response ∷ []) m'
  hands =
      let goes : (Rattle.hub_model.specs.Machine.played true at.performed (event.Take connection)).1 ≡ m' = ap (λ (p : Played). p.1) at.answers in
      (ap (λ (p : Played). p.0) at.answers, rw goes (ap (λ (p : Played). is_out p.0) at.quiet, sym (ap (λ (p : Played). p.1) at.quiet)))

  pub at_once_answered : AnswersOne m f salts (spelling response) m'
  at_once_answered = subst (λ (t : List ℕ). AnswersOne m f salts t m') (append-nil (spelling response))
      (one_answered m at.opened at.performed m' f salts salt (reply.Task f.number) (response ∷ []) as_many given opens_so (λ e. cc) rounds hands)

  -- first bytes of the response are first bytes of what is to be written for the frame
  pub at_once_front : (n : ℕ) → IsAnswerFront m f salts (take n (spelling response))
  at_once_front n = record { as_many = as_many; front = inr (spelling response, m', n, at_once_answered, refl) }
