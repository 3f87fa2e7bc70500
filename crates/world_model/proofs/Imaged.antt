-- The handshake of a process's next program comes to the server.
use Rattle.std.proofs.Common.{◌≡◌, inl, inr, ℕ, false, List, [], ◌∷◌, ◌++◌, length, Option, Some, None, refl, sym, ap, ◌∙◌, subst}
use Rattle.std.specs.FinMap.{get, insert}
use Rattle.sp_base.specs.declared.names.ConnNo.{ConnNo}
use Rattle.sp_base.specs.declared.names.Cookie.{Cookie}
use Rattle.sp_frames.specs.declared.frame.Body.{Body}
use Rattle.sp_frames.specs.declared.frame.Body.TheVariants as body
use Rattle.sp_frames.specs.declared.frame.Frame.{Frame}
use Rattle.kern_model.specs.Journal.{next_entry}
use Rattle.kern_model.specs.declared.journal.Entry.{Entry}
use Rattle.kern_model.specs.declared.journal.Who.TheVariants.{Request}
use Rattle.kern_model.specs.declared.operation.Op.TheVariants as op
use Rattle.sp_fork.specs.Jar.{redeemable}
use Rattle.sp_fork.specs.declared.unused.CookieKind.TheVariants as kind
use Rattle.sp_fork.specs.declared.unused.Unused.{Unused}
use Rattle.tables.proofs.Maps.{get_put, get_put_other, same_or_not}
use Rattle.hub_model.specs.Frames.{imaged}
use Rattle.hub_model.specs.Journal.{nothing_read}
use Rattle.hub_model.specs.Requests.{image, image_by, left_at, left_over, redeemed, speaking}
use Rattle.hub_model.specs.Sound.{IsInExec, IsSound}
use Rattle.hub_model.specs.State.{Connection, Machine, is_fresh, with_connection}
use Rattle.hub_model.specs.declared.event.Reply.TheVariants as server_reply
use Rattle.hub_model.specs.declared.handover.Handover.TheVariants as handover
use Rattle.hub_model.specs.declared.state.Condition.TheVariants as condition
use Rattle.hub_model.proofs.Keeps.{exec_waits}
use Rattle.hub_model.proofs.Ledgers.{redeemable_is}
use Rattle.hub_law.specs.Frames.{numbered}
use Rattle.hub_law.specs.Serves.{AsksFor}
use Rattle.hub_law.proofs.Keys.{IsBy, exec_nexts, next_is, stays_push}
use Rattle.hub_law.proofs.Lists.{get_end}
use Rattle.client_model.specs.State.{Client}
use Rattle.client_model.specs.declared.request.Request.{Request as What}
use Rattle.client_model.specs.declared.request.Response.TheVariants as response
use Rattle.world_model.specs.Log.{Ask}
use Rattle.world_model.specs.Once.{IsOpOf}
use Rattle.world_model.specs.Run.{Item}
use Rattle.world_model.specs.State.{Link}
use Rattle.world_model.proofs.Answered.{answers, asks, grown, grown_past, own_entry}
use Rattle.world_model.proofs.Lane.{LeftOver, Same, Speaks, slice_of}
use Rattle.world_model.proofs.Requested.{asked_image}
use Rattle.world_model.proofs.Slice.{frame_of}
use Rattle.world_model.proofs.Stage.{At, IsAnswerTo, Once, Sent}
use Rattle.world_model.proofs.Taken.{Taken, rest_of}

-- the connection that made an exec cookie waits for its process to go on
maker_waits : (m : Machine) → IsSound m → (cookie : Cookie) (u : Unused) → redeemable m.cookies cookie kind.Exec ≡ Some u → IsInExec m u.maker u.pid
maker_waits m sound cookie u h =
    let is = redeemable_is m.cookies cookie kind.Exec u h in
    exec_waits m u u.kind is.1 (sound.cookies cookie.number u is.0).waits

module _ (m : Machine) (c : ConnNo) (k : Client) (l : Link) (x : Connection) (f : Frame) (frames : List Frame) (log : List Item) (up : l.up ≡ f ∷ frames)
    (speaks : Speaks c k l x log m.journal) (ask : Ask) (says : Body)
    (at : At m.journal c f.number.0 (slice_of c f.number.0 k l x log) (Sent ask says)) (comes : f ≡ frame_of f.number.0 says)
    (alone : numbered f.number.0 (frames ++ k.queue) ≡ []) where
  -- the maker of the cookie is left
  leaves : (cookie : Cookie) (u : Unused) (e : Entry) (o : Option Connection) → get m.connections u.maker.0 ≡ o → IsInExec m u.maker u.pid
      → AsksFor f.body op.Exec
      → IsBy u.pid (Request c f.number) op.Exec nothing_read e
      → Taken m c k (rest_of l frames) f log (
        server_reply.Done,
        with_connection (left_at (record (redeemed m cookie kind.Exec) {
          journal = m.journal ++ e ∷ [];
          handovers = handover.Imaged c cookie.number ∷ m.handovers;
        }) u.maker o)
            c (speaking x f u.pid (imaged f.number u.pid (length m.journal))),
      )
  leaves cookie u e None h maker means by = absurd (let k : None ≡ Some maker.0 = sym h ∙ maker.1 in cc)
  leaves cookie u e (Some y) h maker means by =
      let is = asked_image ask.what f.body (asks m c k l x f frames log up speaks ask says at comes alone) means in
      let says' = body.Imaged u.pid (record { 0 = length m.journal }) in
      let x' : Connection = speaking x f u.pid (imaged f.number u.pid (length m.journal)) in
      let is_y : maker.0 ≡ y = (let k : Some maker.0 ≡ Some y = sym maker.1 ∙ h in cc) in
      let spoke : is_fresh y.condition ≡ false = sym (ap (λ (z : Connection). is_fresh z.condition) is_y) ∙ ap is_fresh maker.2 in
      let left = insert m.connections u.maker.0 (left_over y) in
      answers m c k l x f frames log up speaks ask says at comes alone
      _ server_reply.Done (condition.Live u.pid) says' (response.Imaged u.pid (record { 0 = length m.journal }))
      (record {
        here = get_put left c.0 x';
        others = λ d ne. elim (same_or_not d.0 u.maker.0) [
          | inl same ↦ LeftOver y (ap (λ (n : ℕ). get m.connections n) same ∙ h) spoke
              (get_put_other left c.0 x' d.0 ne ∙ (ap (λ (n : ℕ). get left n) same ∙ get_put m.connections u.maker.0 (left_over y)))
          | inr other ↦ Same (get_put_other left c.0 x' d.0 ne ∙ get_put_other m.connections u.maker.0 (left_over y) d.0 other)
        ];
        opened = refl;
        halted = refl;
        stays = stays_push m.journal e;
        grows = grown m c k l x f frames log up speaks ask says at comes alone e by.who_is;
      })
      (grown_past m c k l x f frames log up speaks ask says at comes alone e by.who_is) tt refl (λ spoke. refl) (λ spoke. refl)
      (Once (length m.journal) e (own_entry m c k l x f frames log up speaks ask says at comes alone u.pid op.Exec e by
      (subst (λ (w : What). IsOpOf w op.Exec) (sym is) tt) refl))
      (subst (λ (w : What). IsAnswerTo w says') (sym is) tt) refl
      (record { entry = e; stands = (get_end m.journal e, by.who_is); operation = by.op_is; process = by.pid_is })

  image_by_taken : IsSound m → (cookie : Cookie) (u : Unused) (next : Option Entry) → redeemable m.cookies cookie kind.Exec ≡ Some u
      → next_entry m.journal u.pid (Request c f.number) op.Exec nothing_read ≡ next → AsksFor f.body op.Exec
      → Taken m c k (rest_of l frames) f log (image_by m c x f cookie u next)
  image_by_taken sound cookie u None there h means = absurd (exec_nexts m.journal u.pid (Request c f.number) h)
  image_by_taken sound cookie u (Some e) there h means =
      leaves cookie u e (get m.connections u.maker.0) refl (maker_waits m sound cookie u there) means
      (next_is m.journal u.pid (Request c f.number) op.Exec nothing_read e h)

  -- a process goes on as its next program
  pub image_taken : IsSound m → (cookie : Cookie) (o : Option Unused) → redeemable m.cookies cookie kind.Exec ≡ o → AsksFor f.body op.Exec
      → (redeemable m.cookies cookie kind.Exec ≡ None → ⊥) → Taken m c k (rest_of l frames) f log (image m c x f cookie o)
  image_taken sound cookie None h means there = absurd (there h)
  image_taken sound cookie (Some u) h means there = image_by_taken sound cookie u _ h refl means
