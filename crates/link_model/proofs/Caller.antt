-- What the client does at each stage of a call.
use Rattle.std.proofs.Common.{◌≡◌, ℕ, ◌+◌, ◌==◌, Bool, true, false, List, [], ◌∷◌, ◌++◌, Option, Some, None, refl, ap, ◌∙◌, arith}
use Rattle.std.specs.Prelude.{slice_get}
use Rattle.std.specs.List.{list_any}
use Rattle.std.specs.Ordering.{nat_cmp}
use Rattle.std.specs.FinMap.{FinMap, get, insert}
use Rattle.std.proofs.lemmas.Bool.Decides.{nat_tests}
use Rattle.sp_base.specs.Needs.{needs_of, outs_of}
use Rattle.sp_base.specs.declared.call.Call.{Call}
use Rattle.sp_base.specs.declared.names.Answer.{Answer}
use Rattle.sp_base.specs.declared.need.Need.{Need}
use Rattle.sp_base.specs.declared.need.Need.TheVariants.{Bytes, Text}
use Rattle.sp_copy.specs.Delivering.{put_piece, answer_after}
use Rattle.sp_copy.specs.declared.delivery.Delivery.{Delivery}
use Rattle.sp_frames.specs.declared.frame.Body.{Body}
use Rattle.sp_frames.specs.declared.frame.Body.TheVariants as body
use Rattle.sp_frames.specs.declared.frame.Frame.{Frame}
use Rattle.kern_model.specs.declared.outcome.OutPiece.{OutPiece}
use Rattle.hub_model.specs.Frames.{ask, ask_body}
use Rattle.client_model.specs.Asks.{goes_on}
use Rattle.client_model.specs.Fitness.{fits_call, may_come}
use Rattle.client_model.specs.Machine.{played, take_in, frame_if}
use Rattle.client_model.specs.Requests.{collect_at, closed}
use Rattle.client_model.specs.State.{Open, Client, with_request}
use Rattle.client_model.specs.declared.event.Event.TheVariants as event
use Rattle.client_model.specs.declared.event.Reply.TheVariants as reply
use Rattle.client_model.specs.declared.request.Response.TheVariants as response
use Rattle.tables.proofs.Entries.{again}
use Rattle.tables.proofs.Maps.{get_put}
use Rattle.link_model.specs.Asked.{Asked, number_of}
use Rattle.link_model.proofs.Ranges.{IsInside}
use Rattle.link_model.proofs.Stage.{client_at, open_of, untouched, copy_frame, AreBelow}

-- ---- the request in the client

module _ (a : Asked) (x : Open) (queue : List Frame) where
  pub open_there : get (client_at a x queue).requests (a.link.client.last + 1) ≡ Some x
  open_there = get_put a.link.client.requests (a.link.client.last + 1) x

  -- a frame comes that fits
  frame_comes : (b : Body) → may_come (Some x) b ≡ true
      → played (client_at a x queue) (event.Frame (record { number = number_of a; body = b })) ≡ (reply.Nothing, goes_on (client_at a x queue) (number_of a) x b)
  frame_comes b fits =
      let k = client_at a x queue in
      let f : Frame = record { number = number_of a; body = b } in
      ap (λ (o : Option Open). frame_if k f (may_come o b)) open_there
      ∙ ap (λ (fit : Bool). frame_if k f fit) fits
      ∙ ap (λ (o : Option Open). take_in k f o) open_there

  -- the client with another request and queue
  changes_to : (y : Open) (queue' : List Frame) → ◌≡◌ {A = Client} (record (with_request (client_at a x queue) (a.link.client.last + 1) y) { queue = queue' }) (client_at a y queue')
  changes_to y queue' =
      let n = a.link.client.last + 1 in
      ap (λ (m : FinMap nat_cmp Open). record (client_at a y queue') { requests = m }) (again a.link.client.requests (insert a.link.client.requests n x) n x y refl)

-- ---- asks

not_asked : (n : ℕ) (indexes : List ℕ) → AreBelow n indexes → list_any (λ i. i == n) indexes ≡ false
not_asked n [] h = refl
not_asked n (i ∷ indexes) h = let other : (i == n) ≡ false = (let lt = h.0 in grind (arith, nat_tests)) in rw other (not_asked n indexes h.1)

same : (n : ℕ) → (n == n) ≡ true
same n = grind (arith, nat_tests)

ask_fits : (c : Call) (indexes : List ℕ) (index : ℕ) (need : Need) → slice_get (needs_of c) index ≡ Some need → AreBelow index indexes → fits_call c indexes (ask_body index need) ≡ true
ask_fits c indexes index (Bytes addr len) next below = rw (next, same addr, same len, not_asked index indexes below) refl
ask_fits c indexes index (Text addr limit) next below = rw (next, same addr, same limit, not_asked index indexes below) refl

ask_answered : (a : Asked) (indexes : List ℕ) (index : ℕ) (need : Need)
    → goes_on (client_at a (open_of a (untouched a) indexes None) []) (number_of a) (open_of a (untouched a) indexes None) (ask_body index need)
    ≡ client_at a (open_of a (untouched a) (indexes ++ index ∷ []) None) (copy_frame a index need ∷ [])
ask_answered a indexes index (Bytes addr len) = changes_to a (open_of a (untouched a) indexes None) [] _ _
ask_answered a indexes index (Text addr limit) = changes_to a (open_of a (untouched a) indexes None) [] _ _

-- an ask is answered with a copy
pub ask_comes : (a : Asked) (indexes : List ℕ) (index : ℕ) (need : Need) → slice_get (needs_of a.call) index ≡ Some need → AreBelow index indexes
    → played (client_at a (open_of a (untouched a) indexes None) []) (event.Frame (ask (number_of a) index need))
    ≡ (reply.Nothing, client_at a (open_of a (untouched a) (indexes ++ index ∷ []) None) (copy_frame a index need ∷ []))
ask_comes a indexes index need next below =
    frame_comes a (open_of a (untouched a) indexes None) [] (ask_body index need) (ask_fits a.call indexes index need next below)
    ∙ ap (λ (k : Client). (reply.Nothing, k)) (ask_answered a indexes index need)

-- ---- what tells the outcome

-- a piece is written
pub put_comes : (a : Asked) (now : Delivery) (indexes : List ℕ) (index : ℕ) (piece : OutPiece) → IsInside (outs_of a.call) piece
    → played (client_at a (open_of a now indexes None) []) (event.Frame (record { number = number_of a; body = body.Put index piece.addr piece.bytes }))
    ≡ (reply.Nothing, client_at a (open_of a (put_piece now (record { addr = piece.addr; bytes = piece.bytes })) indexes None) [])
put_comes a now indexes index piece inside =
    frame_comes a (open_of a now indexes None) [] (body.Put index piece.addr piece.bytes) inside
    ∙ ap (λ (k : Client). (reply.Nothing, k)) (changes_to a (open_of a now indexes None) [] _ _)

-- the response comes
pub answer_comes : (a : Asked) (now : Delivery) (indexes : List ℕ) (answer : Answer)
    → played (client_at a (open_of a now indexes None) []) (event.Frame (record { number = number_of a; body = body.Answered answer }))
    ≡ (reply.Nothing, client_at a (open_of a now indexes (Some (response.Answered answer))) [])
answer_comes a now indexes answer =
    frame_comes a (open_of a now indexes None) [] (body.Answered answer) refl
    ∙ ap (λ (k : Client). (reply.Nothing, k)) (changes_to a (open_of a now indexes None) [] _ _)

-- ---- collecting

-- a call that isn't answered yet
pub none_collected : (a : Asked) (now : Delivery) (indexes : List ℕ) (queue : List Frame)
    → (played (client_at a (open_of a now indexes None) queue) (event.Collect (number_of a))).0 ≡ reply.NotYet []
none_collected a now indexes queue =
    let x = open_of a now indexes None in
    ap (λ (o : Option Open). (collect_at (client_at a x queue) (number_of a) o).0) (open_there a x queue)

-- a call that is answered is open no more
pub answer_plays : (a : Asked) (now : Delivery) (indexes : List ℕ) (queue : List Frame) (answer : Answer)
    → let k = client_at a (open_of a now indexes (Some (response.Answered answer))) queue in
    played k (event.Collect (number_of a)) ≡ (reply.Got (answer_after now.whole answer) now.mem, closed k (number_of a))
answer_plays a now indexes queue answer =
    let x = open_of a now indexes (Some (response.Answered answer)) in
    ap (λ (o : Option Open). collect_at (client_at a x queue) (number_of a) o) (open_there a x queue)
