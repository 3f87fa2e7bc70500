-- What comes to the client at a stage is what it takes for the request that it names.
use Rattle.std.proofs.Common.{◌≡◌, inl, inr, ℕ, ◌<◌, ◌==◌, ◌||◌, true, false, List, [], ◌∷◌, length, Option, Some, Result, Ok, Err, refl, ap, arith}
use Rattle.std.specs.Prelude.{slice_get}
use Rattle.std.specs.List.{AllByRecursion, list_any}
use Rattle.std.proofs.lemmas.Bool.{eq-eqb, or_cases, or_parts}
use Rattle.std.proofs.lemmas.Bool.Decides.{nat_tests}
use Rattle.std.proofs.lemmas.Grind.{common_steps}
use Rattle.sp_base.specs.Needs.{needs_of, outs_of}
use Rattle.sp_base.specs.declared.call.Call.{Call}
use Rattle.sp_base.specs.declared.names.ReqNo.{ReqNo}
use Rattle.sp_base.specs.declared.need.Need.{Need}
use Rattle.sp_base.specs.declared.need.Need.TheVariants.{Bytes, Text}
use Rattle.sp_base.specs.declared.need.Range.{Range}
use Rattle.sp_copy.specs.Delivering.{Piece, in_pieces, put_piece}
use Rattle.sp_copy.specs.Parts.{in_range}
use Rattle.sp_copy.specs.Reading.{read_of}
use Rattle.sp_copy.specs.Writing.{ChangesOnly}
use Rattle.sp_copy.specs.declared.delivery.Delivery.{Delivery}
use Rattle.sp_copy.specs.declared.fault.CopyFault.{CopyFault}
use Rattle.sp_copy.specs.declared.part.Part.{Part}
use Rattle.sp_copy.proofs.Deliveries.{pieces_change, wider}
use Rattle.sp_frames.specs.declared.frame.Body.{Body}
use Rattle.sp_frames.specs.declared.frame.Body.TheVariants as body
use Rattle.kern_model.specs.declared.outcome.OutPiece.{OutPiece}
use Rattle.hub_model.specs.Frames.{ask_body}
use Rattle.client_model.specs.Asks.{answer_ask, copy_of, goes_on, got_bytes, got_text, respond, welcome}
use Rattle.client_model.specs.Fitness.{fits_call, fits_request, kind_of, lies_inside}
use Rattle.client_model.specs.State.{Client, Open}
use Rattle.client_model.specs.declared.request.Request.{Request}
use Rattle.client_model.specs.declared.request.Request.TheVariants as request
use Rattle.client_model.specs.declared.request.Response.{Response}
use Rattle.client_model.specs.declared.request.Response.TheVariants as response
use Rattle.link_model.proofs.Ranges.{IsInside}
use Rattle.world_model.specs.Once.{may_change}
use Rattle.world_model.proofs.Lane.{is_copy, is_welcome}
use Rattle.world_model.proofs.Stage.{IsAnswerTo, ranges_of, response_in}

-- ---- asks

not_asked : (n : ℕ) (indexes : List ℕ) → AllByRecursion (λ i. i < n) indexes → list_any (λ i. i == n) indexes ≡ false
not_asked n [] h = refl
not_asked n (i ∷ indexes) h = let other : (i == n) ≡ false = (let lt = h.0 in grind (arith, nat_tests)) in rw other (not_asked n indexes h.1)

same : (n : ℕ) → (n == n) ≡ true
same n = eq-eqb n n refl

-- the ask for a need of a call, below whose index alone was asked
pub ask_fits : (c : Call) (indexes : List ℕ) (index : ℕ) (need : Need) → slice_get (needs_of c) index ≡ Some need → AllByRecursion (λ i. i < index) indexes
    → fits_call c indexes (ask_body index need) ≡ true
ask_fits c indexes index (Bytes addr len) next below = rw (next, same addr, same len, not_asked index indexes below) refl
ask_fits c indexes index (Text addr limit) next below = rw (next, same addr, same limit, not_asked index indexes below) refl

-- it is answered with a copy
pub ask_goes : (k : Client) (r : ReqNo) (o : Open) (index : ℕ) (need : Need)
    → goes_on k r o (ask_body index need) ≡ answer_ask k r o index (ask_body index need)
ask_goes k r o index (Bytes addr len) = refl
ask_goes k r o index (Text addr limit) = refl

pub copies : (mem : List Part) (index : ℕ) (need : Need) → is_copy (copy_of mem (ask_body index need)) ≡ true
copies mem index (Bytes addr len) = by_read (read_of mem (Bytes addr len))
  where
    by_read : (read : Result (List ℕ) CopyFault) → is_copy (got_bytes index read) ≡ true
    by_read (Ok bytes) = refl
    by_read (Err why) = refl
copies mem index (Text addr limit) = by_read (read_of mem (Text addr limit))
  where
    by_read : (read : Result (List ℕ) CopyFault) → is_copy (got_text index read) ≡ true
    by_read (Ok bytes) = refl
    by_read (Err why) = refl

-- ---- bytes to write

-- bytes inside a request's ranges
pub put_fits : (what : Request) (indexes : List ℕ) (index : ℕ) (piece : OutPiece) → IsInside (ranges_of what) piece
    → fits_request what indexes (body.Put index piece.addr piece.bytes) ≡ true
put_fits (request.Call call) indexes index piece inside = inside
put_fits what indexes index piece inside = absurd (cc)

no_address : (addr len : ℕ) (range : Range) (a : ℕ) → lies_inside addr len range ≡ true → in_range range.addr range.len a ≡ false → in_range addr len a ≡ false
no_address addr len range a inside out = grind (arith, nat_tests, common_steps)

-- an address that no range has is in no piece that lies inside one of them
outside : (addr len : ℕ) (ranges : List Range) (a : ℕ) → list_any (lies_inside addr len) ranges ≡ true
    → list_any (λ range. in_range range.addr range.len a) ranges ≡ false
    → in_range addr len a ≡ false
outside addr len [] a inside out = absurd (cc)
outside addr len (range ∷ ranges) a inside out =
    let here = or_parts (in_range range.addr range.len a) (list_any (λ range. in_range range.addr range.len a) ranges) out in
    elim (or_cases (lies_inside addr len range) (list_any (lies_inside addr len) ranges) inside) [
      | inl first ↦ no_address addr len range a first here.0
      | inr later ↦ outside addr len ranges a later here.1
    ]

-- they change the memory where the request may change it
pub put_changes : (what : Request) (now : Delivery) (piece : OutPiece) → IsInside (ranges_of what) piece
    → ChangesOnly (may_change what) now.mem (put_piece now (record { addr = piece.addr; bytes = piece.bytes })).mem
put_changes (request.Call call) now piece inside =
    let p : Piece = record { addr = piece.addr; bytes = piece.bytes } in
    wider (in_pieces (p ∷ [])) (may_change (request.Call call)) (λ a out. rw (outside piece.addr (length piece.bytes) (outs_of call) a inside out) refl)
    now.mem (put_piece now p).mem (pieces_change now (p ∷ []))
put_changes what now piece inside = absurd (cc)

-- ---- responses

-- a frame that answers a request in kind
pub says_fits : (what : Request) (indexes : List ℕ) (says : Body) → IsAnswerTo what says → fits_request what indexes says ≡ true
says_fits (request.Call call) indexes (body.Answered answer) kind = refl
says_fits (request.Call call) indexes (body.Refused k why) kind = eq-eqb k 1 kind
says_fits request.Attach indexes (body.Hello pid) kind = refl
says_fits request.Join indexes (body.Joined pid) kind = refl
says_fits request.Image indexes (body.Imaged pid place) kind = refl
says_fits request.Prefork indexes (body.Forked cookie place pid) kind = refl
says_fits request.Cancel indexes body.Cancelled kind = refl
says_fits request.Preexec indexes (body.ExecReady cookie) kind = refl
says_fits request.Attach indexes (body.Refused k why) kind = eq-eqb k (kind_of request.Attach) kind
says_fits request.Join indexes (body.Refused k why) kind = eq-eqb k (kind_of request.Join) kind
says_fits request.Image indexes (body.Refused k why) kind = eq-eqb k (kind_of request.Image) kind
says_fits request.Prefork indexes (body.Refused k why) kind = eq-eqb k (kind_of request.Prefork) kind
says_fits request.Cancel indexes (body.Refused k why) kind = eq-eqb k (kind_of request.Cancel) kind
says_fits request.Preexec indexes (body.Refused k why) kind = eq-eqb k (kind_of request.Preexec) kind
says_fits what indexes says kind = absurd kind

same_response : (a b : Response) → ◌≡◌ {A = Option Response} (Some a) (Some b) → a ≡ b
same_response a b e = cc

-- the response is kept, and the client may speak for a process by it
pub says_goes : (k : Client) (r : ReqNo) (o : Open) (says : Body) (what : Response) → response_in says ≡ Some what
    → ◌≡◌ {A = Client} (goes_on k r o says) (record (respond k r o what) { ready = is_welcome says || k.ready })
says_goes k r o (body.Answered answer) what e = ap (λ (w : Response). respond k r o w) (same_response (response.Answered answer) what e)
says_goes k r o (body.Refused kind why) what e = ap (λ (w : Response). respond k r o w) (same_response (response.Refused why) what e)
says_goes k r o (body.Forked cookie place pid) what e = ap (λ (w : Response). respond k r o w) (same_response (response.Forked cookie place pid) what e)
says_goes k r o body.Cancelled what e = ap (λ (w : Response). respond k r o w) (same_response response.Cancelled what e)
says_goes k r o (body.ExecReady cookie) what e = ap (λ (w : Response). respond k r o w) (same_response (response.ExecReady cookie) what e)
says_goes k r o (body.Hello pid) what e = ap (λ (w : Response). welcome k r o w) (same_response (response.Joined pid) what e)
says_goes k r o (body.Joined pid) what e = ap (λ (w : Response). welcome k r o w) (same_response (response.Joined pid) what e)
says_goes k r o (body.Imaged pid place) what e = ap (λ (w : Response). welcome k r o w) (same_response (response.Imaged pid place) what e)
says_goes k r o says what e = absurd (cc)
