-- What was gathered of a call is a front of what it reads.
use Rattle.std.proofs.Common.{◌≡◌, ℕ, ◌+◌, List, [], ◌∷◌, ◌++◌, length, drop, Some, None, Result, Ok, Err, refl, sym, ap, ◌∙◌, append-nil}
use Rattle.std.specs.Prelude.{slice_get}
use Rattle.sp_base.specs.Needs.{needs_of}
use Rattle.sp_base.specs.declared.call.Call.{Call}
use Rattle.sp_base.specs.declared.need.Need.{Need}
use Rattle.sp_copy.specs.Gathering.{gather, gathered, with_first}
use Rattle.sp_copy.specs.Reading.{read_of}
use Rattle.sp_copy.specs.declared.fault.CopyFault.{CopyFault}
use Rattle.sp_copy.specs.declared.part.Part.{Part}
use Rattle.sp_copy.proofs.Pieces.{after_pieces, need_gone, need_there, one_gathered}
use Rattle.kern_model.specs.declared.operation.Ins.TheVariants.{Given, Fault}
use Rattle.link_model.specs.Direct.{ins_of, reads}
use Rattle.link_model.proofs.Copies.{errno_of, fault_is}
use Rattle.link_model.proofs.Transitions.{one_more}
use Rattle.world_model.proofs.Stage.{IsFront}

nothing_before : (r : Result (List (List ℕ)) CopyFault) → after_pieces [] r ≡ r
nothing_before (Ok pieces) = refl
nothing_before (Err why) = refl

module _ (call : Call) (mem : List Part) where
  -- nothing was gathered yet
  pub front_none : IsFront call mem []
  front_none = nothing_before (gather call mem)

  module _ (got : List (List ℕ)) (front : IsFront call mem got) where
    -- a piece more is a front too
    pub front_grows : (need : Need) (bytes : List ℕ) → slice_get (needs_of call) (length got) ≡ Some need → read_of mem need ≡ Ok bytes
        → IsFront call mem (got ++ bytes ∷ [])
    front_grows need bytes next e =
        let needs = needs_of call in
        ap (λ (n : ℕ). after_pieces (got ++ bytes ∷ []) (gathered mem (drop n needs))) (one_more got bytes)
        ∙ one_gathered mem got need (drop (length got + 1) needs) bytes e
        ∙ ap (λ (xs : List Need). after_pieces got (gathered mem xs)) (sym (need_there needs (length got) need (sym next)).1)
        ∙ front

    -- a fault is what the call reads
    pub front_fails : (need : Need) (why : CopyFault) → slice_get (needs_of call) (length got) ≡ Some need → read_of mem need ≡ Err why
        → reads call mem ≡ Fault (errno_of why)
    front_fails need why next e =
        let needs = needs_of call in
        ap ins_of (sym front
        ∙ ap (λ (xs : List Need). after_pieces got (gathered mem xs)) (need_there needs (length got) need (sym next)).1
        ∙ ap (λ (r : Result (List ℕ) CopyFault). after_pieces got (with_first r (gathered mem (drop (length got + 1) needs)))) e)
        ∙ fault_is why

    -- where nothing is left to be read, what was got is what the call reads
    pub front_ends : slice_get (needs_of call) (length got) ≡ None → reads call mem ≡ Given got
    front_ends next =
        ap ins_of (sym front ∙ ap (λ (xs : List Need). after_pieces got (gathered mem xs)) (need_gone (needs_of call) (length got) (sym next)))
        ∙ ap (λ (ps : List (List ℕ)). Given ps) (append-nil got)
