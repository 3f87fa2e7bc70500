-- What is read of a caller's memory fits the operation that reads it.
use Rattle.std.proofs.Common.{◌≡◌, ℕ, List, [], ◌∷◌, Result, Ok, Err, refl, subst, sym}
use Rattle.sp_base.specs.Needs.{needs_of}
use Rattle.sp_base.specs.declared.need.Need.{Need}
use Rattle.sp_base.specs.declared.need.Need.TheVariants.{Bytes, Text}
use Rattle.sp_copy.specs.Gathering.{gathered, with_first}
use Rattle.sp_copy.specs.Parts.{root_part}
use Rattle.sp_copy.specs.Reading.{read_of}
use Rattle.sp_copy.specs.declared.fault.CopyFault.{CopyFault}
use Rattle.sp_copy.specs.declared.fault.CopyFault.TheVariants.{Fault, NoEnd, NoMemory}
use Rattle.sp_copy.specs.declared.part.Part.{Part}
use Rattle.sp_copy.proofs.Pieces.{gathered_fits}
use Rattle.kern_model.specs.Needs.{FitsIns, IsFaultOf}
use Rattle.kern_model.specs.declared.operation.Ins.{Ins}
use Rattle.kern_model.specs.declared.operation.Op.{Op}
use Rattle.kern_model.specs.declared.operation.Op.TheVariants as op
use Rattle.link_model.specs.Direct.{ins_of}
use Rattle.link_model.proofs.Copies.{CanFail, errno_of, fault_is, read_fails}
use Rattle.world_model.specs.Host.{read_for}

-- the fault of a need is one that the gathering can end in
first_fault : (need : Need) (needs : List Need) (why : CopyFault) → CanFail need why → IsFaultOf (need ∷ needs) (errno_of why)
first_fault need needs Fault can = refl
first_fault need needs NoMemory can = refl
first_fault (Text addr limit) needs NoEnd can = refl
first_fault (Bytes addr bytes_len) needs NoEnd can = absurd can

-- what needs can end in, they can with one before them
later_fault : (need : Need) (needs : List Need) (why : CopyFault) → IsFaultOf needs (errno_of why) → IsFaultOf (need ∷ needs) (errno_of why)
later_fault need needs Fault h = refl
later_fault need needs NoMemory h = refl
later_fault (Text addr limit) needs NoEnd h = refl
later_fault (Bytes addr bytes_len) needs NoEnd h = h

-- the fault that a gathering ends in is one of its needs
pub gathered_fails : (parts : List Part) (needs : List Need) (why : CopyFault) → gathered parts needs ≡ Err why → IsFaultOf needs (errno_of why)
gathered_fails parts [] why h = absurd (cc)
gathered_fails parts (need ∷ needs) why h = by_first (read_of parts need) refl (gathered parts needs) refl (λ fault e. gathered_fails parts needs fault e) h
  where
    by_first : (first : Result (List ℕ) CopyFault) → read_of parts need ≡ first → (rest : Result (List (List ℕ)) CopyFault)
        → gathered parts needs ≡ rest
        → ((fault : CopyFault) → gathered parts needs ≡ Err fault → IsFaultOf needs (errno_of fault)) → with_first first rest ≡ Err why
        → IsFaultOf (need ∷ needs) (errno_of why)
    by_first (Err fault) e rest f later h =
        let same : fault ≡ why = cc in
        subst (λ (y : CopyFault). IsFaultOf (need ∷ needs) (errno_of y)) same (first_fault need needs fault (read_fails (root_part ∷ parts) need fault e))
    by_first (Ok piece) e (Err fault) f later h =
        let same : fault ≡ why = cc in
        subst (λ (y : CopyFault). IsFaultOf (need ∷ needs) (errno_of y)) same (later_fault need needs fault (later fault f))
    by_first (Ok piece) e (Ok pieces) f later h = absurd (cc)

ins_fit : (parts : List Part) (needs : List Need) (operation : Op) (found : Result (List (List ℕ)) CopyFault) → gathered parts needs ≡ found
    → ((pieces : List (List ℕ)) → gathered parts needs ≡ Ok pieces → FitsIns operation (ins_of (Ok pieces)))
    → ((why : CopyFault) → IsFaultOf needs (errno_of why) → FitsIns operation (ins_of (Err why))) → FitsIns operation (ins_of found)
ins_fit parts needs operation (Ok pieces) e fine fails = fine pieces e
ins_fit parts needs operation (Err why) e fine fails = fails why (gathered_fails parts needs why e)

-- what an operation reads of its caller's memory fits it
pub read_fits_op : (operation : Op) (mem : List Part) → FitsIns operation (read_for operation mem)
read_fits_op (op.Sys call) mem =
    ins_fit mem (needs_of call) (op.Sys call) (gathered mem (needs_of call)) refl
    (λ pieces e. gathered_fits mem (needs_of call) pieces e)
    (λ why is. subst (λ (i : Ins). FitsIns (op.Sys call) i) (sym (fault_is why)) is)
read_fits_op op.Attach mem = tt
read_fits_op op.Fork mem = tt
read_fits_op op.Exec mem = tt
read_fits_op op.Exit mem = tt
