-- A frame as it is written: its front, and the field behind it.
use Rattle.std.proofs.Common.{◌≡◌, ℕ, List, [], ◌++◌, refl, sym, append_assoc}
use Rattle.std.specs.List.{flat_map}
use Rattle.std.proofs.lemmas.List.{append-nil}
use Rattle.sp_frames.specs.Fields.{le64}
use Rattle.sp_frames.specs.Grammar.{payload_of}
use Rattle.sp_frames.specs.Writing.{numbers_of, field_of}
use Rattle.sp_frames.specs.declared.frame.Body.{Body}
use Rattle.sp_frames.specs.declared.frame.Body.TheVariants.{Sys}

-- the numbers and the field are the payload
pub payload_is : (b : Body) → numbers_of b ++ field_of b ≡ payload_of b
payload_is (Sys num words) = append-nil (flat_map le64 words)
payload_is b = refl

-- bytes behind others, in two steps or one
pub joined_again : (xs ys zs : List ℕ) → (xs ++ ys) ++ zs ≡ xs ++ (ys ++ zs)
joined_again xs ys zs = append_assoc xs ys zs
