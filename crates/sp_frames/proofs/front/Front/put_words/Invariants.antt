use Rattle.std.proofs.Common.{◌≡◌, ◌+◌, ◌*◌, ◌++◌, length, take}
use Rattle.std.specs.List.{flat_map}
use Rattle.sp_frames.specs.Fields.{le64}
use Rattle.sp_frames.proofs.front.Front.put_words.Given as goal

abbrev pub invariant-loop-word : goal.invariant-loop-word
invariant-loop-word l = (l.self ≡ l.fn.self ++ flat_map le64 (take l.word-index l.words)) × (length l.self ≡ length l.fn.self + 8 * l.word-index)
