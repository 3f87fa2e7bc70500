use Rattle.std.proofs.Common.{◌≡◌, ◌++◌, length, map, drop}
use Rattle.std.specs.Prelude.{filter, nat_lt}
use Rattle.kern_model.proofs.path_text.copies.Given as goal

abbrev pub invariant-loop-part : goal.invariant-loop-part
invariant-loop-part l = l.copies ++ filter (λ component. nat_lt 0 (length component)) (map (λ x. x.now) (drop l.part-index l.parts)) ≡ filter (λ component. nat_lt 0 (length component)) (map (λ x. x.now) l.parts)
