-- What is held after a put and a take.
use Rattle.std.proofs.Common.{◌≡◌, ℕ, ◌+◌, ◌-◌, ◌≤◌, List, ◌++◌, length, drop, refl, arith, length-append, length-drop}
use Rattle.std.proofs.lemmas.List.{drop-append-le}
use Rattle.std.proofs.lemmas.Grind.{common_steps}
use Rattle.kern_local.specs.Rings.{IsHeld}

module _ {X : Type 0} where
  pub held_put : (all items more : List X) → IsHeld all items → IsHeld (all ++ more) (items ++ more)
  held_put all items more h =
      let a : length (all ++ more) - length (items ++ more) ≡ length all - length items = omega (arith, length-append all more, length-append items more, h.fewer) in
      record {
        fewer = omega (arith, length-append all more, length-append items more, h.fewer);
        last = rw (a, drop-append-le (length all - length items) all more (omega arith), h.last) refl;
      }

  pub held_take : (all items : List X) (n : ℕ) → n ≤ length items → IsHeld all items → IsHeld all (drop n items)
  held_take all items n le h =
      let l : length (drop n items) ≡ length items - n = length-drop n items in
      let a : length all - length (drop n items) ≡ (length all - length items) + n = omega (arith, h.fewer) in
      record {
        fewer = omega (arith, h.fewer);
        last = rw a (grind (arith, common_steps, h.last));
      }

pub ruleset track_rules = (held_put, held_take)
