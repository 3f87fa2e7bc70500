-- What a call does to the counter, and what several calls do to a pass.
use Rattle.std.specs.Prelude.{◌≡◌, ℕ, ◌+◌, ◌%◌, ◌^◌, length}
use Rattle.turn_lock.specs.declared.view.Known.{Known}

-- a call counts one, and answers the new total
abbrev pub Ticks : ℕ → ℕ → ℕ → Type 0
Ticks before reply after = (after ≡ (before + 1) % 2 ^ 64) × (reply ≡ after)

-- the pass later on, which made so many calls and split nothing off
pub record Plays {O E R : Type 0} (k : Known O E R) (more : ℕ) (later : Known O E R) : Type 0 where
  pub name : later.own.name ≡ k.own.name
  pub splits : later.own.splits ≡ k.own.splits
  pub calls : length later.own.calls ≡ length k.own.calls + more
  pub joined : later.joined ≡ k.joined
  pub opening : later.opening ≡ k.opening
