-- A first pass, the passes that it lent to jobs, and those that came back.
use Rattle.std.specs.Prelude.{◌≡◌, ℕ, ◌+◌, List, [], ◌∷◌, length, sum_by, Some, ⊤}
use Rattle.atomic_table.specs.Seated.{TableId}
use Rattle.turn_lock.specs.declared.view.Player.{Player}
use Rattle.turn_lock.specs.declared.view.Known.{Known}
use Rattle.turn_lock.specs.Passes.{PassState, player, counted, child, joining}
use Rattle.turn_bench.specs.declared.counter.Counter.{Counter}
use Rattle.turn_bench.specs.declared.players.Played.{Played}
use Rattle.turn_bench.specs.Counts.{Plays}

-- a pass of a counter's lock
abbrev pub CounterPass : Type 0
CounterPass = PassState Counter ⊤ ℕ

-- after one pass was lent to a job that plays so many calls
pub record Lends (pass : CounterPass) (more : ℕ) (later : CounterPass) (job : Played) : Type 0 where
  pub parent : later ≡ record { turn = pass.turn; known = counted pass.known }
  pub lent : job.was.value ≡ record { turn = pass.turn; known = child pass.known }
  pub calls : job.calls ≡ more

-- after the pass of a job came back and was joined
pub record TakesIn (pass : CounterPass) (job : Played) (later : CounterPass) : Type 0 where
  pub back : Known Counter ⊤ ℕ
  pub plays : Plays job.was.value.known job.calls back
  pub joined : later ≡ record { turn = pass.turn; known = joining pass.known back }

-- the players that came back have the names 0, 1 and so on, the last one first, and split nothing off
abbrev pub AreBack : List (Player ⊤ ℕ) → Type 0
AreBack [] = ⊤
AreBack (c ∷ cs) = (c.name ≡ length cs ∷ []) × (c.splits ≡ 0) × AreBack cs

-- the jobs that run have passes with the next names, which split nothing off and made no call before
abbrev pub AreLent : TableId → ℕ → List Played → Type 0
AreLent turn name [] = ⊤
AreLent turn name (job ∷ jobs) = (job.was.value.turn ≡ turn) × (job.was.value.known.own ≡ player (name ∷ []) 0 [])
    × (job.was.value.known.joined ≡ []) × AreLent turn (name + 1) jobs

-- the first pass of a counter's lock, the jobs that it lent passes to, and no others
pub record IsCrew (pass : CounterPass) (jobs : List Played) : Type 0 where
  pub name : pass.known.own.name ≡ []
  pub splits : pass.known.own.splits ≡ length pass.known.joined + length jobs
  pub back : AreBack pass.known.joined
  pub lent : AreLent pass.turn (length pass.known.joined) jobs
  pub opening : pass.known.opening ≡ Some (record { total = 0 })

-- how many calls were made by the pass and those that came back, or will be made by the jobs
abbrev pub planned : CounterPass → List Played → ℕ
planned pass jobs = length pass.known.own.calls + sum_by (λ (c : Player ⊤ ℕ). length c.calls) pass.known.joined + sum_by (λ (job : Played). job.calls) jobs
