-- What a loop with a budget is proved by: room in the record, how far some passes move it, and that so many were made.
-- Definitions only.
use Prim.Native.Nat.{ℕ, ◌+◌, ◌*◌, ◌≤◌, ◌<◌, ◌^◌}
use Rattle.std.specs.Prelude.{◌≡◌}
use Rattle.method.specs.Walk.{Tally, Walk, Rules, State, run}

-- the sums of n passes, each of m rotations at most, fit the machine's numbers
pub record TallyRoom (n m : ℕ) (t : Tally) : Type 0 where
  pub passes : t.passes + n < 2 ^ 32
  pub sweeps : t.sweeps + n < 2 ^ 32
  pub drops : t.drops + n < 2 ^ 32
  pub rotations : t.rotations + n * m < 2 ^ 32

pub record Room (n m : ℕ) (w : Walk) : Type 0 where
  pub tally : TallyRoom n m w.tally
  pub counter : w.counter + n < 2 ^ 32

-- ---- a loop with a budget, from any state: k passes were made, or the walk was at its end before

-- how far k passes can move a record, each of m rotations at most
pub record Moved (k m : ℕ) (w₀ w : Walk) : Type 0 where
  pub range : w.tally.range ≤ w₀.tally.range
  pub counter : w.counter ≤ w₀.counter + k
  pub passes : w.tally.passes ≤ w₀.tally.passes + k
  pub sweeps : w.tally.sweeps ≤ w₀.tally.sweeps + k
  pub drops : w.tally.drops ≤ w₀.tally.drops + k
  pub rotations : w.tally.rotations ≤ w₀.tally.rotations + k * m

pub record Made {D : Type 0} (rules : Rules D) (limit credit : ℕ) (s₀ : State D) (k : ℕ) (s : State D) : Type 0 where
  pub is : s ≡ run rules limit credit k s₀
