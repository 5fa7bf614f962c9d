-- What it is for a walk to have a pass to do. Definitions only.
use Prim.Native.Nat.{ℕ, ◌<◌}
use Rattle.method.specs.Walk.{Walk}

-- ---- whether there is a pass to do

-- what is known of a record with a pass to do
pub record Going (limit : ℕ) (w : Walk) : Type 0 where
  pub wide : 1 < w.tally.range
  pub below : w.counter < limit
