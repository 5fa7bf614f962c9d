-- `pass`, applied to a state as often as is said, and what it is for a walk to have made the passes that it counts.
-- Definitions only.
use Prim.Native.Nat.{ℕ, zero, suc, ◌<◌}
use Rattle.std.specs.Prelude.{◌≡◌}
use Rattle.std.proofs.Math.Bool.{true, false}
use Rattle.method.specs.Walk.{Rules, State, going, pass}

-- n passes, one after another
unfoldable pub applied : {D : Type 0} → Rules D → ℕ → ℕ → State D → State D
applied rules credit zero s = s
applied rules credit (suc n) s = pass rules credit (applied rules credit n s)

-- e is the end of a walk from s
pub record Applied {D : Type 0} (rules : Rules D) (limit credit : ℕ) (s e : State D) : Type 0 where
  -- it counts as many passes as were made
  pub counted : e ≡ applied rules credit e.walk.tally.passes s
  -- before each of them there was one to do
  pub each : (k : ℕ) → k < e.walk.tally.passes → going limit (applied rules credit k s).walk ≡ true
  -- and there is none left
  pub ended : going limit e.walk ≡ false
