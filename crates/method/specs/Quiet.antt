-- A quiet corner: every coupling inside the live corner of range r is +0 or -0. The couplings inside it are r - 1: that
-- of each 2 x 2 whose top left is entry (k, k), k + 1 below r, so right of the diagonal in the upper form and below it
-- in the lower. Definitions only.
pub mod Zeros
pub mod Calm
use Rattle.std.specs.Prelude.{◌≡◌, Bool, true, ◌&&◌, List, ℕ, ◌+◌, ◌-◌, ◌<◌, Float}
use Rattle.std.specs.Float.{Format}
use Rattle.std.specs.Float.Ieee.{lt}
use Rattle.method.specs.Floats.{plus_zero, is_zero}
use Rattle.method.specs.Repeated.{repeated}
use Rattle.method.specs.Chase.{coupling, drop_bound}

-- as a test: one coupling after another
unfoldable pub quiet_corner : Bool → ℕ → ℕ → List Float → Bool
quiet_corner upper stride r a = repeated 0 (r - 1) (λ k quiet. quiet && is_zero (coupling upper stride k a)) true

-- as a fact
abbrev pub QuietCorner : Bool → ℕ → ℕ → List Float → Type 0
QuietCorner upper stride r a = (k : ℕ) → k + 1 < r → is_zero (coupling upper stride k a) ≡ true

-- the bounds below which the couplings inside the corner are negligible: each is above zero
abbrev pub BoundsAbove : Format → Float → Float → ℕ → ℕ → List Float → Type 0
BoundsAbove f tolerance absolute stride r a =
    (k : ℕ) → k + 1 < r → lt plus_zero (drop_bound f tolerance absolute stride k a) ≡ true
