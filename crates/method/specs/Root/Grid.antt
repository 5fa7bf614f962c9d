-- The nearest number to a root, on plain numbers. Definitions only.
use Rattle.std.specs.Prelude.{ℕ, ◌+◌, ◌-◌, ◌*◌, ◌^◌, ◌≤◌, ◌<◌}

-- ---- what `rooted` rounds to

-- The root of n is between (q - 1/2) * 2 ^ k and (q + 1/2) * 2 ^ k, both left out, where q has p digits, or is 2 ^ p.
-- And it is 2 ^ (p - 1) * 2 ^ k at least.
pub record Rounded (p k n q : ℕ) : Type 0 where
  pub from : 2 ^ (p - 1) * 2 ^ k * (2 ^ (p - 1) * 2 ^ k) ≤ n
  pub least : 2 ^ (p - 1) ≤ q
  pub most : q ≤ 2 ^ p
  pub below : (z : ℕ) → z < 2 * q → z * 2 ^ k * (z * 2 ^ k) < 4 * n
  pub above : 4 * n < (2 * q + 1) * 2 ^ k * ((2 * q + 1) * 2 ^ k)
