-- When the view of a row is fit. Definitions only.
use Rattle.std.specs.Prelude.{◌≡◌, ℕ, ◌*◌, ◌≤◌, ◌<◌, eqb, length, Float}
use mathlib.Core.List.{List}
use Rattle.method.specs.Floats.{pick}
use Rattle.method.specs.Settings.{most_size}

-- sizes from 1 to 48, both lengths right, the side 0 or 1, and the row below the side's size
pub record ViewFit (rows cols : ℕ) (u v : List Float) (side k : ℕ) : Type 0 where
  pub rows_some : 1 ≤ rows
  pub cols_some : 1 ≤ cols
  pub rows_few : rows ≤ most_size
  pub cols_few : cols ≤ most_size
  pub u_length : length u ≡ rows * rows
  pub v_length : length v ≡ cols * cols
  pub side_known : side ≤ 1
  pub row_below_size : k < pick (eqb side 0) rows cols
