-- What it is for the lists of two works to have the same lengths. Definitions only.
use Rattle.std.specs.Prelude.{◌≡◌, length}
use Rattle.method.specs.Work.{Work}

-- the three lists of w have the lengths of w₀'s
pub record SameLengths (w₀ w : Work) : Type 0 where
  pub matrix : length w.matrix ≡ length w₀.matrix
  pub u : length w.u ≡ length w₀.u
  pub v : length w.v ≡ length w₀.v
