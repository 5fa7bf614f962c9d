-- What it is for the three operations to keep a property of one work, and its relation of two equal works. Definitions
-- only.
use Rattle.std.specs.Prelude.{◌≡◌, Bool, ℕ, ◌+◌, ◌<◌, ◌≤◌, Float}
use Rattle.std.specs.Float.{Format}
use Rattle.method.specs.Work.{Work, Shape}
use Rattle.method.specs.Rotation.{Rotation}
use Rattle.method.specs.Bidiagonal.{column_zeroed, row_zeroed}
use Rattle.method.specs.Chase.{turned}

-- the property P is kept by the three operations, at every place that a run over a diagonal of c entries uses
pub record Holds (f : Format) (floor : Float) (z : Shape) (c : ℕ) (P : Work → Type 0) : Type 0 where
  pub column : (i j : ℕ) (w : Work) → i < c → j < c → P w → P (column_zeroed f floor z i j w)
  pub row : (i j : ℕ) (w : Work) → i < c → j < c → P w → P (row_zeroed f floor z i j w)
  pub turn :
      (g : Rotation) (by_row : Bool) (i j n : ℕ) (w : Work) → i + 1 < c → j + n ≤ c → P w →
      P (turned f z g by_row i j n w)

pub record With (P : Work → Type 0) (w w' : Work) : Type 0 where
  pub same : w ≡ w'
  pub holds : P w
