-- What it is for clearing a column, clearing a row and turning two lines to keep a relation between two works. The two
-- works may have different strides and keep different rows of their factors. Definitions only.
pub mod Parts
pub mod Alone
use Rattle.std.specs.Prelude.{◌≡◌, Bool, ℕ, ◌+◌, ◌<◌, ◌≤◌, Float}
use Rattle.std.specs.Float.{Format}
use Rattle.method.specs.Work.{Work, Shape, at}
use Rattle.method.specs.Rotation.{Rotation}
use Rattle.method.specs.Bidiagonal.{column_zeroed, row_zeroed}
use Rattle.method.specs.Chase.{turned}

-- The relation R between works of the shapes z and z' is kept by the three operations, at every place in the first c
-- rows and columns that a run uses, and related works have the same entries there.
pub record Kept (f : Format) (floor : Float) (z z' : Shape) (c : ℕ) (R : Work → Work → Type 0) : Type 0 where
  pub rows : z.rows ≡ z'.rows
  pub cols : z.cols ≡ z'.cols
  pub reads :
      (i j : ℕ) (w w' : Work) → i < c → j < c → R w w' →
      at z.stride i j w.matrix ≡ at z'.stride i j w'.matrix
  pub column :
      (i j : ℕ) (w w' : Work) → i < c → j < c → R w w' →
      R (column_zeroed f floor z i j w) (column_zeroed f floor z' i j w')
  pub row :
      (i j : ℕ) (w w' : Work) → i < c → j < c → R w w' → R (row_zeroed f floor z i j w) (row_zeroed f floor z' i j w')
  pub turn :
      (g : Rotation) (by_row : Bool) (i j n : ℕ) (w w' : Work) →
      i + 1 < c →
      j + n ≤ c →
      R w w' →
      R (turned f z g by_row i j n w) (turned f z' g by_row i j n w')
