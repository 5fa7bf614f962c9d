-- The bidiagonal form (document 001 and its twins in 002): columns are cleared below their heads and rows past theirs,
-- by reflections that U and V take too. Definitions only.
use Rattle.std.specs.Prelude.{Bool, true, false, List, ℕ, ◌+◌, ◌-◌, ◌*◌, eqb, get_or, set, Float}
use Rattle.std.specs.Float.{nan, Format}
use Rattle.std.specs.Float.Ieee.{eq}
use Rattle.method.specs.Floats.{plus_zero}
use Rattle.method.specs.Repeated.{repeated}
use Rattle.method.specs.Work.{Work, Shape}
use Rattle.method.specs.Reflection.{Reflection, line_copied, line_cleared, reflection_of, reflected_right}
use Rattle.method.specs.Reflection.{reflected_left}

-- the reflection of column j from row i on, in a table of `rows` rows: a line whose entries stand `stride` apart
abbrev pub column_reflection : Format → Float → ℕ → ℕ → ℕ → ℕ → List Float → Reflection
column_reflection f floor rows stride i j a =
    let column = line_copied (i * stride + j) stride (rows - i) a in
    reflection_of f floor 0 (rows - i) column

-- the reflection of row i from column j on, in a table of `cols` columns
abbrev pub row_reflection : Format → Float → ℕ → ℕ → ℕ → ℕ → List Float → Reflection
row_reflection f floor cols stride i j a = reflection_of f floor (i * stride + j) (cols - j) a

-- column j set to +0 from row i on, but for the head that its reflection leaves
abbrev pub headed : Reflection → ℕ → ℕ → ℕ → ℕ → List Float → List Float
headed r rows stride i j a =
    let head = i * stride + j in
    set (line_cleared head stride (rows - i) a) head (get_or r.entries 0 nan)

-- the table with column j cleared under row i, also where its entries do not reach the floor; where tau is not 0, the
-- columns right of it take the reflection
unfoldable pub column_matrix : Format → Float → ℕ → ℕ → ℕ → ℕ → ℕ → List Float → List Float
column_matrix f floor rows cols stride i j a =
    let r = column_reflection f floor rows stride i j a in
    let cleared = headed r rows stride i j a in
    elim (eq r.tau plus_zero) [
      | true ↦ cleared
      | false ↦ reflected_left f r.vector r.tau stride i (j + 1) (rows - i) (cols - (j + 1)) cleared
    ]

-- the table with row i cleared right of column j, or left as found where tau is 0; where it is not, the rows below take
-- the reflection
unfoldable pub row_matrix : Format → Float → ℕ → ℕ → ℕ → ℕ → ℕ → List Float → List Float
row_matrix f floor rows cols stride i j a =
    let r = row_reflection f floor cols stride i j a in
    elim (eq r.tau plus_zero) [
      | true ↦ r.entries
      | false ↦ reflected_right f r.vector r.tau stride (i + 1) j (rows - (i + 1)) (cols - j) r.entries
    ]

-- a factor of size n, of which `lines` rows are kept: its columns from i on take the reflection, where tau is not 0
unfoldable pub factor_reflected : Format → Reflection → ℕ → ℕ → ℕ → List Float → List Float
factor_reflected f r n lines i a =
    elim (eq r.tau plus_zero) [
      | true ↦ a
      | false ↦ reflected_right f r.vector r.tau n 0 i lines (n - i) a
    ]

-- column j cleared below row i, and U's columns from i on reflected
unfoldable pub column_zeroed : Format → Float → Shape → ℕ → ℕ → Work → Work
column_zeroed f floor z i j w =
    let r = column_reflection f floor z.rows z.stride i j w.matrix in
    record {
      matrix = column_matrix f floor z.rows z.cols z.stride i j w.matrix;
      u = factor_reflected f r z.rows z.urows i w.u;
      v = w.v;
    }

-- row i cleared right of column j, and V's columns from j on reflected
unfoldable pub row_zeroed : Format → Float → Shape → ℕ → ℕ → Work → Work
row_zeroed f floor z i j w =
    let r = row_reflection f floor z.cols z.stride i j w.matrix in
    record {
      matrix = row_matrix f floor z.rows z.cols z.stride i j w.matrix;
      u = w.u;
      v = factor_reflected f r z.cols z.vrows j w.v;
    }

-- the upper form clears column k and then row k past the diagonal's right neighbour; the lower form row k and then
-- column k past the one below
abbrev pub first_zeroed : Format → Float → Shape → Bool → ℕ → Work → Work
first_zeroed f floor z true k w = column_zeroed f floor z k k w
first_zeroed f floor z false k w = row_zeroed f floor z k k w

abbrev pub then_zeroed : Format → Float → Shape → Bool → ℕ → Work → Work
then_zeroed f floor z true k w = row_zeroed f floor z k (k + 1) w
then_zeroed f floor z false k w = column_zeroed f floor z (k + 1) k w

-- the first n places of the diagonal, one after another
unfoldable pub places_zeroed : Format → Float → Shape → Bool → ℕ → Work → Work
places_zeroed f floor z upper n w =
    repeated 0 n (λ k s. then_zeroed f floor z upper k (first_zeroed f floor z upper k s)) w

-- All places but the last; then the last, where the table is not square. `c` is the smaller of rows and columns.
unfoldable pub bidiagonal : Format → Float → Shape → Bool → ℕ → Work → Work
bidiagonal f floor z upper c w =
    elim (eqb z.rows z.cols) [
      | true ↦ places_zeroed f floor z upper (c - 1) w
      | false ↦ first_zeroed f floor z upper (c - 1) (places_zeroed f floor z upper (c - 1) w)
    ]
