-- Relations between works that are given part by part: one of the two matrices, one of the two U and one of the two V;
-- and what is to be shown of each part. Definitions only.
use Rattle.std.specs.Prelude.{◌≡◌, List, ℕ, ◌+◌, ◌-◌, ◌<◌, ◌≤◌, Float}
use Rattle.std.specs.Float.{Format}
use Rattle.method.specs.Work.{Work, Shape, at}
use Rattle.method.specs.Rotation.{Rotation, rows_turned, columns_turned}
use Rattle.method.specs.Reflection.{Reflection, reflected_right}
use Rattle.method.specs.Bidiagonal.{column_reflection, row_reflection, column_matrix, row_matrix}

-- a relation between two lists
abbrev pub Between : Type 1
Between = List Float → List Float → Type 0

pub record Parts (M Q P : Between) (w w' : Work) : Type 0 where
  pub matrix : M w.matrix w'.matrix
  pub u : Q w.u w'.u
  pub v : P w.v w'.v

-- the two reflections do the same to a factor
pub record Same (r r' : Reflection) : Type 0 where
  pub vector : r.vector ≡ r'.vector
  pub tau : r.tau ≡ r'.tau

-- what is to be shown of the matrices
pub record MatrixKept (f : Format) (floor : Float) (rows cols stride stride' c : ℕ) (M : Between) : Type 0 where
  pub reads : (i j : ℕ) (a a' : List Float) → i < c → j < c → M a a' → at stride i j a ≡ at stride' i j a'
  pub column :
      (i j : ℕ) (a a' : List Float) → i < c → j < c → M a a' →
      M (column_matrix f floor rows cols stride i j a) (column_matrix f floor rows cols stride' i j a')
  pub column_by :
      (i j : ℕ) (a a' : List Float) → i < c → j < c → M a a' →
      Same (column_reflection f floor rows stride i j a) (column_reflection f floor rows stride' i j a')
  pub row :
      (i j : ℕ) (a a' : List Float) → i < c → j < c → M a a' →
      M (row_matrix f floor rows cols stride i j a) (row_matrix f floor rows cols stride' i j a')
  pub row_by :
      (i j : ℕ) (a a' : List Float) → i < c → j < c → M a a' →
      Same (row_reflection f floor cols stride i j a) (row_reflection f floor cols stride' i j a')
  pub turn_rows :
      (g : Rotation) (i j n : ℕ) (a a' : List Float) → i + 1 < c → j + n ≤ c → M a a' →
      M (rows_turned f g stride i j n a) (rows_turned f g stride' i j n a')
  pub turn_columns :
      (g : Rotation) (i j n : ℕ) (a a' : List Float) → i + 1 < c → j + n ≤ c → M a a' →
      M (columns_turned f g stride i j n a) (columns_turned f g stride' i j n a')

-- what is to be shown of the factors of n columns, of which `lines` and `lines'` rows are kept
pub record FactorKept (f : Format) (n lines lines' c : ℕ) (Q : Between) : Type 0 where
  pub reflect :
      (p : List Float) (tau : Float) (i : ℕ) (a a' : List Float) → i < c → Q a a' →
      Q (reflected_right f p tau n 0 i lines (n - i) a) (reflected_right f p tau n 0 i lines' (n - i) a')
  pub turn :
      (g : Rotation) (i : ℕ) (a a' : List Float) → i + 1 < c → Q a a' →
      Q (columns_turned f g n i 0 lines a) (columns_turned f g n i 0 lines' a')

abbrev pub shape : ℕ → ℕ → ℕ → ℕ → ℕ → Shape
shape rows cols stride urows vrows = record { rows = rows; cols = cols; stride = stride; urows = urows; vrows = vrows }

-- ---- the simplest parts: equal matrices of one stride, and factors of which nothing is asked

abbrev pub Equal : Between
Equal a a' = a ≡ a'

abbrev pub Any : Between
Any a a' = Unit {0}
