-- The search for readings that are infinite or NaN: what is to be found of a table, whatever its stride. The place is
-- that of a bad reading, every reading before it, row by row, is good, and the count is the number of bad ones.
-- Definitions only.
use Rattle.std.specs.Prelude.{◌≡◌, ◌⊎◌, true, false, not, List, ℕ, ◌+◌, ◌*◌, ◌≤◌, ◌<◌, Float}
use Rattle.std.specs.Float.Ieee.Scale.{finite}
use Rattle.method.specs.Repeated.{repeated}
use Rattle.method.specs.Work.{at}
use Rattle.method.specs.Order.{how_many}
use Rattle.method.specs.Checks.{Place}

-- ---- what is said of a table

-- reading (i, j) comes before reading (k, l): in an earlier row, or in the same one and an earlier column
abbrev pub Before : ℕ → ℕ → ℕ → ℕ → Type 0
Before i j k l = (i < k) ⊎ ((i ≡ k) × (j < l))

module _ (stride rows cols : ℕ) (b : List Float) where
  -- the readings before (k, l) are finite
  abbrev pub GoodBefore : ℕ → ℕ → Type 0
  GoodBefore k l = (i j : ℕ) → i < rows → j < cols → Before i j k l → finite (at stride i j b) ≡ true

  -- all readings are
  abbrev pub AllGood : Type 0
  AllGood = (i j : ℕ) → i < rows → j < cols → finite (at stride i j b) ≡ true

  -- reading (i, j) is infinite or NaN
  pub record BadAt (i j : ℕ) : Type 0 where
    pub row_in : i < rows
    pub column_in : j < cols
    pub bad : finite (at stride i j b) ≡ false

  -- one of the readings is
  pub record BadReading : Type 0 where
    pub row : ℕ
    pub column : ℕ
    pub there : BadAt row column

  -- how many of row i are, and how many of all rows
  abbrev pub bad_of_row : ℕ → ℕ
  bad_of_row i = how_many cols (λ j. not (finite (at stride i j b)))

  unfoldable pub bad_of_all : ℕ
  bad_of_all = repeated 0 rows (λ i n. n + bad_of_row i) 0

  -- what a place tells: a bad reading's row and column, before which all are good, and the number of bad ones
  pub record FirstBad (p : Place) : Type 0 where
    pub there : BadAt p.row p.column
    pub before : GoodBefore p.row p.column
    pub count : p.bad ≡ bad_of_all
    pub some : 1 ≤ p.bad

-- ---- every reading of a packed table stands in a row and a column

pub record Stands (rows cols k : ℕ) : Type 0 where
  pub row : ℕ
  pub column : ℕ
  pub row_in : row < rows
  pub column_in : column < cols
  pub here : row * cols + column ≡ k
