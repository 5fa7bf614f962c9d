-- The table of rule 2.1: what each number means, and what an acceptance tells. Definitions only.
use Rattle.std.specs.Prelude.{◌≡◌, ◌⊎◌, Bool, true, false, List, [], ◌∷◌, ◌++◌, ℕ, ◌*◌, ◌≤◌, ◌<◌, length, Float}
use Rattle.method.specs.Work.{Work}
use Rattle.method.specs.Settings.{Settings, most_size, most_limit, most_credit}
use Rattle.method.specs.Checks.{bound_fit}
use Rattle.method.specs.Checks.{floor_fit}
use Rattle.method.specs.Checks.First.{Meaning, means}
use Rattle.method.specs.Checks.First.{None}
use Rattle.method.specs.Checks.Readings.{BadReading}

-- ---- the conditions

-- 1: rows or columns is 0
abbrev pub NoSize : ℕ → ℕ → Type 0
NoSize rows cols = (rows ≡ 0) ⊎ (cols ≡ 0)

-- 2: rows or columns above 48
abbrev pub TooLarge : ℕ → ℕ → Type 0
TooLarge rows cols = (most_size < rows) ⊎ (most_size < cols)

-- 3: the matrix's length is not rows x columns
abbrev pub WrongMatrix : ℕ → ℕ → Work → Type 0
WrongMatrix rows cols w = ¬ (length w.matrix ≡ rows * cols)

-- 4: the factors are kept, and U's length is not rows x rows
abbrev pub WrongU : Bool → ℕ → Work → Type 0
WrongU kept rows w = (kept ≡ true) × (¬ (length w.u ≡ rows * rows))

-- 5: the factors are kept, and V's length is not columns x columns
abbrev pub WrongV : Bool → ℕ → Work → Type 0
WrongV kept cols w = (kept ≡ true) × (¬ (length w.v ≡ cols * cols))

-- 6: limit or credit above its maximum
abbrev pub OverLimit : Settings → Type 0
OverLimit s = (most_limit < s.limit) ⊎ (most_credit < s.credit)

-- 7: tolerance, absolute or floor not allowed
abbrev pub UnfitBounds : Settings → Type 0
UnfitBounds s = (bound_fit s.tolerance ≡ false) ⊎ (bound_fit s.absolute ≡ false) ⊎ (floor_fit s.floor ≡ false)

-- ---- the table: each number with its condition, in the order in which they are looked at

abbrev pub size_meanings : ℕ → ℕ → List Meaning
size_meanings rows cols =
    means 1 (NoSize rows cols)
    ∷ means 2 (TooLarge rows cols)
    ∷ []

abbrev pub length_meanings : Bool → ℕ → ℕ → Work → List Meaning
length_meanings kept rows cols w =
    means 3 (WrongMatrix rows cols w)
    ∷ means 4 (WrongU kept rows w)
    ∷ means 5 (WrongV kept cols w)
    ∷ []

abbrev pub setting_meanings : Settings → List Meaning
setting_meanings s =
    means 6 (OverLimit s)
    ∷ means 7 (UnfitBounds s)
    ∷ []

abbrev pub reading_meanings : ℕ → ℕ → List Float → List Meaning
reading_meanings rows cols b = means 8 (BadReading cols rows cols b) ∷ []

abbrev pub meanings : Bool → ℕ → ℕ → Settings → Work → List Meaning
meanings kept rows cols s w =
    size_meanings rows cols
    ++ length_meanings kept rows cols w
    ++ setting_meanings s
    ++ reading_meanings rows cols w.matrix

-- none of the conditions holds, segment by segment
pub record Clear (kept : Bool) (rows cols : ℕ) (s : Settings) (w : Work) : Type 0 where
  pub sizes : None (size_meanings rows cols)
  pub lengths : None (length_meanings kept rows cols w)
  pub settings : None (setting_meanings s)
  pub readings : None (reading_meanings rows cols w.matrix)

-- ---- what an acceptance tells

-- sizes, lengths and counts
pub record Fit (kept : Bool) (rows cols : ℕ) (s : Settings) (w : Work) : Type 0 where
  pub rows_some : 1 ≤ rows
  pub cols_some : 1 ≤ cols
  pub rows_few : rows ≤ most_size
  pub cols_few : cols ≤ most_size
  pub matrix_length : length w.matrix ≡ rows * cols
  pub u_length : kept ≡ true → length w.u ≡ rows * rows
  pub v_length : kept ≡ true → length w.v ≡ cols * cols
  pub limit_low : s.limit ≤ most_limit
  pub credit_low : s.credit ≤ most_credit
