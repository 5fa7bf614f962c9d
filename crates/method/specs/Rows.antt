-- Each row of U and of V goes its own way (rule 9.5): what is said of the rows of two calls, and of one row.
-- Definitions only.
pub mod Zeros
pub mod Moved
pub mod Ordered
pub mod Cases
use Rattle.std.specs.Prelude.{◌≡◌, ◌⊎◌, true, List, [], ◌++◌, ℕ, ◌<◌, eqb, length, get_or, Float}
use Rattle.std.specs.Float.{nan, Format}
use Rattle.std.specs.Float.Ieee.{eq}
use Rattle.method.specs.Floats.{plus_zero, pick}
use Rattle.method.specs.Repeated.{repeated}
use Rattle.method.specs.Work.{Work, Shape, work}
use Rattle.method.specs.View.{row_of}
use Rattle.method.specs.Settings.{Settings}
use Rattle.method.specs.Outcome.{walked_from}
use Rattle.method.specs.Relation.Parts.{shape}

-- ---- the two factors

-- U is the left one, with a row for each station; V the right one, with a row for each pass
pub data Side : Type 0 where
  left right : Side

abbrev pub factor : Side → Work → List Float
factor left w = w.u
factor right w = w.v

-- how many rows it has, and how many entries each
abbrev pub size_of : Side → ℕ → ℕ → ℕ
size_of left rows cols = rows
size_of right rows cols = cols

-- row i of it
abbrev pub row_at : Side → ℕ → ℕ → ℕ → Work → List Float
row_at side rows cols i w = row_of (size_of side rows cols) i (factor side w)

-- ---- two calls

-- A call that began with the lists w₀ left w, another that began with w₀' left w'. The matrices are equal; and where
-- row i of the one U began as row j of the other, it ended as that one did, whatever the other rows and V were; the
-- same for V.
pub record OwnRows (rows cols : ℕ) (w₀ w₀' w w' : Work) : Type 0 where
  pub matrix : w.matrix ≡ w'.matrix
  pub row :
      (side : Side) (i j : ℕ) → i < size_of side rows cols → j < size_of side rows cols →
      row_at side rows cols i w₀ ≡ row_at side rows cols j w₀' →
      row_at side rows cols i w ≡ row_at side rows cols j w'

-- ---- one row alone

-- the table b, and one row r of one factor
abbrev pub with_row : Side → List Float → List Float → Work
with_row left b r = work b r []
with_row right b r = work b [] r

abbrev pub one_row : Side → ℕ → ℕ → Shape
one_row left rows cols = shape rows cols cols 1 0
one_row right rows cols = shape rows cols cols 0 1

-- what the run over the table b makes of the row r of one factor, with no other row kept
unfoldable pub row_alone : Format → Side → ℕ → ℕ → Settings → List Float → List Float → List Float
row_alone f side rows cols s b r =
    let e = walked_from f (one_row side rows cols) rows cols s (with_row side b r) in
    factor side e.held

-- ---- rows of zeros

-- a zero, of either sign, or NaN
abbrev pub ZeroOrNan : Float → Type 0
ZeroOrNan x = (eq x plus_zero ≡ true) ⊎ (x ≡ nan)

-- every entry is one
abbrev pub ZeroRow : List Float → Type 0
ZeroRow r = (k : ℕ) → k < length r → ZeroOrNan (get_or r k nan)

-- ---- rows in other places

-- the table of n rows whose row k is row q k of a
unfoldable pub rows_by : ℕ → (ℕ → ℕ) → List Float → List Float
rows_by n q a = repeated 0 n (λ k l. l ++ row_of n (q k) a) []

-- i and j exchanged
abbrev pub exchange : ℕ → ℕ → ℕ → ℕ
exchange i j k = pick (eqb k i) j (pick (eqb k j) i k)

-- rows i and j of one factor exchanged, and all else as it is
abbrev pub exchanged : Side → ℕ → ℕ → ℕ → ℕ → Work → Work
exchanged left rows cols i j w = work w.matrix (rows_by rows (exchange i j) w.u) w.v
exchanged right rows cols i j w = work w.matrix w.u (rows_by cols (exchange i j) w.v)
