-- What a call checks before it touches a number: the table of rule 2.1 in its order, and the first of them that the
-- input fails, with the place that a refusal carries (rule 2.3). Definitions only.
pub mod Tests
pub mod First
pub mod Readings
pub mod Table
use Rattle.std.specs.Prelude.{Bool, true, false, not, ◌&&◌, ◌||◌, List, [], ◌∷◌, ◌++◌, ℕ, ◌+◌, ◌*◌, ltb, eqb, length, Float}
use Rattle.std.specs.Float.Ieee.{lt}
use Rattle.std.specs.Float.Ieee.Scale.{finite}
use Rattle.method.specs.Floats.{pick, plus_zero}
use Rattle.method.specs.Repeated.{repeated}
use Rattle.method.specs.Work.{Work, at}
use Rattle.method.specs.Settings.{Settings, most_size, most_limit, most_credit}

-- ---- bad readings: those that are infinite or NaN

-- the station (row) and the pass (column) of the first bad reading, from 0, and how many bad ones there are in all
pub record Place : Type 0 where
  pub row : ℕ
  pub column : ℕ
  pub bad : ℕ

abbrev pub place_of : ℕ → ℕ → ℕ → Place
place_of i j n = record { row = i; column = j; bad = n }

-- no reading is bad
abbrev pub nowhere : Place
nowhere = place_of 0 0 0

-- one bad reading more, at row i and column j: the first says where it is, and each is counted
unfoldable pub counted : ℕ → ℕ → Place → Place
counted i j p = pick (eqb p.bad 0) (place_of i j 1) (place_of p.row p.column (p.bad + 1))

-- reading (i, j) is x
unfoldable pub looked : ℕ → ℕ → Float → Place → Place
looked i j x p =
    elim (finite x) [
      | true ↦ p
      | false ↦ counted i j p
    ]

-- the readings of row i, one after the other
abbrev pub row_looked : ℕ → ℕ → List Float → ℕ → Place → Place
row_looked stride cols b i p = repeated 0 cols (λ j. looked i j (at stride i j b)) p

-- the search: row after row, to the end
unfoldable pub bad_readings : ℕ → ℕ → ℕ → List Float → Place
bad_readings stride rows cols b = repeated 0 rows (row_looked stride cols b) nowhere

-- ---- checks

-- a check that the input may fail: its number, whether it fails, and the place that the refusal then carries
pub record Check : Type 0 where
  pub number : ℕ
  pub fails : Bool
  pub place : Place

-- a check whose refusal carries no place
abbrev pub check : ℕ → Bool → Check
check n t = record { number = n; fails = t; place = nowhere }

abbrev pub placed : ℕ → Bool → Place → Check
placed n t p = record { number = n; fails = t; place = p }

-- the number of a refusal, and the place that it carries
pub record Refusal : Type 0 where
  pub number : ℕ
  pub place : Place

abbrev pub refusal : ℕ → Place → Refusal
refusal n p = record { number = n; place = p }

-- nothing is refused
abbrev pub not_refused : Refusal
not_refused = refusal 0 nowhere

-- the first of the checks that fails
unfoldable pub first_of : List Check → Refusal
first_of [] = not_refused
first_of (c ∷ cs) =
    elim c.fails [
      | true ↦ refusal c.number c.place
      | false ↦ first_of cs
    ]

-- a tolerance or an absolute bound: finite and not below zero, so -0 is allowed
abbrev pub bound_fit : Float → Bool
bound_fit x = finite x && not (lt x plus_zero)

-- a floor: finite and above zero
abbrev pub floor_fit : Float → Bool
floor_fit x = finite x && lt plus_zero x

-- ---- the table of numbers, segment by segment

abbrev pub size_checks : ℕ → ℕ → List Check
size_checks rows cols =
    check 1 (eqb rows 0 || eqb cols 0)
    ∷ check 2 (ltb most_size rows || ltb most_size cols)
    ∷ []

-- the plain call keeps no factors, and has no 4 and 5
abbrev pub length_checks : Bool → ℕ → ℕ → Work → List Check
length_checks kept rows cols w =
    check 3 (not (eqb (length w.matrix) (rows * cols)))
    ∷ check 4 (kept && not (eqb (length w.u) (rows * rows)))
    ∷ check 5 (kept && not (eqb (length w.v) (cols * cols)))
    ∷ []

-- both, one after the other
abbrev pub table_checks : Bool → ℕ → ℕ → Work → List Check
table_checks kept rows cols w = size_checks rows cols ++ length_checks kept rows cols w

abbrev pub setting_checks : Settings → List Check
setting_checks s =
    check 6 (ltb most_limit s.limit || ltb most_credit s.credit)
    ∷ check 7 (not (bound_fit s.tolerance && bound_fit s.absolute && floor_fit s.floor))
    ∷ []

-- of a packed table: 8, with the place, where a reading is bad
abbrev pub reading_checks : ℕ → ℕ → List Float → List Check
reading_checks rows cols b =
    let p = bad_readings cols rows cols b in
    placed 8 (ltb 0 p.bad) p ∷ []

abbrev pub checks : Bool → ℕ → ℕ → Settings → Work → List Check
checks kept rows cols s w =
    table_checks kept rows cols w ++ setting_checks s ++ reading_checks rows cols w.matrix

abbrev pub refusal_of : Bool → ℕ → ℕ → Settings → Work → Refusal
refusal_of kept rows cols s w = first_of (checks kept rows cols s w)
