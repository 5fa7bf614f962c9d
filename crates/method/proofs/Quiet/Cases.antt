-- Small tables that are quiet, and small ones that only just are not, computed: first corners by themselves, then whole
-- runs, whose matrices are the original's. Assumes nothing.
use Rattle.std.specs.Prelude.{◌≡◌, refl, Bool, true, false, List, [], ◌∷◌, ◌++◌, ℕ}
use Rattle.std.specs.Float.{binary64}
use Rattle.std.specs.Float.Ieee.{neg, add, sub, mul, div, lt, eq, is_nan, of_bits, to_bits}
use Rattle.method.specs.Floats.{magnitude, sign_of, smaller, larger, is_zero}
use Rattle.method.specs.Root.{square_root}
use Rattle.method.specs.Repeated.{go, repeated}
use Rattle.method.specs.Rotation.{rotation_of, pair_turned, rows_turned, columns_turned}
use Rattle.method.specs.Reflection.{line_copied, line_cleared, times_from, largest_of, scaled, squares_of}
use Rattle.method.specs.Reflection.{reflection_of, row_times, tail_less, row_less, row_reflected, reflected_right}
use Rattle.method.specs.Reflection.{row_added, rows_added, column_sums, row_less_all, row_less_times, lower_less}
use Rattle.method.specs.Reflection.{rows_less, reflected_left}
use Rattle.method.specs.Bidiagonal.{column_matrix, row_matrix, factor_reflected, column_zeroed, row_zeroed}
use Rattle.method.specs.Bidiagonal.{places_zeroed, bidiagonal}
use Rattle.method.specs.Chase.{turned, singular, negligible, steps, swept}
use Rattle.method.specs.Moves.{steps_moves, sweep_moves}
use Rattle.method.specs.Quiet.{quiet_corner}
use Rattle.method.specs.Walk.{pass, run}
use Rattle.method.specs.Checks.{counted, looked, bad_readings, first_of}
use Rattle.method.specs.Outcome.{accepted, outcome, plain_outcome}
use Rattle.method.specs.Defaults.{default_tolerance, default_absolute}
use Rattle.method.specs.Cases.{bits, floats, of_report, given}

-- 1, -1, -0, the smallest number above zero, and NaN
abbrev I : ℕ
I = 0x3ff0_0000_0000_0000

abbrev J : ℕ
J = 0xbff0_0000_0000_0000

abbrev O : ℕ
O = 0x8000_0000_0000_0000

abbrev L : ℕ
L = 1

abbrev N : ℕ
N = 0x7ff8_0000_0000_0000

-- 1e-13, which the default bounds call negligible beside 1
abbrev E : ℕ
E = 0x3d3c_25c2_6849_7682

-- ---- corners

abbrev corner : Bool → ℕ → ℕ → List ℕ → Bool
corner upper stride r a = quiet_corner upper stride r (floats a)

abbrev corners : List Bool
corners =
    corner true 3 3 (I ∷ 0 ∷ 0 ∷ 0 ∷ I ∷ 0 ∷ 0 ∷ 0 ∷ I ∷ [])
    ∷ corner true 3 3 (I ∷ O ∷ 0 ∷ 0 ∷ I ∷ O ∷ 0 ∷ 0 ∷ I ∷ [])
    ∷ corner true 3 3 (I ∷ I ∷ 0 ∷ 0 ∷ I ∷ 0 ∷ 0 ∷ 0 ∷ I ∷ [])
    ∷ corner true 3 3 (I ∷ 0 ∷ 0 ∷ 0 ∷ I ∷ I ∷ 0 ∷ 0 ∷ I ∷ [])
    ∷ corner true 3 3 (I ∷ 0 ∷ 0 ∷ 0 ∷ I ∷ L ∷ 0 ∷ 0 ∷ I ∷ [])
    ∷ corner true 3 3 (I ∷ N ∷ 0 ∷ 0 ∷ I ∷ 0 ∷ 0 ∷ 0 ∷ I ∷ [])
    ∷ corner true 3 3 (N ∷ 0 ∷ I ∷ I ∷ I ∷ 0 ∷ I ∷ I ∷ I ∷ [])
    ∷ corner false 3 3 (N ∷ I ∷ I ∷ 0 ∷ I ∷ I ∷ I ∷ 0 ∷ I ∷ [])
    ∷ corner false 3 3 (I ∷ 0 ∷ 0 ∷ 0 ∷ I ∷ 0 ∷ 0 ∷ I ∷ I ∷ [])
    ∷ corner true 3 2 (I ∷ 0 ∷ 0 ∷ 0 ∷ I ∷ I ∷ 0 ∷ 0 ∷ I ∷ [])
    ∷ corner true 4 2 (I ∷ 0 ∷ I ∷ I ∷ I ∷ I ∷ I ∷ I ∷ [])
    ∷ corner true 2 1 (I ∷ I ∷ I ∷ I ∷ [])
    ∷ []

pub corner-cases :
    corners
    -- zeros, and zeros below zero
    ≡ true ∷ true
    -- the first coupling alone, or the last alone
    ∷ false ∷ false
    -- the smallest number above zero, and a NaN
    ∷ false ∷ false
    -- what stands elsewhere, in the upper form and in the lower
    ∷ true ∷ true
    -- the last coupling of the lower form
    ∷ false
    -- a coupling behind the corner, and wider rows
    ∷ true ∷ true
    -- no coupling inside
    ∷ true
    ∷ []
unfolding of_bits is_zero go repeated quiet_corner
corner-cases = refl

-- ---- runs

-- report and matrix, at the floor 2^-1022
abbrev ran : ℕ → ℕ → ℕ → ℕ → List ℕ → List ℕ
ran limit credit rows cols b =
    let o = plain_outcome binary64 rows cols (given limit credit (of_bits binary64 0x0010_0000_0000_0000)) (floats b) in
    of_report o.report ++ bits o.held.matrix

abbrev runs : List (List ℕ)
runs =
    ran 0 50 2 2 (0x4000_0000_0000_0000 ∷ 0 ∷ 0 ∷ I ∷ [])
    ∷ ran 1 50 2 2 (0x4000_0000_0000_0000 ∷ 0 ∷ 0 ∷ I ∷ [])
    ∷ ran 0 50 2 2 (0 ∷ 0 ∷ 0 ∷ 0 ∷ [])
    ∷ ran 2 50 2 3 (0 ∷ 0 ∷ 0 ∷ 0 ∷ 0 ∷ 0 ∷ [])
    ∷ ran 0 50 2 2 (I ∷ O ∷ 0 ∷ I ∷ [])
    ∷ ran 0 50 2 2 (I ∷ L ∷ 0 ∷ I ∷ [])
    ∷ ran 0 50 2 3 (I ∷ 0 ∷ 0 ∷ I ∷ I ∷ 0 ∷ [])
    ∷ ran 1 0 3 3 (I ∷ 0 ∷ 0 ∷ 0 ∷ I ∷ E ∷ 0 ∷ 0 ∷ I ∷ [])
    ∷ []

abbrev original : List (List ℕ)
original =
    -- (2, 0), (0, 1): at limit 0 quiet, without a pass; at limit 1 a drop, and settled
    (0 ∷ 3 ∷ 0 ∷ 0 ∷ 0 ∷ 2 ∷ 0 ∷ 0xc000_0000_0000_0000 ∷ 0 ∷ 0 ∷ I ∷ [])
    ∷ (0 ∷ 1 ∷ 1 ∷ 0 ∷ 1 ∷ 1 ∷ 0 ∷ 0xc000_0000_0000_0000 ∷ 0 ∷ 0 ∷ I ∷ [])
    -- zeros, at limit 0
    ∷ (0 ∷ 3 ∷ 0 ∷ 0 ∷ 0 ∷ 2 ∷ 0 ∷ 0 ∷ 0 ∷ 0 ∷ 0 ∷ [])
    -- 2 x 3 zeros, in the lower form
    ∷ (0 ∷ 3 ∷ 2 ∷ 2 ∷ 0 ∷ 2 ∷ 4 ∷ 0 ∷ 0 ∷ 0 ∷ 0 ∷ 0 ∷ 0 ∷ [])
    -- a coupling of -0, and one of the smallest number below zero
    ∷ (0 ∷ 3 ∷ 0 ∷ 0 ∷ 0 ∷ 2 ∷ 0 ∷ J ∷ O ∷ 0 ∷ I ∷ [])
    ∷ (0 ∷ 2 ∷ 0 ∷ 0 ∷ 0 ∷ 2 ∷ 0 ∷ J ∷ 0x8000_0000_0000_0001 ∷ 0 ∷ I ∷ [])
    -- in the lower form the coupling stands below the diagonal
    ∷ (0 ∷ 2 ∷ 0 ∷ 0 ∷ 0 ∷ 2 ∷ 0 ∷ J ∷ 0 ∷ 0 ∷ I ∷ I ∷ 0 ∷ [])
    -- a dropped coupling that stays lies behind the corner, and does not matter
    ∷ (0 ∷ 3 ∷ 1 ∷ 0 ∷ 1 ∷ 2 ∷ 0 ∷ J ∷ 0 ∷ 0 ∷ 0 ∷ J ∷ E ∷ 0 ∷ 0 ∷ J ∷ [])
    ∷ []

pub quiet_cases : runs ≡ original
unfolding of_bits to_bits neg add sub mul div lt eq is_nan magnitude sign_of smaller larger is_zero square_root go repeated
    rotation_of pair_turned rows_turned columns_turned line_copied line_cleared times_from largest_of scaled squares_of
    reflection_of row_times tail_less row_less row_reflected reflected_right row_added rows_added column_sums row_less_all
    row_less_times lower_less rows_less reflected_left column_matrix row_matrix factor_reflected column_zeroed row_zeroed
    places_zeroed bidiagonal turned singular negligible steps swept steps_moves sweep_moves quiet_corner pass run counted looked bad_readings
    first_of accepted outcome default_tolerance default_absolute
quiet_cases = refl
