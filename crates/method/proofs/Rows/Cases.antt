-- What a row of zeros can end as, by two small tables, computed: with a -0, and as NaNs. So no more than `ZeroOrNan` is
-- true of it. The answers are the original's. Assumes nothing.
use Rattle.std.specs.Prelude.{◌≡◌, refl, List, [], ◌∷◌, ℕ}
use Rattle.std.specs.Float.{binary64}
use Rattle.std.specs.Float.Ieee.{neg, add, sub, mul, div, lt, eq, is_nan, of_bits, to_bits}
use Rattle.method.specs.Floats.{magnitude, sign_of, smaller, larger, is_zero}
use Rattle.method.specs.Root.{square_root}
use Rattle.method.specs.Repeated.{go, repeated}
use Rattle.method.specs.Work.{work}
use Rattle.method.specs.Rotation.{rotation_of, pair_turned, rows_turned, columns_turned}
use Rattle.method.specs.Reflection.{line_copied, line_cleared, times_from, largest_of, scaled, squares_of}
use Rattle.method.specs.Reflection.{reflection_of, row_times, tail_less, row_less, row_reflected, reflected_right}
use Rattle.method.specs.Reflection.{row_added, rows_added, column_sums, row_less_all, row_less_times, lower_less}
use Rattle.method.specs.Reflection.{rows_less, reflected_left}
use Rattle.method.specs.Bidiagonal.{column_matrix, row_matrix, factor_reflected, column_zeroed, row_zeroed}
use Rattle.method.specs.Bidiagonal.{places_zeroed, bidiagonal}
use Rattle.method.specs.Chase.{turned, singular, negligible, steps, swept}
use Rattle.method.specs.Quiet.{quiet_corner}
use Rattle.method.specs.Walk.{pass, run}
use Rattle.method.specs.Checks.{counted, looked, bad_readings, first_of}
use Rattle.method.specs.Fill.{identity}
use Rattle.method.specs.Outcome.{accepted, outcome, full_outcome}
use Rattle.method.specs.Defaults.{default_tolerance, default_absolute, default_floor}
use Rattle.method.specs.Cases.{bits, floats, given}
use Rattle.method.specs.View.{row_of}
use Rattle.method.specs.Rows.Cases.{known}

-- row 0 of U, which begins as zeros beside (1, 0), after a run over a 2 x 2 table with limit 1
abbrev zeros : List ℕ → List ℕ
zeros b =
    let u = floats (0 ∷ 0 ∷ 0x3ff0_0000_0000_0000 ∷ 0 ∷ []) in
    let s = given 1 50 (of_bits binary64 0x0010_0000_0000_0000) in
    bits (row_of 2 0 (full_outcome binary64 2 2 s (work (floats b) u u)).held.u)

abbrev computed : List (List ℕ)
computed =
    zeros (0 ∷ 0x3ff0_0000_0000_0000 ∷ 0x3ff0_0000_0000_0000 ∷ 0x3ff0_0000_0000_0000 ∷ [])
    ∷ zeros (0 ∷ 0 ∷ 0x3ff0_0000_0000_0000 ∷ 0x7fef_ffff_ffff_ffff ∷ [])
    ∷ []

pub zero_row_cases : computed ≡ known
unfolding of_bits to_bits neg add sub mul div lt eq is_nan magnitude sign_of smaller larger is_zero square_root go
    repeated rotation_of pair_turned rows_turned columns_turned line_copied line_cleared times_from largest_of scaled squares_of
    reflection_of row_times tail_less row_less row_reflected reflected_right row_added rows_added column_sums row_less_all
    row_less_times lower_less rows_less reflected_left column_matrix row_matrix factor_reflected column_zeroed row_zeroed
    places_zeroed bidiagonal turned singular negligible steps swept quiet_corner pass run counted looked bad_readings first_of accepted
    outcome identity default_tolerance default_absolute default_floor
zero_row_cases = refl
