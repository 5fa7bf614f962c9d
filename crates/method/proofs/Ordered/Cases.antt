-- The ordered call on small tables, as one table, computed: the answers are those of the original's run with a stable
-- sort and signs (rule 12.4). U and V begin as the identity, each entry of the list as 42. Assumes nothing.
use Rattle.std.specs.Prelude.{◌≡◌, refl, List, [], ◌∷◌, ◌++◌, ℕ, replicate}
use Rattle.std.specs.Float.{binary64}
use Rattle.std.specs.Float.Ieee.{neg, add, sub, mul, div, lt, eq, is_nan, of_bits, to_bits}
use Rattle.method.specs.Floats.{magnitude, sign_of, smaller, larger, is_zero}
use Rattle.method.specs.Root.{square_root}
use Rattle.method.specs.Repeated.{go, repeated}
use Rattle.method.specs.Work.{work}
use Rattle.method.specs.Rotation.{rotation_of, pair_turned, rows_turned, columns_turned}
use Rattle.method.specs.Reflection.{line_copied, line_cleared, times_from, largest_of, scaled, squares_of}
use Rattle.method.specs.Reflection.{reflection_of, row_times, tail_less, row_less, row_reflected, reflected_right}
use Rattle.method.specs.Reflection.{row_added, rows_added, column_sums, row_less_all, row_less_times, lower_less}
use Rattle.method.specs.Reflection.{rows_less, reflected_left}
use Rattle.method.specs.Bidiagonal.{column_matrix, row_matrix, factor_reflected, column_zeroed, row_zeroed}
use Rattle.method.specs.Bidiagonal.{places_zeroed, bidiagonal}
use Rattle.method.specs.Chase.{turned, singular, negligible, steps, swept}
use Rattle.method.specs.Moves.{steps_moves, sweep_moves}
use Rattle.method.specs.Quiet.{quiet_corner}
use Rattle.method.specs.Walk.{pass, run}
use Rattle.method.specs.Checks.{counted, looked, bad_readings, first_of}
use Rattle.method.specs.Fill.{identity}
use Rattle.method.specs.Outcome.{accepted, outcome}
use Rattle.method.specs.Defaults.{default_tolerance, default_absolute, default_floor}
use Rattle.method.specs.Cases.{bits, floats, of_report, given}
use Rattle.method.specs.Floats.{negative}
use Rattle.method.specs.Outcome.{card}
use Rattle.method.specs.Order.{how_many, new_place, order, ahead, values_by, rows_moved}
use Rattle.method.specs.Ordered.{all_finite, put_in_order, ordered_outcome}

-- report, matrix, U, V and the list, at the floor 2^-1022
abbrev ordered : ℕ → ℕ → ℕ → List ℕ → List ℕ
ordered limit rows cols b =
    let w = work (floats b) (identity rows) (identity cols) in
    let l = floats (replicate (card rows cols) 0x4045_0000_0000_0000) in
    let o = ordered_outcome binary64 rows cols (given limit 50 (of_bits binary64 0x0010_0000_0000_0000)) w l in
    of_report o.run.report
    ++ bits o.run.held.matrix ++ bits o.run.held.u ++ bits o.run.held.v ++ bits o.values

-- what the definition gives
abbrev computed : List (List ℕ)
computed =
    ordered 100 2 2 (0x3ff0_0000_0000_0000 ∷ 0 ∷ 0 ∷ 0x4000_0000_0000_0000 ∷ [])
    ∷ ordered 100 3 2 (0x3ff0_0000_0000_0000 ∷ 0 ∷ 0 ∷ 0x4000_0000_0000_0000 ∷ 0 ∷ 0 ∷ [])
    ∷ ordered 100 2 2 (0x3ff0_0000_0000_0000 ∷ 0 ∷ 0 ∷ 0x3ff0_0000_0000_0000 ∷ [])
    ∷ ordered 100 1 1 (0xc008_0000_0000_0000 ∷ [])
    ∷ ordered 100 1 1 (0x8000_0000_0000_0000 ∷ [])
    ∷ ordered 3 2 2 (0 ∷ 0 ∷ 0 ∷ 0 ∷ [])
    ∷ ordered 100 1 2 (0x7fef_ffff_ffff_ffff ∷ 0x7fef_ffff_ffff_ffff ∷ [])
    ∷ []

-- what it must give: number, word and counts; the matrix; U; V; the list
abbrev known : List (List ℕ)
known =
    -- 2 x 2, (1, 0), (0, 2): the values exchange places, with their columns; U's column of -1 is negated
    (
    (0 ∷ 1 ∷ 1 ∷ 0 ∷ 1 ∷ 1 ∷ 0 ∷ [])
    ++ (0xbff0_0000_0000_0000 ∷ 0 ∷ 0 ∷ 0x4000_0000_0000_0000 ∷ [])
    ++ (0 ∷ 0x3ff0_0000_0000_0000 ∷ 0x3ff0_0000_0000_0000 ∷ 0x8000_0000_0000_0000 ∷ [])
    ++ (0 ∷ 0x3ff0_0000_0000_0000 ∷ 0x3ff0_0000_0000_0000 ∷ 0 ∷ [])
    ++ (0x4000_0000_0000_0000 ∷ 0x3ff0_0000_0000_0000 ∷ [])
    )
    -- 3 x 2, (1, 0), (0, 2), (0, 0): U's third column stays
    ∷ (
    (0 ∷ 1 ∷ 1 ∷ 0 ∷ 1 ∷ 1 ∷ 0 ∷ [])
    ++ (0xbff0_0000_0000_0000 ∷ 0 ∷ 0 ∷ 0xc000_0000_0000_0000 ∷ 0 ∷ 0 ∷ [])
    ++ (0x8000_0000_0000_0000 ∷ 0x3ff0_0000_0000_0000 ∷ 0 ∷ 0x3ff0_0000_0000_0000 ∷ 0x8000_0000_0000_0000 ∷ 0
    ∷ 0x8000_0000_0000_0000 ∷ 0x8000_0000_0000_0000 ∷ 0x3ff0_0000_0000_0000 ∷ [])
    ++ (0 ∷ 0x3ff0_0000_0000_0000 ∷ 0x3ff0_0000_0000_0000 ∷ 0 ∷ [])
    ++ (0x4000_0000_0000_0000 ∷ 0x3ff0_0000_0000_0000 ∷ [])
    )
    -- 2 x 2, (1, 0), (0, 1): equal values keep their order, and each sign goes to U
    ∷ (
    (0 ∷ 1 ∷ 1 ∷ 0 ∷ 1 ∷ 1 ∷ 0 ∷ [])
    ++ (0xbff0_0000_0000_0000 ∷ 0 ∷ 0 ∷ 0x3ff0_0000_0000_0000 ∷ [])
    ++ (0x3ff0_0000_0000_0000 ∷ 0 ∷ 0x8000_0000_0000_0000 ∷ 0x3ff0_0000_0000_0000 ∷ [])
    ++ (0x3ff0_0000_0000_0000 ∷ 0 ∷ 0 ∷ 0x3ff0_0000_0000_0000 ∷ [])
    ++ (0x3ff0_0000_0000_0000 ∷ 0x3ff0_0000_0000_0000 ∷ [])
    )
    -- 1 x 1, (-3): 3, and U is negated
    ∷ (
    (0 ∷ 1 ∷ 0 ∷ 0 ∷ 0 ∷ 1 ∷ 0 ∷ [])
    ++ (0xc008_0000_0000_0000 ∷ [])
    ++ (0xbff0_0000_0000_0000 ∷ [])
    ++ (0x3ff0_0000_0000_0000 ∷ [])
    ++ (0x4008_0000_0000_0000 ∷ [])
    )
    -- 1 x 1, (-0): 0, and U is negated
    ∷ (
    (0 ∷ 1 ∷ 0 ∷ 0 ∷ 0 ∷ 1 ∷ 0 ∷ [])
    ++ (0x8000_0000_0000_0000 ∷ [])
    ++ (0xbff0_0000_0000_0000 ∷ [])
    ++ (0x3ff0_0000_0000_0000 ∷ [])
    ++ (0 ∷ [])
    )
    -- 2 x 2, zeros, limit 3: 12, with the run's word and counts; the list is as it was
    ∷ (
    (12 ∷ 3 ∷ 3 ∷ 3 ∷ 0 ∷ 2 ∷ 6 ∷ [])
    ++ (0 ∷ 0 ∷ 0 ∷ 0 ∷ [])
    ++ (0x8000_0000_0000_0000 ∷ 0x3ff0_0000_0000_0000 ∷ 0xbff0_0000_0000_0000 ∷ 0x8000_0000_0000_0000 ∷ [])
    ++ (0x8000_0000_0000_0000 ∷ 0x3ff0_0000_0000_0000 ∷ 0xbff0_0000_0000_0000 ∷ 0x8000_0000_0000_0000 ∷ [])
    ++ (0x4045_0000_0000_0000 ∷ 0x4045_0000_0000_0000 ∷ [])
    )
    -- 1 x 2, the largest finite double twice: 13
    ∷ (
    (13 ∷ 1 ∷ 0 ∷ 0 ∷ 0 ∷ 1 ∷ 0 ∷ [])
    ++ (0xfff0_0000_0000_0000 ∷ 0 ∷ [])
    ++ (0x3ff0_0000_0000_0000 ∷ [])
    ++ (0xbfe6_a09e_667f_3bce ∷ 0xbfe6_a09e_667f_3bcd ∷ 0xbfe6_a09e_667f_3bcd ∷ 0x3fe6_a09e_667f_3bcc ∷ [])
    ++ (0x4045_0000_0000_0000 ∷ [])
    )
    ∷ []

pub in_order-cases : computed ≡ known
unfolding of_bits to_bits neg add sub mul div lt eq is_nan magnitude sign_of smaller larger is_zero square_root go
    repeated rotation_of pair_turned rows_turned columns_turned line_copied line_cleared times_from largest_of scaled squares_of
    reflection_of row_times tail_less row_less row_reflected reflected_right row_added rows_added column_sums row_less_all
    row_less_times lower_less rows_less reflected_left column_matrix row_matrix factor_reflected column_zeroed row_zeroed
    places_zeroed bidiagonal turned singular negligible steps swept steps_moves sweep_moves quiet_corner pass run counted looked bad_readings first_of accepted
    outcome identity default_tolerance default_absolute default_floor negative how_many new_place order ahead values_by
    rows_moved all_finite put_in_order ordered_outcome
in_order-cases = refl
