-- The fourteen cases that the definitions must give, as one table, computed: the runs at the floor 2^-1022, and once
-- more at the default floor. Then a second table: a row for each slip that the fourteen leave unseen, with the answers
-- of the original. Assumes nothing.
use Rattle.std.specs.Prelude.{◌≡◌, refl, List, [], ◌∷◌, ◌++◌, ℕ, Float}
use Rattle.std.specs.Float.{binary64}
use Rattle.std.specs.Float.Ieee.{neg, add, sub, mul, div, lt, eq, is_nan, of_bits, to_bits}
use Rattle.method.specs.Floats.{magnitude, sign_of, smaller, larger, is_zero}
use Rattle.method.specs.Root.{square_root}
use Rattle.method.specs.Repeated.{go, repeated}
use Rattle.method.specs.Work.{work}
use Rattle.method.specs.Rotation.{Rotation, rotation_of, pair_turned, rows_turned, columns_turned}
use Rattle.method.specs.Reflection.{line_copied, line_cleared, times_from, largest_of, scaled, squares_of}
use Rattle.method.specs.Reflection.{reflection_of, row_times, tail_less, row_less, row_reflected, reflected_right}
use Rattle.method.specs.Reflection.{row_added, rows_added, column_sums, row_less_all, row_less_times, lower_less}
use Rattle.method.specs.Reflection.{rows_less, reflected_left}
use Rattle.method.specs.Bidiagonal.{column_matrix, row_matrix, factor_reflected, column_zeroed, row_zeroed}
use Rattle.method.specs.Bidiagonal.{places_zeroed, bidiagonal}
use Rattle.method.specs.Chase.{turned, singular, negligible, steps, swept}
use Rattle.method.specs.Moves.{steps_moves, sweep_moves}
use Rattle.method.specs.Quiet.{quiet_corner}
use Rattle.method.specs.Walk.{pass, run}
use Rattle.method.specs.Checks.{counted, looked, bad_readings, first_of}
use Rattle.method.specs.Fill.{identity}
use Rattle.method.specs.Outcome.{accepted, outcome, plain_outcome, full_outcome}
use Rattle.method.specs.Defaults.{default_tolerance, default_absolute, default_floor}
use Rattle.method.specs.Cases.{bits, floats, given, of_report}

-- ---- answers as numbers: floats by their patterns, none 0, settled 1, stopped 2, quiet 3

abbrev of_root : ℕ → List ℕ
of_root b = bits (square_root binary64 (of_bits binary64 b) ∷ [])

abbrev of_rotation : Rotation → List ℕ
of_rotation g = bits (g.radius ∷ g.cosine ∷ g.sine ∷ [])

abbrev rotated : ℕ → ℕ → List ℕ
rotated a b = of_rotation (rotation_of binary64 (of_bits binary64 a) (of_bits binary64 b))

abbrev shifted : ℕ → ℕ → ℕ → ℕ → List ℕ
shifted a b c d =
    bits (singular binary64 (of_bits binary64 a) (of_bits binary64 b) (of_bits binary64 c) (of_bits binary64 d) ∷ [])

-- the report, and then the matrix
abbrev plain : Float → ℕ → ℕ → ℕ → List ℕ → List ℕ
plain floor limit rows cols b =
    let o = plain_outcome binary64 rows cols (given limit 50 floor) (floats b) in
    of_report o.report ++ bits o.held.matrix

-- the report, the matrix, and then U, begun as the identity
abbrev factored : Float → ℕ → ℕ → ℕ → List ℕ → List ℕ
factored floor limit rows cols b =
    let o = full_outcome binary64 rows cols (given limit 50 floor) (work (floats b) (identity rows) (identity cols)) in
    of_report o.report ++ bits o.held.matrix ++ bits o.held.u

-- ---- the table

-- what the definitions give, the runs at a floor
abbrev computed : Float → List (List ℕ)
computed floor =
    of_root 0x8000_0000_0000_0000
    ∷ of_root 1
    ∷ of_root 0x4000_0000_0000_0000
    ∷ of_root 0x3ff0_0000_0000_0001
    ∷ of_root 0x7fef_ffff_ffff_ffff
    ∷ rotated 0 0
    ∷ rotated 0x4000_0000_0000_0000 0
    ∷ rotated 0x4008_0000_0000_0000 0x4010_0000_0000_0000
    ∷ shifted 0x4000_0000_0000_0000 0 0 0x3ff0_0000_0000_0000
    ∷ shifted 0x3ff0_0000_0000_0000 0 0 0x4000_0000_0000_0000
    ∷ plain floor 100 1 1 (0xc008_0000_0000_0000 ∷ [])
    ∷ plain floor 100 1 2 (0x4008_0000_0000_0000 ∷ 0x4010_0000_0000_0000 ∷ [])
    ∷ factored floor 100 2 2 (0x4000_0000_0000_0000 ∷ 0 ∷ 0 ∷ 0x3ff0_0000_0000_0000 ∷ [])
    ∷ plain floor 3 2 2 (0 ∷ 0 ∷ 0 ∷ 0 ∷ [])
    ∷ []

-- what they must give
abbrev fourteen : List (List ℕ)
fourteen =
    -- the root of -0 is -0
    (0x8000_0000_0000_0000 ∷ [])
    -- of 2^-1074, 2^-537
    ∷ (0x1e60_0000_0000_0000 ∷ [])
    -- of 2
    ∷ (0x3ff6_a09e_667f_3bcd ∷ [])
    -- of 1 + 2^-52, 1
    ∷ (0x3ff0_0000_0000_0000 ∷ [])
    -- of the largest finite
    ∷ (0x5fef_ffff_ffff_ffff ∷ [])
    -- the rotation of (0, 0): radius 0, cosine 0, sine 1
    ∷ (0 ∷ 0 ∷ 0x3ff0_0000_0000_0000 ∷ [])
    -- of (2, 0): 2, 1, 0
    ∷ (0x4000_0000_0000_0000 ∷ 0x3ff0_0000_0000_0000 ∷ 0 ∷ [])
    -- of (3, 4): radius 5, and the cosine one unit above 3 / 5
    ∷ (0x4014_0000_0000_0000 ∷ 0x3fe3_3333_3333_3334 ∷ 0x3fe9_9999_9999_999a ∷ [])
    -- singular (2, 0, 0, 1) is 1
    ∷ (0x3ff0_0000_0000_0000 ∷ [])
    -- and of (1, 0, 0, 2), 4
    ∷ (0x4010_0000_0000_0000 ∷ [])
    -- 1 x 1, -3: settled, 0 passes, -3
    ∷ (0 ∷ 1 ∷ 0 ∷ 0 ∷ 0 ∷ 1 ∷ 0 ∷ 0xc008_0000_0000_0000 ∷ [])
    -- 1 x 2, (3, 4): settled, 0 passes, (-5, 0)
    ∷ (0 ∷ 1 ∷ 0 ∷ 0 ∷ 0 ∷ 1 ∷ 0 ∷ 0xc014_0000_0000_0000 ∷ 0 ∷ [])
    -- 2 x 2, (2, 0), (0, 1): settled, 1 pass, 1 drop, (-2, 0), (0, 1), and U is (-1, 0), (0, 1)
    ∷ (
    0 ∷ 1 ∷ 1 ∷ 0 ∷ 1 ∷ 1 ∷ 0 ∷ 0xc000_0000_0000_0000 ∷ 0 ∷ 0 ∷ 0x3ff0_0000_0000_0000 ∷ 0xbff0_0000_0000_0000 ∷ 0 ∷ 0
    ∷ 0x3ff0_0000_0000_0000 ∷ []
    )
    -- 2 x 2 zeros, limit 3: quiet, 3 passes, 3 sweeps, 0 drops, range 2, 6 rotations, zeros
    ∷ (0 ∷ 3 ∷ 3 ∷ 3 ∷ 0 ∷ 2 ∷ 6 ∷ 0 ∷ 0 ∷ 0 ∷ 0 ∷ [])
    ∷ []

pub cases : (computed (of_bits binary64 0x0010_0000_0000_0000) ≡ fourteen) × (computed default_floor ≡ fourteen)
unfolding of_bits to_bits neg add sub mul div lt eq is_nan magnitude sign_of smaller larger is_zero square_root go
    repeated rotation_of pair_turned rows_turned columns_turned line_copied line_cleared times_from largest_of scaled squares_of
    reflection_of row_times tail_less row_less row_reflected reflected_right row_added rows_added column_sums row_less_all
    row_less_times lower_less rows_less reflected_left column_matrix row_matrix factor_reflected column_zeroed row_zeroed
    places_zeroed bidiagonal turned singular negligible steps swept steps_moves sweep_moves quiet_corner pass run counted looked bad_readings first_of accepted
    outcome identity default_tolerance default_absolute default_floor
cases = (refl, refl)

-- ---- slips that a porter is drawn to, each with a row that shows it: the answers are the original's

-- the report, the matrix, and then U and V, both begun as the identity
abbrev whole : Float → ℕ → ℕ → ℕ → ℕ → List ℕ → List ℕ
whole floor limit credit rows cols b =
    let s = given limit credit floor in
    let o = full_outcome binary64 rows cols s (work (floats b) (identity rows) (identity cols)) in
    of_report o.report ++ bits o.held.matrix ++ bits o.held.u ++ bits o.held.v

-- what the definitions give
abbrev shown : List (List ℕ)
shown =
    rotated 0x3ff0_0000_0000_0000 0xbff0_0000_0000_0000
    ∷ rotated 0 0xc008_0000_0000_0000
    ∷ rotated 0x4010_0000_0000_0000 0xc008_0000_0000_0000
    ∷ whole default_floor 100 50 1 2 (0x39b4_484b_feeb_c2a0 ∷ 0x39b4_484b_feeb_c2a0 ∷ [])
    ∷ whole default_floor 100 50 2 1 (0x39b4_484b_feeb_c2a0 ∷ 0x39b4_484b_feeb_c2a0 ∷ [])
    ∷ whole (of_bits binary64 0x0010_0000_0000_0000) 100 50 1 2 (0x0010_0000_0000_0000 ∷ 0x0010_0000_0000_0000 ∷ [])
    ∷ whole (of_bits binary64 0x0010_0000_0000_0000) 100 50 2 2
    (0x3ff0_0000_0000_0000 ∷ 0x3d3c_25c2_6849_7682 ∷ 0 ∷ 0x3ff0_0000_0000_0000 ∷ [])
    ∷ whole (of_bits binary64 0x0010_0000_0000_0000) 2 1 3 3 (0 ∷ 0 ∷ 0 ∷ 0 ∷ 0 ∷ 0 ∷ 0 ∷ 0 ∷ 0x3ff0_0000_0000_0000 ∷ [])
    ∷ whole (of_bits binary64 0x0010_0000_0000_0000) 2 1 3 3
    (0x3ff0_0000_0000_0000 ∷ 0 ∷ 0 ∷ 0 ∷ 0 ∷ 0x3ff0_0000_0000_0000 ∷ 0 ∷ 0 ∷ 0 ∷ [])
    ∷ whole (of_bits binary64 0x0010_0000_0000_0000) 100 50 2 2
    (0x3ff0_0000_0000_0000 ∷ 0x4000_0000_0000_0000 ∷ 0x4008_0000_0000_0000 ∷ 0x4010_0000_0000_0000 ∷ [])
    ∷ whole (of_bits binary64 0x0010_0000_0000_0000) 1 50 3 3
    (0x3ff0_0000_0000_0000 ∷ 0x4000_0000_0000_0000 ∷ 0x4008_0000_0000_0000 ∷ 0x4010_0000_0000_0000
    ∷ 0x4014_0000_0000_0000 ∷ 0x4018_0000_0000_0000 ∷ 0x401c_0000_0000_0000 ∷ 0x4020_0000_0000_0000
    ∷ 0x4024_0000_0000_0000 ∷ [])
    ∷ whole (of_bits binary64 0x0010_0000_0000_0000) 1 50 2 3
    (0x3ff0_0000_0000_0000 ∷ 0x4000_0000_0000_0000 ∷ 0x4008_0000_0000_0000 ∷ 0x4010_0000_0000_0000
    ∷ 0x4014_0000_0000_0000 ∷ 0x4018_0000_0000_0000 ∷ [])
    ∷ []

-- what they must give
abbrev original : List (List ℕ)
original =
    -- the rotation of (1, -1): neither is larger, so the cosine is positive and the sine negative
    (0x3ff6_a09e_667f_3bcd ∷ 0x3fe6_a09e_667f_3bcc ∷ 0xbfe6_a09e_667f_3bcc ∷ [])
    -- of (0, -3): radius -3, cosine 0 and sine 1, however b is signed
    ∷ (0xc008_0000_0000_0000 ∷ 0 ∷ 0x3ff0_0000_0000_0000 ∷ [])
    -- of (4, -3): by the cosine, where a is the larger
    ∷ (0x4014_0000_0000_0000 ∷ 0x3fe9_9999_9999_999a ∷ 0xbfe3_3333_3333_3334 ∷ [])
    -- 1 x 2, both readings below the floor: the row stays as found, and is not cleared as a column is
    ∷ (0 ∷ 1 ∷ 0 ∷ 0 ∷ 0 ∷ 1 ∷ 0 ∷ 0x39b4_484b_feeb_c2a0 ∷ 0x39b4_484b_feeb_c2a0 ∷ 0x3ff0_0000_0000_0000
    ∷ 0x3ff0_0000_0000_0000 ∷ 0 ∷ 0 ∷ 0x3ff0_0000_0000_0000 ∷ [])
    -- 2 x 1, the same readings: the column is cleared below its head, and does not stay as found
    ∷ (0 ∷ 1 ∷ 0 ∷ 0 ∷ 0 ∷ 1 ∷ 0 ∷ 0x39b4_484b_feeb_c2a0 ∷ 0 ∷ 0x3ff0_0000_0000_0000 ∷ 0 ∷ 0 ∷ 0x3ff0_0000_0000_0000
    ∷ 0x3ff0_0000_0000_0000 ∷ [])
    -- 1 x 2, both readings at the floor: at it is not below it, so the row is reflected
    ∷ (0 ∷ 1 ∷ 0 ∷ 0 ∷ 0 ∷ 1 ∷ 0 ∷ 0x8016_a09e_667f_3bcd ∷ 0 ∷ 0x3ff0_0000_0000_0000 ∷ 0xbfe6_a09e_667f_3bca
    ∷ 0xbfe6_a09e_667f_3bcc ∷ 0xbfe6_a09e_667f_3bcc ∷ 0x3fe6_a09e_667f_3bcc ∷ [])
    -- 2 x 2 with a negligible coupling: 1 drop, and the coupling stays as it is, not set to zero
    ∷ (0 ∷ 1 ∷ 1 ∷ 0 ∷ 1 ∷ 1 ∷ 0 ∷ 0xbff0_0000_0000_0000 ∷ 0x3d3c_25c2_6849_7682 ∷ 0 ∷ 0xbff0_0000_0000_0000
    ∷ 0xbff0_0000_0000_0000 ∷ 0 ∷ 0 ∷ 0x3ff0_0000_0000_0000 ∷ 0x3ff0_0000_0000_0000 ∷ 0 ∷ 0 ∷ 0xbff0_0000_0000_0000 ∷
    [])
    -- 3 x 3, credit 1, limit 2: the drop pays its pass back, so there are 3 passes and not 2
    ∷ (0 ∷ 3 ∷ 3 ∷ 2 ∷ 1 ∷ 2 ∷ 4 ∷ 0 ∷ 0 ∷ 0 ∷ 0 ∷ 0 ∷ 0 ∷ 0 ∷ 0 ∷ 0x3ff0_0000_0000_0000 ∷ 0xbff0_0000_0000_0000
    ∷ 0x8000_0000_0000_0000 ∷ 0 ∷ 0 ∷ 0xbff0_0000_0000_0000 ∷ 0 ∷ 0 ∷ 0 ∷ 0x3ff0_0000_0000_0000 ∷ 0xbff0_0000_0000_0000
    ∷ 0x8000_0000_0000_0000 ∷ 0 ∷ 0 ∷ 0xbff0_0000_0000_0000 ∷ 0 ∷ 0 ∷ 0 ∷ 0x3ff0_0000_0000_0000 ∷ [])
    -- 3 x 3, credit 1, limit 2: a sweep, a drop that lowers the counter from 2 to 1 and not to 0, and a sweep, so there
    -- are 3 passes and not 4
    ∷ (0 ∷ 3 ∷ 3 ∷ 2 ∷ 1 ∷ 2 ∷ 6 ∷ 0 ∷ 0 ∷ 0x8000_0000_0000_0000 ∷ 0 ∷ 0x3ff0_0000_0000_0000 ∷ 0 ∷ 0 ∷ 0
    ∷ 0xbff0_0000_0000_0000 ∷ 0 ∷ 0 ∷ 0xbff0_0000_0000_0000 ∷ 0 ∷ 0xbff0_0000_0000_0000 ∷ 0 ∷ 0x3ff0_0000_0000_0000
    ∷ 0 ∷ 0 ∷ 0 ∷ 0 ∷ 0x3ff0_0000_0000_0000 ∷ 0x3ff0_0000_0000_0000 ∷ 0 ∷ 0 ∷ 0 ∷ 0xbff0_0000_0000_0000
    ∷ 0x8000_0000_0000_0000 ∷ [])
    -- 2 x 2, rows (1, 2), (3, 4): 1 sweep and 1 drop; square, so the upper form, shifted by the eigenvalue nearest to
    -- the last entry
    ∷ (0 ∷ 1 ∷ 2 ∷ 1 ∷ 1 ∷ 1 ∷ 2 ∷ 0x3fd7_6bfd_750b_9d53 ∷ 0xbd06_8000_0000_0000 ∷ 0 ∷ 0xc015_dc25_3662_e9ca
    ∷ 0xbfed_43b3_7bf5_1262 ∷ 0x3fd9_e434_b815_cba1 ∷ 0x3fd9_e434_b815_cba3 ∷ 0x3fed_43b3_7bf5_1262
    ∷ 0x3fea_2844_ad6e_c66a ∷ 0xbfe2_6efd_219a_583e ∷ 0xbfe2_6efd_219a_583e ∷ 0xbfea_2844_ad6e_c66a ∷ [])
    -- 3 x 3, limit 1: one sweep of the upper form, columns first and then rows, with a step between
    ∷ (0 ∷ 2 ∷ 1 ∷ 1 ∷ 0 ∷ 3 ∷ 4 ∷ 0x4031_698f_8396_80ee ∷ 0xbfb3_0786_8e46_16f6 ∷ 0 ∷ 0 ∷ 0x3fec_0160_40da_dcfc
    ∷ 0x3f58_c9c0_3362_0930 ∷ 0 ∷ 0xbc70_0000_0000_0000 ∷ 0xbfc9_32ee_ac5b_2e98 ∷ 0xbfca_c4c4_948a_ca68
    ∷ 0x3fee_dd27_50a0_0356 ∷ 0x3fc4_a4dc_4f73_c080 ∷ 0xbfe0_1f77_1ce9_1a98 ∷ 0x3fa1_f585_89a1_c750
    ∷ 0xbfeb_9e62_40e1_265e ∷ 0xbfea_d1b3_c79c_c4fb ∷ 0xbfd0_c09f_26d9_98f8 ∷ 0x3fde_a1aa_3c3d_df5c
    ∷ 0xbfdd_f76f_68e5_863f ∷ 0xbfea_9572_e078_3ac1 ∷ 0xbfd3_4457_d237_6015 ∷ 0xbfe1_b809_255e_2732
    ∷ 0x3f85_3411_6a0a_d6e0 ∷ 0x3fea_a500_2dde_5fee ∷ 0xbfe6_08f7_ae78_5eb2 ∷ 0x3fe1_cf55_d481_1110
    ∷ 0xbfdd_bffc_77be_544f ∷ [])
    -- 2 x 3, limit 1: one sweep of the lower form, rows first and then columns
    ∷ (0 ∷ 2 ∷ 1 ∷ 1 ∷ 0 ∷ 2 ∷ 2 ∷ 0x4023_041c_c538_9e82 ∷ 0x3cb0_0000_0000_0000 ∷ 0 ∷ 0xbcc7_0000_0000_0000
    ∷ 0x3fe8_bb59_1a29_3feb ∷ 0 ∷ 0xbfd8_b96d_e330_a854 ∷ 0xbfed_8405_3d8c_2d02 ∷ 0xbfed_8405_3d8c_2d02
    ∷ 0x3fd8_b96d_e330_a854 ∷ 0xbfdb_6f48_45dd_87cf ∷ 0x3fe9_ca74_d2a4_b73d ∷ 0x3fda_20bd_700c_2c46
    ∷ 0xbfe2_1f2f_affe_6d42 ∷ 0x3fbc_c518_0930_be05 ∷ 0xbfea_20bd_700c_2c3f ∷ 0xbfe6_86bb_3d0e_169c
    ∷ 0xbfe2_992e_d058_87ba ∷ 0x3fda_20bd_700c_2c3d ∷ [])
    ∷ []

pub slips : shown ≡ original
unfolding of_bits to_bits neg add sub mul div lt eq is_nan magnitude sign_of smaller larger is_zero square_root go
    repeated rotation_of pair_turned rows_turned columns_turned line_copied line_cleared times_from largest_of scaled squares_of
    reflection_of row_times tail_less row_less row_reflected reflected_right row_added rows_added column_sums row_less_all
    row_less_times lower_less rows_less reflected_left column_matrix row_matrix factor_reflected column_zeroed row_zeroed
    places_zeroed bidiagonal turned singular negligible steps swept steps_moves sweep_moves quiet_corner pass run counted looked bad_readings first_of accepted
    outcome identity default_tolerance default_absolute default_floor
slips = refl
