-- Calls by a profile's number on small tables, as one table, computed (rule 12.8): the answers are those of the original's
-- runs with the profile's settings, and of the rule's refusals. Assumes nothing.
use Rattle.std.specs.Prelude.{◌≡◌, refl, true, List, [], ◌∷◌, ◌++◌, map, ℕ}
use Rattle.std.specs.Float.{binary64}
use Rattle.std.specs.Float.Ieee.{neg, add, sub, mul, div, lt, eq, is_nan, of_bits, to_bits}
use Rattle.method.specs.Floats.{magnitude, sign_of, smaller, larger, is_zero}
use Rattle.method.specs.Root.{square_root}
use Rattle.method.specs.Repeated.{go, repeated}
use Rattle.method.specs.Work.{work}
use Rattle.method.specs.Rotation.{rotation_of, pair_turned, rows_turned, columns_turned}
use Rattle.method.specs.Reflection.{line_copied, line_cleared, times_from, largest_of, scaled, squares_of}
use Rattle.method.specs.Reflection.{reflection_of, row_times, tail_less, row_less, row_reflected, reflected_right}
use Rattle.method.specs.Reflection.{row_added, rows_added, column_sums, row_less_all, row_less_times, lower_less}
use Rattle.method.specs.Reflection.{rows_less, reflected_left}
use Rattle.method.specs.Bidiagonal.{column_matrix, row_matrix, factor_reflected, column_zeroed, row_zeroed}
use Rattle.method.specs.Bidiagonal.{places_zeroed, bidiagonal}
use Rattle.method.specs.Chase.{turned, singular, negligible, steps, swept}
use Rattle.method.specs.Moves.{steps_moves, sweep_moves}
use Rattle.method.specs.Quiet.{quiet_corner}
use Rattle.method.specs.Walk.{pass, run}
use Rattle.method.specs.Checks.{Refusal, counted, looked, bad_readings, first_of}
use Rattle.method.specs.Outcome.{accepted}
use Rattle.method.specs.Cases.{bits, floats, of_report}
use Rattle.method.specs.Profiles.{picked, refusal_by, ordered_refusal_by, profile_outcome, profile_plain}

-- 1 and NaN
abbrev I : ℕ
I = 0x3ff0_0000_0000_0000

abbrev N : ℕ
N = 0x7ff8_0000_0000_0000

-- ---- runs: report and matrix of 2 x 2 (1, b), (0, 1) by a profile

abbrev ran : ℕ → ℕ → List ℕ
ran b k =
    let o = profile_plain binary64 2 2 k (floats (I ∷ b ∷ 0 ∷ I ∷ [])) in
    of_report o.report ++ bits o.held.matrix

-- settled by a drop alone: the form, with the coupling left
abbrev dropped : ℕ → List ℕ
dropped b = 0 ∷ 1 ∷ 1 ∷ 0 ∷ 1 ∷ 1 ∷ 0 ∷ 0xbff0_0000_0000_0000 ∷ b ∷ 0 ∷ 0xbff0_0000_0000_0000 ∷ []

-- settled by a sweep and a drop
abbrev swept_once : ℕ → ℕ → ℕ → List ℕ
swept_once a b d = 0 ∷ 1 ∷ 2 ∷ 1 ∷ 1 ∷ 1 ∷ 2 ∷ a ∷ b ∷ 0 ∷ d ∷ []

abbrev numbers : List ℕ
numbers = 1 ∷ 2 ∷ 3 ∷ 4 ∷ []

-- a coupling of 1e-9, of 5e-13 and of 5e-14; each by the vane, the hot wire, the ultrasonic and the smoke tube
abbrev runs : List (List (List ℕ))
runs =
    map (ran 0x3e11_2e0b_e826_d695) numbers
    ∷ map (ran 0x3d61_9799_812d_ea11) numbers
    ∷ map (ran 0x3d2c_25c2_6849_7682) numbers
    ∷ []

abbrev original : List (List (List ℕ))
original =
    (
    swept_once 0xbff0_0000_0022_5c17 0xbc90_0000_0000_0000 0xbfef_ffff_ffbb_47cf
    ∷ swept_once 0xbff0_0000_0022_5c17 0xbc90_0000_0000_0000 0xbfef_ffff_ffbb_47cf
    ∷ swept_once 0xbff0_0000_0022_5c17 0xbc90_0000_0000_0000 0xbfef_ffff_ffbb_47cf
    ∷ dropped 0x3e11_2e0b_e826_d694
    ∷ []
    )
    ∷ (
    dropped 0x3d61_9799_812d_ea11
    ∷ swept_once 0xbff0_0000_0000_0466 0x3ca0_0000_0000_0000 0xbfef_ffff_ffff_f734
    ∷ swept_once 0xbff0_0000_0000_0466 0x3ca0_0000_0000_0000 0xbfef_ffff_ffff_f734
    ∷ dropped 0x3d61_9799_812d_ea11
    ∷ []
    )
    ∷ (
    dropped 0x3d2c_25c2_6849_7682
    ∷ dropped 0x3d2c_25c2_6849_7682
    ∷ swept_once 0xbff0_0000_0000_0070 0xbca0_0000_0000_0000 0xbfef_ffff_ffff_ff1e
    ∷ dropped 0x3d2c_25c2_6849_7682
    ∷ []
    )
    ∷ []

pub profile-cases : runs ≡ original
unfolding of_bits to_bits neg add sub mul div lt eq is_nan magnitude sign_of smaller larger is_zero square_root go
    repeated rotation_of pair_turned rows_turned columns_turned line_copied line_cleared times_from largest_of scaled squares_of
    reflection_of row_times tail_less row_less row_reflected reflected_right row_added rows_added column_sums row_less_all
    row_less_times lower_less rows_less reflected_left column_matrix row_matrix factor_reflected column_zeroed row_zeroed
    places_zeroed bidiagonal turned singular negligible steps swept steps_moves sweep_moves quiet_corner pass run counted
    looked bad_readings first_of accepted picked profile_outcome
profile-cases = refl

-- ---- refusals: the number, and the place

abbrev told : Refusal → List ℕ
told r = r.number ∷ r.place.row ∷ r.place.column ∷ r.place.bad ∷ []

-- of a 2 x 2 table with its own U and V, and of the same with a list of values
abbrev refuses : ℕ → List ℕ → List ℕ → List ℕ
refuses k b u = told (refusal_by true 2 2 k (work (floats b) (floats u) (floats (I ∷ 0 ∷ 0 ∷ I ∷ []))))

abbrev refuses_list : ℕ → List ℕ → List ℕ → List ℕ
refuses_list k b l =
    let square = floats (I ∷ 0 ∷ 0 ∷ I ∷ []) in
    told (ordered_refusal_by 2 2 k (work (floats b) square square) (floats l))

abbrev answers : List (List ℕ)
answers =
    map (λ k. refuses k (I ∷ I ∷ I ∷ I ∷ []) (I ∷ 0 ∷ 0 ∷ I ∷ [])) (0 ∷ 1 ∷ 2 ∷ 3 ∷ 4 ∷ 5 ∷ 0x1_0000_0002 ∷ [])
    ++ refuses 0 (I ∷ I ∷ I ∷ []) (I ∷ 0 ∷ 0 ∷ I ∷ [])
    ∷ refuses 5 (I ∷ I ∷ I ∷ I ∷ []) (I ∷ [])
    ∷ refuses 5 (I ∷ N ∷ I ∷ I ∷ []) (I ∷ 0 ∷ 0 ∷ I ∷ [])
    ∷ refuses 4 (I ∷ N ∷ I ∷ I ∷ []) (I ∷ 0 ∷ 0 ∷ I ∷ [])
    ∷ refuses_list 5 (I ∷ N ∷ I ∷ I ∷ []) (I ∷ [])
    ∷ refuses_list 5 (I ∷ N ∷ I ∷ I ∷ []) (I ∷ I ∷ [])
    ∷ refuses_list 1 (I ∷ N ∷ I ∷ I ∷ []) (I ∷ I ∷ [])
    ∷ []

abbrev ruled : List (List ℕ)
ruled =
    -- 0, then 1 to 4, then 5 and 2^32 + 2
    (10 ∷ 0 ∷ 0 ∷ 0 ∷ [])
    ∷ (0 ∷ 0 ∷ 0 ∷ 0 ∷ [])
    ∷ (0 ∷ 0 ∷ 0 ∷ 0 ∷ [])
    ∷ (0 ∷ 0 ∷ 0 ∷ 0 ∷ [])
    ∷ (0 ∷ 0 ∷ 0 ∷ 0 ∷ [])
    ∷ (10 ∷ 0 ∷ 0 ∷ 0 ∷ [])
    ∷ (10 ∷ 0 ∷ 0 ∷ 0 ∷ [])
    -- no such profile, and the matrix too short, or U: 3 and 4 come first
    ∷ (3 ∷ 0 ∷ 0 ∷ 0 ∷ [])
    ∷ (4 ∷ 0 ∷ 0 ∷ 0 ∷ [])
    -- no such profile, and a bad reading: 10 comes first, and carries no place; with a profile 8 has its place
    ∷ (10 ∷ 0 ∷ 0 ∷ 0 ∷ [])
    ∷ (8 ∷ 0 ∷ 1 ∷ 1 ∷ [])
    -- the ordered call: 11, then 10, then 8
    ∷ (11 ∷ 0 ∷ 0 ∷ 0 ∷ [])
    ∷ (10 ∷ 0 ∷ 0 ∷ 0 ∷ [])
    ∷ (8 ∷ 0 ∷ 1 ∷ 1 ∷ [])
    ∷ []

pub profile-refusals : answers ≡ ruled
unfolding of_bits go repeated counted looked bad_readings first_of
profile-refusals = refl
