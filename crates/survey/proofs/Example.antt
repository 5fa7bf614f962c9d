-- The rules' own examples (docs/RULES.md, 11.6), whole, by computing: a text, the same without its last LF, and one
-- with a bad reading. Assumes nothing.
use Rattle.std.specs.Prelude.{◌≡◌, refl, [], ◌∷◌, ◌++◌}
use Rattle.std.specs.Float.Ieee.{neg, add, sub, mul, div, lt, eq, is_nan, of_bits, to_bits}
use Rattle.method.specs.Floats.{magnitude, sign_of, smaller, larger}
use Rattle.method.specs.Root.{square_root}
use Rattle.method.specs.Repeated.{go, repeated}
use Rattle.method.specs.Rotation.{rotation_of, pair_turned, rows_turned, columns_turned}
use Rattle.method.specs.Reflection.{line_copied, line_cleared, times_from, largest_of, scaled, squares_of, reflection_of, row_times, tail_less, row_less, row_reflected, reflected_right, row_added, rows_added, column_sums, row_less_all, row_less_times, lower_less, rows_less, reflected_left}
use Rattle.method.specs.Bidiagonal.{column_matrix, row_matrix, factor_reflected, column_zeroed, row_zeroed, places_zeroed, bidiagonal}
use Rattle.method.specs.Chase.{turned, singular, negligible, steps, swept}
use Rattle.method.specs.Walk.{pass, run}
use Rattle.method.specs.Checks.{counted, looked, bad_readings, first_of}
use Rattle.method.specs.Outcome.{accepted, outcome}
use Rattle.method.specs.Defaults.{default_tolerance, default_absolute, default_floor}
use Rattle.text.specs.Text.{Bytes, LF, space, ◌>>=◌, when, cut, worth, value, decimal, number, pattern, digit, digits, places_by, shown, ending, line_text}
use Rattle.survey.specs.Form.{count_line, named, entry_line, row_line, short, line, and_then, contents, head, body, bodies, reading}
use Rattle.survey.specs.Print.{hex, row_text, rows_text, refused_word, report_text, refused_text, outcome_text, survey_text, surveys_text, malformed_text, printed, split}

-- twelve zeros
abbrev twelve : Bytes
twelve = 48 ∷ 48 ∷ 48 ∷ 48 ∷ 48 ∷ 48 ∷ 48 ∷ 48 ∷ 48 ∷ 48 ∷ 48 ∷ 48 ∷ []

-- 1, then 7 2 1, then 4008000000000000, and 4010000000000000 without its LF
abbrev unended : Bytes
unended = (49 ∷ LF ∷ []) ++ (55 ∷ space ∷ 50 ∷ space ∷ 49 ∷ LF ∷ []) ++ (52 ∷ 48 ∷ 48 ∷ 56 ∷ []) ++ twelve ++ (LF ∷ 52 ∷ 48 ∷ 49 ∷ 48 ∷ []) ++ twelve

-- 7 settled 0 0 0 1 0, then C014000000000000 and 0000000000000000
abbrev answer : Bytes
answer =
    (55 ∷ space ∷ 115 ∷ 101 ∷ 116 ∷ 116 ∷ 108 ∷ 101 ∷ 100 ∷ space ∷ 48 ∷ space ∷ 48 ∷ space ∷ 48 ∷ space ∷ 49
    ∷ space ∷ 48 ∷ LF ∷ [])
    ++ (67 ∷ 48 ∷ 49 ∷ 52 ∷ []) ++ twelve ++ (LF ∷ 48 ∷ 48 ∷ 48 ∷ 48 ∷ []) ++ twelve ++ (LF ∷ [])

-- 1, then 7 1 2, then 4008000000000000 7FF0000000000000
abbrev infinite : Bytes
infinite =
    (49 ∷ LF ∷ 55 ∷ space ∷ 49 ∷ space ∷ 50 ∷ LF ∷ [])
    ++ (52 ∷ 48 ∷ 48 ∷ 56 ∷ []) ++ twelve ++ (space ∷ 55 ∷ 70 ∷ 70 ∷ 48 ∷ []) ++ twelve ++ (LF ∷ [])

-- what is printed of each: the answer; without the last LF line 4 is malformed, refused 9 4; station 0 in pass 1 is
-- infinite, the only one, 7 refused 8 0 1 1
pub examples :
    (split (unended ++ (LF ∷ [])) ∷ split unended ∷ split infinite ∷ [])
    ≡ (
    answer
    ∷ (refused_word ++ (space ∷ 57 ∷ space ∷ 52 ∷ LF ∷ []))
    ∷ ((55 ∷ space ∷ []) ++ refused_word ++ (space ∷ 56 ∷ space ∷ 48 ∷ space ∷ 49 ∷ space ∷ 49 ∷ LF ∷ []))
    ∷ []
    )
unfolding of_bits to_bits neg add sub mul div lt eq is_nan magnitude sign_of smaller larger square_root go repeated
    rotation_of pair_turned rows_turned columns_turned line_copied line_cleared times_from largest_of scaled squares_of
    reflection_of row_times tail_less row_less row_reflected reflected_right row_added rows_added column_sums row_less_all
    row_less_times lower_less rows_less reflected_left column_matrix row_matrix factor_reflected column_zeroed row_zeroed
    places_zeroed bidiagonal turned singular negligible steps swept pass run counted looked bad_readings first_of accepted
    outcome default_tolerance default_absolute default_floor ◌>>=◌ when cut worth value decimal number pattern digit digits
    places_by shown ending line_text count_line named entry_line row_line short line and_then contents head body bodies
    reading hex row_text rows_text report_text refused_text outcome_text survey_text surveys_text malformed_text printed split
examples = refl
