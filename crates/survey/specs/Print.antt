-- What `split` prints of any bytes: each survey that is complete before the first malformed line, by the plain call's
-- outcome at default settings, and then that line's number. Definitions only.
use Rattle.std.specs.Prelude.{true, false, List, [], ◌∷◌, ◌++◌, map, ℕ, zero, suc, eqb, take, drop, Float}
use Rattle.std.specs.Float.{binary64}
use Rattle.std.specs.Float.Ieee.{to_bits}
use Rattle.method.specs.Report.{Word, none, settled, stopped, quiet, Report}
use Rattle.method.specs.Outcome.{Outcome, plain_outcome}
use Rattle.method.specs.Defaults.{defaults}
use Rattle.text.specs.Text.{Bytes, digits, shown, line_text}
use Rattle.survey.specs.Form.{Survey, Reading, reading}

-- ---- tables

-- a float's 16 digits; a NaN's are 7FF8000000000000
unfoldable pub hex : Float → Bytes
unfolding digits
hex x = digits 16 16 (to_bits binary64 x)

-- a line of readings
unfoldable pub row_text : List Float → Bytes
row_text xs = line_text (map hex xs)

-- r lines of c readings
unfoldable pub rows_text : ℕ → ℕ → List Float → Bytes
rows_text zero c xs = []
rows_text (suc r) c xs = row_text (take c xs) ++ rows_text r c (drop c xs)

-- ---- words

-- `refused`
abbrev pub refused_word : Bytes
refused_word = 114 ∷ 101 ∷ 102 ∷ 117 ∷ 115 ∷ 101 ∷ 100 ∷ []

-- `none`, `settled`, `stopped` and `quiet`
abbrev pub word_text : Word → Bytes
word_text none = 110 ∷ 111 ∷ 110 ∷ 101 ∷ []
word_text settled = 115 ∷ 101 ∷ 116 ∷ 116 ∷ 108 ∷ 101 ∷ 100 ∷ []
word_text stopped = 115 ∷ 116 ∷ 111 ∷ 112 ∷ 112 ∷ 101 ∷ 100 ∷ []
word_text quiet = 113 ∷ 117 ∷ 105 ∷ 101 ∷ 116 ∷ []

-- ---- a survey

-- `id word passes sweeps drops range rotations`
unfoldable pub report_text : ℕ → Report → Bytes
report_text id r =
    let t = r.tally in
    line_text
    (shown id ∷ word_text r.word ∷ shown t.passes ∷ shown t.sweeps ∷ shown t.drops ∷ shown t.range
    ∷ shown t.rotations ∷ [])

-- `id refused number row column count`
unfoldable pub refused_text : ℕ → Report → Bytes
refused_text id r =
    let p = r.refusal.place in
    line_text
    (shown id ∷ refused_word ∷ shown r.refusal.number ∷ shown p.row ∷ shown p.column ∷ shown p.bad ∷ [])

-- the report and then the rows of the matrix; of a refusal its line alone
unfoldable pub outcome_text : ℕ → ℕ → ℕ → Outcome → Bytes
outcome_text id rows cols o =
    elim (eqb o.report.refusal.number 0) [
      | true ↦ report_text id o.report ++ rows_text rows cols o.held.matrix
      | false ↦ refused_text id o.report
    ]

unfoldable pub survey_text : Survey → Bytes
survey_text s =
    let e = s.entry in
    outcome_text e.id e.rows e.cols (plain_outcome binary64 e.rows e.cols defaults s.readings)

-- ---- the whole

unfoldable pub surveys_text : List Survey → Bytes
surveys_text [] = []
surveys_text (s ∷ ss) = survey_text s ++ surveys_text ss

-- `refused 9 line`, where a line is malformed
unfoldable pub malformed_text : ℕ → Bytes
malformed_text n =
    elim (eqb n 0) [
      | true ↦ []
      | false ↦ line_text (refused_word ∷ shown 9 ∷ shown n ∷ [])
    ]

-- of a reading, and of any bytes
unfoldable pub printed : Reading → Bytes
printed r = surveys_text r.surveys ++ malformed_text r.malformed_line

unfoldable pub split : Bytes → Bytes
split t = printed (reading t)
