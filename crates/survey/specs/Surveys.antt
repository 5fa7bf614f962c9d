-- What is said of a survey of a text. Definitions only; that it holds of every survey of any text is `surveys`, in
-- proofs/Surveys.
use Rattle.std.specs.Prelude.{◌≡◌, true, ◌↔◌, ◌⊎◌, ℕ, ◌*◌, ◌<◌, Float, length, get_or}
use Rattle.std.proofs.Math.Bool.{false}
use mathlib.Core.List.{List, [], ◌∷◌, ◌++◌, Memᴰ}
use Rattle.std.specs.Float.{nan}
use Rattle.std.specs.Float.Ieee.{binary64}
use Rattle.std.specs.Float.Ieee.Scale.{finite}
use Rattle.method.specs.Work.{work}
use Rattle.method.specs.Checks.{Place}
use Rattle.method.specs.Checks.Readings.{BadReading, FirstBad}
use Rattle.method.specs.Outcome.{Outcome, plain_outcome, accepted}
use Rattle.method.specs.Defaults.{defaults}
use Rattle.text.specs.Text.{Bytes, shown, line_text}
use Rattle.survey.specs.Form.{reading, Survey}
use Rattle.survey.specs.Print.{rows_text, refused_word, report_text, survey_text}
use Rattle.survey.specs.Found.{InRange}

-- ---- names for what is said below

-- s is a survey of the text t: one of those that are complete before the first malformed line
abbrev pub SurveyIn : Bytes → Survey → Type 0
SurveyIn t s = Memᴰ s (reading t).surveys

-- what the plain call at default settings answers for s
abbrev pub outcome_for : Survey → Outcome
outcome_for s = plain_outcome binary64 s.entry.rows s.entry.cols defaults s.readings

abbrev pub number : Survey → ℕ
number s = (outcome_for s).report.refusal.number

abbrev pub place : Survey → Place
place s = (outcome_for s).report.refusal.place

-- every reading is finite
abbrev pub AllFinite : List Float → Type 0
AllFinite xs = (k : ℕ) → k < length xs → finite (get_or xs k nan) ≡ true

-- one is not; and which is the first that is not, and how many are not
abbrev pub OneBad : Survey → Type 0
OneBad s = BadReading s.entry.cols s.entry.rows s.entry.cols s.readings

abbrev pub FirstOfBad : Survey → Place → Type 0
FirstOfBad s p = FirstBad s.entry.cols s.entry.rows s.entry.cols s.readings p

-- the outcome of an acceptance: the bidiagonal form, and then the walk
abbrev pub split_of : Survey → Outcome
split_of s = accepted binary64 false s.entry.rows s.entry.cols defaults (work s.readings [] [])

-- `id word passes sweeps drops range`, and the rows of the matrix
abbrev pub accepted_text : Survey → Bytes
accepted_text s =
    report_text s.entry.id (split_of s).report
    ++ rows_text s.entry.rows s.entry.cols (split_of s).held.matrix

-- `id refused 8 row column count`
abbrev pub refused_at : Survey → Place → Bytes
refused_at s p =
    line_text
    (shown s.entry.id ∷ refused_word ∷ shown 8 ∷ shown p.row ∷ shown p.column ∷ shown p.bad ∷ [])

-- What holds of a survey of a text.
pub record Judged (s : Survey) : Type 0 where
  -- its numbers are in range, and it has as many readings as its rows and columns say
  pub entry_fit : InRange s.entry
  pub size : length s.readings ≡ s.entry.rows * s.entry.cols
  -- it is accepted or refused by 8, and by no other number
  pub numbers : (number s ≡ 0) ⊎ (number s ≡ 8)
  -- accepted exactly when every reading is finite; the report and the rows are printed then
  pub accepted-when : (number s ≡ 0) ↔ AllFinite s.readings
  pub accepted-printed : number s ≡ 0 → survey_text s ≡ accepted_text s
  -- refused by 8 exactly when a reading is not; the line with the first such reading's row and column, and with how
  -- many there are, is printed then
  pub refused-when : (number s ≡ 8) ↔ OneBad s
  pub refused-place : number s ≡ 8 → FirstOfBad s (place s)
  pub refused-printed : number s ≡ 8 → survey_text s ≡ refused_at s (place s)
