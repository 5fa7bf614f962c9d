-- The outcome of the ordered call (rule 9.4), for every input: the first refusal before the run that applies, with all
-- lists as they were; else the accumulating run, and then the first refusal after it, with report and lists as the run
-- has them and the list of values as it was; else values, U and V in order. Definitions only.
pub mod Numbers
use Rattle.std.specs.Prelude.{Bool, true, false, not, ◌&&◌, List, [], ◌∷◌, ◌++◌, ℕ, eqb, length, Float}
use Rattle.std.specs.Float.{Format}
use Rattle.std.specs.Float.Ieee.Scale.{finite}
use Rattle.method.specs.Repeated.{repeated}
use Rattle.method.specs.Work.{Work, work}
use Rattle.method.specs.Settings.{Settings}
use Rattle.method.specs.Checks.{Check, check, Refusal, first_of}
use Rattle.method.specs.Checks.{table_checks, setting_checks, reading_checks}
use Rattle.method.specs.Report.{Word, is_settled, Report, refused}
use Rattle.method.specs.Outcome.{Outcome, outcome_of, card, accepted}
use Rattle.method.specs.Order.{diagonal, old_position, values_by, u_by, v_by}

-- what the call leaves: report and lists, as of a run, and the lent list of values
pub record Ordered : Type 0 where
  pub run : Outcome
  pub values : List Float

abbrev pub ordered_of : Outcome → List Float → Ordered
ordered_of o l = record { run = o; values = l }

-- ---- what is checked before the run

-- the list has c entries
abbrev pub list_checks : ℕ → ℕ → List Float → List Check
list_checks rows cols l = check 11 (not (eqb (length l) (card rows cols))) ∷ []

-- all that is lent: the sizes, then the lengths, that of the list last
abbrev pub lent_checks : ℕ → ℕ → Work → List Float → List Check
lent_checks rows cols w l = table_checks true rows cols w ++ list_checks rows cols l

-- and then what the accumulating call checks besides
abbrev pub ordered_checks : ℕ → ℕ → Settings → Work → List Float → List Check
ordered_checks rows cols s w l = lent_checks rows cols w l ++ setting_checks s ++ reading_checks rows cols w.matrix

abbrev pub ordered_refusal : ℕ → ℕ → Settings → Work → List Float → Refusal
ordered_refusal rows cols s w l = first_of (ordered_checks rows cols s w l)

-- ---- what is checked after it

-- whether the first c entries of a diagonal are finite
unfoldable pub all_finite : ℕ → (ℕ → Float) → Bool
all_finite c d = repeated 0 c (λ i t. t && finite (d i)) true

abbrev pub run_checks : ℕ → (ℕ → Float) → Word → List Check
run_checks c d word =
    check 12 (not (is_settled word))
    ∷ check 13 (not (all_finite c d))
    ∷ []

-- ---- the outcome

-- U and V in the order of the diagonal; the matrix stays
abbrev pub moved_by : ℕ → ℕ → ℕ → (ℕ → Float) → Work → Work
moved_by rows cols c d w =
    let p = old_position c d in
    work w.matrix (u_by rows c p d w.u) (v_by cols c p w.v)

-- a run's report with the refusal that came after it
abbrev pub refused_after : Refusal → Report → Report
refused_after r e = record { refusal = r; word = e.word; tally = e.tally }

-- what a run left, put in order
unfoldable pub put_in_order : ℕ → ℕ → Outcome → List Float → Ordered
put_in_order rows cols o l =
    let c = card rows cols in
    let d = diagonal cols o.held.matrix in
    let r = first_of (run_checks c d o.report.word) in
    elim (eqb r.number 0) [
      | true ↦ ordered_of (outcome_of o.report (moved_by rows cols c d o.held)) (values_by c (old_position c d) d l)
      | false ↦ ordered_of (outcome_of (refused_after r o.report) o.held) l
    ]

unfoldable pub ordered_outcome : Format → ℕ → ℕ → Settings → Work → List Float → Ordered
ordered_outcome f rows cols s w l =
    let r = ordered_refusal rows cols s w l in
    elim (eqb r.number 0) [
      | true ↦ put_in_order rows cols (accepted f true rows cols s w) l
      | false ↦ ordered_of (outcome_of (refused r) w) l
    ]
