-- The whole outcome of each public call, for every input (document 003, and the table of rule 2.1): the first refusal
-- that applies, with all lists as they were, or the accepted run's report and lists. Definitions only.
pub mod Reports
use Rattle.std.specs.Prelude.{Bool, true, false, List, [], ℕ, ◌-◌, leb, eqb, Float}
use Rattle.std.specs.Float.{Format}
use Rattle.method.specs.Floats.{pick}
use Rattle.method.specs.Work.{Work, Shape, work, packed}
use Rattle.method.specs.Bidiagonal.{bidiagonal}
use Rattle.method.specs.Chase.{negligible, swept}
use Rattle.method.specs.Moves.{sweep_rotations}
use Rattle.method.specs.Walk.{Rules, State, walked}
use Rattle.method.specs.Settings.{Settings}
use Rattle.method.specs.Checks.{refusal_of}
use Rattle.method.specs.Report.{Report, refused, reported}

-- ---- what a call answers

-- the report, and every list that was lent, as the call leaves it
pub record Outcome : Type 0 where
  pub report : Report
  pub held : Work

abbrev pub outcome_of : Report → Work → Outcome
outcome_of r w = record { report = r; held = w }

-- ---- the accepted run

-- the smaller of rows and columns, and whether the form is the upper one
abbrev pub card : ℕ → ℕ → ℕ
card rows cols = pick (leb cols rows) cols rows

abbrev pub is_upper : ℕ → ℕ → Bool
is_upper rows cols = leb cols rows

-- the walk's questions, at a range of 2 or more, whose last 2 x 2 starts at range - 2
abbrev pub rules_of : Format → Shape → Bool → Float → Float → Rules Work
rules_of f z upper tolerance absolute =
    record {
      negligible = λ r w. negligible f tolerance absolute z.stride upper (r - 2) w.matrix;
      sweep = λ r w. swept f z upper (r - 2) w;
      rotations = λ r. sweep_rotations upper (r - 2);
    }

-- the same from sizes and settings
abbrev pub rules_for : Format → Shape → ℕ → ℕ → Settings → Rules Work
rules_for f z rows cols s = rules_of f z (is_upper rows cols) s.tolerance s.absolute

-- the bidiagonal form that a run starts from
abbrev pub form_of : Format → Shape → ℕ → ℕ → Settings → Work → Work
form_of f z rows cols s w = bidiagonal f s.floor z (is_upper rows cols) (card rows cols) w

-- the run: the bidiagonal form, and then the walk
abbrev pub walked_from : Format → Shape → ℕ → ℕ → Settings → Work → State Work
walked_from f z rows cols s w =
    walked (rules_for f z rows cols s) s.limit s.credit (card rows cols) (form_of f z rows cols s w)

-- what is answered of the state that a run over a packed table came to: its report, and its lists
abbrev pub shown_by : ℕ → ℕ → State Work → Outcome
shown_by rows cols e = outcome_of (reported (is_upper rows cols) cols e) e.held

unfoldable pub accepted : Format → Bool → ℕ → ℕ → Settings → Work → Outcome
accepted f kept rows cols s w = shown_by rows cols (walked_from f (packed kept rows cols) rows cols s w)

-- ---- the calls

unfoldable pub outcome : Format → Bool → ℕ → ℕ → Settings → Work → Outcome
outcome f kept rows cols s w =
    elim (eqb (refusal_of kept rows cols s w).number 0) [
      | true ↦ accepted f kept rows cols s w
      | false ↦ outcome_of (refused (refusal_of kept rows cols s w)) w
    ]

-- the accumulating call
abbrev pub full_outcome : Format → ℕ → ℕ → Settings → Work → Outcome
full_outcome f rows cols s w = outcome f true rows cols s w

-- the plain call: the same with no rows of U and V
abbrev pub plain_outcome : Format → ℕ → ℕ → Settings → List Float → Outcome
plain_outcome f rows cols s b = outcome f false rows cols s (work b [] [])
