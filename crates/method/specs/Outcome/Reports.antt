-- What it is for a report to be true, the moves that a run makes, and the settings and the report of a run at another
-- limit. Definitions only.
use Rattle.std.specs.Prelude.{◌≡◌, Bool, List, ℕ, ◌+◌, ◌-◌, ◌*◌, ◌≤◌}
use Rattle.std.specs.Float.{Format}
use Rattle.method.specs.Work.{Work, Shape}
use Rattle.method.specs.Walk.{Tally, State}
use Rattle.method.specs.Walk.Turns.{walk_moves}
use Rattle.method.specs.Moves.{Move, sweep_moves}
use Rattle.method.specs.Checks.{nowhere, not_refused}
use Rattle.method.specs.Report.{settled, Report}
use Rattle.method.specs.Outcome.{is_upper, rules_for}
use Rattle.method.specs.Settings.{Settings}

-- ---- what every accepted run reports, over a diagonal of c entries

pub record TrueReport (s : Settings) (c : ℕ) (r : Report) : Type 0 where
  pub number : r.refusal.number ≡ 0
  pub place : r.refusal.place ≡ nowhere
  pub each : r.tally.passes ≡ r.tally.sweeps + r.tally.drops
  pub drops : r.tally.drops ≡ c - r.tally.range
  pub range : (1 ≤ r.tally.range) × (r.tally.range ≤ c)
  pub few : r.tally.passes ≤ s.limit + s.credit * (c - 2)
  pub none : c ≡ 1 → r.tally.passes ≡ 0
  pub turns : r.tally.rotations ≤ 2 * (c - 1) * r.tally.sweeps

-- ---- the sweeps' moves

-- of a sweep over range r, whose last 2 x 2 starts at r - 2
abbrev pub range_moves : Bool → ℕ → List Move
range_moves upper r = sweep_moves upper (r - 2)

-- the moves of n passes of a run
abbrev pub moves_made : Format → Shape → ℕ → ℕ → Settings → ℕ → State Work → List Move
moves_made f z rows cols s n first =
    walk_moves (rules_for f z rows cols s) (range_moves (is_upper rows cols)) s.credit n first

-- ---- at a greater limit

abbrev pub at_limit : ℕ → Settings → Settings
at_limit n s =
    record { limit = n; credit = s.credit; tolerance = s.tolerance; absolute = s.absolute; floor = s.floor }

-- the report of a run that settled with these counts
abbrev pub settled_report : Tally → Report
settled_report t = record { refusal = not_refused; word = settled; tally = t }
