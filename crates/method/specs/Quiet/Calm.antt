-- A calm roadway: every reading is zero, of either sign; and what the run counts and leaves there. Definitions only.
use Rattle.std.specs.Prelude.{◌≡◌, List, ℕ, ◌-◌, ◌*◌, ◌<◌, length, get_or, Float}
use Rattle.std.proofs.Math.Bool.{true}
use Rattle.std.specs.Float.{nan}
use Rattle.method.specs.Floats.{is_zero}
use Rattle.method.specs.Walk.{Tally}
use Rattle.method.specs.Report.{quiet}
use Rattle.method.specs.Outcome.{Outcome}

-- every entry is +0 or -0
abbrev pub AllZero : List Float → Type 0
AllZero a = (i : ℕ) → i < length a → is_zero (get_or a i nan) ≡ true

-- what is counted: the limit was used up by sweeps over the whole range of c, each with all its rotations
abbrev pub tally_calm : ℕ → ℕ → Tally
tally_calm limit c =
    record { range = c; passes = limit; sweeps = limit; drops = 0; rotations = 2 * (c - 1) * limit }

-- what is answered: quiet with these counts, and the table is zeros still
pub record Calm (limit c : ℕ) (o : Outcome) : Type 0 where
  pub word : o.report.word ≡ quiet
  pub tally : o.report.tally ≡ tally_calm limit c
  pub matrix : AllZero o.held.matrix
