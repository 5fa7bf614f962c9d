-- How the tables of cases write their inputs and answers: floats as bit patterns, a report as a list of numbers,
-- settings. Definitions only.
use Rattle.std.specs.Prelude.{List, [], ◌∷◌, map, ℕ, Float}
use Rattle.std.specs.Float.{binary64}
use Rattle.std.specs.Float.Ieee.{of_bits, to_bits}
use Rattle.method.specs.Report.{word_number, Report}
use Rattle.method.specs.Settings.{Settings}
use Rattle.method.specs.Defaults.{default_tolerance, default_absolute}

-- ---- answers as numbers: floats by their patterns, none 0, settled 1, stopped 2, quiet 3

abbrev pub bits : List Float → List ℕ
bits xs = map (to_bits binary64) xs

abbrev pub floats : List ℕ → List Float
floats xs = map (of_bits binary64) xs

-- number, word, passes, sweeps, drops, range left and rotations
abbrev pub of_report : Report → List ℕ
of_report r =
    let t = r.tally in
    r.refusal.number ∷ word_number r.word ∷ t.passes ∷ t.sweeps ∷ t.drops ∷ t.range ∷ t.rotations ∷ []

abbrev pub given : ℕ → ℕ → Float → Settings
given limit credit floor =
    record { limit = limit; credit = credit; tolerance = default_tolerance; absolute = default_absolute; floor = floor }
