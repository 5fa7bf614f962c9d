-- Zeros and NaNs, by cases: a float, and a row. Definitions only.
use Rattle.std.specs.Prelude.{◌≡◌, List, ℕ, get_or}
use Rattle.std.specs.Float.Ieee.{Float, nan}
use Rattle.std.specs.Float.{inf, fin}

-- ---- the same by cases

abbrev pub Nought : Float → Type 0
Nought nan = Unit {0}
Nought (inf s) = ⊥
Nought (fin s m e) = m ≡ 0

-- ---- rows

-- every entry, and what lies beyond the last
abbrev pub Noughts : List Float → Type 0
Noughts r = (k : ℕ) → Nought (get_or r k nan)
