-- What the word says of the range left and of the table. Definitions only.
use Rattle.std.specs.Prelude.{◌≡◌, ◌↔◌, Bool, List, ℕ, ◌<◌, Float}
use Rattle.method.specs.Quiet.{QuietCorner}
use Rattle.method.specs.Report.{Word, settled, stopped, quiet}

-- of a table a and the range r that a walk left: what its word says, and so which word it is
pub record TrueWord (upper : Bool) (stride r : ℕ) (a : List Float) (w : Word) : Type 0 where
  pub settled : (w ≡ settled) ↔ (r ≡ 1)
  pub quiet : (w ≡ quiet) ↔ ((1 < r) × QuietCorner upper stride r a)
  pub stopped : (w ≡ stopped) ↔ ((1 < r) × (¬ QuietCorner upper stride r a))
