-- What it is for each row to go its own way through the ordered call. Definitions only.
use Rattle.std.specs.Prelude.{◌≡◌, List, ℕ, Float}
use Rattle.method.specs.Work.{Work}
use Rattle.method.specs.Ordered.{Ordered}
use Rattle.method.specs.Rows.{OwnRows}

-- ---- two runs put in order

-- what two outcomes of the ordered call, on lists that began as w₀ and w₀', have in common
pub record OwnOrdered (rows cols : ℕ) (w₀ w₀' : Work) (l l' : List Float) (o o' : Ordered) : Type 0 where
  pub report : o.run.report ≡ o'.run.report
  pub held : OwnRows rows cols w₀ w₀' o.run.held o'.run.held
  -- the list of values, where it is written, and where the lists began alike
  pub values : o.run.report.refusal.number ≡ 0 → o.values ≡ o'.values
  pub same_values : l ≡ l' → o.values ≡ o'.values
