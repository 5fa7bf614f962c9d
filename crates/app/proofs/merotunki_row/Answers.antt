-- `merotunki_row` meets its contract: the part has the view's length n, and row k begins at entry k * n. Assumes
-- nothing.
use native.Mathlib.Omega.{arith}
use Rattle.app.specs.Row.{no_part, lies}
use Rattle.app.proofs.merotunki_row.Goals as goal

pub returns-then-size-eq0 : goal.returns-then-size-eq0
returns-then-size-eq0 c = no_part _ _ _ _ _ _ _ c.row_view-view.ensures.entries c.if-size-eq0.true

pub overflow_mul-start : goal.overflow_mul-start
overflow_mul-start c = record { fits = omega (arith, (lies _ _ _ _ _ _ _ c.row_view-view.ensures.entries c.if-size-eq0.false).near) }

pub returns : goal.returns
returns c = (lies _ _ _ _ _ _ _ c.row_view-view.ensures.entries c.if-size-eq0.false).sought
