-- `add_row` meets its contract: after l turns w is `row_added` of l entries. Assumes nothing.
use mathlib.Core.Path.{◌≡◌}
use lib.Ieee.{binary64}
use Rattle.method.specs.Reflection.{row_added}
use Rattle.svd.proofs.householder.add_row.Given as goal

abbrev pub invariant-loop-l : goal.invariant-loop-l
invariant-loop-l l = l.w ≡ row_added binary64 l.row l.x 0 l.l l.initial.w
