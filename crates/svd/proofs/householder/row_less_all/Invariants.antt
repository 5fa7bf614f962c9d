-- `row_less_all` meets its contract: after l turns the row is `row_less_all` of l entries. Assumes nothing.
use mathlib.Core.Path.{◌≡◌}
use lib.Ieee.{binary64}
use Rattle.method.specs.Reflection.{row_less_all}
use Rattle.svd.proofs.householder.row_less_all.Given as goal

abbrev pub invariant-loop-l : goal.invariant-loop-l
invariant-loop-l l = l.row ≡ row_less_all binary64 l.w 0 l.l l.initial.row
