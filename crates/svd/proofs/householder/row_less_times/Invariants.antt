-- `row_less_times` meets its contract: after l turns the row is `row_less_times` of l entries. Assumes nothing.
use mathlib.Core.Path.{◌≡◌}
use lib.Ieee.{binary64}
use Rattle.method.specs.Reflection.{row_less_times}
use Rattle.svd.proofs.householder.row_less_times.Given as goal

abbrev pub invariant-loop-l : goal.invariant-loop-l
invariant-loop-l l = l.row ≡ row_less_times binary64 l.w l.x 0 l.l l.initial.row
