-- `row_times` meets its contract: after the turns up to k, the sum is `row_times` of k entries. Assumes nothing.
use mathlib.Core.Path.{◌≡◌}
use lib.Ieee.{binary64}
use Rattle.method.specs.Reflection.{row_times}
use Rattle.svd.proofs.householder.row_times.Given as goal

abbrev pub invariant-loop-k : goal.invariant-loop-k
invariant-loop-k l = l.sum ≡ row_times binary64 l.p 0 l.k l.row
