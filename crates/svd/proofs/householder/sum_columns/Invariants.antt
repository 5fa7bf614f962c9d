-- `sum_columns` meets its contract: after the turns up to k, w is `rows_added` of k rows, from the copy of the first. Assumes nothing.
use mathlib.Core.Path.{◌≡◌}
use lib.Ieee.{binary64}
use Rattle.method.specs.Reflection.{rows_added}
use Rattle.svd.proofs.householder.sum_columns.Given as goal

abbrev pub invariant-loop-k : goal.invariant-loop-k
invariant-loop-k l = l.w ≡ rows_added binary64 l.a l.r.vector l.window.stride l.window.row l.window.column l.k l.window.cols l.initial.w
