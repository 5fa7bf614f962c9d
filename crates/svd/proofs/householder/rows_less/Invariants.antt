-- `rows_less` meets its contract: after the turns up to k, a is `lower_less` of k rows, once the first is done. Assumes nothing.
use mathlib.Core.Path.{◌≡◌}
use lib.Ieee.{binary64}
use Rattle.method.specs.Reflection.{lower_less}
use Rattle.svd.proofs.householder.rows_less.Given as goal

abbrev pub invariant-loop-k : goal.invariant-loop-k
invariant-loop-k l = l.a ≡ lower_less binary64 l.r.vector l.w l.window.stride l.window.row l.window.column l.k l.window.cols l.initial.a
