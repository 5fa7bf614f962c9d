-- `rapply_householder` meets its contract: after k turns a is `reflected_right` of k rows. Assumes nothing.
use mathlib.Core.Path.{◌≡◌}
use lib.Ieee.{binary64}
use Rattle.method.specs.Reflection.{reflected_right}
use Rattle.svd.proofs.householder.rapply_householder.Given as goal

abbrev pub invariant-loop-k : goal.invariant-loop-k
invariant-loop-k l = l.a ≡ reflected_right binary64 l.r.vector l.r.tau l.window.stride l.window.row l.window.column l.k l.window.cols l.initial.a
