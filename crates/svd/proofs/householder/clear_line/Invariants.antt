-- `clear_line` meets its contract: after k turns a is `line_cleared` of k entries. Assumes nothing.
use mathlib.Core.Path.{◌≡◌}
use Rattle.method.specs.Reflection.{line_cleared}
use Rattle.svd.proofs.householder.clear_line.Given as goal

abbrev pub invariant-loop-k : goal.invariant-loop-k
invariant-loop-k l = l.a ≡ line_cleared l.at l.step l.k l.initial.a
