-- `copy_line` meets its contract: after k turns w is `line_copied` of k entries. Assumes nothing.
use mathlib.Core.Path.{◌≡◌}
use Rattle.method.specs.Reflection.{line_copied}
use Rattle.svd.proofs.householder.copy_line.Given as goal

abbrev pub invariant-loop-k : goal.invariant-loop-k
invariant-loop-k l = l.w ≡ line_copied l.at l.step l.k l.a
