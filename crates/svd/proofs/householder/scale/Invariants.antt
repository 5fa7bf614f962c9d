-- `scale` meets its contract: after k turns w is `times_from` of k entries. Assumes nothing.
use mathlib.Core.Path.{◌≡◌}
use lib.Ieee.{binary64}
use Rattle.method.specs.Reflection.{times_from}
use Rattle.svd.proofs.householder.scale.Given as goal

abbrev pub invariant-loop-entry : goal.invariant-loop-entry
invariant-loop-entry l = l.w ≡ times_from binary64 l.x 0 l.entry-index l.initial.w
