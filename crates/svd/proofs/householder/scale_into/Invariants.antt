-- `scale_into` meets its contract: after k turns w is `scaled` of k entries. Assumes nothing.
use mathlib.Core.Path.{◌≡◌}
use lib.Ieee.{binary64}
use Rattle.method.specs.Reflection.{scaled}
use Rattle.svd.proofs.householder.scale_into.Given as goal

abbrev pub invariant-loop-k : goal.invariant-loop-k
invariant-loop-k l = l.w ≡ scaled binary64 l.entries 0 l.x l.k
