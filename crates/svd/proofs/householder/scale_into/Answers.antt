-- `scale_into` meets its contract: after k turns w is `scaled` of k entries. Assumes nothing.
use Prim.Native.Nat.{zero-le}
use native.Mathlib.Nat.{zero-add}
use Rattle.method.proofs.Repeated.{repeated-none, repeated-more}
use Rattle.method.specs.Reflection.{scaled}
use mathlib.Core.Path.{◌∙◌}
use Rattle.svd.proofs.householder.scale_into.Goals as goal

pub loop-k-init : goal.loop-k-init
unfolding scaled
loop-k-init c = c.requires.1 ∙ repeated-none 0 _ _

pub loop-k-preserved : goal.loop-k-preserved
unfolding scaled
loop-k-preserved c = rw zero-add at (repeated-more 0 _ _ _ _ zero-le c.loop-k.invariant)
