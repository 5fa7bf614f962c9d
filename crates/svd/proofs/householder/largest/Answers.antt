-- `largest` meets its contract: after k turns max is `largest_of` k entries. Assumes nothing.
use Prim.Native.Nat.{zero-le}
use native.Mathlib.Nat.{zero-add}
use mathlib.Core.Path.{◌∙◌}
use Rattle.method.proofs.Repeated.{repeated-none, repeated-more}
use Rattle.method.specs.Reflection.{largest_of}
use Rattle.method.proofs.Reflection.{widened-taken, widened-left}
use Rattle.method.proofs.Floats.{plus_zero-64}
use Rattle.svd.proofs.householder.largest.Goals.{else-x-max, then-x-max}
use Rattle.svd.proofs.householder.largest.Goals as goal

pub loop-entry-init : goal.loop-entry-init
unfolding largest_of
loop-entry-init c = plus_zero-64 ∙ repeated-none 0 _ _

pub loop-entry-preserved : goal.loop-entry-preserved
unfolding largest_of
loop-entry-preserved c =
    let more = rw zero-add at (repeated-more 0 _ _ _ _ zero-le c.loop-entry.invariant) in
    elim c.if-x-max.branch [
      | then-x-max w ↦ w.max-is ∙ widened-taken _ _ _ w.if-x-max.true c.magnitude-x.ensures ∙ more
      | else-x-max w ↦ w.max-is ∙ widened-left _ _ _ w.if-x-max.false c.magnitude-x.ensures ∙ more
    ]
