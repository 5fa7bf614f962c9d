-- `apply_gt_right` meets its contract: after k turns a is `columns_turned` in k rows. Assumes nothing.
use Prim.Native.Nat.{zero-le}
use Rattle.method.proofs.Repeated.{repeated-none, repeated-more}
use Rattle.method.specs.Rotation.{columns_turned}
use Rattle.svd.proofs.givens.apply_gt_right.Goals as goal

pub loop-k-init : goal.loop-k-init
unfolding columns_turned
loop-k-init c = repeated-none 0 _ _

pub loop-k-preserved : goal.loop-k-preserved
unfolding columns_turned
loop-k-preserved c = rw c.turn_pair.ensures (repeated-more 0 _ _ _ _ zero-le c.loop-k.invariant)
