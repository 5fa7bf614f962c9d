-- `apply_g_left` meets its contract: after k turns a is `rows_turned` in k columns. Assumes nothing.
use Prim.Native.Nat.{zero-le}
use Rattle.method.proofs.Repeated.{repeated-none, repeated-more}
use Rattle.method.specs.Rotation.{rows_turned}
use Rattle.svd.proofs.givens.apply_g_left.Goals as goal

pub loop-k-init : goal.loop-k-init
unfolding rows_turned
loop-k-init c = repeated-none 0 _ _

pub loop-k-preserved : goal.loop-k-preserved
unfolding rows_turned
loop-k-preserved c = rw c.turn_pair.ensures (repeated-more 0 _ _ _ _ zero-le c.loop-k.invariant)
