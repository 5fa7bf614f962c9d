-- `row_times` meets its contract: after the turns up to k, the sum is `row_times` of k entries. Assumes nothing.
use native.Mathlib.Nat.{zero-add}
use Rattle.method.proofs.Repeated.{repeated-none, repeated-more}
use Rattle.method.specs.Reflection.{row_times}
use Rattle.svd.proofs.householder.row_times.Goals as goal

pub loop-k-init : goal.loop-k-init
unfolding row_times
loop-k-init c = repeated-none 1 _ _

pub loop-k-preserved : goal.loop-k-preserved
unfolding row_times
loop-k-preserved c = rw zero-add at (repeated-more 1 _ _ _ _ c.loop-k.auto.k c.loop-k.invariant)
