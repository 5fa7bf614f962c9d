-- `row_less_times` meets its contract: after l turns the row is `row_less_times` of l entries. Assumes nothing.
use Prim.Native.Nat.{zero-le}
use native.Mathlib.Nat.{zero-add}
use Rattle.method.proofs.Repeated.{repeated-none, repeated-more}
use Rattle.method.specs.Reflection.{row_less_times}
use Rattle.svd.proofs.householder.row_less_times.Goals as goal

pub loop-l-init : goal.loop-l-init
unfolding row_less_times
loop-l-init c = repeated-none 0 _ _

pub loop-l-preserved : goal.loop-l-preserved
unfolding row_less_times
loop-l-preserved c = rw zero-add at (repeated-more 0 _ _ _ _ zero-le c.loop-l.invariant)
