-- `add_row` meets its contract: after l turns w is `row_added` of l entries. Assumes nothing.
use Prim.Native.Nat.{zero-le}
use native.Mathlib.Nat.{zero-add}
use Rattle.method.proofs.Repeated.{repeated-none, repeated-more}
use Rattle.method.specs.Reflection.{row_added}
use Rattle.svd.proofs.householder.add_row.Goals as goal

pub loop-l-init : goal.loop-l-init
unfolding row_added
loop-l-init c = repeated-none 0 _ _

pub loop-l-preserved : goal.loop-l-preserved
unfolding row_added
loop-l-preserved c = rw zero-add at (repeated-more 0 _ _ _ _ zero-le c.loop-l.invariant)
