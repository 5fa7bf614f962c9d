-- `clear_line` meets its contract: after k turns a is `line_cleared` of k entries. Assumes nothing.
use Prim.Native.Nat.{zero-le}
use Rattle.method.proofs.Floats.{plus_zero-64}
use Rattle.method.proofs.Repeated.{repeated-none, repeated-more}
use Rattle.method.specs.Reflection.{line_cleared}
use Rattle.svd.proofs.householder.clear_line.Goals as goal

pub loop-k-init : goal.loop-k-init
unfolding line_cleared
loop-k-init c = repeated-none 0 _ _

pub loop-k-preserved : goal.loop-k-preserved
unfolding line_cleared
loop-k-preserved c = rw plus_zero-64 (repeated-more 0 _ _ _ _ zero-le c.loop-k.invariant)
