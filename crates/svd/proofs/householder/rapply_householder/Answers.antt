-- `rapply_householder` meets its contract: after k turns a is `reflected_right` of k rows. Assumes nothing.
use native.Mathlib.Omega.{arith}
use Prim.Native.Nat.{zero-le}
use Rattle.method.proofs.Repeated.{repeated-none, repeated-more}
use Rattle.method.specs.Reflection.{reflected_right}
use Rattle.svd.specs.Rows.{row_reflected-part}
use Rattle.svd.specs.Values.{row_framed}
use Rattle.svd.proofs.householder.rapply_householder.Goals as goal

pub loop-k-init : goal.loop-k-init
unfolding reflected_right
loop-k-init c = repeated-none 0 _ _

pub loop-k-preserved : goal.loop-k-preserved
unfolding reflected_right
loop-k-preserved c =
    let start = c.start-start.ensures in
    let fits = rw (← start, ← c.loop-k.auto.a) at (row_framed c.loop-k-test.true c.requires.2) in
    rw (row_reflected-part _ _ _ fits _ _ _ _ (omega arith) c.requires.0 _ c.reflect_row.ensures, start)
    (repeated-more 0 _ _ _ _ zero-le c.loop-k.invariant)
