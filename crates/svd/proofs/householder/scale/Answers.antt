-- `scale` meets its contract: after k turns w is `times_from` of k entries. Assumes nothing.
use Prim.Native.Nat.{zero-le}
use Rattle.method.proofs.Repeated.{repeated-none, repeated-more}
use Rattle.method.specs.Reflection.{times_from}
use Rattle.svd.proofs.householder.scale.Goals as goal

pub loop-entry-init : goal.loop-entry-init
unfolding times_from
loop-entry-init c = repeated-none 0 _ _

pub loop-entry-preserved : goal.loop-entry-preserved
unfolding times_from
loop-entry-preserved c = repeated-more 0 _ _ _ _ zero-le c.loop-entry.invariant
