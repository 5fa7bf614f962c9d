-- `copy_line` meets its contract: after k turns w is `line_copied` of k entries. Assumes nothing.
use Prim.Native.Nat.{zero-le}
use Rattle.method.proofs.Repeated.{repeated-none, repeated-more}
use Rattle.method.specs.Reflection.{line_copied}
use mathlib.Core.Path.{◌∙◌}
use Rattle.svd.proofs.householder.copy_line.Goals as goal

pub loop-k-init : goal.loop-k-init
unfolding line_copied
loop-k-init c = c.requires.2 ∙ repeated-none 0 _ _

pub loop-k-preserved : goal.loop-k-preserved
unfolding line_copied
loop-k-preserved c = repeated-more 0 _ _ _ _ zero-le c.loop-k.invariant
