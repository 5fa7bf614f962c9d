-- `squares` meets its contract: after k turns the sum is `squares_of` k entries. Assumes nothing.
use Prim.Native.Nat.{zero-le}
use mathlib.Core.Path.{◌∙◌}
use Rattle.method.proofs.Repeated.{repeated-none, repeated-more}
use Rattle.method.specs.Reflection.{squares_of}
use Rattle.method.proofs.Floats.{plus_zero-64}
use Rattle.svd.proofs.householder.squares.Goals as goal

pub loop-entry-init : goal.loop-entry-init
unfolding squares_of
loop-entry-init c = plus_zero-64 ∙ repeated-none 0 _ _

pub loop-entry-preserved : goal.loop-entry-preserved
unfolding squares_of
loop-entry-preserved c = repeated-more 0 _ _ _ _ zero-le c.loop-entry.invariant
