-- `ones` meets its contract: after i turns the first i of the diagonal are 1. Assumes nothing.
use native.Mathlib.Nat.{le_antisymm}
use Rattle.method.proofs.Repeated.{repeated-none, repeated-next}
use Rattle.method.specs.Fill.{identity}
use Rattle.method.proofs.Floats.{one-64}
use Rattle.factors.proofs.identity.ones.Goals as goal

pub loop-i-init : goal.loop-i-init
loop-i-init c = repeated-none 0 _ _

pub loop-i-preserved : goal.loop-i-preserved
loop-i-preserved c = rw (repeated-next, one-64) (cc)

pub returns : goal.returns
unfolding identity
returns c = cc (le_antisymm c.loop-i.auto.i-end c.loop-i-test.false)
