-- `singular` meets its contract: operation by operation. Assumes nothing.
use Rattle.method.specs.Chase.{singular}
use Rattle.method.proofs.Floats.{plus_zero-64, two-64}
use Rattle.svd.proofs.primitives.singular.Goals as goal

pub returns : goal.returns
unfolding singular
returns c = rw (two-64, c.square_root.ensures, c.larger.ensures, c.sign.ensures, two-64, plus_zero-64)
