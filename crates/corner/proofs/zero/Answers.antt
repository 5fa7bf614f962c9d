-- `zero` meets its contract: the comparison with 0 tells both zeros, and nothing else. Assumes nothing.
use Rattle.method.proofs.Floats.{plus_zero-64}
use Rattle.method.proofs.Floats.Zero.{eq_zero}
use Rattle.corner.proofs.zero.Goals as goal

pub returns : goal.returns
returns c = rw plus_zero-64 (eq_zero c.args.x)
