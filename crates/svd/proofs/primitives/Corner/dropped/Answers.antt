-- `Corner::dropped` meets its contract: each difference stops at 0. Assumes nothing.
use Rattle.method.specs.Positions.{corner_dropped}
use Rattle.svd.proofs.primitives.Corner.dropped.Goals as goal

pub returns : goal.returns
unfolding corner_dropped
returns c = (cc)
