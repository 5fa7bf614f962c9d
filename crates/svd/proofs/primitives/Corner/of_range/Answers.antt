-- `Corner::of_range` meets its contract: the places by row and column number. Assumes nothing.
use Rattle.method.specs.Positions.{corner_of}
use Rattle.svd.proofs.primitives.Corner.of_range.Goals as goal

pub returns-then-upper : goal.returns-then-upper
unfolding corner_of
returns-then-upper c = rw (c.if-upper.true, c.saturating_sub-inter.ensures)

pub returns-else-upper : goal.returns-else-upper
unfolding corner_of
returns-else-upper c = rw (c.if-upper.false, c.saturating_sub-inter.ensures)
