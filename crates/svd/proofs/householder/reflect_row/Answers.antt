-- `reflect_row` meets its contract: the product and then the subtraction, as `row_reflected` has them. Assumes nothing.
use Rattle.method.specs.Reflection.{row_reflected}
use Rattle.svd.proofs.householder.reflect_row.Goals as goal

pub returns : goal.returns
unfolding row_reflected
returns c = rw (c.row_less.ensures, c.row_times.ensures)
