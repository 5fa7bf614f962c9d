-- `zero_col` meets its contract: where tau is not 0 the columns right of it and U take the reflection. Assumes nothing.
use mathlib.Core.Path.{◌∙◌}
use Rattle.method.proofs.Floats.{plus_zero-64}
use Rattle.method.proofs.Bidiagonal.{column_still, column_moved, factor-still, factor-moved}
use Rattle.svd.specs.Values.{ne_taken, ne_left}
use Rattle.svd.specs.Turns.{column_zeroed_lem}
use Rattle.svd.proofs.work.Work.zero_col.Goals as goal

pub returns-then-made-clause-zeroed : goal.returns-then-made-clause-zeroed
returns-then-made-clause-zeroed c =
    let made = c.take_col.ensures.made in
    let moves = ne_taken _ _ (rw plus_zero-64 at c.if-made.true) in
    let right = rw c.table_from.ensures at c.lapply_householder.ensures in
    let turned = rw c.columns_from.ensures at c.rapply_householder.ensures in
    column_zeroed_lem _ _ _ _ _ _ _ _ _ (right ∙ rw c.take_col.ensures.table (column_moved _ _ _ _ _ _ _ _ _ made moves)) (turned ∙ factor-moved _ _ _ _ _ _ _ made moves)

pub returns-else-made-clause-zeroed : goal.returns-else-made-clause-zeroed
returns-else-made-clause-zeroed c =
    let made = c.take_col.ensures.made in
    let stays = ne_left _ _ (rw plus_zero-64 at c.if-made.false) in
    column_zeroed_lem _ _ _ _ _ _ _ _ _ (c.take_col.ensures.table ∙ column_still _ _ _ _ _ _ _ _ _ made stays) (factor-still _ _ _ _ _ _ _ made stays)
