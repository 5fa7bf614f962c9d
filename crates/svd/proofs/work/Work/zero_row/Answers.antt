-- `zero_row` meets its contract: where tau is not 0 the rows below and V take the reflection. Assumes nothing.
use Prim.Native.Nat.{◌+◌, ◌-◌, ◌*◌, ◌≤◌}
use native.Mathlib.Omega.{arith}
use lib.ListN.{length}
use Rattle.method.proofs.Index.{row_below}
use Rattle.svd.specs.Reflections.{reflection_of-part}
use mathlib.Core.Path.{◌∙◌}
use Rattle.method.proofs.Floats.{plus_zero-64}
use Rattle.method.proofs.Bidiagonal.{row_still, row_moved, factor-still, factor-moved}
use Rattle.svd.specs.Values.{ne_taken, ne_left}
use Rattle.svd.specs.Turns.{row_zeroed_lem}
use Rattle.svd.proofs.work.Work.zero_row.Goals as goal

pub returns-then-made-clause-zeroed : goal.returns-then-made-clause-zeroed
returns-then-made-clause-zeroed c =
    let at = c.args.i * c.args.self.now.shape.stride + c.args.j in
    let n = c.args.self.now.shape.cols - c.args.j in
    let table = c.args.self.now.lending.table in
    let below = row_below c.args.self.now.shape.stride c.requires.0 in
    let fits : at + n ≤ length c.args.self.now.b.now = omega (arith, below, table.wide, table.whole) in
    let made = reflection_of-part at n c.args.self.now.b.now fits _ _ _ _ _ _ (omega arith) (omega arith) c.params.ensures in
    let moves = ne_taken _ _ (rw plus_zero-64 at c.if-made.true) in
    let turned_b = rw c.table_from.ensures at c.rapply_householder.ensures in
    let turned = rw c.columns_from.ensures at c.rapply_householder-then-made.ensures in
    row_zeroed_lem _ _ _ _ _ _ _ _ _ (turned_b ∙ row_moved _ _ _ _ _ _ _ _ _ made moves) (turned ∙ factor-moved _ _ _ _ _ _ _ made moves)

pub returns-else-made-clause-zeroed : goal.returns-else-made-clause-zeroed
returns-else-made-clause-zeroed c =
    let at = c.args.i * c.args.self.now.shape.stride + c.args.j in
    let n = c.args.self.now.shape.cols - c.args.j in
    let table = c.args.self.now.lending.table in
    let below = row_below c.args.self.now.shape.stride c.requires.0 in
    let fits : at + n ≤ length c.args.self.now.b.now = omega (arith, below, table.wide, table.whole) in
    let made = reflection_of-part at n c.args.self.now.b.now fits _ _ _ _ _ _ (omega arith) (omega arith) c.params.ensures in
    let stays = ne_left _ _ (rw plus_zero-64 at c.if-made.false) in
    row_zeroed_lem _ _ _ _ _ _ _ _ _ (row_still _ _ _ _ _ _ _ _ _ made stays) (factor-still _ _ _ _ _ _ _ made stays)
