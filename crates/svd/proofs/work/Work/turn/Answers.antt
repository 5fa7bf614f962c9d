-- `turn` meets its contract: by whether the lines are rows, which U follows, or columns, which V follows. Assumes nothing.
use Rattle.method.specs.Chase.{turned}
use Rattle.svd.proofs.work.Work.turn.Goals as goal

pub returns-then-rowwise-clause-turned : goal.returns-then-rowwise-clause-turned
unfolding turned
returns-then-rowwise-clause-turned c = rw (c.if-rowwise.true, c.apply_g_left.ensures, c.apply_gt_right.ensures)

pub returns-else-rowwise-clause-turned : goal.returns-else-rowwise-clause-turned
unfolding turned
returns-else-rowwise-clause-turned c = rw (c.if-rowwise.false, c.apply_gt_right-else-rowwise.ensures, c.apply_gt_right-else-rowwise-2.ensures)
