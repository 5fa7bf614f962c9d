-- `givens_iteration` meets its contract: the first turn, the steps and the last push, and as many rotations as the sweep has moves. Assumes nothing.
use mathlib.Core.Path.{sym}
use lib.Ieee.{binary64}
use Rattle.method.proofs.Chase.{swept-is}
use Rattle.method.proofs.Moves.Laws.{sweep_rotations_lem}
use Rattle.svd.specs.Loan.{same_loan}
use Rattle.svd.proofs.work.Work.givens_iteration.Goals as goal

pub returns-clause-swept : goal.returns-clause-swept
returns-clause-swept c =
    let turned = c.turn.ensures.same in
    let chased = same_loan turned c.chase.ensures.same in
    swept-is binary64 _ _ _ _ _ _ _ _ c.first_rotation-g.ensures c.turn.ensures.turned (rw (turned.shape, turned.upper) at c.chase.ensures.chased) (rw (chased.shape, chased.upper) at c.push.ensures.pushed)

pub returns-clause-rotations : goal.returns-clause-rotations
returns-clause-rotations c = sym (sweep_rotations_lem c.args.self.now.upper c.args.corner.inter)
