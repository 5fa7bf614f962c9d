-- `chase` meets its contract: after k turns the lists are those of k steps. Assumes nothing.
use borrow.Author.Rules.{rules}
use Rattle.method.proofs.Repeated.{repeated-none}
use Rattle.method.specs.Chase.{steps}
use Rattle.svd.specs.Loan.{same_loan}
use Rattle.svd.specs.Turns.{step_more}
use Rattle.svd.proofs.work.Work.chase.Goals as goal

pub loop-k-init : goal.loop-k-init
unfolding steps
loop-k-init c = record { same = search rules; chased = repeated-none 0 _ _ }

pub loop-k-preserved : goal.loop-k-preserved
loop-k-preserved c =
    let so_far = c.loop-k.invariant.same in
    let once = same_loan so_far c.push.ensures.same in
    record {
      same = same_loan once c.push-in-loop-k.ensures.same;
      chased = step_more _ _ _ _ _ _ _ c.loop-k.invariant.chased (rw (so_far.shape, so_far.upper) at c.push.ensures.pushed) (rw (once.shape, once.upper) at c.push-in-loop-k.ensures.pushed);
    }
