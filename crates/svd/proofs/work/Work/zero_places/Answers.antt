-- `zero_places` meets its contract: after k turns the lists are `places_zeroed` of k places. Assumes nothing.
use borrow.Author.Rules.{rules}
use Rattle.method.proofs.Repeated.{repeated-none}
use Rattle.method.specs.Bidiagonal.{places_zeroed}
use Rattle.svd.specs.Loan.{same_loan}
use Rattle.svd.specs.Turns.{place-upper, place-lower}
use Rattle.svd.proofs.work.Work.zero_places.Goals.{then-self, else-self}
use Rattle.svd.proofs.work.Work.zero_places.Goals as goal

pub loop-k-init : goal.loop-k-init
unfolding places_zeroed
loop-k-init c = record { same = search rules; zeroed = repeated-none 0 _ _ }

pub loop-k-preserved : goal.loop-k-preserved
loop-k-preserved c =
    let so_far = c.loop-k.invariant.same in
    elim c.if-self.branch [
      | then-self w ↦
          let once = same_loan so_far w.zero_col.ensures.same in
          rw w.self-is (record {
            same = same_loan once w.zero_row.ensures.same;
            zeroed = place-upper _ _ _ _ _ _ _ _ c.loop-k.invariant.zeroed (rw so_far.upper at w.if-self.true) (rw so_far.shape at w.zero_col.ensures.zeroed) (rw once.shape at w.zero_row.ensures.zeroed);
          })
      | else-self w ↦
          let once = same_loan so_far w.zero_row-else-self.ensures.same in
          rw w.self-is (record {
            same = same_loan once w.zero_col-else-self.ensures.same;
            zeroed = place-lower _ _ _ _ _ _ _ _ c.loop-k.invariant.zeroed (rw so_far.upper at w.if-self.false) (rw so_far.shape at w.zero_row-else-self.ensures.zeroed) (rw once.shape at w.zero_col-else-self.ensures.zeroed);
          })
    ]
