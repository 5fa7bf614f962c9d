-- `bidiagonal` meets its contract: by whether the table is square, and if it is not, by which form. Assumes nothing.
use Rattle.method.proofs.Bidiagonal.{bidiagonal-square}
use Rattle.svd.specs.Turns.{last_upper, last_lower}
use Rattle.svd.proofs.work.Work.bidiagonal.Goals as goal

pub returns-then-self-2-clause-bidiagonal : goal.returns-then-self-2-clause-bidiagonal
returns-then-self-2-clause-bidiagonal c =
    let same = c.zero_places.ensures.same in
    last_upper _ _ _ _ _ _ _ c.zero_places.ensures.zeroed (rw same.shape at c.if-self.true) (rw same.upper at c.if-self-2.true) (rw same.shape at c.zero_col.ensures.zeroed)

pub returns-else-self-2-clause-bidiagonal : goal.returns-else-self-2-clause-bidiagonal
returns-else-self-2-clause-bidiagonal c =
    let same = c.zero_places.ensures.same in
    last_lower _ _ _ _ _ _ _ c.zero_places.ensures.zeroed (rw same.shape at c.if-self.true) (rw same.upper at c.if-self-2.false) (rw same.shape at c.zero_row.ensures.zeroed)

pub returns-else-self-clause-bidiagonal : goal.returns-else-self-clause-bidiagonal
returns-else-self-clause-bidiagonal c =
    let same = c.zero_places.ensures.same in
    bidiagonal-square _ _ _ _ _ _ _ c.zero_places.ensures.zeroed (rw same.shape at c.if-self.false)
