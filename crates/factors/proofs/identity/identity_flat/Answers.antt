-- `identity_flat` meets its contract: one check after another, then the zeros and the ones. Assumes nothing.
use native.Mathlib.Omega.{arith}
use Rattle.method.specs.Fill.Numbers.{FillFit}
use Rattle.method.proofs.Fill.Numbers.{fill_one, fill_two, fill_four}
use Rattle.factors.specs.Fill.{fill_with, fill_done}
use Rattle.factors.proofs.identity.identity_flat.Goals as goal

pub returns-then-n-eq0 : goal.returns-then-n-eq0
returns-then-n-eq0 c =
    fill_with _ 1 _ (omega arith) (fill_one c.args.n c.args.a.now c.if-n-eq0.true)

pub returns-then-n-gt-MOST_SIZE : goal.returns-then-n-gt-MOST_SIZE
returns-then-n-gt-MOST_SIZE c =
    fill_with _ 2 _ (omega arith) (fill_two c.args.n c.args.a.now (omega arith) c.if-n-gt-MOST_SIZE.true)

pub returns-then-a-n : goal.returns-then-a-n
returns-then-a-n c =
    fill_with _ 4 _ (omega arith)
    (fill_four c.args.n c.args.a.now (omega arith) (omega arith) c.if-a-n.true)

pub returns : goal.returns
returns c =
    let fit : FillFit c.args.n c.args.a.now =
    record { some = omega arith; few = omega arith; whole = c.if-a-n.false } in
    fill_done _ _ _ fit c.ones.ensures
