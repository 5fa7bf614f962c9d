-- `decomp_givens` meets its contract: after `made` turns as many passes have been made, as the definition makes them. Assumes nothing.
use borrow.Author.Rules.{rules}
use mathlib.Core.Path.{sym, ◌∙◌}
use Rattle.svd.specs.Loan.{same_loan}
use Rattle.svd.specs.Passes.{inv_start, drop_room, sweep_room, inv_drop, inv_sweep, inv_narrow, inv_spent, corner_asks}
use Rattle.svd.proofs.work.Work.decomp_givens.Goals.{then-is_negligible, else-is_negligible, then-walk-le1-via-then-walk-le1, then-walk-le1-via-else-walk-le1+then-walk-s}
use Rattle.svd.proofs.work.Work.decomp_givens.Goals as goal

pub loop-made-init : goal.loop-made-init
loop-made-init c = record { same = search rules; walked = inv_start _ _ _ _ _ _ c.requires }

pub is_negligible-requires : goal.is_negligible-requires
is_negligible-requires c =
    let same = c.loop-made.invariant.same in
    rw (same.shape, same.upper) (corner_asks c.requires c.loop-made.invariant.walked c.loop-made-test.true c.if-walk-le1.false c.if-walk-s.false)

pub drop-walk-requires : goal.drop-walk-requires
drop-walk-requires c = (
  c.if-walk-le1.false,
  search rules,
  drop_room c.requires c.loop-made.invariant.walked c.loop-made-test.true,
)

pub givens_iteration-turns-requires : goal.givens_iteration-turns-requires
givens_iteration-turns-requires c =
    let same = c.loop-made.invariant.same in
    rw (same.shape, same.upper) (corner_asks c.requires c.loop-made.invariant.walked c.loop-made-test.true c.if-walk-le1.false c.if-walk-s.false)

pub sweep-walk-requires : goal.sweep-walk-requires
sweep-walk-requires c =
    let same = c.loop-made.invariant.same in
    sweep_room c.requires c.loop-made.invariant.walked c.loop-made-test.true c.if-walk-le1.false c.if-walk-s.false (rw same.upper at c.givens_iteration-turns.ensures.rotations)

pub loop-made-preserved : goal.loop-made-preserved
loop-made-preserved c =
    let same = c.loop-made.invariant.same in
    let tested = rw (same.shape, same.upper) at c.is_negligible.ensures in
    elim c.if-is_negligible.branch [
      | then-is_negligible w ↦
          rw (w.self-is, w.walk-is) (record {
            same = same;
            walked = inv_drop c.requires c.loop-made.invariant.walked c.loop-made-test.true c.if-walk-le1.false c.if-walk-s.false w.drop-walk.ensures.0 (rw same.shape at w.drop-walk.ensures.1) (sym tested ∙ w.if-is_negligible.true);
          })
      | else-is_negligible w ↦
          let swept = w.givens_iteration-turns.ensures in
          rw (w.self-is, w.walk-is) (record {
            same = same_loan same swept.same;
            walked = inv_sweep c.requires c.loop-made.invariant.walked c.loop-made-test.true c.if-walk-le1.false c.if-walk-s.false w.sweep-walk.ensures.0 w.sweep-walk.ensures.1 (rw (same.shape, same.upper) at swept.swept) (rw same.upper at swept.rotations) (sym tested ∙ w.if-is_negligible.false);
          })
    ]

pub returns-then-walk-le1-clause-walked : goal.returns-then-walk-le1-clause-walked
returns-then-walk-le1-clause-walked c =
    elim c.then-walk-le1.branch [
      | then-walk-le1-via-then-walk-le1 w ↦ inv_narrow c.loop-made.invariant.walked w.if-walk-le1.true
      | then-walk-le1-via-else-walk-le1+then-walk-s w ↦ inv_spent c.loop-made.invariant.walked w.if-walk-s.true
    ]
