-- `survey::writing::put_rows` meets its contract: a row, and those that are left. Assumes nothing.
use Rattle.std.proofs.Common.{◌≡◌, ◌-◌, arith}
use Rattle.text.proofs.Pages.{writes-nothing, writes-then}
use Rattle.survey.proofs.WritingLaws.{rows_next, rows_end, rows-left}
use Rattle.survey.proofs.writing.put_rows.Goals as goal

pub loop-init : goal.loop-init
loop-init c = let y : c.args.r - 0 ≡ c.args.r = omega arith in rw y (c.requires, λ q w. w)

pub split_at-requires : goal.split_at-requires
split_at-requires c = omega (arith, rows-left c.args.r c.args.c c.loop.counter c.loop.left.now c.loop-test.true)

pub loop-preserved : goal.loop-preserved
loop-preserved c =
    let row = rw c.split_at.ensures.front at c.put_row.ensures in
    let n = rows-left c.args.r c.args.c c.loop.counter c.loop.left.now c.loop-test.true in
    let more = rows_next c.args.r c.args.c c.loop.counter c.loop.left.now c.loop-test.true in
    (omega arith, λ q w. c.loop.invariant.1 q (rw more (writes-then row (rw c.split_at.ensures.back at w))))

pub returns : goal.returns
returns c =
    c.loop.invariant.1 _ (rw (rows_end c.args.r c.args.c c.loop.counter c.loop.left.now (omega arith)) (writes-nothing c.loop.page))
