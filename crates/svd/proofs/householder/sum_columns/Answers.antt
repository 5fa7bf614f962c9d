-- `sum_columns` meets its contract: after the turns up to k, w is `rows_added` of k rows, from the copy of the first. Assumes nothing.
use Prim.Native.Nat.{◌+◌, ◌-◌}
use mathlib.Core.Path.{◌≡◌}
use native.Mathlib.Nat.{add-zero}
use native.Mathlib.Omega.{arith}
use Rattle.method.proofs.Repeated.{repeated-none, repeated-more}
use Rattle.method.specs.Reflection.{rows_added, column_sums}
use Rattle.svd.specs.Rows.{row_added-part}
use Rattle.svd.specs.Reflections.{line_copied-run}
use Rattle.svd.specs.Values.{row_framed}
use Rattle.svd.proofs.householder.sum_columns.Goals as goal

pub loop-k-init : goal.loop-k-init
unfolding rows_added
loop-k-init c = repeated-none 1 _ _

pub loop-k-preserved : goal.loop-k-preserved
unfolding rows_added
loop-k-preserved c =
    let start = c.start-start.ensures in
    let fits = rw (← start) at (row_framed c.loop-k-test.true c.requires.2) in
    rw (row_added-part _ _ _ fits _ (omega arith) _ _ _ _ c.add_row.ensures, start)
    (repeated-more 1 _ _ _ _ c.loop-k.auto.k c.loop-k.invariant)

pub returns : goal.returns
unfolding column_sums
returns c =
    let first = rw (add-zero c.args.window.row) at c.start-first.ensures in
    let e : c.loop-k.k ≡ c.args.window.rows = omega arith in
    let framed = rw (← c.start-first.ensures) at (row_framed {k = 0} c.requires.0 c.requires.2) in
    let long : c.start-first.result + c.args.window.cols - c.start-first.result ≡ c.args.window.cols = omega arith in
    let copied = rw long at c.copy_from_slice.ensures.after in
    let placed = line_copied-run c.start-first.result c.args.window.cols c.args.a.now framed c.requires.1 in
    rw (← first, ← placed, ← copied, ← c.requires.3) (rw e at c.loop-k.invariant)
