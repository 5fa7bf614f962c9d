-- `rows_less` meets its contract: after the turns up to k, a is `lower_less` of k rows, once the first is done. Assumes nothing.
use Rattle.std.specs.Prelude.{◌≡◌, Float}
use native.Mathlib.Nat.{add-zero}
use Rattle.std.proofs.lemmas.List.{length-append, length-take, length-drop}
use native.Mathlib.Omega.{arith}
use Rattle.method.proofs.Repeated.{repeated-none, repeated-more}
use Rattle.method.specs.Reflection.{lower_less, rows_less}
use Rattle.svd.specs.Rows.{row_less_all-part, row_less_times-part}
use Rattle.svd.specs.Values.{row_framed}
use Rattle.svd.proofs.householder.rows_less.Goals as goal

pub loop-k-init : goal.loop-k-init
unfolding lower_less
loop-k-init c = repeated-none 1 _ _

pub loop-k-preserved : goal.loop-k-preserved
unfolding lower_less
loop-k-preserved c =
    let start = c.start-start.ensures in
    let framed = rw (← start) at (row_framed c.loop-k-test.true c.requires.2) in
    rw (row_less_times-part c.start-start.result c.args.window.cols c.loop-k.a (omega (arith, length-append {A = Float}, length-take {A = Float}, length-drop {A = Float})) _ _ _ _ (omega arith) _ c.row_less_times.ensures, start)
    (repeated-more 1 _ _ _ _ c.loop-k.auto.k c.loop-k.invariant)

pub returns : goal.returns
unfolding rows_less
returns c =
    let first = rw (add-zero c.args.window.row) at c.start-first.ensures in
    let framed = rw (← c.start-first.ensures) at (row_framed {k = 0} c.requires.0 c.requires.2) in
    let e : c.loop-k.k ≡ c.args.window.rows = omega arith in
    rw (← first, ← row_less_all-part c.start-first.result c.args.window.cols c.args.a.now framed _ _ _ _ (omega arith) c.row_less_all.ensures)
    (rw e at c.loop-k.invariant)
