-- `lapply_householder` meets its contract: the three steps of `reflected_left`, over a blank vector. Assumes nothing.
use Prim.Native.Nat.{zero-le, ◌≤◌}
use native.Mathlib.Omega.{arith}
use lib.ListN.{length}
use Rattle.method.specs.Reflection.{reflected_left}
use Rattle.svd.specs.Reflections.{times_from-part}
use Rattle.svd.proofs.householder.lapply_householder.Goals as goal

pub returns : goal.returns
unfolding reflected_left
returns c =
    let few : c.args.window.cols ≤ length c.sum_columns.new.w = omega (arith, c.sum_columns.auto.w) in
    rw (c.rows_less.ensures, times_from-part _ _ 0 c.args.window.cols c.args.window.cols _ _ zero-le few (omega arith) c.scale.ensures, c.sum_columns.ensures)
