-- `bad_readings` meets its contract: before entry (i, j) it has found what the definition has found. Assumes nothing.
use Prim.Native.Nat.{ℕ, ◌+◌, ◌*◌, ◌≤◌, zero-le}
use mathlib.Core.Path.{ap, ◌∙◌}
use native.Mathlib.Omega.{arith}
use native.Mathlib.Nat.{le_antisymm, mul-le-mul}
use Rattle.method.specs.Settings.{most_size}
use Rattle.method.proofs.Repeated.{repeated-none, repeated-more}
use Rattle.method.specs.Checks.{Place, nowhere, bad_readings}
use Rattle.method.proofs.Checks.Readings.{row_most, bad_most}
use Rattle.method.proofs.Index.{row_in}
use Rattle.checks.specs.Values.{place_in}
use Rattle.checks.proofs.search.bad_readings.Goals as goal

pub loop-i-init : goal.loop-i-init
unfolding bad_readings
loop-i-init c = (omega arith, c.nowhere-found.ensures ∙ repeated-none 0 _ nowhere)

pub loop-j-init : goal.loop-j-init
loop-j-init c = (omega arith, repeated-none 0 _ _)

-- fewer were counted than there are readings
pub looked-found-requires : goal.looked-found-requires
looked-found-requires c =
    let row : let args = c.args in (c.loop-i.i * args.cols + args.cols ≤ args.rows * args.cols) × (args.rows * args.cols ≤ most_size * most_size) = (
      row_in c.loop-i.i c.args.rows c.args.cols (omega arith),
      mul-le-mul c.requires.1 c.requires.2,
    ) in
    let args = c.args in
    let bad : Place → ℕ = λ p. p.bad in
    let rows = ap bad c.loop-i.invariant.1 in
    let row-i = ap bad c.loop-j.invariant.1 in
    omega (
      arith,
      row.0,
      row.1,
      rows,
      bad_most args.cols c.loop-i.i args.cols args.b.now,
      row-i,
      row_most args.cols args.b.now c.loop-i.i c.loop-j.j (place_in c.loop-i.found),
    )

pub loop-j-preserved : goal.loop-j-preserved
loop-j-preserved c =
    (omega arith, c.looked-found.ensures ∙ repeated-more 0 _ _ _ _ zero-le c.loop-j.invariant.1)

pub loop-i-preserved : goal.loop-i-preserved
unfolding bad_readings
loop-i-preserved c =
    let e = le_antisymm c.loop-j.invariant.0 c.loop-j-test.false in
    (omega arith, rw e at c.loop-j.invariant.1 ∙ repeated-more 0 _ _ _ _ zero-le c.loop-i.invariant.1)
