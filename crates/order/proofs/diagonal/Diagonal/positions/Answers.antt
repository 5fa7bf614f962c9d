-- `positions` meets its contract: after i turns the first i positions stand at their new places, and no place is
-- written twice. Assumes nothing.
use native.Mathlib.Omega.{arith}
use Prim.Native.Nat.{ℕ, ◌<◌}
use native.Mathlib.Nat.{le_antisymm}
use mathlib.Core.Path.{refl, ap, ◌∙◌}
use lib.ListN.{take}
use Rattle.method.proofs.Repeated.{repeated-none}
use Rattle.method.proofs.Writes.{writes, writes_more}
use Rattle.method.specs.Order.{diagonal, ahead, new_place}
use Rattle.method.proofs.Order.Places.{place-below, order-in}
use Rattle.method.proofs.Order.Sizes.{ahead-orders}
use Rattle.order.proofs.diagonal.Diagonal.positions.Goals.{After-new_place-k}
use Rattle.order.proofs.diagonal.Diagonal.positions.Goals as goal

pub loop-i-init : goal.loop-i-init
loop-i-init c = repeated-none 0 _ _

-- the place is one of the first c
within : (c : After-new_place-k) → c.new_place-k.result < c.args.self.c
within c =
    omega (
      arith,
      c.new_place-k.ensures,
      place-below c.args.self.c (ahead (diagonal c.args.self.cols c.args.self.b.now))
          (ahead-orders c.args.self.c (diagonal c.args.self.cols c.args.self.b.now) c.requires.0) c.loop-i.i (omega arith),
    )

pub offset_bounds-p-k : goal.offset_bounds-p-k
offset_bounds-p-k c = omega (arith, c.args.self.room.narrow, c.args.self.room.wide, within c)

pub bounds-p-k : goal.bounds-p-k
bounds-p-k c = omega (arith, c.requires.1, within c)

pub loop-i-preserved : goal.loop-i-preserved
loop-i-preserved c =
    rw c.new_place-k.ensures
    (writes_more (new_place c.args.self.c (ahead (diagonal c.args.self.cols c.args.self.b.now)))
    (λ i. i) c.loop-i.i _ _ _ refl c.loop-i.invariant)

pub returns : goal.returns
returns c =
    let d = diagonal c.args.self.cols c.args.self.b.now in
    let e = le_antisymm c.loop-i.auto.i-end c.loop-i-test.false in (
      omega arith,
      ap (take c.args.self.c)
          (c.loop-i.invariant ∙ ap
          (λ (z : ℕ). writes (new_place c.args.self.c (ahead d)) (λ i. i) z c.args.p.now) e) ∙ order-in
          c.args.self.c (ahead d) (ahead-orders c.args.self.c d c.requires.0) _ c.requires.1,
    )
