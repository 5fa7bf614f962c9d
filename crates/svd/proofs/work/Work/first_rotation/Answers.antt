-- `first_rotation` meets its contract: the places are those of the corner. Assumes nothing.
use Prim.Native.Nat.{◌+◌}
use native.Mathlib.Omega.{arith}
use lib.Ieee.{binary64}
use Rattle.method.proofs.Chase.{first_rotation-is}
use Rattle.svd.specs.Values.{corner_inside}
use Rattle.svd.proofs.work.Work.first_rotation.Goals as goal

pub bounds-self-corner-2 : goal.bounds-self-corner-2
bounds-self-corner-2 c = omega (arith, corner_inside c.requires c.args.self.now.lending.table)

pub bounds-self-br : goal.bounds-self-br
bounds-self-br c = (corner_inside c.requires c.args.self.now.lending.table).0

pub returns : goal.returns
returns c =
    let h = c.requires in
    first_rotation-is binary64 _ _ _ _ c.args.corner.tl c.args.corner.bl (c.args.corner.bl + 1) (c.args.corner.tl + 1) _ _ _ h.top_left (omega arith) h.bottom_left (omega arith) c.singular-shift.ensures c.along-next.ensures c.implicit_givens_rotation.ensures
