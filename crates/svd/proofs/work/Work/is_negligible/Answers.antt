-- `is_negligible` meets its contract: the places are those of the corner. Assumes nothing.
use Prim.Native.Nat.{◌+◌}
use native.Mathlib.Omega.{arith}
use lib.Ieee.{binary64}
use Rattle.method.proofs.Chase.{negligible-is}
use Rattle.svd.specs.Values.{corner_inside}
use Rattle.svd.proofs.work.Work.is_negligible.Goals as goal

pub bounds-self-br : goal.bounds-self-br
bounds-self-br c = (corner_inside c.requires c.args.self.now.lending.table).0

pub bounds-self-corner-2 : goal.bounds-self-corner-2
bounds-self-corner-2 c = (corner_inside c.requires c.args.self.now.lending.table).1

pub returns : goal.returns
returns c =
    let h = c.requires in
    negligible-is binary64 _ _ c.args.corner.inter _ c.args.corner.tl c.args.corner.bl (c.args.corner.bl + 1) _ _ c.args.corner.e1 _ _ _ _ h.coupling h.top_left (omega arith) c.magnitude.ensures c.magnitude-2.ensures c.magnitude-3.ensures c.smaller.ensures
