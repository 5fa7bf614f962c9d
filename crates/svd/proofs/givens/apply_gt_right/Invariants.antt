-- `apply_gt_right` meets its contract: after k turns a is `columns_turned` in k rows. Assumes nothing.
use mathlib.Core.Path.{◌≡◌}
use lib.Ieee.{binary64}
use Rattle.method.specs.Rotation.{columns_turned}
use Rattle.svd.specs.Values.{rotation}
use Rattle.svd.proofs.givens.apply_gt_right.Given as goal

abbrev pub invariant-loop-k : goal.invariant-loop-k
invariant-loop-k l = l.a ≡ columns_turned binary64 (rotation l.g) l.stride l.i l.j l.k l.initial.a
