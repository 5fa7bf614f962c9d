-- `apply_g_left` meets its contract: after k turns a is `rows_turned` in k columns. Assumes nothing.
use mathlib.Core.Path.{◌≡◌}
use lib.Ieee.{binary64}
use Rattle.method.specs.Rotation.{rows_turned}
use Rattle.svd.specs.Values.{rotation}
use Rattle.svd.proofs.givens.apply_g_left.Given as goal

abbrev pub invariant-loop-k : goal.invariant-loop-k
invariant-loop-k l = l.a ≡ rows_turned binary64 (rotation l.g) l.stride l.i l.j l.k l.initial.a
