-- `write_row` meets its contract: after k turns the first k entries of the row are written. Assumes nothing.
use Prim.Native.Nat.{◌+◌}
use mathlib.Core.Path.{◌≡◌}
use lib.ListN.{get_or, take}
use lib.Ieee.{nan}
use Rattle.method.specs.Floats.{signed_if}
use Rattle.method.proofs.Writes.{writes}
use Rattle.method.specs.Order.{diagonal}
use Rattle.order.proofs.columns.write_row.Given as goal

abbrev pub invariant-loop-k : goal.invariant-loop-k
invariant-loop-k l =
    l.a ≡ writes (λ k'. l.at + k')
    (λ k'. signed_if l.signs (diagonal l.d.cols l.d.b.now (get_or (take l.d.c l.p) k' 0)) (get_or l.w (get_or (take l.d.c l.p) k' 0) nan)) l.k l.initial.a
