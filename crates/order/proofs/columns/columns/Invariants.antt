-- `columns` meets its contract: after i turns the first i rows are rewritten, and the others are as they were. Assumes
-- nothing.
use mathlib.Core.Path.{◌≡◌}
use lib.ListN.{length, get_or, take}
use Rattle.method.specs.Floats.{signed_if}
use Rattle.method.specs.Order.{diagonal, rows_moved}
use Rattle.order.proofs.columns.columns.Given as goal

abbrev pub invariant-loop-i : goal.invariant-loop-i
invariant-loop-i l =
    (length l.a ≡ length l.initial.a)
    × (length l.w ≡ 48)
    × (l.a ≡ rows_moved l.n l.d.c (λ k. get_or (take l.d.c l.p) k 0) (λ k x. signed_if l.signs (diagonal l.d.cols l.d.b.now (get_or (take l.d.c l.p) k 0)) x)
    l.initial.a l.i)
