-- `positions` meets its contract: after i turns the first i positions stand at their new places, and no place is
-- written twice. Assumes nothing.
use mathlib.Core.Path.{◌≡◌}
use Rattle.method.proofs.Writes.{writes}
use Rattle.method.specs.Order.{diagonal, ahead, new_place}
use Rattle.order.proofs.diagonal.Diagonal.positions.Given as goal

abbrev pub invariant-loop-i : goal.invariant-loop-i
invariant-loop-i l = l.p ≡ writes (new_place l.self.c (ahead (diagonal l.self.cols l.self.b.now))) (λ i'. i') l.i l.initial.p
