-- `values` meets its contract: after k turns the first k values are written. Assumes nothing.
use mathlib.Core.Path.{◌≡◌}
use lib.ListN.{get_or, take}
use Rattle.method.specs.Floats.{magnitude}
use Rattle.method.proofs.Writes.{writes}
use Rattle.method.specs.Order.{diagonal}
use Rattle.order.proofs.diagonal.Diagonal.values.Given as goal

abbrev pub invariant-loop-k : goal.invariant-loop-k
invariant-loop-k l =
    l.list ≡ writes (λ k'. k') (λ k'. magnitude (diagonal l.self.cols l.self.b.now (get_or (take l.self.c l.p) k' 0))) l.k l.initial.list
