-- `ones` meets its contract: after i turns the first i of the diagonal are 1. Assumes nothing.
use Prim.Native.Nat.{◌+◌, ◌*◌}
use mathlib.Core.Path.{◌≡◌}
use lib.ListN.{set}
use Rattle.method.specs.Repeated.{repeated}
use Rattle.method.specs.Floats.{one}
use Rattle.factors.proofs.identity.ones.Given as goal

abbrev pub invariant-loop-i : goal.invariant-loop-i
invariant-loop-i r = r.a ≡ repeated 0 r.i (λ k l. set l (k * r.n + k) one) r.initial.a
