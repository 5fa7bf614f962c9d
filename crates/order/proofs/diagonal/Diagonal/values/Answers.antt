-- `values` meets its contract: after k turns the first k values are written. Assumes nothing.
use native.Mathlib.Omega.{arith}
use Prim.Native.Nat.{ℕ}
use native.Mathlib.Nat.{le_antisymm}
use mathlib.Core.Path.{refl, sym, ap, ◌∙◌}
use lib.ListN.{get_or, take}
use lib.Seq.{get_or-take}
use Rattle.method.specs.Floats.{magnitude}
use Rattle.method.proofs.Repeated.{repeated-none}
use Rattle.method.proofs.Writes.{writes_more}
use Rattle.method.specs.Order.{diagonal, values_by}
use Rattle.order.proofs.diagonal.Diagonal.values.Goals as goal

pub loop-k-init : goal.loop-k-init
loop-k-init c = repeated-none 0 _ _

pub loop-k-preserved : goal.loop-k-preserved
loop-k-preserved c =
    writes_more (λ k. k)
    (λ k. magnitude (diagonal c.args.self.cols c.args.self.b.now (get_or (take c.args.self.c c.args.p.now) k 0))) c.loop-k.k _ _ _
    (c.magnitude.ensures ∙ ap magnitude c.at.ensures ∙ ap
    (λ (z : ℕ). magnitude (diagonal c.args.self.cols c.args.self.b.now z))
    (sym (get_or-take c.args.self.c c.args.p.now c.loop-k.k 0 (omega arith))))
    c.loop-k.invariant

pub returns : goal.returns
unfolding values_by
returns c =
    let e = le_antisymm c.loop-k.auto.k-end c.loop-k-test.false in
    c.loop-k.invariant ∙ rw e refl
