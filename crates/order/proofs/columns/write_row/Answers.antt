-- `write_row` meets its contract: after k turns the first k entries of the row are written. Assumes nothing.
use native.Mathlib.Omega.{arith}
use Prim.Native.Nat.{ℕ, ◌+◌}
use mathlib.Core.Path.{sym, ap, ◌∙◌}
use lib.ListN.{get_or, take}
use lib.Seq.{get_or-take}
use lib.Ieee.{Float, nan}
use Rattle.method.specs.Floats.{signed_if}
use Rattle.method.proofs.Repeated.{repeated-none}
use Rattle.method.proofs.Writes.{writes_more}
use Rattle.method.specs.Order.{diagonal}
use Rattle.order.proofs.columns.write_row.Goals as goal

pub loop-k-init : goal.loop-k-init
loop-k-init c = repeated-none 0 _ _

pub loop-k-preserved : goal.loop-k-preserved
loop-k-preserved c =
    writes_more (λ k. c.args.at + k)
    (λ k. signed_if c.args.signs
    (diagonal c.args.d.cols c.args.d.b.now
    (get_or (take c.args.d.c c.args.p.now) k 0))
    (get_or c.args.w.now (get_or (take c.args.d.c c.args.p.now) k 0) nan))
    c.loop-k.k _ _ _
    (c.signed_if.ensures
    ∙ ap (λ (d : Float). signed_if c.args.signs d (get_or c.args.w.now (get_or c.args.p.now c.loop-k.k 0) nan)) c.at.ensures
    ∙ ap
    (λ (z : ℕ). signed_if c.args.signs (diagonal c.args.d.cols c.args.d.b.now z)
    (get_or c.args.w.now z nan))
    (sym (get_or-take c.args.d.c c.args.p.now c.loop-k.k 0 (omega arith))))
    c.loop-k.invariant
