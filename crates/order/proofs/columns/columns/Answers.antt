-- `columns` meets its contract: after i turns the first i rows are rewritten, and the others are as they were. Assumes
-- nothing.
use native.Mathlib.Omega.{arith}
use Prim.Native.Nat.{◌+◌, ◌*◌, ◌≤◌}
use mathlib.Core.Path.{refl, sym, ap, ◌∙◌}
use lib.ListN.{length, get_or, take}
use lib.Seq.{get_or-take}
use Rattle.method.specs.Floats.{signed_if}
use Rattle.method.proofs.Writes.{length-writes}
use Rattle.method.specs.Order.{diagonal}
use Rattle.method.proofs.Order.Columns.{rows_none, row_step}
use Rattle.order.specs.Laws.{row_inside, copied_row}
use Rattle.order.proofs.columns.columns.Goals as goal

pub loop-i-init : goal.loop-i-init
loop-i-init c = (refl, refl, sym (rows_none _ _ c.requires.2 _ _ _))

pub loop-i-preserved : goal.loop-i-preserved
loop-i-preserved c =
    let at = c.loop-i.i * c.args.n in
    let room : c.args.d.c ≤ length c.loop-i.w = omega (arith, c.loop-i.invariant.1, c.requires.2, c.requires.1) in
    let ew =
    copied_row at c.loop-i.a c.loop-i.w c.args.d.c _ c.copy_from_slice.ensures.after
    (row_inside c.loop-i.invariant.0 c.requires.3 c.requires.2 (omega arith)) room in
    let ea = c.write_row.ensures in (
      ap length ea ∙ length-writes (λ k. at + k) _ c.args.d.c c.loop-i.a ∙ c.loop-i.invariant.0,
      ap length ew ∙ length-writes (λ k. k) _ c.args.d.c c.loop-i.w ∙ c.loop-i.invariant.1,
      row_step c.args.n c.args.d.c c.requires.2
          (λ k. get_or (take c.args.d.c c.args.p.now) k 0)
          (λ k x. signed_if c.args.signs
          (diagonal c.args.d.cols c.args.d.b.now
          (get_or (take c.args.d.c c.args.p.now) k 0)) x) c.args.a.now
          (λ k h. rw (get_or-take c.args.d.c c.args.p.now k 0 h) (c.requires.0.within k h))
          c.loop-i.i c.loop-i.a _ c.loop-i.w _
          room c.loop-i.invariant.2 ew ea,
    )
