-- `is_quiet` meets its contract: before each coupling all before it are zero, and it stands where the code looks.
-- Assumes nothing.
use mathlib.Core.Path.{sym, ◌∙◌}
use native.Mathlib.Omega.{arith}
use Rattle.corner.specs.Steps.{inv_start, inv_next, inv_loud, inv_done}
use Rattle.corner.proofs.is_quiet.Goals.{else-upper, then-upper}
use Rattle.corner.proofs.is_quiet.Goals as goal

pub loop-init : goal.loop-init
loop-init c =
    inv_start c.args.upper c.args.stride c.args.b.now c.if-upper.at
    (elim c.if-upper.branch [ then-upper w ↦ rw w.if-upper.true w.at-is | else-upper w ↦ rw w.if-upper.false w.at-is ])
    (elim c.if-upper.branch [ then-upper w ↦ omega arith | else-upper w ↦ omega arith ])

pub returns-then-not-zero_at : goal.returns-then-not-zero_at
returns-then-not-zero_at c =
    inv_loud _ _ _ c.loop.invariant (omega arith) _ c.loop-test.true (sym c.zero_at.ensures ∙ c.if-not-zero_at.true)

pub loop-preserved : goal.loop-preserved
loop-preserved c =
    inv_next _ _ _ c.loop.invariant (omega arith) (sym c.zero_at.ensures ∙ c.if-not-zero_at.false) _ (cc)

pub returns : goal.returns
returns c = inv_done _ _ _ c.loop.invariant _ c.loop-test.false
