-- `setting_refusal` meets its contract: one check after the other, as the definition has them. Assumes nothing.
use mathlib.Core.Path.{sym, ◌∙◌}
use Rattle.method.proofs.Checks.First.{first-hit, first-miss, first-none}
use Rattle.checks.proofs.refusal.setting_refusal.Goals as goal

pub returns-then-over_limit : goal.returns-then-over_limit
returns-then-over_limit c = sym (first-hit _ _ (sym c.over_limit.ensures ∙ c.if-over_limit.true))

pub returns-then-bounds_unfit : goal.returns-then-bounds_unfit
returns-then-bounds_unfit c =
    sym (first-miss _ _ (sym c.over_limit.ensures ∙ c.if-over_limit.false)
    ∙ first-hit _ _ (sym c.bounds_unfit.ensures ∙ c.if-bounds_unfit.true))

pub returns : goal.returns
returns c =
    sym (first-miss _ _ (sym c.over_limit.ensures ∙ c.if-over_limit.false)
    ∙ first-miss _ _ (sym c.bounds_unfit.ensures ∙ c.if-bounds_unfit.false)
    ∙ first-none)
