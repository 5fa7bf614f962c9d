-- `size_refusal` meets its contract: one check after the other, as the definition has them. Assumes nothing.
use mathlib.Core.Path.{sym, ◌∙◌}
use Rattle.method.proofs.Checks.First.{first-hit, first-miss, first-none}
use Rattle.checks.proofs.refusal.size_refusal.Goals as goal

pub returns-then-no_size : goal.returns-then-no_size
returns-then-no_size c = sym (first-hit _ _ (sym c.no_size.ensures ∙ c.if-no_size.true))

pub returns-then-too_large : goal.returns-then-too_large
returns-then-too_large c =
    sym (first-miss _ _ (sym c.no_size.ensures ∙ c.if-no_size.false)
    ∙ first-hit _ _ (sym c.too_large.ensures ∙ c.if-too_large.true))

pub returns : goal.returns
returns c =
    sym (first-miss _ _ (sym c.no_size.ensures ∙ c.if-no_size.false)
    ∙ first-miss _ _ (sym c.too_large.ensures ∙ c.if-too_large.false)
    ∙ first-none)
