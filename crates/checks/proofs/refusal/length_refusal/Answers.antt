-- `length_refusal` meets its contract: one check after the other, as the definition has them; the products are small.
-- Assumes nothing.
use mathlib.Core.Path.{sym, ◌∙◌}
use Rattle.method.proofs.Checks.First.{first-hit, first-miss, first-none}
use Rattle.checks.proofs.refusal.length_refusal.Goals as goal

pub returns-then-wrong_length : goal.returns-then-wrong_length
returns-then-wrong_length c = sym (first-hit _ _ (sym c.wrong_length.ensures ∙ c.if-wrong_length.true))

pub returns-then-wrong_length-2 : goal.returns-then-wrong_length-2
returns-then-wrong_length-2 c =
    sym (first-miss _ _ (sym c.wrong_length.ensures ∙ c.if-wrong_length.false)
    ∙ first-hit _ _ (sym c.wrong_length-2.ensures ∙ c.if-wrong_length-2.true))

pub returns-then-wrong_length-3 : goal.returns-then-wrong_length-3
returns-then-wrong_length-3 c =
    sym (first-miss _ _ (sym c.wrong_length.ensures ∙ c.if-wrong_length.false)
    ∙ first-miss _ _ (sym c.wrong_length-2.ensures ∙ c.if-wrong_length-2.false)
    ∙ first-hit _ _ (sym c.wrong_length-3.ensures ∙ c.if-wrong_length-3.true))

pub returns : goal.returns
returns c =
    sym (first-miss _ _ (sym c.wrong_length.ensures ∙ c.if-wrong_length.false)
    ∙ first-miss _ _ (sym c.wrong_length-2.ensures ∙ c.if-wrong_length-2.false)
    ∙ first-miss _ _ (sym c.wrong_length-3.ensures ∙ c.if-wrong_length-3.false)
    ∙ first-none)
