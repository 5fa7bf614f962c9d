-- `list_refusal` meets its contract: its one check. Assumes nothing.
use mathlib.Core.Path.{sym, ◌∙◌}
use Rattle.method.proofs.Checks.First.{first-hit, first-miss, first-none}
use Rattle.checks.proofs.refusal.list_refusal.Goals as goal

pub returns-then-wrong_length : goal.returns-then-wrong_length
returns-then-wrong_length c =
    let test = rw c.smaller_size-whole.ensures at c.wrong_length.ensures in
    sym (first-hit _ _ (sym test ∙ c.if-wrong_length.true))

pub returns : goal.returns
returns c =
    let test = rw c.smaller_size-whole.ensures at c.wrong_length.ensures in
    sym (first-miss _ _ (sym test ∙ c.if-wrong_length.false) ∙ first-none)
