-- `reading_refusal` meets its contract: it refuses where a bad reading was counted. Assumes nothing.
use mathlib.Core.Path.{sym, ap, ◌∙◌}
use borrow.Author.Tests.{lt-ltb, le-ltb}
use Rattle.method.specs.Checks.{Place, refusal}
use Rattle.method.proofs.Checks.First.{first-hit, first-miss, first-none}
use Rattle.checks.proofs.refusal.reading_refusal.Goals as goal

pub returns-then-place-gt0 : goal.returns-then-place-gt0
returns-then-place-gt0 c =
    let found = c.bad_readings-place.ensures in
    let some = ap (λ (p : Place). p.bad) found in
    ap (refusal 8) found ∙ sym (first-hit _ _ (rw some at (lt-ltb _ _ c.if-place-gt0.true)))

pub returns : goal.returns
returns c =
    let found = c.bad_readings-place.ensures in
    let none = ap (λ (p : Place). p.bad) found in
    sym (first-miss _ _ (rw none at (le-ltb _ _ c.if-place-gt0.false)) ∙ first-none)
