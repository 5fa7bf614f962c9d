-- `Place::looked` meets its contract: by whether x is finite. Assumes nothing.
use mathlib.Core.Path.{sym, ◌∙◌}
use Rattle.method.proofs.Checks.Readings.{looked-good, looked-bad}
use Rattle.checks.proofs.place.Place.looked.Goals as goal

pub returns-then-is_finite : goal.returns-then-is_finite
returns-then-is_finite c = sym (looked-good _ _ _ _ (sym c.is_finite.ensures ∙ c.if-is_finite.true))

pub returns : goal.returns
returns c =
    c.counted.ensures ∙ sym (looked-bad _ _ _ _ (sym c.is_finite.ensures ∙ c.if-is_finite.false))
