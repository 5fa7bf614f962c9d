-- `Place::counted` meets its contract: by whether a bad reading was counted before. Assumes nothing.
use mathlib.Core.Path.{sym}
use Rattle.method.proofs.Checks.Readings.{counted-first, counted-later}
use Rattle.checks.proofs.place.Place.counted.Goals as goal

pub returns-then-self-eq0 : goal.returns-then-self-eq0
returns-then-self-eq0 c = sym (counted-first _ _ _ c.if-self-eq0.true)

pub returns : goal.returns
returns c = sym (counted-later _ _ _ c.if-self-eq0.false)
