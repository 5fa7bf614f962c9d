-- `float::is_finite` meets its contract: the library's test is the definition, case by case. Assumes nothing.
use mathlib.Core.Path.{◌∙◌}
use Rattle.float.proofs.Signs.{finite_is}
use Rattle.float.proofs.is_finite.Goals as goal

pub returns : goal.returns
returns c = c.is_finite.ensures.value ∙ finite_is c.args.x
