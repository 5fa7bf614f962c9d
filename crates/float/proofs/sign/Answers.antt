-- `float::sign` meets its contract: the library's `signum` is the definition, case by case. Assumes nothing.
use mathlib.Core.Path.{◌∙◌}
use Rattle.float.proofs.Signs.{signum_is}
use Rattle.float.proofs.sign.Goals as goal

pub returns : goal.returns
returns c = c.signum.ensures ∙ signum_is c.args.x
