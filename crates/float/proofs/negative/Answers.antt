-- `float::negative` meets its contract: the library's test is the definition, and a NaN has no sign. Assumes nothing.
use mathlib.Core.Path.{sym, ◌∙◌}
use Rattle.float.proofs.Signs.{sign_negative_is, nan_unsigned}
use Rattle.float.proofs.negative.Goals as goal

pub returns-then-not-is_nan : goal.returns-then-not-is_nan
returns-then-not-is_nan c = c.is_sign_negative.ensures ∙ sign_negative_is c.args.x

pub returns-else-not-is_nan : goal.returns-else-not-is_nan
returns-else-not-is_nan c =
    rw c.if-not-is_nan.false (nan_unsigned c.args.x (sym c.is_nan.ensures.value ∙ c.if-not-is_nan.false))
