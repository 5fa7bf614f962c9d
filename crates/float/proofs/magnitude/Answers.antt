-- `float::magnitude` meets its contract: the pattern without its highest bit is the magnitude's. Assumes nothing.
use mathlib.Core.Path.{refl, sym, ◌∙◌}
use Rattle.float.proofs.Signs.{held, nan-magnitude, cleared, cleared_no_nan}
use Rattle.float.proofs.magnitude.Goals as goal

pub returns-then-is_nan : goal.returns-then-is_nan
returns-then-is_nan c = nan-magnitude c.args.x (sym c.is_nan.ensures.value ∙ c.if-is_nan.true)

pub float_from_bits-result : goal.float_from_bits-result
float_from_bits-result c = cleared_no_nan c.args.x _ (held c.args.x c.well_formed.0.1) c.if-is_nan.ensures.not_nan refl

pub returns-else-is_nan : goal.returns-else-is_nan
returns-else-is_nan c = cleared c.args.x _ (held c.args.x c.well_formed.0.1) refl
