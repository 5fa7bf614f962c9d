-- `Settings::new` meets its contract: the literals are the defaults. Assumes nothing.
use mathlib.Core.Path.{refl}
use Rattle.method.specs.Defaults.{default_tolerance, default_absolute, default_floor}
use Rattle.checks.proofs.settings.Settings.new.Goals as goal

pub returns : goal.returns
unfolding default_tolerance default_absolute default_floor
returns c = refl
