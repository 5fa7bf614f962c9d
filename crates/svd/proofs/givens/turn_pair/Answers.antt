-- `turn_pair` meets its contract: the two stores are `pair_turned`. Assumes nothing.
use mathlib.Core.Path.{refl}
use Rattle.method.specs.Rotation.{pair_turned}
use Rattle.svd.proofs.givens.turn_pair.Goals as goal

pub returns : goal.returns
unfolding pair_turned
returns c = refl
