-- `merotunki_square_root` meets its contract: it is the root beneath, and its argument is an f64. Assumes nothing.
use Rattle.float.proofs.Root.{root_is}
use Rattle.app.proofs.merotunki_square_root.Goals as goal

pub returns : goal.returns
returns c = record { value = c.square_root.ensures; nearest = root_is _ _ c.well_formed.0 c.square_root.ensures }
