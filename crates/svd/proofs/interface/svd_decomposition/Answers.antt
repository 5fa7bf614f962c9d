-- `svd_decomposition` meets its contract: the two empty lists come back empty. Assumes nothing.
use Rattle.checks.specs.Values.{settings_of}
use Rattle.svd.specs.Calls.{plain-call}
use Rattle.svd.proofs.interface.svd_decomposition.Goals as goal

pub returns : goal.returns
returns c = plain-call c.args.rows c.args.cols (settings_of c.args.settings) _ c.args.b.now _ _ _ c.split.ensures
