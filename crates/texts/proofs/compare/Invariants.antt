-- Each piece has a byte of those that are left; the measure is how many these are.
use Rattle.std.proofs.Common.{length}
use Rattle.texts.proofs.compare.Given as goal

abbrev pub decreases-loop-left : goal.decreases-loop-left
decreases-loop-left g l = length l.left
