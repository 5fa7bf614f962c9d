-- `row_less` meets its contract: the head, and then the tail as `tail_less` has it. Assumes nothing.
use native.Mathlib.Omega.{arith}
use lib.Ieee.{Float}
use lib.ListN.{length, length-set}
use Rattle.method.specs.Reflection.{row_less}
use Rattle.svd.specs.Reflections.{tail_less-part}
use Rattle.svd.proofs.householder.row_less.Goals as goal

pub returns : goal.returns
unfolding row_less
returns c =
    tail_less-part _ _ (length c.args.row.now) _ _ _ _ _ (omega (arith, length-set {A = Float})) (omega (arith, length-set {A = Float})) (omega arith) c.requires.0 (omega (arith, length-set {A = Float})) c.row_less_times.ensures
