-- `largest` meets its contract: after k turns max is `largest_of` k entries. Assumes nothing.
use mathlib.Core.Path.{◌≡◌}
use Rattle.method.specs.Reflection.{largest_of}
use Rattle.svd.proofs.householder.largest.Given as goal

abbrev pub invariant-loop-entry : goal.invariant-loop-entry
invariant-loop-entry l = l.max ≡ largest_of l.entries 0 l.entry-index
