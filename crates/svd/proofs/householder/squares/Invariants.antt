-- `squares` meets its contract: after k turns the sum is `squares_of` k entries. Assumes nothing.
use mathlib.Core.Path.{◌≡◌}
use lib.Ieee.{binary64}
use Rattle.method.specs.Reflection.{squares_of}
use Rattle.svd.proofs.householder.squares.Given as goal

abbrev pub invariant-loop-entry : goal.invariant-loop-entry
invariant-loop-entry l = l.sum ≡ squares_of binary64 l.entries l.entry-index
