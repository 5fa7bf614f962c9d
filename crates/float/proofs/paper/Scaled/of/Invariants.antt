-- `Scaled::of` meets its contract: each turn doubles the digits and takes one off the power, as `Level` says.
-- Assumes nothing.
use lib.Ieee.{binary64, of_bits}
use Rattle.method.specs.Root.{count}
use Rattle.float.proofs.Level.{Level}
use Rattle.float.proofs.paper.Scaled.of.Given as goal

abbrev pub invariant-loop-digits : goal.invariant-loop-digits
invariant-loop-digits l = Level (count binary64 (of_bits binary64 l.bits)) l.digits l.power

abbrev pub decreases-loop-digits : goal.decreases-loop-digits
decreases-loop-digits l = l.power
