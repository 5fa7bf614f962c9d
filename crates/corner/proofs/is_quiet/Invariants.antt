-- `is_quiet` meets its contract: before each coupling all before it are zero, and it stands where the code looks.
-- Assumes nothing.
use Rattle.corner.specs.Steps.{Inv}
use Rattle.corner.proofs.is_quiet.Given as goal

abbrev pub invariant-loop : goal.invariant-loop
invariant-loop l = Inv l.upper l.stride l.b l.at l.counter
