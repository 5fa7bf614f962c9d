-- `Line::turn` meets its contract: it is the definition's turn, for a trial that is taken and for one that is left.
-- Assumes nothing.
use native.Mathlib.Omega.{arith}
use Rattle.float.specs.Values.{line_in}
use Rattle.float.proofs.Turns.{turn-taken, turn-left}
use Rattle.float.proofs.paper.Line.turn.Goals as goal

pub returns-then-trial-remainder : goal.returns-then-trial-remainder
returns-then-trial-remainder c = turn-taken (line_in c.args.self) (omega (arith, c.if-trial-remainder.true))

pub returns-else-trial-remainder : goal.returns-else-trial-remainder
returns-else-trial-remainder c = turn-left (line_in c.args.self) (omega (arith, c.if-trial-remainder.false))
