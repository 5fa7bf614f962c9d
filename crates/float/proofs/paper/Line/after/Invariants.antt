-- `Line::after` meets its contract: each turn of the loop is one of the page, and has room. Assumes nothing.
use mathlib.Core.Path.{◌≡◌}
use Rattle.method.specs.Root.Paper.{first, turns}
use Rattle.float.specs.Values.{line_in}
use Rattle.float.proofs.paper.Line.after.Given as goal

abbrev pub invariant-loop : goal.invariant-loop
invariant-loop l = line_in l.line ≡ turns l.counter (first 54 l.number)
