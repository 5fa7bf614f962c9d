-- `survey::reading::row_line` meets its contract: what is left of the line, stored from where reading stands, gives the whole row. Assumes nothing.
use Rattle.std.proofs.Common.{◌≡◌, ◌+◌, ◌-◌}
use Rattle.survey.specs.Code.{row_into, row_stored}
use Rattle.survey.proofs.reading.row_line.Given as goal

abbrev pub invariant-loop-k : goal.invariant-loop-k
invariant-loop-k l = row_into (l.c - l.k) l.left l.m (l.at + l.k) ≡ row_stored l.c l.l l.initial.m l.at
