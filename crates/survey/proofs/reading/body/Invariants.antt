-- `survey::reading::body` meets its contract: what is left of the body, stored from where reading stands, gives the whole body. Assumes nothing.
use Rattle.std.proofs.Common.{◌≡◌, ◌+◌, ◌-◌, ◌*◌, ◌≤◌}
use Rattle.survey.specs.Code.{body_into, body_stored}
use Rattle.survey.proofs.reading.body.Given as goal

abbrev pub invariant-loop-j : goal.invariant-loop-j
invariant-loop-j l =
    (l.left.line ≡ l.from.line + l.j)
    × (l.at + (l.rows - l.j) * (l.c + 1) ≤ 2304)
    × (body_into (l.rows - l.j) l.c l.left.line l.left.text.now l.m l.at ≡ body_stored l.rows l.c l.from.line l.from.text.now l.initial.m 0)
