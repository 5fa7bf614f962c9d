-- `survey::reading::entries` meets its contract: what is left of the contents, after the entries read, gives all of them. Assumes nothing.
use Rattle.std.proofs.Common.{◌≡◌, ◌+◌, ◌-◌, [], take, length}
use Rattle.survey.specs.Form.{contents}
use Rattle.survey.proofs.reading.entries.Given as goal

abbrev pub invariant-loop-i : goal.invariant-loop-i
invariant-loop-i l =
    (l.left.line ≡ l.i + 2)
    × (length l.es ≡ 8)
    × (contents (l.count - l.i) (take l.i l.es) l.left.line l.left.text.now ≡ contents l.count [] 2 l.from.text.now)
