-- `survey::writing::put_rows` meets its contract: whatever writes the rows that are left, has then written them all. Assumes nothing.
use Rattle.std.specs.Prelude.{◌-◌, ◌*◌, ◌≤◌, length}
use Rattle.text.specs.declared.page.Page.{Page}
use Rattle.text.specs.Page.{Writes}
use Rattle.survey.specs.Print.{rows_text}
use Rattle.survey.proofs.writing.put_rows.Given as goal

abbrev pub invariant-loop : goal.invariant-loop
invariant-loop l =
    ((l.r - l.counter) * l.c ≤ length l.left)
    × ((q : Page) → Writes l.page (rows_text (l.r - l.counter) l.c l.left) q → Writes l.initial.page (rows_text l.r l.c l.m) q)
