-- `survey::writing::put_row` meets its contract: whatever writes the readings that are left, has then written the whole line. Assumes nothing.
use Rattle.std.specs.Prelude.{drop}
use Rattle.text.specs.declared.page.Page.{Page}
use Rattle.text.specs.Page.{Writes}
use Rattle.survey.specs.Print.{row_text}
use Rattle.survey.proofs.writing.put_row.Given as goal

abbrev pub invariant-loop-k : goal.invariant-loop-k
invariant-loop-k l = (q : Page) → Writes l.page (row_text (drop l.k l.row)) q → Writes l.initial.page (row_text l.row) q
