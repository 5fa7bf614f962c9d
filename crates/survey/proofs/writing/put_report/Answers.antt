-- `survey::writing::put_report` meets its contract: the fields one after the other. Assumes nothing.
use Rattle.text.specs.Text.{ending, line_text}
use Rattle.text.proofs.Pages.{writes, writes-then}
use Rattle.survey.specs.Print.{report_text}
use Rattle.survey.proofs.writing.put_report.Goals as goal

pub returns : goal.returns
unfolding report_text line_text ending
returns c =
    let id = writes c.put_decimal.ensures in
    let word = c.put_word.ensures in
    let passes = writes c.put_field.ensures in
    let sweeps = writes c.put_field-2.ensures in
    let drops = writes c.put_field-3.ensures in
    let range = writes c.put_field-4.ensures in
    let rotations = writes c.put_field-5.ensures in
    let end = writes c.put.ensures in
    writes-then id (writes-then word (writes-then passes (writes-then sweeps (writes-then drops (writes-then range (writes-then rotations end))))))
