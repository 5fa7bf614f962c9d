-- `survey::writing::put_malformed` meets its contract: the fields one after the other. Assumes nothing.
use Rattle.text.specs.Text.{ending, line_text}
use Rattle.text.proofs.Pages.{writes, writes-then}
use Rattle.survey.proofs.WritingLaws.{malformed_is}
use Rattle.survey.proofs.writing.put_malformed.Goals as goal

pub returns : goal.returns
unfolding line_text ending
returns c =
    let word = writes c.put.ensures in
    let number = writes c.put_field.ensures in
    let line = writes c.put_field-2.ensures in
    let end = writes c.put-2.ensures in
    rw (malformed_is c.args.n c.requires) (writes-then word (writes-then number (writes-then line end)))
