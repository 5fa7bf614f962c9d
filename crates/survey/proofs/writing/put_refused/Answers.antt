-- `survey::writing::put_refused` meets its contract: the fields one after the other. Assumes nothing.
use mathlib.Core.Path.{ap}
use Rattle.method.specs.Checks.{Place}
use Rattle.text.specs.Text.{ending, line_text}
use Rattle.text.proofs.Pages.{writes, writes-then}
use Rattle.survey.specs.Print.{refused_text}
use Rattle.survey.proofs.writing.put_refused.Goals as goal

pub returns : goal.returns
unfolding refused_text line_text ending
returns c =
    let id = writes c.put_decimal.ensures in
    let word = writes c.put.ensures in
    let number = rw c.number.ensures at (writes c.put_field.ensures) in
    let row = rw (ap (λ (p : Place). p.row) c.place-place.ensures) at (writes c.put_field-2.ensures) in
    let column = rw (ap (λ (p : Place). p.column) c.place-place.ensures) at (writes c.put_field-3.ensures) in
    let count = rw (ap (λ (p : Place). p.bad) c.place-place.ensures) at (writes c.put_field-4.ensures) in
    let end = writes c.put-2.ensures in
    writes-then id (writes-then word (writes-then number (writes-then row (writes-then column (writes-then count end)))))
