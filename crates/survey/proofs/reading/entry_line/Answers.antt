-- `survey::reading::entry_line` meets its contract: a law for each way out. Assumes nothing.
use Rattle.text.specs.Text.{when}
use Rattle.survey.proofs.Lines.{entry_none, entry_none_2, entry_id, entry_rows, entry_cols, entry_last}
use Rattle.survey.proofs.reading.entry_line.Goals as goal

pub returns-in_err-id : goal.returns-in_err-id
returns-in_err-id c = rw c.from_residual.ensures (entry_none _ _ c.in_err-id.ensures.parts)

pub returns-in_err-rows : goal.returns-in_err-rows
returns-in_err-rows c = rw c.from_residual-in_err-rows.ensures (entry_none_2 _ _ _ _ c.in_ok-id.ensures.parts c.in_err-rows.ensures.parts)

pub returns-in_err-id-2 : goal.returns-in_err-id-2
returns-in_err-id-2 c = rw c.from_residual-in_err-id-2.ensures (entry_id _ _ _ _ c.in_ok-id.ensures.parts _ _ c.in_ok-rows.ensures.parts c.in_err-id-2.ensures)

pub returns-in_err-rows-2 : goal.returns-in_err-rows-2
returns-in_err-rows-2 c =
    rw c.from_residual-in_err-rows-2.ensures (entry_rows _ _ _ _ c.in_ok-id.ensures.parts _ _ c.in_ok-rows.ensures.parts _ c.in_ok-id-2.ensures c.in_err-rows-2.ensures)

pub returns-in_err-cols : goal.returns-in_err-cols
returns-in_err-cols c =
    rw c.from_residual-in_err-cols.ensures (entry_cols _ _ _ _ c.in_ok-id.ensures.parts _ _ c.in_ok-rows.ensures.parts _ c.in_ok-id-2.ensures _ c.in_ok-rows-2.ensures c.in_err-cols.ensures)

pub returns-then-named : goal.returns-then-named
unfolding when
returns-then-named c =
    entry_last _ _ _ _ c.in_ok-id.ensures.parts _ _ c.in_ok-rows.ensures.parts _ c.in_ok-id-2.ensures _ c.in_ok-rows-2.ensures _ c.in_ok-cols.ensures _ c.if-named.ensures

pub returns : goal.returns
unfolding when
returns c =
    entry_last _ _ _ _ c.in_ok-id.ensures.parts _ _ c.in_ok-rows.ensures.parts _ c.in_ok-id-2.ensures _ c.in_ok-rows-2.ensures _ c.in_ok-cols.ensures _ c.if-named.ensures
