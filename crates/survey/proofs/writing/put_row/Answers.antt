-- `survey::writing::put_row` meets its contract: a reading, and the space or the LF behind it. Assumes nothing.
use Rattle.std.proofs.Common.{arith}
use Rattle.std.proofs.Common.{[], ◌∷◌}
use Rattle.text.specs.Text.{LF, space}
use Rattle.text.specs.Page.{Writes}
use Rattle.text.proofs.Pages.{writes, writes-nothing, writes-then}
use Rattle.survey.proofs.WritingLaws.{hex-writes, row_more, row_last, row_done}
use Rattle.survey.proofs.writing.put_row.Goals as goal
use Rattle.survey.proofs.writing.put_row.Goals.{then-k-row, else-k-row}

pub loop-k-preserved : goal.loop-k-preserved
loop-k-preserved c = λ q v.
    let digits = hex-writes _ _ c.to_bits.ensures c.put_hex.ensures in
    elim c.if-k-row.branch [
      | then-k-row w ↦
          let end : Writes c.put_hex.new.self (space ∷ []) c.if-k-row.page = rw w.page-is (writes w.put.ensures) in
          c.loop-k.invariant q (rw (row_more c.args.row.now c.loop-k.k c.loop-k-test.true w.if-k-row.true) (writes-then digits (writes-then end v)))
      | else-k-row w ↦
          let end : Writes c.put_hex.new.self (LF ∷ []) c.if-k-row.page = rw w.page-is (writes w.put-else-k-row.ensures) in
          c.loop-k.invariant q (rw (row_last c.args.row.now c.loop-k.k c.loop-k-test.true w.if-k-row.false) (writes-then digits (writes-then end v)))
    ]

pub returns : goal.returns
returns c = c.loop-k.invariant _ (rw (row_done c.args.row.now c.loop-k.k (omega arith)) (writes-nothing c.loop-k.page))
