-- `survey::reading::row_line` meets its contract: a law for each way out, and for one reading more. Assumes nothing.
use Rattle.std.proofs.Common.{◌≡◌, ◌+◌, ◌-◌, ◌∙◌, arith}
use Rattle.survey.proofs.Lines.{row_none, row_bad, row_next, row_last, row_last_bad, row_stored_lem}
use Rattle.survey.proofs.reading.row_line.Goals as goal

pub loop-k-init : goal.loop-k-init
loop-k-init c =
    let y : c.args.c - 0 ≡ c.args.c = omega arith in
    let z : c.args.at + 0 ≡ c.args.at = omega arith in
    rw (y, z) (row_stored_lem _ _ _ _)

pub returns-in_err-reading : goal.returns-in_err-reading
returns-in_err-reading c =
    rw c.from_residual.ensures (row_none _ _ _ _ _ c.loop-k-test.true c.in_err-reading.ensures.parts ∙ c.loop-k.invariant)

pub returns-in_err-bits : goal.returns-in_err-bits
returns-in_err-bits c =
    rw c.from_residual-in_err-bits.ensures (row_bad _ _ _ _ _ c.loop-k-test.true _ _ c.in_ok-reading.ensures.parts c.in_err-bits.ensures ∙ c.loop-k.invariant)

pub loop-k-preserved : goal.loop-k-preserved
loop-k-preserved c =
    rw c.from_bits.ensures (row_next _ _ _ _ _ c.loop-k-test.true _ _ c.in_ok-reading.ensures.parts _ c.in_ok-bits.ensures ∙ c.loop-k.invariant)

pub returns-in_err-last : goal.returns-in_err-last
returns-in_err-last c =
    rw c.from_residual-in_err-last.ensures (row_last_bad _ _ c.loop-k.k c.args.at c.loop-k.m (omega arith) c.in_err-last.ensures ∙ c.loop-k.invariant)

pub returns : goal.returns
returns c =
    rw c.from_bits-2.ensures (row_last _ _ c.loop-k.k c.args.at c.loop-k.m (omega arith) _ c.in_ok-last.ensures ∙ c.loop-k.invariant)
