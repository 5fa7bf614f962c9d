-- `survey::reading::entries` meets its contract: a law for each way out, and for one entry more. Assumes nothing.
use Rattle.std.proofs.Common.{◌≡◌, ◌+◌, ◌<◌, take, length, ◌∙◌, arith, rules, Err}
use Rattle.std.proofs.Math.Option.{none, some}
use Rattle.survey.specs.Form.{entry_line}
use Rattle.std.proofs.Math.ListN.{length-set}
use Rattle.survey.proofs.Heads.{contents-none, contents-bad, contents-next, contents-end}
use Rattle.survey.proofs.reading.entries.Goals as goal

pub returns-in_err-line : goal.returns-in_err-line
returns-in_err-line c =
    let e : c.from_residual.result ≡ Err c.in_err-line.field-0.0 = search rules in
    let n : c.in_err-line.field-0.0.line ≡ c.loop-i.left.line = c.in_err-line.ensures.1 in
    rw (e, n) (contents-none _ _ _ _ _ c.loop-i-test.true c.in_err-line.ensures.0 ∙ c.loop-i.invariant.2, tt, omega arith)

pub returns-in_err-es : goal.returns-in_err-es
returns-in_err-es c =
    let bad : none ≡ entry_line (take c.loop-i.i c.loop-i.es) c.in_ok-line.line.now = rw c.in_err-es.ensures.ok_part at c.entry_line.ensures in
    let e : c.from_residual-in_err-es.result ≡ Err (record { line = c.loop-i.i + 2 }) = search rules in
    let n : c.loop-i.i + 2 ≡ c.loop-i.left.line = omega arith in
    rw (e, n) (contents-bad _ _ _ _ _ c.loop-i-test.true _ _ c.in_ok-line.ensures.0 bad ∙ c.loop-i.invariant.2, tt, omega arith)

pub loop-i-preserved : goal.loop-i-preserved
loop-i-preserved c =
    let got : some c.in_ok-es.field-0 ≡ entry_line (take c.loop-i.i c.loop-i.es) c.in_ok-line.line.now = rw c.in_ok-es.ensures.ok_part at c.entry_line.ensures in
    let n : c.in_ok-line.rest.line ≡ c.loop-i.left.line + 1 = c.in_ok-line.ensures.1 in
    let k : c.loop-i.i < length c.loop-i.es = omega arith in
    (omega arith, simp length-set c.loop-i.invariant.1, rw n (contents-next _ _ _ _ _ c.loop-i-test.true _ _ c.in_ok-line.ensures.0 _ got k ∙ c.loop-i.invariant.2))

pub returns : goal.returns
returns c =
    let e = contents-end c.args.count c.loop-i.i c.loop-i.left.line c.loop-i.es c.loop-i.left.text.now (omega arith) in
    (e ∙ c.loop-i.invariant.2, record { count = omega arith; length = c.loop-i.invariant.1; line_least = omega arith; line_most = omega arith }, tt)
