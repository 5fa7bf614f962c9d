-- `survey::reading::body` meets its contract: a law for each way out, and for one row more. Assumes nothing.
use Rattle.std.proofs.Common.{◌≡◌, ◌+◌, ◌-◌, ◌*◌, ap, ◌∙◌, arith, rules, Err}
use Rattle.std.proofs.Math.Option.{none, some}
use Rattle.survey.specs.Code.{row_stored}
use Rattle.survey.proofs.Bodies.{body-none, body-bad, body-next, body_end, body-stored, room}
use Rattle.survey.proofs.reading.body.Goals as goal

pub loop-j-init : goal.loop-j-init
loop-j-init c =
    let y : c.args.rows - 0 ≡ c.args.rows = omega arith in
    (omega arith, omega (arith, ap (λ z. z * (c.args.c + 1)) y), rw y (body-stored _ _ _ _ _ _))

pub returns-in_err-row-clause-body : goal.returns-in_err-row-clause-body
returns-in_err-row-clause-body c =
    let e : c.from_residual.result ≡ Err c.in_err-row.field-0.0 = search rules in
    rw (e, c.in_err-row.ensures.1) (body-none _ _ _ _ _ _ _ c.loop-j-test.true c.in_err-row.ensures.0 ∙ c.loop-j.invariant.2)

pub returns-in_err-ok_or-clause-body : goal.returns-in_err-ok_or-clause-body
returns-in_err-ok_or-clause-body c =
    let bad : none ≡ row_stored c.args.c c.in_ok-row.row.now c.loop-j.m c.loop-j.at = rw c.in_err-ok_or.ensures.ok_part at c.row_line.ensures in
    let e : c.from_residual-in_err-ok_or.result ≡ Err (record { line = c.args.from.line + c.loop-j.j }) = search rules in
    let n : c.args.from.line + c.loop-j.j ≡ c.loop-j.left.line = omega arith in
    rw (e, n) (body-bad _ _ _ _ _ _ _ c.loop-j-test.true _ _ c.in_ok-row.ensures.0 bad ∙ c.loop-j.invariant.2)

pub loop-j-preserved : goal.loop-j-preserved
loop-j-preserved c =
    let row : some c.row_line.new.m ≡ row_stored c.args.c c.in_ok-row.row.now c.loop-j.m c.loop-j.at = rw c.in_ok-ok_or.ensures.ok_part at c.row_line.ensures in
    let n : c.in_ok-row.rest.line ≡ c.loop-j.left.line + 1 = c.in_ok-row.ensures.1 in (
      omega arith,
      omega (arith, room c.args.rows c.loop-j.j (c.args.c + 1) c.loop-j-test.true),
      rw n (body-next _ _ _ _ _ _ _ c.loop-j-test.true _ _ c.in_ok-row.ensures.0 _ c.requires.1 row ∙ c.loop-j.invariant.2),
    )

pub returns-clause-body : goal.returns-clause-body
returns-clause-body c = body_end _ _ _ c.loop-j.j _ _ c.loop-j.at (omega arith) ∙ c.loop-j.invariant.2
