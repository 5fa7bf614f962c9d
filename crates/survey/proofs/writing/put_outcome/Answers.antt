-- `survey::writing::put_outcome` meets its contract: the report and its rows, or the refusal alone. Assumes nothing.
use mathlib.Core.List.{List, []}
use Prim.Native.Nat.{◌*◌}
use lib.ListN.{take}
use lib.Ieee.{Float}
use Rattle.method.specs.Work.{work}
use Rattle.method.specs.Outcome.{Outcome, outcome_of}
use Rattle.std.specs.Prelude.{Ok, Err}
use mathlib.Core.Path.{refl}
use Rattle.checks.specs.Refused.{refused_some}
use Rattle.svd.specs.Values.{Answer, report_of}
use Rattle.text.proofs.Pages.{writes-then}
use Rattle.survey.specs.declared.reading.Entry.{Entry}
use Rattle.survey.proofs.WritingLaws.{outcome-refused, rows_taken, outcome-accepted}
use Rattle.survey.proofs.writing.put_outcome.Goals as goal

-- what the call said, as the method's outcome
outcome : Entry → Answer → List Float → Outcome
outcome e r m = outcome_of (report_of r) (work (take (e.rows * e.cols) m) [] [])

pub returns-in-Ok : goal.returns-in-Ok
unfolding outcome
returns-in-Ok c =
    let e = c.args.e in
    let m = c.args.m.now in
    let report = c.put_report.ensures in
    let rows = c.put_rows.ensures in
    let h = outcome-accepted e.id e.rows e.cols (outcome e (Ok c.in-Ok.report) m) refl in
    rw (c.in-Ok.is, h, rows_taken e.rows e.cols m c.requires) (writes-then report rows)

pub returns-in-Err : goal.returns-in-Err
unfolding outcome
returns-in-Err c =
    let e = c.args.e in
    let h = outcome-refused e.id e.rows e.cols (outcome e (Err c.in-Err.refusal) c.args.m.now) (refused_some c.in-Err.refusal) in
    rw (c.in-Err.is, h) c.put_refused.ensures
