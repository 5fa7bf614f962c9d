-- `put_in_order` meets its contract: refused after the run, or moved. Assumes nothing.
use mathlib.Core.Path.{refl, sym, ap, ◌∙◌}
use Rattle.std.proofs.lemmas.Result.{err_from_is_err_and}
use Rattle.method.specs.Work.{work}
use Rattle.method.specs.Report as Report
use Rattle.svd.specs.Values.{report_of}
use Rattle.std.specs.Prelude.{Ok}
use Rattle.order.specs.Ways.{fine, way_after, way_put, unordered_some}
use Rattle.order.proofs.ordered.put_in_order.Goals as goal

pub returns-in_err-has_order : goal.returns-in_err-has_order
returns-in_err-has_order c =
    let p = err_from_is_err_and c.from_residual.result c.from_residual.ensures.1 in
    let e = c.in_err-has_order.ensures in
    rw (p.1, p.2)
    (way_after c.args.rows c.args.cols _ (report_of (Ok c.args.report))
    (work c.args.b.now c.args.u.now c.args.v.now)
    c.args.list.now c.smaller_size-c.ensures refl _
    (λ z. unordered_some _ (ap (λ (x : Report.Report). x.refusal.number) e ∙ z)) e)

pub move_all-requires : goal.move_all-requires
move_all-requires c =
    let none = ap (λ (x : Report.Report). x.refusal.number) (sym c.in_ok-has_order.ensures) in
    let finite =
    fine c.args.rows c.args.cols _ (report_of (Ok c.args.report))
    (work c.args.b.now c.args.u.now c.args.v.now)
    c.args.list.now c.smaller_size-c.ensures refl none in
    (c.smaller_size-c.ensures, c.requires, finite)

pub returns : goal.returns
returns c =
    let none = ap (λ (x : Report.Report). x.refusal.number) (sym c.in_ok-has_order.ensures) in
    way_put c.args.rows c.args.cols _ (report_of (Ok c.args.report))
    (work c.args.b.now c.args.u.now c.args.v.now)
    c.args.list.now c.smaller_size-c.ensures refl none
    _ _ _ c.move_all.ensures
