-- `ordered_svd_decomposition` meets its contract: refused for what is lent, refused by the call beneath, or put in
-- order. Assumes nothing.
use mathlib.Core.Path.{refl}
use Rattle.std.proofs.lemmas.Result.{err_from_is_err_and}
use Rattle.method.specs.Work.{work}
use Rattle.checks.specs.Values.{settings_of}
use Rattle.checks.specs.Refused.{refused_some}
use Rattle.order.specs.Ways.{way_lent, way_refused, way_ordered, way_fits}
use Rattle.order.proofs.ordered.ordered_svd_decomposition.Goals as goal

pub returns-in_err-lent_refusal : goal.returns-in_err-lent_refusal
returns-in_err-lent_refusal c =
    let p = err_from_is_err_and c.from_residual.result c.from_residual.ensures.1 in
    rw (p.1, p.2)
    (way_lent c.args.rows c.args.cols (settings_of c.args.settings)
    (work c.args.b.now c.args.u.now c.args.v.now)
    c.args.list.now c.in_err-lent_refusal.ensures
    _ (refused_some _) refl)

pub returns-in_err-report : goal.returns-in_err-report
returns-in_err-report c =
    let p = err_from_is_err_and c.from_residual-in_err-report.result c.from_residual-in_err-report.ensures.1 in
    rw (p.1, p.2)
    (way_refused c.args.rows c.args.cols (settings_of c.args.settings)
    (work c.args.b.now c.args.u.now c.args.v.now)
    c.args.list.now c.in_ok-lent_refusal.ensures
    refl _ _ c.in_err-report.ensures (refused_some _))

pub put_in_order-requires : goal.put_in_order-requires
put_in_order-requires c =
    way_fits c.args.rows c.args.cols (settings_of c.args.settings)
    (work c.args.b.now c.args.u.now c.args.v.now)
    c.args.list.now c.in_ok-lent_refusal.ensures
    refl _ _ c.in_ok-report.ensures

pub returns : goal.returns
returns c =
    way_ordered c.args.rows c.args.cols (settings_of c.args.settings)
    (work c.args.b.now c.args.u.now c.args.v.now)
    c.args.list.now c.in_ok-lent_refusal.ensures
    refl _ _ c.in_ok-report.ensures _ _ _ refl
    c.put_in_order.ensures
