-- `split` meets its contract: refused, or the whole run. Assumes nothing.
use mathlib.Core.Path.{refl}
use Rattle.std.proofs.lemmas.Result.{err_from_is_err_and}
use Rattle.method.specs.Work.{work}
use Rattle.checks.specs.Values.{settings_of}
use Rattle.checks.specs.Refused.{refused_some}
use Rattle.svd.specs.Calls.{refused-call, accepted-call, call_fit, fit_lending}
use Rattle.svd.proofs.interface.split.Goals as goal

pub returns-in_err-first_refusal : goal.returns-in_err-first_refusal
returns-in_err-first_refusal c =
    let p = err_from_is_err_and c.from_residual.result c.from_residual.ensures.1 in
    rw (p.1, p.2)
    (refused-call c.args.kept c.args.rows c.args.cols (settings_of c.args.settings) (work c.args.b.now c.args.u.now c.args.v.now) _ _ c.in_err-first_refusal.ensures (refused_some _) refl)

pub decompose-walk-requires : goal.decompose-walk-requires
decompose-walk-requires c =
    let f = call_fit c.args.kept c.args.rows c.args.cols (settings_of c.args.settings) (work c.args.b.now c.args.u.now c.args.v.now) _ c.in_ok-first_refusal.ensures refl in
    rw c.packed-z.ensures (record { in_rows = f.rows_some; in_cols = f.cols_some }, f.limit_low, f.credit_low, fit_lending c.args.kept c.args.rows c.args.cols _ _ f)

pub returns : goal.returns
returns c =
    accepted-call c.args.kept c.args.rows c.args.cols (settings_of c.args.settings) (work c.args.b.now c.args.u.now c.args.v.now) _ _ _ _ c.in_ok-first_refusal.ensures refl (rw c.packed-z.ensures at c.accepted.ensures) (rw c.packed-z.ensures at c.decompose-walk.ensures)
