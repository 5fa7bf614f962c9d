-- `profile_svd_decomposition` meets its contract: refused, or the call with the profile's settings. Assumes nothing.
use mathlib.Core.Path.{refl}
use mathlib.Core.Bool.{false}
use mathlib.Core.List.{[]}
use Rattle.std.proofs.lemmas.Result.{err_from_is_err_and}
use Rattle.method.specs.Work.{work}
use Rattle.checks.specs.Refused.{refused_some}
use Rattle.by_profile.specs.Ways.{or_first, none_by_ten, way_none, way_settings}
use Rattle.by_profile.proofs.profile_svd_decomposition.Goals as goal

pub returns-in_err-table_refusal-in-Err : goal.returns-in_err-table_refusal-in-Err
returns-in_err-table_refusal-in-Err c =
    let p = err_from_is_err_and c.from_residual.result c.from_residual.ensures.1 in
    rw (p.1, p.2)
    (way_none false c.args.rows c.args.cols c.args.profile (work c.args.b.now [] [])
    _ c.in-Err.ensures _ (refused_some _)
    c.in_err-table_refusal-in-Err.ensures (or_first _ _ (refused_some _)) refl)

pub returns-in_ok-table_refusal-in-Err : goal.returns-in_ok-table_refusal-in-Err
returns-in_ok-table_refusal-in-Err c =
    way_none false c.args.rows c.args.cols c.args.profile (work c.args.b.now [] [])
    _ c.in-Err.ensures _ (refused_some _)
    c.in_ok-table_refusal-in-Err.ensures (none_by_ten _ _ c.in-Err.ensures) refl

pub returns-in-Ok : goal.returns-in-Ok
returns-in-Ok c =
    way_settings false c.args.rows c.args.cols c.args.profile (work c.args.b.now [] [])
    _ c.in-Ok.ensures _ refl c.svd_decomposition.ensures
