-- `first_refusal` meets its contract: of three lists of checks, one after the other, the first that refuses is in the first
-- list that has one. Assumes nothing.
use mathlib.Core.Path.{refl}
use Rattle.std.proofs.lemmas.Result.{err_from_is_err_and}
use Rattle.method.specs.Work.{work}
use Rattle.method.proofs.Checks.First.{first-here, first-beyond}
use Rattle.method.proofs.Checks.Table.{table-passed}
use Rattle.checks.specs.Refused.{refused_some}
use Rattle.checks.proofs.refusal.first_refusal.Goals as goal

pub returns-in_err-table_refusal : goal.returns-in_err-table_refusal
returns-in_err-table_refusal c =
    let p = err_from_is_err_and c.from_residual.result c.from_residual.ensures.1 in
    rw (p.1, p.2) (first-here _ _ refl c.in_err-table_refusal.ensures (refused_some _))

pub returns-in_err-setting_refusal : goal.returns-in_err-setting_refusal
returns-in_err-setting_refusal c =
    let p = err_from_is_err_and c.from_residual-in_err-setting_refusal.result c.from_residual-in_err-setting_refusal.ensures.1 in
    rw (p.1, p.2)
    (first-beyond _ _ refl c.in_ok-table_refusal.ensures refl
    (first-here _ _ refl c.in_err-setting_refusal.ensures (refused_some _)))

pub reading_refusal-requires : goal.reading_refusal-requires
reading_refusal-requires c =
    table-passed c.args.kept _ _
    (work c.args.b.now c.args.u.now c.args.v.now)
    c.in_ok-table_refusal.ensures refl

pub returns : goal.returns
returns c =
    first-beyond _ _ refl c.in_ok-table_refusal.ensures refl
    (first-beyond _ _ refl c.in_ok-setting_refusal.ensures refl
    c.reading_refusal.ensures)
