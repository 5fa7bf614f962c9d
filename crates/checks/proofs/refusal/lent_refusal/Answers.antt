-- `lent_refusal` meets its contract: of two lists of checks, one after the other, the first that refuses is in the first
-- list that has one. Assumes nothing.
use mathlib.Core.Path.{refl}
use Rattle.std.proofs.lemmas.Result.{err_from_is_err_and}
use Rattle.method.proofs.Checks.First.{first-here, first-beyond}
use Rattle.checks.specs.Refused.{refused_some}
use Rattle.checks.proofs.refusal.lent_refusal.Goals as goal

pub returns-in_err-table_refusal : goal.returns-in_err-table_refusal
returns-in_err-table_refusal c =
    let p = err_from_is_err_and c.from_residual.result c.from_residual.ensures.1 in
    rw (p.1, p.2) (first-here _ _ refl c.in_err-table_refusal.ensures (refused_some _))

pub returns : goal.returns
returns c = first-beyond _ _ refl c.in_ok-table_refusal.ensures refl c.list_refusal.ensures
