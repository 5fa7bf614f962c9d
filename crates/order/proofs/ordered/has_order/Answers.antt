-- `has_order` meets its contract: one check after the other, as the definition has them. Assumes nothing.
use mathlib.Core.Path.{sym, ap, ◌∙◌}
use mathlib.Core.Bool.{not}
use Rattle.std.specs.Prelude.{Ok}
use Rattle.method.specs.Checks.{Refusal}
use Rattle.method.specs.Report.{Report}
use Rattle.method.specs.Ordered.{refused_after}
use Rattle.method.proofs.Checks.First.{first-hit, first-miss, first-none}
use Rattle.svd.specs.Values.{report_of}
use Rattle.order.proofs.ordered.has_order.Goals as goal

pub returns-then-not-is_settled : goal.returns-then-not-is_settled
returns-then-not-is_settled c =
    let told : Refusal → Report = λ x. refused_after x (report_of (Ok c.args.report)) in
    ap told (sym (first-hit _ _ (ap not (sym c.is_settled.ensures ∙ c.if-not-is_settled.true))))

pub returns-then-not-all_finite : goal.returns-then-not-all_finite
returns-then-not-all_finite c =
    let told : Refusal → Report = λ x. refused_after x (report_of (Ok c.args.report)) in
    ap told
    (sym (first-miss _ _ (ap not (sym c.is_settled.ensures ∙ c.if-not-is_settled.false))
    ∙ first-hit _ _ (ap not (sym c.all_finite.ensures ∙ c.if-not-all_finite.true))))

pub returns : goal.returns
returns c =
    let told : Refusal → Report = λ x. refused_after x (report_of (Ok c.args.report)) in
    ap told
    (sym (first-miss _ _ (ap not (sym c.is_settled.ensures ∙ c.if-not-is_settled.false))
    ∙ first-miss _ _ (ap not (sym c.all_finite.ensures ∙ c.if-not-all_finite.false))
    ∙ first-none))
