-- `survey::put_survey` meets its contract: the call's outcome is the method's. Assumes nothing.
use mathlib.Core.Path.{subst, ◌≡◌}
use mathlib.Core.List.{[]}
use Prim.Native.Nat.{◌*◌}
use lib.ListN.{take}
use lib.Ieee.{binary64}
use Rattle.method.specs.Work.{work}
use Rattle.method.specs.Outcome.{Outcome, outcome_of, plain_outcome}
use Rattle.method.specs.Defaults.{defaults}
use Rattle.svd.specs.Values.{report_of}
use Rattle.text.specs.Page.{Writes}
use Rattle.survey.specs.Print.{survey_text, outcome_text}
use Rattle.survey.proofs.put_survey.Goals as goal

pub returns : goal.returns
unfolding survey_text
returns c =
    let said : let args = c.args in let e = args.e in outcome_of (report_of c.decomposed-answer.result) (work (take (e.rows * e.cols) c.decomposed-answer.new.m) [] []) ≡ plain_outcome binary64 e.rows e.cols defaults (take (e.rows * e.cols) args.m.now) =
    c.decomposed-answer.ensures.0 in
    let e = c.args.e in
    let put = c.put_outcome in
    subst (λ (o : Outcome). Writes c.args.page.now (outcome_text e.id e.rows e.cols o) put.new.page) said put.ensures
