-- `survey::reading::named` meets its contract: the library's search is that of the definition. Assumes nothing.
use Rattle.std.proofs.Common.{◌∙◌, eqb, rules, tests}
use Rattle.std.proofs.lemmas.Iterator.{YieldsList-from_slice}
use Rattle.std.proofs.lemmas.Iterator.Search.{any_from_yields_List}
use Rattle.survey.specs.declared.reading.Entry.{Entry}
use Rattle.survey.proofs.Lines.{named-any}
use Rattle.survey.proofs.reading.named.Goals as goal

pub returns : goal.returns
returns c =
    any_from_yields_List (λ (e : Entry). eqb e.id c.args.id) _ _ _ c.any.ensures.ran (YieldsList-from_slice c.args.es.now cc) (λ x b q k. search (rules, tests))
    ∙ named-any c.args.id c.args.es.now
