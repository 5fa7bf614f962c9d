-- `all_finite` meets its contract: the chain tests each entry. Assumes nothing.
use Rattle.std.proofs.Common.{rules, refl, arith, ◌∙◌}
use Rattle.std.proofs.lemmas.Iterator.{YieldsList-from_range}
use Rattle.std.proofs.lemmas.Iterator.Search.{all_from_yields_List}
use Rattle.std.specs.Float.Ieee.Scale.{finite}
use Rattle.method.specs.Order.{diagonal}
use Rattle.order.specs.Laws.{finite_each}
use borrow.Author.Tests.{tests}
use Rattle.order.proofs.diagonal.Diagonal.all_finite.Goals as goal

pub returns : goal.returns
returns c =
    let d = diagonal c.args.self.cols c.args.self.b.now in
    all_from_yields_List (λ i. finite (d i)) _ _ _ c.all.ensures.ran
    (YieldsList-from_range 0 c.args.self.c c.args.self.c refl (omega arith)) (λ x b q k. search (rules, tests))
    ∙ finite_each c.args.self.c d
