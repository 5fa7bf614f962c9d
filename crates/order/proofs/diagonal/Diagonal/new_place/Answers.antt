-- `new_place` meets its contract: the chain counts the positions that come before. Assumes nothing.
use Rattle.std.proofs.Common.{rules, arith, Bool, ℕ, ◌∙◌}
use Rattle.std.proofs.lemmas.Iterator.{YieldsList-from_range}
use Rattle.std.proofs.lemmas.Iterator.Consumers.{YieldsList-from_filter, count_from_yields_List}
use Rattle.method.specs.Order.{diagonal, ahead, new_place}
use Rattle.order.specs.Laws.{counted}
use borrow.Author.Tests.{tests}
use Rattle.order.proofs.diagonal.Diagonal.new_place.Goals as goal

pub returns : goal.returns
unfolding new_place
returns c =
    let before : ℕ → Bool = λ j. ahead (diagonal c.args.self.cols c.args.self.b.now) j c.args.i in
    count_from_yields_List c.filter.result _ c.count.ensures.ran
    (YieldsList-from_filter _ before (YieldsList-from_range 0 c.args.self.c c.args.self.c c.filter.ensures.source (omega arith))
    c.filter.ensures.closure (λ x b q k. search (rules, tests)))
    ∙ counted c.args.self.c before
