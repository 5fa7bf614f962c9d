-- `chase` meets its contract: after k turns the lists are those of k steps. Assumes nothing.
use mathlib.Core.Path.{◌≡◌}
use lib.Ieee.{binary64}
use Rattle.method.specs.Chase.{steps}
use Rattle.svd.specs.Values.{sizes}
use Rattle.svd.specs.Loan.{work_in, SameLoan}
use Rattle.svd.proofs.work.Work.chase.Given as goal

abbrev pub invariant-loop-k : goal.invariant-loop-k
invariant-loop-k l =
    record {
      same : SameLoan l.initial.self l.self;
      chased : work_in l.self ≡ steps binary64 (sizes l.initial.self.shape) l.initial.self.upper l.k (work_in l.initial.self);
    }
