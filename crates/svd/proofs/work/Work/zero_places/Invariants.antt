-- `zero_places` meets its contract: after k turns the lists are `places_zeroed` of k places. Assumes nothing.
use mathlib.Core.Path.{◌≡◌}
use lib.Ieee.{binary64}
use Rattle.method.specs.Bidiagonal.{places_zeroed}
use Rattle.svd.specs.Values.{sizes}
use Rattle.svd.specs.Loan.{work_in, SameLoan}
use Rattle.svd.proofs.work.Work.zero_places.Given as goal

abbrev pub invariant-loop-k : goal.invariant-loop-k
invariant-loop-k l =
    record {
      same : SameLoan l.initial.self l.self;
      zeroed : work_in l.self ≡ places_zeroed binary64 l.floor (sizes l.initial.self.shape) l.initial.self.upper l.k (work_in l.initial.self);
    }
