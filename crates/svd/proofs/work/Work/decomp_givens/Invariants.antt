-- `decomp_givens` meets its contract: after `made` turns as many passes have been made, as the definition makes them. Assumes nothing.
use Rattle.checks.specs.Values.{settings_of}
use Rattle.svd.specs.Values.{sizes}
use Rattle.svd.specs.Passes.{Inv}
use Rattle.svd.specs.Loan.{work_in, SameLoan}
use Rattle.svd.proofs.work.Work.decomp_givens.Given as goal

abbrev pub invariant-loop-made : goal.invariant-loop-made
invariant-loop-made l =
    record {
      same : SameLoan l.initial.self l.self;
      walked : Inv (sizes l.initial.self.shape) l.initial.self.upper l.n (settings_of l.s) l.initial.walk (work_in l.initial.self) (work_in l.self) l.walk l._made;
    }
