-- The three lent lists as the method's work, and what a kernel keeps of them. Assumes nothing.
use Rattle.std.specs.Prelude.{◌≡◌}
use Rattle.std.proofs.Common.{◌∙◌}
use Rattle.method.specs.Work.{Work as Lists, work}
use Rattle.svd.specs.declared.work.Work.{Work}

-- what the three lists hold
abbrev pub work_in : Work → Lists
work_in w = work w.b.now w.u.now w.v.now

-- the same three lists are lent, of the same sizes, for the same form
pub record SameLoan (w w' : Work) : Type 0 where
  pub b : w'.b.ghost_name ≡ w.b.ghost_name
  pub u : w'.u.ghost_name ≡ w.u.ghost_name
  pub v : w'.v.ghost_name ≡ w.v.ghost_name
  pub shape : w'.shape ≡ w.shape
  pub upper : w'.upper ≡ w.upper

-- from call to call
pub same_loan : {w w' w'' : Work} → SameLoan w w' → SameLoan w' w'' → SameLoan w w''
same_loan s t =
    record {
      b = t.b ∙ s.b;
      u = t.u ∙ s.u;
      v = t.v ∙ s.v;
      shape = t.shape ∙ s.shape;
      upper = t.upper ∙ s.upper;
    }
