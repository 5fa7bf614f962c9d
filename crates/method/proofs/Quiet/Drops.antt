-- A quiet corner goes on by drops, or does not: a coupling of zero is dropped exactly where its bound is above zero. So
-- where every bound inside the corner is, drops alone are left to do. Assumes nothing.
use Rattle.std.specs.Prelude.{◌≡◌, Bool, true, List, ℕ, ◌+◌, ◌-◌, Float}
use Rattle.std.proofs.Common.{⊎_elim, arith}
use Rattle.std.specs.Float.{Format}
use Rattle.std.specs.Float.Ieee.{add, mul, lt}
use Rattle.method.specs.Floats.{plus_zero, magnitude, is_zero}
use Rattle.method.proofs.Floats.Laws.{smaller-either}
use Rattle.method.proofs.Floats.Zero.{zero_below}
use Rattle.method.specs.Work.{Work, Shape, at}
use Rattle.method.specs.Chase.{coupling, drop_bound, negligible}
use Rattle.method.proofs.Walk.Drops.{AllNegligible}
use Rattle.method.specs.Quiet.{QuietCorner, BoundsAbove}
use Rattle.method.specs.Outcome.{rules_of}

module _ (f : Format) (tolerance absolute : Float) (stride : ℕ) (upper : Bool) (a : List Float) where
  -- of a coupling of zero the test for a drop asks whether the bound is above zero
  pub zero_negligible :
      (k : ℕ) → is_zero (coupling upper stride k a) ≡ true →
      negligible f tolerance absolute stride upper k a ≡ lt plus_zero (drop_bound f tolerance absolute stride k a)
  unfolding negligible
  zero_negligible k z = zero_below (coupling upper stride k a) (drop_bound f tolerance absolute stride k a) z

-- A bound is above zero where the absolute bound is and (|top left| + |bottom right|) * tolerance does not round to zero.
pub bound_above :
    (f : Format) (tolerance absolute : Float) (stride k : ℕ) (a : List Float) →
    let ends = add f (magnitude (at stride k k a)) (magnitude (at stride (k + 1) (k + 1) a)) in
    lt plus_zero (mul f ends tolerance) ≡ true →
    lt plus_zero absolute ≡ true →
    lt plus_zero (drop_bound f tolerance absolute stride k a) ≡ true
bound_above f tolerance absolute stride k a relative bound =
    let ends = add f (magnitude (at stride k k a)) (magnitude (at stride (k + 1) (k + 1) a)) in
    ⊎_elim (λ e. rw e relative) (λ e. rw e bound) (smaller-either (mul f ends tolerance) absolute)

-- so in a quiet corner every coupling is negligible where every bound is above zero
pub quiet_drops :
    (f : Format) (tolerance absolute : Float) (z : Shape) (upper : Bool) (r : ℕ) (w : Work) →
    QuietCorner upper z.stride r w.matrix →
    BoundsAbove f tolerance absolute z.stride r w.matrix →
    AllNegligible (rules_of f z upper tolerance absolute) r w
quiet_drops f tolerance absolute z upper r w still above q some most =
    rw (zero_negligible f tolerance absolute z.stride upper w.matrix (q - 2) (still (q - 2) (omega arith)))
    (above (q - 2) (omega arith))
