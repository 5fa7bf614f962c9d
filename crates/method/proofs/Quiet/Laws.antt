-- What a quiet corner is: the test says the fact, turn by turn as the code goes; and entries that are no couplings
-- inside the corner do not matter. Assumes nothing.
use Rattle.std.specs.Prelude.{◌≡◌, refl, ◌⊎◌, Bool, true, false, ◌&&◌, List, ℕ, zero, suc, ◌+◌, ◌-◌, ◌<◌, ◌≤◌, Float}
use Rattle.std.proofs.Common.{sym, ap, ◌∙◌, inl, inr, true≢false, eq-or-lt_of_le, add-one}
use native.Mathlib.Omega.{arith}
use Rattle.method.specs.Floats.{is_zero}
use Rattle.method.proofs.Repeated.{repeated-none, repeated-next, repeated-same}
use Rattle.method.specs.Chase.{coupling}
use Rattle.method.specs.Checks.Tests.{Says}
use Rattle.method.proofs.Checks.Tests.{both, holds}
use Rattle.method.specs.Quiet.{quiet_corner, QuietCorner}

module _ (upper : Bool) (stride : ℕ) (a : List Float) where
  -- a corner of range 1 or less has no coupling
  pub quiet_none : (r : ℕ) → r ≤ 1 → quiet_corner upper stride r a ≡ true
  unfolding quiet_corner
  quiet_none r h = let e : r - 1 ≡ 0 = omega arith in rw e (sym (repeated-none 0 _ true))

  -- one coupling more
  pub quiet_next :
      (k : ℕ) →
      quiet_corner upper stride (k + 2) a ≡ (quiet_corner upper stride (k + 1) a && is_zero (coupling upper stride k a))
  unfolding quiet_corner
  quiet_next k =
      let e : k + 2 - 1 ≡ k + 1 = omega arith in
      let d : k + 1 - 1 ≡ k = omega arith in
      rw (e, d) (repeated-next _ k true)

  -- the test says the fact
  quiet_up : (n : ℕ) → Says (quiet_corner upper stride (n + 1) a) (QuietCorner upper stride (n + 1) a)
  quiet_up zero = (λ t k h. absurd (let z : ⊥ = omega arith in z), λ q. quiet_none (zero + 1) (omega arith))
  quiet_up (suc n) =
      let e : suc n + 1 ≡ n + 2 = omega arith in
      let s = both (quiet_up n) (holds (is_zero (coupling upper stride n a))) in
      rw (e, quiet_next n) (λ t. up (s.0 t), λ q. s.1 (λ k h. q k (omega arith), q n (omega arith)))
    where
      up :
          QuietCorner upper stride (n + 1) a × (is_zero (coupling upper stride n a) ≡ true) →
          QuietCorner upper stride (n + 2) a
      up q k h = go (eq-or-lt_of_le (let l : k ≤ n = omega arith in l))
        where
          go : (k ≡ n) ⊎ (k < n) → is_zero (coupling upper stride k a) ≡ true
          go (inl e) = rw e q.1
          go (inr l) = q.0 k (omega arith)

  pub quiet_says : (r : ℕ) → Says (quiet_corner upper stride r a) (QuietCorner upper stride r a)
  quiet_says zero = (λ t k h. absurd (let z : ⊥ = omega arith in z), λ q. quiet_none 0 (omega arith))
  quiet_says (suc n) = rw (← add-one n) (quiet_up n)

  -- a coupling inside that is not zero, and the corner is not quiet
  pub not_quiet :
      (r k : ℕ) → k + 1 < r → is_zero (coupling upper stride k a) ≡ false → quiet_corner upper stride r a ≡ false
  not_quiet r k h e = go (quiet_corner upper stride r a) refl
    where
      go : (b : Bool) → quiet_corner upper stride r a ≡ b → quiet_corner upper stride r a ≡ false
      go true t = absurd (true≢false (sym ((quiet_says r).0 t k h) ∙ e))
      go false t = t

-- entries that are no couplings inside the corner do not matter: two tables with the same ones are both quiet, or
-- neither is
pub quiet_inside :
    (upper : Bool) (stride r : ℕ) (a a' : List Float) →
    ((k : ℕ) → k + 1 < r → coupling upper stride k a ≡ coupling upper stride k a') →
    quiet_corner upper stride r a ≡ quiet_corner upper stride r a'
unfolding quiet_corner
quiet_inside upper stride r a a' same =
    repeated-same _ _ (r - 1) true (λ k t h. ap (λ (x : Float). t && is_zero x) (same k (omega arith)))
