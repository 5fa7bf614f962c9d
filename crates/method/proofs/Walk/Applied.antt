-- The passes that a walk counts are the passes that it made: its end is `pass`, applied to its start as often as it
-- counts, each time with a pass to do, and then there is none to do. Assumes nothing.
use Prim.Native.Nat.{ℕ, zero, suc, ◌<◌}
use Rattle.std.proofs.Common.{eq-or-lt_of_le, arith, sym, ◌∙◌, inl, inr}
use Rattle.std.proofs.Math.Numerals.{add-one}
use Rattle.std.specs.Prelude.{◌≡◌, ◌⊎◌, Bool}
use Rattle.std.proofs.Math.Path.{refl, ap}
use Rattle.std.proofs.Math.Bool.{true, false}
use Rattle.method.specs.Walk.{Rules, State, start, going, pass, run, enough, walked}
use Rattle.method.proofs.Walk.Run.{pass-keeps, run-next, run-same}
use Rattle.method.proofs.Walk.Counts.{walked-done}
use Rattle.method.specs.Walk.Applied.{Applied, applied}

module _ {D : Type 0} (rules : Rules D) (limit credit : ℕ) where
  -- a pass is counted, be it a drop or a sweep
  pub pass-counted : (s : State D) → (pass rules credit s).walk.tally.passes ≡ suc s.walk.tally.passes
  pass-counted s =
      pass-keeps rules credit (λ s'. s'.walk.tally.passes ≡ suc s.walk.tally.passes) s
      (omega arith)
      (omega arith)

  module _ (s : State D) where
    -- what holds of every state on the way
    record SoFar (e : State D) : Type 0 where
      counted : e ≡ applied rules credit e.walk.tally.passes s
      each : (k : ℕ) → k < e.walk.tally.passes → going limit (applied rules credit k s).walk ≡ true

    one_more : (e : State D) → going limit e.walk ≡ true → SoFar e → SoFar (pass rules credit e)
    unfolding applied
    one_more e g q =
        record {
          counted =
              ap (pass rules credit) q.counted ∙ ap (λ (k : ℕ). applied rules credit k s) (sym (pass-counted e));
          each = λ k h. go k (eq-or-lt_of_le (omega (arith, rw (pass-counted e) at h)));
        }
      where
        go :
            (k : ℕ) → (k ≡ e.walk.tally.passes) ⊎ (k < e.walk.tally.passes) →
            going limit (applied rules credit k s).walk ≡ true
        go k (inl last) = rw (last, ← q.counted) g
        go k (inr before) = q.each k before

    so_far : s.walk.tally.passes ≡ 0 → (n : ℕ) → SoFar (run rules limit credit n s)
    unfolding run applied
    so_far z zero = record { counted = rw z; each = λ k h. absurd (omega (arith, z, h)) }
    so_far z (suc n) = go (going limit (run rules limit credit n s).walk) refl (so_far z n)
      where
        go :
            (b : Bool) → going limit (run rules limit credit n s).walk ≡ b →
            SoFar (run rules limit credit n s) → SoFar (run rules limit credit (suc n) s)
        go true g q = rw (← add-one, run-next rules credit limit n s g) (one_more (run rules limit credit n s) g q)
        go false g q = rw (run-same rules credit limit {m = n} {n = suc n} s (omega arith) g) q

  -- every walk
  pub walked-applied : (c : ℕ) (d : D) → Applied rules limit credit (start c d) (walked rules limit credit c d)
  walked-applied c d =
      let q = so_far (start c d) refl (enough limit credit c) in
      record { counted = q.counted; each = q.each; ended = walked-done rules limit credit c d }
