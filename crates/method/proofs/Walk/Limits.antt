-- Two limits compared: a settled walk is the same at every greater one, and at credit 0 each limit shows the state
-- after as many passes. Assumes nothing.
use Prim.Native.Nat.{ℕ, zero, suc, ◌+◌, ◌-◌, ◌*◌, ◌≤◌}
use native.Mathlib.Omega.{arith}
use Rattle.std.specs.Prelude.{◌≡◌, Bool}
use Rattle.std.proofs.Math.Path.{refl}
use Rattle.std.proofs.Common.{ap, ◌∙◌}
use Rattle.std.proofs.Math.Bool.{true, false}
use Rattle.std.proofs.Math.Dec.{ltb}
use borrow.Author.Tests.{ltb-true, ltb-false}
use Rattle.method.specs.Walk.{Rules, State, start, going, pass, run, enough, walked}
use Rattle.method.specs.Walk.Run.{Going}
use Rattle.method.proofs.Walk.Run.{going-true, true_going, narrow, pass-keeps, run_more, run_end, run-same}

-- ---- a walk that came down to range 1 is the same under every larger limit

module _ {D : Type 0} (rules : Rules D) (credit : ℕ) {limit limit' : ℕ} (h : limit ≤ limit') where
  pub run_settled :
      (n : ℕ) (s : State D) → (run rules limit credit n s).walk.tally.range ≤ 1 →
      run rules limit' credit n s ≡ run rules limit credit n s
  unfolding run
  run_settled zero s k = refl
  run_settled (suc n) s k = go (going limit s.walk) refl (run_settled n (pass rules credit s))
    where
      go :
          (b : Bool) → going limit s.walk ≡ b →
          ((run rules limit credit n (pass rules credit s)).walk.tally.range ≤ 1 →
          run rules limit' credit n (pass rules credit s) ≡ run rules limit credit n (pass rules credit s)) →
          run rules limit' credit (suc n) s ≡ run rules limit credit (suc n) s
      go true e ih =
          let g : Going limit s.walk = going-true limit s.walk e in
          let g' : Going limit' s.walk = record { wide = g.wide; below = omega (arith, g.below) } in
          rw (run_more rules credit limit' n s (true_going limit' s.walk g'), run_more rules credit limit n s e)
          (ih (rw (run_more rules credit limit n s e) at k))
      go false e ih =
          rw (run_end rules credit limit (suc n) s e)
          (run_end rules credit limit' (suc n) s
          (narrow limit' s.walk (rw (run_end rules credit limit (suc n) s e) at k)))

  pub settled :
      (c : ℕ) (d : D) → (walked rules limit credit c d).walk.tally.range ≤ 1 →
      walked rules limit' credit c d ≡ walked rules limit credit c d
  settled c d k =
      let e : run rules limit' credit (enough limit credit c) (start c d) ≡ walked rules limit credit c d =
      run_settled (enough limit credit c) (start c d) k in
      run-same rules credit limit' (start c d) (omega arith)
      (rw e (narrow limit' (walked rules limit credit c d).walk k))
      ∙ e

-- ---- at credit 0 the limit k exposes the state after k passes

module _ {D : Type 0} (rules : Rules D) {limit limit' : ℕ} (h : limit ≤ limit') where
  run-exposed : (n : ℕ) (s : State D) → s.walk.counter + n ≤ limit → run rules limit 0 n s ≡ run rules limit' 0 n s
  unfolding run
  run-exposed zero s k = refl
  run-exposed (suc n) s k = go (ltb 1 s.walk.tally.range) refl (run-exposed n (pass rules 0 s))
    where
      go :
          (b : Bool) → ltb 1 s.walk.tally.range ≡ b →
          ((pass rules 0 s).walk.counter + n ≤ limit →
          run rules limit 0 n (pass rules 0 s) ≡ run rules limit' 0 n (pass rules 0 s)) →
          run rules limit 0 (suc n) s ≡ run rules limit' 0 (suc n) s
      go true e ih =
          let g : Going limit s.walk = record { wide = ltb-true _ _ e; below = omega arith } in
          let g' : Going limit' s.walk = record { wide = ltb-true _ _ e; below = omega arith } in
          rw (
            run_more rules 0 limit n s (true_going limit s.walk g),
            run_more rules 0 limit' n s (true_going limit' s.walk g'),
          )
          (ih (pass-keeps rules 0 (λ s'. s'.walk.counter + n ≤ limit) s (omega arith) (omega arith)))
      go false e ih =
          rw (
            run_end rules 0 limit (suc n) s (narrow limit s.walk (ltb-false _ _ e)),
            run_end rules 0 limit' (suc n) s (narrow limit' s.walk (ltb-false _ _ e)),
          )
          refl

  pub exposed : (c : ℕ) (d : D) → walked rules limit 0 c d ≡ run rules limit' 0 limit (start c d)
  exposed c d =
      ap (λ (n : ℕ). run rules limit 0 n (start c d)) (let e : limit + 0 * (c - 2) ≡ limit = omega arith in e)
      ∙ run-exposed limit (start c d) (omega arith)
