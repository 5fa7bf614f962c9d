-- A walk that goes on by drops alone: where the limit ran out, and the coupling at every range from 2 up to that left is
-- negligible, a greater limit brings the walk down to range 1, a drop at each range, and the data stay as they are.
-- Assumes nothing.
use Prim.Native.Nat.{ℕ, zero, suc, ◌+◌, ◌-◌, ◌≤◌, ◌<◌}
use Rattle.std.proofs.Math.Numerals.{add-one}
use native.Mathlib.Omega.{arith}
use Rattle.std.specs.Prelude.{◌≡◌, true, false}
use Rattle.std.proofs.Math.Path.{refl}
use Rattle.std.proofs.Common.{sym, ap, ◌∙◌}
use Rattle.method.specs.Walk.{Tally, Rules, State, stands, start, after_drop, going, pass, run, enough, walked}
use Rattle.method.specs.Walk.Run.{Going}
use Rattle.method.proofs.Walk.Run.{going-true, true_going, narrow, pass-drop, pass-keeps}
use Rattle.method.proofs.Walk.Run.{run_more, run-keeps, run-add, run-next, run-same}
use Rattle.method.proofs.Walk.Counts.{walked-done}
use Rattle.method.specs.Walk.Applied.{applied}
use Rattle.method.proofs.Walk.Applied.{walked-applied}
use Rattle.method.specs.Walk.Drops.{Down}

abbrev tally : ℕ → ℕ → ℕ → ℕ → ℕ → Tally
tally r p s d t = record { range = r; passes = p; sweeps = s; drops = d; rotations = t }

pub same_tally :
    {r r' p p' s s' d d' t t' : ℕ} → r ≡ r' → p ≡ p' → s ≡ s' → d ≡ d' → t ≡ t' →
    tally r p s d t ≡ tally r' p' s' d' t'
same_tally range passes sweeps drops rotations = cc

module _ {D : Type 0} (rules : Rules D) where
  -- every coupling from range 2 up to r is negligible
  abbrev pub AllNegligible : ℕ → D → Type 0
  AllNegligible r d = (q : ℕ) → 1 < q → q ≤ r → rules.negligible q d ≡ true

  module _ (limit credit : ℕ) where
    -- k drops from range k + 1: one asks for a counter below the limit, and where a drop pays nothing back, k for k of it
    run-drops :
        (k : ℕ) (s : State D) →
        s.walk.tally.range ≡ k + 1 →
        AllNegligible (k + 1) s.held →
        (1 ≤ k → s.walk.counter < limit) →
        (credit ≡ 0 → s.walk.counter + k ≤ limit) →
        Down s (run rules limit credit k s)
    unfolding run
    run-drops zero s e all below room =
        record { counted = same_tally (omega arith) (omega arith) refl (omega arith) refl; held = refl }
    run-drops (suc k) s e all below room =
        let g : Going limit s.walk = record { wide = omega arith; below = below (omega arith) } in
        let dropped = stands (after_drop credit s.walk) s.held in
        let q = pass-drop rules credit s (all s.walk.tally.range (omega arith) (omega arith)) in
        let down = run-drops k dropped (omega arith) (λ r some most. all r some (omega arith))
        (λ some. fewer credit room (below (omega arith)) some) (λ z. omega (arith, room z, z)) in
        rw (run_more rules credit limit k s (true_going limit s.walk g), q)
        (record {
          counted = down.counted ∙ same_tally refl (omega arith) refl (omega arith) refl;
          held = down.held;
        })
      where
        fewer :
            (credit : ℕ) → (credit ≡ 0 → s.walk.counter + suc k ≤ limit) → s.walk.counter < limit →
            1 ≤ k → s.walk.counter + 1 - credit < limit
        fewer zero room low some = omega (arith, room refl)
        fewer (suc c) room low some = omega arith

    -- a run from a counter within the limit stays within it
    run-within :
        (n : ℕ) (s : State D) → s.walk.counter ≤ limit → (run rules limit credit n s).walk.counter ≤ limit
    run-within n s h =
        run-keeps rules credit limit (λ s. s.walk.counter ≤ limit)
        (λ s g k. pass-keeps rules credit (λ s. s.walk.counter ≤ limit) s (omega (arith, g.below)) (omega (arith, g.below)))
        n s h

    -- a run makes each pass that there is to do
    run-applied :
        (n : ℕ) (s : State D) → ((k : ℕ) → k < n → going limit (applied rules credit k s).walk ≡ true) →
        run rules limit credit n s ≡ applied rules credit n s
    unfolding run applied
    run-applied zero s each = refl
    run-applied (suc n) s each =
        let q = run-applied n s (λ k h. each k (omega arith)) in
        rw (← add-one, run-next rules credit limit n s (rw q (each n (omega arith)))) (ap (pass rules credit) q)

    -- two runs that came to their end are the same
    run-ended :
        (m n : ℕ) (s : State D) →
        going limit (run rules limit credit m s).walk ≡ false →
        going limit (run rules limit credit n s).walk ≡ false →
        run rules limit credit m s ≡ run rules limit credit n s
    run-ended m n s e d =
        sym (run-same rules credit limit {m = m} {n = m + n} s (omega arith) e)
        ∙ run-same rules credit limit {m = n} {n = m + n} s (omega arith) d

  -- a walk at a greater limit goes on from where the walk at this one ended
  pub walked_on :
      (limit limit' credit c n : ℕ) (d : D) → limit ≤ limit' →
      let e = walked rules limit credit c d in
      going limit' (run rules limit' credit n e).walk ≡ false →
      walked rules limit' credit c d ≡ run rules limit' credit n e
  walked_on limit limit' credit c n d h end =
      let e = walked rules limit credit c d in
      let a = walked-applied rules limit credit c d in
      let p = e.walk.tally.passes in
      let q : run rules limit' credit p (start c d) ≡ e =
      run-applied limit' credit p (start c d) (λ k l. wider (applied rules credit k (start c d)) (a.each k l))
      ∙ sym a.counted in
      let all : run rules limit' credit (p + n) (start c d) ≡ run rules limit' credit n e =
      run-add rules credit limit' p n (start c d) ∙ ap (run rules limit' credit n) q in
      run-ended limit' credit (enough limit' credit c) (p + n) (start c d) (walked-done rules limit' credit c d) (rw all end)
      ∙ all
    where
      wider : (s : State D) → going limit s.walk ≡ true → going limit' s.walk ≡ true
      wider s t =
          let g = going-true limit s.walk t in
          true_going limit' s.walk (record { wide = g.wide; below = omega (arith, g.below) })

  -- The limit ran out, and every coupling of the range that is left is negligible: at a greater limit, where no credit is
  -- given one that is greater by a pass for each drop, the walk comes down to range 1 by drops alone.
  pub walked-down :
      (limit limit' credit c : ℕ) (d : D) →
      let e = walked rules limit credit c d in
      let r = e.walk.tally.range in
      1 < r →
      limit < limit' →
      (credit ≡ 0 → limit + (r - 1) ≤ limit') →
      AllNegligible r e.held →
      Down e (walked rules limit' credit c d)
  walked-down limit limit' credit c d more greater room all =
      let e = walked rules limit credit c d in
      let k = e.walk.tally.range - 1 in
      let within = run-within limit credit (enough limit credit c) (start c d) (omega arith) in
      let down = run-drops limit' credit k e (omega arith) (λ q some most. all q some (omega arith))
      (λ some. omega arith) (λ z. omega (arith, room z)) in
      let one : (run rules limit' credit k e).walk.tally.range ≡ 1 = ap (λ (t : Tally). t.range) down.counted in
      let q = walked_on limit limit' credit c k d (omega arith) (narrow limit' (run rules limit' credit k e).walk (omega arith)) in
      rw q down
