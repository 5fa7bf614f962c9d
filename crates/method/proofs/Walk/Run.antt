-- Passes one after another: the first of a run, its end, and two runs joined, over any data, any test and any sweep.
-- Assumes nothing.
use Prim.Native.Nat.{ℕ, zero, suc, ◌+◌, ◌-◌, ◌≤◌}
use Rattle.std.proofs.Common.{zero-add, suc-add, add-sub_of_le, arith, sym, ◌∙◌, inl, inr, ltb-true, ltb-false, lt-ltb, le-ltb}
use Rattle.std.specs.Prelude.{◌≡◌, ◌⊎◌, Bool, ◌&&◌, ltb}
use Rattle.std.proofs.Math.Path.{refl}
use Rattle.std.proofs.Math.Bool.{true, false}
use Rattle.method.specs.Walk.{Walk, Rules, State, stands, after_drop, after_sweep, going, pass, run}
use Rattle.method.specs.Walk.Run.{Going}

-- ---- whether there is a pass to do

and_left : (a b : Bool) → (a && b) ≡ true → a ≡ true
and_left true b e = refl
and_left false b e = e

and_right : (a b : Bool) → (a && b) ≡ true → b ≡ true
and_right true b e = e
and_right false b e = absurd (false_true e)
  where
    false_true : false ≡ true → ⊥
    false_true p = let z : ◌≡◌ {A = ℕ} 0 1 = cc in omega arith

pub going-true : (limit : ℕ) (w : Walk) → going limit w ≡ true → Going limit w
going-true limit w e =
    record {
      wide = ltb-true 1 w.tally.range (and_left (ltb 1 w.tally.range) (ltb w.counter limit) e);
      below = ltb-true w.counter limit (and_right (ltb 1 w.tally.range) (ltb w.counter limit) e);
    }

pub true_going : (limit : ℕ) (w : Walk) → Going limit w → going limit w ≡ true
true_going limit w g = simp (lt-ltb _ _ g.wide, lt-ltb _ _ g.below)

-- no pass is left to do: the range is down, or the counter is up
pub narrow : (limit : ℕ) (w : Walk) → w.tally.range ≤ 1 → going limit w ≡ false
narrow limit w h = simp (le-ltb _ _ h)

pub spent : (limit : ℕ) (w : Walk) → limit ≤ w.counter → going limit w ≡ false
spent limit w h = last (ltb 1 w.tally.range) (ltb w.counter limit) (le-ltb _ _ h)
  where
    last : (a b : Bool) → b ≡ false → (a && b) ≡ false
    last true b e = e
    last false b e = refl

-- the other way round
pub ended : (limit : ℕ) (w : Walk) → going limit w ≡ false → (w.tally.range ≤ 1) ⊎ (limit ≤ w.counter)
ended limit w e = go (ltb 1 w.tally.range) refl
  where
    go : (b : Bool) → ltb 1 w.tally.range ≡ b → (w.tally.range ≤ 1) ⊎ (limit ≤ w.counter)
    go true t = inr (ltb-false w.counter limit (rw t at e))
    go false t = inl (ltb-false 1 w.tally.range t)

-- ---- one pass, and the first pass of a run

module _ {D : Type 0} (rules : Rules D) (credit : ℕ) where
  pub pass-drop :
      (s : State D) → rules.negligible s.walk.tally.range s.held ≡ true →
      pass rules credit s ≡ stands (after_drop credit s.walk) s.held
  unfolding pass
  pass-drop s e = rw (e, pass)

  pub pass-sweep :
      (s : State D) → rules.negligible s.walk.tally.range s.held ≡ false →
      let r = s.walk.tally.range in
      pass rules credit s ≡ stands (after_sweep (rules.rotations r) s.walk) (rules.sweep r s.held)
  unfolding pass
  pass-sweep s e = rw (e, pass)

  -- what holds after a drop and after a sweep holds after a pass
  pub pass-keeps :
      (P : State D → Type 0) (s : State D) →
      P (stands (after_drop credit s.walk) s.held) →
      (let r = s.walk.tally.range in P (stands (after_sweep (rules.rotations r) s.walk) (rules.sweep r s.held))) →
      P (pass rules credit s)
  pass-keeps P s d w = go (rules.negligible s.walk.tally.range s.held) refl
    where
      go : (b : Bool) → rules.negligible s.walk.tally.range s.held ≡ b → P (pass rules credit s)
      go true e = rw (pass-drop s e) d
      go false e = rw (pass-sweep s e) w

  module _ (limit : ℕ) where
    pub run_more :
        (n : ℕ) (s : State D) → going limit s.walk ≡ true →
        run rules limit credit (suc n) s ≡ run rules limit credit n (pass rules credit s)
    unfolding run
    run_more n s e = rw (e, run)

    -- a run that is at its end stays there
    pub run_end : (n : ℕ) (s : State D) → going limit s.walk ≡ false → run rules limit credit n s ≡ s
    unfolding run
    run_end zero s e = refl
    run_end (suc n) s e = rw (e, run)

    -- what a pass keeps, a run keeps
    pub run-keeps :
        (P : State D → Type 0) → ((s : State D) → Going limit s.walk → P s → P (pass rules credit s)) →
        (n : ℕ) (s : State D) → P s →
        P (run rules limit credit n s)
    unfolding run
    run-keeps P step zero s p = p
    run-keeps P step (suc n) s p =
        go (going limit s.walk) refl (λ g. run-keeps P step n (pass rules credit s) (step s g p))
      where
        go :
            (b : Bool) → going limit s.walk ≡ b →
            (Going limit s.walk → P (run rules limit credit n (pass rules credit s))) →
            P (run rules limit credit (suc n) s)
        go true e more = rw (run_more n s e) (more (going-true limit s.walk e))
        go false e more = rw (run_end (suc n) s e) p

    -- the pause law: m passes and then n are m + n
    pub run-add :
        (m n : ℕ) (s : State D) →
        run rules limit credit (m + n) s ≡ run rules limit credit n (run rules limit credit m s)
    unfolding run
    run-add zero n s = rw (zero-add n)
    run-add (suc m) n s = rw (suc-add m n) (go (going limit s.walk) refl (run-add m n (pass rules credit s)))
      where
        go :
            (b : Bool) → going limit s.walk ≡ b →
            run rules limit credit (m + n) (pass rules credit s) ≡
            run rules limit credit n (run rules limit credit m (pass rules credit s)) →
            run rules limit credit (suc (m + n)) s ≡ run rules limit credit n (run rules limit credit (suc m) s)
        go true e ih = rw (run_more (m + n) s e, run_more m s e) ih
        go false e ih = rw (run_end (suc (m + n)) s e, run_end (suc m) s e) (sym (run_end n s e))

    -- one pass more
    pub run-next :
        (n : ℕ) (s : State D) → going limit (run rules limit credit n s).walk ≡ true →
        run rules limit credit (n + 1) s ≡ pass rules credit (run rules limit credit n s)
    unfolding run
    run-next n s e = run-add n 1 s ∙ run_more 0 (run rules limit credit n s) e

    -- a run that came to its end is the same with more fuel
    pub run-same :
        {m n : ℕ} (s : State D) → m ≤ n → going limit (run rules limit credit m s).walk ≡ false →
        run rules limit credit n s ≡ run rules limit credit m s
    run-same {m} {n} s h e =
        rw (← add-sub_of_le h) (run-add m (n - m) s ∙ run_end (n - m) (run rules limit credit m s) e)
