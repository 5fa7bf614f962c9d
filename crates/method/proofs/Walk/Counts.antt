-- What is true of every walk's record: passes are sweeps and drops, drops are what the range lost, and passes are
-- bounded; and the run comes to its end by itself. Assumes nothing.
use Prim.Native.Nat.{ℕ, zero, suc, ◌+◌, ◌-◌, ◌*◌, ◌≤◌, ◌<◌}
use Rattle.std.proofs.Common.{mul-suc, mul-le-mul, arith, ap, ◌∙◌}
use Rattle.std.specs.Prelude.{◌≡◌, Bool}
use Rattle.std.proofs.Math.Path.{refl}
use Rattle.std.proofs.Math.Bool.{true, false}
use Rattle.method.specs.Walk.{Walk, Rules, State, begun, start, after_drop, after_sweep, going, pass, run, enough}
use Rattle.method.specs.Walk.{walked}
use Rattle.method.specs.Walk.Run.{Going}
use Rattle.method.proofs.Walk.Run.{going-true, ended, pass-keeps, run_more, run_end, run-keeps, run-same}
use Rattle.method.specs.Settings.{most_size, most_limit, most_credit, most_passes}
use Rattle.method.specs.Walk.Counts.{Reached, WholeWalk, ahead}

-- ---- how many passes there can be

-- a drop's credit is paid for by the range
paid : (credit r : ℕ) → 2 < r → credit * (r - 2) ≡ credit * (r - 1 - 2) + credit
paid credit r h =
    ap (λ (x : ℕ). credit * x) (let e : r - 2 ≡ suc (r - 1 - 2) = omega arith in e) ∙ mul-suc credit (r - 1 - 2)

module _ (limit credit : ℕ) (w : Walk) (g : Going limit w) where
  ahead-some : 0 < ahead limit credit w
  ahead-some = omega (arith, g.below)

  ahead-drop : 1 < (after_drop credit w).tally.range → ahead limit credit (after_drop credit w) < ahead limit credit w
  ahead-drop h = omega (arith, g.below, paid credit w.tally.range (omega arith))

  ahead-sweep : (turns : ℕ) → ahead limit credit (after_sweep turns w) < ahead limit credit w
  ahead-sweep turns = omega (arith, g.below)

module _ {D : Type 0} (rules : Rules D) (limit credit : ℕ) where
  -- with as much fuel as is ahead, a run comes to its end
  pub run-done :
      (n : ℕ) (s : State D) → (1 < s.walk.tally.range → ahead limit credit s.walk ≤ n) →
      going limit (run rules limit credit n s).walk ≡ false
  unfolding run
  run-done zero s h = go (going limit s.walk) refl
    where
      go : (b : Bool) → going limit s.walk ≡ b → going limit s.walk ≡ false
      go false e = e
      go true e =
          let g : Going limit s.walk = going-true limit s.walk e in
          absurd (let z : ⊥ = omega (arith, h g.wide, ahead-some limit credit s.walk g) in z)
  run-done (suc n) s h = go (going limit s.walk) refl (run-done n (pass rules credit s))
    where
      go :
          (b : Bool) → going limit s.walk ≡ b →
          ((1 < (pass rules credit s).walk.tally.range → ahead limit credit (pass rules credit s).walk ≤ n) →
          going limit (run rules limit credit n (pass rules credit s)).walk ≡ false) →
          going limit (run rules limit credit (suc n) s).walk ≡ false
      go false e ih = rw (run_end rules credit limit (suc n) s e) e
      go true e ih =
          let g : Going limit s.walk = going-true limit s.walk e in
          rw (run_more rules credit limit n s e)
          (ih
          (pass-keeps rules credit (λ s'. 1 < s'.walk.tally.range → ahead limit credit s'.walk ≤ n) s
          (λ k. omega (arith, h g.wide, ahead-drop limit credit s.walk g k))
          (λ k. omega (arith, h g.wide, ahead-sweep limit credit s.walk g (rules.rotations s.walk.tally.range)))))

-- ---- what holds of every record that a walk from c reaches

module _ {D : Type 0} (rules : Rules D) (limit credit c : ℕ) where
  reached_start : Reached limit credit c (begun c)
  reached_start =
      record {
        each = omega arith;
        whole = omega arith;
        kept = λ h. h;
        few = omega arith;
        left = λ h. omega arith;
        none = λ h. refl;
      }

  reached_drop : (w : Walk) → Going limit w → Reached limit credit c w → Reached limit credit c (after_drop credit w)
  reached_drop w g k =
      record {
        each = omega arith;
        whole = omega arith;
        kept = λ h. omega (arith, g.wide);
        few = omega (arith, k.left g.wide, ahead-some limit credit w g);
        left = λ h. omega (arith, k.left g.wide, ahead-drop limit credit w g h);
        none = λ h. absurd (let z : ⊥ = omega arith in z);
      }

  reached_sweep :
      (turns : ℕ) (w : Walk) → Going limit w → Reached limit credit c w → Reached limit credit c (after_sweep turns w)
  reached_sweep turns w g k =
      record {
        each = omega arith;
        whole = omega arith;
        kept = k.kept;
        few = omega (arith, k.left g.wide, ahead-some limit credit w g);
        left = λ h. omega (arith, k.left g.wide, ahead-sweep limit credit w g turns);
        none = λ h. absurd (let z : ⊥ = omega arith in z);
      }

  pub reached : (n : ℕ) (d : D) → Reached limit credit c (run rules limit credit n (start c d)).walk
  reached n d =
      run-keeps rules credit limit (λ s. Reached limit credit c s.walk)
      (λ s g k.
      pass-keeps rules credit (λ s'. Reached limit credit c s'.walk) s (reached_drop s.walk g k)
      (reached_sweep _ s.walk g k))
      n
      (start c d)
      reached_start

  -- the fuel of `walked` is enough: there is no pass left to do
  pub walked-done : (d : D) → going limit (walked rules limit credit c d).walk ≡ false
  walked-done d = run-done rules limit credit (enough limit credit c) (start c d) (λ h. omega arith)

  -- and more fuel gives the same state
  pub walked_same :
      (n : ℕ) (d : D) → enough limit credit c ≤ n → run rules limit credit n (start c d) ≡ walked rules limit credit c d
  walked_same n d h = run-same rules credit limit (start c d) h (walked-done d)

-- ---- what is promised of a whole walk's record

pub whole-walk :
    {D : Type 0} (rules : Rules D) (limit credit c : ℕ) (d : D) → 1 ≤ c →
    WholeWalk limit credit c (walked rules limit credit c d).walk
whole-walk rules limit credit c d h =
    let k = reached rules limit credit c (enough limit credit c) d in
    record {
      each = k.each;
      drops = omega (arith, k.whole);
      range = (k.kept h, omega (arith, k.whole));
      few = k.few;
      none = k.none;
      end = ended limit (walked rules limit credit c d).walk (walked-done rules limit credit c d);
    }

-- the largest settings
pub enough-most :
    {limit credit c : ℕ} → c ≤ most_size → limit ≤ most_limit → credit ≤ most_credit → enough limit credit c ≤ most_passes
enough-most {limit} {credit} {c} hc hl hk =
    let m : credit * (c - 2) ≤ most_credit * (most_size - 2) =
    mul-le-mul {n₁ = credit} {m₁ = c - 2} {n₂ = most_credit} {m₂ = most_size - 2} hk (omega arith) in
    omega arith
