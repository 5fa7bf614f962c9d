-- What a loop with a budget is proved by: after k turns it has made k passes, or the walk was at its end before.
-- Assumes nothing.
use Prim.Native.Nat.{ℕ, zero, suc, ◌+◌, ◌≤◌, ◌<◌}
use Rattle.std.proofs.Math.Nat.{suc-mul}
use Rattle.std.proofs.Common.{mul-le-mul_left, mul-le-mul_right, sym, ap, ◌∙◌}
use native.Mathlib.Omega.{arith}
use Rattle.std.specs.Prelude.{◌≡◌, Bool}
use Rattle.std.proofs.Math.Path.{refl}
use Rattle.std.proofs.Math.Bool.{true, false}
use Rattle.method.specs.Walk.{Walk, Rules, State, stands, after_drop, after_sweep, going, pass, run}
use Rattle.method.specs.Walk.Run.{Going}
use Rattle.method.proofs.Walk.Run.{true_going, pass-drop, pass-sweep, pass-keeps, run_more, run_end}
use Rattle.method.proofs.Walk.Run.{run-next, run-same, going-true}
use Rattle.method.proofs.Walk.Turns.{AtMost}
use Rattle.method.specs.Walk.Loop.{Made, Moved, Room}

-- with room for more there is room for less
pub room-less : {n m m' : ℕ} {w : Walk} → m' ≤ m → Room n m w → Room n m' w
room-less {n} h q =
    let less = mul-le-mul_left n h in
    record {
      tally = record {
        passes = q.tally.passes;
        sweeps = q.tally.sweeps;
        drops = q.tally.drops;
        rotations = omega (arith, less, q.tally.rotations);
      };
      counter = q.counter;
    }

-- ---- a loop with a budget, from any state: k passes were made, or the walk was at its end before

module _ {D : Type 0} (rules : Rules D) (limit credit : ℕ) where
  pub moved :
      (c m k : ℕ) (s : State D) → AtMost rules c m → s.walk.tally.range ≤ c →
      Moved k m s.walk (run rules limit credit k s).walk
  unfolding run
  moved c m zero s most h = omega arith
  moved c m (suc k) s most h = go (going limit s.walk) refl (moved c m k (pass rules credit s) most)
    where
      go :
          (b : Bool) → going limit s.walk ≡ b →
          ((pass rules credit s).walk.tally.range ≤ c →
          Moved k m (pass rules credit s).walk (run rules limit credit k (pass rules credit s)).walk) →
          Moved (suc k) m s.walk (run rules limit credit (suc k) s).walk
      go false e ih = rw (run_end rules credit limit (suc k) s e) (omega arith)
      go true e ih =
          let w = (run rules limit credit k (pass rules credit s)).walk in
          let turns = most s.walk.tally.range (going-true limit s.walk e).wide h in
          rw (run_more rules credit limit k s e)
          (pass-keeps rules credit (λ s'. (s'.walk.tally.range ≤ c → Moved k m s'.walk w) → Moved (suc k) m s.walk w) s
          (λ q. let n = q (omega arith) in omega (arith, suc-mul k m))
          (λ q. let n = q h in omega (arith, suc-mul k m))
          ih)

pub made_none : {D : Type 0} (rules : Rules D) (limit credit : ℕ) (s₀ : State D) → Made rules limit credit s₀ 0 s₀
unfolding run
made_none rules limit credit s₀ = record { is = refl }

module _ {D : Type 0} {rules : Rules D} {limit credit k : ℕ} {s₀ s : State D} (r : Made rules limit credit s₀ k s) where
  pub made_moved :
      {c m : ℕ} → AtMost rules c m → s₀.walk.tally.range ≤ c → Moved k m s₀.walk s.walk
  made_moved {c} {m} most h = rw r.is (moved rules limit credit c m k s₀ most h)

  pub made_room :
      {n c m : ℕ} → AtMost rules c m → s₀.walk.tally.range ≤ c → Room n m s₀.walk → k < n → Room 1 m s.walk
  made_room {n} {c} {m} most within q h =
      let d = made_moved most within in
      let more = mul-le-mul_right m h in
      record {
        tally = record {
          passes = omega arith;
          sweeps = omega arith;
          drops = omega arith;
          rotations = omega (arith, suc-mul k m, d.rotations, q.tally.rotations);
        };
        counter = omega arith;
      }

  pub made_all : {n : ℕ} → k ≤ n → n ≤ k → s ≡ run rules limit credit n s₀
  made_all {n} h h' = r.is ∙ ap (λ (x : ℕ). run rules limit credit x s₀) (let e : k ≡ n = omega arith in e)

  pub made_end : {n : ℕ} → k ≤ n → going limit s.walk ≡ false → s ≡ run rules limit credit n s₀
  made_end h e = r.is ∙ sym (run-same rules credit limit s₀ h (rw r.is at e))

  module _ (g : Going limit s.walk) where
    after : pass rules credit s ≡ run rules limit credit (k + 1) s₀
    after =
        sym
        (run-next rules credit limit k s₀ (rw r.is at (true_going limit s.walk g))
        ∙ ap (pass rules credit) (sym r.is))

    pub made_drop :
        rules.negligible s.walk.tally.range s.held ≡ true →
        Made rules limit credit s₀ (k + 1) (stands (after_drop credit s.walk) s.held)
    made_drop e = record { is = sym (pass-drop rules credit s e) ∙ after }

    pub made_sweep :
        rules.negligible s.walk.tally.range s.held ≡ false →
        let q = s.walk.tally.range in
        Made rules limit credit s₀ (k + 1)
        (stands (after_sweep (rules.rotations q) s.walk) (rules.sweep q s.held))
    made_sweep e = record { is = sym (pass-sweep rules credit s e) ∙ after }
