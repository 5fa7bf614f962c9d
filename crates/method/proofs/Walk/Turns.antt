-- The rotations that a walk counts are those that its sweeps computed: what each pass adds, how many there can be, and,
-- where a sweep is a list of moves carried out one after another, that the whole walk is such a list and the count its
-- length. Over any data and any moves. Assumes nothing.
use Prim.Native.Nat.{ℕ, zero, suc, ◌+◌, ◌*◌, ◌≤◌, ◌<◌}
use Rattle.std.proofs.Common.{mul-suc, add-one, ◌∙◌, inl, inr}
use native.Mathlib.Omega.{arith}
use Rattle.std.specs.Prelude.{length, ◌≡◌, Bool, List}
use Rattle.std.proofs.Math.ListN.{length-append}
use Rattle.std.proofs.Math.Path.{refl, sym, ap}
use Rattle.std.proofs.Math.Bool.{true, false}
use Rattle.method.specs.Repeated.{carried_out}
use Rattle.method.proofs.Repeated.{carried_out-append}
use Rattle.method.specs.Walk.{Tally, Rules, State, start, pass, run}
use Rattle.method.proofs.Walk.Run.{pass-drop, pass-sweep, pass-keeps, run-keeps}
use Rattle.method.specs.Walk.Applied.{applied}
use Rattle.method.specs.Walk.Turns.{PassCounts, pass_moves, walk_moves}

-- ---- what a pass adds

module _ {D : Type 0} (rules : Rules D) where
  pub pass-counts :
      (credit : ℕ) (s : State D) →
      let t = s.walk.tally in
      PassCounts (rules.rotations t.range) t (pass rules credit s).walk.tally
  pass-counts credit s =
      let t = s.walk.tally in
      pass-keeps rules credit (λ s'. PassCounts (rules.rotations t.range) t s'.walk.tally) s
      (inl (refl, refl, refl)) (inr (refl, refl, refl))

  -- so does one pass more
  pub applied-counts :
      (credit k : ℕ) (s : State D) →
      let t = (applied rules credit k s).walk.tally in
      PassCounts (rules.rotations t.range) t (applied rules credit (k + 1) s).walk.tally
  unfolding applied
  applied-counts credit k s = rw (add-one k) (pass-counts credit (applied rules credit k s))

  -- ---- how many there can be

  -- no sweep over a range of 2 to c computes more than m
  abbrev pub AtMost : ℕ → ℕ → Type 0
  AtMost c m = (r : ℕ) → 1 < r → r ≤ c → rules.rotations r ≤ m

  record Few (c m : ℕ) (t : Tally) : Type 0 where
    range : t.range ≤ c
    rotations : t.rotations ≤ m * t.sweeps

  -- a walk from c computes m for each sweep at most
  pub few_rotations :
      (limit credit c m n : ℕ) (d : D) → AtMost c m →
      let t = (run rules limit credit n (start c d)).walk.tally in
      t.rotations ≤ m * t.sweeps
  few_rotations limit credit c m n d most =
      (run-keeps rules credit limit (λ s. Few c m s.walk.tally)
      (λ s g k.
      let t = s.walk.tally in
      pass-keeps rules credit (λ s'. Few c m s'.walk.tally) s
      record { range = omega (arith, k.range); rotations = k.rotations }
      record {
        range = k.range;
        rotations = omega (arith, k.rotations, most t.range g.wide k.range, rw (← add-one t.sweeps) at (mul-suc m t.sweeps));
      })
      n (start c d)
      record { range = omega arith; rotations = omega arith }
      ).rotations

-- ---- a walk as a list of moves

module _ {D M : Type 0} (rules : Rules D) (carry : M → D → D) (moves : ℕ → List M) where
  -- a sweep over range r is the moves of r, carried out one after another, and computes a rotation for each
  pub record ByMoves : Type 0 where
    pub sweeps : (r : ℕ) (d : D) → rules.sweep r d ≡ carried_out carry (moves r) d
    pub counts : (r : ℕ) → rules.rotations r ≡ length (moves r)

  -- s became e by carrying out ms, and counts a rotation more for each of them
  pub record Turned (ms : List M) (s e : State D) : Type 0 where
    pub held : e.held ≡ carried_out carry ms s.held
    pub rotations : e.walk.tally.rotations ≡ s.walk.tally.rotations + length ms

  module _ (by : ByMoves) (credit : ℕ) where
    pass-turned : (s : State D) → Turned (pass_moves rules moves s) s (pass rules credit s)
    unfolding carried_out
    pass-turned s = go (rules.negligible s.walk.tally.range s.held) refl
      where
        go :
            (b : Bool) → rules.negligible s.walk.tally.range s.held ≡ b →
            Turned (pass_moves rules moves s) s (pass rules credit s)
        go true e = rw (pass-drop rules credit s e, e, pass_moves) (record { held = refl; rotations = omega arith })
        go false e =
            rw (pass-sweep rules credit s e, e, pass_moves)
            (let r = s.walk.tally.range in record { held = by.sweeps r s.held; rotations = omega (arith, by.counts r) })

    pub walk_turned : (n : ℕ) (s : State D) → Turned (walk_moves rules moves credit n s) s (applied rules credit n s)
    unfolding carried_out applied walk_moves
    walk_turned zero s = record { held = refl; rotations = omega arith }
    walk_turned (suc n) s =
        let e = applied rules credit n s in
        let so_far = walk_turned n s in
        let last = pass-turned e in
        let ms = walk_moves rules moves credit n s in
        record {
          held =
              last.held
              ∙ ap (carried_out carry (pass_moves rules moves e)) so_far.held
              ∙ sym (carried_out-append carry ms (pass_moves rules moves e) s.held);
          rotations =
              omega (arith, last.rotations, so_far.rotations, length-append ms (pass_moves rules moves e));
        }
