-- The rotations that a walk counts: what a pass adds, and a walk as a list of moves, over any data and any moves.
-- Definitions only.
use Prim.Native.Nat.{ℕ, zero, suc, ◌+◌}
use Rattle.std.specs.Prelude.{◌≡◌, ◌⊎◌, List, [], ◌++◌}
use Rattle.std.proofs.Math.Bool.{true, false}
use Rattle.method.specs.Walk.{Tally, Rules, State}
use Rattle.method.specs.Walk.Applied.{applied}

-- ---- what a pass adds

-- a drop counts one and computes no rotation, a sweep counts one and computes `turns`
abbrev pub PassCounts : ℕ → Tally → Tally → Type 0
PassCounts turns t t' =
    ((t'.drops ≡ t.drops + 1) × (t'.sweeps ≡ t.sweeps) × (t'.rotations ≡ t.rotations))
    ⊎ ((t'.drops ≡ t.drops) × (t'.sweeps ≡ t.sweeps + 1) × (t'.rotations ≡ t.rotations + turns))

-- ---- a walk as a list of moves

module _ {D M : Type 0} (rules : Rules D) (moves : ℕ → List M) where
  -- the moves of the pass that is made of a state: none where it drops
  abbrev pub pass_moves : State D → List M
  pass_moves s =
      elim (rules.negligible s.walk.tally.range s.held) [
        | true ↦ []
        | false ↦ moves s.walk.tally.range
      ]

  -- those of n passes from a state, in order
  unfoldable pub walk_moves : ℕ → ℕ → State D → List M
  walk_moves credit zero s = []
  walk_moves credit (suc n) s = walk_moves credit n s ++ pass_moves (applied rules credit n s)
