-- A sweep is its list of moves, carried out one after another; and that list is twice as long as the corner has
-- couplings. Assumes nothing.
use Rattle.std.specs.Prelude.{◌≡◌, refl, Bool, true, false, not, List, [], ◌∷◌, length, Float}
use Rattle.std.proofs.Math.Path.{sym, ap}
use Rattle.std.proofs.Common.{◌∙◌, arith, length-append}
use Prim.Native.Nat.{ℕ, zero, suc, ◌+◌, ◌-◌, ◌*◌, ◌<◌, ◌≤◌}
use Rattle.std.specs.Float.{Format}
use Rattle.method.specs.Work.{Work, Shape}
use Rattle.method.specs.Repeated.{carried_out}
use Rattle.method.proofs.Repeated.{repeated-none, repeated-suc, carried_out-append}
use Rattle.method.specs.Rotation.{Rotation}
use Rattle.method.specs.Chase.{turned, pushed, steps, swept, first_rotation}
use Rattle.method.specs.Moves.{move, own, shifted, rotation_by, carried, step_moves, steps_moves, sweep_moves}
use Rattle.method.specs.Moves.{sweep_rotations}

-- ---- a sweep is its moves

-- its first rotation
first-is :
    (f : Format) (stride : ℕ) (upper : Bool) (k : ℕ) (a : List Float) →
    first_rotation f stride upper k a ≡ rotation_by f stride (move (not upper) 0 0 2 (shifted k)) a
first-is f stride true k a = refl
first-is f stride false k a = refl

module _ (f : Format) (z : Shape) (upper : Bool) where
  -- its steps
  steps-are : (n : ℕ) (w : Work) → steps f z upper n w ≡ carried_out (carried f z) (steps_moves upper n) w
  unfolding steps steps_moves carried_out
  steps-are zero w = sym (repeated-none 0 _ w)
  steps-are (suc n) w =
      repeated-suc _ n w
      ∙ ap (carried_out (carried f z) (step_moves upper n)) (steps-are n w)
      ∙ sym (carried_out-append (carried f z) (steps_moves upper n) (step_moves upper n) w)

  -- and the whole of it
  pub swept-moves : (k : ℕ) (w : Work) → swept f z upper k w ≡ carried_out (carried f z) (sweep_moves upper k) w
  unfolding swept sweep_moves carried_out
  swept-moves k w =
      let begun = carried f z (move (not upper) 0 0 2 (shifted k)) w in
      ap (λ (g : Rotation). pushed f z upper k k 2 (steps f z upper k (turned f z g (not upper) 0 0 2 w)))
      (first-is f z.stride upper k w.matrix)
      ∙ ap (pushed f z upper k k 2) (steps-are k begun)
      ∙ sym (carried_out-append (carried f z) (steps_moves upper k) (move upper k k 2 own ∷ []) begun)

-- ---- how many they are

steps_moves-length : (upper : Bool) (n : ℕ) → length (steps_moves upper n) ≡ 2 * n
unfolding steps_moves
steps_moves-length upper zero = refl
steps_moves-length upper (suc n) =
    length-append (steps_moves upper n) (step_moves upper n) ∙ omega (arith, steps_moves-length upper n)

-- two for each step, the first and the last
pub sweep_rotations_lem : (upper : Bool) (k : ℕ) → sweep_rotations upper k ≡ 2 * k + 2
unfolding sweep_moves
sweep_rotations_lem upper k =
    omega (arith, length-append (steps_moves upper k) (move upper k k 2 own ∷ []), steps_moves-length upper k)

-- over range r, whose last 2 x 2 starts at r - 2: two for each coupling
pub rotations_are : (upper : Bool) (r : ℕ) → 1 < r → sweep_rotations upper (r - 2) ≡ 2 * (r - 1)
rotations_are upper r h = omega (arith, sweep_rotations_lem upper (r - 2))

-- so over no range of 2 to c are they more than that of c
pub rotations_most_lem : (upper : Bool) (c r : ℕ) → 1 < r → r ≤ c → sweep_rotations upper (r - 2) ≤ 2 * (c - 1)
rotations_most_lem upper c r h within = omega (arith, rotations_are upper r h)
