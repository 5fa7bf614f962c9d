-- The turns of a sweep as a list of moves: which lines are turned, in how many entries, and from which two numbers the
-- rotation is made. A sweep computes one rotation for each move of its list, whatever the rotation turns: the table's
-- lines, and with them columns of U or V. Definitions only.
use Rattle.std.specs.Prelude.{Bool, not, List, [], ◌∷◌, ◌++◌, ℕ, zero, suc, ◌+◌, length, Float}
use Rattle.std.specs.Float.{Format}
use Rattle.std.specs.Float.Ieee.{sub, mul}
use Rattle.method.specs.Work.{Work, Shape}
use Rattle.method.specs.Rotation.{Rotation, rotation_of}
use Rattle.method.specs.Chase.{along, shift_at, turned}

-- From which two numbers a rotation is made. `here` and `next` are the first turned entries of the two lines.
pub data Pair : Type 0 where
  -- (here, next)
  own : Pair
  -- (here * here - shift, here * next), with the shift of the corner whose last 2 x 2 starts at (k, k)
  shifted : ℕ → Pair

-- lines `line` and `line + 1`, rows where `by_row` and else columns, turned in so many entries from entry `from` on
pub record Move : Type 0 where
  pub by_row : Bool
  pub line : ℕ
  pub from : ℕ
  pub entries : ℕ
  pub pair : Pair

abbrev pub move : Bool → ℕ → ℕ → ℕ → Pair → Move
move by_row line from entries pair = record { by_row = by_row; line = line; from = from; entries = entries; pair = pair }

-- ---- a move carried out

-- the rotation of a pair
abbrev rotation_from : Format → ℕ → Pair → Float → Float → List Float → Rotation
rotation_from f stride own here next a = rotation_of f here next
rotation_from f stride (shifted k) here next a = rotation_of f (sub f (mul f here here) (shift_at f stride k a)) (mul f here next)

-- the rotation that a move computes
abbrev pub rotation_by : Format → ℕ → Move → List Float → Rotation
rotation_by f stride m a =
    let here = along m.by_row stride m.line m.from a in
    let next = along m.by_row stride (m.line + 1) m.from a in
    rotation_from f stride m.pair here next a

-- its lines turned by that rotation, and with them the columns of U or V
abbrev pub carried : Format → Shape → Move → Work → Work
carried f z m w = turned f z (rotation_by f z.stride m w.matrix) m.by_row m.line m.from m.entries w

-- ---- the moves of a sweep

-- of step k down the diagonal
abbrev pub step_moves : Bool → ℕ → List Move
step_moves upper k = move upper k k 3 own ∷ move (not upper) (k + 1) k 3 own ∷ []

-- of the first n steps
unfoldable pub steps_moves : Bool → ℕ → List Move
steps_moves upper zero = []
steps_moves upper (suc n) = steps_moves upper n ++ step_moves upper n

-- of the sweep over the live corner whose last 2 x 2 starts at (k, k)
unfoldable pub sweep_moves : Bool → ℕ → List Move
sweep_moves upper k = move (not upper) 0 0 2 (shifted k) ∷ (steps_moves upper k ++ (move upper k k 2 own ∷ []))

-- how many rotations that sweep computes
abbrev pub sweep_rotations : Bool → ℕ → ℕ
sweep_rotations upper k = length (sweep_moves upper k)
