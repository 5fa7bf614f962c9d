-- The view of one row of U or V, for every input. Definitions only.
pub mod Rows
use Rattle.std.specs.Prelude.{Bool, true, false, not, ◌&&◌, List, [], ℕ, ◌*◌, leb, ltb, eqb, length, take, drop, Float}
use Rattle.method.specs.Floats.{pick}
use Rattle.method.specs.Settings.{most_size}

-- row k of a square table of n rows
abbrev pub row_of : ℕ → ℕ → List Float → List Float
row_of n k a = take n (drop (k * n) a)

-- sizes from 1 to 48, both lengths right, the side 0 or 1 and the row below the side's size
abbrev pub view_fit : ℕ → ℕ → List Float → List Float → ℕ → ℕ → Bool
view_fit rows cols u v side k =
    not (eqb rows 0)
    && not (eqb cols 0)
    && leb rows most_size
    && leb cols most_size
    && eqb (length u) (rows * rows)
    && eqb (length v) (cols * cols)
    && leb side 1
    && ltb k (pick (eqb side 0) rows cols)

-- row k of U (side 0) or of V (side 1), or nothing where that is not fit
unfoldable pub row_viewed : ℕ → ℕ → List Float → List Float → ℕ → ℕ → List Float
row_viewed rows cols u v side k =
    elim (view_fit rows cols u v side k) [
      | true ↦ pick (eqb side 0) (row_of rows k u) (row_of cols k v)
      | false ↦ []
    ]
