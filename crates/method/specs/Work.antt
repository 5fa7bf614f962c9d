-- What a call works on: the table of readings and the two factors. Definitions only.
use Rattle.std.specs.Prelude.{Bool, List, ℕ, ◌+◌, ◌*◌, get_or, Float}
use Rattle.std.specs.Float.{nan}
use Rattle.method.specs.Floats.{pick}

-- the matrix, U and V, each row-major in one list
pub record Work : Type 0 where
  pub matrix : List Float
  pub u : List Float
  pub v : List Float

abbrev pub work : List Float → List Float → List Float → Work
work b u v = record { matrix = b; u = u; v = v }

-- The table has `rows` rows and `cols` columns, and its rows start `stride` entries apart. `urows` rows of U, each of
-- `rows` entries, and `vrows` rows of V, each of `cols` entries, are kept: all of them in the accumulating call, none
-- in the plain one.
pub record Shape : Type 0 where
  pub rows : ℕ
  pub cols : ℕ
  pub stride : ℕ
  pub urows : ℕ
  pub vrows : ℕ

-- a packed table, with its factors kept or not
abbrev pub packed : Bool → ℕ → ℕ → Shape
packed kept rows cols =
    record { rows = rows; cols = cols; stride = cols; urows = pick kept rows 0; vrows = pick kept cols 0 }

-- entry (i, j) of a table
abbrev pub at : ℕ → ℕ → ℕ → List Float → Float
at stride i j a = get_or a (i * stride + j) nan

-- where the coupling of the 2 x 2 whose top left is entry (k, k) stands in the list: right of (k, k) in the upper form,
-- below it in the lower
abbrev pub coupling_place : Bool → ℕ → ℕ → ℕ
coupling_place upper stride k = pick upper (k * stride + (k + 1)) ((k + 1) * stride + k)
