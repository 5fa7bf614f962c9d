-- Reflections (document 006): how one is made of a run of entries, and what it does to a table from the right and from
-- the left, sums in the order written there. Definitions only.
use Rattle.std.specs.Prelude.{true, false, ℕ, ◌+◌, ◌*◌, get_or, set, replicate, Float}
use mathlib.Core.List.{List}
use Rattle.std.specs.Float.{nan, Format}
use Rattle.std.specs.Float.Ieee.{add, sub, mul, div, neg, lt}
use Rattle.method.specs.Floats.{plus_zero, one, pick, magnitude, sign_of}
use Rattle.method.specs.Root.{square_root}
use Rattle.method.specs.Repeated.{repeated}
use Rattle.method.specs.Settings.{most_size}

-- a scratch vector: +0, for as many entries as a line can have
abbrev pub blank : List Float
blank = replicate most_size plus_zero

-- ---- a line: n entries from `at` on, `step` apart

-- a blank vector with the line's entries
unfoldable pub line_copied : ℕ → ℕ → ℕ → List Float → List Float
line_copied at step n a = repeated 0 n (λ k w. set w k (get_or a (at + k * step) nan)) blank

-- the line's entries set to +0
unfoldable pub line_cleared : ℕ → ℕ → ℕ → List Float → List Float
line_cleared at step n a = repeated 0 n (λ k a. set a (at + k * step) plus_zero) a

-- entries lo to n - 1, each times x
unfoldable pub times_from : Format → Float → ℕ → ℕ → List Float → List Float
times_from f x lo n w = repeated lo n (λ k w. set w k (mul f (get_or w k nan) x)) w

-- ---- the reflection of n entries

-- the larger of m and |x|: a NaN is passed over
abbrev pub widened : Float → Float → Float
widened m x = pick (lt m (magnitude x)) (magnitude x) m

-- the largest magnitude among the n entries from `at` on
unfoldable pub largest_of : List Float → ℕ → ℕ → Float
largest_of v at n = repeated 0 n (λ k m. widened m (get_or v (at + k) nan)) plus_zero

-- a blank vector with the n entries from `at` on, each times x
unfoldable pub scaled : Format → List Float → ℕ → Float → ℕ → List Float
scaled f v at x n = repeated 0 n (λ k w. set w k (mul f (get_or v (at + k) nan) x)) blank

-- the sum of the squares of the first n entries
unfoldable pub squares_of : Format → List Float → ℕ → Float
squares_of f w n = repeated 0 n (λ k s. add f s (mul f (get_or w k nan) (get_or w k nan))) plus_zero

-- `entries` is the whole list that the reflected run stands in, as making the reflection leaves it; `vector` has head 1
pub record Reflection : Type 0 where
  pub entries : List Float
  pub vector : List Float
  pub tau : Float

-- the root of the sum of the squares of the scaled entries w, with the sign of the first of them
abbrev pub signed_length : Format → List Float → ℕ → Float
signed_length f w n = mul f (sign_of (get_or w 0 nan)) (square_root f (squares_of f w n))

-- from the largest magnitude, the scaled entries w and their signed length g: the head becomes -g * largest and the
-- tail +0
abbrev pub reflection_by : Format → List Float → ℕ → ℕ → Float → List Float → Float → Reflection
reflection_by f v at n largest w g =
    record {
      entries = set (line_cleared at 1 n v) at (mul f (neg g) largest);
      vector = set (times_from f (div f one (add f (get_or w 0 nan) g)) 1 n w) 0 one;
      tau = div f (add f (get_or w 0 nan) g) g;
    }

-- The reflection of the n entries of v from `at` on. Where their largest magnitude is below the floor: tau 0, and they
-- stay as they are.
unfoldable pub reflection_of : Format → Float → ℕ → ℕ → List Float → Reflection
reflection_of f floor at n v =
    elim (lt (largest_of v at n) floor) [
      | true ↦ record { entries = v; vector = set blank 0 one; tau = plus_zero }
      | false ↦
          let largest = largest_of v at n in
          let w = scaled f v at (div f one largest) n in
          reflection_by f v at n largest w (signed_length f w n)
    ]

-- ---- from the right: each row on its own

-- a[off] + a[off + 1] * p[1] + .. + a[off + n - 1] * p[n - 1], added up from the left
unfoldable pub row_times : Format → List Float → ℕ → ℕ → List Float → Float
row_times f p off n a = repeated 1 n (λ k sum. add f sum (mul f (get_or a (off + k) nan) (get_or p k nan))) (get_or a off nan)

-- entries 1 to n - 1 of the row at `off`, less x times p
unfoldable pub tail_less : Format → List Float → Float → ℕ → ℕ → List Float → List Float
tail_less f p x off n a = repeated 1 n (λ k a. set a (off + k) (sub f (get_or a (off + k) nan) (mul f x (get_or p k nan)))) a

-- the row of n entries from `off` on, less x times p, whose head counts as 1
unfoldable pub row_less : Format → List Float → Float → ℕ → ℕ → List Float → List Float
row_less f p x off n a = tail_less f p x off n (set a off (sub f (get_or a off nan) x))

-- a row with its product with p, times tau, taken off along p
unfoldable pub row_reflected : Format → List Float → Float → ℕ → ℕ → List Float → List Float
row_reflected f p tau off n a = row_less f p (mul f (row_times f p off n a) tau) off n a

-- the reflection of the `rows` rows from i on, in the `cols` columns from j on
unfoldable pub reflected_right : Format → List Float → Float → ℕ → ℕ → ℕ → ℕ → ℕ → List Float → List Float
reflected_right f p tau stride i j rows cols a =
    repeated 0 rows (λ k. row_reflected f p tau ((i + k) * stride + j) cols) a

-- ---- from the left: the rows' sum first, then each row less its share

-- w plus x times the row at `off`
unfoldable pub row_added : Format → List Float → Float → ℕ → ℕ → List Float → List Float
row_added f a x off n w = repeated 0 n (λ l w. set w l (add f (get_or w l nan) (mul f x (get_or a (off + l) nan)))) w

-- w plus p[k] times row i + k, for k from 1 to rows - 1, in the `cols` columns from j on
unfoldable pub rows_added : Format → List Float → List Float → ℕ → ℕ → ℕ → ℕ → ℕ → List Float → List Float
rows_added f a p stride i j rows cols w =
    repeated 1 rows (λ k. row_added f a (get_or p k nan) ((i + k) * stride + j) cols) w

-- row i plus p[1] times row i + 1 plus .. plus p[rows - 1] times row i + rows - 1
unfoldable pub column_sums : Format → List Float → ℕ → ℕ → ℕ → ℕ → ℕ → List Float → List Float
column_sums f p stride i j rows cols a = rows_added f a p stride i j rows cols (line_copied (i * stride + j) 1 cols a)

-- the row at `off`, less w
unfoldable pub row_less_all : Format → List Float → ℕ → ℕ → List Float → List Float
row_less_all f w off n a = repeated 0 n (λ l a. set a (off + l) (sub f (get_or a (off + l) nan) (get_or w l nan))) a

-- the row at `off`, less x times w
unfoldable pub row_less_times : Format → List Float → Float → ℕ → ℕ → List Float → List Float
row_less_times f w x off n a =
    repeated 0 n (λ l a. set a (off + l) (sub f (get_or a (off + l) nan) (mul f x (get_or w l nan)))) a

-- row i + k less p[k] times w, for k from 1 to rows - 1
unfoldable pub lower_less : Format → List Float → List Float → ℕ → ℕ → ℕ → ℕ → ℕ → List Float → List Float
lower_less f p w stride i j rows cols a =
    repeated 1 rows (λ k. row_less_times f w (get_or p k nan) ((i + k) * stride + j) cols) a

-- row i less w, and the rows below it less their shares
unfoldable pub rows_less : Format → List Float → List Float → ℕ → ℕ → ℕ → ℕ → ℕ → List Float → List Float
rows_less f p w stride i j rows cols a = lower_less f p w stride i j rows cols (row_less_all f w (i * stride + j) cols a)

-- the reflection of the `rows` rows from i on, in the `cols` columns from j on
unfoldable pub reflected_left : Format → List Float → Float → ℕ → ℕ → ℕ → ℕ → ℕ → List Float → List Float
reflected_left f p tau stride i j rows cols a =
    let sums = column_sums f p stride i j rows cols a in
    rows_less f p (times_from f tau 0 cols sums) stride i j rows cols a
