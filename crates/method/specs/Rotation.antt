-- Rotations (document 005): the rule that makes one of two numbers, and what it does to two rows or two columns of a
-- table. Definitions only.
use Rattle.std.specs.Prelude.{true, false, ℕ, ◌+◌, ◌*◌, get_or, set, Float}
use mathlib.Core.List.{List}
use Rattle.std.specs.Float.{nan, Format}
use Rattle.std.specs.Float.Ieee.{add, mul, div, neg, lt, eq}
use Rattle.method.specs.Floats.{plus_zero, one, magnitude}
use Rattle.method.specs.Root.{square_root}
use Rattle.method.specs.Repeated.{repeated}

-- a rotation: where it takes the two numbers, and its cosine and sine
pub record Rotation : Type 0 where
  pub radius : Float
  pub cosine : Float
  pub sine : Float

-- the root of 1 + ratio * ratio
abbrev pub norm_of : Format → Float → Float
norm_of f ratio = square_root f (add f one (mul f ratio ratio))

-- where b is the larger: sine 1 / norm, cosine sine * ratio, radius b * norm
abbrev pub by_sine : Format → Float → Float → Float → Float → Rotation
by_sine f b ratio norm sine = record { radius = mul f b norm; cosine = mul f sine ratio; sine = sine }

-- where a is: cosine 1 / norm, sine cosine * ratio, radius a * norm
abbrev pub by_cosine : Format → Float → Float → Float → Float → Rotation
by_cosine f a ratio norm cosine = record { radius = mul f a norm; cosine = cosine; sine = mul f cosine ratio }

-- The rotation that takes (a, b) to (radius, 0). a = 0 gives (b, 0, 1), even for b = 0. The ratio is of the smaller
-- magnitude to the larger; where neither is larger, of b to a.
unfoldable pub rotation_of : Format → Float → Float → Rotation
rotation_of f a b =
    elim (eq a plus_zero) [
      | true ↦ record { radius = b; cosine = plus_zero; sine = one }
      | false ↦
          elim (lt (magnitude a) (magnitude b)) [
            | true ↦ by_sine f b (div f a b) (norm_of f (div f a b)) (div f one (norm_of f (div f a b)))
            | false ↦ by_cosine f a (div f b a) (norm_of f (div f b a)) (div f one (norm_of f (div f b a)))
          ]
    ]

-- entries p and q of a list turned: new p is c * p + s * q, new q is (-s) * p + c * q, both from the old values
unfoldable pub pair_turned : Format → Rotation → ℕ → ℕ → List Float → List Float
pair_turned f g p q a =
    set (set a p (add f (mul f g.cosine (get_or a p nan)) (mul f g.sine (get_or a q nan)))) q
    (add f (mul f (neg g.sine) (get_or a p nan)) (mul f g.cosine (get_or a q nan)))

-- rows i and i + 1 turned, in the n columns from j on: i counts lines, j the entries along a line
unfoldable pub rows_turned : Format → Rotation → ℕ → ℕ → ℕ → ℕ → List Float → List Float
rows_turned f g stride i j n a = repeated 0 n (λ k. pair_turned f g (i * stride + (j + k)) ((i + 1) * stride + (j + k))) a

-- columns i and i + 1 turned, in the n rows from j on: again i counts lines, so the entries are (j + k, i), row first
unfoldable pub columns_turned : Format → Rotation → ℕ → ℕ → ℕ → ℕ → List Float → List Float
columns_turned f g stride i j n a =
    repeated 0 n (λ k. pair_turned f g ((j + k) * stride + i) ((j + k) * stride + (i + 1))) a
