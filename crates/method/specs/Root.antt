-- The square root of IEEE 754, rounded to the nearest value of a format. Definitions only. A finite value x is `count f
-- x` times the format's smallest value 2 ^ -low. With X for that number, the root of x is √(X * 2 ^ low) of the
-- smallest values. So a value r, of R smallest values, is below the root, at it or above it as R * R is below X * 2 ^
-- low, equal to it or above it.
pub mod Whole
pub mod Grid
pub mod Counts
pub mod Patterns
pub mod Neighbours
pub mod Paper
pub mod Turns
use Rattle.std.specs.Prelude.{ℕ, zero, suc, ◌+◌, ◌-◌, ◌*◌, ◌/◌, ◌^◌, ◌<◌, true, false, cond, T, leb, Float}
use Rattle.std.specs.Float.{nan, inf, fin, Format}
use Rattle.std.specs.Float.Ieee.{prec, low, up, down, size, odd, fits, of_bits, to_bits}
use Rattle.std.specs.Float.Ieee.Scale.{finite}
use Rattle.std.specs.Float.Ieee.Positive.{positive}

-- how many of the format's smallest values a finite value is, its sign left out
abbrev pub count : Format → Float → ℕ
count f nan = 0
count f (inf s) = 0
count f (fin s m e) = m * up e * 2 ^ low f / down e

-- the square of x's root, the root counted in smallest values
abbrev pub square : Format → Float → ℕ
square f x = count f x * 2 ^ low f

-- ---- the function

-- one more binary digit of a root: 2 * r + 1 if its square is at most n, and 2 * r otherwise
abbrev pub digit : ℕ → ℕ → ℕ
digit n r = cond (leb ((2 * r + 1) * (2 * r + 1)) n) (2 * r + 1) (2 * r)

-- the whole part of √n, for an n below 4 ^ d: d binary digits, one after another
unfoldable pub whole_root : ℕ → ℕ → ℕ
whole_root zero n = 0
whole_root (suc d) n = digit n (whole_root d (n / 4))

-- How many binary digits of √n the format drops. The whole part of √n has half as many as n, rounded up, and the format
-- keeps `prec` of them.
abbrev pub dropped : Format → ℕ → ℕ
dropped f n = (size n + 1) / 2 - prec f

-- √n without them, rounded to the nearest whole number: half of one more than the whole part of its double
abbrev pub leading : Format → ℕ → ℕ
leading f n = (whole_root (suc (prec f)) (4 * n / 4 ^ dropped f n) + 1) / 2

-- the value of the format that is nearest to √n smallest values
unfoldable pub rooted : Format → ℕ → Float
unfolding size odd whole_root
rooted f n = odd (suc (prec f)) false (leading f n) (dropped f n) (low f)

-- -0 and +0 stay. Below zero and at NaN the result is NaN. +infinity stays.
unfoldable pub square_root : Format → Float → Float
unfolding rooted
square_root f nan = nan
square_root f (inf true) = nan
square_root f (inf false) = inf false
square_root f (fin s zero e) = fin s zero e
square_root f (fin true (suc m) e) = nan
square_root f (fin false (suc m) e) = rooted f (square f (fin false (suc m) e))

-- ---- what it is to be the nearest

-- r is a positive value of the format, and the root of x lies on r's side of the midpoint of r and any other value y of
-- the format: above the midpoint for a y below r, and below it for a y above r. The midpoint is half of R + Y, so its
-- square is a quarter of (R + Y) * (R + Y). No tie occurs: both comparisons are strict.
pub record Nearest (f : Format) (x r : Float) : Type 0 where
  pub held : T (fits f r)
  pub above_zero : T (positive r)
  pub lower :
      (y : Float) → T (fits f y) → T (finite y) → count f y < count f r →
      (count f y + count f r) * (count f y + count f r) < 4 * square f x
  pub upper :
      (y : Float) → T (fits f y) → T (finite y) → count f r < count f y →
      4 * square f x < (count f r + count f y) * (count f r + count f y)

-- ---- the same by the two neighbours

-- the positive values next to r have the patterns next to r's
abbrev pub before : Format → Float → Float
before f r = of_bits f (to_bits f r - 1)

abbrev pub after : Format → Float → Float
after f r = of_bits f (to_bits f r + 1)

-- r's midpoints with its two neighbours enclose the root of x
pub record Enclosed (f : Format) (x r : Float) : Type 0 where
  pub lower : (count f (before f r) + count f r) * (count f (before f r) + count f r) < 4 * square f x
  pub upper : 4 * square f x < (count f r + count f (after f r)) * (count f r + count f (after f r))
