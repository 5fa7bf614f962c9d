-- What is said of the answers of `page`, `halved` and `rounded`: of each line of the page of an f64, and of the page of
-- one above zero and finite, with the two comparisons that show the root nearest. Definitions only; that it holds is
-- `line-is` and `page-shows`, in proofs/Page.
use Rattle.std.specs.Prelude.{◌≡◌, ℕ, ◌+◌, ◌-◌, ◌*◌, ◌^◌, ◌<◌, Float}
use Rattle.std.specs.Float.{binary64}
use Rattle.std.specs.Float.Ieee.{of_bits}
use Rattle.method.specs.Root.{square}
use Rattle.float.specs.declared.paper.Line.{Line}
use Rattle.float.specs.declared.paper.Start.{Start}

-- ---- every line, of every f64

-- After k turns the square of the root so far and 4 * bit * remainder are number * 2 ^ 56, and no root so far that is
-- greater by two bits would do.
pub record LineIs (number k : ℕ) (l : Line) : Type 0 where
  pub bit_is : l.bit ≡ 2 ^ (54 - k)
  pub all_there : l.root * l.root + 4 * l.bit * l.remainder ≡ 4 * (number * 2 ^ 54)
  pub none-greater : l.remainder < l.root + l.bit

-- ---- the result, of every f64 above zero and finite

-- what the page of x starts with, its last line, what that is rounded to, and the answer r of `square_root`
pub record PageShows (x r : Float) (s : Start) (l : Line) (k : ℕ) : Type 0 where
  -- the root of x is √(number * 2 ^ 52) * 2 ^ power smallest values
  pub start_is : square binary64 x ≡ s.number * (2 ^ 52 * 4 ^ s.power)
  -- all 54 digits are found
  pub last_line : LineIs s.number 54 l
  -- the answer is what was rounded, times the halved power
  pub result : r ≡ of_bits binary64 (s.power * 2 ^ 52 + k)
  -- it has no more digits than a double keeps
  pub few_digits : k < 2 ^ 53
  -- and the number lies between the squares of the midpoints, m and m + 4 in quarters of the last place
  pub between :
      (m : ℕ) → m + 2 ≡ 4 * k →
      (m * m < 4 * (s.number * 2 ^ 54)) × (4 * (s.number * 2 ^ 54) < (m + 4) * (m + 4))
