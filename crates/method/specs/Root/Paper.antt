-- The root as it is found on paper, one binary digit a turn, with additions, subtractions, comparisons and shifts alone
-- (docs/ROOT.md). Definitions only. A page seeks the root of number * 2 ^ (d + 2) in d turns. What it holds at any time
-- is one line of four numbers, of which root * root + 4 * bit * remainder is number * 2 ^ (d + 2).
use Rattle.std.specs.Prelude.{ℕ, zero, suc, ◌+◌, ◌-◌, ◌*◌, ◌/◌, ◌^◌, cond, leb, Float}
use Rattle.std.specs.Float.{Format}
use Rattle.std.specs.Float.Ieee.{prec, hid}
use Rattle.method.specs.Root.{square, dropped}

-- ---- the page, on whole numbers

-- what remains, what was tried last, the root so far, and the bit that goes with them
pub record Line : Type 0 where
  pub remainder : ℕ
  pub trial : ℕ
  pub root : ℕ
  pub bit : ℕ

abbrev pub line : ℕ → ℕ → ℕ → ℕ → Line
line remainder trial root bit = record { remainder = remainder; trial = trial; root = root; bit = bit }

-- before the first turn nothing is found, and all of the number remains
abbrev pub first : ℕ → ℕ → Line
first d number = line number 0 0 (2 ^ d)

-- A trial that the remainder has room for is taken: it is taken off the remainder, and the root goes up to the trial and
-- a bit further. Any other is left.
abbrev pub tried : ℕ → ℕ → ℕ → ℕ → Line
tried remainder trial root bit =
    cond (leb trial remainder) (line (remainder - trial) trial (trial + bit) bit) (line remainder trial root bit)

-- one turn: the bit is halved, the remainder doubled, and the root so far and the bit are tried
unfoldable pub turn : Line → Line
turn l = tried (l.remainder + l.remainder) (l.root + l.bit / 2) l.root (l.bit / 2)

unfoldable pub turns : ℕ → Line → Line
unfolding turn
turns zero l = l
turns (suc k) l = turn (turns k l)

-- the whole part of √(number * 2 ^ d), for a number below 2 ^ d: half of the root that the last line shows
abbrev pub paper_root : ℕ → ℕ → ℕ
paper_root d number = (turns d (first d number)).root / 2

-- The root counts quarters of the last place that is kept. Half of a place and more is rounded up.
abbrev pub rounded : ℕ → ℕ
rounded root = (root + 2) / 4

-- ---- the page of a value of a format

-- how many digits are found: those that the format keeps, and one more
abbrev pub places : Format → ℕ
places f = suc (prec f)

-- a number, and the power of two that its root is times
pub record Start : Type 0 where
  pub number : ℕ
  pub power : ℕ

abbrev pub start : ℕ → ℕ → Start
start number power = record { number = number; power = power }

-- The root of x is √(number * 2 ^ (prec - 1)) * 2 ^ power smallest values: the exponent is halved, and what has no half
-- stays with the number. The sign of x is left out; of an infinity and a NaN the number is 0, as of a zero.
abbrev pub halved : Format → Float → Start
halved f x = start (square f x / (hid f * 4 ^ dropped f (square f x))) (dropped f (square f x))

abbrev pub at_most : ℕ → ℕ → ℕ
at_most most k = cond (leb k most) k most

-- the line after k turns; none is made once all digits are found
unfoldable pub page : Format → Float → ℕ → Line
unfolding turns
page f x k = turns (at_most (places f) k) (first (places f) (halved f x).number)
