-- What a page's lines hold after some of its turns. Definitions only.
use Rattle.std.specs.Prelude.{◌≡◌, ℕ, ◌+◌, ◌*◌, ◌^◌, ◌≤◌, ◌<◌}
use Rattle.method.specs.Root.Paper.{Line}

-- ---- every line

-- A line on the way to the root of n with j turns to go, where no root is above `most`. The root is even: `half` is its
-- half.
pub record Found (n most j : ℕ) (l : Line) : Type 0 where
  pub half : ℕ
  pub even : l.root ≡ half + half
  pub place : l.bit ≡ 2 ^ j
  pub value : l.root * l.root + 4 * l.bit * l.remainder ≡ n
  pub small : l.remainder < l.root + l.bit
  pub room : l.root + l.bit + l.bit ≤ most
