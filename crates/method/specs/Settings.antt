-- The settings of a call, and the largest sizes and counts that are allowed. Definitions only.
use Rattle.std.specs.Prelude.{ℕ, Float}

pub record Settings : Type 0 where
  -- how far the counter may rise: it rises by 1 a pass
  pub limit : ℕ
  -- how far it falls at a drop
  pub credit : ℕ
  -- a coupling below this times its diagonal neighbours' magnitudes is negligible,
  pub tolerance : Float
  -- if it is below this too
  pub absolute : Float
  -- entries whose largest magnitude is below this are not reflected
  pub floor : Float

-- the most rows and the most columns of a table
abbrev pub most_size : ℕ
most_size = 48

-- the most entries from one row's start to the next
abbrev pub most_stride : ℕ
most_stride = 64

-- the greatest limit and the greatest credit
abbrev pub most_limit : ℕ
most_limit = 100000

abbrev pub most_credit : ℕ
most_credit = 1000

-- no allowed call makes more passes
abbrev pub most_passes : ℕ
most_passes = 146000

-- nor computes more rotations: 2 x 47 for each of these passes
abbrev pub most_rotations : ℕ
most_rotations = 13724000
