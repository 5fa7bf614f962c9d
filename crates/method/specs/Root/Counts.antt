-- How many smallest values a value of a format is: a number of `prec` digits times a power of two. Definitions only.
use Rattle.std.specs.Prelude.{◌≡◌, ℕ, suc, ◌+◌, ◌-◌, ◌*◌, ◌/◌, ◌^◌, ◌<◌}
use Rattle.std.specs.Float.{Format}
use Rattle.std.specs.Float.Ieee.{prec, emax, low, size, hid}

-- ---- the shape of a count

-- `digits` has `prec` digits at the most, and the count is below the infinity's
pub record Shape (f : Format) (c : ℕ) : Type 0 where
  pub digits : ℕ
  pub power : ℕ
  pub small : digits < 2 ^ prec f
  pub is : c ≡ digits * 2 ^ power
  pub under : c < 2 ^ (low f + suc (emax f))

-- ---- the bit pattern of a positive value, from its count

abbrev pub pattern : Format → ℕ → ℕ
pattern f c = (size c - prec f) * hid f + c / 2 ^ (size c - prec f)
