-- What number a bit pattern below the infinity's stands for, in either format. Definitions only.
use Rattle.std.specs.Prelude.{ℕ, zero, suc, ◌+◌, ◌*◌, ◌^◌}
use Rattle.std.specs.Float.{Format}
use Rattle.std.specs.Float.Ieee.{hid}

-- the count of what the fields x and t stand for
abbrev pub field_count : Format → ℕ → ℕ → ℕ
field_count f zero t = t
field_count f (suc x) t = (hid f + t) * 2 ^ x
