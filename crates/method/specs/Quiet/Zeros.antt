-- Zeros, of either sign: a float, a list whose first n entries are zeros, and the turn by a right angle. Definitions
-- only.
use Rattle.std.specs.Prelude.{◌≡◌, List, get_or, Float}
use Prim.Native.Nat.{ℕ, ◌<◌}
use Rattle.std.specs.Float.Ieee.{nan}
use Rattle.std.specs.Float.{inf, fin}
use Rattle.method.specs.Floats.{plus_zero, one}
use Rattle.method.specs.Rotation.{Rotation}

-- ---- a zero, by cases

unfoldable pub Null : Float → Type 0
Null nan = ⊥
Null (inf s) = ⊥
Null (fin s m e) = m ≡ 0

-- ---- lists

-- the first n entries are zeros, so there are as many
abbrev pub Zeros : ℕ → List Float → Type 0
Zeros n a = (k : ℕ) → k < n → Null (get_or a k nan)

-- the rotation that takes (0, b) to (b, 0), and any two zeros to zeros
abbrev pub quarter : Float → Rotation
quarter b = record { radius = b; cosine = plus_zero; sine = one }
