-- The numbers that the method writes out, and four of its five helpers on floats: magnitude, sign, smaller and larger.
-- (The fifth, the square root, is in Root.) They turn on no format: each hands back one of its arguments, its
-- magnitude, or 1 with its sign. Besides, whether the sign bit is set, a float with another's sign, and whether a float
-- is zero. Definitions only.
use Rattle.std.specs.Prelude.{Bool, true, false, pos, eqb, Float}
use Rattle.std.specs.Float.{nan, inf, fin}
use Rattle.std.specs.Float.Ieee.{lt, is_nan, neg}

-- +0, 1 and 2
abbrev pub plus_zero : Float
plus_zero = fin false 0 (pos 0)

abbrev pub one : Float
one = fin false 1 (pos 0)

abbrev pub two : Float
two = fin false 1 (pos 1)

-- the first where the test is true, else the second
abbrev pub pick : {A : Type 0} → Bool → A → A → A
pick true a b = a
pick false a b = b

-- |x|: x with its sign cleared
unfoldable pub magnitude : Float → Float
magnitude nan = nan
magnitude (inf s) = inf false
magnitude (fin s m e) = fin false m e

-- 1 with x's sign, so 1 for +0 and -1 for -0; NaN for NaN
unfoldable pub sign_of : Float → Float
sign_of nan = nan
sign_of (inf s) = fin s 1 (pos 0)
sign_of (fin s m e) = fin s 1 (pos 0)

-- whether x has its sign bit set, as -0 has; the NaN counts as having none
unfoldable pub negative : Float → Bool
negative nan = false
negative (inf s) = s
negative (fin s m e) = s

-- whether x is +0 or -0
unfoldable pub is_zero : Float → Bool
is_zero nan = false
is_zero (inf s) = false
is_zero (fin s m e) = eqb m 0

-- x, negated where d has its sign bit set
abbrev pub signed : Float → Float → Float
signed d x = pick (negative d) (neg x) x

-- the same where signs are asked for, else x as it is
abbrev pub signed_if : Bool → Float → Float → Float
signed_if true d x = signed d x
signed_if false d x = x

-- the smaller of the two: of a NaN and a number the number, and x where neither is below the other, as with +0 and -0
unfoldable pub smaller : Float → Float → Float
smaller x y = pick (is_nan x) y (pick (lt y x) y x)

-- the larger of the two, likewise
unfoldable pub larger : Float → Float → Float
larger x y = pick (is_nan x) y (pick (lt x y) y x)
