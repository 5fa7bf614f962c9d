-- What is said of the answer of `square_root` to an f64: above zero and finite, that it is nearest to the root, and of
-- every other argument which value it is. Definitions only; that it holds is `root_is`, in proofs/Root.
use Rattle.std.specs.Prelude.{◌≡◌, true, false, Float}
use Rattle.std.specs.Float.{nan, inf, binary64}
use Rattle.std.specs.Float.Ieee.{is_nan, eq, lt}
use Rattle.std.specs.Float.Ieee.Scale.{finite}
use denote.Floats.{float_vals}
use Rattle.std.specs.Borrow.{f64}
use denote.Laws.{Is}
use Rattle.method.specs.Floats.{plus_zero}
use Rattle.method.specs.Root.{Nearest, Enclosed}

-- ---- what an f64 is

-- what the kit's type f64 tells of each of its values
abbrev pub AnF64 : Float → Type 0
AnF64 x = Is f64 x (float_vals binary64 x)

-- ---- what the answer is

-- r is nearest to the root of x, its midpoints with its neighbours enclose that root, and no other value is nearest
pub record IsNearest (x r : Float) : Type 0 where
  pub nearest : Nearest binary64 x r
  pub enclosed : Enclosed binary64 x r
  pub only : (y : Float) → Nearest binary64 x y → y ≡ r

-- the answer r to x, one field a case
pub record RootIs (x r : Float) : Type 0 where
  pub above_zero : finite x ≡ true → lt plus_zero x ≡ true → IsNearest x r
  pub at_zero : eq x plus_zero ≡ true → r ≡ x
  pub below-zero : lt x plus_zero ≡ true → r ≡ nan
  pub at-nan : is_nan x ≡ true → r ≡ nan
  pub at-infinity : x ≡ inf false → r ≡ x

-- every float is in one of the cases
pub data Case (x : Float) : Type 0 where
  is_above : finite x ≡ true → lt plus_zero x ≡ true → Case x
  is_zero : eq x plus_zero ≡ true → Case x
  is_below : lt x plus_zero ≡ true → Case x
  is_no_number : is_nan x ≡ true → Case x
  is_infinity : x ≡ inf false → Case x
