-- What it is for the settings of a profile to be the values of the format nearest to its decimal numbers, in whole
-- numbers, as the root is nearest (Root). Definitions only.
use Rattle.std.specs.Prelude.{ℕ, ◌+◌, ◌*◌, ◌^◌, ◌<◌, T, Float}
use Rattle.std.specs.Float.{Format}
use Rattle.std.specs.Float.Ieee.{low, fits}
use Rattle.std.specs.Float.Ieee.Scale.{finite}
use Rattle.std.specs.Float.Ieee.Positive.{positive}
use Rattle.method.specs.Root.{count}
use Rattle.method.specs.Settings.{Settings}
use Rattle.method.specs.Profiles.{Fraction, Profile, floor_of}

-- twice the fraction, counted in the format's smallest values and multiplied by its lower number
abbrev pub twice : Format → Fraction → ℕ
twice f q = 2 * (q.num * 2 ^ low f)

-- r is a positive value of the format, and the fraction lies on r's side of the midpoint of r and any other value y of the
-- format: above the midpoint for a y below r, and below it for a y above r. The midpoint is half of R + Y. No tie occurs:
-- both comparisons are strict.
pub record NearestTo (f : Format) (q : Fraction) (r : Float) : Type 0 where
  pub held : T (fits f r)
  pub above_zero : T (positive r)
  pub lower :
      (y : Float) → T (fits f y) → T (finite y) → count f y < count f r →
      (count f y + count f r) * q.den < twice f q
  pub upper :
      (y : Float) → T (fits f y) → T (finite y) → count f r < count f y →
      twice f q < (count f r + count f y) * q.den

-- ---- every number of the table, in either format

-- the settings that a number picks are nearest to the numbers of its profile
pub record SettingsNearest (f : Format) (p : Profile) (s : Settings) : Type 0 where
  pub tolerance : NearestTo f p.tolerance s.tolerance
  pub absolute : NearestTo f p.absolute s.absolute
  pub floor : NearestTo f floor_of s.floor
