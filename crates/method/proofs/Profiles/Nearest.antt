-- The settings of a profile are the values of the format nearest to its decimal numbers, in whole numbers, as the root
-- is nearest (Root). Assumes nothing.
use Rattle.std.specs.Prelude.{◌≡◌, refl, Bool, true, false, ◌&&◌, ℕ, ◌+◌, ◌*◌, ◌≤◌, ◌<◌, T, ltb, Float}
use Rattle.std.proofs.Common.{sym, inl, inr, lt_of_le_of_lt, lt_of_lt_of_le, mul-le-mul_right, arith}
use Rattle.std.specs.Float.{Format, binary32, binary64}
use Rattle.std.specs.Float.Ieee.{fits, of_bits, to_bits}
use Rattle.std.specs.Float.Ieee.Positive.{positive}
use denote.Floats.{passes}
use Rattle.method.specs.Root.{count, before, after}
use Rattle.method.specs.Root.Neighbours.{Apart}
use Rattle.method.proofs.Root.Neighbours.{before-less, none_between}
use Rattle.method.proofs.Checks.Tests.{both, holds, less}
use Rattle.method.specs.Profiles.{Fraction, Profile, profiles, floor_of, settings_in, no_profile}
use Rattle.method.specs.Profiles.{profile_at, settings_by}
use Rattle.method.specs.Profiles.Table.{every}
use Rattle.method.proofs.Profiles.Table.{of_profile, settings_there}
use Rattle.method.specs.Profiles.Nearest.{NearestTo, SettingsNearest, twice}

-- ---- by the two neighbours, which a test can look at

-- r lies below the next value, and its midpoints with its two neighbours enclose the fraction
abbrev enclosed : Format → Fraction → Float → Bool
enclosed f q r =
    ltb (count f r) (count f (after f r))
    && (ltb ((count f (before f r) + count f r) * q.den) (twice f q)
    && ltb (twice f q) ((count f r + count f (after f r)) * q.den))

abbrev near_to : Format → Fraction → Float → Bool
near_to f q r = fits f r && (positive r && enclosed f q r)

module _ (f : Format) (q : Fraction) (r : Float) (e : near_to f q r ≡ true) where
  parts :
      (fits f r ≡ true) × ((positive r ≡ true)
      × ((count f r < count f (after f r))
      × (((count f (before f r) + count f r) * q.den < twice f q)
      × (twice f q < (count f r + count f (after f r)) * q.den))))
  parts =
      (both (holds (fits f r))
      (both (holds (positive r))
      (both (less (count f r) (count f (after f r)))
      (both (less ((count f (before f r) + count f r) * q.den) (twice f q))
      (less (twice f q) ((count f r + count f (after f r)) * q.den)))))).0 e

  pub near_nearest : NearestTo f q r
  near_nearest =
      record {
        held = held;
        above_zero = above;
        lower = λ y h g l. below y l (none_between f r y held above h g);
        upper = λ y h g l. beyond y l (none_between f r y held above h g);
      }
    where
      held : T (fits f r)
      held = passes (fits f r) parts.0

      above : T (positive r)
      above = passes (positive r) parts.1.0

      sum : (a b c : ℕ) → a ≤ b → a + c ≤ b + c
      sum a b c h = omega arith

      sum_right : (a b c : ℕ) → a ≤ b → c + a ≤ c + b
      sum_right a b c h = omega arith

      out : (x y z : ℕ) → y < z → z ≤ x → x < y → ⊥
      out x y z a b c = omega arith

      same : (x y : ℕ) → x ≡ y → x < y → ⊥
      same x y a b = omega arith

      back : (x y z : ℕ) → x ≤ z → z < y → y < x → ⊥
      back x y z a b c = omega arith

      below : (y : Float) → count f y < count f r → Apart f r y → (count f y + count f r) * q.den < twice f q
      below y l (inl h) =
          lt_of_le_of_lt (mul-le-mul_right q.den (sum (count f y) (count f (before f r)) (count f r) h))
          parts.1.1.1.0
      below y l (inr (inl h)) = absurd (same (count f y) (count f r) h l)
      below y l (inr (inr h)) = absurd (out (count f y) (count f r) (count f (after f r)) parts.1.1.0 h l)

      beyond : (y : Float) → count f r < count f y → Apart f r y → twice f q < (count f r + count f y) * q.den
      beyond y l (inl h) = absurd (back (count f y) (count f r) (count f (before f r)) h (before-less f r held above) l)
      beyond y l (inr (inl h)) = absurd (same (count f r) (count f y) (sym h) l)
      beyond y l (inr (inr h)) =
          lt_of_lt_of_le parts.1.1.1.1
          (mul-le-mul_right q.den (sum_right (count f (after f r)) (count f y) (count f r) h))

-- ---- every number of the table, in either format

abbrev near_all : Format → Profile → Bool
near_all f p =
    let s = settings_in f p in
    near_to f p.tolerance s.tolerance && (near_to f p.absolute s.absolute && near_to f floor_of s.floor)

all_near : (f : Format) → every (near_all f) profiles ≡ true
unfolding settings_in fits of_bits to_bits
all_near binary32 = refl
all_near binary64 = refl

pub settings_nearest : (f : Format) (k : ℕ) → no_profile k ≡ false → SettingsNearest f (profile_at k) (settings_by f k)
settings_nearest f k e =
    let p = profile_at k in
    let s = settings_in f p in
    let three =
    (both (holds (near_to f p.tolerance s.tolerance))
    (both (holds (near_to f p.absolute s.absolute)) (holds (near_to f floor_of s.floor)))).0
    (of_profile (near_all f) (all_near f) k e) in
    rw (settings_there f k e)
    record {
      tolerance = near_nearest f p.tolerance s.tolerance three.0;
      absolute = near_nearest f p.absolute s.absolute three.1.0;
      floor = near_nearest f floor_of s.floor three.1.1;
    }
