-- The code's values as the method's. Definitions only.
use Rattle.std.specs.Prelude.{ℕ, Result, Ok, Err}
use Rattle.method.specs.Settings as Method
use Rattle.method.specs.Checks as Checks
use Rattle.checks.specs.declared.settings.Settings.{Settings}
use Rattle.checks.specs.declared.place.Place.{Place}
use Rattle.checks.specs.declared.refusal.Refusal.{Refusal}
use Rattle.checks.specs.declared.refusal.Refusal.TheVariants.{NoSize, TooLarge, TableLength, ULength, VLength, OverLimit, UnfitBounds, BadReadings, NoProfile, ListLength}

-- the settings
abbrev pub settings_of : Settings → Method.Settings
settings_of s =
    record {
      limit = s.limit;
      credit = s.credit;
      tolerance = s.tolerance;
      absolute = s.absolute;
      floor = s.floor;
    }

-- a place
abbrev pub place_in : Place → Checks.Place
place_in p = Checks.place_of p.row p.column p.bad

-- a refusal: its number, and the place of the first bad reading with 8
abbrev pub refusal_in : Refusal → Checks.Refusal
refusal_in NoSize = Checks.refusal 1 Checks.nowhere
refusal_in TooLarge = Checks.refusal 2 Checks.nowhere
refusal_in TableLength = Checks.refusal 3 Checks.nowhere
refusal_in ULength = Checks.refusal 4 Checks.nowhere
refusal_in VLength = Checks.refusal 5 Checks.nowhere
refusal_in OverLimit = Checks.refusal 6 Checks.nowhere
refusal_in UnfitBounds = Checks.refusal 7 Checks.nowhere
refusal_in (BadReadings p) = Checks.refusal 8 (place_in p)
refusal_in NoProfile = Checks.refusal 10 Checks.nowhere
refusal_in ListLength = Checks.refusal 11 Checks.nowhere

-- its number, and its place
abbrev pub number_of : Checks.Refusal → ℕ
number_of r = r.number

abbrev pub place_of : Checks.Refusal → Checks.Place
place_of r = r.place

-- what a check answers: nothing is refused, or this is
abbrev pub checked : {A : Type 0} → Result A Refusal → Checks.Refusal
checked (Ok a) = Checks.not_refused
checked (Err e) = refusal_in e
