-- What a number picks, as the method's. Definitions only.
use Rattle.std.specs.Prelude.{Result, Ok, Err}
use Rattle.method.specs.Profiles as Profiles
use Rattle.checks.specs.declared.refusal.Refusal.{Refusal}
use Rattle.checks.specs.declared.settings.Settings.{Settings}
use Rattle.checks.specs.Values.{settings_of, refusal_in}

-- the settings with number 0, or a refusal's number and settings of zeros
abbrev pub picked_in : Result Settings Refusal → Profiles.Picked
picked_in (Ok s) = Profiles.picked_of 0 (settings_of s)
picked_in (Err e) = Profiles.picked_of (refusal_in e).number Profiles.zeros
