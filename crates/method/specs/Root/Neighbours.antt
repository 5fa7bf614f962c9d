-- What it is for no value of the format to lie between two others. Definitions only.
use Rattle.std.specs.Prelude.{◌≡◌, ◌⊎◌, ◌≤◌, Float}
use Rattle.std.specs.Float.{Format}
use Rattle.method.specs.Root.{count, before, after}

-- y is not between r's neighbours, or it is r but for the sign
abbrev pub Apart : Format → Float → Float → Type 0
Apart f r y = (count f y ≤ count f (before f r)) ⊎ ((count f y ≡ count f r) ⊎ (count f (after f r) ≤ count f y))
