-- What it is for a test to say something. Definitions only.
use Rattle.std.specs.Prelude.{◌≡◌, ◌↔◌, Bool, true}

-- the test is true exactly when A holds
abbrev pub Says : Bool → Type 0 → Type 0
Says b A = (b ≡ true) ↔ A
