-- A refusal of the code has a number, and it is told from a pass by that. Assumes nothing.
use Rattle.std.specs.Prelude.{◌≡◌}
use Rattle.std.proofs.Common.{arith}
use Rattle.checks.specs.declared.refusal.Refusal.{Refusal}
use Rattle.checks.specs.declared.refusal.Refusal.TheVariants.{NoSize, TooLarge, TableLength, ULength, VLength, OverLimit, UnfitBounds, BadReadings, NoProfile, ListLength}
use Rattle.checks.specs.Values.{refusal_in}

-- no refusal has the number 0
pub refused_some : (e : Refusal) → ¬ ((refusal_in e).number ≡ 0)
refused_some NoSize z = omega (arith, z)
refused_some TooLarge z = omega (arith, z)
refused_some TableLength z = omega (arith, z)
refused_some ULength z = omega (arith, z)
refused_some VLength z = omega (arith, z)
refused_some OverLimit z = omega (arith, z)
refused_some UnfitBounds z = omega (arith, z)
refused_some (BadReadings p) z = omega (arith, z)
refused_some NoProfile z = omega (arith, z)
refused_some ListLength z = omega (arith, z)
