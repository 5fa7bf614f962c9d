-- The roots that are not found by rounding: of zeros, of what is below zero, of NaN and of +infinity. Assumes nothing.
use Rattle.std.specs.Prelude.{◌≡◌, refl, Bool, true, false, ℕ, zero, suc, ◌+◌, ◌*◌, ◌<◌, pos, T, Float}
use Rattle.std.proofs.Common.{arith, ltb→lt}
use Rattle.std.specs.Float.{nan, inf, fin, Format}
use Rattle.std.specs.Float.Ieee.{up, down, lt}
use Rattle.method.specs.Floats.{plus_zero}
use Rattle.method.specs.Root.{square_root}

-- +0 and -0 stay
pub square_root-zero : (f : Format) (s : Bool) → square_root f (fin s 0 (pos 0)) ≡ fin s 0 (pos 0)
unfolding square_root
square_root-zero f s = refl

no_zero : (u d : ℕ) → 0 < 0 * u * 1 + 0 * 1 * d → ⊥
no_zero u d h = omega arith

no_less : (a d : ℕ) → a < 0 * 1 * d → ⊥
no_less a d h = omega arith

pub square_root-below_zero : (f : Format) (x : Float) → T (lt x plus_zero) → square_root f x ≡ nan
unfolding square_root lt
square_root-below_zero f nan h = absurd h
square_root-below_zero f (inf true) h = refl
square_root-below_zero f (inf false) h = absurd h
square_root-below_zero f (fin true zero e) h =
    absurd (no_zero (up e) (down e) (ltb→lt 0 (0 * up e * 1 + 0 * 1 * down e) h))
square_root-below_zero f (fin true (suc m) e) h = refl
square_root-below_zero f (fin false m e) h =
    absurd (no_less (m * up e * 1) (down e) (ltb→lt (m * up e * 1) (0 * 1 * down e) h))

pub square_root-nan : (f : Format) → square_root f nan ≡ nan
unfolding square_root
square_root-nan f = refl

pub square_root-infinity : (f : Format) → square_root f (inf false) ≡ inf false
unfolding square_root
square_root-infinity f = refl
