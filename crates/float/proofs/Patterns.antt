-- The pattern of the NaN: 7FF8000000000000. Assumes nothing.
use mathlib.Core.Path.{◌≡◌, refl}
use mathlib.Core.Bool.{true}
use lib.Ieee.{Float, binary64, to_bits, ne}
use Rattle.method.proofs.Nans.{at-nan}

pub nan_pattern : (x : Float) → ne x x ≡ true → 0x7ff8_0000_0000_0000 ≡ to_bits binary64 x
unfolding to_bits
nan_pattern x h = at-nan (λ (y : Float). 0x7ff8_0000_0000_0000 ≡ to_bits binary64 y) x h refl
