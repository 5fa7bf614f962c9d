-- The numbers that the method writes out: that the patterns the code writes stand for these numbers. Assumes nothing.
pub mod Laws
pub mod Zero
use Rattle.std.specs.Prelude.{◌≡◌, refl}
use Rattle.std.specs.Float.{binary64}
use Rattle.std.specs.Float.Ieee.{of_bits}
use Rattle.method.specs.Floats.{one, plus_zero, two}

-- the patterns of +0, 1 and 2 in a double
pub plus_zero-64 : of_bits binary64 0 ≡ plus_zero
unfolding of_bits
plus_zero-64 = refl

pub one-64 : of_bits binary64 0x3ff0_0000_0000_0000 ≡ one
unfolding of_bits
one-64 = refl

pub two-64 : of_bits binary64 0x4000_0000_0000_0000 ≡ two
unfolding of_bits
two-64 = refl
