-- The default settings: document 007's values, the floor among them. Definitions only.
use Rattle.std.specs.Prelude.{Float}
use Rattle.std.specs.Float.{binary64}
use Rattle.std.specs.Float.Ieee.{of_bits}
use Rattle.method.specs.Settings.{Settings}

-- 1e-10
unfoldable pub default_tolerance : Float
unfolding of_bits
default_tolerance = of_bits binary64 0x3ddb_7cdf_d9d7_bdbb

-- 1e-12
unfoldable pub default_absolute : Float
unfolding of_bits
default_absolute = of_bits binary64 0x3d71_9799_812d_ea11

-- 1e-21
unfoldable pub default_floor : Float
unfolding of_bits
default_floor = of_bits binary64 0x3b92_e3b4_0a0e_9b4f

-- limit 100, credit 50, tolerance 1e-10, absolute 1e-12, floor 1e-21
abbrev pub defaults : Settings
defaults =
    record {
      limit = 100;
      credit = 50;
      tolerance = default_tolerance;
      absolute = default_absolute;
      floor = default_floor;
    }
