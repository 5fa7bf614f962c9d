-- What a refusal tells of bad readings, by small tables, computed: the number, the row and the column of the first bad
-- reading, and how many there are. Assumes nothing.
use Rattle.std.specs.Prelude.{◌≡◌, refl, false, List, [], ◌∷◌, ℕ}
use Rattle.std.specs.Float.Ieee.{of_bits, lt}
use Rattle.method.specs.Repeated.{go, repeated}
use Rattle.method.specs.Work.{work}
use Rattle.method.specs.Checks.{Refusal, counted, looked, bad_readings, first_of, refusal_of}
use Rattle.method.specs.Defaults.{default_tolerance, default_absolute, default_floor}
use Rattle.method.specs.Cases.{floats, given}

-- 1 and -0, as good readings; NaN and the infinities, as bad ones
abbrev I : ℕ
I = 0x3ff0_0000_0000_0000

abbrev O : ℕ
O = 0x8000_0000_0000_0000

abbrev N : ℕ
N = 0x7ff8_0000_0000_0000

abbrev P : ℕ
P = 0x7ff0_0000_0000_0000

abbrev M : ℕ
M = 0xfff0_0000_0000_0000

abbrev told : Refusal → List ℕ
told r = r.number ∷ r.place.row ∷ r.place.column ∷ r.place.bad ∷ []

-- of a packed table, at a limit and otherwise the defaults
abbrev refuses : ℕ → ℕ → ℕ → List ℕ → List ℕ
refuses rows cols limit b =
    told (refusal_of false rows cols (given limit 50 default_floor) (work (floats b) [] []))

abbrev computed : List (List ℕ)
computed =
    refuses 2 3 100 (I ∷ I ∷ I ∷ N ∷ I ∷ P ∷ [])
    ∷ refuses 2 3 100 (I ∷ I ∷ M ∷ I ∷ N ∷ I ∷ [])
    ∷ refuses 3 2 100 (I ∷ I ∷ I ∷ I ∷ I ∷ M ∷ [])
    ∷ refuses 1 3 100 (P ∷ M ∷ N ∷ [])
    ∷ refuses 2 2 100 (0x7fef_ffff_ffff_ffff ∷ 0xffef_ffff_ffff_ffff ∷ O ∷ 1 ∷ [])
    ∷ refuses 2 2 100001 (I ∷ N ∷ N ∷ I ∷ [])
    ∷ refuses 2 3 100 (I ∷ N ∷ N ∷ I ∷ [])
    ∷ []

abbrev known : List (List ℕ)
known =
    -- (1, 1, 1), (NaN, 1, infinity): the first in row 1 and column 0, two in all
    (8 ∷ 1 ∷ 0 ∷ 2 ∷ [])
    -- (1, 1, -infinity), (1, NaN, 1): row by row, the one in column 2 comes first
    ∷ (8 ∷ 0 ∷ 2 ∷ 2 ∷ [])
    -- 3 x 2, the last alone
    ∷ (8 ∷ 2 ∷ 1 ∷ 1 ∷ [])
    -- all three
    ∷ (8 ∷ 0 ∷ 0 ∷ 3 ∷ [])
    -- the largest finite doubles, -0 and the smallest above zero are good
    ∷ (0 ∷ 0 ∷ 0 ∷ 0 ∷ [])
    -- two bad ones, but the limit is refused, and the length: nothing is told of readings
    ∷ (6 ∷ 0 ∷ 0 ∷ 0 ∷ [])
    ∷ (3 ∷ 0 ∷ 0 ∷ 0 ∷ [])
    ∷ []

pub bad_reading_cases : computed ≡ known
unfolding of_bits lt go repeated counted looked bad_readings first_of default_tolerance default_absolute default_floor
bad_reading_cases = refl
