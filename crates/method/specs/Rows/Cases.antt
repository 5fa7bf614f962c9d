-- What a row of zeros can end as, by two small tables: with a -0, and as NaNs. So no more than `ZeroOrNan` is true of
-- it. The answers are the original's. Definitions only.
use Rattle.std.specs.Prelude.{List, [], ◌∷◌, ℕ}

abbrev pub known : List (List ℕ)
known =
    -- (0, 1), (1, 1): both products of an entry are -0, and so is their sum
    (0 ∷ 0x8000_0000_0000_0000 ∷ [])
    -- (0, 0), (1, the largest finite double): its square is infinite, and the sweep's rotations are NaN
    ∷ (0x7ff8_0000_0000_0000 ∷ 0x7ff8_0000_0000_0000 ∷ [])
    ∷ []
