-- Lines of the page of a few doubles, computed (rule 12.9): the first, the second and the last, and one asked for past the
-- end. Assumes nothing.
use Rattle.std.specs.Prelude.{◌≡◌, refl, List, [], ◌∷◌, map, ℕ}
use Rattle.std.specs.Float.{Format, binary32, binary64}
use Rattle.std.specs.Float.Ieee.{size, of_bits}
use Rattle.method.specs.Root.Paper.{Line, line, start, turn, turns, rounded, halved, page}

-- lines of the page of the value of a pattern, after each number of turns
abbrev lines : Format → ℕ → List ℕ → List Line
lines f b = map (page f (of_bits f b))

abbrev turns_made : List ℕ
turns_made = 0 ∷ 1 ∷ 54 ∷ 60 ∷ []

abbrev shown : List (List Line)
shown =
    lines binary64 0x4000_0000_0000_0000 turns_made
    ∷ lines binary64 0x3ff0_0000_0000_0001 turns_made
    ∷ lines binary64 1 turns_made
    ∷ lines binary64 0 turns_made
    ∷ lines binary32 0x4000_0000 (0 ∷ 1 ∷ 25 ∷ [])
    ∷ []

-- 2, 1 + 2 ^ -52, the smallest subnormal and 0; and 2 in the format of 32 bits
pub page-cases :
    shown
    ≡ (line 9007199254740992 0 0 18014398509481984
    ∷ line 9007199254740992 9007199254740992 18014398509481984 9007199254740992
    ∷ line 3292739303401103 25476206690103089 25476206690103090 1
    ∷ line 3292739303401103 25476206690103089 25476206690103090 1
    ∷ [])
    ∷ (line 4503599627370497 0 0 18014398509481984
    ∷ line 2 9007199254740992 18014398509481984 9007199254740992
    ∷ line 18014398509481984 18014398509481985 18014398509481984 1
    ∷ line 18014398509481984 18014398509481985 18014398509481984 1
    ∷ [])
    ∷ (line 4503599627370496 0 0 18014398509481984
    ∷ line 0 9007199254740992 18014398509481984 9007199254740992
    ∷ line 0 18014398509481985 18014398509481984 1
    ∷ line 0 18014398509481985 18014398509481984 1
    ∷ [])
    ∷ (line 0 0 0 18014398509481984
    ∷ line 0 9007199254740992 0 9007199254740992
    ∷ line 0 1 0 1
    ∷ line 0 1 0 1
    ∷ [])
    ∷ (line 16777216 0 0 33554432
    ∷ line 16777216 16777216 33554432 16777216
    ∷ line 19268956 47453133 47453132 1
    ∷ [])
    ∷ []
unfolding of_bits size turn turns page
page-cases = refl

-- what the page starts with: of 2, 1 + 2 ^ -52, the smallest subnormal, -4, infinity and NaN
pub start-cases :
    map (λ (b : ℕ). halved binary64 (of_bits binary64 b))
    (0x4000_0000_0000_0000 ∷ 0x3ff0_0000_0000_0001 ∷ 1 ∷ 0xc010_0000_0000_0000 ∷ 0x7ff0_0000_0000_0000
    ∷ 0x7ff8_0000_0000_0000 ∷ [])
    ≡ start 9007199254740992 1022 ∷ start 4503599627370497 1022 ∷ start 4503599627370496 485
    ∷ start 4503599627370496 1023 ∷ start 0 0 ∷ start 0 0 ∷ []
unfolding of_bits size
start-cases = refl

-- and what the last lines are rounded to
pub rounded-cases :
    map rounded (25476206690103090 ∷ 18014398509481984 ∷ 0 ∷ 1 ∷ 2 ∷ 5 ∷ 6 ∷ [])
    ≡ 6369051672525773 ∷ 4503599627370496 ∷ 0 ∷ 0 ∷ 1 ∷ 1 ∷ 2 ∷ []
rounded-cases = refl
