-- When a call by a profile's number answers each number. Definitions only.
use Rattle.std.specs.Prelude.{Bool, List, [], ◌∷◌, ◌++◌, ℕ, Float}
use Rattle.method.specs.Work.{Work}
use Rattle.method.specs.Checks.First.{Meaning, means}
use Rattle.method.specs.Checks.Table.{size_meanings, length_meanings, reading_meanings}
use Rattle.method.specs.Ordered.Numbers.{lent_meanings}
use Rattle.method.specs.Profiles.Table.{NoProfile}

-- ---- the table: each number with its condition, in the order in which they are looked at

abbrev pub profile_meanings : ℕ → List Meaning
profile_meanings k = means 10 (NoProfile k) ∷ []

abbrev pub meanings_by : Bool → ℕ → ℕ → ℕ → Work → List Meaning
meanings_by kept rows cols k w =
    size_meanings rows cols
    ++ length_meanings kept rows cols w
    ++ profile_meanings k
    ++ reading_meanings rows cols w.matrix

abbrev pub ordered_meanings_by : ℕ → ℕ → ℕ → Work → List Float → List Meaning
ordered_meanings_by rows cols k w l =
    lent_meanings rows cols w l ++ profile_meanings k ++ reading_meanings rows cols w.matrix
