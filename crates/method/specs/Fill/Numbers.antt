-- When the identity fill answers each number. Definitions only.
use Rattle.std.specs.Prelude.{◌≡◌, List, [], ◌∷◌, ℕ, ◌*◌, ◌≤◌, ◌<◌, length, Float}
use Rattle.method.specs.Settings.{most_size}
use Rattle.method.specs.Checks.First.{Meaning, means}

-- n from 1 to 48, and a list of n x n
pub record FillFit (n : ℕ) (a : List Float) : Type 0 where
  pub some : 1 ≤ n
  pub few : n ≤ most_size
  pub whole : length a ≡ n * n

-- n is 0, n is above 48, the length is not n x n
abbrev pub fill_meanings : ℕ → List Float → List Meaning
fill_meanings n a =
    means 1 (n ≡ 0)
    ∷ means 2 (most_size < n)
    ∷ means 4 (¬ (length a ≡ n * n))
    ∷ []
