-- The identity fill of size n: what it leaves in the list, and the number it answers, for every input. Definitions
-- only.
pub mod Numbers
use Rattle.std.specs.Prelude.{true, false, not, List, [], ◌∷◌, ℕ, ◌+◌, ◌*◌, ltb, eqb, length, set, replicate, Float}
use Rattle.method.specs.Floats.{plus_zero, one}
use Rattle.method.specs.Repeated.{repeated}
use Rattle.method.specs.Settings.{most_size}
use Rattle.method.specs.Checks.{Check, check, first_of}

-- the identity of n rows and n columns
unfoldable pub identity : ℕ → List Float
identity n = repeated 0 n (λ i a. set a (i * n + i) one) (replicate (n * n) plus_zero)

pub record Filled : Type 0 where
  pub number : ℕ
  pub list : List Float

abbrev pub filled : ℕ → List Float → Filled
filled n a = record { number = n; list = a }

-- 1, 2 and 4 as in the calls' table
abbrev pub fill_checks : ℕ → List Float → List Check
fill_checks n a =
    check 1 (eqb n 0)
    ∷ check 2 (ltb most_size n)
    ∷ check 4 (not (eqb (length a) (n * n)))
    ∷ []

abbrev pub fill_number : ℕ → List Float → ℕ
fill_number n a = (first_of (fill_checks n a)).number

-- the identity where n and the length are fit, else the number of the refusal and the list as it was
unfoldable pub fill_outcome : ℕ → List Float → Filled
fill_outcome n a =
    elim (eqb (fill_number n a) 0) [
      | true ↦ filled 0 (identity n)
      | false ↦ filled (fill_number n a) a
    ]
