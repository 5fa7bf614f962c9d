-- The order of a diagonal by magnitude: what a list of its positions, largest first, is. Definitions only.
use Rattle.std.specs.Prelude.{◌≡◌, true, false, List, ℕ, ◌<◌, length, get_or, Float}
use Rattle.std.specs.Float.Ieee.{lt, eq}
use Rattle.std.specs.Float.Ieee.Scale.{finite}
use Rattle.method.specs.Floats.{magnitude}

-- ---- definitions

-- all c of them are finite
abbrev pub Finite : ℕ → (ℕ → Float) → Type 0
Finite c d = (i : ℕ) → i < c → finite (d i) ≡ true

-- what a reader wants of the list q of old positions: c entries, all positions, each once; magnitudes largest first;
-- equal ones by lower old position
pub record LargestFirst (c : ℕ) (d : ℕ → Float) (q : List ℕ) : Type 0 where
  pub long : length q ≡ c
  pub within : (k : ℕ) → k < c → get_or q k 0 < c
  pub once : (k l : ℕ) → k < c → l < c → get_or q k 0 ≡ get_or q l 0 → k ≡ l
  pub each : (i : ℕ) → i < c → (k : ℕ) × (k < c) × (get_or q k 0 ≡ i)
  pub descending :
      (k l : ℕ) → k < l → l < c → lt (magnitude (d (get_or q k 0))) (magnitude (d (get_or q l 0))) ≡ false
  pub stable :
      (k l : ℕ) → k < l → l < c →
      eq (magnitude (d (get_or q k 0))) (magnitude (d (get_or q l 0))) ≡ true → get_or q k 0 < get_or q l 0
