-- The order of c things by a test `before i j`, "i comes before j": when the test is an order, and what a list of the
-- positions in order is. Definitions only.
use Rattle.std.specs.Prelude.{◌≡◌, Bool, true, false, List, ℕ, ◌<◌, length, get_or}

-- what is asked of the test
pub record Orders (c : ℕ) (before : ℕ → ℕ → Bool) : Type 0 where
  pub irreflexive : (i : ℕ) → i < c → before i i ≡ false
  pub transitive : (i j k : ℕ) → i < c → j < c → k < c → before i j ≡ true → before j k ≡ true → before i k ≡ true
  pub total : (i j : ℕ) → i < c → j < c → ¬ (i ≡ j) → before i j ≡ false → before j i ≡ true

-- what is said of the list q: c entries, all of them positions, each position once, and the earlier entry comes before
-- the later
pub record InOrder (c : ℕ) (before : ℕ → ℕ → Bool) (q : List ℕ) : Type 0 where
  pub long : length q ≡ c
  pub within : (k : ℕ) → k < c → get_or q k 0 < c
  pub once : (k l : ℕ) → k < c → l < c → get_or q k 0 ≡ get_or q l 0 → k ≡ l
  pub each : (i : ℕ) → i < c → (k : ℕ) × (k < c) × (get_or q k 0 ≡ i)
  pub sorted : (k l : ℕ) → k < l → l < c → before (get_or q k 0) (get_or q l 0) ≡ true
