-- What the functions ask of their arguments, and the order that a list of positions holds. Definitions only.
use Rattle.std.specs.Prelude.{◌≡◌, Bool, List, ℕ, ◌*◌, ◌<◌, ◌≤◌, length, get_or, take, Float}
use Rattle.method.specs.Floats.{signed_if}
use Rattle.method.specs.Settings.{most_size}
use Rattle.method.specs.Work.{Work, work}
use Rattle.method.specs.Outcome.{card}
use Rattle.method.specs.Order.{diagonal, values_by, u_by, v_by}

-- the diagonal's first c entries lie in b
pub record Room (cols c : ℕ) (b : List Float) : Type 0 where
  pub wide : cols ≤ most_size
  pub narrow : c ≤ cols
  pub long : c * cols ≤ length b

-- the first c entries of p are positions below c
pub record Within (c : ℕ) (p : List ℕ) : Type 0 where
  pub long : c ≤ length p
  pub within : (k : ℕ) → k < c → get_or p k 0 < c

-- table, factors and list have their lengths, and the sizes are small
pub record Fits (rows cols : ℕ) (w : Work) (l : List Float) : Type 0 where
  pub rows_few : rows ≤ most_size
  pub cols_few : cols ≤ most_size
  pub matrix : length w.matrix ≡ rows * cols
  pub u : length w.u ≡ rows * rows
  pub v : length w.v ≡ cols * cols
  pub list : length l ≡ card rows cols

-- position k of the first c of p
abbrev pub listed : ℕ → List ℕ → ℕ → ℕ
listed c p k = get_or (take c p) k 0

-- x with the sign of the diagonal's entry at position k of p, where signs are asked for
abbrev pub signs_by : Bool → ℕ → ℕ → List ℕ → List Float → ℕ → Float → Float
signs_by signs cols c p b k x = signed_if signs (diagonal cols b (listed c p k)) x

-- lists and values
pub record Moved : Type 0 where
  pub held : Work
  pub values : List Float

abbrev pub in_order : Work → List Float → Moved
in_order w l = record { held = w; values = l }

-- n values, and the columns of U and V, by the list q of old positions
abbrev pub in_order_by : ℕ → ℕ → ℕ → Work → List Float → List ℕ → Moved
in_order_by rows cols n w l q =
    let d = diagonal cols w.matrix in
    let at : ℕ → ℕ = λ k. get_or q k 0 in
    in_order (work w.matrix (u_by rows n at d w.u) (v_by cols n at w.v)) (values_by n at d l)
