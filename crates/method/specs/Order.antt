-- Values in order of size (rule 9.4): the order of a table's diagonal by magnitude, as a list of old positions; and the
-- values, and the columns of the factors, by such a list. No operation here rounds, so it is one for every format.
-- Definitions only.
pub mod Places
pub mod Sizes
use Rattle.std.specs.Prelude.{Bool, ◌&&◌, ◌||◌, List, ℕ, ◌+◌, ◌*◌, ltb, get_or, set, replicate, Float}
use Rattle.std.specs.Float.Ieee.{lt, eq}
use Rattle.method.specs.Floats.{pick, magnitude, signed}
use Rattle.method.specs.Repeated.{repeated}
use Rattle.method.specs.Work.{at}

-- ---- the order

-- the diagonal of a table: its entry i
abbrev pub diagonal : ℕ → List Float → ℕ → Float
diagonal stride b i = at stride i i b

-- position i comes before position j: its magnitude is larger, or equal and i < j
unfoldable pub ahead : (ℕ → Float) → ℕ → ℕ → Bool
ahead d i j = lt (magnitude (d j)) (magnitude (d i)) || (eq (magnitude (d i)) (magnitude (d j)) && ltb i j)

-- how many of the numbers below c pass a test
unfoldable pub how_many : ℕ → (ℕ → Bool) → ℕ
how_many c test = repeated 0 c (λ j n. pick (test j) (n + 1) n) 0

-- the new place of position i: how many of the c positions come before it
unfoldable pub new_place : ℕ → (ℕ → ℕ → Bool) → ℕ → ℕ
new_place c before i = how_many c (λ j. before j i)

-- the old positions in their new order: each is written at its new place
unfoldable pub order : ℕ → (ℕ → ℕ → Bool) → List ℕ
order c before = repeated 0 c (λ i l. set l (new_place c before i) i) (replicate c 0)

-- of a diagonal: the larger magnitude first, equal ones by lower old position
abbrev pub old_positions : ℕ → (ℕ → Float) → List ℕ
old_positions c d = order c (ahead d)

-- the old position of value k
abbrev pub old_position : ℕ → (ℕ → Float) → ℕ → ℕ
old_position c d k = get_or (old_positions c d) k 0

-- ---- values, U and V by a list of old positions: q k is the old position of value k

-- value k is the magnitude of the diagonal's entry q k
unfoldable pub values_by : ℕ → (ℕ → ℕ) → (ℕ → Float) → List Float → List Float
values_by c q d l = repeated 0 c (λ k s. set s k (magnitude (d (q k)))) l

-- of a square table of n columns, the first m rows rewritten: entry (i, k), k below c, is g k of the old entry (i, q k)
unfoldable pub rows_moved : ℕ → ℕ → (ℕ → ℕ) → (ℕ → Float → Float) → List Float → ℕ → List Float
rows_moved n c q g a m = repeated 0 m (λ i. repeated 0 c (λ k l. set l (i * n + k) (g k (at n i (q k) a)))) a

-- all n rows: the first c columns are moved, the others stay
abbrev pub columns_moved : ℕ → ℕ → (ℕ → ℕ) → (ℕ → Float → Float) → List Float → List Float
columns_moved n c q g a = rows_moved n c q g a n

-- column k of the new U is column q k of the old, negated where the diagonal's entry q k has its sign bit set
abbrev pub u_by : ℕ → ℕ → (ℕ → ℕ) → (ℕ → Float) → List Float → List Float
u_by n c q d u = columns_moved n c q (λ k x. signed (d (q k)) x) u

-- column k of the new V is column q k of the old
abbrev pub v_by : ℕ → ℕ → (ℕ → ℕ) → List Float → List Float
v_by n c q v = columns_moved n c q (λ k x. x) v
