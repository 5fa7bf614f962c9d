-- Tables by their rows: a table is its rows, rows in other places; and where each row goes its own way, rows that begin
-- in other places end there. Assumes nothing.
use Rattle.std.specs.Prelude.{◌≡◌, refl, Bool, true, false, List, [], ◌++◌, ℕ, zero, suc, ◌*◌, ◌<◌, ◌≤◌, eqb, length, take, drop, Float}
use Rattle.std.proofs.Common.{sym, ap, ◌∙◌, zero-mul, not-suc-le-zero, le_of_eq, add-one, arith, eqb-true, length-append, length-drop, take_all, take-add, drop_at}
use Rattle.std.proofs.lemmas.Bool.{eqb-false}
use Rattle.std.proofs.lemmas.List.{take-append-le, drop-append-le}
use Rattle.method.specs.Floats.{pick}
use Rattle.method.specs.Repeated.{repeated}
use Rattle.method.proofs.Repeated.{repeated-none, repeated-suc, repeated-same}
use Rattle.method.proofs.Index.{row_in, row_next}
use Rattle.method.specs.Work.{Work, work}
use Rattle.method.specs.View.{row_of}
use Rattle.method.proofs.View.Rows.{row_length}
use Rattle.method.specs.Rows.{Side, left, right, factor, size_of, OwnRows, rows_by, exchange, exchanged}
use Rattle.method.specs.Rows.Moved.{Square}

-- the first m rows
abbrev first_rows : ℕ → (ℕ → ℕ) → List Float → ℕ → List Float
first_rows n q a m = repeated 0 m (λ k l. l ++ row_of n (q k) a) []

-- ---- a table is its rows

rows_are : (n : ℕ) (a : List Float) (m : ℕ) → first_rows n (λ k. k) a m ≡ take (m * n) a
rows_are n a zero = rw (zero-mul n) (sym (repeated-none 0 _ []))
rows_are n a (suc m) =
    repeated-suc _ m []
    ∙ ap (λ (l : List Float). l ++ row_of n m a) (rows_are n a m)
    ∙ sym (take-add (m * n) n a)
    ∙ ap (λ (x : ℕ). take x a) (sym (row_next m n) ∙ ap (λ (x : ℕ). x * n) (add-one m))

-- so one whose row k is row q k of another, for every k, is that one's rows by q
pub by_rows :
    (n : ℕ) (q : ℕ → ℕ) (a b : List Float) → length b ≡ n * n →
    ((k : ℕ) → k < n → row_of n k b ≡ row_of n (q k) a) → b ≡ rows_by n q a
unfolding rows_by
by_rows n q a b e h =
    sym (rows_are n b n ∙ take_all (n * n) b (le_of_eq e))
    ∙ repeated-same _ _ n [] (λ k l g. ap (λ (r : List Float). l ++ r) (h k g))

-- ---- the rows of `rows_by`

module _ (n : ℕ) (q : ℕ → ℕ) (a : List Float) (square : length a ≡ n * n)
    (within : (k : ℕ) → k < n → q k < n) where
  first-length : (m : ℕ) → m ≤ n → length (first_rows n q a m) ≡ m * n
  first-length zero h = rw (zero-mul n) (ap length (sym (repeated-none 0 (λ k l. l ++ row_of n (q k) a) [])))
  first-length (suc m) h =
      ap length (repeated-suc (λ k l. l ++ row_of n (q k) a) m [])
      ∙ length-append (first_rows n q a m) (row_of n (q m) a)
      ∙ rw (first-length m (omega arith), row_length n (q m) a (within m h) square)
      (sym (row_next m n) ∙ ap (λ (x : ℕ). x * n) (add-one m))

  first-row : (m k : ℕ) → m ≤ n → k < m → row_of n k (first_rows n q a m) ≡ row_of n (q k) a
  first-row zero k h g = absurd (not-suc-le-zero g)
  first-row (suc m) k h g =
      ap (row_of n k) (repeated-suc (λ k l. l ++ row_of n (q k) a) m []) ∙ go (eqb k m) refl (first-row m k (omega arith))
    where
      l : List Float
      l = first_rows n q a m

      long : length l ≡ m * n
      long = first-length m (omega arith)

      go :
          (b : Bool) → eqb k m ≡ b → (k < m → row_of n k l ≡ row_of n (q k) a) →
          row_of n k (l ++ row_of n (q m) a) ≡ row_of n (q k) a
      go true t ih =
          rw (eqb-true k m t)
          (ap (take n) (drop_at l (row_of n (q m) a) (m * n) long)
          ∙ take_all n (row_of n (q m) a) (le_of_eq (row_length n (q m) a (within m h) square)))
      go false t ih =
          let d = eqb-false k m t in
          let less : k < m = omega arith in
          let room = row_in k m n less in
          ap (take n) (drop-append-le (k * n) l (row_of n (q m) a) (rw long (omega arith)))
          ∙ take-append-le n (drop (k * n) l) (row_of n (q m) a) (rw (length-drop (k * n) l, long) (omega arith))
          ∙ ih less

  pub rows_by-length : length (rows_by n q a) ≡ n * n
  unfolding rows_by
  rows_by-length = first-length n (omega arith)

  pub rows_by-row : (k : ℕ) → k < n → row_of n k (rows_by n q a) ≡ row_of n (q k) a
  unfolding rows_by
  rows_by-row k h = first-row n k (omega arith) h

-- ---- rows in other places

exchange-within : (n i j k : ℕ) → i < n → j < n → k < n → exchange i j k < n
exchange-within n i j k h g l = go (eqb k i) (eqb k j)
  where
    go : (a b : Bool) → pick a j (pick b i k) < n
    go true b = g
    go false true = h
    go false false = l

-- three equations are one
by_parts : {w : Work} {b u v : List Float} → w.matrix ≡ b → w.u ≡ u → w.v ≡ v → w ≡ work b u v
by_parts p q r = λ i. work (p i) (q i) (r i)

pub exchanged-square :
    (rows cols : ℕ) (w : Work) → Square rows cols w → (side : Side) (i j : ℕ) → i < size_of side rows cols →
    j < size_of side rows cols → Square rows cols (exchanged side rows cols i j w)
exchanged-square rows cols w q left i j h g left =
    rows_by-length rows (exchange i j) w.u (q left) (λ k l. exchange-within rows i j k h g l)
exchanged-square rows cols w q left i j h g right = q right
exchanged-square rows cols w q right i j h g left = q left
exchanged-square rows cols w q right i j h g right =
    rows_by-length cols (exchange i j) w.v (q right) (λ k l. exchange-within cols i j k h g l)

module _ {rows cols : ℕ} {w₀ w₀' w w' : Work} (own : OwnRows rows cols w₀ w₀' w w') where
  -- a factor whose rows began as those of another by q ended as those by q
  pub own_moved :
      (side : Side) (q : ℕ → ℕ) → Square rows cols w₀ → Square rows cols w' →
      ((k : ℕ) → k < size_of side rows cols → q k < size_of side rows cols) →
      factor side w₀' ≡ rows_by (size_of side rows cols) q (factor side w₀) →
      factor side w' ≡ rows_by (size_of side rows cols) q (factor side w)
  own_moved side q square₀ square' within e =
      let n = size_of side rows cols in
      by_rows n q (factor side w) (factor side w') (square' side)
      (λ k h.
      sym
      (own.row side (q k) k (within k h) h
      (sym (rows_by-row n q (factor side w₀) (square₀ side) within k h) ∙ ap (row_of n k) (sym e))))

  -- a factor that began as another ended as it
  own_same :
      (side : Side) → Square rows cols w → Square rows cols w' → factor side w₀ ≡ factor side w₀' →
      factor side w' ≡ factor side w
  own_same side square square' e =
      let n = size_of side rows cols in
      by_rows n (λ k. k) (factor side w) (factor side w') (square' side)
      (λ k h. sym (own.row side k k h h (ap (row_of n k) e)))
      ∙ sym (by_rows n (λ k. k) (factor side w) (factor side w) (square side) (λ k h. refl))

-- lists that began with two rows of one factor exchanged ended so, and in nothing else otherwise
pub own_exchanged :
    {rows cols : ℕ} {w₀ w w' : Work} (side : Side) (i j : ℕ) →
    OwnRows rows cols w₀ (exchanged side rows cols i j w₀) w w' →
    Square rows cols w₀ → Square rows cols w → Square rows cols w' →
    i < size_of side rows cols → j < size_of side rows cols → w' ≡ exchanged side rows cols i j w
own_exchanged {rows} left i j own s₀ s s' h g =
    by_parts (sym own.matrix)
    (own_moved own left (exchange i j) s₀ s' (λ k l. exchange-within rows i j k h g l) refl)
    (own_same own right s s' refl)
own_exchanged {cols = cols} right i j own s₀ s s' h g =
    by_parts (sym own.matrix) (own_same own left s s' refl)
    (own_moved own right (exchange i j) s₀ s' (λ k l. exchange-within cols i j k h g l) refl)
