-- Columns of a square table moved: entry by entry where the new columns come from, and that moving back gives the table
-- back. Assumes nothing.
use Rattle.std.specs.Prelude.{◌≡◌, Bool, true, false, ℕ, zero, suc, ◌+◌, ◌*◌, ◌/◌, ◌%◌, ◌<◌, ◌≤◌, eqb, ltb, get_or, set, Float}
use Rattle.std.proofs.Math.Path.{refl, sym}
use Rattle.std.proofs.Common.{ap, ◌∙◌, not-suc-le-zero, div-add-mod', mod-lt, div-lt_iff_lt-mul, add-one, arith, ext_get_or, eqb-true, ltb-true, ltb-false}
use mathlib.Core.List.{List}
use Rattle.std.proofs.Math.ListN.{length}
use Rattle.std.specs.Float.{nan}
use Rattle.std.proofs.lemmas.Bool.{eqb-false}
use Rattle.method.proofs.Repeated.{repeated-none, repeated-keep, repeated-suc, repeated-same}
use Rattle.method.proofs.Index.{row_in}
use Rattle.method.specs.Work.{at}
use Rattle.method.proofs.Writes.{writes, length-writes, untouched, written}
use Rattle.method.specs.Order.{rows_moved, columns_moved}

-- ---- places in the table

-- two entries at one place are in one row
one-row : (n i j i' j' : ℕ) → j < n → j' < n → i * n + j ≡ i' * n + j' → i ≡ i'
one-row n i j i' j' h g e = go (ltb i i') refl (ltb i' i) refl
  where
    go : (a : Bool) → ltb i i' ≡ a → (b : Bool) → ltb i' i ≡ b → i ≡ i'
    go true s b t = absurd (omega (arith, row_in i i' n (ltb-true i i' s)))
    go false s true t = absurd (omega (arith, row_in i' i n (ltb-true i' i t)))
    go false s false t = omega (arith, ltb-false i i' s, ltb-false i' i t)

one-column : (n i j i' j' : ℕ) → j < n → j' < n → i * n + j ≡ i' * n + j' → j ≡ j'
one-column n i j i' j' h g e = let r = one-row n i j i' j' h g e in omega (arith, ap (λ (z : ℕ). z * n) r)

-- ---- entry by entry

module _ (n c : ℕ) (few : c ≤ n) (q : ℕ → ℕ) (g : ℕ → Float → Float) (a : List Float) where
  pub length-rows_moved : (m : ℕ) → length (rows_moved n c q g a m) ≡ length a
  unfolding rows_moved
  length-rows_moved m =
      repeated-keep 0 _ (λ (s : List Float). length s ≡ length a) (λ i s e. length-writes _ _ _ s ∙ e) m a refl

  -- one row more
  rows_suc :
      (m : ℕ) →
      rows_moved n c q g a (suc m)
      ≡ writes (λ k. m * n + k) (λ k. g k (get_or a (m * n + q k) nan)) c (rows_moved n c q g a m)
  unfolding rows_moved
  rows_suc m = repeated-suc _ m a

  pub rows_none : rows_moved n c q g a 0 ≡ a
  unfolding rows_moved
  rows_none = sym (repeated-none 0 _ a)

  -- a place that no row writes stays
  pub rows_keep :
      (m x : ℕ) → ((i k : ℕ) → i < m → k < c → ¬ (x ≡ i * n + k)) →
      get_or (rows_moved n c q g a m) x nan ≡ get_or a x nan
  rows_keep zero x h = ap (λ (l : List Float). get_or l x nan) rows_none
  rows_keep (suc m) x h =
      ap (λ (l : List Float). get_or l x nan) (rows_suc m)
      ∙ untouched (λ k. m * n + k) (λ k. g k (get_or a (m * n + q k) nan)) nan (rows_moved n c q g a m) c x
      (λ k b. h m k (omega arith) b)
      ∙ rows_keep m x (λ i k l b. h i k (omega arith) b)

  -- the rows from m on are as they were
  pub rows_below : (m x : ℕ) → m * n ≤ x → get_or (rows_moved n c q g a m) x nan ≡ get_or a x nan
  rows_below m x h = rows_keep m x (λ i k l b e. omega (arith, row_in i m n l))

  -- one row more by way of a copy w of the row's first c entries, where q stays below c
  pub row_step :
      ((k : ℕ) → k < c → q k < c) → (m : ℕ) (l l' w w' : List Float) → c ≤ length w → l ≡ rows_moved n c q g a m →
      w' ≡ writes (λ k. k) (λ k. get_or l (m * n + k) nan) c w →
      l' ≡ writes (λ k. m * n + k) (λ k. g k (get_or w' (q k) nan)) c l → l' ≡ rows_moved n c q g a (m + 1)
  row_step below m l l' w w' fits el ew e =
      e
      ∙ repeated-same _ _ c l (λ k s h. ap (λ (x : Float). set s (m * n + k) (g k x)) (copied k h))
      ∙ ap (writes (λ k. m * n + k) (λ k. g k (get_or a (m * n + q k) nan)) c) el
      ∙ sym (rows_suc m)
      ∙ ap (rows_moved n c q g a) (sym (add-one m))
    where
      copied : (k : ℕ) → k < c → get_or w' (q k) nan ≡ get_or a (m * n + q k) nan
      copied k h =
          ap (λ (s : List Float). get_or s (q k) nan) ew
          ∙ written (λ k. k) (λ k. get_or l (m * n + k) nan) nan w c (q k) (below k h) (λ i b. omega arith)
          (λ i i' b b' z. z)
          ∙ ap (λ (s : List Float). get_or s (m * n + q k) nan) el
          ∙ rows_below m (m * n + q k) (omega arith)

  module _ (square : length a ≡ n * n) where
    rows_moved_lem :
        (m i k : ℕ) → m ≤ n → i < m → k < c →
        get_or (rows_moved n c q g a m) (i * n + k) nan ≡ g k (get_or a (i * n + q k) nan)
    rows_moved_lem zero i k l h b = absurd (not-suc-le-zero h)
    rows_moved_lem (suc m) i k l h b =
        ap (λ (s : List Float). get_or s (i * n + k) nan) (rows_suc m)
        ∙ go (eqb i m) refl (λ h'. rows_moved_lem m i k (omega arith) h' b)
      where
        f : ℕ → ℕ
        f x = m * n + x

        v : ℕ → Float
        v x = g x (get_or a (m * n + q x) nan)

        go :
            (t : Bool) → eqb i m ≡ t →
            (i < m → get_or (rows_moved n c q g a m) (i * n + k) nan ≡ g k (get_or a (i * n + q k) nan)) →
            get_or (writes f v c (rows_moved n c q g a m)) (i * n + k) nan ≡ g k (get_or a (i * n + q k) nan)
        go true t ih =
            rw (eqb-true i m t)
            (written f v nan (rows_moved n c q g a m) c k b (λ x y. omega (arith, length-rows_moved m, row_in m n n l))
            (λ x x' y y' e. omega arith))
        go false t ih =
            let ne = eqb-false i m t in
            untouched f v nan (rows_moved n c q g a m) c (i * n + k)
            (λ x y e. ne (one-row n i k m x (omega arith) (omega arith) e))
            ∙ ih (omega arith)

    -- column k of the new table is g k of column q k of the old
    pub moved : (i k : ℕ) → i < n → k < c → at n i k (columns_moved n c q g a) ≡ g k (at n i (q k) a)
    moved i k h b = rows_moved_lem n i k (omega arith) h b

    -- columns from c on are as they were
    pub stays : (i j : ℕ) → i < n → c ≤ j → j < n → at n i j (columns_moved n c q g a) ≡ at n i j a
    stays i j h b l = rows_keep n (i * n + j) (λ i' k m y e. omega (arith, one-column n i j i' k l (omega arith) e))

some_row : (n x : ℕ) → x < n * n → 0 < n
some_row zero x h = absurd (not-suc-le-zero h)
some_row (suc n) x h = omega arith

-- two square tables are equal by their entries
pub by_entries :
    (n : ℕ) (a b : List Float) → length a ≡ n * n → length b ≡ n * n →
    ((i j : ℕ) → i < n → j < n → at n i j a ≡ at n i j b) → a ≡ b
by_entries n a b la lb h = ext_get_or nan a b (la ∙ sym lb) (λ x g. same x (rw la at g))
  where
    same : (x : ℕ) → x < n * n → get_or a x nan ≡ get_or b x nan
    same x g =
        let p = some_row n x g in
        let e = div-add-mod' x n in
        ap (λ (z : ℕ). get_or a z nan) (sym e)
        ∙ h (x / n) (x % n) ((div-lt_iff_lt-mul p).1 g) (mod-lt x p)
        ∙ ap (λ (z : ℕ). get_or b z nan) e

-- ---- moved back

module _ (n c : ℕ) (few : c ≤ n) (a : List Float) (square : length a ≡ n * n) where
  -- back by q' with h, after q with g: where q undoes q' and h undoes g, the table is as it was
  pub moved_back :
      (q q' : ℕ → ℕ) (g h : ℕ → Float → Float) →
      ((j : ℕ) → j < c → q' j < c) → ((j : ℕ) → j < c → q (q' j) ≡ j) →
      ((j : ℕ) (x : Float) → j < c → h j (g (q' j) x) ≡ x) → columns_moved n c q' h (columns_moved n c q g a) ≡ a
  moved_back q q' g h into back undo =
      by_entries n _ a (length-rows_moved n c few q' h (columns_moved n c q g a) n ∙ long) square
      (λ i j l b. same i j l b (ltb j c) refl)
    where
      long : length (columns_moved n c q g a) ≡ n * n
      long = length-rows_moved n c few q g a n ∙ square

      same :
          (i j : ℕ) → i < n → j < n → (t : Bool) → ltb j c ≡ t →
          at n i j (columns_moved n c q' h (columns_moved n c q g a)) ≡ at n i j a
      same i j l b true t =
          let s = ltb-true j c t in
          moved n c few q' h (columns_moved n c q g a) long i j l s
          ∙ ap (h j) (moved n c few q g a square i (q' j) l (into j s))
          ∙ undo j (get_or a (i * n + q (q' j)) nan) s
          ∙ ap (λ (z : ℕ). get_or a (i * n + z) nan) (back j s)
      same i j l b false t =
          let s = ltb-false j c t in
          stays n c few q' h (columns_moved n c q g a) long i j l s b ∙ stays n c few q g a square i j l s b
