-- The search for readings that are infinite or NaN: what is found of a table, whatever its stride. The place is that of
-- a bad reading, every reading before it, row by row, is good, and the count is the number of bad ones. Assumes
-- nothing.
use Rattle.std.specs.Prelude.{◌≡◌, ◌⊎◌, Bool, true, false, not, List, ℕ, zero, suc, ◌+◌, ◌-◌, ◌*◌, ◌≤◌, ◌<◌, ltb, eqb, get_or, Float}
use Rattle.std.proofs.Math.Path.{refl}
use Rattle.std.proofs.Common.{sym, ap, ◌∙◌, inl, inr, true≢false, zero-mul, suc-mul, arith, ltb-true, ltb-false, lt-ltb, eq-eqb, ne_eqb, eqb-true}
use Rattle.std.proofs.Math.Logic.{⊎_elim}
use Rattle.std.specs.Float.{nan}
use Rattle.std.specs.Float.Ieee.Scale.{finite}
use Rattle.std.proofs.lemmas.Bool.{eqb-false}
use Rattle.method.specs.Floats.{pick}
use Rattle.method.proofs.Index.{row_next}
use Rattle.method.specs.Repeated.{repeated}
use Rattle.method.proofs.Repeated.{repeated-along, repeated-both}
use Rattle.method.specs.Work.{at}
use Rattle.method.specs.Order.{how_many}
use Rattle.method.specs.Checks.{Place, place_of, nowhere, counted, looked, row_looked, bad_readings}
use Rattle.method.specs.Checks.Tests.{Says}
use Rattle.method.proofs.Checks.Tests.{some as one-or-more}
use Rattle.method.specs.Checks.Readings.{AllGood, BadAt, BadReading, FirstBad, GoodBefore, Stands, bad_of_all, bad_of_row}

-- ---- every reading of a packed table stands in a row and a column

pub each_stands : (rows cols k : ℕ) → k < rows * cols → Stands rows cols k
each_stands zero cols k h = absurd (let z = rw (zero-mul cols) at h in omega (arith, z))
each_stands (suc n) cols k h = go (ltb k (n * cols)) refl (each_stands n cols k)
  where
    go : (t : Bool) → ltb k (n * cols) ≡ t → (k < n * cols → Stands n cols k) → Stands (suc n) cols k
    go true t ih =
        let p = ih (ltb-true k (n * cols) t) in
        record {
          row = p.row;
          column = p.column;
          row_in = omega (arith, p.row_in);
          column_in = p.column_in;
          here = p.here;
        }
    go false t ih =
        let l = ltb-false k (n * cols) t in
        let e = suc-mul n cols in
        record {
          row = n;
          column = k - n * cols;
          row_in = omega arith;
          column_in = omega (arith, l, e, h);
          here = omega (arith, l);
        }

-- so where all are good by row and column, each of the list is
pub all_finite_lem :
    (rows cols : ℕ) (b : List Float) → AllGood cols rows cols b → (k : ℕ) → k < rows * cols →
    finite (get_or b k nan) ≡ true
all_finite_lem rows cols b all k h =
    let p = each_stands rows cols k h in
    rw (← p.here) (all p.row p.column p.row_in p.column_in)

-- ---- a reading looked at

pub looked-good : (i j : ℕ) (x : Float) (p : Place) → finite x ≡ true → looked i j x p ≡ p
unfolding looked
looked-good i j x p e = rw (e, looked)

pub looked-bad : (i j : ℕ) (x : Float) (p : Place) → finite x ≡ false → looked i j x p ≡ counted i j p
unfolding looked
looked-bad i j x p e = rw (e, looked)

-- the first bad reading says where it is, a later one is counted
pub counted-first : (i j : ℕ) (p : Place) → p.bad ≡ 0 → counted i j p ≡ place_of i j 1
unfolding counted
counted-first i j p e = rw (eq-eqb p.bad 0 e) refl

pub counted-later : (i j : ℕ) (p : Place) → ¬ (p.bad ≡ 0) → counted i j p ≡ place_of p.row p.column (p.bad + 1)
unfolding counted
counted-later i j p h = rw (ne_eqb p.bad 0 h) refl

-- each is counted once
pub counted-more : (i j : ℕ) (p : Place) → (counted i j p).bad ≡ p.bad + 1
counted-more i j p = go (eqb p.bad 0) refl
  where
    go : (t : Bool) → eqb p.bad 0 ≡ t → (counted i j p).bad ≡ p.bad + 1
    go true t = let e = eqb-true p.bad 0 t in rw (counted-first i j p e, e) refl
    go false t = rw (counted-later i j p (eqb-false p.bad 0 t)) refl

-- one at most is counted, and of a row no more than were looked at
looked-most : (i j : ℕ) (x : Float) (p : Place) → (looked i j x p).bad ≤ p.bad + 1
looked-most i j x p = go (finite x) refl
  where
    go : (t : Bool) → finite x ≡ t → (looked i j x p).bad ≤ p.bad + 1
    go true t = rw (looked-good i j x p t) (omega arith)
    go false t = rw (looked-bad i j x p t, counted-more i j p) (omega arith)

pub row_most :
    (stride : ℕ) (b : List Float) (i n : ℕ) (p : Place) →
    (repeated 0 n (λ j. looked i j (at stride i j b)) p).bad ≤ p.bad + n
row_most stride b i n p =
    repeated-along (λ j (q : Place). q.bad ≤ p.bad + j) (λ j. looked i j (at stride i j b)) n
    (λ j q h m. omega (arith, looked-most i j (at stride i j b) q, m))
    p (omega arith)

-- beside a count
looked-more :
    (i j : ℕ) (x : Float) (p : Place) (n m : ℕ) → p.bad ≡ n + m →
    (looked i j x p).bad ≡ n + pick (not (finite x)) (m + 1) m
looked-more i j x p n m e = go (finite x) refl
  where
    go : (t : Bool) → finite x ≡ t → (looked i j x p).bad ≡ n + pick (not (finite x)) (m + 1) m
    go true t = rw (looked-good i j x p t, t) e
    go false t = rw (looked-bad i j x p t, t, counted-more i j p) (omega (arith, e))

-- ---- the search

module _ (stride rows cols : ℕ) (b : List Float) where
  -- one reading looked at, and one row
  abbrev in_row : ℕ → ℕ → Place → Place
  in_row i j p = looked i j (at stride i j b) p

  abbrev whole_row : ℕ → Place → Place
  whole_row = row_looked stride cols b

  -- what is known when the readings before (i, j) have been looked at: all of them are good, or one is the first that
  -- is not
  record NoneYet (i j : ℕ) (p : Place) : Type 0 where
    none : p ≡ nowhere
    good : GoodBefore stride rows cols b i j

  record SomeYet (i j : ℕ) (p : Place) : Type 0 where
    some : ¬ (p.bad ≡ 0)
    there : BadAt stride rows cols b p.row p.column
    before : GoodBefore stride rows cols b p.row p.column

  abbrev Yet : ℕ → ℕ → Place → Type 0
  Yet i j p = NoneYet i j p ⊎ SomeYet i j p

  one_more : (i j : ℕ) (p : Place) → i < rows → j < cols → Yet i j p → Yet i (j + 1) (in_row i j p)
  one_more i j p h g y = go (finite (at stride i j b)) refl y
    where
      x : Float
      x = at stride i j b

      go : (t : Bool) → finite x ≡ t → Yet i j p → Yet i (j + 1) (in_row i j p)
      go true t (inl n) =
          rw (looked-good i j x p t)
          (inl record {
            none = n.none;
            good = λ k l r c q.
                ⊎_elim (λ z. n.good k l r c (inl z)) (λ z. same k l r c z.0 z.1 (ltb l j) refl) q;
          })
        where
          same :
              (k l : ℕ) → k < rows → l < cols → k ≡ i → l < j + 1 → (u : Bool) → ltb l j ≡ u →
              finite (at stride k l b) ≡ true
          same k l r c e m true u = n.good k l r c (inr (e, ltb-true l j u))
          same k l r c e m false u =
              let d : l ≡ j = omega (arith, m, ltb-false l j u) in
              rw (e, d) t
      go true t (inr s) =
          rw (looked-good i j x p t) (inr record { some = s.some; there = s.there; before = s.before })
      go false t (inl n) =
          rw (looked-bad i j x p t, counted-first i j p (ap (λ (q : Place). q.bad) n.none))
          (inr record {
            some = λ e. omega (arith, e);
            there = record { row_in = h; column_in = g; bad = t };
            before = n.good;
          })
      go false t (inr s) =
          rw (looked-bad i j x p t, counted-later i j p s.some)
          (inr record { some = λ e. omega (arith, e); there = s.there; before = s.before })

  one-row : (i : ℕ) (p : Place) → i < rows → Yet i 0 p → Yet (i + 1) 0 (whole_row i p)
  one-row i p h y =
      ⊎_elim
      (λ (n : NoneYet i cols (whole_row i p)). inl record {
        none = n.none;
        good = λ k l r c q. ⊎_elim (λ z. here n k l r c z (ltb k i) refl) (λ z. absurd (let w = z.1 in omega arith)) q;
      })
      (λ (s : SomeYet i cols (whole_row i p)). inr record { some = s.some; there = s.there; before = s.before })
      (repeated-along (Yet i) (in_row i) cols (λ j q g y. one_more i j q h g y) p y)
    where
      here :
          NoneYet i cols (whole_row i p) → (k l : ℕ) → k < rows → l < cols → k < i + 1 → (u : Bool) → ltb k i ≡ u →
          finite (at stride k l b) ≡ true
      here n k l r c m true u = n.good k l r c (inl (ltb-true k i u))
      here n k l r c m false u = n.good k l r c (inr (omega (arith, m, ltb-false k i u), c))

  found : Yet rows 0 (bad_readings stride rows cols b)
  unfolding bad_readings
  found =
      repeated-along (λ i p. Yet i 0 p) whole_row rows (λ i p h y. one-row i p h y) nowhere
      (inl record {
        none = refl;
        good = λ k l r c q.
            ⊎_elim (λ z. absurd (omega (arith, z))) (λ z. absurd (let w = z.1 in omega arith)) q;
      })

  -- the count is the number of bad readings
  pub bad_count : (bad_readings stride rows cols b).bad ≡ bad_of_all stride rows cols b
  unfolding bad_readings bad_of_all how_many
  bad_count =
      repeated-both (λ (p : Place) (n : ℕ). p.bad ≡ n) 0 rows whole_row (λ i n. n + bad_of_row stride rows cols b i)
      (λ i p n l h e. repeated-both (λ (q : Place) (m : ℕ). q.bad ≡ n + m) 0 cols (in_row i)
      (λ j m. pick (not (finite (at stride i j b))) (m + 1) m)
      (λ j q m l h e. looked-more i j (at stride i j b) q n m e) p 0 (omega (arith, e)))
      nowhere 0 refl

  -- where it is not 0, the place is the first one's,
  pub first-bad :
      ¬ ((bad_readings stride rows cols b).bad ≡ 0) →
      FirstBad stride rows cols b (bad_readings stride rows cols b)
  first-bad h =
      ⊎_elim (λ n. absurd (h (ap (λ (q : Place). q.bad) n.none)))
      (λ s. record { there = s.there; before = s.before; count = bad_count; some = one-or-more _ h })
      found

  -- and where it is 0, all readings are good, and nothing is told
  pub none-bad :
      (bad_readings stride rows cols b).bad ≡ 0 →
      (bad_readings stride rows cols b ≡ nowhere) × AllGood stride rows cols b
  none-bad e = ⊎_elim (λ n. (n.none, λ i j r c. n.good i j r c (inl r))) (λ s. absurd (s.some e)) found

  -- where all are good, none is bad
  pub good_or_bad : AllGood stride rows cols b → BadReading stride rows cols b → ⊥
  good_or_bad all x =
      let at = x.there in
      true≢false (sym (all x.row x.column at.row_in at.column_in) ∙ at.bad)

  -- the test for it says that there is a bad reading
  pub bad_reading : Says (ltb 0 (bad_readings stride rows cols b).bad) (BadReading stride rows cols b)
  bad_reading = (
    λ e.
        let l = ltb-true 0 (bad_readings stride rows cols b).bad e in
        let f = first-bad (λ z. omega (arith, l, z)) in
        record { row = _; column = _; there = f.there },
    λ x. go x (eqb (bad_readings stride rows cols b).bad 0) refl,
  )
    where
      go :
          BadReading stride rows cols b → (t : Bool) → eqb (bad_readings stride rows cols b).bad 0 ≡ t →
          ltb 0 (bad_readings stride rows cols b).bad ≡ true
      go x true t = absurd (good_or_bad (none-bad (eqb-true _ 0 t)).1 x)
      go x false t = let n = (bad_readings stride rows cols b).bad in lt-ltb 0 n (one-or-more n (eqb-false n 0 t))

  -- there are no more bad readings than readings
  pub bad_most : (bad_readings stride rows cols b).bad ≤ rows * cols
  unfolding bad_readings
  bad_most =
      repeated-along (λ i (p : Place). p.bad ≤ i * cols) whole_row rows
      (λ i p h m. omega (arith, row_most stride b i cols p, m, row_next i cols))
      nowhere (omega arith)
