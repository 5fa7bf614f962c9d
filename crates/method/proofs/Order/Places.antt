-- The order of c things by a test `before i j`, "i comes before j": the new place of i is how many come before it, and
-- the order lists each position at its new place. Where the test is an order, the list holds each position once, in
-- order, and no other list does. Assumes nothing.
use Rattle.std.specs.Prelude.{◌≡◌, Bool, true, false, List, ℕ, zero, suc, ◌+◌, ◌-◌, ◌<◌, ◌≤◌, eqb, ltb, length, get_or, take, replicate}
use Rattle.std.proofs.Math.Path.{refl}
use Rattle.std.proofs.Common.{sym, ap, ◌∙◌, zero-le, not-suc-le-zero, add-one, arith, ext_get_or, get_or-take, length-take-le, eqb-true, ltb-true, ltb-false, lt-ltb, le-ltb}
use Rattle.std.proofs.lemmas.Bool.{false≢true, eqb-false}
use Rattle.std.proofs.Math.ListN.{length-replicate}
use Rattle.method.specs.Floats.{pick}
use Rattle.method.proofs.Repeated.{repeated-none, repeated-suc}
use Rattle.method.proofs.Writes.{writes, length-writes, written}
use Rattle.method.specs.Order.{how_many, new_place, order}
use Rattle.method.specs.Order.Places.{InOrder, Orders}

-- ---- counting

count-suc : (c : ℕ) (test : ℕ → Bool) → how_many (suc c) test ≡ pick (test c) (how_many c test + 1) (how_many c test)
unfolding how_many
count-suc c test = repeated-suc _ c 0

pub count-zero : (test : ℕ → Bool) → how_many 0 test ≡ 0
unfolding how_many
count-zero test = sym (repeated-none 0 _ 0)

pub count_next : (c : ℕ) (test : ℕ → Bool) → how_many (c + 1) test ≡ pick (test c) (how_many c test + 1) (how_many c test)
count_next c test = ap (λ (n : ℕ). how_many n test) (add-one c) ∙ count-suc c test

more-le : (p q : Bool) (m n : ℕ) → (p ≡ true → q ≡ true) → m ≤ n → pick p (m + 1) m ≤ pick q (n + 1) n
more-le true true m n h l = omega arith
more-le true false m n h l = absurd (false≢true (h refl))
more-le false true m n h l = omega arith
more-le false false m n h l = omega arith

more_lt : (p q : Bool) (m n : ℕ) → (p ≡ true → q ≡ true) → m < n → pick p (m + 1) m < pick q (n + 1) n
more_lt true true m n h l = omega arith
more_lt true false m n h l = absurd (false≢true (h refl))
more_lt false true m n h l = omega arith
more_lt false false m n h l = omega arith

more-one : (p q : Bool) (m n : ℕ) → p ≡ false → q ≡ true → m ≤ n → pick p (m + 1) m < pick q (n + 1) n
more-one p q m n e f l = rw (e, f) (let h : m < n + 1 = omega arith in h)

module _ (P Q : ℕ → Bool) where
  count-le : (c : ℕ) → ((x : ℕ) → x < c → P x ≡ true → Q x ≡ true) → how_many c P ≤ how_many c Q
  count-le zero h = omega (arith, count-zero P, count-zero Q)
  count-le (suc c) h =
      rw (count-suc c P, count-suc c Q)
      (more-le (P c) (Q c) (how_many c P) (how_many c Q) (h c (omega arith)) (count-le c (λ x l. h x (omega arith))))

  -- the wider test counts more where one number passes it alone
  count-lt :
      (c i : ℕ) → i < c → P i ≡ false → Q i ≡ true →
      ((x : ℕ) → x < c → P x ≡ true → Q x ≡ true) → how_many c P < how_many c Q
  count-lt zero i l p q h = absurd (not-suc-le-zero l)
  count-lt (suc c) i l p q h =
      rw (count-suc c P, count-suc c Q) (go (eqb i c) refl (λ g. count-lt c i g p q (λ x b. h x (omega arith))))
    where
      le : how_many c P ≤ how_many c Q
      le = count-le c (λ x b. h x (omega arith))

      go :
          (b : Bool) → eqb i c ≡ b → (i < c → how_many c P < how_many c Q) →
          pick (P c) (how_many c P + 1) (how_many c P) < pick (Q c) (how_many c Q + 1) (how_many c Q)
      go true t ih =
          let e = eqb-true i c t in
          more-one (P c) (Q c) (how_many c P) (how_many c Q) (rw e at p) (rw e at q) le
      go false t ih =
          let n = eqb-false i c t in
          more_lt (P c) (Q c) (how_many c P) (how_many c Q) (h c (omega arith)) (ih (omega arith))

count-all : (c : ℕ) → how_many c (λ j. true) ≡ c
count-all zero = count-zero _
count-all (suc c) = count-suc c _ ∙ (let e = count-all c in omega arith)

-- ---- a map of the numbers below c into themselves that takes no value twice takes each

-- x, moved down by one where it is above t
squeezed : (t x : ℕ) → ℕ
squeezed t x = pick (ltb x t) x (x - 1)

squeeze_low : (t x : ℕ) → x < t → squeezed t x ≡ x
unfolding squeezed
squeeze_low t x h = rw (lt-ltb x t h)

squeeze_high : (t x : ℕ) → t < x → squeezed t x ≡ x - 1
unfolding squeezed
squeeze_high t x h = let e = le-ltb x t (let l : t ≤ x = omega arith in l) in rw e

-- two numbers other than t that are squeezed together are one
squeeze_once : (t x y : ℕ) → ¬ (x ≡ t) → ¬ (y ≡ t) → squeezed t x ≡ squeezed t y → x ≡ y
squeeze_once t x y n m e = go (ltb x t) refl (ltb y t) refl
  where
    go : (a : Bool) → ltb x t ≡ a → (b : Bool) → ltb y t ≡ b → x ≡ y
    go true s true u = omega (arith, squeeze_low t x (ltb-true x t s), squeeze_low t y (ltb-true y t u))
    go true s false u =
        let l = ltb-false y t u in
        omega (arith, ltb-true x t s, squeeze_low t x (ltb-true x t s), squeeze_high t y (omega arith))
    go false s true u =
        let l = ltb-false x t s in
        omega (arith, ltb-true y t u, squeeze_low t y (ltb-true y t u), squeeze_high t x (omega arith))
    go false s false u =
        let l = ltb-false x t s in
        let r = ltb-false y t u in
        omega (arith, squeeze_high t x (omega arith), squeeze_high t y (omega arith))

-- below c + 1 and not t: squeezed below c
squeeze_below : (c t x : ℕ) → t < suc c → x < suc c → ¬ (x ≡ t) → squeezed t x < c
squeeze_below c t x h l n = go (ltb x t) refl
  where
    go : (b : Bool) → ltb x t ≡ b → squeezed t x < c
    go true s = omega (arith, ltb-true x t s, squeeze_low t x (ltb-true x t s))
    go false s = let g = ltb-false x t s in omega (arith, squeeze_high t x (omega arith))

-- a map of the numbers below c into themselves that takes no value twice takes each
pub onto :
    (c : ℕ) (f : ℕ → ℕ) → ((i : ℕ) → i < c → f i < c) → ((i j : ℕ) → i < c → j < c → f i ≡ f j → i ≡ j) →
    (k : ℕ) → k < c → (i : ℕ) × (i < c) × (f i ≡ k)
onto zero f into once k h = absurd (not-suc-le-zero h)
onto (suc c) f into once k h = go (eqb k (f c)) refl (onto c g g_into g_once (squeezed (f c) k))
  where
    g : ℕ → ℕ
    g i = squeezed (f c) (f i)

    other : (i : ℕ) → i < c → ¬ (f i ≡ f c)
    other i l e = let z = once i c (omega arith) (omega arith) e in omega arith

    g_into : (i : ℕ) → i < c → g i < c
    g_into i l = squeeze_below c (f c) (f i) (into c (omega arith)) (into i (omega arith)) (other i l)

    g_once : (i j : ℕ) → i < c → j < c → g i ≡ g j → i ≡ j
    g_once i j l m e =
        once i j (omega arith) (omega arith) (squeeze_once (f c) (f i) (f j) (other i l) (other j m) e)

    go :
        (b : Bool) → eqb k (f c) ≡ b → (squeezed (f c) k < c → (i : ℕ) × (i < c) × (g i ≡ squeezed (f c) k)) →
        (i : ℕ) × (i < suc c) × (f i ≡ k)
    go true t ih = (c, omega arith, sym (eqb-true k (f c) t))
    go false t ih =
        let n = eqb-false k (f c) t in
        let r = ih (squeeze_below c (f c) k (into c (omega arith)) h n) in
        (r.0, omega (arith, r.1), squeeze_once (f c) (f r.0) k (other r.0 r.1) n r.2)

-- a map of the numbers below c into themselves that rises is the identity
module _ (c : ℕ) (f : ℕ → ℕ) (rises : (k l : ℕ) → k < l → l < c → f k < f l)
    (into : (k : ℕ) → k < c → f k < c) where
  at_least : (k : ℕ) → k < c → k ≤ f k
  at_least zero h = zero-le
  at_least (suc k) h = omega (arith, at_least k (omega arith), rises k (suc k) (omega arith) h)

  climbs : (k m : ℕ) → k + m < c → f k + m ≤ f (k + m)
  climbs k zero h = let e : k + 0 ≡ k = omega arith in rw e (omega arith)
  climbs k (suc m) h = omega (arith, climbs k m (omega arith), rises (k + m) (k + suc m) (omega arith) h)

  climbing : (k : ℕ) → k < c → f k ≡ k
  climbing k h =
      omega (arith, at_least k h, climbs k (c - 1 - k) (omega arith), into (k + (c - 1 - k)) (omega arith))

-- ---- the places

module _ (c : ℕ) (before : ℕ → ℕ → Bool) (o : Orders c before) where
  -- what comes before has the lower place
  pub place-lt : (i j : ℕ) → i < c → j < c → before i j ≡ true → new_place c before i < new_place c before j
  unfolding new_place
  place-lt i j h l e =
      count-lt (λ x. before x i) (λ x. before x j) c i h (o.irreflexive i h) e
      (λ x b t. o.transitive x i j b h l t e)

  pub place-below : (i : ℕ) → i < c → new_place c before i < c
  unfolding new_place
  place-below i h =
      omega
      (arith, count-all c, count-lt (λ x. before x i) (λ x. true) c i h (o.irreflexive i h) refl (λ x b t. refl))

  -- no two have one place
  pub place-once : (i j : ℕ) → i < c → j < c → new_place c before i ≡ new_place c before j → i ≡ j
  place-once i j h l e = go (eqb i j) refl (before i j) refl
    where
      go : (a : Bool) → eqb i j ≡ a → (b : Bool) → before i j ≡ b → i ≡ j
      go true s b t = eqb-true i j s
      go false s true t = omega (arith, place-lt i j h l t)
      go false s false t = omega (arith, place-lt j i l h (o.total i j h l (eqb-false i j s) t))

  -- each place is taken
  pub place-taken : (k : ℕ) → k < c → (i : ℕ) × (i < c) × (new_place c before i ≡ k)
  place-taken = onto c (new_place c before) place-below place-once

  -- ---- the positions written at their places, into any list that is long enough

  pub at_place :
      (l : List ℕ) → c ≤ length l → (i : ℕ) → i < c →
      get_or (writes (new_place c before) (λ i. i) c l) (new_place c before i) 0 ≡ i
  at_place l fits i h =
      written (new_place c before) (λ i. i) 0 l c i h (λ j b. let p = place-below j b in omega arith) place-once

  length-order : length (order c before) ≡ c
  unfolding order
  length-order = length-writes (new_place c before) (λ i. i) c (replicate c 0) ∙ length-replicate c 0

  -- the order lists i at its place
  pub order-place : (i : ℕ) → i < c → get_or (order c before) (new_place c before i) 0 ≡ i
  unfolding order
  order-place i h = at_place (replicate c 0) (omega (arith, length-replicate {A = ℕ} c 0)) i h

  -- and the place of what is listed at k is k
  pub place-order : (k : ℕ) → k < c → new_place c before (get_or (order c before) k 0) ≡ k
  place-order k h =
      let r = place-taken k h in
      rw (← r.2) (ap (new_place c before) (order-place r.0 r.1))

  -- the first c entries of what is so written into a longer list are the order
  pub order-in : (l : List ℕ) → c ≤ length l → take c (writes (new_place c before) (λ i. i) c l) ≡ order c before
  order-in l fits = ext_get_or 0 _ _ (long ∙ sym length-order) (λ k h. same k (rw long at h))
    where
      long : length (take c (writes (new_place c before) (λ i. i) c l)) ≡ c
      long = length-take-le c _ (omega (arith, length-writes (new_place c before) (λ i. i) c l))

      same :
          (k : ℕ) → k < c →
          get_or (take c (writes (new_place c before) (λ i. i) c l)) k 0 ≡ get_or (order c before) k 0
      same k h =
          let r = place-taken k h in
          get_or-take c _ k 0 h
          ∙ ap (λ (x : ℕ). get_or (writes (new_place c before) (λ i. i) c l) x 0) (sym r.2)
          ∙ at_place l fits r.0 r.1
          ∙ sym (order-place r.0 r.1)
          ∙ ap (λ (x : ℕ). get_or (order c before) x 0) r.2

  -- ---- the laws of the order

  listed : (k : ℕ) → k < c → get_or (order c before) k 0 < c
  listed k h =
      let r = place-taken k h in
      rw (← r.2, order-place r.0 r.1) r.1

  apart : (k l : ℕ) → k < c → l < c → get_or (order c before) k 0 ≡ get_or (order c before) l 0 → k ≡ l
  apart k l h g e = sym (place-order k h) ∙ ap (new_place c before) e ∙ place-order l g

  pub in_order : InOrder c before (order c before)
  in_order =
      record {
        long = length-order;
        within = listed;
        once = apart;
        each = λ i h. (new_place c before i, place-below i h, order-place i h);
        sorted = λ k l h g. go k l h g (before (get_or (order c before) k 0) (get_or (order c before) l 0)) refl;
      }
    where
      go :
          (k l : ℕ) → k < l → l < c →
          (b : Bool) → before (get_or (order c before) k 0) (get_or (order c before) l 0) ≡ b →
          before (get_or (order c before) k 0) (get_or (order c before) l 0) ≡ true
      go k l h g true t = t
      go k l h g false t =
          let kc : k < c = omega arith in
          let back = o.total _ _ (listed k kc) (listed l g) (λ e. omega (arith, apart k l kc g e)) t in
          absurd (omega (arith, place-lt _ _ (listed l g) (listed k kc) back, place-order k kc, place-order l g))

  -- the place of what stands at k is k, in any list that is in order
  pub in_place : (q : List ℕ) → InOrder c before q → (k : ℕ) → k < c → new_place c before (get_or q k 0) ≡ k
  in_place q a =
      climbing c (λ k. new_place c before (get_or q k 0))
      (λ k l h g. place-lt _ _ (a.within k (omega arith)) (a.within l g) (a.sorted k l h g))
      (λ k h. place-below _ (a.within k h))

  -- no other list is in order
  pub order-unique : (q : List ℕ) → InOrder c before q → q ≡ order c before
  order-unique q a = ext_get_or 0 _ _ (a.long ∙ sym length-order) (λ k h. same k (rw a.long at h))
    where
      same : (k : ℕ) → k < c → get_or q k 0 ≡ get_or (order c before) k 0
      same k h =
          sym (order-place _ (a.within k h)) ∙ ap (λ (x : ℕ). get_or (order c before) x 0) (in_place q a k h)
