-- The order of a diagonal by `ahead`: that it is an order where the entries are finite, what it then says of the
-- magnitudes (`LargestFirst`), and that no other list says so. Assumes nothing.
use Rattle.std.specs.Prelude.{◌≡◌, refl, Bool, true, false, ◌&&◌, ◌||◌, List, ℕ, suc, ◌*◌, ◌<◌, ◌≤◌, eqb, ℤ, pos, negsuc, Float}
use Rattle.std.proofs.Common.{sym, ◌∙◌, true≢false, mul-le-mul_right, le_of_mul-le-mul_right, le_of_eq, le_antisymm, arith, pow_pos}
use Rattle.std.proofs.Math.Path.{ap}
use Rattle.std.proofs.lemmas.Bool.{false≢true}
use Rattle.std.proofs.Math.Dec.{ltb}
use Rattle.std.specs.Float.{nan, inf, fin}
use Rattle.std.specs.Float.Ieee.{up, down, lt, eq}
use Rattle.std.specs.Float.Ieee.Scale.{finite}
use borrow.Author.Tests.{eqb-true, eqb-false, ltb-true, ltb-false, lt-ltb, le-ltb, eq-eqb}
use Rattle.method.specs.Floats.{magnitude}
use Rattle.method.specs.Order.{ahead, old_positions}
use Rattle.method.specs.Order.Places.{Orders, InOrder}
use Rattle.method.proofs.Order.Places.{in_order, order-unique}
use Rattle.method.specs.Order.Sizes.{Finite, LargestFirst}

-- ---- magnitudes of finite floats compare as fractions

-- |x| and |y| over one denominator: the numerator of |x|
weigh : Float → Float → ℕ
weigh nan y = 0
weigh (inf s) y = 0
weigh (fin s m e) nan = 0
weigh (fin s m e) (inf t) = 0
weigh (fin s m e) (fin t n d) = m * up e * down d

lt_weigh :
    (x y : Float) → finite x ≡ true → finite y ≡ true → lt (magnitude x) (magnitude y) ≡ ltb (weigh x y) (weigh y x)
unfolding weigh lt magnitude
lt_weigh nan y p r = absurd (false≢true p)
lt_weigh (inf s) y p r = absurd (false≢true p)
lt_weigh (fin s m e) nan p r = absurd (false≢true r)
lt_weigh (fin s m e) (inf t) p r = absurd (false≢true r)
lt_weigh (fin s m e) (fin t n d) p r = refl

and_true : (b : Bool) → (b && true) ≡ b
and_true true = refl
and_true false = refl

eq_weigh :
    (x y : Float) → finite x ≡ true → finite y ≡ true → eq (magnitude x) (magnitude y) ≡ eqb (weigh x y) (weigh y x)
unfolding weigh eq magnitude
eq_weigh nan y p r = absurd (false≢true p)
eq_weigh (inf s) y p r = absurd (false≢true p)
eq_weigh (fin s m e) nan p r = absurd (false≢true r)
eq_weigh (fin s m e) (inf t) p r = absurd (false≢true r)
eq_weigh (fin s m e) (fin t n d) p r = and_true _

down_pos : (e : ℤ) → 0 < down e
down_pos (pos k) = omega arith
down_pos (negsuc k) = pow_pos (suc k)

fraction : (a A b B c C : ℕ) → 0 < B → a * B ≤ b * A → b * C ≤ c * B → a * C ≤ c * A
fraction a A b B c C p h g =
    le_of_mul-le-mul_right {k = B} (omega (arith, mul-le-mul_right C h, mul-le-mul_right A g)) p

weigh_trans :
    (x y z : Float) → finite x ≡ true → finite y ≡ true → finite z ≡ true →
    weigh x y ≤ weigh y x → weigh y z ≤ weigh z y → weigh x z ≤ weigh z x
unfolding weigh
weigh_trans nan y z p r t h g = absurd (false≢true p)
weigh_trans (inf s) y z p r t h g = absurd (false≢true p)
weigh_trans (fin s m e) nan z p r t h g = absurd (false≢true r)
weigh_trans (fin s m e) (inf s') z p r t h g = absurd (false≢true r)
weigh_trans (fin s m e) (fin s' n d) nan p r t h g = absurd (false≢true t)
weigh_trans (fin s m e) (fin s' n d) (inf s'') p r t h g = absurd (false≢true t)
weigh_trans (fin s m e) (fin s' n d) (fin s'' k a) p r t h g =
    fraction (m * up e) (down e) (n * up d) (down d) (k * up a) (down a) (down_pos d) h g

-- ---- the test in numbers: w over v, or level and i < j

test : ℕ → ℕ → ℕ → ℕ → Bool
test v w i j = ltb v w || (eqb w v && ltb i j)

test_true : (v w i j : ℕ) → test v w i j ≡ true → (v ≤ w) × (w ≤ v → i < j)
unfolding test
test_true v w i j = go (ltb v w) refl (eqb w v) refl
  where
    go :
        (a : Bool) → ltb v w ≡ a → (b : Bool) → eqb w v ≡ b →
        (a || (b && ltb i j)) ≡ true → (v ≤ w) × (w ≤ v → i < j)
    go true s b t e = (omega (arith, ltb-true v w s), λ h. absurd (omega (arith, ltb-true v w s)))
    go false s true t e = (omega (arith, eqb-true w v t), λ h. ltb-true i j e)
    go false s false t e = absurd (false≢true e)

true_test : (v w i j : ℕ) → v ≤ w → (w ≤ v → i < j) → test v w i j ≡ true
unfolding test
true_test v w i j h g = go (ltb v w) refl
  where
    go : (a : Bool) → ltb v w ≡ a → (a || (eqb w v && ltb i j)) ≡ true
    go true s = refl
    go false s =
        let l = ltb-false v w s in
        rw (eq-eqb w v (let e : w ≡ v = omega arith in e), lt-ltb i j (g l)) refl

-- the test says no
test_false : (v w i j : ℕ) → test v w i j ≡ false → (w ≤ v) × (v ≤ w → j ≤ i)
unfolding test
test_false v w i j = go (ltb v w) refl (eqb w v) refl
  where
    go :
        (a : Bool) → ltb v w ≡ a → (b : Bool) → eqb w v ≡ b →
        (a || (b && ltb i j)) ≡ false → (w ≤ v) × (v ≤ w → j ≤ i)
    go true s b t e = absurd (true≢false e)
    go false s true t e = (ltb-false v w s, λ h. ltb-false i j e)
    go false s false t e =
        (ltb-false v w s, λ h. absurd (eqb-false w v t (let l = ltb-false v w s in omega arith)))

module _ (c : ℕ) (d : ℕ → Float) (fine : Finite c d) where
  w : ℕ → ℕ → ℕ
  w i j = weigh (d i) (d j)

  ahead-test : (i j : ℕ) → i < c → j < c → ahead d i j ≡ test (w j i) (w i j) i j
  unfolding ahead test w
  ahead-test i j h g =
      let level = eq (magnitude (d i)) (magnitude (d j)) in
      ap (λ (t : Bool). t || (level && ltb i j)) (lt_weigh (d j) (d i) (fine j g) (fine i h))
      ∙ ap (λ (t : Bool). ltb (w j i) (w i j) || (t && ltb i j)) (eq_weigh (d i) (d j) (fine i h) (fine j g))

  trans : (i j k : ℕ) → i < c → j < c → k < c → w i j ≤ w j i → w j k ≤ w k j → w i k ≤ w k i
  unfolding w
  trans i j k h g l = weigh_trans (d i) (d j) (d k) (fine i h) (fine j g) (fine k l)

  -- the test orders the positions
  pub ahead-orders : Orders c (ahead d)
  ahead-orders = record { irreflexive = irr; transitive = tra; total = tot }
    where
      irr : (i : ℕ) → i < c → ahead d i i ≡ false
      irr i h = go (ahead d i i) refl
        where
          go : (b : Bool) → ahead d i i ≡ b → ahead d i i ≡ false
          go true t = absurd (omega (arith, (test_true _ _ i i (sym (ahead-test i i h h) ∙ t)).1 (omega arith)))
          go false t = t

      tra :
          (i j k : ℕ) → i < c → j < c → k < c → ahead d i j ≡ true → ahead d j k ≡ true → ahead d i k ≡ true
      tra i j k h g l s t =
          let a = test_true _ _ i j (sym (ahead-test i j h g) ∙ s) in
          let b = test_true _ _ j k (sym (ahead-test j k g l) ∙ t) in
          ahead-test i k h l
          ∙ true_test _ _ i k (trans k j i l g h b.0 a.0)
          (λ x.
          let p = a.1 (trans i k j h l g x b.0) in
          let q = b.1 (trans j i k g h l a.0 x) in
          omega arith)

      tot : (i j : ℕ) → i < c → j < c → ¬ (i ≡ j) → ahead d i j ≡ false → ahead d j i ≡ true
      tot i j h g n s =
          let a = test_false _ _ i j (sym (ahead-test i j h g) ∙ s) in
          ahead-test j i g h ∙ true_test _ _ j i a.0 (λ x. let p = a.1 x in omega arith)

  -- being in order by the test is being largest first
  pub largest_first : (q : List ℕ) → InOrder c (ahead d) q → LargestFirst c d q
  unfolding w
  largest_first q a =
      record {
        long = a.long;
        within = a.within;
        once = a.once;
        each = a.each;
        descending = λ k l h g.
            let k' = a.within k (omega arith) in
            let l' = a.within l g in
            let t = test_true _ _ _ _ (sym (ahead-test _ _ k' l') ∙ a.sorted k l h g) in
            lt_weigh _ _ (fine _ k') (fine _ l') ∙ le-ltb _ _ t.0;
        stable = λ k l h g e.
            let k' = a.within k (omega arith) in
            let l' = a.within l g in
            let t = test_true _ _ _ _ (sym (ahead-test _ _ k' l') ∙ a.sorted k l h g) in
            t.1 (le_of_eq (eqb-true _ _ (sym (eq_weigh _ _ (fine _ k') (fine _ l')) ∙ e)));
      }

  pub first-in_order : (q : List ℕ) → LargestFirst c d q → InOrder c (ahead d) q
  unfolding w
  first-in_order q a =
      record {
        long = a.long;
        within = a.within;
        once = a.once;
        each = a.each;
        sorted = λ k l h g.
            let k' = a.within k (omega arith) in
            let l' = a.within l g in
            let v = ltb-false _ _ (sym (lt_weigh _ _ (fine _ k') (fine _ l')) ∙ a.descending k l h g) in
            ahead-test _ _ k' l'
            ∙ true_test _ _ _ _ v
            (λ x. a.stable k l h g (eq_weigh _ _ (fine _ k') (fine _ l') ∙ eq-eqb _ _ (le_antisymm x v)));
      }

  -- ---- the two theorems: the defined list is so, and no other is

  pub positions_first : LargestFirst c d (old_positions c d)
  positions_first = largest_first _ (in_order c (ahead d) ahead-orders)

  pub positions_unique : (q : List ℕ) → LargestFirst c d q → q ≡ old_positions c d
  positions_unique q a = order-unique c (ahead d) ahead-orders q (first-in_order q a)
