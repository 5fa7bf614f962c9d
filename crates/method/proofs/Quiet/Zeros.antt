-- Zeros, of either sign, stay among themselves: in sums and differences of their own, in products with any finite
-- float, in halves, roots and magnitudes; so the shift of four zeros is a zero. A list whose first n entries are zeros
-- keeps them where zeros are written into it and where two of them are turned by a right angle, and the reflection of a
-- line of zeros has tau 0, at every floor above zero. Assumes nothing.
use Rattle.std.specs.Prelude.{◌≡◌, Bool, not, ◌&&◌, cond, List, [], ◌∷◌, T, pos, get_or, set, Float}
use Rattle.std.proofs.Math.Path.{refl}
use Rattle.std.proofs.Common.{sym, ap, subst, ◌∙◌, ⊎_elim, mul-zero, zero-add, mul-pos, zero-lt-suc, arith, pow_pos, eqb-true, eq-eqb, le-ltb}
use Rattle.std.proofs.Math.Bool.{true, false, false≢true}
use Rattle.std.specs.Bool.{beq}
use Prim.Native.Nat.{ℕ, zero, suc, ◌+◌, ◌-◌, ◌*◌, ◌^◌, ◌<◌}
use Rattle.std.proofs.Math.Nat.{zero-mul}
use Rattle.std.proofs.Math.Dec.{ltb}
use Rattle.std.proofs.lemmas.List.{get_or-replicate}
use Rattle.std.specs.Float.Ieee.{nan, prec, emax, low, unlike, up, down, round, neg, sum, add, sub, mul, div, lt, is_nan, eq}
use Rattle.std.specs.Float.{inf, fin, Format}
use Rattle.std.specs.Float.Ieee.Exact.{HasValue, round_exact}
use Rattle.std.specs.Float.Ieee.Fits.{up_pos, down_pos}
use Rattle.std.specs.Float.Ieee.Scale.{finite}
use Rattle.method.specs.Floats.{plus_zero, one, two, pick, magnitude, sign_of, smaller, larger, is_zero}
use Rattle.method.proofs.Floats.Laws.{smaller-least, larger-either}
use Rattle.method.proofs.Floats.Zero.{eq_zero, zero_below}
use Rattle.method.specs.Root.{square_root}
use Rattle.method.specs.Rows.Zeros.{Nought}
use Rattle.method.proofs.Rows.Zeros.{round_nought}
use Rattle.method.proofs.Repeated.{repeated-within}
use Rattle.method.specs.Rotation.{pair_turned}
use Rattle.method.specs.Reflection.{blank, line_copied, line_cleared, largest_of, reflection_of}
use Rattle.method.proofs.Reflection.{reflection-small}
use Rattle.method.specs.Chase.{singular}
use Rattle.method.specs.Settings.{most_size}
use Rattle.method.specs.Quiet.Zeros.{Null, Zeros, quarter}

-- ---- a zero, by cases

pub null : (x : Float) → is_zero x ≡ true → Null x
unfolding Null is_zero
null nan z = false≢true z
null (inf s) z = false≢true z
null (fin s m e) z = eqb-true m 0 z

pub null_is : (x : Float) → Null x → is_zero x ≡ true
unfolding Null is_zero
null_is (fin s m e) z = eq-eqb m 0 z
null_is nan z = elim z [ ]
null_is (inf _) z = elim z [ ]

pub null_finite : (x : Float) → Null x → finite x ≡ true
unfolding Null
null_finite (fin s m e) z = refl
null_finite nan z = elim z [ ]
null_finite (inf _) z = elim z [ ]

pub plus_null : Null plus_zero
unfolding Null
plus_null = refl

pub null_number : (x : Float) → Null x → T (not (is_nan x))
unfolding Null is_nan
null_number (fin s m e) z = tt
null_number nan z = elim z [ ]
null_number (inf _) z = elim z [ ]

-- ---- sums, products, halves and roots

round_null : (f : Format) (s : Bool) (num den : ℕ) → 0 < den → num ≡ 0 → Null (round f s num den)
unfolding Null
round_null f s num den h z =
    of_value (round f s num den) (round_nought f s num den h z)
    (round_exact f s num den 0 0 h (pow_pos (prec f)) (pow_pos (low f + suc (emax f)))
    (ap (λ (n : ℕ). n * 2 ^ low f) z ∙ zero-mul (2 ^ low f) ∙ sym (zero-mul den)))
  where
    of_value : (x : Float) → Nought x → HasValue x s num den → Null x
    of_value (fin t m e) n v = n
    of_value nan n v = elim v [ ]
    of_value (inf _) n v = elim n [ ]

module _ (f : Format) where
  sum_null : (s t : Bool) (a b c : ℕ) → 0 < c → a ≡ 0 → b ≡ 0 → Null (sum f s a t b c)
  unfolding sum
  sum_null s t a b c h p q = go (beq s t) (ltb a b)
    where
      go :
          (same less : Bool) →
          Null (cond same (round f s (a + b) c) (cond less (round f t (b - a) c) (round f (s && ltb b a) (a - b) c)))
      go true less = round_null f s (a + b) c h (omega arith)
      go false true = round_null f t (b - a) c h (omega arith)
      go false false = round_null f (s && ltb b a) (a - b) c h (omega arith)

  pub add_null : (x y : Float) → Null x → Null y → Null (add f x y)
  unfolding Null add
  add_null (fin s m e) (fin t n d) z w =
      sum_null s t _ _ _ (mul-pos (down_pos e) (down_pos d)) (rw (z, zero-mul, zero-mul) refl)
      (rw (w, zero-mul, zero-mul) refl)
  add_null nan y z w = elim z [ ]
  add_null (inf _) y z w = elim z [ ]
  add_null (fin s m e) nan z w = elim w [ ]
  add_null (fin s m e) (inf _) z w = elim w [ ]

  pub sub_null : (x y : Float) → Null x → Null y → Null (sub f x y)
  unfolding Null sub neg
  sub_null x (fin t n d) z w = add_null x (fin (not t) n d) z w
  sub_null x nan z w = elim w [ ]
  sub_null x (inf _) z w = elim w [ ]

  pub mul_left : (x y : Float) → Null x → finite y ≡ true → Null (mul f x y)
  unfolding Null mul
  mul_left (fin s m e) nan z h = false≢true h
  mul_left (fin s m e) (inf t) z h = absurd (false≢true h)
  mul_left (fin s m e) (fin t n d) z h =
      round_null f (unlike s t) _ _ (mul-pos (down_pos e) (down_pos d)) (rw (z, zero-mul, zero-mul) refl)
  mul_left nan y z h = elim z [ ]
  mul_left (inf _) y z h = elim z [ ]

  pub mul_right : (x y : Float) → finite x ≡ true → Null y → Null (mul f x y)
  unfolding Null mul
  mul_right nan y h z = false≢true h
  mul_right (inf s) y h z = absurd (false≢true h)
  mul_right (fin s m e) (fin t n d) h z =
      round_null f (unlike s t) _ _ (mul-pos (down_pos e) (down_pos d)) (rw (z, zero-mul, mul-zero) refl)
  mul_right (fin s m e) nan h z = elim z [ ]
  mul_right (fin s m e) (inf _) h z = elim z [ ]

  pub mul_null : (x y : Float) → Null x → Null y → Null (mul f x y)
  mul_null x y z w = mul_left x y z (null_finite y w)

  half_null : (x : Float) → Null x → Null (div f x two)
  unfolding Null div
  half_null (fin s m e) z =
      round_null f (unlike s false) _ _ (mul-pos (mul-pos (zero-lt-suc 0) (up_pos (pos 1))) (down_pos e))
      (rw (z, zero-mul, zero-mul) refl)
  half_null nan z = elim z [ ]
  half_null (inf _) z = elim z [ ]

  root_null : (x : Float) → Null x → Null (square_root f x)
  unfolding Null square_root
  root_null (fin s zero e) z = refl
  root_null (fin s (suc m) e) z = absurd (omega arith)
  root_null nan z = elim z [ ]
  root_null (inf _) z = elim z [ ]

-- ---- the helpers

pub magnitude-null : (x : Float) → Null x → Null (magnitude x)
unfolding Null magnitude
magnitude-null (fin s m e) z = z
magnitude-null nan z = elim z [ ]
magnitude-null (inf _) z = elim z [ ]

sign_finite : (x : Float) → Null x → finite (sign_of x) ≡ true
unfolding Null sign_of
sign_finite (fin s m e) z = refl
sign_finite nan z = elim z [ ]
sign_finite (inf _) z = elim z [ ]

larger-null : (x y : Float) → Null x → Null y → Null (larger x y)
larger-null x y z w = ⊎_elim (λ e. rw e z) (λ e. rw e w) (larger-either x y)

-- a zero of either sign is below what +0 is below
lt_null : (x y : Float) → Null x → lt x y ≡ lt plus_zero y
unfolding Null lt magnitude is_zero
lt_null (fin s m e) nan z = refl
lt_null (fin s m e) (inf t) z = refl
lt_null (fin false m e) (fin t n d) z = zero_below (fin false m e) (fin t n d) (eq-eqb m 0 z)
lt_null (fin true m e) (fin true n d) z =
    le-ltb (n * up d * down e) (m * up e * down d) (rw (z, zero-mul, zero-mul) (omega arith))
lt_null (fin true m e) (fin false n d) z =
    rw (z, zero-mul (up e), zero-mul (down d), zero-add)
    (rw (zero-mul (up e), zero-mul (down d)) at (zero_below (fin false 0 e) (fin false n d) refl))
lt_null nan y z = elim z [ ]
lt_null (inf _) y z = elim z [ ]

-- the smaller of a zero and another is not above zero
pub smaller-null : (x y : Float) → Null x → lt plus_zero (smaller x y) ≡ false
smaller-null x y z = sym (lt_null x (smaller x y) z) ∙ (smaller-least x y (null_number x z)).0

-- ---- the shift

pub singular-null : (f : Format) (a b c d : Float) → Null a → Null b → Null c → Null d → Null (singular f a b c d)
unfolding singular
singular-null f a b c d za zb zc zd =
    let squares = add_null f _ _ (mul_null f _ _ gap gap) (mul_null f _ _ off off) in
    sub_null f _ _ (add_null f _ _ last gap)
    (mul_right f _ _ (sign_finite _ gap) (root_null f _ (larger-null _ plus_zero squares plus_null)))
  where
    off : Null (add f (mul f a b) (mul f c d))
    off = add_null f _ _ (mul_null f a b za zb) (mul_null f c d zc zd)

    last : Null (add f (mul f b b) (mul f d d))
    last = add_null f _ _ (mul_null f b b zb zb) (mul_null f d d zd zd)

    gap : Null (div f (sub f (add f (mul f a a) (mul f c c)) (add f (mul f b b) (mul f d d))) two)
    gap = half_null f _ (sub_null f _ _ (add_null f _ _ (mul_null f a a za za) (mul_null f c c zc zc)) last)

-- ---- lists

pub set_zeros : (n : ℕ) (a : List Float) (x : ℕ) (v : Float) → Zeros n a → Null v → Zeros n (set a x v)
set_zeros n [] x v h z k l = h k l
set_zeros n (y ∷ ys) zero v h z zero l = z
set_zeros n (y ∷ ys) zero v h z (suc k) l = h (suc k) l
set_zeros n (y ∷ ys) (suc x) v h z zero l = h 0 l
set_zeros n (y ∷ ys) (suc x) v h z (suc k) l =
    set_zeros (n - 1) ys x v (λ k l. h (suc k) (omega arith)) z k (omega arith)

pub pair_zeros :
    (f : Format) (n : ℕ) (b : Float) (p q : ℕ) (a : List Float) → p < n → q < n → Zeros n a →
    Zeros n (pair_turned f (quarter b) p q a)
unfolding pair_turned neg
pair_zeros f n b p q a h g z =
    set_zeros n (set a p _) q _
    (set_zeros n a p _ z (add_null f _ _ (mul_right f plus_zero _ refl (z p h)) (mul_right f one _ refl (z q g))))
    (add_null f _ _ (mul_right f (neg one) _ refl (z p h)) (mul_right f plus_zero _ refl (z q g)))

-- ---- lines

pub cleared_zeros : (n at step m : ℕ) (a : List Float) → Zeros n a → Zeros n (line_cleared at step m a)
unfolding line_cleared
cleared_zeros n at step m a z =
    repeated-within (Zeros n) 0 m _ (λ k s lo hi q. set_zeros n s (at + k * step) plus_zero q plus_null) a z

blank-zeros : Zeros most_size blank
blank-zeros k l = subst Null (sym (get_or-replicate most_size k plus_zero nan l)) plus_null

-- a line of zeros copied
pub copied_zeros :
    (at step m : ℕ) (a : List Float) → ((k : ℕ) → k < m → Null (get_or a (at + k * step) nan)) →
    Zeros most_size (line_copied at step m a)
unfolding line_copied
copied_zeros at step m a z =
    repeated-within (Zeros most_size) 0 m _ (λ k s lo hi q. set_zeros most_size s k _ q (z k hi)) blank blank-zeros

module _ (f : Format) (floor : Float) (above : lt plus_zero floor ≡ true) (v : List Float) (at m : ℕ)
    (z : (k : ℕ) → k < m → Null (get_or v (at + k) nan)) where
  -- the largest magnitude of zeros is below the floor
  largest_below : lt (largest_of v at m) floor ≡ true
  unfolding largest_of
  largest_below =
      repeated-within (λ x. lt x floor ≡ true) 0 m _
      (λ k x lo hi q.
      choose (lt x _) x (magnitude (get_or v (at + k) nan))
      (zero_below (get_or v (at + k) nan) floor (null_is _ (z k hi)) ∙ above) q)
      plus_zero
      above
    where
      choose : (t : Bool) (x y : Float) → lt y floor ≡ true → lt x floor ≡ true → lt (pick t y x) floor ≡ true
      choose true x y p q = p
      choose false x y p q = q

  -- so their reflection leaves them as they are
  pub reflection-zeros : record { entries = v; vector = set blank 0 one; tau = plus_zero } ≡ reflection_of f floor at m v
  reflection-zeros = reflection-small f floor at m v largest_below

-- the test that its tau is 0
pub no_tau : eq plus_zero plus_zero ≡ true
unfolding is_zero
no_tau = eq_zero plus_zero
