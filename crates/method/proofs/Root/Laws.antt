-- What is proved of `square_root`, in either format: it is nearest, nothing else is, and no tie occurs. Assumes nothing.
use Rattle.std.specs.Prelude.{◌≡◌, refl, ◌⊎◌, ℕ, zero, suc, ◌+◌, ◌-◌, ◌*◌, ◌/◌, ◌^◌, ◌≤◌, ◌<◌, true, false, T, Float}
use Rattle.std.proofs.Common.{sym, ap, ◌∙◌, subst, inl, inr, le_refl, add-le-add, le_trans, le_of_eq, lt_of_lt_of_le, lt_of_le_of_lt, lt_irrefl, lt_trans, one-mul, mul_assoc, mul-pos, mul-le-mul_right, mul-lt-mul_of_pos_right, arith, lit≤, pow_pos, pow_mono, pow-add}
use Rattle.std.proofs.Math.Pow.{pow-lt}
use Rattle.std.specs.Float.{nan, inf, fin, Format, binary32, binary64}
use Rattle.std.specs.Float.Ieee.{prec, emax, low, size, odd, fits}
use Rattle.std.specs.Float.Ieee.Digits.{size-lt, size-le, size_reaches}
use Rattle.std.specs.Float.Ieee.Fits.{two, odd-fits}
use Rattle.std.specs.Float.Ieee.Exact.{HasValue, odd_sign}
use Rattle.std.specs.Float.Ieee.Scale.{finite}
use Rattle.std.specs.Float.Ieee.Positive.{positive, positive-finite, positive_of_value}
use Rattle.method.specs.Root.{count, square, dropped, leading, rooted, square_root, Nearest}
use Rattle.method.proofs.Root.Whole.{sq_le}
use Rattle.method.specs.Root.Grid.{Rounded}
use Rattle.method.proofs.Root.Grid.{rounded-is, near_lower, near_upper, less_or_not, neither}
use Rattle.method.specs.Root.Counts.{Shape}
use Rattle.method.proofs.Root.Counts.{count-is, shape, count-pos, count-unique}

rooted-is : (f : Format) (n : ℕ) → rooted f n ≡ odd (suc (prec f)) false (leading f n) (dropped f n) (low f)
unfolding rooted
rooted-is f n = refl

-- twice the precision is within what the smallest value's exponent has
pub wide : (f : Format) → 2 * prec f ≤ suc (low f)
wide binary32 = lit≤ tt
wide binary64 = lit≤ tt

short : (f : Format) → suc (low f) ≤ low f + emax f
short binary32 = lit≤ tt
short binary64 = lit≤ tt

pub size_gt : (n j : ℕ) → 2 ^ j ≤ n → j < size n
size_gt n j h =
    elim (less_or_not j (size n))
    [ inl l ↦ l | inr l ↦ absurd (lt_irrefl n (lt_of_lt_of_le (size-lt n) (le_trans (pow_mono l) h))) ]

sq_pow : (a k : ℕ) → 2 ^ a * 2 ^ k * (2 ^ a * 2 ^ k) ≡ 2 ^ (a + k + (a + k))
sq_pow a k = ap (λ (z : ℕ). z * z) (sym (pow-add 2 a k)) ∙ sym (pow-add 2 (a + k) (a + k))

module _ (f : Format) (n m a : ℕ) (least : 2 ^ low f ≤ n) (small : m < 2 ^ prec f) (is : n ≡ m * 2 ^ a) where
  long : low f < size n
  long = size_gt n (low f) least

  lo : 2 ^ (prec f - 1) * 2 ^ dropped f n * (2 ^ (prec f - 1) * 2 ^ dropped f n) ≤ n
  lo =
      le_trans (le_of_eq (sq_pow (prec f - 1) (dropped f n)))
      (size_reaches n (prec f - 1 + dropped f n + (prec f - 1 + dropped f n))
      (go (size n) (prec f) (low f) (two f) (wide f) long))
    where
      go : (z p l : ℕ) → 2 ≤ p → 2 * p ≤ suc l → l < z → p - 1 + ((z + 1) / 2 - p) + (p - 1 + ((z + 1) / 2 - p)) < z
      go z p l x y h = omega arith

  hi : n < 2 ^ prec f * 2 ^ dropped f n * (2 ^ prec f * 2 ^ dropped f n)
  hi =
      lt_of_lt_of_le (size-lt n)
      (le_trans (pow_mono (go (size n) (prec f))) (le_of_eq (sym (sq_pow (prec f) (dropped f n)))))
    where
      go : (z p : ℕ) → z ≤ p + ((z + 1) / 2 - p) + (p + ((z + 1) / 2 - p))
      go z p = omega arith

  rounding : Rounded (prec f) (dropped f n) n (leading f n)
  rounding = rounded-is (prec f) (dropped f n) n m a (two f) lo hi small is

  value : HasValue (rooted f n) false (leading f n * 2 ^ dropped f n) (2 ^ low f)
  value =
      subst (λ (x : Float). HasValue x false (leading f n * 2 ^ dropped f n) (2 ^ low f)) (sym (rooted-is f n))
      (odd_sign (suc (prec f)) false (leading f n) (dropped f n) (low f))

  rooted-count : count f (rooted f n) ≡ leading f n * 2 ^ dropped f n
  rooted-count = count-is f (rooted f n) false (leading f n * 2 ^ dropped f n) value

  rooted-positive : T (positive (rooted f n))
  rooted-positive =
      positive_of_value (rooted f n) (leading f n * 2 ^ dropped f n) (2 ^ low f) value
      (mul-pos (lt_of_lt_of_le (pow_pos (prec f - 1)) rounding.least) (pow_pos (dropped f n)))

  rooted-fits : n < 2 ^ (low f + low f + suc (emax f)) → T (fits f (rooted f n))
  rooted-fits top =
      subst (λ (x : Float). T (fits f x)) (sym (rooted-is f n))
      (odd-fits f (suc (prec f)) false (leading f n) (dropped f n) (lt_of_le_of_lt rounding.most (pow-lt (up (prec f))))
      rounding.most
      (lt_of_le_of_lt (mul-le-mul_right (2 ^ dropped f n) rounding.most)
      (lt_of_le_of_lt (le_of_eq (sym (pow-add 2 (prec f) (dropped f n))))
      (pow-lt
      (go (size n) (prec f) (low f) (emax f) (two f) (wide f) (short f) long
      (size-le n (low f + low f + suc (emax f)) top))))))
    where
      up : (p : ℕ) → p < suc p
      up p = omega arith

      go :
          (z p l e : ℕ) → 2 ≤ p → 2 * p ≤ suc l → suc l ≤ l + e → l < z → z ≤ l + l + suc e →
          p + ((z + 1) / 2 - p) < l + suc e
      go z p l e a b s c d = omega arith

-- ---- the laws

pub square_root-of : (f : Format) (x : Float) → T (positive x) → square_root f x ≡ rooted f (square f x)
unfolding square_root
square_root-of f nan p = absurd p
square_root-of f (inf s) p = absurd p
square_root-of f (fin true m e) p = absurd p
square_root-of f (fin false zero e) p = absurd p
square_root-of f (fin false (suc m) e) p = refl

-- what the laws above ask of the square of a positive value
module _ (f : Format) (x : Float) (h : T (fits f x)) (p : T (positive x)) where
  pub sh : Shape f (count f x)
  sh = shape f x h (positive-finite x p)

  pub square-least : 2 ^ low f ≤ square f x
  square-least = le_trans (le_of_eq (sym (one-mul (2 ^ low f)))) (mul-le-mul_right (2 ^ low f) (count-pos f x h p))

  pub square-is : square f x ≡ sh.digits * 2 ^ (sh.power + low f)
  square-is =
      ap (λ (z : ℕ). z * 2 ^ low f) sh.is ∙ mul_assoc sh.digits (2 ^ sh.power) (2 ^ low f)
      ∙ ap (λ (z : ℕ). sh.digits * z) (sym (pow-add 2 sh.power (low f)))

  pub square-top : square f x < 2 ^ (low f + low f + suc (emax f))
  square-top =
      lt_of_lt_of_le (mul-lt-mul_of_pos_right sh.under (pow_pos (low f)))
      (le_trans (le_of_eq (sym (pow-add 2 (low f + suc (emax f)) (low f)))) (pow_mono (go (low f) (emax f))))
    where
      go : (l e : ℕ) → l + suc e + l ≤ l + l + suc e
      go l e = omega arith

  pub square-rounding : Rounded (prec f) (dropped f (square f x)) (square f x) (leading f (square f x))
  square-rounding = rounding f (square f x) sh.digits (sh.power + low f) square-least sh.small square-is

  pub square-count : count f (rooted f (square f x)) ≡ leading f (square f x) * 2 ^ dropped f (square f x)
  square-count = rooted-count f (square f x) sh.digits (sh.power + low f) square-least sh.small square-is

  pub square-positive : T (positive (rooted f (square f x)))
  square-positive = rooted-positive f (square f x) sh.digits (sh.power + low f) square-least sh.small square-is

  pub square-fits : T (fits f (rooted f (square f x)))
  square-fits =
      rooted-fits f (square f x) sh.digits (sh.power + low f) square-least sh.small square-is square-top

  rooted-nearest : Nearest f x (rooted f (square f x))
  rooted-nearest =
      let n = square f x in
      let q = leading f n in
      let k = dropped f n in
      record {
        held = square-fits;
        above_zero = square-positive;
        lower = λ y a b.
            let c = shape f y a b in
            subst
            (λ (Y : ℕ). Y < count f (rooted f n) → (Y + count f (rooted f n)) * (Y + count f (rooted f n)) < 4 * n)
            (sym c.is)
            (subst (λ (R : ℕ). c.digits * 2 ^ c.power < R →
            (c.digits * 2 ^ c.power + R) * (c.digits * 2 ^ c.power + R) < 4 * n)
            (sym square-count)
            (near_lower (prec f) k n q (two f) square-rounding c.digits c.power c.small));
        upper = λ y a b.
            let c = shape f y a b in
            subst
            (λ (Y : ℕ). count f (rooted f n) < Y → 4 * n < (count f (rooted f n) + Y) * (count f (rooted f n) + Y))
            (sym c.is)
            (subst (λ (R : ℕ). R < c.digits * 2 ^ c.power →
            4 * n < (R + c.digits * 2 ^ c.power) * (R + c.digits * 2 ^ c.power))
            (sym square-count)
            (near_upper (prec f) k n q (two f) square-rounding c.digits c.power c.small));
      }

-- the root of each positive value of the format is nearest
pub square_root-nearest : (f : Format) (x : Float) → T (fits f x) → T (positive x) → Nearest f x (square_root f x)
square_root-nearest f x h p = subst (λ (r : Float). Nearest f x r) (sym (square_root-of f x p)) (rooted-nearest f x h p)

-- of two that are nearest, neither is below the other
not_below : (f : Format) (x r s : Float) → Nearest f x r → Nearest f x s → count f r < count f s → ⊥
not_below f x r s a b l =
    lt_irrefl (4 * square f x)
    (lt_trans (a.upper s b.held (positive-finite s b.above_zero) l)
    (b.lower r a.held (positive-finite r a.above_zero) l))

-- nothing else is nearest
pub nearest_unique : (f : Format) (x r s : Float) → Nearest f x r → Nearest f x s → r ≡ s
nearest_unique f x r s a b =
    count-unique f r s a.held b.held a.above_zero b.above_zero
    (neither (count f r) (count f s) (not_below f x r s a b) (not_below f x s r b a))

-- no tie: for two values of the format with none between them, the root is not at their midpoint
pub square_root-no_tie :
    (f : Format) (x y z : Float) → T (fits f x) → T (positive x) → T (fits f y) → T (finite y) →
    T (fits f z) → T (finite z) →
    count f y < count f z
    → ((v : Float) → T (fits f v) → T (finite v) → (count f v ≤ count f y) ⊎ (count f z ≤ count f v))
    → (count f y + count f z) * (count f y + count f z) ≡ 4 * square f x → ⊥
square_root-no_tie f x y z h p Fy fy Fz fz l adjacent e = go (adjacent r a.held (positive-finite r a.above_zero))
  where
    r : Float
    r = square_root f x

    a : Nearest f x r
    a = square_root-nearest f x h p

    go : (count f r ≤ count f y) ⊎ (count f z ≤ count f r) → ⊥
    go (inl g) =
        lt_irrefl (4 * square f x)
        (lt_of_lt_of_le (a.upper z Fz fz (lt_of_le_of_lt g l))
        (le_trans (sq_le (count f r + count f z) (count f y + count f z) (add-le-add g (le_refl (count f z))))
        (le_of_eq e)))
    go (inr g) =
        lt_irrefl (4 * square f x)
        (lt_of_le_of_lt
        (le_trans (le_of_eq (sym e))
        (sq_le (count f y + count f z) (count f y + count f r) (add-le-add (le_refl (count f y)) g)))
        (a.lower y Fy fy (lt_of_lt_of_le l g)))
