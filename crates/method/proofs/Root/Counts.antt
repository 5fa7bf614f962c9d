-- How many smallest values a value of a format is: a number of `prec` digits times a power of two, and the value again
-- is known from it. Assumes nothing.
use Rattle.std.specs.Prelude.{◌≡◌, ℕ, zero, suc, ◌+◌, ◌-◌, ◌*◌, ◌/◌, ◌%◌, ◌^◌, ◌≤◌, ◌<◌, Bool, true, false, ◌&&◌, ℤ, pos, negsuc, T, leb, ltb, eqb, Float}
use Rattle.std.proofs.Common.{sym, ap, ◌∙◌, subst, le_of_eq, le_of_suc-le-suc, lt_of_lt_of_le, lt_of_not-le, lt_irrefl, zero-mul, zero-add, mul-one, mul_comm, mul_assoc, mul_right_comm, mul-pos, mul-div_cancel, div-one, div-lt_iff_lt-mul, mul-lt-mul_of_pos_right, ltb→lt, leb→le, pow_pos, pow-add}
use Rattle.std.proofs.Math.Pow.{pow-lt}
use Rattle.std.specs.Float.{nan, inf, fin, Format}
use Rattle.std.specs.Float.Ieee.{prec, emax, low, up, down, size, hid, fits, of_bits, to_bits}
use Rattle.std.specs.Float.Ieee.Bits.{of_bits-to_bits}
use Rattle.std.specs.Float.Ieee.Digits.{back}
use Rattle.std.specs.Float.Ieee.Fits.{down_pos, and_l, and_r}
use Rattle.std.specs.Float.Ieee.Exact.{HasValue}
use Rattle.std.specs.Float.Ieee.Scale.{finite}
use Rattle.std.specs.Float.Ieee.Positive.{positive}
use Rattle.method.specs.Root.{count}
use Rattle.method.specs.Root.Counts.{Shape, pattern}

-- a value's count is any number of smallest values that it equals
pub count-is : (f : Format) (x : Float) (s : Bool) (a : ℕ) → HasValue x s a (2 ^ low f) → count f x ≡ a
count-is f nan s a h = absurd h
count-is f (inf t) s a h = absurd h
count-is f (fin t m e) s a h = ap (λ (z : ℕ). z / down e) h.1 ∙ mul-div_cancel a (down_pos e)

-- ---- the shape of a count

pow_le_back : (a l : ℕ) → 2 ^ a ≤ 2 ^ l → a ≤ l
pow_le_back a l h = le_of_suc-le-suc (lt_of_not-le (λ (g : suc l ≤ a). lt_irrefl (2 ^ l) (lt_of_lt_of_le (pow-lt g) h)))

-- m * 2 ^ e is m * 2 ^ j smallest values
place : (l : ℕ) (e : ℤ) → down e ≤ 2 ^ l → (j : ℕ) × ((m : ℕ) → m * up e * 2 ^ l / down e ≡ m * 2 ^ j)
place l (pos a) h = (
  a + l,
  λ m. div-one (m * 2 ^ a * 2 ^ l) ∙ mul_assoc m (2 ^ a) (2 ^ l) ∙ ap (λ (x : ℕ). m * x) (sym (pow-add 2 a l)),
)
place l (negsuc a) h =
    let le : suc a ≤ l = pow_le_back (suc a) l h in (
      l - suc a,
      λ m.
          ap (λ (x : ℕ). x * 2 ^ l / 2 ^ suc a) (mul-one m)
          ∙ ap (λ (x : ℕ). m * x / 2 ^ suc a)
          (ap (λ (x : ℕ). 2 ^ x) (sym (back l (suc a) le)) ∙ pow-add 2 (l - suc a) (suc a))
          ∙ ap (λ (x : ℕ). x / 2 ^ suc a) (sym (mul_assoc m (2 ^ (l - suc a)) (2 ^ suc a)))
          ∙ mul-div_cancel (m * 2 ^ (l - suc a)) (pow_pos (suc a)),
    )

pub count-zero : (f : Format) (e : ℤ) → zero * up e * 2 ^ low f / down e ≡ 0
count-zero f e =
    ap (λ (z : ℕ). z / down e)
    (ap (λ (z : ℕ). z * 2 ^ low f) (zero-mul (up e)) ∙ zero-mul (2 ^ low f) ∙ sym (zero-mul (down e)))
    ∙ mul-div_cancel 0 (down_pos e)

under_of :
    (f : Format) (m : ℕ) (e : ℤ) → m * up e < 2 ^ suc (emax f) * down e →
    m * up e * 2 ^ low f / down e < 2 ^ (low f + suc (emax f))
under_of f m e h =
    (div-lt_iff_lt-mul (down_pos e)).1
    (lt_of_lt_of_le (mul-lt-mul_of_pos_right h (pow_pos (low f)))
    (le_of_eq
    (mul_right_comm (2 ^ suc (emax f)) (down e) (2 ^ low f)
    ∙ ap (λ (z : ℕ). z * down e) (mul_comm (2 ^ suc (emax f)) (2 ^ low f) ∙ sym (pow-add 2 (low f) (suc (emax f)))))))

-- what `fits` asks of a number that is not 0
parts :
    (f : Format) (s : Bool) (m : ℕ) (e : ℤ) → T (fits f (fin s (suc m) e)) →
    (suc m < 2 ^ prec f) × (down e ≤ 2 ^ low f) × (suc m * up e < 2 ^ suc (emax f) * down e)
unfolding fits
parts f s m e h =
    let A = eqb (suc m % 2) 1 in
    let B = ltb (suc m) (2 ^ prec f) in
    let C = leb (down e) (2 ^ low f) in
    let D = ltb (suc m * up e) (2 ^ suc (emax f) * down e) in (
      ltb→lt (suc m) (2 ^ prec f) (and_r A B (and_l (A && B) C (and_l (A && B && C) D h))),
      leb→le (down e) (2 ^ low f) (and_r (A && B) C (and_l (A && B && C) D h)),
      ltb→lt (suc m * up e) (2 ^ suc (emax f) * down e) (and_r (A && B && C) D h),
    )

pub shape : (f : Format) (y : Float) → T (fits f y) → T (finite y) → Shape f (count f y)
shape f nan h g = absurd g
shape f (inf s) h g = absurd g
shape f (fin s zero e) h g = record {
  digits = 0;
  power = 0;
  small = pow_pos (prec f);
  is = count-zero f e;
  under = subst (λ (z : ℕ). z < 2 ^ (low f + suc (emax f))) (sym (count-zero f e)) (pow_pos (low f + suc (emax f)));
}
shape f (fin s (suc m) e) h g =
    let p = parts f s m e h in
    let pl = place (low f) e p.1 in
    record { digits = suc m; power = pl.0; small = p.0; is = pl.1 (suc m); under = under_of f (suc m) e p.2 }

pub count-pos : (f : Format) (x : Float) → T (fits f x) → T (positive x) → 0 < count f x
count-pos f nan h p = absurd p
count-pos f (inf s) h p = absurd p
count-pos f (fin true m e) h p = absurd p
count-pos f (fin false zero e) h p = absurd p
count-pos f (fin false (suc m) e) h p =
    let pl = place (low f) e (parts f false m e h).1 in
    subst (λ (z : ℕ). 0 < z) (sym (pl.1 (suc m))) (mul-pos (ltb→lt 0 (suc m) p) (pow_pos pl.0))

-- ---- the bit pattern of a positive value, from its count

pub to_bits_count : (f : Format) (x : Float) → T (positive x) → to_bits f x ≡ pattern f (count f x)
unfolding to_bits
to_bits_count f nan p = absurd p
to_bits_count f (inf s) p = absurd p
to_bits_count f (fin true m e) p = absurd p
to_bits_count f (fin false m e) p =
    let n = m * up e * 2 ^ low f / down e in
    ap (λ (z : ℕ). z + n / 2 ^ (size n - prec f)) (zero-add ((size n - prec f) * hid f))

-- so two positive values of the format with the same count are the same
pub count-unique :
    (f : Format) (x y : Float) → T (fits f x) → T (fits f y) → T (positive x) → T (positive y) →
    count f x ≡ count f y →
    x ≡ y
count-unique f x y a b p q e =
    sym (of_bits-to_bits f x a)
    ∙ ap (λ (z : ℕ). of_bits f z) (to_bits_count f x p ∙ ap (λ (z : ℕ). pattern f z) e ∙ sym (to_bits_count f y q))
    ∙ of_bits-to_bits f y b
