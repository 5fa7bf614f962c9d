-- What a test for NaN and the highest bit of the pattern tell of a double. Assumes nothing.
use mathlib.Core.Path.{◌≡◌, refl, sym, ap, ◌∙◌, subst}
use Prim.Native.Nat.{ℕ, zero, suc, ◌+◌, ◌/◌, ◌%◌, ◌^◌, ◌<◌}
use native.Mathlib.Omega.{arith}
use mathlib.Core.Bool.{Bool, true, false, not, cond, true≢false}
use lib.Dec.{T, leb, eqb}
use lib.Arith.{lt→nleb}
use lib.Ieee.{Float, nan, inf, fin, binary64, odd, fits, is_nan, of_fields, of_bits, to_bits, nan_bits}
use lib.Ieee.Bits.{of_bits-to_bits, is_false, nan_bits_is}
use Rattle.std.specs.Float.{float_is_finite, is_sign_negative, float_with_sign, float_signum}
use lib.Ieee.Scale.{finite}
use Rattle.method.specs.Floats.{magnitude, sign_of, negative, pick}

-- what owning an `f64` tells: the format holds it
pub held : (x : Float) → fits binary64 x ≡ true → T (fits binary64 x)
held x h = subst T (sym h) tt

-- ---- the library's words are the method's, case by case
pub abs_is : (x : Float) → float_with_sign false x ≡ magnitude x
unfolding float_with_sign magnitude
abs_is nan = refl
abs_is (inf s) = refl
abs_is (fin s m e) = refl

pub signum_is : (x : Float) → float_signum x ≡ sign_of x
unfolding float_signum sign_of
signum_is nan = refl
signum_is (inf s) = refl
signum_is (fin s m e) = refl

pub sign_negative_is : (x : Float) → is_sign_negative x ≡ negative x
unfolding is_sign_negative negative
sign_negative_is nan = refl
sign_negative_is (inf s) = refl
sign_negative_is (fin s m e) = refl

pub finite_is : (x : Float) → float_is_finite x ≡ finite x
unfolding float_is_finite
finite_is nan = refl
finite_is (inf s) = refl
finite_is (fin s m e) = refl

-- a NaN has no sign, and is its magnitude
pub nan-magnitude : (x : Float) → is_nan x ≡ true → x ≡ magnitude x
unfolding is_nan magnitude
nan-magnitude nan h = refl
nan-magnitude (inf s) h = absurd (true≢false (sym h))
nan-magnitude (fin s m e) h = absurd (true≢false (sym h))

pub nan_unsigned : (x : Float) → is_nan x ≡ true → false ≡ negative x
unfolding is_nan negative
nan_unsigned nan h = refl
nan_unsigned (inf s) h = absurd (true≢false (sym h))
nan_unsigned (fin s m e) h = absurd (true≢false (sym h))

-- ---- the two answers of `smaller` and `larger`
pub second_nan : (x y : Float) (n t : Bool) → n ≡ true → y ≡ pick n y (pick t y x)
second_nan x y true t h = refl
second_nan x y false t h = absurd (true≢false (sym h))

pub second : (x y : Float) (n t : Bool) → t ≡ true → y ≡ pick n y (pick t y x)
second x y true t h = refl
second x y false true h = refl
second x y false false h = absurd (true≢false (sym h))

pub first : (x y : Float) (n t : Bool) → n ≡ false → t ≡ false → x ≡ pick n y (pick t y x)
first x y true t h g = absurd (true≢false h)
first x y false true h g = absurd (true≢false g)
first x y false false h g = refl

-- ---- the sign
odd_signed : (d : ℕ) (s : Bool) (q k l : ℕ) → negative (odd d s q k l) ≡ s
unfolding odd negative
odd_signed d s zero k l = refl
odd_signed d s (suc q) k l = refl

pick-signed :
    (a b s : Bool) (v : Float) → negative v ≡ s → T (not (is_nan (cond a (cond b (inf s) nan) v))) →
    negative (cond a (cond b (inf s) nan) v) ≡ s
unfolding is_nan negative
pick-signed true true s v e n = refl
pick-signed true false s v e n = absurd n
pick-signed false b s v e n = e

fields_signed : (s : Bool) (x t : ℕ) → T (not (is_nan (of_fields binary64 s x t))) → negative (of_fields binary64 s x t) ≡ s
unfolding of_fields
fields_signed s zero t n = odd_signed 53 s t 0 1074
fields_signed s (suc x) t n = pick-signed (eqb (suc x) 2047) (eqb t 0) s (odd 53 s (2 ^ 52 + t) x 1074) (odd_signed 53 s (2 ^ 52 + t) x 1074) n

of_bits_is : (b : ℕ) → of_bits binary64 b ≡ of_fields binary64 (leb (2 ^ 63) b) (b % 2 ^ 63 / 2 ^ 52) (b % 2 ^ 52)
unfolding of_bits
of_bits_is b = refl

-- a value is negative where its pattern has the highest bit
pub bits-signed : (x : Float) → T (fits binary64 x) → T (not (is_nan x)) → negative x ≡ leb (2 ^ 63) (to_bits binary64 x)
bits-signed x F n =
    let b = to_bits binary64 x in
    let is : x ≡ of_fields binary64 (leb (2 ^ 63) b) (b % 2 ^ 63 / 2 ^ 52) (b % 2 ^ 52) = sym (of_bits-to_bits binary64 x F) ∙ of_bits_is b in
    ap negative is ∙ fields_signed (leb (2 ^ 63) b) (b % 2 ^ 63 / 2 ^ 52) (b % 2 ^ 52) (subst (λ (y : Float). T (not (is_nan y))) is n)

-- ---- the pattern without its highest bit is the magnitude's
odd_magnitude : (d : ℕ) (s : Bool) (q k l : ℕ) → odd d false q k l ≡ magnitude (odd d s q k l)
unfolding odd magnitude
odd_magnitude d s zero k l = refl
odd_magnitude d s (suc q) k l = refl

pick-magnitude :
    (a b s : Bool) (v w : Float) → v ≡ magnitude w →
    cond a (cond b (inf false) nan) v ≡ magnitude (cond a (cond b (inf s) nan) w)
unfolding magnitude
pick-magnitude true true s v w e = refl
pick-magnitude true false s v w e = refl
pick-magnitude false b s v w e = e

fields_magnitude : (s : Bool) (x t : ℕ) → of_fields binary64 false x t ≡ magnitude (of_fields binary64 s x t)
unfolding of_fields
fields_magnitude s zero t = odd_magnitude 53 s t 0 1074
fields_magnitude s (suc x) t = pick-magnitude (eqb (suc x) 2047) (eqb t 0) s (odd 53 false (2 ^ 52 + t) x 1074) (odd 53 s (2 ^ 52 + t) x 1074) (odd_magnitude 53 s (2 ^ 52 + t) x 1074)

pub cleared :
    (x : Float) (b : ℕ) → T (fits binary64 x) → b ≡ to_bits binary64 x % 2 ^ 63 → of_bits binary64 b ≡ magnitude x
cleared x b F e =
    of_bits_is b
    ∙ ap (λ (s : Bool). of_fields binary64 s (b % 2 ^ 63 / 2 ^ 52) (b % 2 ^ 52)) (is_false (leb (2 ^ 63) b) (lt→nleb (2 ^ 63) b (low b t e)))
    ∙ ap (λ (z : ℕ). of_fields binary64 false (z / 2 ^ 52) (b % 2 ^ 52)) (once b t e)
    ∙ ap (λ (z : ℕ). of_fields binary64 false (t % 2 ^ 63 / 2 ^ 52) z) (tail b t e)
    ∙ fields_magnitude (leb (2 ^ 63) t) (t % 2 ^ 63 / 2 ^ 52) (t % 2 ^ 52)
    ∙ ap magnitude (sym (of_bits_is t) ∙ of_bits-to_bits binary64 x F)
  where
    t : ℕ
    t = to_bits binary64 x

    low : (b t : ℕ) → b ≡ t % 2 ^ 63 → b < 2 ^ 63
    low b t h = omega arith

    once : (b t : ℕ) → b ≡ t % 2 ^ 63 → b % 2 ^ 63 ≡ t % 2 ^ 63
    once b t h = omega arith

    tail : (b t : ℕ) → b ≡ t % 2 ^ 63 → b % 2 ^ 52 ≡ t % 2 ^ 52
    tail b t h = omega arith

-- a magnitude is no NaN where x is none, so its pattern is none's
pub cleared_no_nan :
    (x : Float) (b : ℕ) → T (fits binary64 x) → T (not (is_nan x)) → b ≡ to_bits binary64 x % 2 ^ 63 →
    T (not (nan_bits binary64 b))
unfolding magnitude is_nan
cleared_no_nan x b F n e = subst (λ (t : Bool). T (not t)) (sym (nan_bits_is binary64 b ∙ ap is_nan (cleared x b F e))) (go x n)
  where
    go : (x : Float) → T (not (is_nan x)) → T (not (is_nan (magnitude x)))
    go nan n = absurd n
    go (inf s) n = tt
    go (fin s m e) n = tt
