-- What `is_zero` says: of the values of a format it tells +0 and -0 from all others, it is the comparison with 0 that
-- the code makes, and the magnitude of a zero is below what 0 is below. Assumes nothing.
use Rattle.std.specs.Prelude.{◌≡◌, refl, ◌⊎◌, Bool, true, false, ◌||◌, ℕ, zero, suc, ◌*◌, ◌^◌, ◌<◌, eqb, ℤ, pos, negsuc, Float}
use Rattle.std.proofs.Common.{sym, ◌∙◌, inl, inr, mul-pos, zero-lt-suc, pow-suc, arith, pow_pos, eqb-true, eq-eqb, ne_eqb, le-ltb, lt-ltb}
use Rattle.std.specs.Bool.{beq}
use Rattle.std.proofs.lemmas.Bool.{false≢true}
use Rattle.std.specs.Float.{nan, inf, fin, Format}
use Rattle.std.specs.Float.Ieee.{up, down, lt, eq, fits}
use Rattle.std.specs.Float.Ieee.Fits.{up_pos, down_pos}
use Rattle.method.specs.Floats.{plus_zero, magnitude, is_zero}

-- ---- the zeros of a format

-- a zero is written in one way: with the exponent 0
one_way : (s : Bool) (e : ℤ) → eqb (up e * down e) 1 ≡ true → fin s 0 e ≡ fin s 0 (pos 0)
one_way s (pos zero) t = refl
one_way s (pos (suc k)) t =
    absurd (let z : ⊥ = omega (arith, eqb-true (2 ^ suc k * 1) 1 t, pow-suc 2 k, pow_pos k) in z)
one_way s (negsuc k) t =
    absurd (let z : ⊥ = omega (arith, eqb-true (1 * 2 ^ suc k) 1 t, pow-suc 2 k, pow_pos k) in z)

-- so of a value of a format: it is +0 or -0
pub zero_two :
    (f : Format) (x : Float) → fits f x ≡ true → is_zero x ≡ true → (x ≡ plus_zero) ⊎ (x ≡ fin true 0 (pos 0))
unfolding is_zero fits
zero_two f nan h z = absurd (false≢true z)
zero_two f (inf s) h z = absurd (false≢true z)
zero_two f (fin true zero e) h z = inr (one_way true e h)
zero_two f (fin false zero e) h z = inl (one_way false e h)
zero_two f (fin s (suc m) e) h z = absurd (let q : ⊥ = omega (arith, eqb-true (suc m) 0 z) in q)

-- and both are
pub zeros-are : (is_zero plus_zero ≡ true) × (is_zero (fin true 0 (pos 0)) ≡ true)
unfolding is_zero
zeros-are = (refl, refl)

-- ---- the comparison with 0

either : (b : Bool) → (b || true) ≡ true
either true = refl
either false = refl

pub eq_zero : (x : Float) → eq x plus_zero ≡ is_zero x
unfolding eq is_zero
eq_zero nan = refl
eq_zero (inf s) = refl
eq_zero (fin s zero e) =
    rw (eq-eqb (0 * up e * 1) (0 * 1 * down e) (omega arith), eq-eqb (0 * up e * 1) 0 (omega arith))
    (either (beq s false))
eq_zero (fin s (suc m) e) =
    rw (
      ne_eqb (suc m * up e * 1) (0 * 1 * down e) (some (suc m * up e) (down e) (mul-pos (zero-lt-suc m) (up_pos e))),
      ne_eqb (suc m) 0 (λ q. omega arith),
    )
    refl
  where
    some : (a d : ℕ) → 0 < a → a * 1 ≡ 0 * 1 * d → ⊥
    some a d k q = omega arith

-- ---- what a zero is below

pub zero_below : (x y : Float) → is_zero x ≡ true → lt (magnitude x) y ≡ lt plus_zero y
unfolding is_zero magnitude lt
zero_below nan y z = absurd (false≢true z)
zero_below (inf s) y z = absurd (false≢true z)
zero_below (fin s (suc m) e) y z = absurd (let q : ⊥ = omega (arith, eqb-true (suc m) 0 z) in q)
zero_below (fin s zero e) nan z = refl
zero_below (fin s zero e) (inf t) z = refl
zero_below (fin s zero e) (fin true n d) z = refl
zero_below (fin s zero e) (fin false zero d) z =
    le-ltb (0 * up e * down d) (0 * up d * down e) (omega arith) ∙ sym (le-ltb (0 * 1 * down d) (0 * up d * 1) (omega arith))
zero_below (fin s zero e) (fin false (suc n) d) z =
    let some = mul-pos (zero-lt-suc n) (up_pos d) in
    lt-ltb (0 * up e * down d) (suc n * up d * down e) (first (up e) (down d) _ (mul-pos some (down_pos e)))
    ∙ sym (lt-ltb (0 * 1 * down d) (suc n * up d * 1) (last (down d) (suc n * up d) some))
  where
    first : (a d b : ℕ) → 0 < b → 0 * a * d < b
    first a d b k = omega arith

    last : (d b : ℕ) → 0 < b → 0 * 1 * d < b * 1
    last d b k = omega arith
