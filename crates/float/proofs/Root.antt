-- What the promise of `square_root` says of every f64: above zero and finite, the answer is nearest to the root, and of
-- every other argument it says which value the answer is. Assumes nothing.
use Rattle.std.specs.Prelude.{◌≡◌, refl, Bool, true, false, ◌||◌, ℕ, zero, suc, ◌+◌, ◌*◌, ◌<◌, T, eqb, Float}
use Rattle.std.proofs.Common.{sym, ap, ◌∙◌, subst, true≢false, zero-lt-suc, mul-pos, arith, eqb→eq, ltb→lt, lt→ltb, eq-eqb, lt-ltb}
use Rattle.std.specs.Bool.{beq}
use Rattle.std.specs.Float.{nan, inf, fin, binary64}
use Rattle.std.specs.Float.Ieee.{up, down, is_nan, eq, lt, fits, of_bits, to_bits}
use Rattle.std.specs.Float.Ieee.Bits.{of_bits-to_bits, of_bits-fits}
use Rattle.std.specs.Float.Ieee.Fits.{up_pos, and_l}
use Rattle.std.specs.Float.Ieee.Scale.{finite}
use Rattle.std.specs.Float.Ieee.Positive.{positive, first_pos}
use denote.Floats.{passes, is_true}
use Rattle.method.specs.Floats.{plus_zero}
use Rattle.method.specs.Root.{square_root, Nearest, Enclosed}
use Rattle.method.proofs.Root.Laws.{square_root-nearest, nearest_unique}
use Rattle.method.proofs.Root.Enclosing.{square_root-enclosed}
use Rattle.method.proofs.Root.Special.{square_root-below_zero}
use Rattle.float.specs.Root.{AnF64, Case, RootIs, is_above, is_below, is_infinity, is_no_number, is_zero}

-- ---- what an f64 is

-- each is a value of binary64, and so the value of its bit pattern
pub f64_fits : (x : Float) → AnF64 x → fits binary64 x ≡ true
f64_fits x a = a.1

pub f64_pattern : (x : Float) → AnF64 x → of_bits binary64 (to_bits binary64 x) ≡ x
f64_pattern x a = of_bits-to_bits binary64 x (passes (fits binary64 x) (f64_fits x a))

-- ---- what the answer is

pub case : (x : Float) → Case x
unfolding is_nan eq lt
case nan = is_no_number refl
case (inf true) = is_below refl
case (inf false) = is_infinity refl
case (fin s zero e) =
    is_zero
    (rw (eq-eqb (0 * up e * 1) (0 * 1 * down e) (omega arith), eq-eqb (0 * up e * 1) 0 (omega arith))
    (either (beq s false)))
  where
    either : (b : Bool) → (b || true) ≡ true
    either true = refl
    either false = refl
case (fin true (suc m) e) =
    is_below
    (lt-ltb 0 (suc m * up e * 1 + 0 * 1 * down e)
    (some (suc m * up e) (down e) (mul-pos (zero-lt-suc m) (up_pos e))))
  where
    some : (a d : ℕ) → 0 < a → 0 < a * 1 + 0 * 1 * d
    some a d k = omega arith
case (fin false (suc m) e) =
    is_above refl
    (lt-ltb (0 * 1 * down e) (suc m * up e * 1)
    (some (suc m * up e) (down e) (mul-pos (zero-lt-suc m) (up_pos e))))
  where
    some : (a d : ℕ) → 0 < a → 0 * 1 * d < a * 1
    some a d k = omega arith

-- finite and above zero, as the laws of the root ask for it
pub is_positive : (x : Float) → finite x ≡ true → lt plus_zero x ≡ true → T (positive x)
unfolding lt
is_positive nan h l = absurd (true≢false (sym h))
is_positive (inf s) h l = absurd (true≢false (sym h))
is_positive (fin true m e) h l = absurd (true≢false (sym l))
is_positive (fin false m e) h l =
    lt→ltb 0 m
    (first_pos m (up e)
    (some (m * up e) (down e) (ltb→lt (0 * 1 * down e) (m * up e * 1) (passes _ l))))
  where
    some : (a d : ℕ) → 0 * 1 * d < a * 1 → 0 < a
    some a d k = omega arith

-- what compares equal to +0 is a zero, and stays
pub zero_stays : (x : Float) → eq x plus_zero ≡ true → square_root binary64 x ≡ x
unfolding eq square_root
zero_stays nan h = absurd (true≢false (sym h))
zero_stays (inf s) h = absurd (true≢false (sym h))
zero_stays (fin s zero e) h = refl
zero_stays (fin s (suc m) e) h =
    absurd
    (none (suc m * up e) (down e) (mul-pos (zero-lt-suc m) (up_pos e))
    (eqb→eq (suc m * up e * 1) (0 * 1 * down e)
    (and_l (eqb (suc m * up e * 1) (0 * 1 * down e)) (beq s false || eqb (suc m * up e * 1) 0) (passes _ h))))
  where
    none : (a d : ℕ) → 0 < a → a * 1 ≡ 0 * 1 * d → ⊥
    none a d k g = omega arith

nan_stays : (x : Float) → is_nan x ≡ true → square_root binary64 x ≡ nan
unfolding is_nan square_root
nan_stays nan h = refl
nan_stays (inf s) h = absurd (true≢false (sym h))
nan_stays (fin s m e) h = absurd (true≢false (sym h))

infinity_stays : (x : Float) → x ≡ inf false → square_root binary64 x ≡ x
unfolding square_root
infinity_stays x e = ap (λ (y : Float). square_root binary64 y) e ∙ sym e

-- ---- the theorem: for every f64 x, and every answer r that the promise of `square_root` allows
pub root_is : (x r : Float) → AnF64 x → r ≡ square_root binary64 x → RootIs x r
root_is x r a promise =
    let held = passes (fits binary64 x) (f64_fits x a) in
    record {
      above_zero = λ h l.
          let p = is_positive x h l in
          let n = subst (λ (y : Float). Nearest binary64 x y) (sym promise) (square_root-nearest binary64 x held p) in
          record {
            nearest = n;
            enclosed =
                subst (λ (y : Float). Enclosed binary64 x y) (sym promise) (square_root-enclosed binary64 x held p);
            only = λ y o. nearest_unique binary64 x y r o n;
          };
      at_zero = λ h. promise ∙ zero_stays x h;
      below-zero = λ h. promise ∙ square_root-below_zero binary64 x (passes (lt x plus_zero) h);
      at-nan = λ h. promise ∙ nan_stays x h;
      at-infinity = λ h. promise ∙ infinity_stays x h;
    }

-- the same of the value of any bit pattern, with no premise but the promise
pub root_of_pattern : (p : ℕ) (r : Float) → r ≡ square_root binary64 (of_bits binary64 p) → RootIs (of_bits binary64 p) r
root_of_pattern p r promise =
    let x = of_bits binary64 p in
    root_is x r (refl, is_true (fits binary64 x) (of_bits-fits binary64 p)) promise
