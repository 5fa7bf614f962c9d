-- `square_root`'s cases by the bit pattern: what the value is, and what its root is. Assumes nothing.
use mathlib.Core.Path.{◌≡◌, refl, sym, ap, ◌∙◌, subst}
use mathlib.Core.Logic.{◌⊎◌, inl, inr}
use Prim.Native.Nat.{ℕ, zero, suc, ◌+◌, ◌*◌, ◌/◌, ◌%◌, ◌^◌, ◌≤◌, ◌<◌}
use native.Mathlib.Nat.{mul-pos, zero-lt-suc, eq-or-lt_of_le}
use native.Mathlib.Omega.{arith}
use mathlib.Core.Bool.{Bool, true, false, not, true≢false}
use lib.Dec.{T, leb, ltb, lt→ltb, le→leb}
use lib.Pow.{pow_pos}
use lib.Ieee.{Float, nan, inf, fin, binary64, fits, is_nan, eq, lt, of_bits, to_bits}
use lib.Ieee.Scale.{finite}
use lib.Ieee.Bits.{of_bits-to_bits, is_true, nan_bits_is, nan_bits_above}
use lib.Ieee.Positive.{positive}
use denote.Floats.{passes}
use Rattle.method.specs.Root.{square, rooted, square_root}
use Rattle.method.proofs.Root.Grid.{less_or_not}
use Rattle.method.proofs.Root.Laws.{square_root-of}
use Rattle.method.specs.Root.Patterns.{field_count}
use Rattle.method.proofs.Root.Patterns.{bits-count}
use Rattle.method.specs.Floats.{negative, plus_zero}
use Rattle.method.proofs.Root.Special.{square_root-below_zero}
use Rattle.float.specs.Root.{Case, is_above, is_below, is_infinity, is_no_number, is_zero}
use Rattle.float.proofs.Root.{case, is_positive}
use Rattle.float.proofs.Signs.{bits-signed}
use Rattle.float.proofs.Joined.{bits_positive}

-- what holds of the value of a pattern holds of each value with that pattern
pub at-pattern :
    (P : Float → Type 0) (x : Float) (b : ℕ) → T (fits binary64 x) → to_bits binary64 x ≡ b → P (of_bits binary64 b) →
    P x
at-pattern P x b F e p = subst P (ap (λ (z : ℕ). of_bits binary64 z) (sym e) ∙ of_bits-to_bits binary64 x F) p

-- ---- positive
field_some : (x t : ℕ) → 0 < x * 2 ^ 52 + t → 0 < field_count binary64 x t
field_some zero t h = go t h
  where
    go : (t : ℕ) → 0 < 0 * 2 ^ 52 + t → 0 < t
    go t h = omega arith
field_some (suc x) t h = mul-pos (go t) (pow_pos x)
  where
    go : (t : ℕ) → 0 < 2 ^ 52 + t
    go t = omega arith

pub at-positive :
    (x : Float) → T (fits binary64 x) → 0 < to_bits binary64 x → to_bits binary64 x < 2047 * 2 ^ 52 →
    rooted binary64 (square binary64 (of_bits binary64 (to_bits binary64 x))) ≡ square_root binary64 x
at-positive x F s h =
    let b = to_bits binary64 x in
    let p : T (positive (of_bits binary64 b)) = bits_positive b h (subst (λ (z : ℕ). 0 < z) (sym (bits-count binary64 b h)) (field_some (b / 2 ^ 52) (b % 2 ^ 52) (go b s))) in
    sym (square_root-of binary64 (of_bits binary64 b) p) ∙ ap (λ (y : Float). square_root binary64 y) (of_bits-to_bits binary64 x F)
  where
    go : (b : ℕ) → 0 < b → 0 < b / 2 ^ 52 * 2 ^ 52 + b % 2 ^ 52
    go b h = omega arith

-- ---- neither below zero nor a zero

-- a pattern past the infinity's with a clear sign is a NaN's
above_is_nan : (b : ℕ) → 2047 * 2 ^ 52 < b → b < 2 ^ 63 → T (not (is_nan (of_bits binary64 b))) → ⊥
above_is_nan b h k n =
    let t : T (ltb (2047 * 2 ^ 52) (b % 2 ^ 63)) = lt→ltb (2047 * 2 ^ 52) (b % 2 ^ 63) (go b h k) in
    both (is_nan (of_bits binary64 b)) (subst T (sym (nan_bits_above binary64 b) ∙ nan_bits_is binary64 b) t) n
  where
    go : (b : ℕ) → 2047 * 2 ^ 52 < b → b < 2 ^ 63 → 2047 * 2 ^ 52 < b % 2 ^ 63
    go b p q = omega arith

    both : (a : Bool) → T a → T (not a) → ⊥
    both true p q = q
    both false p q = p

finite-no_nan : (x : Float) → finite x ≡ true → T (not (is_nan x))
unfolding is_nan
finite-no_nan nan h = absurd (true≢false (sym h))
finite-no_nan (inf s) h = tt
finite-no_nan (fin s m e) h = tt

positive-unsigned : (x : Float) → T (positive x) → negative x ≡ false
unfolding negative
positive-unsigned nan p = absurd p
positive-unsigned (inf s) p = absurd p
positive-unsigned (fin true m e) p = absurd p
positive-unsigned (fin false m e) p = refl

above_unsigned :
    (x : Float) → finite x ≡ true → eq x plus_zero ≡ false → lt x plus_zero ≡ false → negative x ≡ false
above_unsigned x h z l = go (case x)
  where
    go : Case x → negative x ≡ false
    go (is_above f p) = positive-unsigned x (is_positive x f p)
    go (is_zero e) = absurd (true≢false (sym e ∙ z))
    go (is_below e) = absurd (true≢false (sym e ∙ l))
    go (is_no_number e) = absurd (subst (λ (t : Bool). T (not t)) e (finite-no_nan x h))
    go (is_infinity e) = absurd (true≢false (sym h ∙ ap finite e))

zero_read : eq (of_bits binary64 0) plus_zero ≡ true
unfolding of_bits eq
zero_read = refl

infinity_read : finite (of_bits binary64 (2047 * 2 ^ 52)) ≡ false
unfolding of_bits
infinity_read = refl

-- a finite value that is no zero and has no sign: its pattern is between zero's and the infinity's
pub bits_between :
    (x : Float) → T (fits binary64 x) → finite x ≡ true → eq x plus_zero ≡ false → negative x ≡ false →
    (0 < to_bits binary64 x) × (to_bits binary64 x < 2047 * 2 ^ 52)
bits_between x F h z s =
    (some (to_bits binary64 x) no_zero, less (less_or_not (2047 * 2 ^ 52) (to_bits binary64 x)))
  where
    n : T (not (is_nan x))
    n = finite-no_nan x h

    n' : T (not (is_nan (of_bits binary64 (to_bits binary64 x))))
    n' = subst (λ (y : Float). T (not (is_nan y))) (sym (of_bits-to_bits binary64 x F)) n

    no_zero : to_bits binary64 x ≡ 0 → ⊥
    no_zero e = true≢false (sym (at-pattern (λ y. eq y plus_zero ≡ true) x 0 F e zero_read) ∙ z)

    some : (b : ℕ) → (b ≡ 0 → ⊥) → 0 < b
    some zero k = absurd (k refl)
    some (suc b) k = zero-lt-suc b

    low : (to_bits binary64 x < 2 ^ 63) ⊎ (2 ^ 63 ≤ to_bits binary64 x) → to_bits binary64 x < 2 ^ 63
    low (inl l) = l
    low (inr g) =
        absurd
        (true≢false
        (sym (bits-signed x F n ∙ is_true (leb (2 ^ 63) (to_bits binary64 x)) (le→leb (2 ^ 63) (to_bits binary64 x) g))
        ∙ s))

    at_most : (2047 * 2 ^ 52 ≡ to_bits binary64 x) ⊎ (to_bits binary64 x < 2047 * 2 ^ 52) → to_bits binary64 x < 2047 * 2 ^ 52
    at_most (inl e) =
        absurd (true≢false (sym h ∙ at-pattern (λ y. finite y ≡ false) x (2047 * 2 ^ 52) F (sym e) infinity_read))
    at_most (inr l) = l

    less : (2047 * 2 ^ 52 < to_bits binary64 x) ⊎ (to_bits binary64 x ≤ 2047 * 2 ^ 52) → to_bits binary64 x < 2047 * 2 ^ 52
    less (inl l) = absurd (above_is_nan (to_bits binary64 x) l (low (less_or_not (to_bits binary64 x) (2 ^ 63))) n')
    less (inr g) = at_most (flip (eq-or-lt_of_le g))
      where
        flip :
            (to_bits binary64 x ≡ 2047 * 2 ^ 52) ⊎ (to_bits binary64 x < 2047 * 2 ^ 52) →
            (2047 * 2 ^ 52 ≡ to_bits binary64 x) ⊎ (to_bits binary64 x < 2047 * 2 ^ 52)
        flip (inl e) = inl (sym e)
        flip (inr l) = inr l

-- ---- what stays, and what is left
pub nan-stays : (x : Float) → is_nan x ≡ true → x ≡ square_root binary64 x
unfolding is_nan square_root
nan-stays nan h = refl
nan-stays (inf s) h = absurd (true≢false (sym h))
nan-stays (fin s m e) h = absurd (true≢false (sym h))

-- the pattern of the infinity, as the code compares with it
infinity_is : of_bits binary64 0x7ff0_0000_0000_0000 ≡ inf false
unfolding of_bits
infinity_is = refl

stays : (x : Float) → eq x (inf false) ≡ true → x ≡ square_root binary64 x
unfolding eq square_root
stays nan h = absurd (true≢false (sym h))
stays (inf true) h = absurd (true≢false (sym h))
stays (inf false) h = refl
stays (fin s m e) h = absurd (true≢false (sym h))

pub infinity-stays : (x : Float) → eq x (of_bits binary64 0x7ff0_0000_0000_0000) ≡ true → x ≡ square_root binary64 x
infinity-stays x h = stays x (rw infinity_is at h)

finite_left : (x : Float) → is_nan x ≡ false → eq x (inf false) ≡ false → lt x plus_zero ≡ false → finite x ≡ true
unfolding is_nan eq lt
finite_left nan n h l = absurd (true≢false n)
finite_left (inf true) n h l = absurd (true≢false l)
finite_left (inf false) n h l = absurd (true≢false h)
finite_left (fin s m e) n h l = refl

-- so of what is neither: its pattern
pub bits_left :
    (x : Float) → T (fits binary64 x) → is_nan x ≡ false → eq x plus_zero ≡ false →
    eq x (of_bits binary64 0x7ff0_0000_0000_0000) ≡ false → lt x plus_zero ≡ false →
    (0 < to_bits binary64 x) × (to_bits binary64 x < 2047 * 2 ^ 52)
bits_left x F n z i l =
    let h = finite_left x n (rw infinity_is at i) l in bits_between x F h z (above_unsigned x h z l)

-- ---- below zero
nan_read : of_bits binary64 0x7ff8_0000_0000_0000 ≡ nan
unfolding of_bits
nan_read = refl

pub below_zero : (x : Float) → lt x plus_zero ≡ true → of_bits binary64 0x7ff8_0000_0000_0000 ≡ square_root binary64 x
below_zero x h = nan_read ∙ sym (square_root-below_zero binary64 x (passes (lt x plus_zero) h))
