-- The bit pattern of a root: the digits that were dropped, counted in the exponent's field, and what was kept added.
-- Assumes nothing.
use Rattle.std.specs.Prelude.{◌≡◌, refl, ℕ, suc, ◌+◌, ◌-◌, ◌*◌, ◌/◌, ◌^◌, ◌≤◌, ◌<◌, T, Float}
use Rattle.std.proofs.Common.{sym, ap, ◌∙◌, subst, inl, inr, le_trans, le_of_eq, le_antisymm, lt_of_lt_of_le, lt_of_le_of_lt, lt_irrefl, lt_of_not-le, eq-or-lt_of_le, mul_comm, mul_assoc, mul-le-mul_right, mul-div_cancel, arith, pow_pos, pow_mono, pow-add, shl_lt}
use Rattle.std.proofs.Math.Nat.{pow-succ'}
use Rattle.std.proofs.Math.Pow.{pow-lt}
use Rattle.std.specs.Float.{Format}
use Rattle.std.specs.Float.Ieee.{prec, hid, size, fits, of_bits, to_bits}
use Rattle.std.specs.Float.Ieee.Bits.{of_bits-to_bits}
use Rattle.std.specs.Float.Ieee.Digits.{size-lt, size-le}
use Rattle.std.specs.Float.Ieee.Fits.{two}
use Rattle.std.specs.Float.Ieee.Positive.{positive}
use Rattle.method.specs.Root.{dropped, leading, square, rooted}
use Rattle.method.proofs.Root.Grid.{double_hid}
use Rattle.method.specs.Root.Counts.{pattern}
use Rattle.method.proofs.Root.Counts.{to_bits_count}
use Rattle.method.proofs.Root.Laws.{square-rounding, square-count, square-positive, square-fits}

pub pow_lt_back : (i p : ℕ) → 2 ^ i < 2 ^ p → i < p
pow_lt_back i p h = lt_of_not-le (λ (g : p ≤ i). lt_irrefl (2 ^ i) (lt_of_lt_of_le h (pow_mono g)))

size_exact : (a n : ℕ) → 2 ^ a ≤ n → n < 2 ^ suc a → size n ≡ suc a
size_exact a n lo hi = le_antisymm (size-le n (suc a) hi) (pow_lt_back a (size n) (lt_of_le_of_lt lo (size-lt n)))

-- ---- a number of p digits, or 2 ^ p, times 2 ^ k: its pattern is k in the exponent's field, and the number added
pattern-under : (f : Format) (k q : ℕ) → 2 ^ (prec f - 1) ≤ q → q < 2 ^ prec f → pattern f (q * 2 ^ k) ≡ k * hid f + q
pattern-under f k q lo hi =
    let n = q * 2 ^ k in
    let z : size n ≡ suc (prec f - 1 + k) =
    size_exact (prec f - 1 + k) n (le_trans (le_of_eq (pow-add 2 (prec f - 1) k)) (mul-le-mul_right (2 ^ k) lo))
    (lt_of_lt_of_le (shl_lt (prec f) k hi) (pow_mono (more (prec f) k (two f)))) in
    let d : size n - prec f ≡ k = ap (λ (y : ℕ). y - prec f) z ∙ less (prec f) k (two f) in
    ap (λ (y : ℕ). y * hid f + n / 2 ^ y) d ∙ ap (λ (y : ℕ). k * hid f + y) (mul-div_cancel q (pow_pos k))
  where
    more : (p k : ℕ) → 2 ≤ p → p + k ≤ suc (p - 1 + k)
    more p k h = omega arith

    less : (p k : ℕ) → 2 ≤ p → suc (p - 1 + k) - p ≡ k
    less p k h = omega arith

pattern-at : (f : Format) (k : ℕ) → pattern f (2 ^ prec f * 2 ^ k) ≡ k * hid f + 2 ^ prec f
pattern-at f k =
    let n = 2 ^ prec f * 2 ^ k in
    let h = hid f in
    let e : n ≡ h * 2 ^ suc k =
    ap (λ (y : ℕ). y * 2 ^ k) (double_hid (prec f) (two f) ∙ mul_comm 2 h) ∙ mul_assoc h 2 (2 ^ k)
    ∙ ap (λ (y : ℕ). h * y) (sym (pow-succ' 2 k)) in
    ap (λ (y : ℕ). pattern f y) e
    ∙ pattern-under f (suc k) h (le_of_eq refl) (pow-lt (less (prec f) (two f)))
    ∙ go k h (2 ^ prec f) (double_hid (prec f) (two f))
  where
    less : (p : ℕ) → 2 ≤ p → p - 1 < p
    less p h = omega arith

    go : (k h x : ℕ) → x ≡ 2 * h → suc k * h + h ≡ k * h + x
    go k h x e = omega arith

pattern-is : (f : Format) (k q : ℕ) → 2 ^ (prec f - 1) ≤ q → q ≤ 2 ^ prec f → pattern f (q * 2 ^ k) ≡ k * hid f + q
pattern-is f k q lo hi =
    elim (eq-or-lt_of_le hi) [
      | inl e ↦ subst (λ (z : ℕ). pattern f (z * 2 ^ k) ≡ k * hid f + z) (sym e)
          (pattern-at f k)
      | inr l ↦ pattern-under f k q lo l
    ]

-- ---- the root's pattern, in either format
pub square_root-pattern :
    (f : Format) (x : Float) → T (fits f x) → T (positive x) →
    to_bits f (rooted f (square f x)) ≡ dropped f (square f x) * hid f + leading f (square f x)
square_root-pattern f x h p =
    let r = square-rounding f x h p in
    to_bits_count f (rooted f (square f x)) (square-positive f x h p)
    ∙ ap (λ (z : ℕ). pattern f z) (square-count f x h p)
    ∙ pattern-is f (dropped f (square f x)) (leading f (square f x)) r.least r.most

pub root_read :
    (f : Format) (x : Float) → T (fits f x) → T (positive x) →
    of_bits f (dropped f (square f x) * hid f + leading f (square f x)) ≡ rooted f (square f x)
root_read f x h p =
    ap (λ (z : ℕ). of_bits f z) (sym (square_root-pattern f x h p))
    ∙ of_bits-to_bits f (rooted f (square f x)) (square-fits f x h p)
