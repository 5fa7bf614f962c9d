-- The number and the power that `halve` gives are those of the definition, and the pattern that `root_bits` joins from
-- the power and the rounded root is the pattern of `rooted`. Assumes nothing.
use mathlib.Core.Path.{◌≡◌, sym, ap, ◌∙◌, subst}
use Prim.Native.Nat.{ℕ, suc, ◌+◌, ◌-◌, ◌*◌, ◌/◌, ◌%◌, ◌^◌, ◌≤◌, ◌<◌}
use native.Mathlib.Nat.{le_refl, le_trans, le_of_eq, lt_of_lt_of_le, lt_of_le_of_lt, mul_assoc, mul_comm, mul-pos, mul-le-mul_right, mul-div_cancel, pow-succ'}
use native.Mathlib.Omega.{arith}
use lib.Dec.{T}
use lib.Pow.{pow_pos, pow_mono, pow-add, shl_lt}
use lib.Ieee.{binary64, size, of_bits}
use lib.Ieee.Bits.{of_bits-fits}
use lib.Ieee.Digits.{size-lt, size-le}
use lib.Ieee.Positive.{positive, first_pos, positive_of_value}
use Rattle.method.specs.Root.{dropped, count, square, rooted}
use Rattle.method.proofs.Root.Whole.{four_pow}
use Rattle.method.proofs.Root.Laws.{square_root-of}
use Rattle.method.proofs.Root.Written.{pow_lt_back}
use Rattle.method.specs.Root.Paper.{Line, start, first, turns, rounded, halved}
use Rattle.method.proofs.Root.Page.{page-last, page-root}
use Rattle.method.specs.Root.Patterns.{field_count}
use Rattle.method.proofs.Root.Patterns.{bits-val, bits-count}

-- ---- what the code has of the square n: n is X * 2 ^ (2 * h + 52), where X has 53 or 54 digits
module _ (n X h : ℕ) (lo : 2 ^ 52 ≤ X) (hi : X < 2 ^ 54) (is : n ≡ X * 2 ^ (h + h + 52)) where
  size_lo : 104 + (h + h) < size n
  size_lo = pow_lt_back (104 + (h + h)) (size n) (lt_of_le_of_lt (le_trans (pow_mono (go h)) (le_trans (le_of_eq (pow-add 2 52 (h + h + 52))) (le_trans (mul-le-mul_right (2 ^ (h + h + 52)) lo) (le_of_eq (sym is))))) (size-lt n))
    where
      go : (h : ℕ) → 104 + (h + h) ≤ 52 + (h + h + 52)
      go h = omega arith

  size_hi : size n ≤ 106 + (h + h)
  size_hi = size-le n (106 + (h + h)) (lt_of_le_of_lt (le_of_eq is) (lt_of_lt_of_le (shl_lt 54 (h + h + 52) hi) (pow_mono (go h))))
    where
      go : (h : ℕ) → 54 + (h + h + 52) ≤ 106 + (h + h)
      go h = omega arith

  dropped-is : dropped binary64 n ≡ h
  dropped-is = go (size n) h size_lo size_hi
    where
      go : (z h : ℕ) → 104 + (h + h) < z → z ≤ 106 + (h + h) → (z + 1) / 2 - 53 ≡ h
      go z h a b = omega arith

  -- so the number and the power are those of the definition
  number_is : n / (2 ^ 52 * 4 ^ dropped binary64 n) ≡ X
  number_is =
      ap (λ (z : ℕ). n / (2 ^ 52 * 4 ^ z)) dropped-is
      ∙ ap (λ (z : ℕ). z / (2 ^ 52 * 4 ^ h)) unit
      ∙ mul-div_cancel X (mul-pos (pow_pos 52) four_pos)
    where
      four_pos : 0 < 4 ^ h
      four_pos = subst (λ (z : ℕ). 0 < z) (sym (four_pow h)) (mul-pos (pow_pos h) (pow_pos h))

      unit : n ≡ X * (2 ^ 52 * 4 ^ h)
      unit =
          is
          ∙ ap (λ (z : ℕ). X * z)
          (pow-add 2 (h + h) 52 ∙ mul_comm (2 ^ (h + h)) (2 ^ 52)
          ∙ ap (λ (z : ℕ). 2 ^ 52 * z) (pow-add 2 h h ∙ sym (four_pow h)))

-- ---- the value of a pattern between zero's and the infinity's
pub count-some :
    (b d e : ℕ) → 0 < d → d * 2 ^ e ≡ count binary64 (of_bits binary64 b) * 2 ^ 1022 →
    0 < count binary64 (of_bits binary64 b)
count-some b d e s v = first_pos (count binary64 (of_bits binary64 b)) (2 ^ 1022) (subst (λ (z : ℕ). 0 < z) v (mul-pos s (pow_pos e)))

pub bits_positive :
    (b : ℕ) → b < 2047 * 2 ^ 52 → 0 < count binary64 (of_bits binary64 b) → T (positive (of_bits binary64 b))
bits_positive b h s =
    positive_of_value (of_bits binary64 b) (field_count binary64 (b / 2 ^ 52) (b % 2 ^ 52)) (2 ^ 1074) (bits-val binary64 b h)
    (subst (λ (z : ℕ). 0 < z) (bits-count binary64 b h) s)

-- the power's half h, and the digits doubled where the power is odd
pub twice-odd : (d e X : ℕ) → X ≡ d + d → e / 2 + e / 2 < e → d * 2 ^ e ≡ X * 2 ^ (e / 2 + e / 2)
twice-odd d e X x l =
    ap (λ (z : ℕ). d * 2 ^ z) (odd_is e l) ∙ ap (λ (z : ℕ). d * z) (pow-succ' 2 (e / 2 + e / 2)) ∙ go d (2 ^ (e / 2 + e / 2)) ∙ ap (λ (z : ℕ). z * 2 ^ (e / 2 + e / 2)) (sym x)
  where
    odd_is : (e : ℕ) → e / 2 + e / 2 < e → e ≡ suc (e / 2 + e / 2)
    odd_is e l = omega arith

    go : (d z : ℕ) → d * (2 * z) ≡ (d + d) * z
    go d z = omega arith

pub once_even : (d e X : ℕ) → X ≡ d → e ≤ e / 2 + e / 2 → d * 2 ^ e ≡ X * 2 ^ (e / 2 + e / 2)
once_even d e X x l = ap (λ (z : ℕ). d * 2 ^ z) (even_is e l) ∙ ap (λ (z : ℕ). z * 2 ^ (e / 2 + e / 2)) (sym x)
  where
    even_is : (e : ℕ) → e ≤ e / 2 + e / 2 → e ≡ e / 2 + e / 2
    even_is e l = omega arith

-- all together
pub halved_is :
    (b d e X h : ℕ) → d * 2 ^ e ≡ count binary64 (of_bits binary64 b) * 2 ^ 1022 → 2 ^ 52 ≤ X → X < 2 ^ 54 →
    d * 2 ^ e ≡ X * 2 ^ (h + h) →
    start X h ≡ halved binary64 (of_bits binary64 b)
halved_is b d e X h v lo hi x =
    let c = count binary64 (of_bits binary64 b) in
    let is : square binary64 (of_bits binary64 b) ≡ X * 2 ^ (h + h + 52) =
    ap (λ (z : ℕ). c * z) (pow-add 2 1022 52) ∙ sym (mul_assoc c (2 ^ 1022) (2 ^ 52)) ∙ ap (λ (z : ℕ). z * 2 ^ 52) (sym v ∙ x) ∙ mul_assoc X (2 ^ (h + h)) (2 ^ 52) ∙ ap (λ (z : ℕ). X * z) (sym (pow-add 2 (h + h) 52)) in
    sym (both (number_is (square binary64 (of_bits binary64 b)) X h lo hi is) (dropped-is (square binary64 (of_bits binary64 b)) X h lo hi is))
  where
    both : {n n' p p' : ℕ} → n ≡ n' → p ≡ p' → start n p ≡ start n' p'
    both {n' = n'} {p = p} e g = ap (λ (z : ℕ). start z p) e ∙ ap (λ (z : ℕ). start n' z) g

-- the page's last line, rounded, and the halved power are the root's pattern
pub joined :
    (b r : ℕ) → b < 2047 * 2 ^ 52 → 0 < count binary64 (of_bits binary64 b) →
    r ≡ (halved binary64 (of_bits binary64 b)).power * 2 ^ 52
    + rounded (turns 54 (first 54 (halved binary64 (of_bits binary64 b)).number)).root →
    of_bits binary64 r ≡ rooted binary64 (square binary64 (of_bits binary64 b))
joined b r B some is =
    let y = of_bits binary64 b in
    let p = bits_positive b B some in
    ap (λ (z : ℕ). of_bits binary64 z)
    (is ∙ ap (λ (l : Line). (halved binary64 y).power * 2 ^ 52 + rounded l.root) (sym (page-last binary64 y 54 (le_refl 54))))
    ∙ sym (page-root binary64 y (of_bits-fits binary64 b) p) ∙ square_root-of binary64 y p
