-- The turn of the loop that brings a value's digits to 53, on plain numbers. Assumes nothing.
use mathlib.Core.Path.{◌≡◌, sym, ap, ◌∙◌, subst}
use Prim.Native.Nat.{ℕ, zero, suc, ◌+◌, ◌-◌, ◌*◌, ◌/◌, ◌%◌, ◌^◌, ◌≤◌, ◌<◌}
use native.Mathlib.Nat.{le_trans, le_of_eq, lt_of_lt_of_le, lt_irrefl, zero-lt-suc, pow-succ', mul_assoc, mul-one, one-mul, mul-le-mul_right}
use native.Mathlib.Omega.{arith}
use lib.Dec.{lit≤}
use lib.Pow.{pow_mono, pow-add}
use lib.Ieee.{binary64, of_bits}
use lib.Ieee.Positive.{first_pos}
use Rattle.method.specs.Root.{count}
use Rattle.method.specs.Root.Patterns.{field_count}
use Rattle.method.proofs.Root.Patterns.{bits-count}

-- the number n, times 2 ^ 1022, is digits * 2 ^ power
pub record Level (n digits power : ℕ) : Type 0 where
  pub value : digits * 2 ^ power ≡ n * 2 ^ 1022
  pub some : 0 < digits
  pub small : digits < 2 ^ 53
  pub bound : power < 3068

no_zero : (n digits : ℕ) → digits * 2 ^ 0 ≡ n * 2 ^ 1022 → 0 < digits → digits < 2 ^ 52 → ⊥
no_zero n digits v s h =
    let e : digits ≡ n * 2 ^ 1022 = sym (mul-one digits) ∙ v in
    let N : 0 < n = first_pos n (2 ^ 1022) (subst (λ (z : ℕ). 0 < z) e s) in
    let big : 2 ^ 52 ≤ digits = le_trans (pow_mono {i = 52} {j = 1022} (lit≤ tt)) (le_trans (le_of_eq (sym (one-mul (2 ^ 1022)))) (le_trans (mul-le-mul_right (2 ^ 1022) N) (le_of_eq (sym e)))) in
    lt_irrefl digits (lt_of_lt_of_le h big)

pub power_pos : (n digits power : ℕ) → Level n digits power → digits < 2 ^ 52 → 0 < power
power_pos n digits zero l h = absurd (no_zero n digits l.value l.some h)
power_pos n digits (suc p) l h = zero-lt-suc p

double : (d p : ℕ) → (d + d) * 2 ^ p ≡ d * 2 ^ suc p
double d p = go d (2 ^ p) ∙ ap (λ (z : ℕ). d * z) (sym (pow-succ' 2 p))
  where
    go : (a b : ℕ) → (a + a) * b ≡ a * (2 * b)
    go a b = omega arith

pub turn : (n digits power : ℕ) → Level n digits power → digits < 2 ^ 52 → Level n (digits + digits) (power - 1)
turn n digits power l h =
    let e = back power (power_pos n digits power l h) in
    record {
      value = double digits (power - 1) ∙ ap (λ (z : ℕ). digits * 2 ^ z) e ∙ l.value;
      some = more digits l.some;
      small = twice digits h;
      bound = less power l.bound;
    }
  where
    back : (p : ℕ) → 0 < p → suc (p - 1) ≡ p
    back p k = omega arith

    more : (d : ℕ) → 0 < d → 0 < d + d
    more d k = omega arith

    twice : (d : ℕ) → d < 2 ^ 52 → d + d < 2 ^ 53
    twice d k = omega arith

    less : (p : ℕ) → p < 3068 → p - 1 < 3068
    less p k = omega arith

-- at the start, without a leading digit and with one
pub start-low :
    (b : ℕ) → 0 < b → b < 2047 * 2 ^ 52 → b / 2 ^ 52 ≡ 0 →
    Level (count binary64 (of_bits binary64 b)) (b % 2 ^ 52) 1022
start-low b s h z = record {
  value = ap (λ (k : ℕ). k * 2 ^ 1022) (sym (bits-count binary64 b h ∙ ap (λ (x : ℕ). field_count binary64 x (b % 2 ^ 52)) z));
  some = some b s z;
  small = small b;
  bound = lit≤ tt;
}
  where
    some : (b : ℕ) → 0 < b → b / 2 ^ 52 ≡ 0 → 0 < b % 2 ^ 52
    some b p q = omega arith

    small : (b : ℕ) → b % 2 ^ 52 < 2 ^ 53
    small b = omega arith

pub start-high :
    (b : ℕ) → b < 2047 * 2 ^ 52 → 0 < b / 2 ^ 52 →
    Level (count binary64 (of_bits binary64 b)) (b % 2 ^ 52 + 2 ^ 52) (b / 2 ^ 52 + 1021)
start-high b h z =
    let t = b % 2 ^ 52 in
    let x = b / 2 ^ 52 in
    let e : suc (x - 1) ≡ x = back x z in
    record {
      value =
          ap (λ (k : ℕ). k * 2 ^ (x + 1021)) (swap t)
          ∙ ap (λ (k : ℕ). (2 ^ 52 + t) * 2 ^ k) (join x z)
          ∙ ap (λ (k : ℕ). (2 ^ 52 + t) * k) (pow-add 2 (x - 1) 1022)
          ∙ sym (mul_assoc (2 ^ 52 + t) (2 ^ (x - 1)) (2 ^ 1022))
          ∙ ap (λ (k : ℕ). k * 2 ^ 1022) (sym (bits-count binary64 b h ∙ ap (λ (k : ℕ). field_count binary64 k t) (sym e)));
      some = some t;
      small = small b;
      bound = bound b h;
    }
  where
    back : (p : ℕ) → 0 < p → suc (p - 1) ≡ p
    back p k = omega arith

    swap : (t : ℕ) → t + 2 ^ 52 ≡ 2 ^ 52 + t
    swap t = omega arith

    join : (x : ℕ) → 0 < x → x + 1021 ≡ x - 1 + 1022
    join x k = omega arith

    some : (t : ℕ) → 0 < t + 2 ^ 52
    some t = omega arith

    small : (b : ℕ) → b % 2 ^ 52 + 2 ^ 52 < 2 ^ 53
    small b = omega arith

    bound : (b : ℕ) → b < 2047 * 2 ^ 52 → b / 2 ^ 52 + 1021 < 3068
    bound b k = omega arith

pub level_at : (n d p d' p' : ℕ) → d ≡ d' → p ≡ p' → Level n d' p' → Level n d p
level_at n d p d' p' e g l = subst (λ (z : ℕ). Level n z p) (sym e) (subst (λ (z : ℕ). Level n d' z) (sym g) l)
