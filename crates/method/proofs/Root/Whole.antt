-- `whole_root` is the whole part of a root, and no other number is. Assumes nothing.
use Rattle.std.specs.Prelude.{◌≡◌, refl, ℕ, zero, suc, ◌+◌, ◌*◌, ◌/◌, ◌^◌, ◌≤◌, ◌<◌, Bool, true, false, not, cond, T, leb}
use Rattle.std.proofs.Common.{sym, ap, ◌∙◌, subst, le_antisymm, lt_of_lt_of_le, lt_of_le_of_lt, lt_of_not-le, lt_irrefl, mul-le-mul, arith, leb→le}
use Rattle.std.proofs.Math.Nat.{mul-mul-mul_comm, pow-succ'}
use Rattle.std.proofs.Math.Dec.{nleb→lt}
use Rattle.method.specs.Root.{digit, whole_root}
use Rattle.method.specs.Root.Whole.{IsRoot}

-- ---- squares and their order
pub sq_le : (a b : ℕ) → a ≤ b → a * a ≤ b * b
sq_le a b h = mul-le-mul h h

pub sq_lt : (a b : ℕ) → a < b → a * a < b * b
sq_lt a b h = lt_of_lt_of_le (step a) (sq_le (suc a) b h)
  where
    step : (a : ℕ) → a * a < suc a * suc a
    step a = omega arith

pub sq_lt_back : (a b : ℕ) → a * a < b * b → a < b
sq_lt_back a b h = lt_of_not-le (λ (g : b ≤ a). lt_irrefl (a * a) (lt_of_lt_of_le h (sq_le b a g)))

-- ---- the whole part of a root is one number
add_one_back : (r s : ℕ) → r < s + 1 → r ≤ s
add_one_back r s h = omega arith

pub root_unique : (n r s : ℕ) → IsRoot n r → IsRoot n s → r ≡ s
root_unique n r s p q =
    le_antisymm (add_one_back r s (sq_lt_back r (s + 1) (lt_of_le_of_lt p.0 q.1)))
    (add_one_back s r (sq_lt_back s (r + 1) (lt_of_le_of_lt q.0 p.1)))

-- ---- one digit more
digit-is : (n r : ℕ) → IsRoot (n / 4) r → IsRoot n (digit n r)
digit-is n r p =
    go (leb ((2 * r + 1) * (2 * r + 1)) n) (leb→le ((2 * r + 1) * (2 * r + 1)) n)
    (nleb→lt ((2 * r + 1) * (2 * r + 1)) n) p.0 p.1
  where
    yes_is : (2 * r + 1) * (2 * r + 1) ≤ n → n / 4 < (r + 1) * (r + 1) → IsRoot n (2 * r + 1)
    yes_is a b = omega arith

    no_is : n < (2 * r + 1) * (2 * r + 1) → r * r ≤ n / 4 → IsRoot n (2 * r)
    no_is a b = omega arith

    go :
        (b : Bool) → (T b → (2 * r + 1) * (2 * r + 1) ≤ n) → (T (not b) → n < (2 * r + 1) * (2 * r + 1)) →
        r * r ≤ n / 4 → n / 4 < (r + 1) * (r + 1) →
        IsRoot n (cond b (2 * r + 1) (2 * r))
    go true a b lo hi = yes_is (a tt) hi
    go false a b lo hi = no_is (b tt) lo

quarter : (n q : ℕ) → n < 4 * q → n / 4 < q
quarter n q h = omega arith

none : (n : ℕ) → n < 1 → IsRoot n 0
none n h = omega arith

pub whole_is : (d n : ℕ) → n < 4 ^ d → IsRoot n (whole_root d n)
unfolding whole_root
whole_is zero n h = none n h
whole_is (suc d) n h =
    digit-is n (whole_root d (n / 4))
    (whole_is d (n / 4) (quarter n (4 ^ d) (subst (λ (z : ℕ). n < z) (pow-succ' 4 d) h)))

pub four_pow : (k : ℕ) → 4 ^ k ≡ 2 ^ k * 2 ^ k
four_pow zero = refl
four_pow (suc k) =
    pow-succ' 4 k ∙ ap (λ (z : ℕ). 4 * z) (four_pow k) ∙ mul-mul-mul_comm 2 2 (2 ^ k) (2 ^ k)
    ∙ sym (ap (λ (z : ℕ). z * z) (pow-succ' 2 k))
