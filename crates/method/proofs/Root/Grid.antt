-- The nearest number to a root, on plain numbers. Assumes nothing.
use Rattle.std.specs.Prelude.{◌≡◌, ◌⊎◌, ℕ, suc, ◌+◌, ◌-◌, ◌*◌, ◌/◌, ◌^◌, ◌≤◌, ◌<◌, Bool, true, false, not, T, ltb}
use Rattle.std.proofs.Common.{sym, ap, ◌∙◌, subst, inl, inr, le_trans, le_of_eq, le_of_lt, le_antisymm, lt_of_lt_of_le, lt_of_le_of_lt, lt_irrefl, eq-or-lt_of_le, mul_comm, mul_assoc, mul-le-mul_right, mul-lt-mul_of_pos_right, mul-pos, le-div_iff_mul-le, div-lt_iff_lt-mul, lt_of_mul-lt-mul_right, le-mul_of_pos_right, arith, ltb→lt, nltb→le, pow_pos, pow_mono, pow-add}
use Rattle.std.proofs.Math.Nat.{mul-mul-mul_comm, pow-succ', eq_of_mul-eq-mul_right}
use Rattle.method.specs.Root.{whole_root}
use Rattle.method.specs.Root.Whole.{IsRoot}
use Rattle.method.proofs.Root.Whole.{sq_le, sq_lt, sq_lt_back, whole_is, four_pow}
use Rattle.method.specs.Root.Grid.{Rounded}

pub less_or_not : (a b : ℕ) → (a < b) ⊎ (b ≤ a)
less_or_not a b = go (ltb a b) (ltb→lt a b) (nltb→le a b)
  where
    go : (t : Bool) → (T t → a < b) → (T (not t) → b ≤ a) → (a < b) ⊎ (b ≤ a)
    go true h k = inl (h tt)
    go false h k = inr (k tt)

pub neither : (a b : ℕ) → (a < b → ⊥) → (b < a → ⊥) → a ≡ b
neither a b h k =
    elim (less_or_not a b)
    [ inl l ↦ absurd (h l) | inr g ↦ elim (less_or_not b a) [ inl l ↦ absurd (k l) | inr l ↦ le_antisymm l g ] ]

-- ---- no tie

-- 4 * n is the square of an odd number times a power of two only if n has more digits than half of that square has

back : (a b : ℕ) → a ≤ b → a + (b - a) ≡ b
back a b h = omega arith

even_odd : (t z : ℕ) → (2 * t + 1) * (2 * t + 1) ≡ 2 * z → ⊥
even_odd t z e = omega arith

split-pow : (u a b : ℕ) → a ≤ b → u * 2 ^ b ≡ u * 2 ^ (b - a) * 2 ^ a
split-pow u a b h =
    ap (λ (z : ℕ). u * 2 ^ z) (sym (back a b h))
    ∙ ap (λ (z : ℕ). u * z) (pow-add 2 a (b - a) ∙ mul_comm (2 ^ a) (2 ^ (b - a)))
    ∙ sym (mul_assoc u (2 ^ (b - a)) (2 ^ a))

-- u is an odd square, at least 2 ^ p, and m is below 2 ^ p
no_equal : (t m a b P : ℕ) → P ≤ (2 * t + 1) * (2 * t + 1) → m < P → (2 * t + 1) * (2 * t + 1) * 2 ^ b ≡ m * 2 ^ a → ⊥
no_equal t m a b P big small e = let u = (2 * t + 1) * (2 * t + 1) in elim (less_or_not b a) [
  | inl l ↦
      let c = a - suc b in
      let f : u * 2 ^ b ≡ m * 2 ^ suc c * 2 ^ b =
      e ∙ split-pow m b a (le_of_lt l) ∙ ap (λ (z : ℕ). m * 2 ^ z * 2 ^ b) (gap b a l) in
      let g : u ≡ m * 2 ^ suc c = eq_of_mul-eq-mul_right (2 ^ b) (pow_pos b) u (m * 2 ^ suc c) f in
      even_odd t (m * 2 ^ c) (g ∙ ap (λ (z : ℕ). m * z) (pow-succ' 2 c) ∙ twice m (2 ^ c))
  | inr l ↦
      let f : u * 2 ^ (b - a) * 2 ^ a ≡ m * 2 ^ a = sym (split-pow u a b l) ∙ e in
      let g : u * 2 ^ (b - a) ≡ m = eq_of_mul-eq-mul_right (2 ^ a) (pow_pos a) (u * 2 ^ (b - a)) m f in
      lt_irrefl m
      (lt_of_lt_of_le small (le_trans big (le_trans (le-mul_of_pos_right u (pow_pos (b - a))) (le_of_eq g))))
]
  where
    gap : (b a : ℕ) → b < a → a - b ≡ suc (a - suc b)
    gap b a l = omega arith

    twice : (m z : ℕ) → m * (2 * z) ≡ 2 * (m * z)
    twice m z = omega arith

-- ---- what `rooted` rounds to

pub double_hid : (p : ℕ) → 2 ≤ p → 2 ^ p ≡ 2 * 2 ^ (p - 1)
double_hid p h = ap (λ (z : ℕ). 2 ^ z) (sym (go p h)) ∙ pow-succ' 2 (p - 1)
  where
    go : (p : ℕ) → 2 ≤ p → suc (p - 1) ≡ p
    go p h = omega arith

four_lt : (a b : ℕ) → a < b → 4 * a < 4 * b
four_lt a b h = omega arith

-- squares of multiples of 2 ^ k
squares : (w d : ℕ) → w * d * (w * d) ≡ w * w * (d * d)
squares w d = mul-mul-mul_comm w d w d

double_square : (x d : ℕ) → 2 * x * d * (2 * x * d) ≡ 4 * (x * d * (x * d))
double_square x d = ap (λ (z : ℕ). z * z) (mul_assoc 2 x d) ∙ mul-mul-mul_comm 2 (x * d) 2 (x * d)

double_pow : (k : ℕ) → 2 ^ k * 2 ^ k ≡ 2 ^ (k + k)
double_pow k = sym (pow-add 2 k k)

module _ (p k n m a : ℕ) (two : 2 ≤ p)
    (lo : 2 ^ (p - 1) * 2 ^ k * (2 ^ (p - 1) * 2 ^ k) ≤ n) (hi : n < 2 ^ p * 2 ^ k * (2 ^ p * 2 ^ k))
    (small : m < 2 ^ p) (is : n ≡ m * 2 ^ a) where
  abbrev w : ℕ
  w = whole_root (suc p) (4 * n / 4 ^ k)

  four_pos : 0 < 4 ^ k
  four_pos = subst (λ (z : ℕ). 0 < z) (sym (four_pow k)) (mul-pos (pow_pos k) (pow_pos k))

  w-is : IsRoot (4 * n / 4 ^ k) w
  w-is =
      whole_is (suc p) (4 * n / 4 ^ k)
      ((div-lt_iff_lt-mul four_pos).1
      (subst (λ (z : ℕ). 4 * n < z) reach (four_lt n (2 ^ p * 2 ^ k * (2 ^ p * 2 ^ k)) hi)))
    where
      reach : 4 * (2 ^ p * 2 ^ k * (2 ^ p * 2 ^ k)) ≡ 4 ^ suc p * 4 ^ k
      reach =
          ap (λ (z : ℕ). 4 * z) (squares (2 ^ p) (2 ^ k)) ∙ sym (mul_assoc 4 (2 ^ p * 2 ^ p) (2 ^ k * 2 ^ k))
          ∙ ap (λ (z : ℕ). 4 * z * (2 ^ k * 2 ^ k)) (sym (four_pow p))
          ∙ ap (λ (z : ℕ). z * (2 ^ k * 2 ^ k)) (sym (pow-succ' 4 p)) ∙ ap (λ (z : ℕ). 4 ^ suc p * z) (sym (four_pow k))

  w-below : w * 2 ^ k * (w * 2 ^ k) ≤ 4 * n
  w-below =
      le_trans (le_of_eq (squares w (2 ^ k) ∙ ap (λ (z : ℕ). w * w * z) (sym (four_pow k))))
      ((le-div_iff_mul-le four_pos).0 w-is.0)

  w-above : 4 * n < (w + 1) * 2 ^ k * ((w + 1) * 2 ^ k)
  w-above =
      lt_of_lt_of_le ((div-lt_iff_lt-mul four_pos).0 w-is.1)
      (le_of_eq (sym (squares (w + 1) (2 ^ k) ∙ ap (λ (z : ℕ). (w + 1) * (w + 1) * z) (sym (four_pow k)))))

  -- w has p + 1 digits
  w-least : 2 ^ p ≤ w
  w-least =
      go (2 ^ p) w
      (lt_of_mul-lt-mul_right (2 ^ k)
      (sq_lt_back (2 ^ p * 2 ^ k) ((w + 1) * 2 ^ k)
      (lt_of_le_of_lt (le_trans (le_of_eq e) (four n (2 ^ (p - 1) * 2 ^ k * (2 ^ (p - 1) * 2 ^ k)) lo)) w-above)))
    where
      go : (x w : ℕ) → x < w + 1 → x ≤ w
      go x w h = omega arith

      four : (a b : ℕ) → b ≤ a → 4 * b ≤ 4 * a
      four a b h = omega arith

      e : 2 ^ p * 2 ^ k * (2 ^ p * 2 ^ k) ≡ 4 * (2 ^ (p - 1) * 2 ^ k * (2 ^ (p - 1) * 2 ^ k))
      e = ap (λ (z : ℕ). z * 2 ^ k * (z * 2 ^ k)) (double_hid p two) ∙ double_square (2 ^ (p - 1)) (2 ^ k)

  w-most : w < 2 * 2 ^ p
  w-most =
      lt_of_mul-lt-mul_right (2 ^ k)
      (sq_lt_back (w * 2 ^ k) (2 * 2 ^ p * 2 ^ k)
      (lt_of_le_of_lt w-below
      (lt_of_lt_of_le (four_lt n (2 ^ p * 2 ^ k * (2 ^ p * 2 ^ k)) hi)
      (le_of_eq (sym (double_square (2 ^ p) (2 ^ k)))))))

  abbrev q : ℕ
  q = (w + 1) / 2

  q-least : 2 ^ (p - 1) ≤ q
  q-least = go (2 ^ p) (2 ^ (p - 1)) w (double_hid p two) w-least
    where
      go : (x y w : ℕ) → x ≡ 2 * y → x ≤ w → y ≤ (w + 1) / 2
      go x y w e h = omega arith

  q-most : q ≤ 2 ^ p
  q-most = go (2 ^ p) w w-most
    where
      go : (x w : ℕ) → w < 2 * x → (w + 1) / 2 ≤ x
      go x w h = omega arith

  -- the odd number before 2 * q
  abbrev t : ℕ
  t = q - 1

  q-pos : 0 < q
  q-pos = lt_of_lt_of_le (pow_pos (p - 1)) q-least

  t-is : 2 * t + 1 ≤ w
  t-is = go w q-pos
    where
      go : (w : ℕ) → 0 < (w + 1) / 2 → 2 * ((w + 1) / 2 - 1) + 1 ≤ w
      go w h = omega arith

  big : 2 ^ p ≤ (2 * t + 1) * (2 * t + 1)
  big = go (2 ^ p) (2 ^ (p - 1)) q (double_hid p two) q-least (pow_mono {i = 1} {j = p - 1} (one_less p two))
    where
      one_less : (p : ℕ) → 2 ≤ p → 1 ≤ p - 1
      one_less p h = omega arith

      go : (x y q : ℕ) → x ≡ 2 * y → y ≤ q → 2 ≤ y → x ≤ (2 * (q - 1) + 1) * (2 * (q - 1) + 1)
      go x y q e h g = at (q - 1) (omega arith) (omega arith)
        where
          at : (t : ℕ) → x ≤ 2 * t + 2 → 1 ≤ t → x ≤ (2 * t + 1) * (2 * t + 1)
          at t a b = omega arith

  strict : (2 * t + 1) * 2 ^ k * ((2 * t + 1) * 2 ^ k) < 4 * n
  strict =
      let odd = (2 * t + 1) * 2 ^ k in
      elim (eq-or-lt_of_le (le_trans (sq_le odd (w * 2 ^ k) (mul-le-mul_right (2 ^ k) t-is)) w-below)) [
        | inl e ↦ absurd
            (no_equal t m (a + 2) (k + k) (2 ^ p) big small
            (sym (squares (2 * t + 1) (2 ^ k) ∙ ap (λ (z : ℕ). (2 * t + 1) * (2 * t + 1) * z) (double_pow k)) ∙ e
            ∙ four_n))
        | inr l ↦ l
      ]
    where
      go : (m z : ℕ) → 4 * (m * z) ≡ m * (z * 4)
      go m z = omega arith

      four_n : 4 * n ≡ m * 2 ^ (a + 2)
      four_n = ap (λ (z : ℕ). 4 * z) is ∙ go m (2 ^ a) ∙ ap (λ (z : ℕ). m * z) (sym (pow-add 2 a 2))

  pub rounded-is : Rounded p k n q
  rounded-is = record {
    from = lo;
    least = q-least;
    most = q-most;
    below =
        λ z h. lt_of_le_of_lt (sq_le (z * 2 ^ k) ((2 * t + 1) * 2 ^ k) (mul-le-mul_right (2 ^ k) (upto z q h))) strict;
    above = lt_of_lt_of_le w-above (sq_le ((w + 1) * 2 ^ k) ((2 * q + 1) * 2 ^ k) (mul-le-mul_right (2 ^ k) (over w)));
  }
    where
      upto : (z q : ℕ) → z < 2 * q → z ≤ 2 * (q - 1) + 1
      upto z q h = omega arith

      over : (w : ℕ) → w + 1 ≤ 2 * ((w + 1) / 2) + 1
      over w = omega arith

-- ---- every other number of p digits times a power of two lies beyond a midpoint

low_is_less : (p k u j : ℕ) → 2 ≤ p → u < 2 ^ p → j < k → u * 2 ^ j < 2 ^ (p - 1) * 2 ^ k
low_is_less p k u j two h l =
    lt_of_lt_of_le (mul-lt-mul_of_pos_right h (pow_pos j))
    (le_trans (le_of_eq (sym (pow-add 2 p j)))
    (le_trans (pow_mono (room p j k two l)) (le_of_eq (pow-add 2 (p - 1) k))))
  where
    room : (p j k : ℕ) → 2 ≤ p → j < k → p + j ≤ p - 1 + k
    room p j k a b = omega arith

add_mult : (v q d : ℕ) → v * d + q * d ≡ (v + q) * d
add_mult v q d = omega arith

twice-lt : (v q : ℕ) → v < q → v + q < 2 * q
twice-lt v q h = omega arith

more-than : (v q : ℕ) → q < v → 2 * q + 1 ≤ q + v
more-than v q h = omega arith

module _ (p k n q : ℕ) (two : 2 ≤ p) (r : Rounded p k n q) (u j : ℕ) (small : u < 2 ^ p) where
  pub near_lower : u * 2 ^ j < q * 2 ^ k → (u * 2 ^ j + q * 2 ^ k) * (u * 2 ^ j + q * 2 ^ k) < 4 * n
  near_lower h = elim (less_or_not j k) [ inl l ↦ fine l (eq-or-lt_of_le r.least) | inr l ↦ coarse l ]
    where
      coarse : k ≤ j → (u * 2 ^ j + q * 2 ^ k) * (u * 2 ^ j + q * 2 ^ k) < 4 * n
      coarse l =
          let v = u * 2 ^ (j - k) in
          let e = split-pow u k j l in
          let less : v < q = lt_of_mul-lt-mul_right (2 ^ k) (subst (λ (z : ℕ). z < q * 2 ^ k) e h) in
          subst (λ (z : ℕ). z * z < 4 * n) (sym (ap (λ (z : ℕ). z + q * 2 ^ k) e ∙ add_mult v q (2 ^ k)))
          (r.below (v + q) (twice-lt v q less))

      fine : j < k → (2 ^ (p - 1) ≡ q) ⊎ (2 ^ (p - 1) < q) → (u * 2 ^ j + q * 2 ^ k) * (u * 2 ^ j + q * 2 ^ k) < 4 * n
      fine l (inl e) =
          let B = 2 ^ (p - 1) * 2 ^ k in
          lt_of_lt_of_le
          (sq_lt (u * 2 ^ j + q * 2 ^ k) (B + B)
          (below-twice (u * 2 ^ j) (q * 2 ^ k) B (low_is_less p k u j two small l) (ap (λ (z : ℕ). z * 2 ^ k) (sym e))))
          (four B n r.from)
        where
          below-twice : (y r b : ℕ) → y < b → r ≡ b → y + r < b + b
          below-twice y r b g f = omega arith

          four : (b n : ℕ) → b * b ≤ n → (b + b) * (b + b) ≤ 4 * n
          four b n g = omega arith
      fine l (inr g) =
          let B = 2 ^ (p - 1) in
          lt_of_le_of_lt
          (sq_le (u * 2 ^ j + q * 2 ^ k) ((B + q) * 2 ^ k)
          (le_trans (add_le (u * 2 ^ j) (B * 2 ^ k) (q * 2 ^ k) (low_is_less p k u j two small l))
          (le_of_eq (add_mult B q (2 ^ k)))))
          (r.below (B + q) (twice-lt B q g))
        where
          add_le : (y b r : ℕ) → y < b → y + r ≤ b + r
          add_le y b r f = omega arith

  pub near_upper : q * 2 ^ k < u * 2 ^ j → 4 * n < (q * 2 ^ k + u * 2 ^ j) * (q * 2 ^ k + u * 2 ^ j)
  near_upper h = elim (less_or_not j k) [
    | inl l ↦ absurd
        (lt_irrefl (u * 2 ^ j)
        (lt_of_lt_of_le (low_is_less p k u j two small l)
        (le_trans (mul-le-mul_right (2 ^ k) r.least) (le_of_lt h))))
    | inr l ↦
        let v = u * 2 ^ (j - k) in
        let e = split-pow u k j l in
        let less : q < v = lt_of_mul-lt-mul_right (2 ^ k) (subst (λ (z : ℕ). q * 2 ^ k < z) e h) in
        subst (λ (z : ℕ). 4 * n < z * z) (sym (ap (λ (z : ℕ). q * 2 ^ k + z) e ∙ add_mult q v (2 ^ k)))
        (lt_of_lt_of_le r.above
        (sq_le ((2 * q + 1) * 2 ^ k) ((q + v) * 2 ^ k) (mul-le-mul_right (2 ^ k) (more-than v q less))))
  ]
