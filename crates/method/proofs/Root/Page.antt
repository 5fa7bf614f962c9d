-- The page of a positive value is for its root, in either format: the number and the power are exactly the value's, and
-- what the last line's root is rounded to is what the format keeps of it. Assumes nothing.
use Rattle.std.specs.Prelude.{◌≡◌, Bool, false, cond, ℕ, zero, suc, ◌+◌, ◌-◌, ◌*◌, ◌/◌, ◌^◌, ◌≤◌, ◌<◌, ℤ, T, Float}
use Rattle.std.proofs.Common.{sym, ap, ◌∙◌, subst, inl, inr, le_refl, le_trans, le_of_eq, le_of_lt, eq-or-lt_of_le, lt_of_lt_of_le, lt_of_le_of_lt, mul-le-mul_right, mul-lt-mul_of_pos_right, mul_assoc, mul-pos, mul-div_cancel, zero-mul, zero-lt-suc, le-div_iff_mul-le, div-lt_iff_lt-mul, arith, lt→ltb, le-leb, pow_pos, pow_mono, pow-add, shl_lt}
use Rattle.std.proofs.Math.Nat.{pow-succ'}
use Rattle.std.proofs.lemmas.Bool.{lt-leb}
use Rattle.std.specs.Float.{nan, inf, fin, Format}
use Rattle.std.specs.Float.Ieee.{prec, low, hid, size, fits, of_bits}
use Rattle.std.specs.Float.Ieee.Digits.{size-lt, size-le}
use Rattle.std.specs.Float.Ieee.Fits.{two}
use Rattle.std.specs.Float.Ieee.Positive.{positive}
use Rattle.method.specs.Root.{square, dropped, leading, whole_root, square_root}
use Rattle.method.proofs.Root.Whole.{sq_lt_back, whole_is, four_pow}
use Rattle.method.proofs.Root.Grid.{double_hid}
use Rattle.method.proofs.Root.Counts.{count-zero}
use Rattle.method.proofs.Root.Laws.{square_root-of, wide, size_gt, sh, square-least, square-is, square-rounding}
use Rattle.method.proofs.Root.Written.{root_read}
use Rattle.method.specs.Root.Paper.{Line, turn, turns, first, rounded, places, halved, page}
use Rattle.method.specs.Root.Turns.{Found}
use Rattle.method.proofs.Root.Turns.{first_found, turns-found, rounded-is}

-- ---- the page's lines

-- as many turns are made as are asked for, up to the last
pub page-all :
    (f : Format) (x : Float) (k : ℕ) → k ≤ places f → page f x k ≡ turns k (first (places f) (halved f x).number)
unfolding page
page-all f x k h =
    ap (λ (b : Bool). turns (cond b k (places f)) (first (places f) (halved f x).number)) (le-leb k (places f) h)

-- the first line, each line from the one before it, and the last line, which stays
pub page-first : (f : Format) (x : Float) → page f x 0 ≡ first (places f) (halved f x).number
unfolding turns
page-first f x = page-all f x 0 (omega arith)

pub page-turn : (f : Format) (x : Float) (k : ℕ) → k < places f → page f x (suc k) ≡ turn (page f x k)
unfolding turns
page-turn f x k h = page-all f x (suc k) h ∙ ap turn (sym (page-all f x k (le_of_lt h)))

pub page-last :
    (f : Format) (x : Float) (k : ℕ) → places f ≤ k →
    page f x k ≡ turns (places f) (first (places f) (halved f x).number)
unfolding page
page-last f x k h =
    elim (eq-or-lt_of_le h) [
      | inl e ↦ subst
          (λ (j : ℕ). page f x j ≡ turns (places f) (first (places f) (halved f x).number)) e
          (page-all f x (places f) (le_refl (places f)))
      | inr l ↦ past l
    ]
  where
    past : places f < k → page f x k ≡ turns (places f) (first (places f) (halved f x).number)
    past l =
        ap (λ (b : Bool). turns (cond b k (places f)) (first (places f) (halved f x).number)) (lt-leb k (places f) l)

-- ---- the number and the power

-- what the number is counted in is a power of two
unit_is : (f : Format) (k : ℕ) → hid f * 4 ^ k ≡ 2 ^ (prec f - 1 + (k + k))
unit_is f k =
    ap (λ (z : ℕ). hid f * z) (four_pow k ∙ sym (pow-add 2 k k)) ∙ sym (pow-add 2 (prec f - 1) (k + k))

unit_pos : (f : Format) (k : ℕ) → 0 < hid f * 4 ^ k
unit_pos f k = subst (λ (z : ℕ). 0 < z) (sym (unit_is f k)) (pow_pos (prec f - 1 + (k + k)))

module _ (f : Format) (x : Float) (h : T (fits f x)) (p : T (positive x)) where
  abbrev n : ℕ
  n = square f x

  abbrev k : ℕ
  k = dropped f (square f x)

  -- the value's own power of two has room for it
  room : prec f - 1 + (k + k) ≤ (sh f x h p).power + low f
  room =
      go (size n) (prec f) ((sh f x h p).power + low f) (low f) (two f) (wide f)
      (size_gt n (low f) (square-least f x h p))
      (size-le n (prec f + ((sh f x h p).power + low f))
      (subst (λ (z : ℕ). z < 2 ^ (prec f + ((sh f x h p).power + low f))) (sym (square-is f x h p))
      (shl_lt (prec f) ((sh f x h p).power + low f) (sh f x h p).small)))
    where
      go :
          (z p a l : ℕ) → 2 ≤ p → 2 * p ≤ suc l → l < z → z ≤ p + a →
          p - 1 + ((z + 1) / 2 - p + ((z + 1) / 2 - p)) ≤ a
      go z p a l c d e g = omega arith

  -- the value's own digits, and how many places further up they stand
  abbrev further : ℕ
  further = (sh f x h p).power + low f - (prec f - 1 + (k + k))

  shifted : n ≡ (sh f x h p).digits * 2 ^ further * (hid f * 4 ^ k)
  shifted =
      let a = (sh f x h p).power + low f in
      let s = prec f - 1 + (k + k) in
      let m = (sh f x h p).digits in
      square-is f x h p
      ∙ ap (λ (z : ℕ). m * 2 ^ z) (sym (back a s room))
      ∙ ap (λ (z : ℕ). m * z) (pow-add 2 (a - s) s)
      ∙ sym (mul_assoc m (2 ^ (a - s)) (2 ^ s))
      ∙ ap (λ (z : ℕ). m * 2 ^ (a - s) * z) (sym (unit_is f k))
    where
      back : (a s : ℕ) → s ≤ a → a - s + s ≡ a
      back a s g = omega arith

  number_digits : (halved f x).number ≡ (sh f x h p).digits * 2 ^ further
  number_digits =
      ap (λ (z : ℕ). z / (hid f * 4 ^ k)) shifted ∙ mul-div_cancel ((sh f x h p).digits * 2 ^ further) (unit_pos f k)

  -- nothing is lost
  pub number-exact : square f x ≡ (halved f x).number * (hid f * 4 ^ dropped f (square f x))
  number-exact = shifted ∙ ap (λ (z : ℕ). z * (hid f * 4 ^ k)) (sym number_digits)

  -- the number has no more digits than are found
  pub number_small : (halved f x).number < 2 ^ places f
  number_small =
      (div-lt_iff_lt-mul (unit_pos f k)).1
      (lt_of_lt_of_le (size-lt n)
      (le_trans (pow_mono (go (size n) (prec f) (two f)))
      (le_of_eq (pow-add 2 (places f) (prec f - 1 + (k + k)) ∙ ap (λ (z : ℕ). 2 ^ places f * z) (sym (unit_is f k))))))
    where
      go : (z p : ℕ) → 2 ≤ p → z ≤ suc p + (p - 1 + ((z + 1) / 2 - p + ((z + 1) / 2 - p)))
      go z p c = omega arith

  -- and no fewer than the format keeps
  pub number-least : hid f ≤ (halved f x).number
  number-least =
      (le-div_iff_mul-le (unit_pos f k)).1
      (le_trans (le_of_eq (go (hid f) (2 ^ k) (4 ^ k) (four_pow k))) (square-rounding f x h p).from)
    where
      go : (a b c : ℕ) → c ≡ b * b → a * (a * c) ≡ a * b * (a * b)
      go a b c e = ap (λ (z : ℕ). a * (a * z)) e ∙ swapped a b
        where
          swapped : (a b : ℕ) → a * (a * (b * b)) ≡ a * b * (a * b)
          swapped a b = omega arith

  -- One of more digits than the format keeps is even: so it is 2 below the next power of two at the least.
  pub number-most : (halved f x).number + 2 ≤ 2 ^ places f
  number-most =
      subst (λ (z : ℕ). z + 2 ≤ 2 ^ places f) (sym number_digits)
      (by further (subst (λ (z : ℕ). z < 2 ^ places f) number_digits number_small))
    where
      plain : (m q b : ℕ) → m < q → 2 ≤ q → b ≡ 2 * q → m * 1 + 2 ≤ b
      plain m q b l g e = omega arith

      even : (m z b q : ℕ) → m * (2 * z) < b → b ≡ 2 * q → m * (2 * z) + 2 ≤ b
      even m z b q l e = omega arith

      by : (j : ℕ) → (sh f x h p).digits * 2 ^ j < 2 ^ places f → (sh f x h p).digits * 2 ^ j + 2 ≤ 2 ^ places f
      by zero l =
          plain (sh f x h p).digits (2 ^ prec f) (2 ^ places f) (sh f x h p).small
          (pow_mono {i = 1} {j = prec f} (one-le (prec f) (two f))) (pow-succ' 2 (prec f))
        where
          one-le : (q : ℕ) → 2 ≤ q → 1 ≤ q
          one-le q g = omega arith
      by (suc j) l =
          subst (λ (z : ℕ). (sh f x h p).digits * z + 2 ≤ 2 ^ places f) (sym (pow-succ' 2 j))
          (even (sh f x h p).digits (2 ^ j) (2 ^ places f) (2 ^ prec f)
          (subst (λ (z : ℕ). (sh f x h p).digits * z < 2 ^ places f) (pow-succ' 2 j) l) (pow-succ' 2 (prec f)))

  -- ---- the result
  kept : 4 * n / 4 ^ k ≡ (halved f x).number * 2 ^ places f
  kept =
      ap (λ (z : ℕ). 4 * z / 4 ^ k) number-exact
      ∙ ap (λ (z : ℕ). z / 4 ^ k)
      (go (halved f x).number (hid f) (4 ^ k) (2 ^ prec f) (2 ^ places f) (double_hid (prec f) (two f)) (pow-succ' 2 (prec f)))
      ∙ mul-div_cancel ((halved f x).number * 2 ^ places f) four_pos
    where
      four_pos : 0 < 4 ^ k
      four_pos = subst (λ (z : ℕ). 0 < z) (sym (four_pow k)) (mul-pos (pow_pos k) (pow_pos k))

      go : (x h q c b : ℕ) → c ≡ 2 * h → b ≡ 2 * c → 4 * (x * (h * q)) ≡ x * b * q
      go x h q c b e g = turned x h q ∙ ap (λ (z : ℕ). x * z * q) (four h c b e g)
        where
          turned : (x h q : ℕ) → 4 * (x * (h * q)) ≡ x * (4 * h) * q
          turned x h q = omega arith

          four : (h c b : ℕ) → c ≡ 2 * h → b ≡ 2 * c → 4 * h ≡ b
          four h c b e g = omega arith

  -- what is kept of the root is what the last line's root is rounded to
  pub page-leading : rounded (page f x (places f)).root ≡ leading f (square f x)
  page-leading =
      ap (λ (l : Line). rounded l.root) (page-last f x (places f) (le_refl (places f)))
      ∙ rounded-is (places f) (halved f x).number number_small
      ∙ ap (λ (z : ℕ). (whole_root (places f) z + 1) / 2) (sym kept)

  -- it has as many digits as the format keeps: rounding up never brings one more
  pub page-digits : rounded (page f x (places f)).root < 2 ^ prec f
  page-digits =
      subst (λ (z : ℕ). z < 2 ^ prec f)
      (sym (ap (λ (l : Line). rounded l.root) (page-last f x (places f) (le_refl (places f)))
      ∙ rounded-is (places f) (halved f x).number number_small))
      (half (whole_root (places f) ((halved f x).number * 2 ^ places f)) (2 ^ places f) (2 ^ prec f)
      (pow-succ' 2 (prec f))
      (sq_lt_back (whole_root (places f) ((halved f x).number * 2 ^ places f)) (2 ^ places f - 1)
      (lt_of_le_of_lt
      (whole_is (places f) ((halved f x).number * 2 ^ places f)
      (subst (λ (z : ℕ). (halved f x).number * 2 ^ places f < z) (sym (four_pow (places f)))
      (mul-lt-mul_of_pos_right number_small (pow_pos (places f))))).0
      (under (halved f x).number (2 ^ places f) number-most))))
    where
      half : (r b q : ℕ) → b ≡ 2 * q → r < b - 1 → (r + 1) / 2 < q
      half r b q e l = omega arith

      under : (m b : ℕ) → m + 2 ≤ b → m * b < (b - 1) * (b - 1)
      under m b l = more m (b - 1) b (back b l) l
        where
          back : (b : ℕ) → m + 2 ≤ b → b ≡ b - 1 + 1
          back b l = omega arith

          close : (m c : ℕ) → (m + 2) * (c + 1) ≤ (c + 1) * (c + 1) → m * (c + 1) < c * c
          close m c l = omega arith

          more : (m c b : ℕ) → b ≡ c + 1 → m + 2 ≤ b → m * b < c * c
          more m c b e l =
              subst (λ (z : ℕ). m * z < c * c) (sym e)
              (close m c (mul-le-mul_right (c + 1) (subst (λ (z : ℕ). m + 2 ≤ z) e l)))

  -- and with the halved power it is the root
  pub page-root : square_root f x ≡ of_bits f ((halved f x).power * hid f + rounded (page f x (places f)).root)
  page-root =
      square_root-of f x p ∙ sym (root_read f x h p)
      ∙ ap (λ (z : ℕ). of_bits f ((halved f x).power * hid f + z)) (sym page-leading)

-- ---- of every value, zeros, infinities, NaN and what is below zero too

none-small : (f : Format) (x : Float) → square f x ≡ 0 → (halved f x).number < 2 ^ places f
none-small f x e =
    (div-lt_iff_lt-mul (unit_pos f (dropped f (square f x)))).1
    (subst (λ (z : ℕ). z < 2 ^ places f * (hid f * 4 ^ dropped f (square f x))) (sym e)
    (mul-pos (pow_pos (places f)) (unit_pos f (dropped f (square f x)))))

unsigned-fits : (f : Format) (s : Bool) (m : ℕ) (e : ℤ) → T (fits f (fin s (suc m) e)) → T (fits f (fin false (suc m) e))
unfolding fits
unsigned-fits f s m e h = h

pub number_bound : (f : Format) (x : Float) → T (fits f x) → (halved f x).number < 2 ^ places f
number_bound f nan h = none-small f nan (zero-mul (2 ^ low f))
number_bound f (inf s) h = none-small f (inf s) (zero-mul (2 ^ low f))
number_bound f (fin s zero e) h =
    none-small f (fin s zero e) (ap (λ (z : ℕ). z * 2 ^ low f) (count-zero f e) ∙ zero-mul (2 ^ low f))
number_bound f (fin s (suc m) e) h =
    number_small f (fin false (suc m) e) (unsigned-fits f s m e h) (lt→ltb 0 (suc m) (zero-lt-suc m))

-- every line is on the way to the root of number * 2 ^ (places + 2)
pub page-found :
    (f : Format) (x : Float) (k : ℕ) → T (fits f x) → k ≤ places f →
    Found (4 * ((halved f x).number * 2 ^ places f)) (2 ^ suc (places f)) (places f - k) (page f x k)
page-found f x k h g =
    let n = (halved f x).number in
    let d = places f in
    subst (λ (l : Line). Found (4 * (n * 2 ^ d)) (2 ^ suc d) (d - k) l) (sym (page-all f x k g))
    (turns-found (4 * (n * 2 ^ d)) (2 ^ suc d) k (d - k) (first d n)
    (subst (λ (j : ℕ). Found (4 * (n * 2 ^ d)) (2 ^ suc d) j (first d n)) (sym (all d k g))
    (first_found d n (number_bound f x h))))
  where
    all : (d k : ℕ) → k ≤ d → k + (d - k) ≡ d
    all d k g = omega arith
