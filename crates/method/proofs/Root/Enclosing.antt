-- The midpoints of the root with its two neighbours enclose the exact root, and no other value's do: the two wordings
-- agree. Assumes nothing.
use Rattle.std.specs.Prelude.{◌≡◌, ℕ, suc, ◌+◌, ◌-◌, ◌*◌, ◌/◌, ◌^◌, ◌≤◌, ◌<◌, T, Float}
use Rattle.std.proofs.Common.{sym, subst, le_trans, le_of_lt, add-le-add, lt_of_lt_of_le, mul-le-mul_right, le_refl, lt_irrefl, lt_trans, arith, pow_mono}
use Rattle.std.specs.Float.{Format}
use Rattle.std.specs.Float.Ieee.{prec, emax, low, hid, ones, size, fits, to_bits}
use Rattle.std.specs.Float.Ieee.Bits.{of_bits-fits}
use Rattle.std.specs.Float.Ieee.Digits.{size-le}
use Rattle.std.specs.Float.Ieee.Fits.{two}
use Rattle.std.specs.Float.Ieee.Positive.{positive, positive-finite}
use Rattle.method.specs.Root.{dropped, leading, count, square, rooted, square_root, Nearest, before, after, Enclosed}
use Rattle.method.proofs.Root.Laws.{square_root-of, square_root-nearest, nearest_unique, square-rounding, square-top}
use Rattle.method.proofs.Root.Written.{square_root-pattern}
use Rattle.method.proofs.Root.Whole.{sq_le}
use Rattle.method.proofs.Root.Grid.{neither, double_hid}
use Rattle.method.proofs.Root.Neighbours.{few, some, bits-finite, pattern-order, before-less, after_more}
use Rattle.method.proofs.Root.Neighbours.{after-least, before-most}
use Rattle.method.proofs.Root.Counts.{count-unique}

-- ---- the root's pattern is not the last
module _ (f : Format) (x : Float) (h : T (fits f x)) (p : T (positive x)) where
  fields_lt : dropped f (square f x) + 3 ≤ ones f
  fields_lt =
      go (size (square f x)) (prec f) (low f) (emax f) (few f)
      (size-le (square f x) (low f + low f + suc (emax f)) (square-top f x h p)) (some f)
    where
      go : (z p l e : ℕ) → p + e ≡ l + 2 → z ≤ l + l + suc e → 2 ≤ e → (z + 1) / 2 - p + 3 ≤ 2 * e + 1
      go z p l e a b s = omega arith

  b_hi : to_bits f (rooted f (square f x)) + 1 < ones f * hid f
  b_hi =
      subst (λ (z : ℕ). z + 1 < ones f * hid f) (sym (square_root-pattern f x h p))
      (lt_of_lt_of_le
      (go (dropped f (square f x)) (hid f) (leading f (square f x)) (2 ^ prec f) (double_hid (prec f) (two f))
      (square-rounding f x h p).most big)
      (mul-le-mul_right (hid f) fields_lt))
    where
      big : 2 ≤ hid f
      big = pow_mono {i = 1} {j = prec f - 1} (one_less (prec f) (two f))
        where
          one_less : (p : ℕ) → 2 ≤ p → 1 ≤ p - 1
          one_less p k = omega arith

      go : (k h q c : ℕ) → c ≡ 2 * h → q ≤ c → 2 ≤ h → k * h + q + 1 < (k + 3) * h
      go k h q c e g s = omega arith

  rooted-enclosed : Nearest f x (rooted f (square f x)) → Enclosed f x (rooted f (square f x))
  rooted-enclosed n =
      let v = rooted f (square f x) in
      let b = to_bits f v in
      record {
        lower =
            n.lower (before f v) (of_bits-fits f (b - 1)) (bits-finite f (b - 1) (under b (ones f * hid f) b_hi))
            (before-less f v n.held n.above_zero);
        upper =
            n.upper (after f v) (of_bits-fits f (b + 1)) (bits-finite f (b + 1) b_hi) (after_more f v n.held b_hi);
      }
    where
      under : (b c : ℕ) → b + 1 < c → b - 1 < c
      under b c k = omega arith

-- the root's midpoints with its two neighbours enclose the exact root
pub square_root-enclosed : (f : Format) (x : Float) → T (fits f x) → T (positive x) → Enclosed f x (square_root f x)
square_root-enclosed f x h p =
    subst (λ (r : Float). Enclosed f x r) (sym (square_root-of f x p))
    (rooted-enclosed f x h p (subst (λ (r : Float). Nearest f x r) (square_root-of f x p) (square_root-nearest f x h p)))

-- ---- and no other value's do

-- v's midpoints with its neighbours enclose the root of x, and w is nearest: then neither is below the other
no_higher :
    (f : Format) (x v w : Float) → T (fits f v) → T (positive v) → Enclosed f x v → Nearest f x w →
    count f v < count f w →
    ⊥
no_higher f x v w a p e n l =
    let up = after-least f v w n.held n.above_zero (pattern-order f v w a p n.held n.above_zero l) in
    lt_irrefl (4 * square f x)
    (lt_trans
    (lt_of_lt_of_le e.upper
    (sq_le (count f v + count f (after f v)) (count f v + count f w) (add-le-add (le_refl (count f v)) up)))
    (n.lower v a (positive-finite v p) l))

no_lower :
    (f : Format) (x v w : Float) → T (fits f v) → T (positive v) → Enclosed f x v → Nearest f x w →
    count f w < count f v →
    ⊥
no_lower f x v w a p e n l =
    let down = before-most f v w a p n.held (pattern-order f w v n.held n.above_zero a p l) in
    lt_irrefl (4 * square f x)
    (lt_of_lt_of_le (n.upper v a (positive-finite v p) l)
    (le_trans (sq_le (count f w + count f v) (count f (before f v) + count f v) (add-le-add down (le_refl (count f v))))
    (le_of_lt e.lower)))

-- a positive value of the format whose midpoints with its neighbours enclose the root of x is the root
pub enclosed-unique :
    (f : Format) (x v : Float) → T (fits f x) → T (positive x) → T (fits f v) → T (positive v) →
    Enclosed f x v →
    v ≡ square_root f x
enclosed-unique f x v h p a q e =
    let n : Nearest f x (square_root f x) = square_root-nearest f x h p in
    count-unique f v (square_root f x) a n.held q n.above_zero
    (neither (count f v) (count f (square_root f x)) (no_higher f x v (square_root f x) a q e n)
    (no_lower f x v (square_root f x) a q e n))

-- ---- so the two wordings say the same of a positive value of the format
pub nearest_enclosed : (f : Format) (x r : Float) → T (fits f x) → T (positive x) → Nearest f x r → Enclosed f x r
nearest_enclosed f x r h p n =
    subst (λ (v : Float). Enclosed f x v) (nearest_unique f x (square_root f x) r (square_root-nearest f x h p) n)
    (square_root-enclosed f x h p)

pub enclosed-nearest :
    (f : Format) (x r : Float) → T (fits f x) → T (positive x) → T (fits f r) → T (positive r) →
    Enclosed f x r →
    Nearest f x r
enclosed-nearest f x r h p a q e =
    subst (λ (v : Float). Nearest f x v) (sym (enclosed-unique f x r h p a q e)) (square_root-nearest f x h p)
