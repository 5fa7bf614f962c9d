-- The positive values next to r are those of the patterns next to r's: r lies between them, and no other value of the
-- format does. Assumes nothing.
use Rattle.std.specs.Prelude.{◌≡◌, refl, ◌⊎◌, ℕ, zero, suc, ◌+◌, ◌-◌, ◌*◌, ◌/◌, ◌%◌, ◌^◌, ◌≤◌, ◌<◌, Bool, false, T, Float}
use Rattle.std.proofs.Common.{sym, ap, ◌∙◌, subst, inl, inr, le_trans, le_of_eq, le_of_lt, lt_of_lt_of_le, eq-or-lt_of_le, mod-lt, div-add-mod', mul-le-mul_right, mul-lt-mul_of_pos_right, mul_assoc, lt_irrefl, add-zero, zero-lt-suc, le_antisymm, arith, lt→ltb, lit≤, pow_pos}
use Rattle.std.proofs.Math.Nat.{pow-succ', le_dest}
use Rattle.std.proofs.Math.Arith.{digits_div, digits_mod}
use Rattle.std.specs.Float.{nan, inf, fin, Format, binary32, binary64}
use Rattle.std.specs.Float.Ieee.{prec, emax, low, hid, ones, size, fits, of_bits, to_bits}
use Rattle.std.specs.Float.Ieee.Bits.{of_bits-to_bits}
use Rattle.std.specs.Float.Ieee.Digits.{size-le}
use Rattle.std.specs.Float.Ieee.Fits.{two, kept-lt}
use Rattle.std.specs.Float.Ieee.Exact.{HasValue}
use Rattle.std.specs.Float.Ieee.Scale.{finite}
use Rattle.std.specs.Float.Ieee.Positive.{positive, positive-finite}
use Rattle.method.specs.Root.{count, before, after}
use Rattle.method.specs.Root.Patterns.{field_count}
use Rattle.method.proofs.Root.Patterns.{bits-val, bits-count}
use Rattle.method.proofs.Root.Grid.{less_or_not, double_hid}
use Rattle.method.proofs.Root.Counts.{shape, to_bits_count, count-pos, count-zero}
use Rattle.method.specs.Root.Neighbours.{Apart}

-- ---- the next pattern stands for a larger number
value-finite : (x : Float) (s : Bool) (a c : ℕ) → HasValue x s a c → T (finite x)
value-finite nan s a c h = absurd h
value-finite (inf t) s a c h = absurd h
value-finite (fin t m e) s a c h = tt

pub bits-finite : (f : Format) (b : ℕ) → b < ones f * hid f → T (finite (of_bits f b))
bits-finite f b h = value-finite (of_bits f b) false (field_count f (b / hid f) (b % hid f)) (2 ^ low f) (bits-val f b h)

same_field : (f : Format) (x t : ℕ) → field_count f x t < field_count f x (suc t)
same_field f zero t = go t
  where
    go : (t : ℕ) → t < suc t
    go t = omega arith
same_field f (suc x) t = mul-lt-mul_of_pos_right (go (hid f) t) (pow_pos x)
  where
    go : (h t : ℕ) → h + t < h + suc t
    go h t = omega arith

next_field : (f : Format) (x t : ℕ) → suc t ≡ hid f → field_count f x t < field_count f (suc x) 0
next_field f zero t e = go t (hid f) e
  where
    go : (t h : ℕ) → suc t ≡ h → t < (h + 0) * 1
    go t h k = omega arith
next_field f (suc x) t e =
    lt_of_lt_of_le (mul-lt-mul_of_pos_right (go t (hid f) e) (pow_pos x))
    (le_of_eq (mul_assoc (hid f + 0) 2 (2 ^ x) ∙ ap (λ (z : ℕ). (hid f + 0) * z) (sym (pow-succ' 2 x))))
  where
    go : (t h : ℕ) → suc t ≡ h → h + t < (h + 0) * 2
    go t h k = omega arith

fields_step :
    (f : Format) (b : ℕ) → field_count f (b / hid f) (b % hid f) < field_count f ((b + 1) / hid f) ((b + 1) % hid f)
fields_step f b = go (eq-or-lt_of_le (mod-lt b (pow_pos (prec f - 1))))
  where
    step : (a b t : ℕ) → a + t ≡ b → b + 1 ≡ a + suc t
    step a b t e = omega arith

    is : b + 1 ≡ b / hid f * hid f + suc (b % hid f)
    is = step (b / hid f * hid f) b (b % hid f) (div-add-mod' b (hid f))

    carry : (x h t : ℕ) → suc t ≡ h → x * h + suc t ≡ suc x * h + 0
    carry x h t e = omega arith

    go :
        (suc (b % hid f) ≡ hid f) ⊎ (suc (b % hid f) < hid f) →
        field_count f (b / hid f) (b % hid f) < field_count f ((b + 1) / hid f) ((b + 1) % hid f)
    go (inl e) =
        let x = b / hid f in
        let t = b % hid f in
        let n : b + 1 ≡ suc x * hid f + 0 = is ∙ carry x (hid f) t e in
        subst (λ (z : ℕ). field_count f x t < field_count f (z / hid f) (z % hid f)) (sym n)
        (subst (λ (z : ℕ). field_count f x t < field_count f z ((suc x * hid f + 0) % hid f))
        (sym (digits_div (suc x) (pow_pos (prec f - 1))))
        (subst (λ (z : ℕ). field_count f x t < field_count f (suc x) z) (sym (digits_mod (suc x) (pow_pos (prec f - 1))))
        (next_field f x t e)))
    go (inr l) =
        let x = b / hid f in
        let t = b % hid f in
        subst (λ (z : ℕ). field_count f x t < field_count f (z / hid f) (z % hid f)) (sym is)
        (subst (λ (z : ℕ). field_count f x t < field_count f z ((x * hid f + suc t) % hid f)) (sym (digits_div x l))
        (subst (λ (z : ℕ). field_count f x t < field_count f x z) (sym (digits_mod x l)) (same_field f x t)))

count-step : (f : Format) (b : ℕ) → b + 1 < ones f * hid f → count f (of_bits f b) < count f (of_bits f (b + 1))
count-step f b h =
    subst (λ (z : ℕ). z < count f (of_bits f (b + 1))) (sym (bits-count f b (less b (ones f * hid f) h)))
    (subst (λ (z : ℕ). field_count f (b / hid f) (b % hid f) < z) (sym (bits-count f (b + 1) h)) (fields_step f b))
  where
    less : (b c : ℕ) → b + 1 < c → b < c
    less b c k = omega arith

-- a larger pattern stands for a larger number
count-more : (f : Format) (d b : ℕ) → b + d < ones f * hid f → count f (of_bits f b) ≤ count f (of_bits f (b + d))
count-more f zero b h = le_of_eq (ap (λ (z : ℕ). count f (of_bits f z)) (sym (add-zero b)))
count-more f (suc d) b h =
    le_trans (count-more f d b (less b d (ones f * hid f) h))
    (le_trans (le_of_lt (count-step f (b + d) (subst (λ (z : ℕ). z < ones f * hid f) (sym (one b d)) h)))
    (le_of_eq (ap (λ (z : ℕ). count f (of_bits f z)) (one b d))))
  where
    less : (b d c : ℕ) → b + suc d < c → b + d < c
    less b d c k = omega arith

    one : (b d : ℕ) → b + d + 1 ≡ b + suc d
    one b d = omega arith

count-mono : (f : Format) (b c : ℕ) → b ≤ c → c < ones f * hid f → count f (of_bits f b) ≤ count f (of_bits f c)
count-mono f b c h k =
    let d = le_dest h in
    subst (λ (z : ℕ). count f (of_bits f b) ≤ count f (of_bits f z)) d.1
    (count-more f d.0 b (subst (λ (z : ℕ). z < ones f * hid f) (sym d.1) k))

-- how a format's precision and its exponents go together
pub few : (f : Format) → prec f + emax f ≡ low f + 2
few binary32 = refl
few binary64 = refl

pub some : (f : Format) → 2 ≤ emax f
some binary32 = lit≤ tt
some binary64 = lit≤ tt

-- the pattern of a positive value is below the infinity's
pattern_lt : (f : Format) (v : Float) → T (fits f v) → T (positive v) → to_bits f v < ones f * hid f
pattern_lt f v h p =
    let c = count f v in
    let sh = shape f v h (positive-finite v p) in
    subst (λ (z : ℕ). z < ones f * hid f) (sym (to_bits_count f v p))
    (lt_of_lt_of_le (go (size c - prec f) (hid f) (c / 2 ^ (size c - prec f)) (2 ^ prec f) (double_hid (prec f) (two f))
    (kept-lt (prec f) c))
    (mul-le-mul_right (hid f)
    (fields (size c) (prec f) (low f) (emax f) (few f) (some f) (size-le c (low f + suc (emax f)) sh.under))))
  where
    go : (k h q c : ℕ) → c ≡ 2 * h → q < c → k * h + q < (k + 2) * h
    go k h q c e g = omega arith

    fields : (z p l e : ℕ) → p + e ≡ l + 2 → 2 ≤ e → z ≤ l + suc e → z - p + 2 ≤ 2 * e + 1
    fields z p l e a b c = omega arith

-- and above zero's
no_count : (f : Format) → count f (of_bits f 0) ≡ 0
unfolding of_bits
no_count binary32 = refl
no_count binary64 = refl

pattern-pos : (f : Format) (v : Float) → T (fits f v) → T (positive v) → 0 < to_bits f v
pattern-pos f v h p = go (to_bits f v) refl
  where
    go : (b : ℕ) → to_bits f v ≡ b → 0 < b
    go zero e =
        absurd
        (lt_irrefl 0
        (subst (λ (z : ℕ). 0 < z)
        (ap (λ (y : Float). count f y) (sym (of_bits-to_bits f v h) ∙ ap (λ (z : ℕ). of_bits f z) e) ∙ no_count f)
        (count-pos f v h p)))
    go (suc b) e = zero-lt-suc b

-- between two values the patterns are in the counts' order
pub pattern-order :
    (f : Format) (v w : Float) → T (fits f v) → T (positive v) → T (fits f w) → T (positive w) →
    count f v < count f w →
    to_bits f v < to_bits f w
pattern-order f v w a p b q l = go (less_or_not (to_bits f v) (to_bits f w))
  where
    go : (to_bits f v < to_bits f w) ⊎ (to_bits f w ≤ to_bits f v) → to_bits f v < to_bits f w
    go (inl k) = k
    go (inr k) =
        absurd (lt_irrefl (count f v) (lt_of_lt_of_le l
        (subst (λ (y : Float). count f y ≤ count f v) (of_bits-to_bits f w b)
        (subst (λ (y : Float). count f (of_bits f (to_bits f w)) ≤ count f y) (of_bits-to_bits f v a)
        (count-mono f (to_bits f w) (to_bits f v) k (pattern_lt f v a p))))))

-- ---- r and its neighbours
pub before-less : (f : Format) (r : Float) → T (fits f r) → T (positive r) → count f (before f r) < count f r
before-less f r h p =
    let b = to_bits f r in
    let e : b - 1 + 1 ≡ b = one-back b (pattern-pos f r h p) in
    subst (λ (y : Float). count f (before f r) < count f y) (ap (λ (z : ℕ). of_bits f z) e ∙ of_bits-to_bits f r h)
    (count-step f (b - 1) (subst (λ (z : ℕ). z < ones f * hid f) (sym e) (pattern_lt f r h p)))
  where
    one-back : (b : ℕ) → 0 < b → b - 1 + 1 ≡ b
    one-back b k = omega arith

-- the largest value has an infinity after it; each other one a value
pub after_more :
    (f : Format) (r : Float) → T (fits f r) → to_bits f r + 1 < ones f * hid f → count f r < count f (after f r)
after_more f r h l =
    subst (λ (y : Float). count f y < count f (after f r)) (of_bits-to_bits f r h) (count-step f (to_bits f r) l)

-- no value is between them and r
pub after-least :
    (f : Format) (v w : Float) → T (fits f w) → T (positive w) → to_bits f v < to_bits f w →
    count f (after f v) ≤ count f w
after-least f v w h p l =
    subst (λ (y : Float). count f (after f v) ≤ count f y) (of_bits-to_bits f w h)
    (count-mono f (to_bits f v + 1) (to_bits f w) (next (to_bits f v) (to_bits f w) l) (pattern_lt f w h p))
  where
    next : (a b : ℕ) → a < b → a + 1 ≤ b
    next a b k = omega arith

pub before-most :
    (f : Format) (v w : Float) → T (fits f v) → T (positive v) → T (fits f w) → to_bits f w < to_bits f v →
    count f w ≤ count f (before f v)
before-most f v w h p k l =
    subst (λ (y : Float). count f y ≤ count f (before f v)) (of_bits-to_bits f w k)
    (count-mono f (to_bits f w) (to_bits f v - 1) (next (to_bits f w) (to_bits f v) l)
    (less (to_bits f v) (ones f * hid f) (pattern_lt f v h p)))
  where
    next : (a b : ℕ) → a < b → a ≤ b - 1
    next a b k = omega arith

    less : (a b : ℕ) → a < b → a - 1 < b
    less a b k = omega arith

pub none_between :
    (f : Format) (r y : Float) → T (fits f r) → T (positive r) → T (fits f y) → T (finite y) → Apart f r y
unfolding fits
none_between f r nan h p k g = absurd g
none_between f r (inf s) h p k g = absurd g
none_between f r (fin s zero e) h p k g =
    inl (subst (λ (z : ℕ). z ≤ count f (before f r)) (sym (count-zero f e)) (omega arith))
none_between f r (fin s (suc m) e) h p k g =
    go (less_or_not (to_bits f y) (to_bits f r)) (less_or_not (to_bits f r) (to_bits f y))
  where
    y : Float
    y = fin false (suc m) e

    go :
        (to_bits f y < to_bits f r) ⊎ (to_bits f r ≤ to_bits f y) →
        (to_bits f r < to_bits f y) ⊎ (to_bits f y ≤ to_bits f r) →
        Apart f r y
    go (inl l) d = inl (before-most f r y h p k l)
    go (inr a) (inl l) = inr (inr (after-least f r y k (lt→ltb 0 (suc m) (zero-lt-suc m)) l))
    go (inr a) (inr b) =
        inr
        (inl
        (ap (λ (v : Float). count f v)
        (sym (of_bits-to_bits f y k) ∙ ap (λ (z : ℕ). of_bits f z) (le_antisymm b a) ∙ of_bits-to_bits f r h)))
