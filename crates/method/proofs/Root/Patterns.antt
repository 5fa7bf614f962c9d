-- What number a bit pattern below the infinity's stands for, in either format. Assumes nothing.
use Rattle.std.specs.Prelude.{◌≡◌, refl, ℕ, zero, suc, ◌+◌, ◌-◌, ◌*◌, ◌/◌, ◌%◌, ◌^◌, ◌≤◌, ◌<◌, Bool, false, cond, leb, eqb, Float}
use Rattle.std.proofs.Common.{sym, ap, ◌∙◌, subst, lt_of_lt_of_le, lt_irrefl, mod-eq_of_lt, mul-one, div-lt_iff_lt-mul, arith, eqb→eq, pow_pos}
use Rattle.std.proofs.Math.Dec.{not_T}
use Rattle.std.proofs.Math.Arith.{lt→nleb}
use Rattle.std.specs.Float.{nan, inf, Format}
use Rattle.std.specs.Float.Ieee.{prec, low, odd, hid, ones, top, of_fields, of_bits}
use Rattle.std.specs.Float.Ieee.Bits.{is_false, cond_no}
use Rattle.std.specs.Float.Ieee.Exact.{HasValue, odd_sign}
use Rattle.method.specs.Root.{count}
use Rattle.method.proofs.Root.Counts.{count-is}
use Rattle.method.specs.Root.Patterns.{field_count}

of_bits_is : (f : Format) (b : ℕ) → of_bits f b ≡ of_fields f (leb (top f) b) (b % top f / hid f) (b % hid f)
unfolding of_bits
of_bits_is f b = refl

under_top : (f : Format) (b : ℕ) → b < ones f * hid f → b < top f
under_top f b h = lt_of_lt_of_le h (lt_of (ones f) (hid f))
  where
    lt_of : (o h : ℕ) → o * h ≤ h * suc o
    lt_of o h = omega arith

unsigned : (f : Format) (b : ℕ) → b < ones f * hid f → of_bits f b ≡ of_fields f false (b / hid f) (b % hid f)
unsigned f b h =
    let l = under_top f b h in
    of_bits_is f b
    ∙ ap (λ (s : Bool). of_fields f s (b % top f / hid f) (b % hid f)) (is_false (leb (top f) b) (lt→nleb (top f) b l))
    ∙ ap (λ (z : ℕ). of_fields f false (z / hid f) (b % hid f)) (mod-eq_of_lt l)

of_fields_val :
    (f : Format) (x t : ℕ) → x < ones f → HasValue (of_fields f false x t) false (field_count f x t) (2 ^ low f)
unfolding of_fields
of_fields_val f zero t h =
    subst (λ (z : ℕ). HasValue (odd (prec f) false t 0 (low f)) false z (2 ^ low f)) (mul-one t)
    (odd_sign (prec f) false t 0 (low f))
of_fields_val f (suc x) t h =
    subst (λ (z : Float). HasValue z false ((hid f + t) * 2 ^ x) (2 ^ low f))
    (sym (cond_no (eqb (suc x) (ones f)) (cond (eqb t 0) (inf false) nan) (odd (prec f) false (hid f + t) x (low f))
    (not_T (eqb (suc x) (ones f)) (λ u. lt_irrefl (ones f)
    (subst (λ (z : ℕ). z < ones f) (eqb→eq (suc x) (ones f) u) h)))))
    (odd_sign (prec f) false (hid f + t) x (low f))

pub bits-val :
    (f : Format) (b : ℕ) → b < ones f * hid f →
    HasValue (of_bits f b) false (field_count f (b / hid f) (b % hid f)) (2 ^ low f)
bits-val f b h =
    subst (λ (z : Float). HasValue z false (field_count f (b / hid f) (b % hid f)) (2 ^ low f)) (sym (unsigned f b h))
    (of_fields_val f (b / hid f) (b % hid f) ((div-lt_iff_lt-mul (pow_pos (prec f - 1))).1 h))

pub bits-count : (f : Format) (b : ℕ) → b < ones f * hid f → count f (of_bits f b) ≡ field_count f (b / hid f) (b % hid f)
bits-count f b h = count-is f (of_bits f b) false (field_count f (b / hid f) (b % hid f)) (bits-val f b h)
