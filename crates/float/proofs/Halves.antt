-- What a page starts with, by the magnitude: nothing at a zero, an infinity and a NaN. Assumes nothing.
use mathlib.Core.Path.{◌≡◌, refl, sym, ap, ◌∙◌}
use mathlib.Core.Bool.{true, false, true≢false}
use Prim.Native.Nat.{ℕ, zero, suc, ◌*◌, ◌/◌, ◌^◌, ◌<◌}
use Rattle.std.proofs.Math.Nat.{zero-div}
use Rattle.std.proofs.Common.{eqb-true}
use native.Mathlib.Omega.{arith}
use lib.Dec.{T}
use lib.Ieee.{Float, nan, inf, fin, Format, binary64, size, up, down, fits, eq, of_bits, to_bits}
use lib.Ieee.Bits.{of_bits-to_bits}
use lib.Ieee.Scale.{finite}
use Rattle.method.specs.Floats.{plus_zero, magnitude, negative, is_zero}
use Rattle.method.proofs.Floats.Zero.{eq_zero}
use Rattle.method.specs.Root.{count, dropped}
use Rattle.method.specs.Root.Paper.{start, halved}
use Rattle.float.proofs.Cases.{bits_between}

-- the page goes by the count alone, and a count has no sign
halved-by : (x y : Float) → count binary64 x ≡ count binary64 y → halved binary64 x ≡ halved binary64 y
halved-by x y e = ap (λ (c : ℕ). start (c * 2 ^ 1074 / (2 ^ 52 * 4 ^ dropped binary64 (c * 2 ^ 1074))) (dropped binary64 (c * 2 ^ 1074))) e

count-magnitude : (f : Format) (x : Float) → count f (magnitude x) ≡ count f x
unfolding magnitude
count-magnitude f nan = refl
count-magnitude f (inf s) = refl
count-magnitude f (fin s m e) = refl

none : start 0 0 ≡ halved binary64 nan
unfolding size
none = refl

halved_none : (x : Float) → count binary64 x ≡ 0 → start 0 0 ≡ halved binary64 x
halved_none x e = none ∙ halved-by nan x (sym e)

-- ---- by the magnitude
pub unsigned-magnitude : (x : Float) → negative (magnitude x) ≡ false
unfolding negative magnitude
unsigned-magnitude nan = refl
unsigned-magnitude (inf s) = refl
unsigned-magnitude (fin s m e) = refl

nothing : (u b d : ℕ) → 0 * u * b / d ≡ 0
nothing u b d =
    let e : 0 * u * b ≡ 0 = omega arith in
    ap (λ (z : ℕ). z / d) e ∙ zero-div d

count-null : (x : Float) → is_zero x ≡ true → count binary64 x ≡ 0
unfolding is_zero
count-null nan h = refl
count-null (inf s) h = refl
count-null (fin s zero e) h = nothing (up e) (2 ^ 1074) (down e)
count-null (fin s (suc m) e) h = absurd (let z : ⊥ = omega (arith, eqb-true (suc m) 0 h) in z)

count-past : (x : Float) → finite x ≡ false → count binary64 x ≡ 0
count-past nan h = refl
count-past (inf s) h = refl
count-past (fin s m e) h = absurd (true≢false h)

module _ (x y : Float) (is : y ≡ magnitude x) where
  count-is : count binary64 x ≡ count binary64 y
  count-is = sym (ap (λ (z : Float). count binary64 z) is ∙ count-magnitude binary64 x)

  pub halved-is : halved binary64 y ≡ halved binary64 x
  halved-is = halved-by y x (sym count-is)

  pub halved_zero : eq y plus_zero ≡ true → start 0 0 ≡ halved binary64 x
  halved_zero h = halved_none x (count-is ∙ count-null y (sym (eq_zero y) ∙ h))

  pub halved_past : finite y ≡ false → start 0 0 ≡ halved binary64 x
  halved_past h = halved_none x (count-is ∙ count-past y h)

  -- where it is neither, the pattern is the magnitude's
  pub size_between :
      T (fits binary64 y) → finite y ≡ true → eq y plus_zero ≡ false →
      (0 < to_bits binary64 y) × (to_bits binary64 y < 2047 * 2 ^ 52)
  size_between F h z = bits_between y F h z (ap negative is ∙ unsigned-magnitude x)

  pub halved-read :
      T (fits binary64 y) → halved binary64 (of_bits binary64 (to_bits binary64 y)) ≡ halved binary64 x
  halved-read F = ap (λ (z : Float). halved binary64 z) (of_bits-to_bits binary64 y F) ∙ halved-is
