-- The walk's two questions on the table (document 000 and its twins in 002): step laws for the code. Assumes nothing.
use Rattle.std.specs.Prelude.{◌≡◌, Bool, not, List, ℕ, ◌+◌, ◌*◌, get_or, Float}
use Rattle.std.proofs.Math.Path.{ap}
use Rattle.std.proofs.Common.{◌∙◌, zero-mul, add-zero}
use Rattle.std.proofs.Math.Bool.{true, false}
use Rattle.std.specs.Float.{nan, Format}
use Rattle.std.specs.Float.Ieee.{add, sub, mul, lt}
use Rattle.method.specs.Floats.{magnitude, smaller}
use Rattle.method.specs.Work.{Work, Shape, coupling_place}
use Rattle.method.specs.Rotation.{Rotation, rotation_of}
use Rattle.method.specs.Chase.{along, first_rotation, negligible, pushed, singular, stepped, steps, swept, turned}

-- ---- step by step, as the code goes

module _ (f : Format) (z : Shape) (upper : Bool) (k : ℕ) (w : Work) where
  pub stepped-is :
      (s t : Work) → s ≡ pushed f z upper k k 3 w → t ≡ pushed f z (not upper) (k + 1) k 3 s → t ≡ stepped f z upper k w
  stepped-is s t es et = et ∙ ap (pushed f z (not upper) (k + 1) k 3) es

  pub swept-is :
      (g : Rotation) (s t u : Work) →
      g ≡ first_rotation f z.stride upper k w.matrix →
      s ≡ turned f z g (not upper) 0 0 2 w →
      t ≡ steps f z upper k s →
      u ≡ pushed f z upper k k 2 t →
      u ≡ swept f z upper k w
  unfolding swept
  swept-is g s t u eg es et eu =
      eu
      ∙ ap (pushed f z upper k k 2)
      (et ∙ ap (steps f z upper k) (es ∙ ap (λ (g : Rotation). turned f z g (not upper) 0 0 2 w) eg))

-- the corner's last 2 x 2 by its places in the list
module _ (f : Format) (stride : ℕ) (upper : Bool) (k : ℕ) (a : List Float) (tl bl br : ℕ) where
  pub first_rotation-is :
      (tr : ℕ) (shift next : Float) (g : Rotation) →
      tl ≡ k * stride + k →
      tr ≡ k * stride + (k + 1) →
      bl ≡ (k + 1) * stride + k →
      br ≡ (k + 1) * stride + (k + 1) →
      shift ≡ singular f (get_or a tl nan) (get_or a tr nan) (get_or a bl nan) (get_or a br nan) →
      next ≡ along (not upper) stride 1 0 a →
      g ≡ rotation_of f (sub f (mul f (get_or a 0 nan) (get_or a 0 nan)) shift) (mul f (get_or a 0 nan) next) →
      g ≡ first_rotation f stride upper k a
  first_rotation-is tr shift next g etl etr ebl ebr es en eg = rw (eg, es, en, etl, etr, ebl, ebr, zero-mul, add-zero)

  pub negligible-is :
      (tolerance absolute : Float) (e1 : ℕ) (x y e bound : Float) →
      e1 ≡ coupling_place upper stride k →
      tl ≡ k * stride + k →
      br ≡ (k + 1) * stride + (k + 1) →
      x ≡ magnitude (get_or a tl nan) →
      y ≡ magnitude (get_or a br nan) →
      e ≡ magnitude (get_or a e1 nan) →
      bound ≡ smaller (mul f (add f x y) tolerance) absolute →
      lt e bound ≡ negligible f tolerance absolute stride upper k a
  unfolding negligible
  negligible-is tolerance absolute e1 x y e bound ee et eb ex ey em eq = go upper ee
    where
      go :
          (upper : Bool) → e1 ≡ coupling_place upper stride k →
          lt e bound ≡ negligible f tolerance absolute stride upper k a
      go true ee = rw (eq, ex, ey, em, ee, et, eb)
      go false ee = rw (eq, ex, ey, em, ee, et, eb)
