-- Rotations (document 005): the rule's three cases one by one, and that lengths stay. Assumes nothing.
use Rattle.std.specs.Prelude.{◌≡◌, true, false, ℕ, Float}
use Rattle.std.proofs.Math.Path.{refl}
use Rattle.std.proofs.Common.{◌∙◌}
use mathlib.Core.List.{List}
use Rattle.std.proofs.Math.ListN.{length, length-set}
use Rattle.std.specs.Float.{Format}
use Rattle.std.specs.Float.Ieee.{div, lt, eq}
use Rattle.method.specs.Floats.{plus_zero, one, magnitude}
use Rattle.method.proofs.Repeated.{repeated-keep}
use Rattle.method.specs.Rotation.{Rotation, by_cosine, by_sine, columns_turned, norm_of, pair_turned, rotation_of, rows_turned}

-- ---- the rule's cases

module _ (f : Format) (a b : Float) where
  pub rotation-zero : eq a plus_zero ≡ true → record { radius = b; cosine = plus_zero; sine = one } ≡ rotation_of f a b
  unfolding rotation_of
  rotation-zero e = rw (e, rotation_of)

  pub rotation-sine :
      (ratio norm : Float) →
      eq a plus_zero ≡ false →
      lt (magnitude a) (magnitude b) ≡ true →
      ratio ≡ div f a b →
      norm ≡ norm_of f ratio →
      by_sine f b ratio norm (div f one norm) ≡ rotation_of f a b
  unfolding rotation_of
  rotation-sine ratio norm e l r n = rw (n, r, e, l, rotation_of)

  pub rotation-cosine :
      (ratio norm : Float) →
      eq a plus_zero ≡ false →
      lt (magnitude a) (magnitude b) ≡ false →
      ratio ≡ div f b a →
      norm ≡ norm_of f ratio →
      by_cosine f a ratio norm (div f one norm) ≡ rotation_of f a b
  unfolding rotation_of
  rotation-cosine ratio norm e l r n = rw (n, r, e, l, rotation_of)

-- ---- lengths stay

module _ (f : Format) (g : Rotation) where
  pub pair_turned-length : (p q : ℕ) (a : List Float) → length (pair_turned f g p q a) ≡ length a
  unfolding pair_turned
  pair_turned-length p q a = simp length-set

  pub rows_turned-length : (stride i j n : ℕ) (a : List Float) → length (rows_turned f g stride i j n a) ≡ length a
  unfolding rows_turned
  rows_turned-length stride i j n a =
      repeated-keep 0 _ (λ (l : List Float). length l ≡ length a)
      (λ k l e. pair_turned-length _ _ l ∙ e) n a refl

  pub columns_turned-length : (stride i j n : ℕ) (a : List Float) → length (columns_turned f g stride i j n a) ≡ length a
  unfolding columns_turned
  columns_turned-length stride i j n a =
      repeated-keep 0 _ (λ (l : List Float). length l ≡ length a)
      (λ k l e. pair_turned-length _ _ l ∙ e) n a refl
