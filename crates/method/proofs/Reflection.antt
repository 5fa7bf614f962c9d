-- Reflections (document 006): the two cases of `reflection_of`, and that lengths stay. Assumes nothing.
use Rattle.std.specs.Prelude.{◌≡◌, Bool, true, false, ℕ, ◌+◌, ◌*◌, get_or, set, Float}
use Rattle.std.proofs.Math.Path.{refl}
use Rattle.std.proofs.Common.{ap, ◌∙◌}
use mathlib.Core.List.{List}
use Rattle.std.proofs.Math.ListN.{length, length-set}
use Rattle.std.specs.Float.{nan, Format}
use Rattle.std.specs.Float.Ieee.{add, sub, mul, div, neg, lt}
use Rattle.method.specs.Floats.{plus_zero, one, magnitude, sign_of}
use Rattle.method.specs.Root.{square_root}
use Rattle.method.specs.Repeated.{repeated}
use Rattle.method.proofs.Repeated.{repeated-keep}
use Rattle.method.specs.Settings.{most_size}
use Rattle.method.specs.Reflection.{blank, largest_of, line_cleared, lower_less, reflected_left, reflected_right, reflection_of, row_less, row_less_all, row_less_times, row_reflected, rows_less, scaled, squares_of, tail_less, times_from, widened}

pub blank-length : (w : List Float) → w ≡ blank → length w ≡ most_size
blank-length w e = ap length e

-- ---- the cases of a reflection

-- |x| takes m's place, or m stays
pub widened-taken : (m y x : Float) → lt m y ≡ true → y ≡ magnitude x → y ≡ widened m x
widened-taken m y x h e = rw (← e, h)

pub widened-left : (m y x : Float) → lt m y ≡ false → y ≡ magnitude x → m ≡ widened m x
widened-left m y x h e = rw (← e, h)

module _ (f : Format) (floor : Float) (at n : ℕ) (v : List Float) where
  pub reflection-small :
      lt (largest_of v at n) floor ≡ true →
      record { entries = v; vector = set blank 0 one; tau = plus_zero } ≡ reflection_of f floor at n v
  unfolding reflection_of
  reflection-small e = rw (e, reflection_of)

  -- each part is what its definition says of those before it
  pub reflection-large :
      (largest sign root sum : Float) (w v' w' : List Float) →
      largest ≡ largest_of v at n →
      lt largest floor ≡ false →
      w ≡ scaled f v at (div f one largest) n →
      v' ≡ line_cleared at 1 n v →
      sum ≡ squares_of f w n →
      sign ≡ sign_of (get_or w 0 nan) →
      root ≡ square_root f sum →
      w' ≡ times_from f (div f one (add f (get_or w 0 nan) (mul f sign root))) 1 n w →
      record {
        entries = set v' at (mul f (neg (mul f sign root)) largest);
        vector = set w' 0 one;
        tau = div f (add f (get_or w 0 nan) (mul f sign root)) (mul f sign root);
      } ≡
      reflection_of f floor at n v
  unfolding reflection_of
  reflection-large largest sign root sum w v' w' el test ew ev es eg er et =
      rw (et, ev, er, eg, es, ew, el) (rw (rw el at test, reflection_of))

-- ---- lengths stay

-- a loop of stores into the list
stored :
    (lo : ℕ) (at : ℕ → ℕ) (x : ℕ → List Float → Float) (n : ℕ) (a : List Float) →
    length (repeated lo n (λ k a. set a (at k) (x k a)) a) ≡ length a
stored lo at x n a = repeated-keep lo _ (λ (l : List Float). length l ≡ length a) (λ k l e. simp length-set e) n a refl

pub line_cleared-length : (at step n : ℕ) (a : List Float) → length (line_cleared at step n a) ≡ length a
unfolding line_cleared
line_cleared-length at step n a = stored 0 (λ k. at + k * step) (λ k a. plus_zero) n a

module _ (f : Format) where
  pub reflection_of-entries :
      (floor : Float) (at n : ℕ) (v : List Float) → length (reflection_of f floor at n v).entries ≡ length v
  reflection_of-entries floor at n v = go (lt (largest_of v at n) floor) refl
    where
      go : (b : Bool) → lt (largest_of v at n) floor ≡ b → length (reflection_of f floor at n v).entries ≡ length v
      go true e = rw (← reflection-small f floor at n v e) refl
      go false e =
          rw (← reflection-large f floor at n v _ _ _ _ _ _ _ refl e refl refl refl refl refl refl)
          (simp length-set (line_cleared-length at 1 n v))

  pub row_less-length :
      (p : List Float) (x : Float) (off n : ℕ) (a : List Float) → length (row_less f p x off n a) ≡ length a
  unfolding row_less tail_less
  row_less-length p x off n a =
      stored 1 (λ k. off + k) (λ k a. sub f (get_or a (off + k) nan) (mul f x (get_or p k nan))) n _ ∙ simp length-set

  pub row_reflected-length :
      (p : List Float) (tau : Float) (off n : ℕ) (a : List Float) → length (row_reflected f p tau off n a) ≡ length a
  unfolding row_reflected
  row_reflected-length p tau off n a = row_less-length p _ off n a

  pub reflected_right-length :
      (p : List Float) (tau : Float) (stride i j rows cols : ℕ) (a : List Float) →
      length (reflected_right f p tau stride i j rows cols a) ≡ length a
  unfolding reflected_right
  reflected_right-length p tau stride i j rows cols a =
      repeated-keep 0 _ (λ (l : List Float). length l ≡ length a)
      (λ k l e. row_reflected-length p _ _ cols l ∙ e) rows a refl

  pub row_less_all-length : (w : List Float) (off n : ℕ) (a : List Float) → length (row_less_all f w off n a) ≡ length a
  unfolding row_less_all
  row_less_all-length w off n a = stored 0 (λ l. off + l) (λ l a. sub f (get_or a (off + l) nan) (get_or w l nan)) n a

  pub row_less_times-length :
      (w : List Float) (x : Float) (off n : ℕ) (a : List Float) → length (row_less_times f w x off n a) ≡ length a
  unfolding row_less_times
  row_less_times-length w x off n a =
      stored 0 (λ l. off + l) (λ l a. sub f (get_or a (off + l) nan) (mul f x (get_or w l nan))) n a

  pub reflected_left-length :
      (p : List Float) (tau : Float) (stride i j rows cols : ℕ) (a : List Float) →
      length (reflected_left f p tau stride i j rows cols a) ≡ length a
  unfolding reflected_left rows_less lower_less
  reflected_left-length p tau stride i j rows cols a =
      repeated-keep 1 _ (λ (l : List Float). length l ≡ length a)
      (λ k l e. row_less_times-length _ (get_or p k nan) ((i + k) * stride + j) cols l ∙ e)
      rows
      _
      (row_less_all-length _ (i * stride + j) cols a)
