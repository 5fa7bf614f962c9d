-- The bidiagonal form (document 001 and its twins in 002): the cases by tau one by one, and the places that are
-- cleared. Assumes nothing.
use Rattle.std.specs.Prelude.{◌≡◌, Bool, true, false, List, ℕ, ◌+◌, ◌-◌, Float}
use Rattle.std.proofs.Common.{ap, eq-eqb, ne_eqb}
use Rattle.std.specs.Float.{Format}
use Rattle.std.specs.Float.Ieee.{eq}
use Rattle.method.specs.Floats.{plus_zero}
use Rattle.method.specs.Work.{Work, Shape}
use Rattle.method.specs.Reflection.{Reflection, reflected_right}
use Rattle.method.specs.Reflection.{reflected_left}
use Rattle.method.specs.Bidiagonal.{bidiagonal, column_matrix, column_reflection, factor_reflected, first_zeroed, headed, places_zeroed, row_matrix, row_reflection}

-- ---- the cases by tau, each part as the code has it

module _ (f : Format) (floor : Float) (rows cols stride i j : ℕ) (a : List Float) (r : Reflection) where
  pub column_still :
      r ≡ column_reflection f floor rows stride i j a →
      eq r.tau plus_zero ≡ true →
      headed r rows stride i j a ≡ column_matrix f floor rows cols stride i j a
  unfolding column_matrix
  column_still e t = rw e (rw (rw e at t, column_matrix))

  pub column_moved :
      r ≡ column_reflection f floor rows stride i j a →
      eq r.tau plus_zero ≡ false →
      reflected_left f r.vector r.tau stride i (j + 1) (rows - i) (cols - (j + 1)) (headed r rows stride i j a) ≡
      column_matrix f floor rows cols stride i j a
  unfolding column_matrix
  column_moved e t = rw e (rw (rw e at t, column_matrix))

  pub row_still :
      r ≡ row_reflection f floor cols stride i j a →
      eq r.tau plus_zero ≡ true →
      r.entries ≡ row_matrix f floor rows cols stride i j a
  unfolding row_matrix
  row_still e t = rw e (rw (rw e at t, row_matrix))

  pub row_moved :
      r ≡ row_reflection f floor cols stride i j a →
      eq r.tau plus_zero ≡ false →
      reflected_right f r.vector r.tau stride (i + 1) j (rows - (i + 1)) (cols - j) r.entries ≡
      row_matrix f floor rows cols stride i j a
  unfolding row_matrix
  row_moved e t = rw e (rw (rw e at t, row_matrix))

module _ (f : Format) (n lines i : ℕ) (a : List Float) (r r' : Reflection) where
  pub factor-still : r ≡ r' → eq r.tau plus_zero ≡ true → a ≡ factor_reflected f r' n lines i a
  unfolding factor_reflected
  factor-still e t = rw (rw e at t, factor_reflected)

  pub factor-moved :
      r ≡ r' →
      eq r.tau plus_zero ≡ false →
      reflected_right f r.vector r.tau n 0 i lines (n - i) a ≡ factor_reflected f r' n lines i a
  unfolding factor_reflected
  factor-moved e t = rw e (rw (rw e at t, factor_reflected))

-- ---- a square table, and one that is not

module _ (f : Format) (floor : Float) (z : Shape) (upper : Bool) (c : ℕ) (w s : Work) where
  pub bidiagonal-square :
      s ≡ places_zeroed f floor z upper (c - 1) w →
      z.rows ≡ z.cols →
      s ≡ bidiagonal f floor z upper c w
  unfolding bidiagonal
  bidiagonal-square places e = rw (eq-eqb z.rows z.cols e, bidiagonal) places

  pub bidiagonal-other :
      s ≡ places_zeroed f floor z upper (c - 1) w →
      (z.rows ≡ z.cols → ⊥) →
      first_zeroed f floor z upper (c - 1) s ≡ bidiagonal f floor z upper c w
  unfolding bidiagonal
  bidiagonal-other places e =
      rw (ne_eqb z.rows z.cols e, bidiagonal) (ap (first_zeroed f floor z upper (c - 1)) places)
