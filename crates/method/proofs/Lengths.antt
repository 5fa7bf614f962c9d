-- Every operation of the method keeps the length of each list. Assumes nothing.
use Rattle.std.specs.Prelude.{◌≡◌, Bool, List, ℕ, ◌+◌, ◌-◌, ◌*◌, eqb, length, Float}
use Rattle.std.proofs.Math.Path.{refl}
use Rattle.std.proofs.Common.{◌∙◌, arith, length-set}
use Rattle.std.proofs.Math.Bool.{true, false}
use Rattle.std.specs.Float.{Format}
use Rattle.std.specs.Float.Ieee.{eq}
use Rattle.method.specs.Floats.{plus_zero}
use Rattle.method.specs.Work.{Work, Shape, packed}
use Rattle.method.specs.Rotation.{Rotation}
use Rattle.method.proofs.Rotation.{rows_turned-length, columns_turned-length}
use Rattle.method.specs.Reflection.{Reflection, reflection_of}
use Rattle.method.proofs.Reflection.{line_cleared-length, reflection_of-entries}
use Rattle.method.proofs.Reflection.{reflected_right-length, reflected_left-length}
use Rattle.method.specs.Bidiagonal.{column_reflection, headed, column_matrix, row_matrix, factor_reflected}
use Rattle.method.specs.Bidiagonal.{column_zeroed, row_zeroed, bidiagonal}
use Rattle.method.proofs.Bidiagonal.{column_still, column_moved, row_still}
use Rattle.method.proofs.Bidiagonal.{row_moved, factor-still, factor-moved}
use Rattle.method.specs.Chase.{turned, swept}
use Rattle.method.specs.Relation.Alone.{Holds}
use Rattle.method.proofs.Relation.Alone.{bidiagonal-holds, swept-holds, run_holds}
use Rattle.method.specs.Checks.{refusal_of}
use Rattle.method.specs.Outcome.{walked_from, card, accepted, outcome}
use Rattle.method.specs.Settings.{Settings}
use Rattle.method.specs.Lengths.{SameLengths}

same : (w : Work) → SameLengths w w
same w = record { matrix = refl; u = refl; v = refl }

-- one after the other
pub onward : {a b c : Work} → SameLengths a b → SameLengths b c → SameLengths a c
onward p q = record { matrix = q.matrix ∙ p.matrix; u = q.u ∙ p.u; v = q.v ∙ p.v }

-- ---- the bidiagonal form

module _ (f : Format) (floor : Float) (rows cols stride i j : ℕ) (a : List Float) where
  headed-length : (r : Reflection) → length (headed r rows stride i j a) ≡ length a
  headed-length r = simp length-set (line_cleared-length (i * stride + j) stride (rows - i) a)

  pub column_matrix-length : length (column_matrix f floor rows cols stride i j a) ≡ length a
  column_matrix-length = go (eq r.tau plus_zero) refl
    where
      r : Reflection
      r = column_reflection f floor rows stride i j a

      go : (t : Bool) → eq r.tau plus_zero ≡ t → length (column_matrix f floor rows cols stride i j a) ≡ length a
      go true e = rw (← column_still f floor rows cols stride i j a r refl e) (headed-length r)
      go false e =
          rw (← column_moved f floor rows cols stride i j a r refl e)
          (reflected_left-length f _ _ _ _ _ _ _ _ ∙ headed-length r)

  pub row_matrix-length : length (row_matrix f floor rows cols stride i j a) ≡ length a
  row_matrix-length = go (eq r.tau plus_zero) refl
    where
      r : Reflection
      r = reflection_of f floor (i * stride + j) (cols - j) a

      go : (t : Bool) → eq r.tau plus_zero ≡ t → length (row_matrix f floor rows cols stride i j a) ≡ length a
      go true e = rw (← row_still f floor rows cols stride i j a r refl e) (reflection_of-entries f floor _ _ a)
      go false e =
          rw (← row_moved f floor rows cols stride i j a r refl e)
          (reflected_right-length f _ _ _ _ _ _ _ _ ∙ reflection_of-entries f floor _ _ a)

pub factor-length :
    (f : Format) (r : Reflection) (n lines i : ℕ) (a : List Float) → length (factor_reflected f r n lines i a) ≡ length a
factor-length f r n lines i a = go (eq r.tau plus_zero) refl
  where
    go : (t : Bool) → eq r.tau plus_zero ≡ t → length (factor_reflected f r n lines i a) ≡ length a
    go true e = rw (← factor-still f n lines i a r r refl e) refl
    go false e = rw (← factor-moved f n lines i a r r refl e) (reflected_right-length f _ _ _ _ _ _ _ _)

module _ (f : Format) (floor : Float) (z : Shape) where
  pub column_zeroed-lengths : (i j : ℕ) (w : Work) → SameLengths w (column_zeroed f floor z i j w)
  unfolding column_zeroed
  column_zeroed-lengths i j w =
      record { matrix = column_matrix-length f floor _ _ _ i j _; u = factor-length f _ _ _ i _; v = refl }

  pub row_zeroed-lengths : (i j : ℕ) (w : Work) → SameLengths w (row_zeroed f floor z i j w)
  unfolding row_zeroed
  row_zeroed-lengths i j w =
      record { matrix = row_matrix-length f floor _ _ _ i j _; u = refl; v = factor-length f _ _ _ j _ }

module _ (f : Format) (z : Shape) where
  pub turned-lengths : (g : Rotation) (by_row : Bool) (i j n : ℕ) (w : Work) → SameLengths w (turned f z g by_row i j n w)
  unfolding turned
  turned-lengths g true i j n w =
      record { matrix = rows_turned-length f g _ i j n _; u = columns_turned-length f g _ i 0 _ _; v = refl }
  turned-lengths g false i j n w =
      record { matrix = columns_turned-length f g _ i j n _; u = refl; v = columns_turned-length f g _ i 0 _ _ }

-- ---- the run, by the law of Relation

lengths_hold : (f : Format) (floor : Float) (z : Shape) (c : ℕ) (w₀ : Work) → Holds f floor z c (SameLengths w₀)
lengths_hold f floor z c w₀ =
    record {
      column = λ i j w h g r. onward r (column_zeroed-lengths f floor z i j w);
      row = λ i j w h g r. onward r (row_zeroed-lengths f floor z i j w);
      turn = λ t by_row i j n w h l r. onward r (turned-lengths f z t by_row i j n w);
    }

pub bidiagonal-kept :
    (f : Format) (floor : Float) (z : Shape) (upper : Bool) (c : ℕ) (w w' : Work) →
    w' ≡ bidiagonal f floor z upper c w →
    SameLengths w w'
bidiagonal-kept f floor z upper c w w' e =
    rw e (bidiagonal-holds (lengths_hold f floor z (c + 1) w) upper c w (omega arith) (same w))

module _ (f : Format) (z : Shape) where
  pub swept-lengths : (upper : Bool) (k : ℕ) (w : Work) → SameLengths w (swept f z upper k w)
  swept-lengths upper k w = swept-holds (lengths_hold f plus_zero z (k + 2) w) upper k w (omega arith) (same w)

  pub walked_from-lengths :
      (rows cols : ℕ) (s : Settings) (w : Work) → SameLengths w (walked_from f z rows cols s w).held
  walked_from-lengths rows cols s w =
      run_holds rows cols s (lengths_hold f s.floor z (card rows cols + 1) w) (omega arith) (omega arith) w (same w)

-- whatever the input, accepted or refused
pub outcome-lengths :
    (f : Format) (kept : Bool) (rows cols : ℕ) (s : Settings) (w : Work) →
    SameLengths w (outcome f kept rows cols s w).held
unfolding outcome accepted
outcome-lengths f kept rows cols s w = go (eqb (refusal_of kept rows cols s w).number 0) refl
  where
    go :
        (t : Bool) → eqb (refusal_of kept rows cols s w).number 0 ≡ t →
        SameLengths w (outcome f kept rows cols s w).held
    go true e = rw (e, outcome) (walked_from-lengths f (packed kept rows cols) rows cols s w)
    go false e = rw (e, outcome) (same w)
