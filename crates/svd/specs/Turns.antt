-- One more turn of the loops that lend the table and both factors on, each list as the code has it. Assumes nothing.
use Rattle.std.specs.Prelude.{◌≡◌, Bool, true, false, not, List, Float}
use Rattle.std.proofs.Math.Path.{refl}
use Rattle.std.proofs.Common.{◌∙◌}
use Prim.Native.Nat.{ℕ, ◌+◌, ◌-◌, zero-le}
use Rattle.std.specs.Float.{binary64}
use Rattle.method.specs.Work.{Work, work, Shape as Sizes}
use Rattle.method.proofs.Repeated.{repeated-more}
use Rattle.method.specs.Bidiagonal.{column_reflection, row_reflection, column_matrix, row_matrix, factor_reflected}
use Rattle.method.specs.Bidiagonal.{column_zeroed, row_zeroed, first_zeroed, places_zeroed, bidiagonal}
use Rattle.method.proofs.Bidiagonal.{bidiagonal-other}
use Rattle.method.specs.Chase.{pushed, steps}
use Rattle.method.proofs.Chase.{stepped-is}

-- ---- the bidiagonal form

module _ (floor : Float) (z : Sizes) where
  -- what `zero_col` and `zero_row` make of the three lists
  module _ (i j : ℕ) (b u v b' f' : List Float) where
    pub column_zeroed_lem :
        b' ≡ column_matrix binary64 floor z.rows z.cols z.stride i j b →
        (let r = column_reflection binary64 floor z.rows z.stride i j b in
        f' ≡ factor_reflected binary64 r z.rows z.urows i u) →
        work b' f' v ≡ column_zeroed binary64 floor z i j (work b u v)
    unfolding column_zeroed
    column_zeroed_lem eb eu = rw (eb, eu) refl

    pub row_zeroed_lem :
        b' ≡ row_matrix binary64 floor z.rows z.cols z.stride i j b →
        (let r = row_reflection binary64 floor z.cols z.stride i j b in
        f' ≡ factor_reflected binary64 r z.cols z.vrows j v) →
        work b' u f' ≡ row_zeroed binary64 floor z i j (work b u v)
    unfolding row_zeroed
    row_zeroed_lem eb ev = rw (eb, ev) refl

  module _ (upper : Bool) (k : ℕ) (w₁ w₂ : Work) where
    -- one place more
    module _ (w₀ w : Work) (places : w ≡ places_zeroed binary64 floor z upper k w₀) where
      pub place-upper :
          upper ≡ true →
          w₁ ≡ column_zeroed binary64 floor z k k w →
          w₂ ≡ row_zeroed binary64 floor z k (k + 1) w₁ →
          w₂ ≡ places_zeroed binary64 floor z upper (k + 1) w₀
      unfolding places_zeroed
      place-upper e d₁ d₂ = rw (d₂, d₁, e) (repeated-more 0 _ _ _ _ zero-le (rw e at places))

      pub place-lower :
          upper ≡ false →
          w₁ ≡ row_zeroed binary64 floor z k k w →
          w₂ ≡ column_zeroed binary64 floor z (k + 1) k w₁ →
          w₂ ≡ places_zeroed binary64 floor z upper (k + 1) w₀
      unfolding places_zeroed
      place-lower e d₁ d₂ = rw (d₂, d₁, e) (repeated-more 0 _ _ _ _ zero-le (rw e at places))

  -- the last place of a table that is not square: only its first line is cleared
  module _ (upper : Bool) (c : ℕ) (w₀ w₁ w₂ : Work) (places : w₁ ≡ places_zeroed binary64 floor z upper (c - 1) w₀)
      (other : z.rows ≡ z.cols → ⊥) where
    last : w₂ ≡ first_zeroed binary64 floor z upper (c - 1) w₁ → w₂ ≡ bidiagonal binary64 floor z upper c w₀
    last d = d ∙ bidiagonal-other binary64 floor z upper c w₀ w₁ places other

    pub last_upper :
        upper ≡ true → w₂ ≡ column_zeroed binary64 floor z (c - 1) (c - 1) w₁ →
        w₂ ≡ bidiagonal binary64 floor z upper c w₀
    last_upper e d = last (rw e d)

    pub last_lower :
        upper ≡ false → w₂ ≡ row_zeroed binary64 floor z (c - 1) (c - 1) w₁ → w₂ ≡ bidiagonal binary64 floor z upper c w₀
    last_lower e d = last (rw e d)

-- ---- a sweep

-- one step more: its two pushes
pub step_more :
    (z : Sizes) (upper : Bool) (k : ℕ) (w₀ w w₁ w₂ : Work) →
    w ≡ steps binary64 z upper k w₀ →
    w₁ ≡ pushed binary64 z upper k k 3 w →
    w₂ ≡ pushed binary64 z (not upper) (k + 1) k 3 w₁ →
    w₂ ≡ steps binary64 z upper (k + 1) w₀
unfolding steps
step_more z upper k w₀ w w₁ w₂ e d₁ d₂ = stepped-is binary64 z upper k w w₁ w₂ d₁ d₂ ∙ repeated-more 0 _ _ _ _ zero-le e
