-- Each row goes its own way through the accumulating call, where it is not refused. Assumes nothing.
use Rattle.std.specs.Prelude.{◌≡◌, refl, true, ℕ, ◌<◌, length}
use Rattle.std.proofs.Common.{sym, ap, ◌∙◌}
use Rattle.std.specs.Float.{Format}
use Rattle.method.specs.Work.{Work}
use Rattle.method.specs.Settings.{Settings}
use Rattle.method.specs.Checks.{refusal_of}
use Rattle.method.proofs.Checks.Table.{clear, fit}
use Rattle.method.specs.Report.{Report}
use Rattle.method.proofs.Lengths.{outcome-lengths}
use Rattle.method.specs.Outcome.{Outcome, outcome_of, full_outcome}
use Rattle.method.proofs.Outcome.Refused.{accepted-outcome}
use Rattle.method.specs.Rows.{Side, left, right, size_of, row_at, OwnRows, row_alone, ZeroRow, exchanged}
use Rattle.method.proofs.Rows.Runs.{runs_own, runs-alone, runs-zero}
use Rattle.method.specs.Rows.Moved.{Square}
use Rattle.method.proofs.Rows.Moved.{exchanged-square, own_exchanged}

-- the table stays where rows of a factor are exchanged
pub same_table :
    (rows cols : ℕ) (side : Side) (i j : ℕ) (w : Work) → w.matrix ≡ (exchanged side rows cols i j w).matrix
same_table rows cols left i j w = refl
same_table rows cols right i j w = refl

-- a call leaves the lengths of the factors
pub held_square :
    (f : Format) (rows cols : ℕ) (s : Settings) (w : Work) → Square rows cols w →
    Square rows cols (full_outcome f rows cols s w).held
held_square f rows cols s w q left = (outcome-lengths f true rows cols s w).u ∙ q left
held_square f rows cols s w q right = (outcome-lengths f true rows cols s w).v ∙ q right

-- two equations are one
by_both : {o : Outcome} {r : Report} {w : Work} → o.report ≡ r → o.held ≡ w → o ≡ outcome_of r w
by_both p q = λ i. outcome_of (p i) (q i)

module _ (rows cols : ℕ) (s : Settings) (w : Work) (e : (refusal_of true rows cols s w).number ≡ 0) where
  -- what is accepted has factors of the right lengths,
  pub fit_square : Square rows cols w
  fit_square left = (fit true rows cols s w e).u_length refl
  fit_square right = (fit true rows cols s w e).v_length refl

  -- and whatever has the same readings and such factors is accepted, too
  pub square-accepts :
      (w' : Work) → w.matrix ≡ w'.matrix → Square rows cols w' → (refusal_of true rows cols s w').number ≡ 0
  square-accepts w' m q =
      let c = (clear true rows cols s w).0 e in
      (clear true rows cols s w').1
      record {
        sizes = c.sizes;
        lengths = (
          λ n. c.lengths.0 (λ z. n (ap length (sym m) ∙ z)),
          (λ x. x.1 (q left), (λ x. x.1 (q right), tt)),
        );
        settings = c.settings;
        readings = rw (← m) c.readings;
      }

  module _ (f : Format) where
    -- two calls on equal readings
    pub calls_own :
        (w' : Work) → (refusal_of true rows cols s w').number ≡ 0 → w.matrix ≡ w'.matrix →
        let o = full_outcome f rows cols s w in
        let o' = full_outcome f rows cols s w' in
        (o.report ≡ o'.report) × OwnRows rows cols w w' o.held o'.held
    calls_own w' e' m =
        let k = fit true rows cols s w e in
        rw (accepted-outcome f true rows cols s w e, accepted-outcome f true rows cols s w' e')
        (runs_own f rows cols s k.rows_some k.cols_some w w' m)

    -- a row by itself
    pub calls_alone :
        (side : Side) (i : ℕ) → i < size_of side rows cols →
        row_at side rows cols i (full_outcome f rows cols s w).held
        ≡ row_alone f side rows cols s w.matrix (row_at side rows cols i w)
    calls_alone side i h =
        let k = fit true rows cols s w e in
        rw (accepted-outcome f true rows cols s w e)
        (runs-alone f rows cols s k.rows_some k.cols_some w side i h)

    -- a row of zeros and NaNs
    pub calls_zero :
        (side : Side) (i : ℕ) → i < size_of side rows cols → ZeroRow (row_at side rows cols i w) →
        ZeroRow (row_at side rows cols i (full_outcome f rows cols s w).held)
    calls_zero side i h z =
        let k = fit true rows cols s w e in
        rw (accepted-outcome f true rows cols s w e)
        (runs-zero f rows cols s k.rows_some k.cols_some w side i h z)

    -- two rows of a factor exchanged
    pub calls_exchanged :
        (side : Side) (i j : ℕ) → i < size_of side rows cols → j < size_of side rows cols →
        let o = full_outcome f rows cols s w in
        full_outcome f rows cols s (exchanged side rows cols i j w)
        ≡ outcome_of o.report (exchanged side rows cols i j o.held)
    calls_exchanged side i j h g =
        let w' = exchanged side rows cols i j w in
        let square' = exchanged-square rows cols w fit_square side i j h g in
        let e' = square-accepts w' (same_table rows cols side i j w) square' in
        let own = calls_own w' e' (same_table rows cols side i j w) in
        by_both (sym own.0)
        (own_exchanged side i j own.1 fit_square
        (held_square f rows cols s w fit_square) (held_square f rows cols s w' square') h g)
