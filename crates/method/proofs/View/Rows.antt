-- When the view of a row is fit, and what it then shows. Assumes nothing.
use Rattle.std.specs.Prelude.{◌≡◌, ◌↔◌, Bool, ℕ, ◌*◌, ◌<◌, eqb, length, drop, Float}
use Rattle.std.proofs.Math.Path.{refl}
use Rattle.std.proofs.Common.{sym, ap, ◌∙◌, arith, length-drop, length-take-le}
use mathlib.Core.Logic.Iff as Iff
use Rattle.std.proofs.Math.Bool.{true, false}
use mathlib.Core.List.{List, []}
use Rattle.method.specs.Floats.{pick}
use Rattle.method.proofs.Index.{row_below}
use Rattle.method.specs.Settings.{most_size}
use Rattle.method.proofs.Checks.Tests.{less, most, same, nor, both, some}
use Rattle.method.specs.View.{row_of, view_fit, row_viewed}
use Rattle.method.specs.View.Rows.{ViewFit}

-- a row of a square table has as many entries as the table has rows
pub row_length : (n k : ℕ) (a : List Float) → k < n → length a ≡ n * n → length (row_of n k a) ≡ n
row_length n k a h e = length-take-le n (drop (k * n) a) (rw length-drop (omega (arith, row_below n h)))

module _ (rows cols : ℕ) (u v : List Float) (side k : ℕ) where
  -- the view's test is true exactly when all of these hold
  pub view_fit_lem : (view_fit rows cols u v side k ≡ true) ↔ ViewFit rows cols u v side k
  view_fit_lem =
      Iff.trans
      (both
      (both
      (both
      (both
      (both (both (both (nor (same rows 0)) (nor (same cols 0))) (most rows most_size)) (most cols most_size))
      (same (length u) (rows * rows)))
      (same (length v) (cols * cols)))
      (most side 1))
      (less k (pick (eqb side 0) rows cols))) (
        λ p.
            record {
              rows_some = some rows p.0.0.0.0.0.0.0;
              cols_some = some cols p.0.0.0.0.0.0.1;
              rows_few = p.0.0.0.0.0.1;
              cols_few = p.0.0.0.0.1;
              u_length = p.0.0.0.1;
              v_length = p.0.0.1;
              side_known = p.0.1;
              row_below_size = p.1;
            },
        λ x. (
          (
            (
              (
                (
                  (
                    (
                      λ z. omega (arith, x.rows_some),
                      λ z. omega
                          (arith, x.cols_some),
                    ),
                    x.rows_few,
                  ),
                  x.cols_few,
                ),
                x.u_length,
              ),
              x.v_length,
            ),
            x.side_known,
          ),
          x.row_below_size,
        ),
      )

  -- where they hold, the view is row k of U for side 0, and of V for side 1
  pub row_viewed_lem :
      ViewFit rows cols u v side k →
      row_viewed rows cols u v side k ≡ pick (eqb side 0) (row_of rows k u) (row_of cols k v)
  unfolding row_viewed
  row_viewed_lem x = rw (view_fit_lem.1 x, row_viewed)

  -- where one does not hold, it is nothing
  pub row_refused : ¬ ViewFit rows cols u v side k → row_viewed rows cols u v side k ≡ []
  unfolding row_viewed
  row_refused h = go (view_fit rows cols u v side k) refl
    where
      go : (b : Bool) → view_fit rows cols u v side k ≡ b → row_viewed rows cols u v side k ≡ []
      go true t = absurd (h (view_fit_lem.0 t))
      go false t = rw (t, row_viewed)

  -- a view is as long as the side's size, which is 1 or more
  pub row_viewed-length :
      ViewFit rows cols u v side k → length (row_viewed rows cols u v side k) ≡ pick (eqb side 0) rows cols
  row_viewed-length x = rw (row_viewed_lem x) (go (eqb side 0) x.row_below_size)
    where
      go : (b : Bool) → k < pick b rows cols → length (pick b (row_of rows k u) (row_of cols k v)) ≡ pick b rows cols
      go true h = row_length rows k u h x.u_length
      go false h = row_length cols k v h x.v_length

  -- so the view is empty exactly when one of them does not hold
  pub row_empty : (row_viewed rows cols u v side k ≡ []) ↔ (¬ ViewFit rows cols u v side k)
  row_empty = (λ e x. omega (arith, x.row_below_size, sym (row_viewed-length x) ∙ ap length e), row_refused)
