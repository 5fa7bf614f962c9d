-- Where the view of a row lies, and for its proof what each way out answers. Assumes nothing.
use Rattle.std.specs.Prelude.{◌≡◌, true, false, List, [], ℕ, ◌+◌, ◌*◌, ◌≤◌, ◌<◌, eqb, length, Float}
use Rattle.std.proofs.Math.Path.{refl}
use Rattle.std.proofs.Common.{sym, ◌∙◌, true≢false}
use native.Mathlib.Omega.{arith}
use borrow.Author.Tests.{eq-eqb, ne_eqb}
use Rattle.method.specs.Floats.{pick}
use Rattle.method.specs.View.{view_fit, row_of, row_viewed}
use Rattle.method.specs.View.Rows.{ViewFit}
use Rattle.method.proofs.View.Rows.{view_fit_lem, row_viewed_lem, row_refused}
use Rattle.method.proofs.Index.{row_in, few}

-- ---- the place

-- a place in memory: a block, and how many bytes into it
abbrev pub Place : Type 0
Place = ℕ × ℕ

-- where entry n lies of the floats that begin at p: each has 8 bytes
abbrev pub entry_at : Place → ℕ → Place
entry_at p n = (p.0, n * 8 + p.1)

-- where the view lies, U and V lying at p and q: where row k of U begins (side 0) or row k of V (side 1), and at U's
-- beginning where the view is not fit
unfoldable pub view_place : ℕ → ℕ → List Float → List Float → ℕ → ℕ → Place → Place → Place
view_place rows cols u v side k p q =
    elim (view_fit rows cols u v side k) [
      | true ↦ pick (eqb side 0) (entry_at p (k * rows)) (entry_at q (k * cols))
      | false ↦ p
    ]

-- the part from `start` on lies inside, and all is small
pub record Room (start size len : ℕ) : Type 0 where
  pub inside : start + size ≤ len
  pub few : len ≤ 3072

-- ---- the view is fit

module _ {rows cols : ℕ} {u v : List Float} {side k : ℕ} (fit : ViewFit rows cols u v side k) where
  -- on side 0 the row lies in U, and is the answer
  pub u_room : side ≡ 0 → Room (k * rows) rows (length u)
  u_room e =
      let below : k < rows = rw (eq-eqb side 0 e) at fit.row_below_size in
      record {
        inside = rw fit.u_length (row_in k rows rows below);
        few = rw fit.u_length (few rows rows fit.rows_few (omega (arith, fit.rows_few)));
      }

  pub u_row : side ≡ 0 → row_of rows k u ≡ row_viewed rows cols u v side k
  u_row e = sym (row_viewed_lem rows cols u v side k fit ∙ rw (eq-eqb side 0 e) refl)

  pub u_place : (p q : Place) → side ≡ 0 → entry_at p (k * rows) ≡ view_place rows cols u v side k p q
  unfolding view_place
  u_place p q e = rw ((view_fit_lem rows cols u v side k).1 fit, view_place, eq-eqb side 0 e) refl

  -- on the other side in V
  pub v_room : ¬ (side ≡ 0) → Room (k * cols) cols (length v)
  v_room e =
      let below : k < cols = rw (ne_eqb side 0 e) at fit.row_below_size in
      record {
        inside = rw fit.v_length (row_in k cols cols below);
        few = rw fit.v_length (few cols cols fit.cols_few (omega (arith, fit.cols_few)));
      }

  pub v_row : ¬ (side ≡ 0) → row_of cols k v ≡ row_viewed rows cols u v side k
  v_row e = sym (row_viewed_lem rows cols u v side k fit ∙ rw (ne_eqb side 0 e) refl)

  pub v_place : (p q : Place) → ¬ (side ≡ 0) → entry_at q (k * cols) ≡ view_place rows cols u v side k p q
  unfolding view_place
  v_place p q e = rw ((view_fit_lem rows cols u v side k).1 fit, view_place, ne_eqb side 0 e) refl

-- ---- the view is not fit

module _ (rows cols : ℕ) (u v : List Float) (side k : ℕ) where
  -- what is answered where the test is false
  pub no_row : view_fit rows cols u v side k ≡ false → [] ≡ row_viewed rows cols u v side k
  no_row e = sym (row_refused rows cols u v side k (λ x. true≢false (sym ((view_fit_lem rows cols u v side k).1 x) ∙ e)))

  pub no_place : (p q : Place) → view_fit rows cols u v side k ≡ false → p ≡ view_place rows cols u v side k p q
  unfolding view_place
  no_place p q e = rw (e, view_place) refl
