-- Where a row lies within U or V, and that it is the row which the method views. Assumes nothing.
use Rattle.std.specs.Prelude.{◌≡◌, Bool, List, [], ℕ, ◌*◌, ◌≤◌, eqb, drop, Float}
use Rattle.std.proofs.Math.Path.{refl, ap}
use Rattle.std.proofs.Common.{sym, ◌∙◌, true≢false, arith}
use Rattle.std.proofs.Math.Bool.{true, false}
use Rattle.std.proofs.Math.ListN.{length, take}
use Rattle.method.specs.Floats.{pick}
use Rattle.method.proofs.Index.{few}
use Rattle.method.specs.Settings.{most_size}
use Rattle.method.specs.View.{row_of, view_fit, row_viewed}
use Rattle.method.proofs.View.Rows.{view_fit_lem, row_viewed_lem, row_viewed-length, row_refused}
use Rattle.app.specs.declared.Part.{Part}

abbrev pub part : ℕ → ℕ → Part
part start n = record { start = start; length = n }

-- the part of n entries from row k's first on, where the view is fit; no entries where it is not
unfoldable pub part_of : ℕ → ℕ → List Float → List Float → ℕ → ℕ → Part
part_of rows cols u v side k =
    elim (view_fit rows cols u v side k) [
      | true ↦ part (k * pick (eqb side 0) rows cols) (pick (eqb side 0) rows cols)
      | false ↦ part 0 0
    ]

-- a part with entries: where it starts is small, and it is the one sought
pub record Lies (rows cols : ℕ) (u v : List Float) (side k n : ℕ) : Type 0 where
  pub near : k * n ≤ 3072
  pub sought : part (k * n) n ≡ part_of rows cols u v side k

module _ (rows cols : ℕ) (u v : List Float) (side k : ℕ) where
  -- where the view is not fit it has no entries
  none : view_fit rows cols u v side k ≡ false → row_viewed rows cols u v side k ≡ []
  none t = row_refused rows cols u v side k (λ x. true≢false (sym ((view_fit_lem rows cols u v side k).1 x) ∙ t))

  -- the part that a view shows is its row
  pub part-row :
      let p = part_of rows cols u v side k in
      take p.length (drop p.start (pick (eqb side 0) u v)) ≡ row_viewed rows cols u v side k
  unfolding part_of
  part-row = go (view_fit rows cols u v side k) refl
    where
      sides :
          (b : Bool) →
          take (pick b rows cols) (drop (k * pick b rows cols) (pick b u v)) ≡ pick b (row_of rows k u) (row_of cols k v)
      sides true = refl
      sides false = refl

      go :
          (b : Bool) → view_fit rows cols u v side k ≡ b →
          let p = part_of rows cols u v side k in
          take p.length (drop p.start (pick (eqb side 0) u v)) ≡ row_viewed rows cols u v side k
      go true t =
          rw (t, part_of)
          (sides (eqb side 0) ∙ sym (row_viewed_lem rows cols u v side k ((view_fit_lem rows cols u v side k).0 t)))
      go false t = rw (t, part_of) (sym (none t))

  module _ (l : List Float) (e : l ≡ row_viewed rows cols u v side k) where
    -- a view without entries
    pub no_part : length l ≡ 0 → part 0 0 ≡ part_of rows cols u v side k
    unfolding part_of
    no_part z = go (view_fit rows cols u v side k) refl
      where
        go : (b : Bool) → view_fit rows cols u v side k ≡ b → part 0 0 ≡ part_of rows cols u v side k
        go true t =
            let x = (view_fit_lem rows cols u v side k).0 t in
            let n : length l ≡ pick (eqb side 0) rows cols = ap length e ∙ row_viewed-length rows cols u v side k x in
            absurd (omega (arith, x.row_below_size, n, z))
        go false t = rw (t, part_of) refl

    -- a view with entries
    pub lies : ¬ (length l ≡ 0) → Lies rows cols u v side k (length l)
    unfolding part_of
    lies h = go (view_fit rows cols u v side k) refl
      where
        low : (b : Bool) → k ≤ pick b rows cols → rows ≤ most_size → cols ≤ most_size → k * pick b rows cols ≤ 3072
        low true g r c = few k rows (omega (arith, g, r)) (omega (arith, r))
        low false g r c = few k cols (omega (arith, g, c)) (omega (arith, c))

        go : (b : Bool) → view_fit rows cols u v side k ≡ b → Lies rows cols u v side k (length l)
        go true t =
            let x = (view_fit_lem rows cols u v side k).0 t in
            let n : length l ≡ pick (eqb side 0) rows cols = ap length e ∙ row_viewed-length rows cols u v side k x in
            record {
              near = rw n (low (eqb side 0) (omega (arith, x.row_below_size)) x.rows_few x.cols_few);
              sought = rw (n, t, part_of) refl;
            }
        go false t = absurd (h (ap length e ∙ ap length (none t)))
