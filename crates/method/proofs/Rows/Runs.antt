-- Each row goes its own way through the whole run, as an instance of the law of Relation: of two runs over equal tables,
-- of a run and one that keeps a single row, and of a row of zeros. Assumes nothing.
use Rattle.std.specs.Prelude.{◌≡◌, refl, List, ℕ, ◌+◌, ◌-◌, ◌*◌, ◌<◌, ◌≤◌, length, drop, Float}
use Rattle.std.proofs.Math.Path.{sym}
use Rattle.std.proofs.Common.{ap, ◌∙◌, zero-mul, le_of_eq, le_trans, arith, length-take, take_all}
use Rattle.std.proofs.Math.Bool.{true}
use Rattle.std.proofs.Math.Nat.{min-le_left}
use Rattle.std.specs.Float.{Format}
use Rattle.method.specs.Work.{Work, packed}
use Rattle.method.specs.View.{row_of}
use Rattle.method.specs.Settings.{Settings}
use Rattle.method.specs.Rotation.{pair_turned}
use Rattle.method.specs.Reflection.{row_reflected}
use Rattle.method.proofs.Report.Words.{reported-same}
use Rattle.method.specs.Outcome.{card, is_upper, walked_from, accepted}
use Rattle.method.proofs.Outcome.Reports.{card-some, card-le}
use Rattle.method.proofs.Lengths.{walked_from-lengths}
use Rattle.method.proofs.Relation.{run-kept}
use Rattle.method.specs.Relation.Parts.{Between, FactorKept}
use Rattle.method.proofs.Relation.Parts.{parts_kept, equal_kept, any_kept}
use Rattle.method.proofs.Same.{runs-kept, runs-agree}
use Rattle.method.specs.Rows.{Side, left, right, size_of, row_at, OwnRows, with_row, one_row, row_alone}
use Rattle.method.specs.Rows.{ZeroRow}
use Rattle.method.proofs.Rows.Steps.{reflected_right-row, columns_turned-row}
use Rattle.method.specs.Rows.Zeros.{Noughts}
use Rattle.method.proofs.Rows.Zeros.{noughts, noughts_are, row_reflected-noughts, pair_turned-noughts}

-- ---- what the operations on a factor keep

-- row i of the one factor is row j of the other
abbrev RowSame : ℕ → ℕ → ℕ → Between
RowSame n i j a a' = row_of n i a ≡ row_of n j a'

row_kept :
    (f : Format) (n i j lines lines' c : ℕ) → i < lines → j < lines' → c ≤ n →
    FactorKept f n lines lines' c (RowSame n i j)
row_kept f n i j lines lines' c h g within =
    record {
      reflect = λ p tau x a a' l q.
          reflected_right-row f n i p tau x lines a (omega arith) h
          ∙ ap (row_reflected f p tau x (n - x)) q
          ∙ sym (reflected_right-row f n j p tau x lines' a' (omega arith) g);
      turn = λ r x a a' l q.
          columns_turned-row f n i r x lines a (omega arith) h
          ∙ ap (pair_turned f r x (x + 1)) q
          ∙ sym (columns_turned-row f n j r x lines' a' (omega arith) g);
    }

-- row i of the one has zeros and NaNs alone; of the other nothing is asked
abbrev RowOfZeros : ℕ → ℕ → Between
RowOfZeros n i a a' = Noughts (row_of n i a)

zeros-kept :
    (f : Format) (n i lines lines' c : ℕ) → i < lines → c ≤ n → FactorKept f n lines lines' c (RowOfZeros n i)
zeros-kept f n i lines lines' c h within =
    record {
      reflect = λ p tau x a a' l q.
          rw (reflected_right-row f n i p tau x lines a (omega arith) h)
          (row_reflected-noughts f p tau x (n - x) (row_of n i a) q);
      turn = λ r x a a' l q.
          rw (columns_turned-row f n i r x lines a (omega arith) h)
          (pair_turned-noughts f r x (x + 1) (row_of n i a) q);
    }

-- ---- a list of one row

-- a row has at most n entries,
row_short : (n i : ℕ) (a : List Float) → length (row_of n i a) ≤ n
row_short n i a = rw length-take (min-le_left n (length (drop (i * n) a)))

-- and as a list it is its own first row
row_first : (n : ℕ) (r : List Float) → length r ≤ n → row_of n 0 r ≡ r
row_first n r h = rw (zero-mul n) (take_all n r h)

-- ---- the run

module _ (f : Format) (rows cols : ℕ) (s : Settings) (h : 1 ≤ rows) (g : 1 ≤ cols) where
  some : 1 ≤ card rows cols
  some = card-some rows cols h g

  -- two runs over equal tables report the same, leave the same table, and have rows that began alike alike
  pub runs_own :
      (w w' : Work) → w.matrix ≡ w'.matrix →
      let o = accepted f true rows cols s w in
      let o' = accepted f true rows cols s w' in
      (o.report ≡ o'.report) × OwnRows rows cols w w' o.held o'.held
  unfolding accepted
  runs_own w w' m =
      let a = runs-agree f true true rows cols s w w' m in
      let e = walked_from f (packed true rows cols) rows cols s w in
      let e' = walked_from f (packed true rows cols) rows cols s w' in
      (reported-same (is_upper rows cols) cols e e' a.walk a.held.matrix, record { matrix = a.held.matrix; row = own })
    where
      own :
          (side : Side) (i j : ℕ) → i < size_of side rows cols → j < size_of side rows cols →
          row_at side rows cols i w ≡ row_at side rows cols j w' →
          row_at side rows cols i (accepted f true rows cols s w).held
          ≡ row_at side rows cols j (accepted f true rows cols s w').held
      own left i j k l q =
          (runs-kept true true rows cols s w w' some (omega arith)
          (row_kept f rows i j rows rows (card rows cols) k l (card-le rows cols).0) (any_kept f cols cols cols _)
          (record { matrix = m; u = q; v = tt })
          ).held.u
      own right i j k l q =
          (runs-kept true true rows cols s w w' some (omega arith) (any_kept f rows rows rows _)
          (row_kept f cols i j cols cols (card rows cols) k l (card-le rows cols).1)
          (record { matrix = m; u = tt; v = q })
          ).held.v

  -- a row is what a run that keeps it alone makes of it
  pub runs-alone :
      (w : Work) (side : Side) (i : ℕ) → i < size_of side rows cols →
      row_at side rows cols i (accepted f true rows cols s w).held
      ≡ row_alone f side rows cols s w.matrix (row_at side rows cols i w)
  unfolding accepted row_alone
  runs-alone w left i k =
      let r = row_at left rows cols i w in
      (run-kept rows cols s
      (parts_kept (equal_kept f s.floor rows cols cols (card rows cols))
      (row_kept f rows i 0 rows 1 (card rows cols) k (omega arith) (card-le rows cols).0) (any_kept f cols cols 0 _))
      some (omega arith) w (with_row left w.matrix r)
      (record { matrix = refl; u = sym (row_first rows r (row_short rows i w.u)); v = tt })
      ).held.u
      ∙ row_first rows _ (le_trans (le_of_eq (walked_from-lengths f (one_row left rows cols) rows cols s _).u)
      (row_short rows i w.u))
  runs-alone w right i k =
      let r = row_at right rows cols i w in
      (run-kept rows cols s
      (parts_kept (equal_kept f s.floor rows cols cols (card rows cols)) (any_kept f rows rows 0 _)
      (row_kept f cols i 0 cols 1 (card rows cols) k (omega arith) (card-le rows cols).1))
      some (omega arith) w (with_row right w.matrix r)
      (record { matrix = refl; u = tt; v = sym (row_first cols r (row_short cols i w.v)) })
      ).held.v
      ∙ row_first cols _ (le_trans (le_of_eq (walked_from-lengths f (one_row right rows cols) rows cols s _).v)
      (row_short cols i w.v))

  -- a row of zeros and NaNs stays one
  pub runs-zero :
      (w : Work) (side : Side) (i : ℕ) → i < size_of side rows cols →
      ZeroRow (row_at side rows cols i w) →
      ZeroRow (row_at side rows cols i (accepted f true rows cols s w).held)
  unfolding accepted
  runs-zero w left i k z =
      noughts_are (row_at left rows cols i (accepted f true rows cols s w).held)
      (runs-kept true true rows cols s w w some (omega arith)
      (zeros-kept f rows i rows rows (card rows cols) k (card-le rows cols).0) (any_kept f cols cols cols _)
      (record { matrix = refl; u = noughts (row_at left rows cols i w) z; v = tt })
      ).held.u
  runs-zero w right i k z =
      noughts_are (row_at right rows cols i (accepted f true rows cols s w).held)
      (runs-kept true true rows cols s w w some (omega arith) (any_kept f rows rows rows _)
      (zeros-kept f cols i cols cols (card rows cols) k (card-le rows cols).1)
      (record { matrix = refl; u = tt; v = noughts (row_at right rows cols i w) z })
      ).held.v
