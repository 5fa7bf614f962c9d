-- Relations between works that are given part by part: one of the two matrices, one of the two U and one of the two V.
-- What is to be shown of each part, and that the run then keeps all three. Assumes nothing.
use Rattle.std.specs.Prelude.{refl, Bool, true, false, List, ℕ, ◌+◌, ◌-◌, ◌<◌, ◌≤◌, Float}
use Rattle.std.proofs.Common.{ap}
use Rattle.std.specs.Float.{Format}
use Rattle.std.specs.Float.Ieee.{eq}
use Rattle.method.specs.Floats.{plus_zero}
use Rattle.method.specs.Work.{Work, at}
use Rattle.method.specs.Rotation.{Rotation, rows_turned, columns_turned}
use Rattle.method.specs.Reflection.{Reflection, reflected_right}
use Rattle.method.specs.Bidiagonal.{column_reflection, row_reflection, column_matrix, row_matrix, factor_reflected}
use Rattle.method.specs.Bidiagonal.{column_zeroed, row_zeroed}
use Rattle.method.specs.Chase.{turned}
use Rattle.method.specs.Relation.{Kept}
use Rattle.method.specs.Relation.Parts.{Any, Between, Equal, FactorKept, MatrixKept, Parts, Same, shape}

factor-kept :
    {f : Format} {n lines lines' c : ℕ} {Q : Between} → FactorKept f n lines lines' c Q →
    (r r' : Reflection) (i : ℕ) (a a' : List Float) → Same r r' → i < c → Q a a' →
    Q (factor_reflected f r n lines i a) (factor_reflected f r' n lines' i a')
unfolding factor_reflected
factor-kept {f} {n} {lines} {lines'} {c} {Q} k r r' i a a' s h q = rw (s.vector, s.tau) (choose (eq r'.tau plus_zero))
  where
    choose :
        (t : Bool) →
        Q (elim t [ true ↦ a | false ↦ reflected_right f r'.vector r'.tau n 0 i lines (n - i) a ])
        (elim t [ true ↦ a' | false ↦ reflected_right f r'.vector r'.tau n 0 i lines' (n - i) a' ])
    choose true = q
    choose false = k.reflect r'.vector r'.tau i a a' h q

-- the three parts together
pub parts_kept :
    {f : Format} {floor : Float} {rows cols stride stride' c urows urows' vrows vrows' : ℕ} {M Q P : Between} →
    MatrixKept f floor rows cols stride stride' c M → FactorKept f rows urows urows' c Q →
    FactorKept f cols vrows vrows' c P →
    Kept f floor (shape rows cols stride urows vrows) (shape rows cols stride' urows' vrows') c (Parts M Q P)
unfolding column_zeroed row_zeroed turned
parts_kept {f} {floor} {rows} {cols} {stride} {stride'} {c} {urows} {urows'} {vrows} {vrows'} {M} {Q} {P} m u v =
    record {
      rows = refl;
      cols = refl;
      reads = λ i j w w' h g r. m.reads i j w.matrix w'.matrix h g r.matrix;
      column = λ i j w w' h g r.
          record {
            matrix = m.column i j w.matrix w'.matrix h g r.matrix;
            u = factor-kept u _ _ i w.u w'.u (m.column_by i j w.matrix w'.matrix h g r.matrix) h r.u;
            v = r.v;
          };
      row = λ i j w w' h g r.
          record {
            matrix = m.row i j w.matrix w'.matrix h g r.matrix;
            u = r.u;
            v = factor-kept v _ _ j w.v w'.v (m.row_by i j w.matrix w'.matrix h g r.matrix) g r.v;
          };
      turn = lines;
    }
  where
    lines :
        (g : Rotation) (by_row : Bool) (i j n : ℕ) (w w' : Work) → i + 1 < c → j + n ≤ c → Parts M Q P w w' →
        Parts M Q P (turned f (shape rows cols stride urows vrows) g by_row i j n w)
        (turned f (shape rows cols stride' urows' vrows') g by_row i j n w')
    lines g true i j n w w' h l r =
        record {
          matrix = m.turn_rows g i j n w.matrix w'.matrix h l r.matrix;
          u = u.turn g i w.u w'.u h r.u;
          v = r.v;
        }
    lines g false i j n w w' h l r =
        record {
          matrix = m.turn_columns g i j n w.matrix w'.matrix h l r.matrix;
          u = r.u;
          v = v.turn g i w.v w'.v h r.v;
        }

-- ---- the simplest parts: equal matrices of one stride, and factors of which nothing is asked

pub equal_kept :
    (f : Format) (floor : Float) (rows cols stride c : ℕ) → MatrixKept f floor rows cols stride stride c Equal
equal_kept f floor rows cols stride c =
    record {
      reads = λ i j a a' h g e. ap (at stride i j) e;
      column = λ i j a a' h g e. ap (column_matrix f floor rows cols stride i j) e;
      column_by =
          λ i j a a' h g e.
          record {
            vector = ap (λ (l : List Float). (column_reflection f floor rows stride i j l).vector) e;
            tau = ap (λ (l : List Float). (column_reflection f floor rows stride i j l).tau) e;
          };
      row = λ i j a a' h g e. ap (row_matrix f floor rows cols stride i j) e;
      row_by =
          λ i j a a' h g e.
          record {
            vector = ap (λ (l : List Float). (row_reflection f floor cols stride i j l).vector) e;
            tau = ap (λ (l : List Float). (row_reflection f floor cols stride i j l).tau) e;
          };
      turn_rows = λ g i j n a a' h l e. ap (rows_turned f g stride i j n) e;
      turn_columns = λ g i j n a a' h l e. ap (columns_turned f g stride i j n) e;
    }

pub any_kept : (f : Format) (n lines lines' c : ℕ) → FactorKept f n lines lines' c Any
any_kept f n lines lines' c = record { reflect = λ p tau i a a' h q. tt; turn = λ g i a a' h q. tt }
