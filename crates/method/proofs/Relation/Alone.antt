-- A property of one work is the relation's case of two equal works: what the three operations keep, the bidiagonal
-- form, the steps, a sweep and the run keep. Assumes nothing.
use Rattle.std.specs.Prelude.{refl, Bool, ℕ, ◌+◌, ◌-◌, ◌<◌, ◌≤◌, Float}
use Rattle.std.proofs.Common.{ap}
use Rattle.std.specs.Float.{Format}
use Rattle.method.specs.Work.{Work, Shape, at}
use Rattle.method.specs.Bidiagonal.{column_zeroed, row_zeroed, bidiagonal}
use Rattle.method.specs.Chase.{turned, steps, swept}
use Rattle.method.specs.Outcome.{card, walked_from}
use Rattle.method.specs.Settings.{Settings}
use Rattle.method.specs.Relation.{Kept}
use Rattle.method.proofs.Relation.{bidiagonal-kept, steps-kept, swept_kept, run-kept}
use Rattle.method.specs.Relation.Alone.{Holds, With}

module _ {f : Format} {floor : Float} {z : Shape} {c : ℕ} {P : Work → Type 0} (p : Holds f floor z c P) where
  pub alone : Kept f floor z z c (With P)
  alone =
      record {
        rows = refl;
        cols = refl;
        reads = λ i j w w' h g r. ap (λ (w : Work). at z.stride i j w.matrix) r.same;
        column =
            λ i j w w' h g r.
            record { same = ap (column_zeroed f floor z i j) r.same; holds = p.column i j w h g r.holds };
        row =
            λ i j w w' h g r.
            record { same = ap (row_zeroed f floor z i j) r.same; holds = p.row i j w h g r.holds };
        turn =
            λ t by_row i j n w w' h l r.
            record { same = ap (turned f z t by_row i j n) r.same; holds = p.turn t by_row i j n w h l r.holds };
      }

  pub bidiagonal-holds : (upper : Bool) (d : ℕ) (w : Work) → d - 1 < c → P w → P (bidiagonal f floor z upper d w)
  bidiagonal-holds upper d w h q = (bidiagonal-kept alone upper d w w h (record { same = refl; holds = q })).holds

  pub steps-holds : (upper : Bool) (n : ℕ) (w : Work) → n + 1 < c → P w → P (steps f z upper n w)
  steps-holds upper n w h q = (steps-kept alone upper n w w h (record { same = refl; holds = q })).holds

  pub swept-holds : (upper : Bool) (k : ℕ) (w : Work) → k + 1 < c → P w → P (swept f z upper k w)
  swept-holds upper k w h q = (swept_kept alone upper k w w h (record { same = refl; holds = q })).holds

pub run_holds :
    {f : Format} {z : Shape} {c : ℕ} {P : Work → Type 0} (rows cols : ℕ) (s : Settings) →
    Holds f s.floor z c P → 1 ≤ c →
    card rows cols ≤ c →
    (w : Work) → P w → P (walked_from f z rows cols s w).held
run_holds rows cols s p some within w q =
    (run-kept rows cols s (alone p) some within w w (record { same = refl; holds = q })).held.holds
