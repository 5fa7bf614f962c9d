-- The report's laws as laws of the calls, refusals counted in: what the accumulating call accepts the plain call
-- accepts, with the same report and matrix; a settled answer is the same answer at every greater allowed limit; and when
-- a quiet one settles there. Assumes nothing.
use Rattle.std.specs.Prelude.{◌≡◌, ◌⊎◌, Bool, true, false, [], ℕ, ◌+◌, ◌-◌, ◌*◌, ◌≤◌, ◌<◌}
use Rattle.std.proofs.Common.{inl, inr, le_trans, mul-le-mul, arith}
use Rattle.std.proofs.lemmas.Bool.{false≢true}
use Rattle.std.specs.Float.{Format}
use Rattle.method.specs.Work.{Work, work}
use Rattle.method.proofs.Walk.Counts.{enough-most}
use Rattle.method.specs.Checks.{refusal_of}
use Rattle.method.specs.Walk.Drops.{tally_down}
use Rattle.method.specs.Quiet.{BoundsAbove}
use Rattle.method.specs.Report.{settled, quiet}
use Rattle.method.specs.Outcome.{outcome_of, card, accepted, outcome, plain_outcome, full_outcome}
use Rattle.method.specs.Settings.{Settings, most_size, most_limit, most_credit, most_passes, most_rotations}
use Rattle.method.proofs.Checks.Table.{clear, fit}
use Rattle.method.proofs.Outcome.Refused.{accepted-outcome}
use Rattle.method.specs.Outcome.Reports.{settled_report, at_limit}
use Rattle.method.proofs.Outcome.Reports.{accepted-true, accepted-settled, accepted-quiet}
use Rattle.method.proofs.Outcome.Reports.{card-most}
use Rattle.method.proofs.Same.{accepted-agree}

-- the plain call asks less than the accumulating one
pub plain-accepts :
    (rows cols : ℕ) (s : Settings) (w : Work) → (refusal_of true rows cols s w).number ≡ 0 →
    (refusal_of false rows cols s (work w.matrix [] [])).number ≡ 0
plain-accepts rows cols s w e =
    let c = (clear true rows cols s w).0 e in
    (clear false rows cols s (work w.matrix [] [])).1
    record {
      sizes = c.sizes;
      lengths = (c.lengths.0, (λ q. false≢true q.0, (λ q. false≢true q.0, tt)));
      settings = c.settings;
      readings = c.readings;
    }

-- with U and V kept or not, an accepted run has the same report and the same matrix
pub calls_agree :
    (f : Format) (rows cols : ℕ) (s : Settings) (w : Work) →
    (refusal_of true rows cols s w).number ≡ 0 →
    ((full_outcome f rows cols s w).report ≡ (plain_outcome f rows cols s w.matrix).report)
    × ((full_outcome f rows cols s w).held.matrix ≡ (plain_outcome f rows cols s w.matrix).held.matrix)
calls_agree f rows cols s w e =
    rw (
      accepted-outcome f true rows cols s w e,
      accepted-outcome f false rows cols s (work w.matrix [] []) (plain-accepts rows cols s w e),
    )
    (accepted-agree f rows cols s w)

-- another allowed limit is not refused where this one is not
pub limit_accepts :
    (kept : Bool) (rows cols : ℕ) (s : Settings) (w : Work) (n : ℕ) → n ≤ most_limit →
    (refusal_of kept rows cols s w).number ≡ 0 →
    (refusal_of kept rows cols (at_limit n s) w).number ≡ 0
limit_accepts kept rows cols s w n h e =
    let c = (clear kept rows cols s w).0 e in
    (clear kept rows cols (at_limit n s) w).1
    record {
      sizes = c.sizes;
      lengths = c.lengths;
      settings = (low c.settings.0, c.settings.1);
      readings = c.readings;
    }
  where
    low :
        ((most_limit < s.limit) ⊎ (most_credit < s.credit) → ⊥) → (most_limit < n) ⊎ (most_credit < s.credit) → ⊥
    low k (inl l) = omega arith
    low k (inr l) = k (inr l)

-- a settled answer, U and V included, is the same answer at every greater allowed limit
pub settled_stays :
    (f : Format) (kept : Bool) (rows cols : ℕ) (s : Settings) (w : Work) (n : ℕ) →
    s.limit ≤ n →
    n ≤ most_limit →
    (refusal_of kept rows cols s w).number ≡ 0 →
    (outcome f kept rows cols s w).report.word ≡ settled →
    outcome f kept rows cols (at_limit n s) w ≡ outcome f kept rows cols s w
settled_stays f kept rows cols s w n h most e q =
    rw (
      accepted-outcome f kept rows cols (at_limit n s) w (limit_accepts kept rows cols s w n most e),
      accepted-outcome f kept rows cols s w e,
    )
    (accepted-settled f kept rows cols s w n h (rw (accepted-outcome f kept rows cols s w e) at q))

-- A quiet answer is not final: where every bound inside its corner is above zero, it settles at a greater allowed limit
-- by drops alone, one for each coupling inside, and table, U and V stay as they are.
pub quiet_settles :
    (f : Format) (kept : Bool) (rows cols : ℕ) (s : Settings) (w : Work) (n : ℕ) →
    let o = outcome f kept rows cols s w in
    let t = o.report.tally in
    s.limit < n →
    n ≤ most_limit →
    (s.credit ≡ 0 → s.limit + (t.range - 1) ≤ n) →
    (refusal_of kept rows cols s w).number ≡ 0 →
    o.report.word ≡ quiet →
    BoundsAbove f s.tolerance s.absolute cols t.range o.held.matrix →
    outcome f kept rows cols (at_limit n s) w ≡ outcome_of (settled_report (tally_down t)) o.held
quiet_settles f kept rows cols s w n more most room e q above =
    let k = fit kept rows cols s w e in
    let a = accepted-outcome f kept rows cols s w e in
    rw (accepted-outcome f kept rows cols (at_limit n s) w (limit_accepts kept rows cols s w n most e), a)
    (accepted-quiet f kept rows cols s w n k.rows_some k.cols_some more (rw a at room) (rw a at q) (rw a at above))

-- the passes of an accepted run are at most `most_passes`
pub passes_most_lem :
    (f : Format) (kept : Bool) (rows cols : ℕ) (s : Settings) (w : Work) →
    (refusal_of kept rows cols s w).number ≡ 0 →
    (outcome f kept rows cols s w).report.tally.passes ≤ most_passes
passes_most_lem f kept rows cols s w e =
    let k = fit kept rows cols s w e in
    rw (accepted-outcome f kept rows cols s w e)
    (le_trans (accepted-true f kept rows cols s w k.rows_some k.cols_some).few
    (enough-most (card-most rows cols k.rows_few k.cols_few) k.limit_low k.credit_low))

-- and its rotations at most `most_rotations`
pub rotations_few :
    (f : Format) (kept : Bool) (rows cols : ℕ) (s : Settings) (w : Work) →
    (refusal_of kept rows cols s w).number ≡ 0 →
    (outcome f kept rows cols s w).report.tally.rotations ≤ most_rotations
rotations_few f kept rows cols s w e =
    let k = fit kept rows cols s w e in
    let a = accepted-outcome f kept rows cols s w e in
    let t = accepted-true f kept rows cols s w k.rows_some k.cols_some in
    let passes = rw a at (passes_most_lem f kept rows cols s w e) in
    let c = card rows cols in
    let few : c ≤ most_size = card-most rows cols k.rows_few k.cols_few in
    let sweeps = (accepted f kept rows cols s w).report.tally.sweeps in
    let all : 2 * (c - 1) * sweeps ≤ 2 * (most_size - 1) * most_passes =
    mul-le-mul {n₁ = 2 * (c - 1)} {m₁ = sweeps} {n₂ = 2 * (most_size - 1)} {m₂ = most_passes} (omega arith)
    (omega (arith, t.each, passes)) in
    rw a (omega (arith, t.turns, all))
