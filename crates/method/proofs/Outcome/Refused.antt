-- The two ways out of a call: a refusal leaves every list as it was and reports itself alone, and without one the
-- outcome is the accepted run's. Assumes nothing.
use Rattle.std.specs.Prelude.{◌≡◌, Bool, true, false, ℕ, eqb}
use Rattle.std.proofs.Math.Path.{refl}
use Rattle.std.proofs.Common.{sym, ap, ◌∙◌, eqb-true, eq-eqb, ne_eqb}
use Rattle.std.specs.Float.{Format}
use Rattle.std.proofs.lemmas.Bool.{eqb-false}
use Rattle.method.specs.Work.{Work}
use Rattle.method.specs.Settings.{Settings}
use Rattle.method.specs.Checks.{Refusal, not_refused, checks, refusal_of}
use Rattle.method.proofs.Checks.First.{first-clear}
use Rattle.method.specs.Report.{refused}
use Rattle.method.specs.Outcome.{outcome_of, accepted, outcome}

module _ (f : Format) (kept : Bool) (rows cols : ℕ) (s : Settings) (w : Work) where
  -- a refusal leaves every list as it was, and carries its number, its place and the word `none` alone
  pub refused-outcome :
      ¬ ((refusal_of kept rows cols s w).number ≡ 0) →
      outcome f kept rows cols s w ≡ outcome_of (refused (refusal_of kept rows cols s w)) w
  unfolding outcome
  refused-outcome h = rw (ne_eqb (refusal_of kept rows cols s w).number 0 h, outcome)

  -- without a refusal the outcome is that of the accepted run
  pub accepted-outcome :
      (refusal_of kept rows cols s w).number ≡ 0 → outcome f kept rows cols s w ≡ accepted f kept rows cols s w
  unfolding outcome
  accepted-outcome e = rw (eq-eqb (refusal_of kept rows cols s w).number 0 e, outcome)

  -- an accepted run reports no refusal
  pub accepted-refusal : (accepted f kept rows cols s w).report.refusal ≡ not_refused
  unfolding accepted
  accepted-refusal = refl

  pub accepted-number : (accepted f kept rows cols s w).report.refusal.number ≡ 0
  accepted-number = ap (λ (r : Refusal). r.number) accepted-refusal

  -- what a call reports as its refusal is the first that applies, always
  pub outcome-refusal : (outcome f kept rows cols s w).report.refusal ≡ refusal_of kept rows cols s w
  outcome-refusal = go (eqb (refusal_of kept rows cols s w).number 0) refl
    where
      go :
          (b : Bool) → eqb (refusal_of kept rows cols s w).number 0 ≡ b →
          (outcome f kept rows cols s w).report.refusal ≡ refusal_of kept rows cols s w
      go true t =
          let e = eqb-true (refusal_of kept rows cols s w).number 0 t in
          rw (accepted-outcome e) (accepted-refusal ∙ sym (first-clear (checks kept rows cols s w) refl e))
      go false t = rw (refused-outcome (eqb-false (refusal_of kept rows cols s w).number 0 t))

  -- and so is its number
  pub outcome-number : (outcome f kept rows cols s w).report.refusal.number ≡ (refusal_of kept rows cols s w).number
  outcome-number = ap (λ (r : Refusal). r.number) outcome-refusal
