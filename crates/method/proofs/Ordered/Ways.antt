-- The ways out of the ordered call, and that what is not refused for what is lent is refused as the accumulating call
-- is. Assumes nothing.
use Rattle.std.specs.Prelude.{◌≡◌, refl, Bool, true, false, List, ◌++◌, ℕ, eqb, Float}
use Rattle.std.proofs.Common.{sym, ap, ◌∙◌, eqb-true, eq-eqb, ne_eqb}
use Rattle.std.specs.Float.{Format}
use Rattle.std.proofs.lemmas.Bool.{eqb-false}
use Rattle.method.specs.Work.{Work}
use Rattle.method.specs.Settings.{Settings}
use Rattle.method.specs.Checks.{Refusal, first_of, refusal_of}
use Rattle.method.specs.Checks.{table_checks, setting_checks, reading_checks}
use Rattle.method.proofs.Checks.First.{first-here, first-beyond}
use Rattle.method.specs.Report.{refused}
use Rattle.method.specs.Outcome.{Outcome, outcome_of, card, accepted}
use Rattle.method.specs.Order.{diagonal, old_position, values_by}
use Rattle.method.specs.Ordered.{ordered_of, lent_checks, list_checks, ordered_refusal, run_checks, moved_by}
use Rattle.method.specs.Ordered.{refused_after, put_in_order, ordered_outcome}

-- ---- before the run

module _ (rows cols : ℕ) (s : Settings) (w : Work) (l : List Float) where
  -- what is refused for what is lent is the refusal
  pub lent_refused :
      {r : Refusal} → r ≡ first_of (lent_checks rows cols w l) → ¬ (r.number ≡ 0) → r ≡ ordered_refusal rows cols s w l
  lent_refused e h =
      first-here (lent_checks rows cols w l) (setting_checks s ++ reading_checks rows cols w.matrix) refl e h

  -- where nothing is, sizes and lengths are fit, too,
  table-passed :
      (first_of (lent_checks rows cols w l)).number ≡ 0 →
      (first_of (table_checks true rows cols w)).number ≡ 0
  table-passed e = go (eqb (first_of (table_checks true rows cols w)).number 0) refl
    where
      go :
          (b : Bool) → eqb (first_of (table_checks true rows cols w)).number 0 ≡ b →
          (first_of (table_checks true rows cols w)).number ≡ 0
      go true t = eqb-true _ 0 t
      go false t =
          let h = eqb-false _ 0 t in
          let q =
          first-here (table_checks true rows cols w) (list_checks rows cols l) refl refl h in
          absurd (h (ap (λ (x : Refusal). x.number) q ∙ e))

  -- and the refusal is the accumulating call's
  pub lent_passed :
      {r : Refusal} → r ≡ first_of (lent_checks rows cols w l) → r.number ≡ 0 →
      ordered_refusal rows cols s w l ≡ refusal_of true rows cols s w
  lent_passed e z =
      let rest = setting_checks s ++ reading_checks rows cols w.matrix in
      sym (first-beyond (lent_checks rows cols w l) rest refl e z refl)
      ∙ first-beyond (table_checks true rows cols w) rest refl refl
      (table-passed (rw e at z)) refl

  -- ---- the ways out

  module _ (f : Format) where
    -- refused before the run: all lists as they were
    pub refused-before :
        ¬ ((ordered_refusal rows cols s w l).number ≡ 0) →
        ordered_outcome f rows cols s w l ≡ ordered_of (outcome_of (refused (ordered_refusal rows cols s w l)) w) l
    unfolding ordered_outcome
    refused-before h = rw (ne_eqb (ordered_refusal rows cols s w l).number 0 h, ordered_outcome)

    -- not refused: what the accumulating run leaves, put in order
    pub ran_on :
        (ordered_refusal rows cols s w l).number ≡ 0 →
        ordered_outcome f rows cols s w l ≡ put_in_order rows cols (accepted f true rows cols s w) l
    unfolding ordered_outcome
    ran_on e = rw (eq-eqb (ordered_refusal rows cols s w l).number 0 e, ordered_outcome)

module _ (rows cols : ℕ) (o : Outcome) (l : List Float) where
  -- the refusal after the run
  abbrev pub found_after : Refusal
  found_after = first_of (run_checks (card rows cols) (diagonal cols o.held.matrix) o.report.word)

  -- refused after it: report and lists are the run's
  pub refused-after :
      ¬ (found_after.number ≡ 0) →
      put_in_order rows cols o l ≡ ordered_of (outcome_of (refused_after found_after o.report) o.held) l
  unfolding put_in_order
  refused-after h = rw (ne_eqb found_after.number 0 h, put_in_order)

  -- not refused: in order
  pub put_in_order_lem :
      found_after.number ≡ 0 →
      put_in_order rows cols o l
      ≡ (let c = card rows cols in
      let d = diagonal cols o.held.matrix in
      ordered_of (outcome_of o.report (moved_by rows cols c d o.held)) (values_by c (old_position c d) d l))
  unfolding put_in_order
  put_in_order_lem e = rw (eq-eqb found_after.number 0 e, put_in_order)
